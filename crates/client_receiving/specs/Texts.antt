-- What becomes of a text behind stanzas that were taken. Nobody has to believe this: it is what `chunked` and `replied` come to.
use Rattle.std.specs.Prelude.{ℕ, ◌≤◌, ◌≡◌, true, List, [], length, take}
use Rattle.refusal.specs.Output.{filled}
use Rattle.session.specs.Session.{session_of}
use Rattle.phase_one.specs.PhaseOne.{BuffersOne}
use Rattle.conversation.specs.PhaseTwo as two
use Rattle.conversation.specs.Kinds.{Buffers, buffers_of}
use Rattle.chunks.specs.Taking.{client, Taken, taken_text, behind}
use Rattle.chunks.specs.Chunks.{is_held}
use Rattle.intake.specs.Intake.{last_said}
use Rattle.intake.specs.Settling.{Says}
use Rattle.intake.specs.declared.answers.Received.{Received as CodeReceived}

-- all seven buffers, by those of phase one and the three that are lent
abbrev pub lent : BuffersOne → List ℕ → List ℕ → List ℕ → Buffers
lent b e s r = buffers_of b (two.buffers_of e s r)

-- a text behind the stanzas that an answer counts, with what was written for them at the front of the output buffer
abbrev pub behind_answer : CodeReceived → List (List ℕ) → List (List ℕ) → Buffers → List ℕ → List ℕ → List ℕ → Taken
behind_answer r xs hs b awaited text out =
    behind r.count (last_said r.last) (take r.written out) (taken_text client (session_of r.session xs hs) b awaited text)

-- it may be received: the answer counts at most one stanza, the input is long enough, and all of it has room
pub record MayTake (r : CodeReceived) (xs hs : List (List ℕ)) (e s d text input out : List ℕ) : Type 0 where
  pub few : r.count ≤ 1
  pub within : r.written ≤ length out
  pub long : 16384 ≤ length input
  pub held : (b : BuffersOne) → is_held (behind_answer r xs hs (lent b e s d) [] text out) out ≡ true

-- an answer says what was taken, and the output buffer has what was written
pub record Answers (r : CodeReceived) (xs hs : List (List ℕ)) (before after : List ℕ) (b : Buffers) (out out' : List ℕ) (t : Taken) : Type 0 where
  pub says : Says client r xs hs before after t.written b t
  pub size : r.written ≡ length t.written
  pub output : out' ≡ filled t.written out
