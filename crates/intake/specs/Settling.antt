-- What becomes of what stands behind the stanzas that were taken. Nobody has to believe this: the ends show it of their own calls.
use Rattle.std.specs.Prelude.{ℕ, ◌≤◌, ◌≡◌, List, [], length}
use Rattle.stanza.specs.Reading.{stanza, read_first}
use Rattle.session.specs.declared.phases.Phase.{Phase}
use Rattle.conversation.specs.Kinds.{Buffers}
use Rattle.chunks.specs.Taking.{End, Turn, reads, keeps_back, turn_at, Taken}
use Rattle.intake.specs.Intake.{intake_of, taken_said, stored_in}
use Rattle.intake.specs.declared.answers.Received.{Received as CodeReceived}

-- it may be settled: the turn is the phase's; a text waits only where bytes are kept back; what is read does not begin with a whole stanza; the input is long enough
pub record MaySettle (e : End) (p : Phase) (t : Turn) (awaited rest input : List ℕ) : Type 0 where
  pub turn : turn_at e p ≡ t
  pub none_waits : (t ≡ keeps_back → ⊥) → awaited ≡ []
  pub no_stanza : t ≡ reads → (l m k : ℕ) → read_first rest ≡ stanza l m k → ⊥
  pub short : t ≡ keeps_back → (length awaited ≤ 8192) × (length rest ≤ 8192) × (16384 ≤ length input)
  pub long : 8192 ≤ length input

-- an answer says what was taken, and the input has what the answer's session keeps
pub record Says (e : End) (r : CodeReceived) (xs hs : List (List ℕ)) (before after w : List ℕ) (b : Buffers) (t : Taken) : Type 0 where
  pub taken : taken_said e r xs hs after w b ≡ t
  pub input : after ≡ stored_in (intake_of e r.session xs hs after) before
