-- The commands of a chunk in phase one, one by one from the left.
use Rattle.std.specs.Prelude.{ℕ, ◌+◌, ◌≡◌, false, List, [], eqb, Some, None, Result, Ok, Err}
use Rattle.refusal.specs.Pick.{pick}
use Rattle.refusal.specs.Verdict.{verdict_said}
use Rattle.stanza.specs.Reading.{Reading, refused}
use Rattle.session.specs.Session.{session_of}
use Rattle.session.specs.declared.phases.Phase.{Phase}
use Rattle.session.specs.declared.sessions.Session.{Session as CodeSession}
use Rattle.phase_one.specs.Turns.{turn_one}
use Rattle.conversation.specs.Kinds.{Buffers}
use Rattle.chunks.specs.Taking.{plugin, client, Taken, no_more, emptied, behind, taken_text}
use Rattle.chunks.specs.Uncut.{is_waiting}
use Rattle.intake.specs.Intake.{last_said}
use Rattle.intake.specs.declared.answers.Last.TheVariants as the_last
use Rattle.intake.specs.declared.answers.Received.{Received as CodeReceived}
use Rattle.refusal.specs.declared.Refusal.{Refusal}
use Rattle.plugin_receiving.specs.declared.receiving.Taken.{Taken as CodeTaken}

-- a session's answer before its chunk
abbrev pub begun_by : CodeSession → CodeReceived
begun_by s = record { verdict = Ok tt; count = 0; last = None; written = 0; session = s }

-- the next command of a text that reads so: none behind a refusal n, nor in another phase
abbrev pub next_in : ℕ → Phase → Reading → Reading
next_in n p q = pick (eqb n 0) (pick (eqb (turn_one p) 0) q (refused (turn_one p))) (refused n)

-- an answer behind one command more
abbrev pub answer_behind : CodeReceived → Result CodeTaken Refusal → CodeSession → CodeReceived
answer_behind r (Ok t) s = record { verdict = Ok tt; count = r.count + 1; last = Some (the_last.CommandOne t.word); written = r.written; session = s }
answer_behind r (Err n) s = record { verdict = Err n; count = r.count; last = r.last; written = r.written; session = s }

-- what a text comes to behind the commands of an answer; nothing more is taken where the last was refused
abbrev pub comes_to : CodeReceived → List (List ℕ) → List (List ℕ) → Buffers → List ℕ → Taken
comes_to r xs hs b text =
    let n = verdict_said r.verdict in
    let s = session_of r.session xs hs in
    behind r.count (last_said r.last) [] (pick (eqb n 0) (taken_text plugin s b [] text) (no_more n (emptied s []) b))

-- no response is due
abbrev pub NoneDue : CodeReceived → Type 0
NoneDue r = verdict_said r.verdict ≡ 0 → is_waiting client r.session.phase ≡ false
