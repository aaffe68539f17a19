-- What the answers to a command of phase one that was received stand for.
use Rattle.std.specs.Prelude.{ℕ, List, Result, Ok, Err}
use Rattle.refusal.specs.Number.{number_of}
use Rattle.session.specs.Session.{session_of}
use Rattle.phase_one.specs.Commands.{word_said}
use Rattle.phase_one.specs.PhaseOne.{buffers_of}
use Rattle.conversation.specs.Receiving.{Taking, took, declined, Received}
use Rattle.session.specs.declared.output.Outcome.{Outcome as CodeOutcome}
use Rattle.refusal.specs.declared.Refusal.{Refusal}
use Rattle.plugin_receiving.specs.declared.receiving.Taken.{Taken as CodeTaken}

-- the code's answer
abbrev pub taking_said : Result CodeTaken Refusal → Taking
taking_said (Ok t) = took (word_said t.word) t.taken
taking_said (Err r) = declined (number_of r)

-- the answer and the session, with the slots and the four buffers afterwards
abbrev pub receipt_said : CodeOutcome CodeTaken → List (List ℕ) → List (List ℕ) → List ℕ → List ℕ → List ℕ → List ℕ → Received
receipt_said x xs hs r i k h = record { answer = taking_said x.answer; session = session_of x.session xs hs; buffers = buffers_of r i k h }
