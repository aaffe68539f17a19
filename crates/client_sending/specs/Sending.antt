-- What the answers to a command that was sent stand for.
use Rattle.std.specs.Prelude.{ℕ, List}
use Rattle.refusal.specs.Output.{said}
use Rattle.session.specs.Session.{session_of}
use Rattle.phase_one.specs.PhaseOne.{buffers_of}
use Rattle.conversation.specs.Sending.{Sent}
use Rattle.session.specs.declared.output.Outcome.{Outcome as CodeOutcome}

-- the answer and the session, with the slots, the four buffers and the output buffer afterwards
abbrev pub sent_said : CodeOutcome ℕ → List (List ℕ) → List (List ℕ) → List ℕ → List ℕ → List ℕ → List ℕ → List ℕ → Sent
sent_said x xs hs r i k h out = record { answer = said x.answer; session = session_of x.session xs hs; buffers = buffers_of r i k h; output = out }
