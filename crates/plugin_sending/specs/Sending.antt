-- What the answers to a command that was sent stand for.
use Rattle.std.specs.Prelude.{ℕ, List}
use Rattle.refusal.specs.Output.{said}
use Rattle.session.specs.Session.{session_of}
use Rattle.conversation.specs.PhaseTwo.{buffers_of}
use Rattle.conversation.specs.SendingTwo.{Sent}
use Rattle.session.specs.declared.output.Outcome.{Outcome as CodeOutcome}

-- the answer and the session, with the slots, the three buffers and the output buffer afterwards
abbrev pub sent_said : CodeOutcome ℕ → List (List ℕ) → List (List ℕ) → List ℕ → List ℕ → List ℕ → List ℕ → Sent
sent_said x xs hs e s r out = record { answer = said x.answer; session = session_of x.session xs hs; buffers = buffers_of e s r; output = out }
