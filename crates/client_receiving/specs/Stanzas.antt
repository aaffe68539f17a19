-- What the answer to one command of phase two stands for.
use Rattle.std.specs.Prelude.{ℕ, List}
use Rattle.session.specs.Session.{session_of}
use Rattle.conversation.specs.PhaseTwo.{buffers_of}
use Rattle.conversation.specs.ReceivingTwo.{Received}
use Rattle.client_room.specs.Stanzas.{taking_said}
use Rattle.session.specs.declared.output.Outcome.{Outcome as CodeOutcome}
use Rattle.client_room.specs.declared.stanzas.Taken.{Taken as CodeTaken}

-- the answer and the session, with the slots, the three buffers and the output buffer afterwards
abbrev pub step_said : CodeOutcome CodeTaken → List (List ℕ) → List (List ℕ) → List ℕ → List ℕ → List ℕ → List ℕ → Received
step_said x xs hs e s r out = record { answer = taking_said x.answer; session = session_of x.session xs hs; buffers = buffers_of e s r; output = out }
