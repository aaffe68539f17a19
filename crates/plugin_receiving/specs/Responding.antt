-- What the answers to a response that was received stand for.
use Rattle.std.specs.Prelude.{ℕ, List, [], eqb, Result, Ok, Err}
use Rattle.refusal.specs.Number.{number_of}
use Rattle.refusal.specs.Pick.{pick}
use Rattle.responses.specs.Responses.{response_line}
use Rattle.session.specs.Session.{Session, session_of}
use Rattle.conversation.specs.Kinds.{Buffers}
use Rattle.chunks.specs.Taking.{Intake, no_stanza, response, emptied}
use Rattle.chunks.specs.Chunks.{Outcome, untaken}
use Rattle.conversation.specs.Responding.{Answering, took_response, declined_response, Responded}
use Rattle.refusal.specs.declared.Refusal.{Refusal}
use Rattle.plugin_receiving.specs.declared.responding.Answered.{Answered as CodeAnswered}
use Rattle.session.specs.declared.output.Outcome.{Outcome as CodeOutcome}

-- the code's answer
abbrev pub answering_said : Result CodeAnswered Refusal → Answering
answering_said (Ok a) = took_response a.response a.taken a.body
answering_said (Err r) = declined_response (number_of r)

-- the answer and the session, with the output buffer afterwards
abbrev pub responded_said : CodeOutcome CodeAnswered → List (List ℕ) → List (List ℕ) → List ℕ → Responded
responded_said x xs hs out = record { answer = answering_said x.answer; session = session_of x.session xs hs; output = out }

-- what a chunk comes to with a response, where so many bytes stand behind it: they are dropped; a refusal but for 15 drops what was kept
abbrev pub settled_as : Answering → Session → List ℕ → Intake → Buffers → ℕ → Outcome
settled_as (took_response r k n) s out i b left = record {
  number = pick (eqb left 0) 0 14;
  count = 1;
  last = response (response_line r);
  size = n;
  intake = emptied s [];
  buffers = b;
  output = out;
}
settled_as (declined_response n) s out i b left =
    pick (eqb n 15) (untaken n i b out) (record { number = n; count = 0; last = no_stanza; size = 0; intake = emptied s []; buffers = b; output = out })

abbrev pub settled_response : Responded → Intake → Buffers → ℕ → Outcome
settled_response r i b left = settled_as r.answer r.session r.output i b left
