-- What an end keeps, by the code's session and the lent bytes of its input; and what the code's answer to a chunk or a reply stands for.
use Rattle.std.specs.Prelude.{ℕ, min, List, ◌++◌, take, drop, Option, Some, None}
use Rattle.refusal.specs.Output.{filled}
use Rattle.refusal.specs.Pick.{pick}
use Rattle.refusal.specs.Verdict.{verdict_said}
use Rattle.stanza.specs.Resuming.{place_said}
use Rattle.responses.specs.Responses.{response_line}
use Rattle.session.specs.Session.{session_of}
use Rattle.session.specs.declared.sessions.Session.{Session as CodeSession}
use Rattle.phase_one.specs.Commands as one
use Rattle.conversation.specs.CommandsTwo as two
use Rattle.conversation.specs.Kinds.{Buffers}
use Rattle.chunks.specs.Taking.{End, Intake, Last, no_stanza, command, response, Taken}
use Rattle.chunks.specs.Chunks.{Outcome}
use Rattle.chunks.specs.Uncut.{is_waiting}
use Rattle.intake.specs.declared.answers.Last.{Last as CodeLast}
use Rattle.intake.specs.declared.answers.Last.TheVariants as the
use Rattle.intake.specs.declared.answers.Received.{Received as CodeReceived}

-- ---- what is kept

-- how many bytes the text has that waits for the host's reply, at the front of the input; a session that is made up may say more than a stanza has
abbrev pub awaited_size : End → CodeSession → ℕ
awaited_size e s = pick (is_waiting e s.phase) (min s.awaited 8192) 0

-- how many are kept behind it: of an unfinished stanza at most 8,191, of what was kept back 8,192
abbrev pub kept_size : End → CodeSession → ℕ
kept_size e s = min s.kept (pick (is_waiting e s.phase) 8192 8191)

-- the session with the slots and the lent input
abbrev pub intake_of : End → CodeSession → List (List ℕ) → List (List ℕ) → List ℕ → Intake
intake_of e s xs hs input = record {
  session = session_of s xs hs;
  reading = place_said s.reading;
  kept = take (kept_size e s) (drop (awaited_size e s) input);
  awaited = take (awaited_size e s) input;
}

-- the input afterwards: what waits and what is kept at its front, all else as it was
abbrev pub stored_in : Intake → List ℕ → List ℕ
stored_in i input = filled (i.awaited ++ i.kept) input

-- ---- what is answered

-- the last stanza, by its text
abbrev pub last_said : Option CodeLast → Last
last_said None = no_stanza
last_said (Some (the.CommandOne w)) = command (one.text_of_word (one.word_said w))
last_said (Some (the.CommandTwo w)) = command (two.text_of_word w)
last_said (Some (the.Response r)) = response (response_line r)

-- an answer, with the slots, the input, the buffers and the output buffer afterwards
abbrev pub received_said : End → CodeReceived → List (List ℕ) → List (List ℕ) → List ℕ → Buffers → List ℕ → Outcome
received_said e r xs hs input b out = record {
  number = verdict_said r.verdict;
  count = r.count;
  last = last_said r.last;
  size = r.written;
  intake = intake_of e r.session xs hs input;
  buffers = b;
  output = out;
}

-- the same with the bytes that were written, whatever the output buffer's length
abbrev pub taken_said : End → CodeReceived → List (List ℕ) → List (List ℕ) → List ℕ → List ℕ → Buffers → Taken
taken_said e r xs hs input written b = record {
  number = verdict_said r.verdict;
  count = r.count;
  last = last_said r.last;
  written = written;
  intake = intake_of e r.session xs hs input;
  buffers = b;
}
