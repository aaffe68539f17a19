-- Phase two: the client end receives a command (document 01, "Phase two": what is answered at once and what waits; "Numbers given back"). 15 comes last in
-- every order, and a refusal writes nothing.
use Rattle.std.specs.Prelude.{ℕ, ◌+◌, Bool, false, List, [], eqb, length, take, drop}
use Rattle.refusal.specs.Output.{filled}
use Rattle.refusal.specs.Pick.{pick}
use Rattle.strict_base64.specs.Lines.{body_of}
use Rattle.stanza.specs.Grammar.{stanza_text}
use Rattle.stanza.specs.Reading as reading
use Rattle.stanza.specs.Reading.{Reading, read_first}
use Rattle.responses.specs.Responses.{response_line}
use Rattle.responses.specs.declared.Response.{Response}
use Rattle.responses.specs.declared.Response.TheVariants.{Ok, Fail, Unsupported}
use Rattle.session.specs.declared.words.WordTwo.{WordTwo}
use Rattle.refusal.specs.Verdict.{first_of}
use Rattle.session.specs.Phases.{closes}
use Rattle.session.specs.declared.phases.Phase.{Phase}
use Rattle.session.specs.declared.phases.Phase.TheVariants.{Two, Awaiting, Ended}
use Rattle.conversation.specs.CommandsTwo.{CommandTwo, ask, stanza, key, error, done, other, bad, command_two, word_of, payload_of}
use Rattle.conversation.specs.PhaseTwo.{BuffersTwo, decided, applied, filled_by}
use Rattle.session.specs.Session.{Session, moved, closed}
use Rattle.conversation.specs.Sending.{shortness}
use Rattle.conversation.specs.TurnsTwo.{turn_two}

-- the response that the client writes at once, if any
pub data AtOnce : Type 0 where
  writes : Response → AtOnce
  silent : AtOnce

-- "The client answers the last four rows at once. For the others it waits for its host's answer; with no screen it answers fail at once"
abbrev pub at_once : Bool → CommandTwo → AtOnce
at_once screen (ask w) = pick screen silent (writes Fail)
at_once screen (stanza f) = writes Ok
at_once screen (key f) = writes Ok
at_once screen (error n) = writes Ok
at_once screen done = silent
at_once screen other = writes Unsupported
at_once screen (bad n) = silent

-- its text
abbrev pub text_of : AtOnce → List ℕ
text_of (writes r) = stanza_text (response_line r) []
text_of silent = []

-- the phase behind an accepted command
abbrev pub phase_received : Bool → CommandTwo → Phase
phase_received screen (ask w) = pick screen (Awaiting w) Two
phase_received screen (stanza f) = Two
phase_received screen (key f) = Two
phase_received screen (error n) = Two
phase_received screen done = Ended
phase_received screen other = Two
phase_received screen (bad n) = Two

-- which command it was, how many bytes were taken and how many written; or the number
pub data Taking : Type 0 where
  took : WordTwo → ℕ → ℕ → Taking
  declined : ℕ → Taking

-- the answer, the session, the three buffers and the output buffer afterwards
pub record Received : Type 0 where
  pub answer : Taking
  pub session : Session
  pub buffers : BuffersTwo
  pub output : List ℕ

-- a refusal: the buffers stay, and the session too unless the number closes it
abbrev pub refused_receipt : ℕ → Session → BuffersTwo → List ℕ → Received
refused_receipt n s b out = record { answer = declined n; session = pick (closes n) (closed s) s; buffers = b; output = out }

-- the number of a whole stanza, all but 15: by its arguments' text and its body
abbrev pub number_received : Session → BuffersTwo → List ℕ → List ℕ → ℕ
number_received s b line body = let c = command_two s.machine line body in decided false s.tables b c (length (payload_of c line body))

-- a whole stanza of k bytes
unfoldable pub received_stanza : Session → BuffersTwo → List ℕ → List ℕ → List ℕ → ℕ → Received
received_stanza s b out line body k =
    let c = command_two s.machine line body in
    let p = payload_of c line body in
    let text = text_of (at_once s.screen c) in
    let n = first_of (number_received s b line body) (shortness text out) in
    pick (eqb n 0)
    (record {
      answer = took (word_of c) k (length text);
      session = moved s (phase_received s.screen c) (applied s.tables b c p);
      buffers = filled_by s.tables b c p;
      output = filled text out;
    })
    (refused_receipt n s b out)

-- a text, by what it is read as
abbrev pub received_as : Reading → Session → List ℕ → BuffersTwo → List ℕ → Received
received_as (reading.stanza e n k) s text b out = received_stanza s b out (drop 3 (take e text)) (body_of (drop (e + 1) (take k text))) k
received_as (reading.refused n) s text b out = refused_receipt n s b out

-- a call: 13, 14, 1 to 3, then 4, 5, 6, 9, 10, 11, 8, 15
unfoldable pub received : Session → List ℕ → BuffersTwo → List ℕ → Received
received s text b out = pick (eqb (turn_two s.phase) 0) (received_as (read_first text) s text b out) (refused_receipt (turn_two s.phase) s b out)
