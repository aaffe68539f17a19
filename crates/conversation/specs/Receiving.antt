-- Phase one received, at the plugin end (document 01, "Phase one" and "Numbers given back": 13, 14, 1 to 3, then 4, 5, 7, 20, 8; a refusal writes nothing).
use Rattle.std.specs.Prelude.{ℕ, ◌+◌, List, eqb, take, drop}
use Rattle.refusal.specs.Pick.{pick}
use Rattle.strict_base64.specs.Lines.{body_of}
use Rattle.stanza.specs.Reading.{Reading, stanza, refused, read_first}
use Rattle.phase_one.specs.Commands.{CommandOne, WordOne, word_of}
use Rattle.phase_one.specs.PhaseOne.{BuffersOne, command_in, number_one, tables_one, buffers_one}
use Rattle.phase_one.specs.Turns.{turn_one, phase_after}
use Rattle.session.specs.Phases.{closes}
use Rattle.session.specs.Session.{Session, moved, closed}

-- which command it was and how many bytes were taken; or the number
pub data Taking : Type 0 where
  took : WordOne → ℕ → Taking
  declined : ℕ → Taking

-- the answer to a command with the number n that took k bytes
abbrev pub answer_of : ℕ → CommandOne → ℕ → Taking
answer_of n c k = pick (eqb n 0) (took (word_of c) k) (declined n)

-- the answer, the session and the four buffers afterwards
pub record Received : Type 0 where
  pub answer : Taking
  pub session : Session
  pub buffers : BuffersOne

-- a refusal: the buffers stay, and the session too unless the number closes it
abbrev pub refused_receipt : ℕ → Session → BuffersOne → Received
refused_receipt n s b = record { answer = declined n; session = pick (closes n) (closed s) s; buffers = b }

-- a whole stanza of k bytes, by its arguments' text and its body
unfoldable pub received_stanza : Session → BuffersOne → List ℕ → List ℕ → ℕ → Received
received_stanza s b line body k =
    let n = number_one s.machine s.name s.tables b 0 line body in
    let c = command_in s.machine s.name line body in
    pick (eqb n 0)
    (record {
      answer = took (word_of c) k;
      session = moved s (phase_after c) (tables_one s.machine s.name s.tables b 0 line body);
      buffers = buffers_one s.machine s.name s.tables b 0 line body;
    })
    (refused_receipt n s b)

-- a text, by what it is read as
abbrev pub received_as : Reading → Session → List ℕ → BuffersOne → Received
received_as (stanza e n k) s text b = received_stanza s b (drop 3 (take e text)) (body_of (drop (e + 1) (take k text))) k
received_as (refused n) s text b = refused_receipt n s b

-- a call: 13 and 14 before the text is looked at
unfoldable pub received : Session → List ℕ → BuffersOne → Received
received s text b = pick (eqb (turn_one s.phase) 0) (received_as (read_first text) s text b) (refused_receipt (turn_one s.phase) s b)
