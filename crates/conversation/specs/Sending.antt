-- Phase one sent, at the client end (document 01, "Numbers given back": "At either end's sending, faults of its own host's making leave the session as before;
-- the order is 13, 14, 17, 4, 5, 7, 8, 15"; document 02, No. 7: 20 between 7 and 8).
use Rattle.std.specs.Prelude.{ℕ, List, eqb, length}
use Rattle.refusal.specs.Output.{Answer, bytes, refused, overflows, filled}
use Rattle.refusal.specs.Pick.{pick}
use Rattle.stanza.specs.Grammar.{stanza_text}
use Rattle.stanza.specs.Writing.{is_writable}
use Rattle.phase_one.specs.Commands.{WordOne, line_sent}
use Rattle.phase_one.specs.PhaseOne.{BuffersOne, command_in, number_one, tables_one, buffers_one}
use Rattle.phase_one.specs.Turns.{turn_one, phase_after}
use Rattle.session.specs.Session.{Session, moved}

-- how many bytes were written, or the number; the session, the four buffers and the output buffer afterwards
pub record Sent : Type 0 where
  pub answer : Answer
  pub session : Session
  pub buffers : BuffersOne
  pub output : List ℕ

-- a refusal: everything stays
abbrev pub refused_sending : ℕ → Session → BuffersOne → List ℕ → Sent
refused_sending n s b out = record { answer = refused n; session = s; buffers = b; output = out }

-- No. 15, output longer than the buffer; else 0
abbrev pub shortness : List ℕ → List ℕ → ℕ
shortness text out = pick (overflows text out) 15 0

-- a stanza that can be written, by its arguments' text and its body: judged as the text that it makes, before anything is written
unfoldable pub sent_stanza : Session → BuffersOne → List ℕ → List ℕ → List ℕ → Sent
sent_stanza s b line body out =
    let late = shortness (stanza_text line body) out in
    let n = number_one s.machine s.name s.tables b late line body in
    pick (eqb n 0)
    (record {
      answer = bytes (length (stanza_text line body));
      session = moved s (phase_after (command_in s.machine s.name line body)) (tables_one s.machine s.name s.tables b late line body);
      buffers = buffers_one s.machine s.name s.tables b late line body;
      output = filled (stanza_text line body) out;
    })
    (refused_sending n s b out)

-- the arguments' text: No. 17 where it and the body make no stanza
abbrev pub sent_line : Session → BuffersOne → List ℕ → List ℕ → List ℕ → Sent
sent_line s b line body out = pick (is_writable line body) (sent_stanza s b line body out) (refused_sending 17 s b out)

-- a call: the command, its arguments' text, its body, the buffers and the output buffer
unfoldable pub sent : Session → WordOne → List ℕ → List ℕ → BuffersOne → List ℕ → Sent
sent s word arguments body b out =
    pick (eqb (turn_one s.phase) 0) (sent_line s b (line_sent word arguments) body out) (refused_sending (turn_one s.phase) s b out)
