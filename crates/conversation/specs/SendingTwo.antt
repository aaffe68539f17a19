-- Phase two: the plugin end sends a command (document 01, "Numbers given back": "At either end's sending .. the order is 13, 14, 17, 4, 5, 6, 7, 9, 10, 11, 19, 8,
-- 15", and faults of its own host's making leave the session as before).
use Rattle.std.specs.Prelude.{ℕ, true, List, eqb, length}
use Rattle.refusal.specs.Output.{Answer, bytes, refused, filled}
use Rattle.refusal.specs.Pick.{pick}
use Rattle.stanza.specs.Grammar.{stanza_text}
use Rattle.stanza.specs.Writing.{is_writable}
use Rattle.session.specs.declared.words.WordTwo.{WordTwo}
use Rattle.refusal.specs.Verdict.{first_of}
use Rattle.session.specs.declared.phases.Phase.{Phase}
use Rattle.session.specs.declared.phases.Phase.TheVariants.{Two, Awaiting, Ended}
use Rattle.conversation.specs.CommandsTwo.{CommandTwo, ask, stanza, key, error, done, other, bad, command_two, word_of, payload_of, line_sent}
use Rattle.conversation.specs.PhaseTwo.{BuffersTwo, decided, applied, filled_by}
use Rattle.session.specs.Session.{Session, moved}
use Rattle.conversation.specs.Sending.{shortness}
use Rattle.conversation.specs.TurnsTwo.{turn_two}

-- the phase behind an accepted command: it awaits its response, but done has none
abbrev pub phase_sent : CommandTwo → Phase
phase_sent (ask w) = Awaiting (word_of (ask w))
phase_sent (stanza f) = Awaiting (word_of (stanza f))
phase_sent (key f) = Awaiting (word_of (key f))
phase_sent (error n) = Awaiting (word_of (error n))
phase_sent done = Ended
phase_sent other = Awaiting (word_of other)
phase_sent (bad n) = Two

-- how many bytes were written, or the number; the session, the three buffers and the output buffer afterwards
pub record Sent : Type 0 where
  pub answer : Answer
  pub session : Session
  pub buffers : BuffersTwo
  pub output : List ℕ

-- a refusal: everything stays
abbrev pub refused_sending : ℕ → Session → BuffersTwo → List ℕ → Sent
refused_sending n s b out = record { answer = refused n; session = s; buffers = b; output = out }

-- the number of a command, all but 15: No. 17, it makes no stanza; then as it is received, with 19 before 8
abbrev pub number_sent : Session → BuffersTwo → List ℕ → List ℕ → ℕ
number_sent s b line body =
    let c = command_two s.machine line body in
    pick (is_writable line body) (decided true s.tables b c (length (payload_of c line body))) 17

-- an arguments' text and a body: judged as the text that they make, before anything is written
unfoldable pub sent_line : Session → BuffersTwo → List ℕ → List ℕ → List ℕ → Sent
sent_line s b line body out =
    let c = command_two s.machine line body in
    let p = payload_of c line body in
    let text = stanza_text line body in
    let n = first_of (number_sent s b line body) (shortness text out) in
    pick (eqb n 0)
    (record { answer = bytes (length text); session = moved s (phase_sent c) (applied s.tables b c p); buffers = filled_by s.tables b c p; output = filled text out })
    (refused_sending n s b out)

-- a call: 13, 14, 17, 4, 5, 6, 9, 10, 11, 19, 8, 15
unfoldable pub sent : Session → WordTwo → List ℕ → List ℕ → BuffersTwo → List ℕ → Sent
sent s word arguments body b out =
    pick (eqb (turn_two s.phase) 0) (sent_line s b (line_sent word arguments) body out) (refused_sending (turn_two s.phase) s b out)
