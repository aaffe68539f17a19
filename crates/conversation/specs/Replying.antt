-- Phase two: the client's host replies (document 01, "Phase two": "A host answer that isn't fitting gives 12 and the session waits on"; "For a host answer: 13, 14,
-- 12, 17, 15").
use Rattle.std.specs.Prelude.{ℕ, List, eqb, length}
use Rattle.refusal.specs.Output.{Answer, bytes, refused, filled}
use Rattle.refusal.specs.Pick.{pick}
use Rattle.stanza.specs.Grammar.{stanza_text}
use Rattle.stanza.specs.Writing.{is_writable}
use Rattle.responses.specs.Responses.{fits_whole, response_line}
use Rattle.responses.specs.declared.Response.{Response}
use Rattle.session.specs.declared.words.WordTwo.{WordTwo}
use Rattle.refusal.specs.Verdict.{first_of}
use Rattle.session.specs.Session.{Session}
use Rattle.conversation.specs.Sending.{shortness}
use Rattle.conversation.specs.TurnsTwo.{Due, due, undue, due_in, answered}

-- how many bytes were written, or the number; the session and the output buffer afterwards
pub record Replied : Type 0 where
  pub answer : Answer
  pub session : Session
  pub output : List ℕ

-- a refusal: everything stays
abbrev pub refused_reply : ℕ → Session → List ℕ → Replied
refused_reply n s out = record { answer = refused n; session = s; output = out }

-- No. 12, the response doesn't fit the command that awaits it; then No. 17, it cannot be written
abbrev pub number_replied : WordTwo → Response → List ℕ → ℕ
number_replied w r body = pick (fits_whole w r body) (pick (is_writable (response_line r) body) 0 17) 12

-- a reply to the command that awaits it; then 15
unfoldable pub replied_to : WordTwo → Session → Response → List ℕ → List ℕ → Replied
replied_to w s r body out =
    let text = stanza_text (response_line r) body in
    let n = first_of (number_replied w r body) (shortness text out) in
    pick (eqb n 0) (record { answer = bytes (length text); session = answered s; output = filled text out }) (refused_reply n s out)

-- by whether an answer is due: 13, 14, 12, 17, 15
abbrev pub replied_by : Due → Session → Response → List ℕ → List ℕ → Replied
replied_by (due w) s r body out = replied_to w s r body out
replied_by (undue n) s r body out = refused_reply n s out

-- a call
abbrev pub replied : Session → Response → List ℕ → List ℕ → Replied
replied s r body out = replied_by (due_in s.phase) s r body out
