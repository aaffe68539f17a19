-- Phase two: the plugin end receives a response (document 01, "Phase two": it "gives back which it was and writes its decoded body to the output room").
use Rattle.std.specs.Prelude.{ℕ, ◌+◌, List, eqb, length, take, drop}
use Rattle.refusal.specs.Output.{filled}
use Rattle.refusal.specs.Pick.{pick}
use Rattle.strict_base64.specs.Lines.{body_of}
use Rattle.stanza.specs.Reading as reading
use Rattle.stanza.specs.Reading.{Reading, read_first}
use Rattle.responses.specs.Responses.{fits_whole, ResponseRead, response, nothing, response_of}
use Rattle.responses.specs.declared.Response.{Response}
use Rattle.session.specs.declared.words.WordTwo.{WordTwo}
use Rattle.refusal.specs.Verdict.{first_of}
use Rattle.session.specs.Phases.{closes}
use Rattle.session.specs.Session.{Session, closed}
use Rattle.conversation.specs.Sending.{shortness}
use Rattle.conversation.specs.TurnsTwo.{Due, due, undue, due_in, answered}

-- which response it was, how many bytes were taken and how many its body has, which is written; or the number
pub data Answering : Type 0 where
  took_response : Response → ℕ → ℕ → Answering
  declined_response : ℕ → Answering

-- the answer, the session and the output buffer afterwards
pub record Responded : Type 0 where
  pub answer : Answering
  pub session : Session
  pub output : List ℕ

-- a refusal: the output buffer stays, and the session too unless the number closes it
abbrev pub refused_response : ℕ → Session → List ℕ → Responded
refused_response n s out = record { answer = declined_response n; session = pick (closes n) (closed s) s; output = out }

-- a response to the command that awaits it: No. 12, it doesn't fit; then 15, its body is longer than the output buffer
unfoldable pub responded_as : WordTwo → Session → ResponseRead → List ℕ → ℕ → List ℕ → Responded
responded_as w s nothing body k out = refused_response 12 s out
responded_as w s (response r) body k out =
    let n = first_of (pick (fits_whole w r body) 0 12) (shortness body out) in
    pick (eqb n 0) (record { answer = took_response r k (length body); session = answered s; output = filled body out }) (refused_response n s out)

-- a text, by what it is read as: 1 to 3, then 12, 15
abbrev pub responded_text : Reading → WordTwo → Session → List ℕ → List ℕ → Responded
responded_text (reading.stanza e n k) w s text out = responded_as w s (response_of (drop 3 (take e text))) (body_of (drop (e + 1) (take k text))) k out
responded_text (reading.refused n) w s text out = refused_response n s out

-- by whether a response is due: 13, 14
abbrev pub responded_by : Due → Session → List ℕ → List ℕ → Responded
responded_by (due w) s text out = responded_text (read_first text) w s text out
responded_by (undue n) s text out = refused_response n s out

-- a call
abbrev pub responded : Session → List ℕ → List ℕ → Responded
responded s text out = responded_by (due_in s.phase) s text out
