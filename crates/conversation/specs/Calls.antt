-- Calls of either end, and lists of calls: each call gets the session and the buffers as the one before left them, refused or not, and nobody else writes
-- there meanwhile (document 01, "Phase two", the paragraph on demand 3).
use Rattle.std.specs.Prelude.{ℕ, ◌+◌, ◌≡◌, Bool, true, false, List, [], ◌∷◌, ◌++◌, eqb, take, drop}
use Rattle.strict_base64.specs.Lines.{body_of}
use Rattle.refusal.specs.Output.{Answer, bytes, refused}
use Rattle.refusal.specs.Pick.{pick}
use Rattle.stanza.specs.Reading as reading
use Rattle.stanza.specs.Reading.{Reading, read_first}
use Rattle.responses.specs.declared.Response.{Response}
use Rattle.session.specs.declared.words.WordTwo.{WordTwo}
use Rattle.tables.specs.Tables.{Row}
use Rattle.phase_one.specs.Commands as one_command
use Rattle.phase_one.specs.Commands.{WordOne}
use Rattle.phase_one.specs.PhaseOne as one
use Rattle.session.specs.Phases.{closes}
use Rattle.phase_one.specs.Views as one_kind
use Rattle.conversation.specs.CommandsTwo as two_command
use Rattle.conversation.specs.Kinds.{AnyKind, first, second, Buffers, buffers_of}
use Rattle.conversation.specs.PhaseTwo as two
use Rattle.conversation.specs.Receiving as receiving
use Rattle.conversation.specs.Sending as sending
use Rattle.conversation.specs.ReceivingTwo as receiving_two
use Rattle.conversation.specs.Replying as replying
use Rattle.conversation.specs.SendingTwo as sending_two
use Rattle.conversation.specs.Responding as responding
use Rattle.session.specs.Session.{Session, closed}

-- Phase one: the plugin end receives a text; the client end sends a command with its arguments' text and its body. Phase two: the client end receives a text, and
-- its host replies with a response and its body; the plugin end sends a command, and receives the text of a response. A call that may write lends an output buffer.
pub data Call : Type 0 where
  receive : List ℕ → Call
  send : WordOne → List ℕ → List ℕ → List ℕ → Call
  receive_two : List ℕ → List ℕ → Call
  reply : Response → List ℕ → List ℕ → Call
  send_two : WordTwo → List ℕ → List ℕ → List ℕ → Call
  respond : List ℕ → List ℕ → Call

-- the client end's calls
abbrev pub is_client : Call → Bool
is_client (receive text) = false
is_client (send word arguments body out) = true
is_client (receive_two text out) = true
is_client (reply r body out) = true
is_client (send_two word arguments body out) = false
is_client (respond text out) = false

-- what an end gives back beside the number: of a command received in phase one, which it was and the bytes taken; in phase two, also the bytes written; of a
-- response, which it was, the bytes taken and its body's length; of a sending or a reply, the bytes written; of a refusal, nothing
pub data Given : Type 0 where
  command_one : WordOne → ℕ → Given
  given_command_two : WordTwo → ℕ → ℕ → Given
  response : Response → ℕ → ℕ → Given
  wrote : ℕ → Given
  nothing : Given

-- the number of a call, 0 where it is accepted, and what it gives back; the session, the buffers and the output buffer afterwards, and how many bytes were written there
pub record Outcome : Type 0 where
  pub number : ℕ
  pub given : Given
  pub session : Session
  pub buffers : Buffers
  pub output : List ℕ
  pub size : ℕ

-- what an answer says, the number and the bytes written: of a receiving in phase one
abbrev pub taking_number : receiving.Taking → ℕ
taking_number (receiving.took w k) = 0
taking_number (receiving.declined n) = n

-- of a sending or a reply
abbrev pub sent_number : Answer → ℕ
sent_number (bytes n) = 0
sent_number (refused n) = n

-- the bytes written by it
abbrev pub sent_size : Answer → ℕ
sent_size (bytes n) = n
sent_size (refused n) = 0

-- of a receiving in phase two
abbrev pub taking_two_number : receiving_two.Taking → ℕ
taking_two_number (receiving_two.took w k n) = 0
taking_two_number (receiving_two.declined n) = n

-- the bytes written by it
abbrev pub taking_two_size : receiving_two.Taking → ℕ
taking_two_size (receiving_two.took w k n) = n
taking_two_size (receiving_two.declined n) = 0

-- of a response
abbrev pub responded_number : responding.Answering → ℕ
responded_number (responding.took_response r k n) = 0
responded_number (responding.declined_response n) = n

-- the bytes written by it
abbrev pub responded_size : responding.Answering → ℕ
responded_size (responding.took_response r k n) = n
responded_size (responding.declined_response n) = 0

-- what it gives back: a receiving in phase one
abbrev pub taking_given : receiving.Taking → Given
taking_given (receiving.took w k) = command_one w k
taking_given (receiving.declined n) = nothing

-- a sending or a reply
abbrev pub sent_given : Answer → Given
sent_given (bytes n) = wrote n
sent_given (refused n) = nothing

-- a receiving in phase two
abbrev pub taking_two_given : receiving_two.Taking → Given
taking_two_given (receiving_two.took w k n) = given_command_two w k n
taking_two_given (receiving_two.declined n) = nothing

-- a response
abbrev pub responded_given : responding.Answering → Given
responded_given (responding.took_response r k n) = response r k n
responded_given (responding.declined_response n) = nothing

-- what each definition gives, as an outcome
abbrev pub received_outcome : two.BuffersTwo → receiving.Received → Outcome
received_outcome c r = record { number = taking_number r.answer; given = taking_given r.answer; session = r.session; buffers = buffers_of r.buffers c; output = []; size = 0 }

-- .. of a sending in phase one
abbrev pub sent_outcome : two.BuffersTwo → sending.Sent → Outcome
sent_outcome c r = record { number = sent_number r.answer; given = sent_given r.answer; session = r.session; buffers = buffers_of r.buffers c; output = r.output; size = sent_size r.answer }

-- .. of a receiving in phase two
abbrev pub received_two_outcome : one.BuffersOne → receiving_two.Received → Outcome
received_two_outcome b r = record { number = taking_two_number r.answer; given = taking_two_given r.answer; session = r.session; buffers = buffers_of b r.buffers; output = r.output; size = taking_two_size r.answer }

-- .. of a reply
abbrev pub replied_outcome : Buffers → replying.Replied → Outcome
replied_outcome b r = record { number = sent_number r.answer; given = sent_given r.answer; session = r.session; buffers = b; output = r.output; size = sent_size r.answer }

-- .. of a sending in phase two
abbrev pub sent_two_outcome : one.BuffersOne → sending_two.Sent → Outcome
sent_two_outcome b r = record { number = sent_number r.answer; given = sent_given r.answer; session = r.session; buffers = buffers_of b r.buffers; output = r.output; size = sent_size r.answer }

-- .. of a response
abbrev pub responded_outcome : Buffers → responding.Responded → Outcome
responded_outcome b r = record { number = responded_number r.answer; given = responded_given r.answer; session = r.session; buffers = b; output = r.output; size = responded_size r.answer }

-- a call: phase one's take the four buffers of phase one, phase two's the three of phase two
abbrev pub outcome : Session → Buffers → Call → Outcome
outcome s b (receive text) = received_outcome b.second (receiving.received s text b.first)
outcome s b (send word arguments body out) = sent_outcome b.second (sending.sent s word arguments body b.first out)
outcome s b (receive_two text out) = received_two_outcome b.first (receiving_two.received s text b.second out)
outcome s b (reply r body out) = replied_outcome b (replying.replied s r body out)
outcome s b (send_two word arguments body out) = sent_two_outcome b.first (sending_two.sent s word arguments body b.second out)
outcome s b (respond text out) = responded_outcome b (responding.responded s text out)

-- the output buffer that a call lends; the plugin end's receiving in phase one lends none
abbrev pub output_in : Call → List ℕ
output_in (receive text) = []
output_in (send word arguments body out) = out
output_in (receive_two text out) = out
output_in (reply r body out) = out
output_in (send_two word arguments body out) = out
output_in (respond text out) = out

-- the bytes that a call writes to its output buffer
abbrev pub written_by : Session → Buffers → Call → List ℕ
written_by s b c = let o = outcome s b c in take o.size o.output

-- the session after a refusal, by the call and its number: for what is received as the column "Session after" says; "At either end's sending, faults of its own
-- host's making leave the session as before"; "a host's unfit answer: as before"
abbrev pub session_after : Call → ℕ → Session → Session
session_after (receive text) n s = pick (closes n) (closed s) s
session_after (send word arguments body out) n s = s
session_after (receive_two text out) n s = pick (closes n) (closed s) s
session_after (reply r body out) n s = s
session_after (send_two word arguments body out) n s = s
session_after (respond text out) n s = pick (closes n) (closed s) s

-- a refused call's session, tables, buffers and output buffer; nothing is written
pub record Refused (s : Session) (b : Buffers) (c : Call) : Type 0 where
  pub session : (outcome s b c).session ≡ session_after c (outcome s b c).number s
  pub tables : (outcome s b c).session.tables ≡ s.tables
  pub buffers : (outcome s b c).buffers ≡ b
  pub output : (outcome s b c).output ≡ output_in c
  pub size : (outcome s b c).size ≡ 0

-- ---- lists of calls

-- what a call hands on to the next
pub record State : Type 0 where
  pub session : Session
  pub buffers : Buffers

-- the two together
abbrev pub state_of : Session → Buffers → State
state_of s b = record { session = s; buffers = b }

-- the session and the buffers behind a list of calls
unfoldable pub after : Session → Buffers → List Call → State
after s b [] = state_of s b
after s b (c ∷ cs) = let o = outcome s b c in after o.session o.buffers cs

-- the number of each call
unfoldable pub numbers : Session → Buffers → List Call → List ℕ
numbers s b [] = []
numbers s b (c ∷ cs) = let o = outcome s b c in o.number ∷ numbers o.session o.buffers cs

-- what each call writes
unfoldable pub written : Session → Buffers → List Call → List (List ℕ)
written s b [] = []
written s b (c ∷ cs) = let o = outcome s b c in written_by s b c ∷ written o.session o.buffers cs

-- ---- what a call says

-- the arguments' text of a text that begins with a stanza
abbrev pub line_read : Reading → List ℕ → List ℕ
line_read (reading.stanza e n k) text = drop 3 (take e text)
line_read (reading.refused n) text = []

-- its body
abbrev pub body_read : Reading → List ℕ → List ℕ
body_read (reading.stanza e n k) text = body_of (drop (e + 1) (take k text))
body_read (reading.refused n) text = []

-- the command of phase one that a call brings, by its arguments' text and its body; or the command of phase two; a reply or a response brings none
pub data Brought : Type 0 where
  in_one : List ℕ → List ℕ → Brought
  in_two : List ℕ → List ℕ → Brought
  no_command : Brought

-- of a call
abbrev pub brought_by : Call → Brought
brought_by (receive text) = in_one (line_read (read_first text) text) (body_read (read_first text) text)
brought_by (send word arguments body out) = in_one (one_command.line_sent word arguments) body
brought_by (receive_two text out) = in_two (line_read (read_first text) text) (body_read (read_first text) text)
brought_by (reply r body out) = no_command
brought_by (send_two word arguments body out) = in_two (two_command.line_sent word arguments) body
brought_by (respond text out) = no_command

-- the rows that a command of phase one makes in a kind's table
abbrev pub rows_one : Session → List ℕ → List ℕ → AnyKind → List Row
rows_one s line body (first k) = one_kind.rows_of (one.command_in s.machine s.name line body) k (one.payload_in s.machine s.name line body)
rows_one s line body (second k) = []

-- .. one of phase two
abbrev pub rows_two : Session → List ℕ → List ℕ → AnyKind → List Row
rows_two s line body (first k) = []
rows_two s line body (second k) = let c = two_command.command_two s.machine line body in two.rows_of c k (two_command.payload_of c line body)

-- .. a call's
abbrev pub rows_brought : Session → Brought → AnyKind → List Row
rows_brought s (in_one line body) k = rows_one s line body k
rows_brought s (in_two line body) k = rows_two s line body k
rows_brought s no_command k = []

-- the rows of a kind's table that a list's accepted commands of that kind make, in order
unfoldable pub accepted_rows : AnyKind → Session → Buffers → List Call → List Row
accepted_rows k s b [] = []
accepted_rows k s b (c ∷ cs) =
    let o = outcome s b c in
    pick (eqb o.number 0) (rows_brought s (brought_by c) k) [] ++ accepted_rows k o.session o.buffers cs

-- a list of calls is accepted when every call in it is
unfoldable pub AllZero : List ℕ → Type 0
AllZero [] = Unit
AllZero (n ∷ ns) = (n ≡ 0) × AllZero ns

-- of a list of calls from a session and buffers on
abbrev pub Accepted : Session → Buffers → List Call → Type 0
Accepted s b cs = AllZero (numbers s b cs)
