-- Any calls of an end, one behind the other: chunks and replies, commands sent, the end of the input; and the calls of one stanza that they come to (document 02,
-- No. 1: "Commands before a fault in one piece stand, with their responses"). What is shown of lists of such calls is shown of any calls through them.
use Rattle.std.specs.Prelude.{ℕ, ◌≡◌, List, [], ◌∷◌, ◌++◌, eqb, take}
use Rattle.refusal.specs.Pick.{pick}
use Rattle.stanza.specs.Automaton.{start}
use Rattle.session.specs.Session.{Session}
use Rattle.session.specs.declared.phases.Phase.{Phase}
use Rattle.conversation.specs.Calls as one_call
use Rattle.conversation.specs.Calls.{Call, send, send_two, outcome, written_by}
use Rattle.conversation.specs.Kinds.{Buffers}
use Rattle.conversation.specs.TurnsTwo.{answered}
use Rattle.chunks.specs.Cutting.{Rest, unfinished, impossible, cut}
use Rattle.chunks.specs.Taking.{End, client, Turn, reads, drops, keeps_back, turn_at, ample, stanza_call, Intake, joined}
use Rattle.chunks.specs.Chunks.{finished}
use Rattle.chunks.specs.Uncut.{chunk, reply, outcome_of, State, is_unfit}
use Rattle.chunks.specs.Reached.{AnyCall, piece, sends_one, sends_two, finishes, intake_after}

-- ---- lists of any calls

-- the buffers behind a call
abbrev pub buffers_after : End → Intake → Buffers → AnyCall → Buffers
buffers_after e i b (piece c) = (outcome_of e i b c).buffers
buffers_after e i b (sends_one word arguments body out) = (outcome i.session b (send word arguments body out)).buffers
buffers_after e i b (sends_two word arguments body out) = (outcome i.session b (send_two word arguments body out)).buffers
buffers_after e i b finishes = b

-- its number
abbrev pub number_at : End → Intake → Buffers → AnyCall → ℕ
number_at e i b (piece c) = (outcome_of e i b c).number
number_at e i b (sends_one word arguments body out) = (outcome i.session b (send word arguments body out)).number
number_at e i b (sends_two word arguments body out) = (outcome i.session b (send_two word arguments body out)).number
number_at e i b finishes = finished i.session.phase

-- the bytes that it writes to its output buffer
abbrev pub written_at : End → Intake → Buffers → AnyCall → List ℕ
written_at e i b (piece c) = let o = outcome_of e i b c in take o.size o.output
written_at e i b (sends_one word arguments body out) = written_by i.session b (send word arguments body out)
written_at e i b (sends_two word arguments body out) = written_by i.session b (send_two word arguments body out)
written_at e i b finishes = []

-- what an end keeps and the buffers behind a list of calls, each lent the buffers as the one before left them
unfoldable pub after_any : End → Intake → Buffers → List AnyCall → State
after_any e i b [] = record { intake = i; buffers = b }
after_any e i b (c ∷ cs) = after_any e (intake_after e i b c) (buffers_after e i b c) cs

-- the number of each
unfoldable pub numbers_any : End → Intake → Buffers → List AnyCall → List ℕ
numbers_any e i b [] = []
numbers_any e i b (c ∷ cs) = number_at e i b c ∷ numbers_any e (intake_after e i b c) (buffers_after e i b c) cs

-- every call is in turn and has room for what it writes, and the input is not declared ended early: none is refused with 2, 13, 14 or 15
unfoldable pub InTurn : List ℕ → Type 0
InTurn [] = Unit
InTurn (n ∷ ns) = ((n ≡ 2 → ⊥) × (n ≡ 13 → ⊥) × (n ≡ 14 → ⊥) × (n ≡ 15 → ⊥)) × InTurn ns

-- what is written by all of them, one behind the other
unfoldable pub written_any : End → Intake → Buffers → List AnyCall → List ℕ
written_any e i b [] = []
written_any e i b (c ∷ cs) = written_at e i b c ++ written_any e (intake_after e i b c) (buffers_after e i b c) cs

-- ---- the calls of one stanza

-- for what stands behind the whole stanzas: bytes that no stanza begins with are refused, the front of an unfinished one waits for more
abbrev pub rest_calls : Turn → End → Phase → Rest → List Call
rest_calls reads e p (unfinished q front) = []
rest_calls reads e p (impossible n text) = stanza_call e p text ∷ []
rest_calls (drops n) e p r = []
rest_calls keeps_back e p r = []

-- for stanzas, by whose turn it is: bytes that are dropped or kept back are not received
abbrev pub turn_calls : Turn → List Call → List Call
turn_calls reads cs = cs
turn_calls (drops n) cs = []
turn_calls keeps_back cs = []

-- a call for each stanza, up to the one that is refused
unfoldable pub stanza_calls : End → Session → Buffers → List (List ℕ) → Rest → List Call
stanza_calls e s b [] r = rest_calls (turn_at e s.phase) e s.phase r
stanza_calls e s b (t ∷ ts) r =
    let c = stanza_call e s.phase t in
    let o = outcome s b c in
    turn_calls (turn_at e s.phase) (c ∷ pick (eqb o.number 0) (stanza_calls e o.session o.buffers ts r) [])

-- for a call: a chunk's stanzas, none where it is refused with 15; a reply that is taken, and the stanzas behind it that were kept back; a command sent
abbrev pub calls_in : End → Intake → Buffers → AnyCall → List Call
calls_in e i b (piece (chunk bytes out)) =
    let c = cut i.reading i.kept bytes in pick (eqb (outcome_of e i b (chunk bytes out)).number 15) [] (stanza_calls e i.session b c.texts c.rest)
calls_in e i b (piece (reply r body out)) =
    let c = cut start [] i.kept in
    pick (is_unfit (outcome_of e i b (reply r body out))) [] (one_call.reply r body ample ∷ stanza_calls client (answered i.session) b c.texts c.rest)
calls_in e i b (sends_one word arguments body out) = send word arguments body out ∷ []
calls_in e i b (sends_two word arguments body out) = send_two word arguments body out ∷ []
calls_in e i b finishes = []

-- for a list of calls
unfoldable pub calls_all : End → Intake → Buffers → List AnyCall → List Call
calls_all e i b [] = []
calls_all e i b (c ∷ cs) = calls_in e i b c ++ calls_all e (intake_after e i b c) (buffers_after e i b c) cs

-- calls of an end leave the session and the buffers that calls of one stanza leave, and write what those write, one behind the other
pub record ComesTo (e : End) (i : Intake) (b : Buffers) (cs : List AnyCall) (ds : List Call) : Type 0 where
  pub session : (after_any e i b cs).intake.session ≡ (one_call.after i.session b ds).session
  pub buffers : (after_any e i b cs).buffers ≡ (one_call.after i.session b ds).buffers
  pub output : written_any e i b cs ≡ joined (one_call.written i.session b ds) []
