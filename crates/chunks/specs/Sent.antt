-- What an end's calls send to the other end, stanza by stanza (document 00, demand 2: "What is written reads back"; document 02, No. 1: in pieces of any length).
use Rattle.std.specs.Prelude.{ℕ, ◌≡◌, true, List, [], ◌∷◌, ◌++◌, map, eqb}
use Rattle.std.proofs.Math.Pow.{are_bytes}
use Rattle.refusal.specs.Pick.{pick}
use Rattle.stanza.specs.Grammar.{stanza_text}
use Rattle.responses.specs.Responses.{response_line}
use Rattle.session.specs.Session.{Session}
use Rattle.phase_one.specs.Commands as one
use Rattle.conversation.specs.Calls as one_call
use Rattle.conversation.specs.Calls.{Call, receive, send, receive_two, send_two, respond, outcome}
use Rattle.conversation.specs.CommandsTwo as two
use Rattle.conversation.specs.Kinds.{Buffers}
use Rattle.conversation.specs.Phases.{command_in}
use Rattle.conversation.specs.ReceivingTwo.{AtOnce, writes, silent, at_once}
use Rattle.chunks.specs.Taking.{End, client, plugin, Intake}
use Rattle.chunks.specs.Uncut.{chunk, reply}
use Rattle.chunks.specs.Reached.{AnyCall, piece, sends_one, sends_two, finishes, intake_after}
use Rattle.chunks.specs.AnyCalls.{buffers_after, written_at}

-- ---- the bytes

-- those that a call sends: all that the client writes; of what the plugin writes its commands, since a response's body is for its own host
abbrev pub sent_at : End → Intake → Buffers → AnyCall → List ℕ
sent_at client i b c = written_at client i b c
sent_at plugin i b (piece c) = []
sent_at plugin i b (sends_one word arguments body out) = written_at plugin i b (sends_one word arguments body out)
sent_at plugin i b (sends_two word arguments body out) = written_at plugin i b (sends_two word arguments body out)
sent_at plugin i b finishes = []

-- those of a list of calls, one behind the other
unfoldable pub sent_any : End → Intake → Buffers → List AnyCall → List ℕ
sent_any e i b [] = []
sent_any e i b (c ∷ cs) = sent_at e i b c ++ sent_any e (intake_after e i b c) (buffers_after e i b c) cs

-- a body that a host hands over is of bytes
abbrev pub OfBytes : AnyCall → Type 0
OfBytes (piece (chunk bytes out)) = Unit
OfBytes (piece (reply r body out)) = are_bytes body ≡ true
OfBytes (sends_one word arguments body out) = are_bytes body ≡ true
OfBytes (sends_two word arguments body out) = are_bytes body ≡ true
OfBytes finishes = Unit

-- ---- the stanzas

-- a stanza that is sent: its arguments' text and its body
pub record SentStanza : Type 0 where
  pub line : List ℕ
  pub body : List ℕ

-- its text
abbrev pub text_sent : SentStanza → List ℕ
text_sent x = stanza_text x.line x.body

-- what is answered at once
abbrev pub at_once_sent : AtOnce → List SentStanza
at_once_sent (writes r) = record { line = response_line r; body = [] } ∷ []
at_once_sent silent = []

-- what a call of one stanza sends where it is accepted: a command, a response
abbrev pub stanzas_by : Session → Call → List SentStanza
stanzas_by s (receive text) = []
stanzas_by s (send word arguments body out) = record { line = one.line_sent word arguments; body = body } ∷ []
stanzas_by s (receive_two text out) = at_once_sent (at_once s.screen (command_in s.machine text))
stanzas_by s (one_call.reply r body out) = record { line = response_line r; body = body } ∷ []
stanzas_by s (send_two word arguments body out) = record { line = two.line_sent word arguments; body = body } ∷ []
stanzas_by s (respond text out) = []

-- those of a list of calls, refused ones left out
unfoldable pub stanzas_sent : Session → Buffers → List Call → List SentStanza
stanzas_sent s b [] = []
stanzas_sent s b (c ∷ cs) = let o = outcome s b c in pick (eqb o.number 0) (stanzas_by s c) [] ++ stanzas_sent o.session o.buffers cs

-- their texts
abbrev pub texts_sent : Session → Buffers → List Call → List (List ℕ)
texts_sent s b cs = map text_sent (stanzas_sent s b cs)
