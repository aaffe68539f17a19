-- Answers (document 00, demand 2: "Each phase-two command but done is answered exactly once if it is accepted and its phase ends"): what the accepted calls of a list
-- ask and answer, in order, at both ends.
use Rattle.std.specs.Prelude.{◌≡◌, true, List, [], ◌∷◌, ◌++◌, eqb}
use Rattle.refusal.specs.Pick.{pick}
use Rattle.stanza.specs.Reading.{read_first}
use Rattle.responses.specs.Responses.{fitting, ResponseRead, response, nothing, response_of}
use Rattle.responses.specs.declared.Response.{Response}
use Rattle.session.specs.declared.words.WordTwo.{WordTwo}
use Rattle.conversation.specs.Calls.{Call, receive, send, receive_two, reply, send_two, respond, outcome, line_read, body_read}
use Rattle.conversation.specs.CommandsTwo.{CommandTwo, ask, stanza, key, error, done, other, bad, command_two, word_of, line_sent}
use Rattle.conversation.specs.Kinds.{Buffers}
use Rattle.conversation.specs.ReceivingTwo.{AtOnce, writes, silent, at_once}
use Rattle.session.specs.Session.{Session}

-- a command of phase two other than done, accepted; or a response, written at the client end or accepted at the plugin end
pub data Event : Type 0 where
  asked : WordTwo → Event
  responded : Response → Event

-- what a command asks
abbrev pub asked_by : CommandTwo → List Event
asked_by (ask w) = asked (word_of (ask w)) ∷ []
asked_by (stanza f) = asked (word_of (stanza f)) ∷ []
asked_by (key f) = asked (word_of (key f)) ∷ []
asked_by (error n) = asked (word_of (error n)) ∷ []
asked_by done = []
asked_by other = asked (word_of other) ∷ []
asked_by (bad n) = []

-- what is answered at once
abbrev pub answered_by : AtOnce → List Event
answered_by (writes r) = responded r ∷ []
answered_by silent = []

-- a response that was read
abbrev pub responded_by : ResponseRead → List Event
responded_by (response r) = responded r ∷ []
responded_by nothing = []

-- what a call asks and answers where it is accepted; the calls of phase one do neither
abbrev pub events_of : Session → Call → List Event
events_of s (receive text) = []
events_of s (send word arguments body out) = []
events_of s (receive_two text out) =
    let c = command_two s.machine (line_read (read_first text) text) (body_read (read_first text) text) in asked_by c ++ answered_by (at_once s.screen c)
events_of s (reply r body out) = responded r ∷ []
events_of s (send_two word arguments body out) = asked_by (command_two s.machine (line_sent word arguments) body)
events_of s (respond text out) = responded_by (response_of (line_read (read_first text) text))

-- the events of a list of calls, refused ones left out
unfoldable pub events : Session → Buffers → List Call → List Event
events s b [] = []
events s b (c ∷ cs) = let o = outcome s b c in pick (eqb o.number 0) (events_of s c) [] ++ events o.session o.buffers cs

-- one to one and in order: each command has its response directly behind it, before the next command, and the response fits it
unfoldable pub Paired : List Event → Type 0
Paired [] = Unit
Paired (asked w ∷ []) = ⊥
Paired (asked w ∷ asked v ∷ es) = ⊥
Paired (asked w ∷ responded r ∷ es) = (fitting w r ≡ true) × Paired es
Paired (responded r ∷ es) = ⊥
