-- Lists of calls that have the shape of a phase, and of one that is cut before done, of themselves: no state, no decision. "A call takes the first stanza of its
-- text .. the rest waits for another call": a text here begins with a whole stanza, and what is said of it is said of that; nothing is said of what stands behind.
use Rattle.std.specs.Prelude.{ℕ, ◌+◌, ◌≡◌, Bool, true, false, List, [], ◌∷◌, ◌++◌, map, length}
use Rattle.stanza.specs.Reading.{stanza, read_first}
use Rattle.stanza.specs.Writing.{is_writable}
use Rattle.phase_one.specs.Views.{recipients, identities}
use Rattle.session.specs.declared.words.WordTwo.{WordTwo}
use Rattle.session.specs.declared.opening.Machine.{Machine}
use Rattle.session.specs.declared.phases.Phase.{Phase as SessionPhase}
use Rattle.session.specs.declared.phases.Phase.TheVariants.{Two, Awaiting}
use Rattle.session.specs.Session.{Session}
use Rattle.conversation.specs.Calls.{Call, after, Accepted}
use Rattle.conversation.specs.CommandsTwo.{ask, word_of}
use Rattle.conversation.specs.Kinds.{Buffers}
use Rattle.conversation.specs.PhaseTwo as two
use Rattle.conversation.specs.Phases.{All, is_done, command_in, two_part, Block, Phase, blocks_of, Supply, calls_of}
use Rattle.conversation.specs.Allowed.{Left, is_right_two, Present, total, Limits, said_by, RightBlock, Exchange, line_of, command_sent, said_in, Unheld, RightExchange, is_done_sent, sending_calls}

-- a list of calls is accepted, and leaves the session in this phase
abbrev pub AcceptedTo : SessionPhase → Session → Buffers → List Call → Type 0
AcceptedTo q s b cs = Accepted s b cs × ((after s b cs).session.phase ≡ q)

-- a text begins with a whole stanza
pub record BeginsWhole (t : List ℕ) : Type 0 where
  pub line : ℕ
  pub body : ℕ
  pub taken : ℕ
  pub read : read_first t ≡ stanza line body taken

-- ---- phase one at the plugin end: the texts received

-- cut before done: whole stanzas, none of them done
pub record FrontOne (ts : List (List ℕ)) : Type 0 where
  pub whole : All BeginsWhole ts
  pub none_done : All (λ t. is_done t ≡ false) ts

-- whole stanzas, done once and last
pub record ShapedOne (ts : List (List ℕ)) : Type 0 where
  pub ahead : List (List ℕ)
  pub last : List ℕ
  pub texts : ts ≡ ahead ++ (last ∷ [])
  pub whole : All BeginsWhole ts
  pub done_once : All (λ t. is_done t ≡ false) ahead
  pub done_last : is_done last ≡ true

-- ---- phase two at the client end

-- cut before done: the calls of blocks, each command with its replies directly behind it, none of them done
pub record FrontTwo (cs : List Call) : Type 0 where
  pub blocks : List Block
  pub outs : Supply
  pub calls : cs ≡ calls_of two_part outs blocks
  pub whole : All (λ x. BeginsWhole x.text) blocks
  pub none_done : All (λ x. is_done x.text ≡ false) blocks

-- the calls of blocks, done once and last
pub record ShapedTwo (cs : List Call) : Type 0 where
  pub phase : Phase
  pub outs : Supply
  pub calls : cs ≡ calls_of two_part outs (blocks_of phase)
  pub whole : All (λ x. BeginsWhole x.text) (blocks_of phase)
  pub done_once : All (λ x. is_done x.text ≡ false) phase.ahead
  pub done_last : is_done phase.last.text ≡ true

-- a block that still waits for its host's reply: msg, confirm or a request, where there is a screen
pub record WaitingBlock (machine : Machine) (screen : Bool) (w : WordTwo) (x : Block) : Type 0 where
  pub asks : command_in machine x.text ≡ ask w
  pub shown : screen ≡ true
  pub unanswered : x.replies ≡ []

-- each block is right by itself, and the session is in phase two; or the last still waits, and the session awaits the reply to it
pub data RightSoFar (machine : Machine) (screen : Bool) (left : Left) : SessionPhase → List Block → Type 0 where
  none_more : RightSoFar machine screen left Two []
  one_more : {q : SessionPhase} {x : Block} {xs : List Block} → RightBlock machine screen left x → RightSoFar machine screen left q xs → RightSoFar machine screen left q (x ∷ xs)
  last_waits : {w : WordTwo} {x : Block} → WaitingBlock machine screen w x → RightSoFar machine screen left (Awaiting w) (x ∷ [])

-- and together they keep the limits
pub record AllowedTwoSoFar (machine : Machine) (screen : Bool) (left : Left) (capacity : two.KindTwo → ℕ) (q : SessionPhase) (xs : List Block) : Type 0 where
  pub right : RightSoFar machine screen left q xs
  pub limits : Limits (length (left recipients) + length (left identities)) capacity (λ m. total m (map (said_by machine) xs))

-- ---- phase two at the plugin end

-- cut before done: the calls of exchanges, each sending with its responses directly behind it, none of them done
pub record FrontSent (cs : List Call) : Type 0 where
  pub exchanges : List Exchange
  pub outs : Supply
  pub calls : cs ≡ sending_calls outs exchanges
  pub none_done : All (λ x. is_done_sent x ≡ false) exchanges

-- the calls of exchanges, done once and last
pub record ShapedSent (cs : List Call) : Type 0 where
  pub ahead : List Exchange
  pub last : Exchange
  pub outs : Supply
  pub calls : cs ≡ sending_calls outs (ahead ++ (last ∷ []))
  pub done_once : All (λ x. is_done_sent x ≡ false) ahead
  pub done_last : is_done_sent last ≡ true

-- a sending that still awaits its response
pub record AwaitingExchange (machine : Machine) (left : Left) (x : Exchange) : Type 0 where
  pub writable : is_writable (line_of x) x.body ≡ true
  pub right : is_right_two (command_sent machine x) ≡ true
  pub present : Present left (command_sent machine x)
  pub unheld : Unheld left (command_sent machine x)
  pub unanswered : x.responses ≡ []

-- each exchange is right by itself, and the session is in phase two; or the last still awaits its response, and so does the session
pub data SentSoFar (machine : Machine) (left : Left) : SessionPhase → List Exchange → Type 0 where
  none_more : SentSoFar machine left Two []
  one_more : {q : SessionPhase} {x : Exchange} {xs : List Exchange} → RightExchange machine left x → SentSoFar machine left q xs → SentSoFar machine left q (x ∷ xs)
  last_awaits : {x : Exchange} → AwaitingExchange machine left x → SentSoFar machine left (Awaiting (word_of (command_sent machine x))) (x ∷ [])

-- and together they keep the limits; errors may still be owed
pub record AllowedSentSoFar (machine : Machine) (left : Left) (capacity : two.KindTwo → ℕ) (q : SessionPhase) (xs : List Exchange) : Type 0 where
  pub right : SentSoFar machine left q xs
  pub limits : Limits (length (left recipients) + length (left identities)) capacity (λ m. total m (map (said_in machine) xs))
