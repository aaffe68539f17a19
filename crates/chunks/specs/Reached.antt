-- What an end keeps behind any calls from an opening (document 02, No. 1: "keep at most 8,192 bytes of an unfinished stanza").
use Rattle.std.specs.Prelude.{ℕ, ◌≤◌, ◌≡◌, Bool, true, false, List, [], ◌∷◌, length}
use Rattle.stanza.specs.Automaton.{State, start}
use Rattle.session.specs.Session.{Session}
use Rattle.session.specs.declared.words.WordTwo.{WordTwo}
use Rattle.session.specs.declared.phases.Phase.{Phase}
use Rattle.session.specs.declared.phases.Phase.TheVariants.{One, Two, Awaiting, Ended, Closed}
use Rattle.phase_one.specs.Commands.{WordOne}
use Rattle.conversation.specs.Calls.{send, send_two, outcome}
use Rattle.conversation.specs.Kinds.{Buffers}
use Rattle.chunks.specs.Cutting.{unfinished, cut}
use Rattle.chunks.specs.Taking.{End, client, plugin, Intake}
use Rattle.chunks.specs.Uncut.{Piece, outcome_of, is_waiting}

-- any call: a chunk or a reply; a command sent, the client's in phase one and the plugin's in phase two; the end of the input
pub data AnyCall : Type 0 where
  piece : Piece → AnyCall
  sends_one : WordOne → List ℕ → List ℕ → List ℕ → AnyCall
  sends_two : WordTwo → List ℕ → List ℕ → List ℕ → AnyCall
  finishes : AnyCall

-- the calls that an end has
abbrev pub Has : End → AnyCall → Type 0
Has client (piece c) = Unit
Has client (sends_one word arguments body out) = Unit
Has client (sends_two word arguments body out) = ⊥
Has client finishes = Unit
Has plugin (piece c) = Unit
Has plugin (sends_one word arguments body out) = ⊥
Has plugin (sends_two word arguments body out) = Unit
Has plugin finishes = Unit

-- the same with another session
abbrev pub with_session : Intake → Session → Intake
with_session i s = record { session = s; reading = i.reading; kept = i.kept; awaited = i.awaited }

-- what the end keeps behind it
abbrev pub intake_after : End → Intake → Buffers → AnyCall → Intake
intake_after e i b (piece c) = (outcome_of e i b c).intake
intake_after e i b (sends_one word arguments body out) = with_session i (outcome i.session b (send word arguments body out)).session
intake_after e i b (sends_two word arguments body out) = with_session i (outcome i.session b (send_two word arguments body out)).session
intake_after e i b finishes = i

-- a call with the buffers that it is lent
pub record AnyWith (e : End) : Type 0 where
  pub call : AnyCall
  pub has : Has e call
  pub buffers : Buffers

-- behind a list of calls, each lent buffers of any length and content
unfoldable pub intake_after_all : (e : End) → Intake → List (AnyWith e) → Intake
intake_after_all e i [] = i
intake_after_all e i (c ∷ cs) = intake_after_all e (intake_after e i c.buffers c.call) cs

-- the front of an unfinished stanza: every byte of it was read, and no stanza has ended
pub record IsFront (q : State) (bytes : List ℕ) : Type 0 where
  pub read : cut start [] bytes ≡ record { texts = []; rest = unfinished q bytes }
  pub short : length bytes ≤ 8191

-- what is kept: where nothing waits, the front of an unfinished stanza, read as far as is noted; else at most 8,192 bytes that were kept back
pub record Bounded (e : End) (i : Intake) : Type 0 where
  pub bound : length i.kept ≤ 8192
  pub front : (is_waiting e i.session.phase ≡ false) → IsFront i.reading i.kept

-- nothing is kept in the client's phase one, at the plugin end in phase two with nothing due, in a session that has ended and in a closed one
abbrev pub is_idle : End → Phase → Bool
is_idle client One = true
is_idle client Two = false
is_idle client (Awaiting w) = false
is_idle client Ended = true
is_idle client Closed = true
is_idle plugin One = false
is_idle plugin Two = true
is_idle plugin (Awaiting w) = false
is_idle plugin Ended = true
is_idle plugin Closed = true
