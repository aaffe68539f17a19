-- Lists of chunks and replies, and the uncut list that each amounts to (document 02, No. 1: "However a conversation is cut .. responses, tables and the closing number
-- are those of the uncut one, which has a stanza to a call and each host answer directly behind its command").
use Rattle.std.specs.Prelude.{ℕ, ◌≡◌, Bool, true, false, ◌⊎◌, List, [], ◌∷◌, ◌++◌, map, eqb, length, take}
use Rattle.refusal.specs.Pick.{pick}
use Rattle.stanza.specs.Automaton.{start}
use Rattle.responses.specs.declared.Response.{Response}
use Rattle.session.specs.Phases.{closes, is_due}
use Rattle.session.specs.Session.{Session, closed}
use Rattle.session.specs.declared.phases.Phase.{Phase}
use Rattle.session.specs.declared.phases.Phase.TheVariants.{One, Two, Awaiting, Ended, Closed}
use Rattle.conversation.specs.Calls.{outcome, AllZero}
use Rattle.conversation.specs.Kinds.{Buffers}
use Rattle.conversation.specs.TurnsTwo.{answered}
use Rattle.chunks.specs.Cutting.{Rest, unfinished, bytes_of, cut}
use Rattle.chunks.specs.Taking.{End, client, plugin, Turn, reads, drops, keeps_back, turn_at, ample, stanza_call, Intake, emptied, joined}
use Rattle.chunks.specs.Chunks.{Outcome, untaken, chunked, replied}

-- ---- lists of calls

-- a chunk, or the host's reply with its body; each lends an output buffer
pub data Piece : Type 0 where
  chunk : List ℕ → List ℕ → Piece
  reply : Response → List ℕ → List ℕ → Piece

-- what a call does; the plugin end has no host that replies
abbrev pub outcome_of : End → Intake → Buffers → Piece → Outcome
outcome_of e i b (chunk bytes out) = chunked e i b bytes out
outcome_of client i b (reply r body out) = replied i b r body out
outcome_of plugin i b (reply r body out) = untaken 14 i b out

-- what a call hands on to the next
pub record State : Type 0 where
  pub intake : Intake
  pub buffers : Buffers

-- what an end keeps and the buffers behind a list of calls
unfoldable pub after : End → Intake → Buffers → List Piece → State
after e i b [] = record { intake = i; buffers = b }
after e i b (c ∷ cs) = let o = outcome_of e i b c in after e o.intake o.buffers cs

-- the number of each call
unfoldable pub numbers : End → Intake → Buffers → List Piece → List ℕ
numbers e i b [] = []
numbers e i b (c ∷ cs) = let o = outcome_of e i b c in o.number ∷ numbers e o.intake o.buffers cs

-- what is written by all of them, one behind the other
unfoldable pub written : End → Intake → Buffers → List Piece → List ℕ
written e i b [] = []
written e i b (c ∷ cs) = let o = outcome_of e i b c in take o.size o.output ++ written e o.intake o.buffers cs

-- a session is closed
abbrev pub is_closed : Phase → Bool
is_closed One = false
is_closed Two = false
is_closed (Awaiting w) = false
is_closed Ended = false
is_closed Closed = true

-- the closing number: that of the call behind which the session is closed, 0 where it never is
unfoldable pub closing : End → Intake → Buffers → List Piece → ℕ
closing e i b [] = 0
closing e i b (c ∷ cs) = let o = outcome_of e i b c in pick (is_closed o.intake.session.phase) o.number (closing e o.intake o.buffers cs)

-- no call is refused with 14 or 15
unfoldable pub NoneHeldUp : List ℕ → Type 0
NoneHeldUp [] = Unit
NoneHeldUp (n ∷ ns) = ((n ≡ 14 → ⊥) × (n ≡ 15 → ⊥)) × NoneHeldUp ns

-- a session has ended
abbrev pub is_ended : Phase → Bool
is_ended One = false
is_ended Two = false
is_ended (Awaiting w) = false
is_ended Ended = true
is_ended Closed = false

-- "whose last piece holds done's last byte": no call is made in a session that has ended
unfoldable pub NoneBehind : End → Intake → Buffers → List Piece → Type 0
NoneBehind e i b [] = Unit
NoneBehind e i b (c ∷ cs) = let o = outcome_of e i b c in (is_ended i.session.phase ≡ false) × NoneBehind e o.intake o.buffers cs

-- ---- the uncut list

-- of a text's stanzas, those that an end receives, the one that is refused among them; and the bytes that are left
pub record Parted : Type 0 where
  pub received : List (List ℕ)
  pub left : List ℕ

-- one stanza more
abbrev pub received_more : List ℕ → Parted → Parted
received_more t p = record { received = t ∷ p.received; left = p.left }

-- by whose turn it is
abbrev pub parted_by : Turn → List ℕ → Parted → Parted
parted_by reads bytes p = p
parted_by (drops n) bytes p = record { received = []; left = bytes }
parted_by keeps_back bytes p = record { received = []; left = bytes }

-- of stanzas and what stands behind them
unfoldable pub parted : End → Session → Buffers → List (List ℕ) → Rest → Parted
parted e s b [] r = record { received = []; left = bytes_of r }
parted e s b (t ∷ ts) r =
    let o = outcome s b (stanza_call e s.phase t) in
    parted_by (turn_at e s.phase) (t ++ joined ts (bytes_of r))
    (received_more t (pick (eqb o.number 0) (parted e o.session o.buffers ts r) (record { received = []; left = joined ts (bytes_of r) })))

-- a stanza in a chunk of its own
abbrev pub alone : List ℕ → Piece
alone t = chunk t ample

-- each stanza of a text in a chunk of its own, "a last unfinished or impossible rest in one more"
abbrev pub singles : List ℕ → List Piece
singles text = let c = cut start [] text in map alone c.texts ++ pick (eqb (length (bytes_of c.rest)) 0) [] (alone (bytes_of c.rest) ∷ [])

-- a session that has ended or is closed receives nothing more; the client's waits where its host's reply is due
abbrev pub is_over : Phase → Bool
is_over One = false
is_over Two = false
is_over (Awaiting w) = false
is_over Ended = true
is_over Closed = true

-- its host's reply is due
abbrev pub is_waiting : End → Phase → Bool
is_waiting client p = is_due p
is_waiting plugin p = false

-- a reply that was not taken: No. 12 or 17, the command waits on. One that was taken has written its response
abbrev pub is_unfit : Outcome → Bool
is_unfit o = eqb o.size 0

-- the stanzas received of a chunk
abbrev pub parted_chunk : End → Intake → Buffers → List ℕ → Parted
parted_chunk e i b bytes = let c = cut i.reading i.kept bytes in parted e i.session b c.texts c.rest

-- .. and of what was kept back
abbrev pub parted_back : Intake → Buffers → Parted
parted_back i b = let c = cut start [] i.kept in parted client (answered i.session) b c.texts c.rest

-- the calls of the uncut list, where `left` are the bytes that were not received yet: the stanzas of each chunk that are received; a reply made while a command
-- waits, and behind it the stanzas that are received of what was kept back; at the end what is left, but for what is still kept back
unfoldable pub uncut : End → Intake → Buffers → List ℕ → List Piece → List Piece
uncut e i b left [] = pick (is_waiting e i.session.phase) [] (singles left)
uncut e i b left (chunk bytes out ∷ cs) =
    let o = chunked e i b bytes out in
    let p = parted_chunk e i b bytes in
    pick (is_over i.session.phase) (uncut e i b (left ++ bytes) cs) (map alone p.received ++ uncut e o.intake o.buffers p.left cs)
uncut e i b left (reply r body out ∷ cs) =
    let o = outcome_of e i b (reply r body out) in
    let p = parted_back i b in
    pick (is_waiting e i.session.phase)
    (reply r body ample ∷ pick (is_unfit o) (uncut e o.intake o.buffers left cs) (map alone p.received ++ uncut e o.intake o.buffers p.left cs))
    (uncut e o.intake o.buffers left cs)

-- ---- that a list is uncut

-- the bytes of a list's chunks, joined
unfoldable pub text_in : List Piece → List ℕ
text_in [] = []
text_in (chunk bytes out ∷ cs) = bytes ++ text_in cs
text_in (reply r body out ∷ cs) = text_in cs

-- the stanzas in a list's chunks, in order
unfoldable pub stanzas_in : List Piece → List (List ℕ)
stanzas_in [] = []
stanzas_in (chunk bytes out ∷ cs) = (cut start [] bytes).texts ++ stanzas_in cs
stanzas_in (reply r body out ∷ cs) = stanzas_in cs

-- a call is a reply
abbrev pub is_reply : Piece → Bool
is_reply (chunk bytes out) = false
is_reply (reply r body out) = true

-- a reply that is made while a command waits: the text of that command, the response and its body
pub record HostReply : Type 0 where
  pub awaited : List ℕ
  pub response : Response
  pub body : List ℕ

-- that of a call
abbrev pub replies_by : End → Intake → Piece → List HostReply
replies_by e i (chunk bytes out) = []
replies_by e i (reply r body out) = pick (is_waiting e i.session.phase) (record { awaited = i.awaited; response = r; body = body } ∷ []) []

-- those of a list, in order
unfoldable pub replies_made : End → Intake → Buffers → List Piece → List HostReply
replies_made e i b [] = []
replies_made e i b (c ∷ cs) = let o = outcome_of e i b c in replies_by e i c ++ replies_made e o.intake o.buffers cs

-- each reply of a list is made while a command waits
unfoldable pub RepliesDue : End → Intake → Buffers → List Piece → Type 0
RepliesDue e i b [] = Unit
RepliesDue e i b (c ∷ cs) = let o = outcome_of e i b c in (is_reply c ≡ true → is_waiting e i.session.phase ≡ true) × RepliesDue e o.intake o.buffers cs

-- what is still kept back
abbrev pub kept_back : End → Intake → List ℕ
kept_back e i = pick (is_waiting e i.session.phase) i.kept []

-- a chunk is one whole stanza, with room for its answer; or it holds none and is the last call
abbrev pub IsSingle : List ℕ → List ℕ → List Piece → Type 0
IsSingle t out cs = (out ≡ ample) × ((cut start [] t ≡ record { texts = t ∷ []; rest = unfinished start [] }) ⊎ (((cut start [] t).texts ≡ []) × (cs ≡ [])))

-- every chunk of a list
unfoldable pub AreSingle : List Piece → Type 0
AreSingle [] = Unit
AreSingle (chunk t out ∷ cs) = IsSingle t out cs × AreSingle cs
AreSingle (reply r body out ∷ cs) = AreSingle cs

-- "each stanza of the joined chunks in a chunk of its own, a last unfinished or impossible rest in one more, and directly behind each waiting command exactly those
-- replies that were made while it waited; bytes that are still kept back at the end are left out"
pub record IsUncut (e : End) (s : Session) (b : Buffers) (us cs : List Piece) : Type 0 where
  pub same_text : text_in us ++ kept_back e (after e (emptied s []) b cs).intake ≡ text_in cs
  pub single : AreSingle us
  pub same_replies : replies_made e (emptied s []) b us ≡ replies_made e (emptied s []) b cs
  pub replies_due : RepliesDue e (emptied s []) b us

-- ---- what a list of chunks and replies comes to

-- the same as another: neither has a call refused with 14 or 15; "the outputs, joined in order, are the same bytes; and all seven tables with their contents, the
-- phase, the waiting command, the closing number are equal"
pub record SameRun (e : End) (s : Session) (b : Buffers) (us cs : List Piece) : Type 0 where
  pub none_held_up : NoneHeldUp (numbers e (emptied s []) b us)
  pub same_output : written e (emptied s []) b us ≡ written e (emptied s []) b cs
  pub same_session : (after e (emptied s []) b us).intake.session ≡ (after e (emptied s []) b cs).intake.session
  pub same_buffers : (after e (emptied s []) b us).buffers ≡ (after e (emptied s []) b cs).buffers
  pub same_awaited : (after e (emptied s []) b us).intake.awaited ≡ (after e (emptied s []) b cs).intake.awaited
  pub same_closing : closing e (emptied s []) b us ≡ closing e (emptied s []) b cs

-- a chunk and then another come to what both together in one chunk come to: "in state, and in output a's followed by b's"
pub record Together (first second whole : Outcome) : Type 0 where
  pub intake : second.intake ≡ whole.intake
  pub buffers : second.buffers ≡ whole.buffers
  pub output : take first.size first.output ++ take second.size second.output ≡ take whole.size whole.output

-- a call refused with a number other than 15, that took stanzas of its text by the calls xs before its fault: it "leaves tables, buffers and output as the calls
-- for the stanzas before the fault leave them, the session closed with that number or, for 13 and 14, as it was after them; the rest is dropped". The number is the
-- one that the fault has in a call of its own
pub record Prefix (e : End) (i : Intake) (b : Buffers) (text : List ℕ) (o : Outcome) (xs : List Piece) : Type 0 where
  pub number : (closes o.number ≡ true) ⊎ ((o.number ≡ 13) ⊎ (o.number ≡ 14))
  pub accepted : AllZero (numbers e (emptied i.session i.awaited) b xs)
  pub session : o.intake.session ≡ pick (closes o.number) (closed (after e (emptied i.session i.awaited) b xs).intake.session) (after e (emptied i.session i.awaited) b xs).intake.session
  pub tables : o.intake.session.tables ≡ (after e (emptied i.session i.awaited) b xs).intake.session.tables
  pub awaited : o.intake.awaited ≡ pick (closes o.number) [] (after e (emptied i.session i.awaited) b xs).intake.awaited
  pub buffers : o.buffers ≡ (after e (emptied i.session i.awaited) b xs).buffers
  pub output : take o.size o.output ≡ written e (emptied i.session i.awaited) b xs
  pub dropped : o.intake ≡ emptied o.intake.session o.intake.awaited
  pub fault : List ℕ
  pub later : List ℕ
  pub place : text_in xs ++ (fault ++ later) ≡ text
  pub refused : (let z = after e (emptied i.session i.awaited) b xs in (outcome_of e z.intake z.buffers (alone fault)).number ≡ o.number)
