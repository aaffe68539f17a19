-- A phase as a list of blocks, and two phases that are rearrangements of each other (document 01, the paragraph on demand 3). The phase is a parameter.
use Rattle.std.specs.Prelude.{ℕ, ◌+◌, ◌≤◌, ◌≡◌, Bool, true, false, not, ◌||◌, ◌↔◌, eqb, length}
use mathlib.Core.List.{List, [], ◌∷◌, ◌++◌, map, Permᴰ}
use Rattle.refusal.specs.Pick.{pick}
use Rattle.refusal.specs.Same.{same}
use Rattle.stanza.specs.Arguments.{argument_of}
use Rattle.stanza.specs.Grammar.{stanza_text}
use Rattle.stanza.specs.Reading.{stanza, read_first}
use Rattle.tables.specs.Tables.{Row}
use Rattle.responses.specs.Responses.{response_line}
use Rattle.responses.specs.declared.Response.{Response}
use Rattle.phase_one.specs.Commands as one_command
use Rattle.phase_one.specs.Commands.{WordOne, add_recipient, add_identity, wrap_file_key, recipient_stanza, done_command, other_word, word_in, done_word, line_sent}
use Rattle.phase_one.specs.PhaseOne as one
use Rattle.phase_one.specs.Views as one_kind
use Rattle.session.specs.declared.opening.Machine.{Machine}
use Rattle.conversation.specs.Calls.{Call, receive, send, receive_two, reply, send_two, respond, is_client, outcome, output_in, written_by, State, after, written, line_read, body_read, Accepted}
use Rattle.conversation.specs.CommandsTwo as two_command
use Rattle.conversation.specs.CommandsTwo.{CommandTwo}
use Rattle.conversation.specs.Kinds.{first, second, Buffers, view_of, of_file}
use Rattle.conversation.specs.PhaseTwo as two
use Rattle.conversation.specs.ReceivingTwo.{at_once, text_of}
use Rattle.session.specs.Session.{Session, opened_session, opened}

-- ---- lists

-- each member has a property
unfoldable pub All : {X : Type 0} → (X → Type 0) → List X → Type 0
All P [] = Unit
All P (x ∷ xs) = P x × All P xs

-- the members of which a test holds, in order
unfoldable pub keep : {X : Type 0} → (X → Bool) → List X → List X
keep test [] = []
keep test (x ∷ xs) = pick (test x) (x ∷ []) [] ++ keep test xs

-- ---- one text

-- a whole stanza, and nothing behind it ("A stanza is well-formed if 1 to 3 don't refuse it")
pub record Whole (t : List ℕ) : Type 0 where
  pub line : ℕ
  pub body : ℕ
  pub read : read_first t ≡ stanza line body (length t)

-- its arguments' text
abbrev pub line_in : List ℕ → List ℕ
line_in t = line_read (read_first t) t

-- its body
abbrev pub body_in : List ℕ → List ℕ
body_in t = body_read (read_first t) t

-- its command word
abbrev pub word_of : List ℕ → List ℕ
word_of t = argument_of (line_in t) 0

-- its command is done
abbrev pub is_done : List ℕ → Bool
is_done t = same (word_of t) done_word

-- ---- in phase one

-- "unknown if its command is neither done nor named for that machine in the phase's table"
abbrev pub is_named : WordOne → Bool
is_named add_recipient = true
is_named add_identity = true
is_named wrap_file_key = true
is_named recipient_stanza = true
is_named done_command = true
is_named other_word = false

-- its command, by the machine and the plugin's name
abbrev pub command_of : Machine → List ℕ → List ℕ → one_command.CommandOne
command_of machine name t = one.command_in machine name (line_in t) (body_in t)

-- the rows that it makes in a kind's table
abbrev pub rows_from : Machine → List ℕ → one_kind.KindOne → List ℕ → List Row
rows_from machine name k t = one_kind.rows_of (command_of machine name t) k (one.payload_in machine name (line_in t) (body_in t))

-- it is a command of a kind: 4 and 5 do not refuse it, and it makes an entry there
abbrev pub is_of : Machine → List ℕ → one_kind.KindOne → List ℕ → Bool
is_of machine name k t = eqb (length (rows_from machine name k t)) 1

-- ---- in phase two

-- the same of phase two's table
abbrev pub is_named_two : CommandTwo → Bool
is_named_two (two_command.ask w) = true
is_named_two (two_command.stanza f) = true
is_named_two (two_command.key f) = true
is_named_two (two_command.error n) = true
is_named_two two_command.done = true
is_named_two two_command.other = false
is_named_two (two_command.bad n) = true

-- its command
abbrev pub command_in : Machine → List ℕ → CommandTwo
command_in machine t = two_command.command_two machine (line_in t) (body_in t)

-- its payload
abbrev pub payload_in : Machine → List ℕ → List ℕ
payload_in machine t = two_command.payload_of (command_in machine t) (line_in t) (body_in t)

-- an error that parses
abbrev pub is_error : CommandTwo → Bool
is_error (two_command.ask w) = false
is_error (two_command.stanza f) = false
is_error (two_command.key f) = false
is_error (two_command.error n) = true
is_error two_command.done = false
is_error two_command.other = false
is_error (two_command.bad n) = false

-- a stanza for the file f
abbrev pub is_stanza_for : ℕ → CommandTwo → Bool
is_stanza_for f (two_command.ask w) = false
is_stanza_for f (two_command.stanza g) = eqb g f
is_stanza_for f (two_command.key g) = false
is_stanza_for f (two_command.error n) = false
is_stanza_for f two_command.done = false
is_stanza_for f two_command.other = false
is_stanza_for f (two_command.bad n) = false

-- ---- a phase

-- which phase: one is received by the plugin end, two by the client end
pub data Part : Type 0 where
  one_part : Part
  two_part : Part

-- a host's reply: the response and its body
pub record Reply : Type 0 where
  pub response : Response
  pub body : List ℕ

-- a text with the replies that stand directly behind it
pub record Block : Type 0 where
  pub text : List ℕ
  pub replies : List Reply

-- the blocks ahead of the last, and the last
pub record Phase : Type 0 where
  pub ahead : List Block
  pub last : Block

-- all of them
abbrev pub blocks_of : Phase → List Block
blocks_of p = p.ahead ++ (p.last ∷ [])

-- their texts
abbrev pub texts_of : Phase → List (List ℕ)
texts_of p = map (λ x. x.text) (blocks_of p)

-- the plugin end has no host that replies
abbrev pub Quiet : Part → Block → Type 0
Quiet one_part x = x.replies ≡ []
Quiet two_part x = Unit

-- whole well-formed stanzas, done once and last
pub record IsPhase (part : Part) (p : Phase) : Type 0 where
  pub whole : All (λ x. Whole x.text) (blocks_of p)
  pub quiet : All (Quiet part) (blocks_of p)
  pub done_once : All (λ x. is_done x.text ≡ false) p.ahead
  pub done_last : is_done p.last.text ≡ true

-- ---- the calls by which it is received

-- output buffers, one for each call
abbrev pub Supply : Type 0
Supply = ℕ → List ℕ

-- those behind the first n
abbrev pub skip : ℕ → Supply → Supply
skip n outs = λ i. outs (i + n)

-- a text's
abbrev pub text_call : Part → Supply → List ℕ → Call
text_call one_part outs t = receive t
text_call two_part outs t = receive_two t (outs 0)

-- its replies'
unfoldable pub reply_calls : Supply → List Reply → List Call
reply_calls outs [] = []
reply_calls outs (r ∷ rs) = reply r.response r.body (outs 0) ∷ reply_calls (skip 1 outs) rs

-- a block's
abbrev pub block_calls : Part → Supply → Block → List Call
block_calls part outs x = text_call part outs x.text ∷ reply_calls (skip 1 outs) x.replies

-- behind a block
abbrev pub behind : Supply → Block → Supply
behind outs x = skip (length x.replies) (skip 1 outs)

-- a list of blocks'
unfoldable pub calls_of : Part → Supply → List Block → List Call
calls_of part outs [] = []
calls_of part outs (x ∷ xs) = block_calls part outs x ++ calls_of part (behind outs x) xs

-- ---- what is written

-- the bytes that each call of each block writes
unfoldable pub written_in : Part → Session → Buffers → Supply → List Block → List (List (List ℕ))
written_in part s b outs [] = []
written_in part s b outs (x ∷ xs) =
    let cs = block_calls part outs x in
    let t = after s b cs in
    written s b cs ∷ written_in part t.session t.buffers (behind outs x) xs

-- one function of settings and block: what its calls write where they are accepted
abbrev pub responses_to : Part → Machine → Bool → Block → List (List ℕ)
responses_to one_part machine screen x = [] ∷ []
responses_to two_part machine screen x = text_of (at_once screen (command_in machine x.text)) ∷ map (λ r. stanza_text (response_line r.response) r.body) x.replies

-- the same call lent another output buffer
abbrev pub lending : List ℕ → Call → Call
lending big (receive text) = receive text
lending big (send word arguments body out) = send word arguments body big
lending big (receive_two text out) = receive_two text big
lending big (reply r body out) = reply r body big
lending big (send_two word arguments body out) = send_two word arguments body big
lending big (respond text out) = respond text big

-- "No output room is shorter than the response its call has to write": than what it would write to any other
unfoldable pub LongEnough : Session → Buffers → List Call → Type 0
LongEnough s b [] = Unit
LongEnough s b (c ∷ cs) =
    ((big : List ℕ) → length (written_by s b (lending big c)) ≤ length (output_in c)) × LongEnough (outcome s b c).session (outcome s b c).buffers cs

-- ---- the sessions that receive it

-- a call with the buffers that it is lent
pub record CallWith : Type 0 where
  pub call : Call
  pub buffers : Buffers

-- the session behind calls that are each lent buffers of any length and content
unfoldable pub after_each : Session → List CallWith → Session
after_each s [] = s
after_each s (c ∷ cs) = after_each (outcome s c.buffers c.call).session cs

-- a client session that has just sent done, whatever its calls before
pub record JustDone (s : Session) : Type 0 where
  pub machine : List ℕ
  pub name : List ℕ
  pub screen : Bool
  pub before : List CallWith
  pub client : All (λ c. is_client c.call ≡ true) before
  pub word : WordOne
  pub arguments : List ℕ
  pub body : List ℕ
  pub out : List ℕ
  pub buffers : Buffers
  pub is_done_command : one.command_in s.machine s.name (line_sent word arguments) body ≡ one_command.done
  pub accepted : (outcome (after_each (opened machine name screen).session before) buffers (send word arguments body out)).number ≡ 0
  pub reached : s ≡ (outcome (after_each (opened machine name screen).session before) buffers (send word arguments body out)).session

-- a plugin session that has just received done, whatever its calls before
pub record JustReceived (s : Session) : Type 0 where
  pub machine : List ℕ
  pub name : List ℕ
  pub before : List CallWith
  pub plugin : All (λ c. is_client c.call ≡ false) before
  pub text : List ℕ
  pub buffers : Buffers
  pub is_done_command : command_of s.machine s.name text ≡ one_command.done
  pub accepted : (outcome (after_each (opened machine name false).session before) buffers (receive text)).number ≡ 0
  pub reached : s ≡ (outcome (after_each (opened machine name false).session before) buffers (receive text)).session

-- "Phase one is heard by a session just opened, phase two by a client session that has just sent done"
abbrev pub Starts : Part → Session → Type 0
Starts one_part s = s ≡ opened_session s.machine s.name false
Starts two_part s = JustDone s

-- buffers of equal lengths, for the kinds of the phase
abbrev pub SameLengths : Part → Buffers → Buffers → Type 0
SameLengths one_part b c = (k : one_kind.KindOne) → length (one_kind.buffer_of k b.first) ≡ length (one_kind.buffer_of k c.first)
SameLengths two_part b c = (k : two.KindTwo) → length (two.buffer_of k b.second) ≡ length (two.buffer_of k c.second)

-- two sessions with their buffers from which two rearrangements are received: settings, views and lengths are equal
pub record SameStart (part : Part) (x y : State) : Type 0 where
  pub machine : x.session.machine ≡ y.session.machine
  pub name : x.session.name ≡ y.session.name
  pub screen : x.session.screen ≡ y.session.screen
  pub views : (k : one_kind.KindOne) → view_of (first k) x.session.tables x.buffers ≡ view_of (first k) y.session.tables y.buffers
  pub lengths : SameLengths part x.buffers y.buffers

-- ---- two phases

-- a known command, or one with replies; the others may be added or dropped
abbrev pub is_kept : Part → Machine → Block → Bool
is_kept one_part machine x = is_named (word_in machine (word_of x.text))
is_kept two_part machine x = is_named_two (command_in machine x.text) || not (eqb (length x.replies) 0)

-- what keeps its order: in phase one each kind, in phase two the errors, and of each file its stanzas
pub data Strand : Type 0 where
  of_kind : one_kind.KindOne → Strand
  of_errors : Strand
  of_one_file : ℕ → Strand

-- a block is of a strand: asked only among commands that parse
abbrev pub is_in : Part → Machine → List ℕ → Strand → Block → Bool
is_in one_part machine name (of_kind k) x = is_of machine name k x.text
is_in one_part machine name of_errors x = false
is_in one_part machine name (of_one_file f) x = false
is_in two_part machine name (of_kind k) x = false
is_in two_part machine name of_errors x = is_error (command_in machine x.text)
is_in two_part machine name (of_one_file f) x = is_stanza_for f (command_in machine x.text)

-- these blocks in any order ahead of done, each strand's own order kept
pub record Rearranged (part : Part) (machine : Machine) (name : List ℕ) (p q : Phase) : Type 0 where
  pub same_last : p.last ≡ q.last
  pub permuted : Permᴰ (keep (is_kept part machine) p.ahead) (keep (is_kept part machine) q.ahead)
  pub same_order : (k : Strand) → keep (is_in part machine name k) p.ahead ≡ keep (is_in part machine name k) q.ahead

-- equal tables, all seven; returned stanzas and keys file by file
pub record SameTables (x y : State) : Type 0 where
  pub views : (k : one_kind.KindOne) → view_of (first k) x.session.tables x.buffers ≡ view_of (first k) y.session.tables y.buffers
  pub errors : view_of (second two.errors) x.session.tables x.buffers ≡ view_of (second two.errors) y.session.tables y.buffers
  pub stanzas : (f : ℕ) → of_file f (view_of (second two.stanzas) x.session.tables x.buffers) ≡ of_file f (view_of (second two.stanzas) y.session.tables y.buffers)
  pub returned : (f : ℕ) → of_file f (view_of (second two.returned) x.session.tables x.buffers) ≡ of_file f (view_of (second two.returned) y.session.tables y.buffers)

-- what two rearrangements come to: both are accepted or both refused; and where they are accepted their tables are equal, and what each block's calls write is one
-- function of settings and block, so equal blocks are answered alike wherever they stand
pub record SameOutcome (part : Part) (x y : State) (p q : Phase) (outs outs' : Supply) : Type 0 where
  pub accepted : Accepted x.session x.buffers (calls_of part outs (blocks_of p)) ↔ Accepted y.session y.buffers (calls_of part outs' (blocks_of q))
  pub tables : Accepted x.session x.buffers (calls_of part outs (blocks_of p)) →
      SameTables (after x.session x.buffers (calls_of part outs (blocks_of p))) (after y.session y.buffers (calls_of part outs' (blocks_of q)))
  pub responses : Accepted x.session x.buffers (calls_of part outs (blocks_of p)) →
      (written_in part x.session x.buffers outs (blocks_of p) ≡ map (responses_to part x.session.machine x.session.screen) (blocks_of p))
      × (written_in part y.session y.buffers outs' (blocks_of q) ≡ map (responses_to part x.session.machine x.session.screen) (blocks_of q))
