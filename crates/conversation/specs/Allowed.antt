-- Which transcripts are allowed, of themselves: no state, no decision, no call. Phase one; phase two as the client end receives it, commands with replies; phase
-- two as the plugin end speaks it, sendings with the responses received.
use Rattle.std.specs.Prelude.{ℕ, zero, suc, ◌+◌, ◌<◌, ◌≤◌, ◌≡◌, Bool, true, false, ◌⊎◌, List, [], ◌∷◌, ◌++◌, map, eqb, length}
use Rattle.refusal.specs.Pick.{pick}
use Rattle.refusal.specs.Same.{same}
use Rattle.tables.specs.Tables.{Row}
use Rattle.stanza.specs.Arguments.{argument_of}
use Rattle.stanza.specs.Writing.{is_writable}
use Rattle.responses.specs.Responses.{fits_whole, response_line, response, response_of}
use Rattle.responses.specs.declared.Response.{Response}
use Rattle.session.specs.declared.words.WordTwo.{WordTwo}
use Rattle.phase_one.specs.Commands.{CommandOne, bad, recipient, identity, key, header, done, other, done_word}
use Rattle.phase_one.specs.PhaseOne as one
use Rattle.phase_one.specs.Views as one_kind
use Rattle.phase_one.specs.Views.{recipients, identities, keys, headers}
use Rattle.session.specs.declared.opening.Machine.{Machine}
use Rattle.conversation.specs.Calls.{Call, send_two, respond, State}
use Rattle.conversation.specs.Kinds.{Buffers, of_file}
use Rattle.conversation.specs.CommandsTwo as two_command
use Rattle.conversation.specs.CommandsTwo.{CommandTwo, line_sent}
use Rattle.conversation.specs.PhaseTwo as two
use Rattle.conversation.specs.PhaseTwo.{errors, stanzas, returned}
use Rattle.conversation.specs.Phases.{All, line_in, body_in, command_of, rows_from, command_in, payload_in, is_stanza_for, Reply, Block, Supply, skip}

-- ---- phase one

-- 4 and 5: a known command, or done, with wrong arguments or body, or an index badly written
abbrev pub is_right : CommandOne → Bool
is_right (recipient m) = true
is_right (identity m) = true
is_right key = true
is_right (header i m) = true
is_right done = true
is_right other = true
is_right (bad n) = false

-- the rows of a kind that a list of texts makes
unfoldable pub rows_in : Machine → List ℕ → one_kind.KindOne → List (List ℕ) → List Row
rows_in machine name k [] = []
rows_in machine name k (t ∷ ts) = rows_from machine name k t ++ rows_in machine name k ts

-- "64 places each for recipients, identities and file keys, and 256 places for header stanzas"
abbrev pub slots_of : one_kind.KindOne → ℕ
slots_of recipients = 64
slots_of identities = 64
slots_of keys = 64
slots_of headers = 256

-- the payload bytes of rows
unfoldable pub bytes_of : List Row → ℕ
bytes_of [] = 0
bytes_of (r ∷ rs) = length r.payload + bytes_of rs

-- "Header stanza indices never fall"
unfoldable pub Rising : List Row → Type 0
Rising [] = Unit
Rising (r ∷ []) = Unit
Rising (r ∷ q ∷ rs) = (r.index ≤ q.index) × Rising (q ∷ rs)

-- "a second recipient whose text equals an earlier one is refused" (document 02, No. 7): no two rows have the same payload
unfoldable pub Distinct : List Row → Type 0
Distinct [] = Unit
Distinct (r ∷ rs) = All (λ q. r.payload ≡ q.payload → ⊥) rs × Distinct rs

-- each command is right, and each kind has its slots, its bytes and, for header stanzas, its order; no recipient's text is another's
pub record Allowed (machine : Machine) (name : List ℕ) (b : one.BuffersOne) (ts : List (List ℕ)) : Type 0 where
  pub right : All (λ t. is_right (command_of machine name t) ≡ true) ts
  pub slots : (k : one_kind.KindOne) → length (rows_in machine name k ts) ≤ slots_of k
  pub bytes : (k : one_kind.KindOne) → bytes_of (rows_in machine name k ts) ≤ length (one_kind.buffer_of k b)
  pub rising : Rising (rows_in machine name headers ts)
  pub distinct : Distinct (rows_in machine name recipients ts)

-- ---- phase two, commands: what phase one left is given as its rows, kind by kind

-- phase one's tables, as they are shown
abbrev pub Left : Type 0
Left = one_kind.KindOne → List Row

-- what phase one left, as its tables show it
abbrev pub left_of : State → Left
left_of x k = one_kind.view_of k x.session.tables x.buffers.first

-- the lengths of phase two's buffers
abbrev pub capacity_of : Buffers → two.KindTwo → ℕ
capacity_of b k = length (two.buffer_of k b.second)

-- the row of a number has a property
unfoldable pub RowAt : (Row → Type 0) → List Row → ℕ → Type 0
RowAt P [] i = ⊥
RowAt P (r ∷ rs) zero = P r
RowAt P (r ∷ rs) (suc i) = RowAt P rs i

-- 4 and 5
abbrev pub is_right_two : CommandTwo → Bool
is_right_two (two_command.ask w) = true
is_right_two (two_command.stanza f) = true
is_right_two (two_command.key f) = true
is_right_two (two_command.error n) = true
is_right_two two_command.done = true
is_right_two two_command.other = true
is_right_two (two_command.bad n) = false

-- 6: "the index is a file key's number"; "only for an index that phase one named"; what an error names is there, "i counts the header stanzas of file f from 0"
abbrev pub Present : Left → CommandTwo → Type 0
Present left (two_command.ask w) = Unit
Present left (two_command.stanza f) = f < length (left keys)
Present left (two_command.key f) = (i : ℕ) × RowAt (λ r. r.index ≡ f) (left headers) i
Present left (two_command.error two_command.internal) = Unit
Present left (two_command.error (two_command.identity i)) = i < length (left identities)
Present left (two_command.error (two_command.recipient i)) = i < length (left recipients)
Present left (two_command.error (two_command.header f i)) = i < length (of_file f (left headers))
Present left two_command.done = Unit
Present left two_command.other = Unit
Present left (two_command.bad n) = Unit

-- a key for the file f
abbrev pub is_key_for : ℕ → CommandTwo → Bool
is_key_for f (two_command.ask w) = false
is_key_for f (two_command.stanza g) = false
is_key_for f (two_command.key g) = eqb g f
is_key_for f (two_command.error n) = false
is_key_for f two_command.done = false
is_key_for f two_command.other = false
is_key_for f (two_command.bad n) = false

-- an error stanza f
abbrev pub is_error_for : ℕ → CommandTwo → Bool
is_error_for f (two_command.ask w) = false
is_error_for f (two_command.stanza g) = false
is_error_for f (two_command.key g) = false
is_error_for f (two_command.error two_command.internal) = false
is_error_for f (two_command.error (two_command.identity i)) = false
is_error_for f (two_command.error (two_command.recipient i)) = false
is_error_for f (two_command.error (two_command.header g i)) = eqb g f
is_error_for f two_command.done = false
is_error_for f two_command.other = false
is_error_for f (two_command.bad n) = false

-- a command of a kind
abbrev pub is_kind : two.KindTwo → CommandTwo → Bool
is_kind k (two_command.ask w) = false
is_kind errors (two_command.stanza f) = false
is_kind stanzas (two_command.stanza f) = true
is_kind returned (two_command.stanza f) = false
is_kind errors (two_command.key f) = false
is_kind stanzas (two_command.key f) = false
is_kind returned (two_command.key f) = true
is_kind errors (two_command.error n) = true
is_kind stanzas (two_command.error n) = false
is_kind returned (two_command.error n) = false
is_kind k two_command.done = false
is_kind k two_command.other = false
is_kind k (two_command.bad n) = false

-- a command with its payload
pub record Said : Type 0 where
  pub command : CommandTwo
  pub payload : List ℕ

-- what is summed over the commands of a phase
pub data Sum : Type 0 where
  keys_for : ℕ → Sum
  stanzas_for_file : ℕ → Sum
  errors_for : ℕ → Sum
  entries : two.KindTwo → Sum
  bytes : two.KindTwo → Sum

-- what one command adds to it
abbrev pub weight : Sum → Said → ℕ
weight (keys_for f) c = pick (is_key_for f c.command) 1 0
weight (stanzas_for_file f) c = pick (is_stanza_for f c.command) 1 0
weight (errors_for f) c = pick (is_error_for f c.command) 1 0
weight (entries k) c = pick (is_kind k c.command) 1 0
weight (bytes k) c = pick (is_kind k c.command) (length c.payload) 0

-- over all of them
unfoldable pub total : Sum → List Said → ℕ
total m [] = 0
total m (c ∷ cs) = weight m c + total m cs

-- "384, 256 and 256 places"
abbrev pub slots_two : two.KindTwo → ℕ
slots_two errors = 384
slots_two stanzas = 256
slots_two returned = 256

-- the rules between commands, over the sums alone; `most` is how many recipients and identities there are
pub record Limits (most : ℕ) (capacity : two.KindTwo → ℕ) (n : Sum → ℕ) : Type 0 where
  -- "one key per file at most"
  pub once : (f : ℕ) → n (keys_for f) ≤ 1
  -- "a file gets at most as many stanzas as there are recipients and identities together"
  pub few : (f : ℕ) → n (stanzas_for_file f) ≤ most
  -- "errors and stanzas don't both occur"
  pub apart : (n (entries errors) ≡ 0) ⊎ (n (entries stanzas) ≡ 0)
  -- "error stanza f and file-key f don't both occur"
  pub apart_file : (f : ℕ) → (n (errors_for f) ≡ 0) ⊎ (n (keys_for f) ≡ 0)
  -- each kind has its slots, and its payloads fit its buffer
  pub slots : (k : two.KindTwo) → n (entries k) ≤ slots_two k
  pub bytes_fit : (k : two.KindTwo) → n (bytes k) ≤ capacity k

-- ---- phase two at the client end

-- what a block says
abbrev pub said_by : Machine → Block → Said
said_by machine x = record { command = command_in machine x.text; payload = payload_in machine x.text }

-- exactly one reply that fits and can be written
abbrev pub OneReply : WordTwo → List Reply → Type 0
OneReply w [] = ⊥
OneReply w (r ∷ []) = (fits_whole w r.response r.body ≡ true) × (is_writable (response_line r.response) r.body ≡ true)
OneReply w (r ∷ q ∷ rs) = ⊥

-- msg, confirm and a request wait where there is a screen
abbrev pub AnsweredAsk : Bool → WordTwo → List Reply → Type 0
AnsweredAsk true w rs = OneReply w rs
AnsweredAsk false w rs = rs ≡ []

-- a command that waits has one, any other none
abbrev pub Answered : Bool → CommandTwo → List Reply → Type 0
Answered screen (two_command.ask w) rs = AnsweredAsk screen w rs
Answered screen (two_command.stanza f) rs = rs ≡ []
Answered screen (two_command.key f) rs = rs ≡ []
Answered screen (two_command.error n) rs = rs ≡ []
Answered screen two_command.done rs = rs ≡ []
Answered screen two_command.other rs = rs ≡ []
Answered screen (two_command.bad n) rs = rs ≡ []

-- one block by itself
pub record RightBlock (machine : Machine) (screen : Bool) (left : Left) (x : Block) : Type 0 where
  pub right : is_right_two (command_in machine x.text) ≡ true
  pub present : Present left (command_in machine x.text)
  pub answered : Answered screen (command_in machine x.text) x.replies

-- each block is right by itself, and together they keep the limits
pub record AllowedTwo (machine : Machine) (screen : Bool) (left : Left) (capacity : two.KindTwo → ℕ) (xs : List Block) : Type 0 where
  pub right : All (RightBlock machine screen left) xs
  pub limits : Limits (length (left recipients) + length (left identities)) capacity (λ m. total m (map (said_by machine) xs))

-- ---- phase two at the plugin end

-- a sending with the texts received behind it
pub record Exchange : Type 0 where
  pub word : WordTwo
  pub arguments : List ℕ
  pub body : List ℕ
  pub responses : List (List ℕ)

-- the arguments' text that is sent
abbrev pub line_of : Exchange → List ℕ
line_of x = line_sent x.word x.arguments

-- the command that it is
abbrev pub command_sent : Machine → Exchange → CommandTwo
command_sent machine x = two_command.command_two machine (line_of x) x.body

-- what it says
abbrev pub said_in : Machine → Exchange → Said
said_in machine x = record { command = command_sent machine x; payload = two_command.payload_of (command_sent machine x) (line_of x) x.body }

-- exactly one text, a response that fits
abbrev pub OneResponse : WordTwo → List (List ℕ) → Type 0
OneResponse w [] = ⊥
OneResponse w (t ∷ []) = (r : Response) × (response_of (line_in t) ≡ response r) × (fits_whole w r (body_in t) ≡ true)
OneResponse w (t ∷ u ∷ ts) = ⊥

-- each command but done has one
abbrev pub Responded : CommandTwo → List (List ℕ) → Type 0
Responded (two_command.ask w) ts = OneResponse (two_command.word_of (two_command.ask w)) ts
Responded (two_command.stanza f) ts = OneResponse (two_command.word_of (two_command.stanza f)) ts
Responded (two_command.key f) ts = OneResponse (two_command.word_of (two_command.key f)) ts
Responded (two_command.error n) ts = OneResponse (two_command.word_of (two_command.error n)) ts
Responded two_command.done ts = ts ≡ []
Responded two_command.other ts = OneResponse (two_command.word_of two_command.other) ts
Responded (two_command.bad n) ts = ⊥

-- "while any recipient or identity is unsound it sends no stanza and no key"
abbrev pub NoneInvalid : Left → Type 0
NoneInvalid left = All (λ r. r.mark ≡ 0) (left recipients) × All (λ r. r.mark ≡ 0) (left identities)

-- "it sends no key for a file with a faulty fido2-hmac stanza"; "sends no error stanza" for an unknown one
abbrev pub Unheld : Left → CommandTwo → Type 0
Unheld left (two_command.ask w) = Unit
Unheld left (two_command.stanza f) = NoneInvalid left
Unheld left (two_command.key f) = NoneInvalid left × All (λ r. r.mark ≡ 1 → r.index ≡ f → ⊥) (left headers)
Unheld left (two_command.error two_command.internal) = Unit
Unheld left (two_command.error (two_command.identity i)) = Unit
Unheld left (two_command.error (two_command.recipient i)) = Unit
Unheld left (two_command.error (two_command.header f i)) = RowAt (λ r. r.mark ≡ 2 → ⊥) (of_file f (left headers)) i
Unheld left two_command.done = Unit
Unheld left two_command.other = Unit
Unheld left (two_command.bad n) = Unit

-- one of the commands has a property
unfoldable pub Some : (CommandTwo → Type 0) → List Said → Type 0
Some P [] = ⊥
Some P (c ∷ cs) = P c.command ⊎ Some P cs

-- each row that owes an error has had it; the first of them has the number n
unfoldable pub Reported : (Row → Type 0) → (ℕ → CommandTwo → Type 0) → ℕ → List Row → List Said → Type 0
Reported Owes Names n [] cs = Unit
Reported Owes Names n (r ∷ rs) cs = (Owes r → Some (Names n) cs) × Reported Owes Names (n + 1) rs cs

-- "It sends done only after each unsound entry and each faulty stanza has had its error"
pub record AllReported (left : Left) (cs : List Said) : Type 0 where
  pub of_recipients : Reported (λ r. r.mark ≡ 0 → ⊥) (λ n c. c ≡ two_command.error (two_command.recipient n)) 0 (left recipients) cs
  pub of_identities : Reported (λ r. r.mark ≡ 0 → ⊥) (λ n c. c ≡ two_command.error (two_command.identity n)) 0 (left identities) cs
  -- a faulty stanza, the i-th of its file f, error stanza f i
  pub of_headers : (f i : ℕ) → RowAt (λ r. r.mark ≡ 1) (of_file f (left headers)) i → Some (λ c. c ≡ two_command.error (two_command.header f i)) cs

-- one exchange by itself
pub record RightExchange (machine : Machine) (left : Left) (x : Exchange) : Type 0 where
  pub writable : is_writable (line_of x) x.body ≡ true
  pub right : is_right_two (command_sent machine x) ≡ true
  pub present : Present left (command_sent machine x)
  pub unheld : Unheld left (command_sent machine x)
  pub responded : Responded (command_sent machine x) x.responses

-- exchanges that done ends: each is right by itself, together they keep the limits, and no error is owed
pub record AllowedSent (machine : Machine) (left : Left) (capacity : two.KindTwo → ℕ) (xs : List Exchange) : Type 0 where
  pub right : All (RightExchange machine left) xs
  pub limits : Limits (length (left recipients) + length (left identities)) capacity (λ m. total m (map (said_in machine) xs))
  pub reported : AllReported left (map (said_in machine) xs)

-- ---- the calls by which exchanges are made

-- "done has no arguments, no body and no response": its command is done
abbrev pub is_done_sent : Exchange → Bool
is_done_sent x = same (argument_of (line_of x) 0) done_word

-- "Hearing a response, the plugin end .. writes its decoded body to the output room": one call for each text
unfoldable pub response_calls : Supply → List (List ℕ) → List Call
response_calls outs [] = []
response_calls outs (t ∷ ts) = respond t (outs 0) ∷ response_calls (skip 1 outs) ts

-- "the plugin speaks, the client answers": the sending, then the responses
abbrev pub exchange_calls : Supply → Exchange → List Call
exchange_calls outs x = send_two x.word x.arguments x.body (outs 0) ∷ response_calls (skip 1 outs) x.responses

-- "Each call gets what the one before returned or left": one exchange behind the other
unfoldable pub sending_calls : Supply → List Exchange → List Call
sending_calls outs [] = []
sending_calls outs (x ∷ xs) = exchange_calls outs x ++ sending_calls (skip (length x.responses) (skip 1 outs)) xs
