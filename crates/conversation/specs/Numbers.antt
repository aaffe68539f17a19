-- Which number a call gives (document 01, "Numbers given back", with "Rules between commands" and both tables of commands; document 02, No. 7): each number's
-- condition, said of the text or the arguments, of the phase and of what the tables show; and the paper's orders. No decision is asked.
use Rattle.std.specs.Prelude.{ℕ, ◌+◌, ◌<◌, ◌≤◌, ◌≡◌, Bool, true, false, ◌⊎◌, List, [], ◌∷◌, ◌++◌, length, take}
use Rattle.refusal.specs.Number.{number_of}
use Rattle.refusal.specs.declared.Refusal.{Refusal}
use Rattle.refusal.specs.declared.Refusal.TheVariants.{NotStanza, Unfinished, TooLong, BadCommand, BadIndex, NoSuchIndex, FallingIndex, NoSpace, SecondKey, TooManyStanzas, WorkAndError, UnfitResponse, SessionOver, OutOfTurn, ShortOutput, Malformed, Unwritable, NoSuchMachine, HeldBack, Repeated, BadChecksum, LeftoverBits}
use Rattle.strict_base64.specs.Code.{is_base64}
use Rattle.stanza.specs.Arguments.{words, is_line, argument_of}
use Rattle.stanza.specs.Grammar.{stanza_text}
use Rattle.stanza.specs.Index.{decimal}
use Rattle.stanza.specs.Reading.{refused, read_first}
use Rattle.tables.specs.declared.slots.Entry.{Entry}
use Rattle.tables.specs.Tables.{Row, found, shown, end_of}
use Rattle.responses.specs.Responses.{response_line}
use Rattle.responses.specs.declared.Response.{Response}
use Rattle.responses.specs.declared.Response.TheVariants.{Ok, Yes, No, Fail, Unsupported}
use Rattle.session.specs.Tables.{Tables}
use Rattle.session.specs.Session.{Session}
use Rattle.session.specs.declared.opening.Machine.{Machine}
use Rattle.session.specs.declared.opening.Machine.TheVariants.{RecipientV1, IdentityV1}
use Rattle.session.specs.declared.phases.Phase.{Phase}
use Rattle.session.specs.declared.phases.Phase.TheVariants.{One, Two, Awaiting, Ended, Closed}
use Rattle.session.specs.declared.words.WordTwo.{WordTwo}
use Rattle.session.specs.declared.words.WordTwo.TheVariants.{Msg, Confirm, RequestPublic, RequestSecret, RecipientStanza, FileKey, Error, Other}
use Rattle.phase_one.specs.Commands as one_command
use Rattle.phase_one.specs.Commands.{add_recipient_text, add_identity_text, wrap_file_key_text, recipient_stanza_text, done_word, rest_of}
use Rattle.phase_one.specs.Views as one_kind
use Rattle.phase_one.specs.Views.{recipients, identities, keys, headers}
use Rattle.conversation.specs.CommandsTwo as two_command
use Rattle.conversation.specs.CommandsTwo.{msg_word, confirm_word, request_public, request_secret, file_key_word, error_word, internal_word, identity_word, recipient_word, stanza_word}
use Rattle.conversation.specs.PhaseTwo as two
use Rattle.conversation.specs.PhaseTwo.{errors, stanzas, returned}
use Rattle.conversation.specs.Kinds.{AnyKind, first, second, Buffers, table_of, view_of, of_file}
use Rattle.conversation.specs.Calls.{Call, receive, send, receive_two, reply, send_two, respond, Brought, in_one, in_two, no_command, brought_by}
use Rattle.conversation.specs.Phases.{All, line_in, body_in}
use Rattle.conversation.specs.Allowed.{slots_of, slots_two, RowAt}

-- ---- the tables of commands. What a stanza says, with each index as its text or as its number

-- in phase one: a recipient or an identity, a file key, a header stanza with its index, done
pub data SayingOne (I : Type 0) : Type 0 where
  adds_recipient : List ℕ → SayingOne I
  adds_identity : List ℕ → SayingOne I
  wraps_key : SayingOne I
  brings_stanza : I → SayingOne I
  ends_one : SayingOne I

-- what a command asks of the client's host
pub data Question : Type 0 where
  message : Question
  confirmation : Question
  public_value : Question
  secret_value : Question

-- what an error names: "internal; identity i; recipient i (recipient-v1); stanza f i (identity-v1)"
pub data Naming (I : Type 0) : Type 0 where
  internal : Naming I
  identity : I → Naming I
  recipient : I → Naming I
  header : I → I → Naming I

-- in phase two: a question, a stanza or a key for a file, an error, done
pub data SayingTwo (I : Type 0) : Type 0 where
  asks : Question → SayingTwo I
  returns_stanza : I → SayingTwo I
  returns_key : I → SayingTwo I
  reports : Naming I → SayingTwo I
  ends_two : SayingTwo I

-- phase one's table, row by row: the machine, the arguments with the command before them, the body
abbrev pub RowOne : Machine → List (List ℕ) → List ℕ → SayingOne (List ℕ) → Type 0
RowOne machine ws body (adds_recipient a) = (machine ≡ RecipientV1) × (ws ≡ add_recipient_text ∷ a ∷ []) × (body ≡ [])
RowOne machine ws body (adds_identity a) = (ws ≡ add_identity_text ∷ a ∷ []) × (body ≡ [])
RowOne machine ws body wraps_key = (machine ≡ RecipientV1) × (ws ≡ wrap_file_key_text ∷ []) × (length body ≡ 16)
RowOne machine ws body (brings_stanza i) = (machine ≡ IdentityV1) × ((tag : List ℕ) × (more : List (List ℕ)) × (ws ≡ recipient_stanza_text ∷ i ∷ tag ∷ more))
RowOne machine ws body ends_one = (ws ≡ done_word ∷ []) × (body ≡ [])

-- its commands for a machine, and done
abbrev pub words_one : Machine → List (List ℕ)
words_one RecipientV1 = add_recipient_text ∷ add_identity_text ∷ wrap_file_key_text ∷ done_word ∷ []
words_one IdentityV1 = add_identity_text ∷ recipient_stanza_text ∷ done_word ∷ []

-- "one or two base64 labels"
pub data Labels (ws : List (List ℕ)) : Type 0 where
  one_label : (a : List ℕ) → ws ≡ confirm_word ∷ a ∷ [] → is_base64 a ≡ true → Labels ws
  two_labels : (a b : List ℕ) → ws ≡ confirm_word ∷ a ∷ b ∷ [] → is_base64 a ≡ true → is_base64 b ≡ true → Labels ws

-- phase two's table
abbrev pub RowTwo : Machine → List (List ℕ) → List ℕ → SayingTwo (List ℕ) → Type 0
RowTwo machine ws body (asks message) = ws ≡ msg_word ∷ []
RowTwo machine ws body (asks confirmation) = Labels ws
RowTwo machine ws body (asks public_value) = ws ≡ request_public ∷ []
RowTwo machine ws body (asks secret_value) = ws ≡ request_secret ∷ []
RowTwo machine ws body (returns_stanza f) = (machine ≡ RecipientV1) × ((tag : List ℕ) × (more : List (List ℕ)) × (ws ≡ recipient_stanza_text ∷ f ∷ tag ∷ more))
RowTwo machine ws body (returns_key f) = (machine ≡ IdentityV1) × (ws ≡ file_key_word ∷ f ∷ []) × (length body ≡ 16)
RowTwo machine ws body (reports internal) = ws ≡ error_word ∷ internal_word ∷ []
RowTwo machine ws body (reports (identity i)) = ws ≡ error_word ∷ identity_word ∷ i ∷ []
RowTwo machine ws body (reports (recipient i)) = (machine ≡ RecipientV1) × (ws ≡ error_word ∷ recipient_word ∷ i ∷ [])
RowTwo machine ws body (reports (header f i)) = (machine ≡ IdentityV1) × (ws ≡ error_word ∷ stanza_word ∷ f ∷ i ∷ [])
RowTwo machine ws body ends_two = (ws ≡ done_word ∷ []) × (body ≡ [])

-- "recipient-stanza (recipient-v1)", "file-key (identity-v1)"
abbrev pub returning_word : Machine → List ℕ
returning_word RecipientV1 = recipient_stanza_text
returning_word IdentityV1 = file_key_word

-- its commands for a machine, and done
abbrev pub words_two : Machine → List (List ℕ)
words_two machine = msg_word ∷ confirm_word ∷ request_public ∷ request_secret ∷ returning_word machine ∷ error_word ∷ done_word ∷ []

-- a word is one of a list
unfoldable pub OneOf : List ℕ → List (List ℕ) → Type 0
OneOf w [] = ⊥
OneOf w (v ∷ vs) = (w ≡ v) ⊎ OneOf w vs

-- a known command, or done
abbrev pub KnownOne : Machine → List ℕ → Type 0
KnownOne machine line = OneOf (argument_of line 0) (words_one machine)

-- .. in phase two
abbrev pub KnownTwo : Machine → List ℕ → Type 0
KnownTwo machine line = OneOf (argument_of line 0) (words_two machine)

-- the indices of what is said
abbrev pub indices_one : {I : Type 0} → SayingOne I → List I
indices_one (adds_recipient a) = []
indices_one (adds_identity a) = []
indices_one wraps_key = []
indices_one (brings_stanza i) = i ∷ []
indices_one ends_one = []

-- .. in phase two
abbrev pub indices_two : {I : Type 0} → SayingTwo I → List I
indices_two (asks q) = []
indices_two (returns_stanza f) = f ∷ []
indices_two (returns_key f) = f ∷ []
indices_two (reports internal) = []
indices_two (reports (identity i)) = i ∷ []
indices_two (reports (recipient i)) = i ∷ []
indices_two (reports (header f i)) = f ∷ i ∷ []
indices_two ends_two = []

-- the same with each number written in decimal digits
abbrev pub written_one : SayingOne ℕ → SayingOne (List ℕ)
written_one (adds_recipient a) = adds_recipient a
written_one (adds_identity a) = adds_identity a
written_one wraps_key = wraps_key
written_one (brings_stanza i) = brings_stanza (decimal i)
written_one ends_one = ends_one

-- .. in phase two
abbrev pub written_two : SayingTwo ℕ → SayingTwo (List ℕ)
written_two (asks q) = asks q
written_two (returns_stanza f) = returns_stanza (decimal f)
written_two (returns_key f) = returns_key (decimal f)
written_two (reports internal) = reports internal
written_two (reports (identity i)) = reports (identity (decimal i))
written_two (reports (recipient i)) = reports (recipient (decimal i))
written_two (reports (header f i)) = reports (header (decimal f) (decimal i))
written_two ends_two = ends_two

-- "at most 4,294,967,295"
abbrev pub Small : ℕ → Type 0
Small i = i ≤ 4294967295

-- "An index is "0" or digits without a leading zero, at most 4,294,967,295"
abbrev pub IsIndex : List ℕ → Type 0
IsIndex t = (i : ℕ) × Small i × (t ≡ decimal i)

-- an arguments' text and a body say this to a machine
pub record SaysOne (machine : Machine) (line body : List ℕ) (x : SayingOne ℕ) : Type 0 where
  pub row : RowOne machine (words line) body (written_one x)
  pub small : All Small (indices_one x)

-- .. in phase two
pub record SaysTwo (machine : Machine) (line body : List ℕ) (x : SayingTwo ℕ) : Type 0 where
  pub row : RowTwo machine (words line) body (written_two x)
  pub small : All Small (indices_two x)

-- ---- faults of a command by itself

-- No. 4, "known command or done with wrong arguments, labels or body": a word of the table, and no row of it
abbrev pub Wrong : {X : Type 0} → Type 0 → (X → Type 0) → Type 0
Wrong {X} known Row = known × ((x : X) → Row x → ⊥)

-- No. 5, "index badly written or too large": a row with a text that is no index
abbrev pub Misindexed : {X : Type 0} → (X → Type 0) → (X → List (List ℕ)) → Type 0
Misindexed {X} Row indices = (x : X) × Row x × (All IsIndex (indices x) → ⊥)

-- ---- faults against what the tables show: `rows` are the rows of each kind, `Says` what the stanza says

-- a row with a property
abbrev pub SomeRow : (Row → Type 0) → List Row → Type 0
SomeRow P rs = (i : ℕ) × RowAt P rs i

-- No. 6, "index names nothing"
pub data Missing (Says : SayingTwo ℕ → Type 0) (rows : AnyKind → List Row) : Type 0 where
  -- "the index is a file key's number"
  no_file_key : (f : ℕ) → Says (returns_stanza f) → length (rows (first keys)) ≤ f → Missing Says rows
  -- "only for an index that phase one named"
  no_file : (f : ℕ) → Says (returns_key f) → (SomeRow (λ r. r.index ≡ f) (rows (first headers)) → ⊥) → Missing Says rows
  no_identity : (i : ℕ) → Says (reports (identity i)) → length (rows (first identities)) ≤ i → Missing Says rows
  no_recipient : (i : ℕ) → Says (reports (recipient i)) → length (rows (first recipients)) ≤ i → Missing Says rows
  -- "in error stanza f i, i counts the header stanzas of file f from 0 in the order received": the file has i or fewer
  no_stanza : (f i : ℕ) → Says (reports (header f i)) → length (of_file f (rows (first headers))) ≤ i → Missing Says rows

-- No. 7, "header stanza index falls": below that of the last one accepted
pub record Falling (Says : SayingOne ℕ → Type 0) (rows : AnyKind → List Row) : Type 0 where
  pub index : ℕ
  pub said : Says (brings_stanza index)
  pub before : List Row
  pub last : Row
  pub shown : rows (first headers) ≡ before ++ (last ∷ [])
  pub falls : index < last.index

-- No. 20, "a second recipient whose text equals an earlier one", as a look-up shows that one; an entry that the buffer is too short for is empty and equals
-- nothing
pub record Twice (Says : SayingOne ℕ → Type 0) (t : Tables) (buffer : List ℕ) : Type 0 where
  pub text : List ℕ
  pub said : Says (adds_recipient text)
  pub earlier : ℕ
  pub there : earlier < t.recipients.count
  pub held : end_of t.recipients earlier ≤ length buffer
  pub equal : shown (found t.recipients earlier) buffer ≡ text

-- No. 9, "second key for a file"
pub record Second (Says : SayingTwo ℕ → Type 0) (rows : AnyKind → List Row) : Type 0 where
  pub file : ℕ
  pub said : Says (returns_key file)
  pub there : SomeRow (λ r. r.index ≡ file) (rows (second returned))

-- No. 10, "too many stanzas for a file": it has already as many as there are recipients and identities together
pub record TooMany (Says : SayingTwo ℕ → Type 0) (rows : AnyKind → List Row) : Type 0 where
  pub file : ℕ
  pub said : Says (returns_stanza file)
  pub full : length (rows (first recipients)) + length (rows (first identities)) ≤ length (of_file file (rows (second stanzas)))

-- No. 11, "work and error together". The mark 3 + f of an error: it names a header stanza of the file f
pub data Together (Says : SayingTwo ℕ → Type 0) (rows : AnyKind → List Row) : Type 0 where
  -- "errors and stanzas don't both occur"
  stanza_with_errors : (f : ℕ) → Says (returns_stanza f) → 0 < length (rows (second errors)) → Together Says rows
  error_with_stanzas : (n : Naming ℕ) → Says (reports n) → 0 < length (rows (second stanzas)) → Together Says rows
  -- "error stanza f and file-key f don't both occur"
  key_with_error : (f : ℕ) → Says (returns_key f) →
      SomeRow (λ e. e.mark ≡ 3 + f) (rows (second errors)) → Together Says rows
  error_with_key : (f i : ℕ) → Says (reports (header f i)) → SomeRow (λ r. r.index ≡ f) (rows (second returned)) → Together Says rows

-- an invalid recipient or identity has a mark other than 0
abbrev pub Invalid : Row → Type 0
Invalid r = r.mark ≡ 0 → ⊥

-- there is no error with a mark for a number
abbrev pub NoError : ℕ → ℕ → List Row → Type 0
NoError mark n es = SomeRow (λ e. (e.mark ≡ mark) × (e.index ≡ n)) es → ⊥

-- No. 19, "plugin end: held back by an unsound entry or faulty stanza, or error for an unknown stanza". A header stanza's mark: 1 nonconforming, 2 unknown; an
-- error's: 1 it names an identity, 2 a recipient, 3 + f a header stanza of the file f
pub data Held (Says : SayingTwo ℕ → Type 0) (rows : AnyKind → List Row) : Type 0 where
  -- "while any recipient or identity is unsound it sends no stanza and no key"
  stanza_held : (f : ℕ) → Says (returns_stanza f) → SomeRow Invalid (rows (first recipients)) ⊎ SomeRow Invalid (rows (first identities)) → Held Says rows
  key_held : (f : ℕ) → Says (returns_key f) → SomeRow Invalid (rows (first recipients)) ⊎ SomeRow Invalid (rows (first identities)) → Held Says rows
  -- "it sends no key for a file with a faulty fido2-hmac stanza"
  key_nonconforming : (f : ℕ) → Says (returns_key f) → SomeRow (λ r. (r.mark ≡ 1) × (r.index ≡ f)) (rows (first headers)) → Held Says rows
  -- "the plugin end sends no error stanza for" an unknown stanza
  error_unknown : (f i : ℕ) → Says (reports (header f i)) → RowAt (λ r. r.mark ≡ 2) (of_file f (rows (first headers))) i → Held Says rows
  -- "It sends done only after each unsound entry and each faulty stanza has had its error"
  recipient_owed : Says ends_two → (n : ℕ) → RowAt Invalid (rows (first recipients)) n → NoError 2 n (rows (second errors)) → Held Says rows
  identity_owed : Says ends_two → (n : ℕ) → RowAt Invalid (rows (first identities)) n → NoError 1 n (rows (second errors)) → Held Says rows
  stanza_owed : Says ends_two → (f i : ℕ) → RowAt (λ r. r.mark ≡ 1) (of_file f (rows (first headers))) i → NoError (3 + f) i (rows (second errors)) → Held Says rows

-- ---- No. 8, "no place, or room too short"

-- a kind's entries
abbrev pub entries_of : AnyKind → Tables → List Entry
entries_of k t = take (table_of k t).count (table_of k t).slots

-- the payload bytes so far
unfoldable pub lengths_of : List Entry → ℕ
lengths_of [] = 0
lengths_of (e ∷ es) = e.length + lengths_of es

-- how many slots a kind has: 64, 64, 64 and 256; 384, 256 and 256
abbrev pub slots_for : AnyKind → ℕ
slots_for (first k) = slots_of k
slots_for (second k) = slots_two k

-- its buffer
abbrev pub buffer_for : AnyKind → Buffers → List ℕ
buffer_for (first k) b = one_kind.buffer_of k b.first
buffer_for (second k) b = two.buffer_of k b.second

-- "A command fits if its kind has a place and the payload bytes so far plus its own are at most the room's length"
abbrev pub Full : Tables → Buffers → AnyKind → List ℕ → Type 0
Full t b k payload = (slots_for k ≤ length (entries_of k t)) ⊎ (length (buffer_for k b) < lengths_of (entries_of k t) + length payload)

-- "everything after "index " on the first line, its LF included, followed by the decoded body"
abbrev pub stanza_payload : List ℕ → List ℕ → List ℕ
stanza_payload line body = rest_of line ++ 10 ∷ body

-- each kind with its payload: "the argument, the key, or, for a stanza", the above
pub data SpacelessOne (Says : SayingOne ℕ → Type 0) (t : Tables) (b : Buffers) (line body : List ℕ) : Type 0 where
  recipient_spaceless : (a : List ℕ) → Says (adds_recipient a) → Full t b (first recipients) a → SpacelessOne Says t b line body
  identity_spaceless : (a : List ℕ) → Says (adds_identity a) → Full t b (first identities) a → SpacelessOne Says t b line body
  key_spaceless : Says wraps_key → Full t b (first keys) body → SpacelessOne Says t b line body
  header_spaceless : (i : ℕ) → Says (brings_stanza i) → Full t b (first headers) (stanza_payload line body) → SpacelessOne Says t b line body

-- "An error's payload is its message; the other payloads are as in phase one"
pub data SpacelessTwo (Says : SayingTwo ℕ → Type 0) (t : Tables) (b : Buffers) (line body : List ℕ) : Type 0 where
  stanza_spaceless : (f : ℕ) → Says (returns_stanza f) → Full t b (second stanzas) (stanza_payload line body) → SpacelessTwo Says t b line body
  returned_spaceless : (f : ℕ) → Says (returns_key f) → Full t b (second returned) body → SpacelessTwo Says t b line body
  error_spaceless : (n : Naming ℕ) → Says (reports n) → Full t b (second errors) body → SpacelessTwo Says t b line body

-- ---- responses

-- the column "Fitting responses"; "Responses have no body except ok to a request"; done has none
pub data Fitting (r : Response) (body : List ℕ) : WordTwo → Type 0 where
  msg_answered : (r ≡ Ok) ⊎ (r ≡ Fail) → body ≡ [] → Fitting r body Msg
  confirm_answered : (r ≡ Yes) ⊎ (r ≡ No) ⊎ (r ≡ Fail) → body ≡ [] → Fitting r body Confirm
  public_given : r ≡ Ok → Fitting r body RequestPublic
  public_failed : r ≡ Fail → body ≡ [] → Fitting r body RequestPublic
  secret_given : r ≡ Ok → Fitting r body RequestSecret
  secret_failed : r ≡ Fail → body ≡ [] → Fitting r body RequestSecret
  stanza_answered : r ≡ Ok → body ≡ [] → Fitting r body RecipientStanza
  key_answered : r ≡ Ok → body ≡ [] → Fitting r body FileKey
  error_answered : r ≡ Ok → body ≡ [] → Fitting r body Error
  other_answered : r ≡ Unsupported → body ≡ [] → Fitting r body Other

-- what the client writes at once: "The client answers the last four rows at once .. with no screen it answers fail at once"
pub data WrittenAtOnce (screen : Bool) (Known : Type 0) (Says : SayingTwo ℕ → Type 0) (r : Response) : Type 0 where
  for_stanza : (f : ℕ) → Says (returns_stanza f) → r ≡ Ok → WrittenAtOnce screen Known Says r
  for_key : (f : ℕ) → Says (returns_key f) → r ≡ Ok → WrittenAtOnce screen Known Says r
  for_error : (n : Naming ℕ) → Says (reports n) → r ≡ Ok → WrittenAtOnce screen Known Says r
  for_other : (Known → ⊥) → r ≡ Unsupported → WrittenAtOnce screen Known Says r
  for_question : (q : Question) → Says (asks q) → screen ≡ false → r ≡ Fail → WrittenAtOnce screen Known Says r

-- ---- the calls. Of a command of phase one or two, by its arguments' text and its body

-- No. 4
abbrev pub WrongIn : Session → Brought → Type 0
WrongIn s (in_one line body) = Wrong (KnownOne s.machine line) (RowOne s.machine (words line) body)
WrongIn s (in_two line body) = Wrong (KnownTwo s.machine line) (RowTwo s.machine (words line) body)
WrongIn s no_command = ⊥

-- No. 5
abbrev pub MisindexedIn : Session → Brought → Type 0
MisindexedIn s (in_one line body) = Misindexed (RowOne s.machine (words line) body) indices_one
MisindexedIn s (in_two line body) = Misindexed (RowTwo s.machine (words line) body) indices_two
MisindexedIn s no_command = ⊥

module _ (s : Session) (b : Buffers) where
  -- the rows that the tables show
  abbrev pub rows_shown : AnyKind → List Row
  rows_shown k = view_of k s.tables b

  -- No. 6
  abbrev pub MissingIn : Brought → Type 0
  MissingIn (in_one line body) = ⊥
  MissingIn (in_two line body) = Missing (SaysTwo s.machine line body) rows_shown
  MissingIn no_command = ⊥

  -- No. 7
  abbrev pub FallingIn : Brought → Type 0
  FallingIn (in_one line body) = Falling (SaysOne s.machine line body) rows_shown
  FallingIn (in_two line body) = ⊥
  FallingIn no_command = ⊥

  -- No. 20
  abbrev pub TwiceIn : Brought → Type 0
  TwiceIn (in_one line body) = Twice (SaysOne s.machine line body) s.tables b.first.recipients
  TwiceIn (in_two line body) = ⊥
  TwiceIn no_command = ⊥

  -- No. 8
  abbrev pub SpacelessIn : Brought → Type 0
  SpacelessIn (in_one line body) = SpacelessOne (SaysOne s.machine line body) s.tables b line body
  SpacelessIn (in_two line body) = SpacelessTwo (SaysTwo s.machine line body) s.tables b line body
  SpacelessIn no_command = ⊥

  -- No. 9
  abbrev pub SecondIn : Brought → Type 0
  SecondIn (in_one line body) = ⊥
  SecondIn (in_two line body) = Second (SaysTwo s.machine line body) rows_shown
  SecondIn no_command = ⊥

  -- No. 10
  abbrev pub TooManyIn : Brought → Type 0
  TooManyIn (in_one line body) = ⊥
  TooManyIn (in_two line body) = TooMany (SaysTwo s.machine line body) rows_shown
  TooManyIn no_command = ⊥

  -- No. 11
  abbrev pub TogetherIn : Brought → Type 0
  TogetherIn (in_one line body) = ⊥
  TogetherIn (in_two line body) = Together (SaysTwo s.machine line body) rows_shown
  TogetherIn no_command = ⊥

  -- No. 19
  abbrev pub HeldIn : Call → Type 0
  HeldIn (receive text) = ⊥
  HeldIn (send word arguments body out) = ⊥
  HeldIn (receive_two text out) = ⊥
  HeldIn (reply r body out) = ⊥
  HeldIn (send_two word arguments body out) = Held (SaysTwo s.machine (two_command.line_sent word arguments) body) rows_shown
  HeldIn (respond text out) = ⊥

-- No. 13, "session closed or ended"
abbrev pub Over : Phase → Type 0
Over p = (p ≡ Closed) ⊎ (p ≡ Ended)

-- a command of phase one, a command of phase two while no answer is due, an answer while one is; else No. 14
abbrev pub InTurn : Call → Phase → Type 0
InTurn (receive text) p = p ≡ One
InTurn (send word arguments body out) p = p ≡ One
InTurn (receive_two text out) p = p ≡ Two
InTurn (reply r body out) p = (w : WordTwo) × (p ≡ Awaiting w)
InTurn (send_two word arguments body out) p = p ≡ Two
InTurn (respond text out) p = (w : WordTwo) × (p ≡ Awaiting w)

-- No. 1, 2 and 3: what reading the text gives (`stanza` says when)
abbrev pub ReadsAs : Call → ℕ → Type 0
ReadsAs (receive text) n = read_first text ≡ refused n
ReadsAs (send word arguments body out) n = ⊥
ReadsAs (receive_two text out) n = read_first text ≡ refused n
ReadsAs (reply r body out) n = ⊥
ReadsAs (send_two word arguments body out) n = ⊥
ReadsAs (respond text out) n = read_first text ≡ refused n

-- No. 12, "response doesn't fit": the command that awaits it
abbrev pub Unfit : Call → Phase → Type 0
Unfit (receive text) p = ⊥
Unfit (send word arguments body out) p = ⊥
Unfit (receive_two text out) p = ⊥
Unfit (reply r body out) p = (w : WordTwo) × (p ≡ Awaiting w) × (Fitting r body w → ⊥)
Unfit (send_two word arguments body out) p = ⊥
Unfit (respond text out) p = (w : WordTwo) × (p ≡ Awaiting w) × ((r : Response) → line_in text ≡ response_line r → Fitting r (body_in text) w → ⊥)

-- No. 17, "argument, name or length that can't be written": no arguments separated by single spaces, or a stanza of more than 8,192 bytes
abbrev pub Unwritten : List ℕ → List ℕ → Type 0
Unwritten line body = (is_line line ≡ false) ⊎ (8192 < length (stanza_text line body))

-- of a call
abbrev pub UnwrittenIn : Call → Type 0
UnwrittenIn (receive text) = ⊥
UnwrittenIn (send word arguments body out) = Unwritten (one_command.line_sent word arguments) body
UnwrittenIn (receive_two text out) = ⊥
UnwrittenIn (reply r body out) = Unwritten (response_line r) body
UnwrittenIn (send_two word arguments body out) = Unwritten (two_command.line_sent word arguments) body
UnwrittenIn (respond text out) = ⊥

-- No. 15, "output longer than the lent room": the text that is sent, the reply's, the response at once, or the body of a response
abbrev pub Overflowing : Session → Call → Type 0
Overflowing s (receive text) = ⊥
Overflowing s (send word arguments body out) = length out < length (stanza_text (one_command.line_sent word arguments) body)
Overflowing s (receive_two text out) =
    (r : Response) × WrittenAtOnce s.screen (KnownTwo s.machine (line_in text)) (SaysTwo s.machine (line_in text) (body_in text)) r × (length out < length (stanza_text (response_line r) []))
Overflowing s (reply r body out) = length out < length (stanza_text (response_line r) body)
Overflowing s (send_two word arguments body out) = length out < length (stanza_text (two_command.line_sent word arguments) body)
Overflowing s (respond text out) = length out < length (body_in text)

-- each fault; 16 and 18 are given outside a session
abbrev pub Holds : Session → Buffers → Call → Refusal → Type 0
Holds s b c NotStanza = ReadsAs c 1
Holds s b c Unfinished = ReadsAs c 2
Holds s b c TooLong = ReadsAs c 3
Holds s b c BadCommand = WrongIn s (brought_by c)
Holds s b c BadIndex = MisindexedIn s (brought_by c)
Holds s b c NoSuchIndex = MissingIn s b (brought_by c)
Holds s b c FallingIndex = FallingIn s b (brought_by c)
Holds s b c NoSpace = SpacelessIn s b (brought_by c)
Holds s b c SecondKey = SecondIn s b (brought_by c)
Holds s b c TooManyStanzas = TooManyIn s b (brought_by c)
Holds s b c WorkAndError = TogetherIn s b (brought_by c)
Holds s b c UnfitResponse = Unfit c s.phase
Holds s b c SessionOver = Over s.phase
Holds s b c OutOfTurn = InTurn c s.phase → ⊥
Holds s b c ShortOutput = Overflowing s c
Holds s b c Malformed = ⊥
Holds s b c Unwritable = UnwrittenIn c
Holds s b c NoSuchMachine = ⊥
Holds s b c HeldBack = HeldIn s b c
Holds s b c Repeated = TwiceIn s b (brought_by c)
Holds s b c BadChecksum = ⊥
Holds s b c LeftoverBits = ⊥

-- a call whose command is judged: it is in turn, its text is a stanza, and what it sends can be written
pub record Judged (s : Session) (c : Call) : Type 0 where
  pub turn : InTurn c s.phase
  pub read : (n : ℕ) → ReadsAs c n → ⊥
  pub written : UnwrittenIn c → ⊥

-- a number's condition: that of its fault
abbrev pub Condition : Session → Buffers → Call → ℕ → Type 0
Condition s b c n = (r : Refusal) × (number_of r ≡ n) × Holds s b c r

-- ---- the orders

-- "Several at once: 13, 14, 1 to 3 as above, then 12, 15 for a response, else 4, 5, 6, 7, 9, 10, 11, 8, 15"; at sending "13, 14, 17, 4, 5, 6, 7, 9, 10, 11, 19, 8,
-- 15"; "For a host answer: 13, 14, 12, 17, 15"; 20 "stands after 7 and before 9" (document 02, No. 7)
abbrev pub order_of : Call → List ℕ
order_of (receive text) = 13 ∷ 14 ∷ 1 ∷ 2 ∷ 3 ∷ 4 ∷ 5 ∷ 6 ∷ 7 ∷ 20 ∷ 9 ∷ 10 ∷ 11 ∷ 8 ∷ 15 ∷ []
order_of (send word arguments body out) = 13 ∷ 14 ∷ 17 ∷ 4 ∷ 5 ∷ 6 ∷ 7 ∷ 20 ∷ 9 ∷ 10 ∷ 11 ∷ 19 ∷ 8 ∷ 15 ∷ []
order_of (receive_two text out) = 13 ∷ 14 ∷ 1 ∷ 2 ∷ 3 ∷ 4 ∷ 5 ∷ 6 ∷ 7 ∷ 20 ∷ 9 ∷ 10 ∷ 11 ∷ 8 ∷ 15 ∷ []
order_of (reply r body out) = 13 ∷ 14 ∷ 12 ∷ 17 ∷ 15 ∷ []
order_of (send_two word arguments body out) = 13 ∷ 14 ∷ 17 ∷ 4 ∷ 5 ∷ 6 ∷ 7 ∷ 20 ∷ 9 ∷ 10 ∷ 11 ∷ 19 ∷ 8 ∷ 15 ∷ []
order_of (respond text out) = 13 ∷ 14 ∷ 1 ∷ 2 ∷ 3 ∷ 12 ∷ 15 ∷ []

-- n is the first number of an order whose condition holds, and no earlier one's does; "No refusal is 0"
pub data FirstOf (P : ℕ → Type 0) : List ℕ → ℕ → Type 0 where
  no_number : FirstOf P [] 0
  this_number : {n : ℕ} {order : List ℕ} → P n → FirstOf P (n ∷ order) n
  later_number : {k n : ℕ} {order : List ℕ} → (P k → ⊥) → FirstOf P order n → FirstOf P (k ∷ order) n
