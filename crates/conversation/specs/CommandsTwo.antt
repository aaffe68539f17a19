-- The commands of phase two (document 01, "Phase two": the table of commands).
use Rattle.std.specs.Prelude.{ℕ, Bool, ◌&&◌, ◌||◌, List, [], ◌∷◌, ◌++◌, leb, eqb, length}
use Rattle.refusal.specs.Pick.{pick}
use Rattle.refusal.specs.Same.{same}
use Rattle.strict_base64.specs.Code.{is_base64}
use Rattle.stanza.specs.Arguments.{count_of, argument_of, line_with}
use Rattle.stanza.specs.Index.{read_index, ReadIndex, number, refused}
use Rattle.session.specs.declared.words.WordTwo.{WordTwo}
use Rattle.session.specs.declared.words.WordTwo.TheVariants.{Msg, Confirm, RequestPublic, RequestSecret, RecipientStanza, FileKey, Error, Other, Done}
use Rattle.phase_one.specs.Commands.{recipient_stanza_text, done_word, is_bare, rest_of}
use Rattle.session.specs.declared.opening.Machine.{Machine}
use Rattle.session.specs.declared.opening.Machine.TheVariants.{RecipientV1, IdentityV1}

-- ---- words

-- "msg"
abbrev pub msg_word : List ℕ
msg_word = 109 ∷ 115 ∷ 103 ∷ []

-- "confirm"
abbrev pub confirm_word : List ℕ
confirm_word = 99 ∷ 111 ∷ 110 ∷ 102 ∷ 105 ∷ 114 ∷ 109 ∷ []

-- "request-public"
abbrev pub request_public : List ℕ
request_public = 114 ∷ 101 ∷ 113 ∷ 117 ∷ 101 ∷ 115 ∷ 116 ∷ 45 ∷ 112 ∷ 117 ∷ 98 ∷ 108 ∷ 105 ∷ 99 ∷ []

-- "request-secret"
abbrev pub request_secret : List ℕ
request_secret = 114 ∷ 101 ∷ 113 ∷ 117 ∷ 101 ∷ 115 ∷ 116 ∷ 45 ∷ 115 ∷ 101 ∷ 99 ∷ 114 ∷ 101 ∷ 116 ∷ []

-- "file-key"
abbrev pub file_key_word : List ℕ
file_key_word = 102 ∷ 105 ∷ 108 ∷ 101 ∷ 45 ∷ 107 ∷ 101 ∷ 121 ∷ []

-- "error"
abbrev pub error_word : List ℕ
error_word = 101 ∷ 114 ∷ 114 ∷ 111 ∷ 114 ∷ []

-- what an error names: "internal"
abbrev pub internal_word : List ℕ
internal_word = 105 ∷ 110 ∷ 116 ∷ 101 ∷ 114 ∷ 110 ∷ 97 ∷ 108 ∷ []

-- "identity"
abbrev pub identity_word : List ℕ
identity_word = 105 ∷ 100 ∷ 101 ∷ 110 ∷ 116 ∷ 105 ∷ 116 ∷ 121 ∷ []

-- "recipient"
abbrev pub recipient_word : List ℕ
recipient_word = 114 ∷ 101 ∷ 99 ∷ 105 ∷ 112 ∷ 105 ∷ 101 ∷ 110 ∷ 116 ∷ []

-- "stanza"
abbrev pub stanza_word : List ℕ
stanza_word = 115 ∷ 116 ∷ 97 ∷ 110 ∷ 122 ∷ 97 ∷ []

-- "recipient-stanza (recipient-v1)", "file-key (identity-v1)": to the other machine they are any other word
abbrev pub work_word : Machine → List ℕ → WordTwo
work_word RecipientV1 w = pick (same w recipient_stanza_text) RecipientStanza Other
work_word IdentityV1 w = pick (same w file_key_word) FileKey Other

-- which row a word names for a machine
abbrev pub word_two : Machine → List ℕ → WordTwo
word_two machine w =
    pick (same w msg_word) Msg
    (pick (same w confirm_word) Confirm
    (pick (same w request_public) RequestPublic
    (pick (same w request_secret) RequestSecret (pick (same w error_word) Error (pick (same w done_word) Done (work_word machine w))))))

-- ---- commands

-- what an error names: nothing, an identity, a recipient, or of a file a header stanza
pub data Named : Type 0 where
  internal : Named
  identity : ℕ → Named
  recipient : ℕ → Named
  header : ℕ → ℕ → Named

-- msg, confirm or a request; a stanza or a key for a file; an error; done; any other; or the number of a fault
pub data CommandTwo : Type 0 where
  ask : WordTwo → CommandTwo
  stanza : ℕ → CommandTwo
  key : ℕ → CommandTwo
  error : Named → CommandTwo
  done : CommandTwo
  other : CommandTwo
  bad : ℕ → CommandTwo

-- confirm: "one or two base64 labels"
abbrev pub are_labels : List ℕ → Bool
are_labels line = is_base64 (argument_of line 1) && (eqb (count_of line) 2 || eqb (count_of line) 3 && is_base64 (argument_of line 2))

-- a stanza or a key by what its index was read as
abbrev pub stanza_at : ReadIndex → CommandTwo
stanza_at (number f) = stanza f
stanza_at (refused n) = bad n

-- a key likewise
abbrev pub key_at : ReadIndex → CommandTwo
key_at (number f) = key f
key_at (refused n) = bad n

-- an error that names an identity or a recipient
abbrev pub error_at : (ℕ → Named) → ReadIndex → CommandTwo
error_at name (number i) = error (name i)
error_at name (refused n) = bad n

-- an error that names a header stanza: both indices are read before either is looked up
abbrev pub header_at : ReadIndex → ReadIndex → CommandTwo
header_at (number f) (number i) = error (header f i)
header_at (number f) (refused n) = bad n
header_at (refused n) i = bad n

-- "recipient i (recipient-v1); stanza f i (identity-v1)"
abbrev pub error_of : Machine → List ℕ → CommandTwo
error_of RecipientV1 line = pick (same (argument_of line 1) recipient_word && eqb (count_of line) 3) (error_at recipient (read_index (argument_of line 2))) (bad 4)
error_of IdentityV1 line = pick (same (argument_of line 1) stanza_word && eqb (count_of line) 4) (header_at (read_index (argument_of line 2)) (read_index (argument_of line 3))) (bad 4)

-- "internal; identity i"
abbrev pub error_command : Machine → List ℕ → CommandTwo
error_command machine line =
    pick (same (argument_of line 1) internal_word && eqb (count_of line) 2) (error internal)
    (pick (same (argument_of line 1) identity_word && eqb (count_of line) 3) (error_at identity (read_index (argument_of line 2))) (error_of machine line))

-- the rows of the table
abbrev pub row_two : WordTwo → Machine → List ℕ → ℕ → CommandTwo
row_two Msg machine line body = pick (eqb (count_of line) 1) (ask Msg) (bad 4)
row_two Confirm machine line body = pick (are_labels line) (ask Confirm) (bad 4)
row_two RequestPublic machine line body = pick (eqb (count_of line) 1) (ask RequestPublic) (bad 4)
row_two RequestSecret machine line body = pick (eqb (count_of line) 1) (ask RequestSecret) (bad 4)
row_two RecipientStanza machine line body = pick (leb 3 (count_of line)) (stanza_at (read_index (argument_of line 1))) (bad 4)
row_two FileKey machine line body = pick (eqb (count_of line) 2 && eqb body 16) (key_at (read_index (argument_of line 1))) (bad 4)
row_two Error machine line body = error_command machine line
row_two Other machine line body = other
row_two Done machine line body = pick (is_bare line body 0) done (bad 4)

-- the command of a stanza: its arguments' text, and its body
unfoldable pub command_two : Machine → List ℕ → List ℕ → CommandTwo
command_two machine line body = row_two (word_two machine (argument_of line 0)) machine line (length body)

-- the word of a command that is accepted
abbrev pub word_of : CommandTwo → WordTwo
word_of (ask w) = w
word_of (stanza f) = RecipientStanza
word_of (key f) = FileKey
word_of (error n) = Error
word_of done = Done
word_of other = Other
word_of (bad n) = Other

-- "An error's payload is its message; the other payloads are as in phase one"
abbrev pub payload_of : CommandTwo → List ℕ → List ℕ → List ℕ
payload_of (ask w) line body = []
payload_of (stanza f) line body = rest_of line ++ 10 ∷ body
payload_of (key f) line body = body
payload_of (error n) line body = body
payload_of done line body = []
payload_of other line body = []
payload_of (bad n) line body = []

-- the arguments' text of a command that is sent: its word, and behind a space what is given; any other word stands first in what is given
abbrev pub line_sent : WordTwo → List ℕ → List ℕ
line_sent Msg arguments = line_with msg_word arguments
line_sent Confirm arguments = line_with confirm_word arguments
line_sent RequestPublic arguments = line_with request_public arguments
line_sent RequestSecret arguments = line_with request_secret arguments
line_sent RecipientStanza arguments = line_with recipient_stanza_text arguments
line_sent FileKey arguments = line_with file_key_word arguments
line_sent Error arguments = line_with error_word arguments
line_sent Done arguments = line_with done_word arguments
line_sent Other arguments = arguments

-- the text of a word, the command with nothing behind it; any other word has none of its own
abbrev pub text_of_word : WordTwo → List ℕ
text_of_word w = line_sent w []
