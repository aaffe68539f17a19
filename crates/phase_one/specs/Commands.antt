-- The commands of phase one (document 01, "Phase one": the table of commands).
use Rattle.std.specs.Prelude.{ℕ, Bool, ◌&&◌, List, [], ◌∷◌, ◌++◌, leb, eqb, Result, Ok, Err}
use Rattle.refusal.specs.Number.{number_of}
use Rattle.refusal.specs.Pick.{pick}
use Rattle.refusal.specs.Same.{same}
use Rattle.refusal.specs.declared.Refusal.{Refusal}
use Rattle.stanza.specs.Arguments.{count_of, argument_of, line_with}
use Rattle.stanza.specs.Index.{read_index, ReadIndex, number, refused}
use Rattle.bech32.specs.Text.{parse}
use Rattle.bech32.specs.Calls.{form_of, mark_of}
use Rattle.bech32.specs.declared.TextKind.{TextKind}
use Rattle.bech32.specs.declared.TextKind.TheVariants as the_kind
use Rattle.profile.specs.Profile.{Finding, conforming, nonconforming, unknown, checked}
use Rattle.session.specs.declared.opening.Machine.{Machine}
use Rattle.session.specs.declared.opening.Machine.TheVariants.{RecipientV1, IdentityV1}
use Rattle.phase_one.specs.declared.commands.WordOne.{WordOne as CodeWord}
use Rattle.phase_one.specs.declared.commands.WordOne.TheVariants as code_word
use Rattle.phase_one.specs.declared.commands.CommandOne.{CommandOne as CodeCommand}
use Rattle.phase_one.specs.declared.commands.CommandOne.TheVariants as code_command

-- ---- words

-- "add-recipient"
abbrev pub add_recipient_text : List ℕ
add_recipient_text = 97 ∷ 100 ∷ 100 ∷ 45 ∷ 114 ∷ 101 ∷ 99 ∷ 105 ∷ 112 ∷ 105 ∷ 101 ∷ 110 ∷ 116 ∷ []

-- "add-identity"
abbrev pub add_identity_text : List ℕ
add_identity_text = 97 ∷ 100 ∷ 100 ∷ 45 ∷ 105 ∷ 100 ∷ 101 ∷ 110 ∷ 116 ∷ 105 ∷ 116 ∷ 121 ∷ []

-- "wrap-file-key"
abbrev pub wrap_file_key_text : List ℕ
wrap_file_key_text = 119 ∷ 114 ∷ 97 ∷ 112 ∷ 45 ∷ 102 ∷ 105 ∷ 108 ∷ 101 ∷ 45 ∷ 107 ∷ 101 ∷ 121 ∷ []

-- "recipient-stanza"
abbrev pub recipient_stanza_text : List ℕ
recipient_stanza_text = 114 ∷ 101 ∷ 99 ∷ 105 ∷ 112 ∷ 105 ∷ 101 ∷ 110 ∷ 116 ∷ 45 ∷ 115 ∷ 116 ∷ 97 ∷ 110 ∷ 122 ∷ 97 ∷ []

-- "done"
abbrev pub done_word : List ℕ
done_word = 100 ∷ 111 ∷ 110 ∷ 101 ∷ []

-- the rows of the table
pub data WordOne : Type 0 where
  add_recipient : WordOne
  add_identity : WordOne
  wrap_file_key : WordOne
  recipient_stanza : WordOne
  done_command : WordOne
  other_word : WordOne

-- what the code's word stands for
abbrev pub word_said : CodeWord → WordOne
word_said code_word.AddRecipient = add_recipient
word_said code_word.AddIdentity = add_identity
word_said code_word.WrapFileKey = wrap_file_key
word_said code_word.RecipientStanza = recipient_stanza
word_said code_word.Done = done_command
word_said code_word.Other = other_word

-- which row a word names for a machine; any other word is no command of phase one
abbrev pub word_in : Machine → List ℕ → WordOne
word_in RecipientV1 w =
    pick (same w add_recipient_text) add_recipient
    (pick (same w add_identity_text) add_identity (pick (same w wrap_file_key_text) wrap_file_key (pick (same w done_word) done_command other_word)))
word_in IdentityV1 w = pick (same w add_identity_text) add_identity (pick (same w recipient_stanza_text) recipient_stanza (pick (same w done_word) done_command other_word))

-- ---- commands

-- an entry with its mark, and for a header stanza its index; done; any other, which is ignored; or the number of a fault
pub data CommandOne : Type 0 where
  recipient : ℕ → CommandOne
  identity : ℕ → CommandOne
  key : CommandOne
  header : ℕ → ℕ → CommandOne
  done : CommandOne
  other : CommandOne
  bad : ℕ → CommandOne

-- a recipient or an identity with its mark
abbrev pub text_of_kind : TextKind → ℕ → CommandOne
text_of_kind the_kind.Recipient m = recipient m
text_of_kind the_kind.Identity m = identity m

-- add-recipient, add-identity: one argument, no body. The mark is the reader's number for the session's plugin
abbrev pub text_command : TextKind → List ℕ → List ℕ → ℕ → CommandOne
text_command k plugin line body =
    pick (eqb (count_of line) 2 && eqb body 0) (text_of_kind k (mark_of (parse (form_of k) (argument_of line 1)) plugin)) (bad 4)

-- what stands behind the first space of a text
unfoldable pub after_space : List ℕ → List ℕ
after_space [] = []
after_space (b ∷ t) = pick (eqb b 32) t (after_space t)

-- everything after "index " on the first line of a header stanza: its tag and arguments
abbrev pub rest_of : List ℕ → List ℕ
rest_of line = after_space (after_space line)

-- a header stanza's mark: 0 conforming, 1 nonconforming, 2 unknown
abbrev pub finding_mark : Finding → ℕ
finding_mark conforming = 0
finding_mark nonconforming = 1
finding_mark unknown = 2

-- by the check of the session's plugin, when the command is accepted
abbrev pub header_mark : List ℕ → List ℕ → ℕ → ℕ
header_mark plugin line body = finding_mark (checked plugin (rest_of line) body)

-- a header stanza by what its index was read as
abbrev pub indexed : ReadIndex → ℕ → CommandOne
indexed (number i) m = header i m
indexed (refused n) m = bad n

-- recipient-stanza: an index, a tag, any more, any body; 4 before 5
abbrev pub header_command : List ℕ → List ℕ → ℕ → CommandOne
header_command plugin line body = pick (leb 3 (count_of line)) (indexed (read_index (argument_of line 1)) (header_mark plugin line body)) (bad 4)

-- no argument, and a body of n bytes
abbrev pub is_bare : List ℕ → ℕ → ℕ → Bool
is_bare line body n = eqb (count_of line) 1 && eqb body n

-- the rows of the table; wrap-file-key has no argument and a body of 16 bytes, done no argument and no body
abbrev pub row_command : WordOne → List ℕ → List ℕ → ℕ → CommandOne
row_command add_recipient plugin line body = text_command the_kind.Recipient plugin line body
row_command add_identity plugin line body = text_command the_kind.Identity plugin line body
row_command wrap_file_key plugin line body = pick (is_bare line body 16) key (bad 4)
row_command recipient_stanza plugin line body = header_command plugin line body
row_command done_command plugin line body = pick (is_bare line body 0) done (bad 4)
row_command other_word plugin line body = other

-- the command of a stanza: its arguments' text, and how many bytes its body has
abbrev pub command : Machine → List ℕ → List ℕ → ℕ → CommandOne
command machine plugin line body = row_command (word_in machine (argument_of line 0)) plugin line body

-- the word of a command that is accepted
abbrev pub word_of : CommandOne → WordOne
word_of (recipient m) = add_recipient
word_of (identity m) = add_identity
word_of key = wrap_file_key
word_of (header i m) = recipient_stanza
word_of done = done_command
word_of other = other_word
word_of (bad n) = other_word

-- the arguments' text of a command that is sent: its word, and behind a space what is given; any other word stands first in what is given
abbrev pub line_sent : WordOne → List ℕ → List ℕ
line_sent add_recipient arguments = line_with add_recipient_text arguments
line_sent add_identity arguments = line_with add_identity_text arguments
line_sent wrap_file_key arguments = line_with wrap_file_key_text arguments
line_sent recipient_stanza arguments = line_with recipient_stanza_text arguments
line_sent done_command arguments = line_with done_word arguments
line_sent other_word arguments = arguments

-- the text of a word, the command with nothing behind it; any other word has none of its own
abbrev pub text_of_word : WordOne → List ℕ
text_of_word w = line_sent w []

-- an entry's payload: the argument, the key, or for a header stanza the rest of its first line, the LF, and its body
abbrev pub payload_of : CommandOne → List ℕ → List ℕ → List ℕ
payload_of (recipient m) line body = argument_of line 1
payload_of (identity m) line body = argument_of line 1
payload_of key line body = body
payload_of (header i m) line body = rest_of line ++ 10 ∷ body
payload_of done line body = []
payload_of other line body = []
payload_of (bad n) line body = []

-- what the code's command stands for: its mark is the one that the text and the body have for a plugin
abbrev pub command_said : List ℕ → List ℕ → ℕ → Result CodeCommand Refusal → CommandOne
command_said plugin line body (Ok code_command.Recipient) = recipient (mark_of (parse (form_of the_kind.Recipient) (argument_of line 1)) plugin)
command_said plugin line body (Ok code_command.Identity) = identity (mark_of (parse (form_of the_kind.Identity) (argument_of line 1)) plugin)
command_said plugin line body (Ok code_command.Key) = key
command_said plugin line body (Ok (code_command.Header i)) = header i (header_mark plugin line body)
command_said plugin line body (Ok code_command.Done) = done
command_said plugin line body (Ok code_command.Other) = other
command_said plugin line body (Err r) = bad (number_of r)
