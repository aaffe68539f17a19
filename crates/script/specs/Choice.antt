-- The choices of words in a script: an end, a screen, a kind, a command of either phase, a reply. A choice is the number of its word in a list, byte for byte, counted from 0; the
-- number of any other word is how many they are.
use Rattle.std.specs.Prelude.{ℕ, suc, List, [], ◌∷◌, Option, Some, None}
use Rattle.std.specs.Borrow.{Bor}
use Rattle.refusal.specs.Pick.{pick}
use Rattle.refusal.specs.Same.{same}
use Rattle.script.specs.declared.choices.CommandChoice.{CommandChoice}
use Rattle.script.specs.declared.choices.CommandChoice.TheVariants as command_is
use Rattle.script.specs.declared.choices.CommandTwoChoice.{CommandTwoChoice}
use Rattle.script.specs.declared.choices.CommandTwoChoice.TheVariants as two_is
use Rattle.script.specs.declared.choices.EndChoice.{EndChoice}
use Rattle.script.specs.declared.choices.EndChoice.TheVariants as end_is
use Rattle.script.specs.declared.choices.KindChoice.{KindChoice}
use Rattle.script.specs.declared.choices.KindChoice.TheVariants as kind_is
use Rattle.script.specs.declared.choices.ReplyChoice.{ReplyChoice}
use Rattle.script.specs.declared.choices.ReplyChoice.TheVariants as reply_is
use Rattle.script.specs.declared.choices.ScreenChoice.{ScreenChoice}
use Rattle.script.specs.declared.choices.ScreenChoice.TheVariants as screen_is

-- the number of a word among words
unfoldable pub place : List ℕ → List (List ℕ) → ℕ
place w [] = 0
place w (v ∷ vs) = pick (same w v) 0 (suc (place w vs))

-- what a word names in the code's table of words and choices
unfoldable pub chosen : {A : Type 0} → List ℕ → List (Bor (List ℕ) × A) → Option A
chosen w [] = None
chosen w (c ∷ cs) = pick (same w c.0.now) (Some c.1) (chosen w cs)

-- ---- an end

-- "client"
abbrev pub client_word : List ℕ
client_word = 99 ∷ 108 ∷ 105 ∷ 101 ∷ 110 ∷ 116 ∷ []

-- "plugin"
abbrev pub plugin_word : List ℕ
plugin_word = 112 ∷ 108 ∷ 117 ∷ 103 ∷ 105 ∷ 110 ∷ []

-- the words for an end, in order
abbrev pub end_words : List (List ℕ)
end_words = client_word ∷ plugin_word ∷ []

-- the number of the code's answer
abbrev pub end_said : Option EndChoice → ℕ
end_said (Some end_is.Client) = 0
end_said (Some end_is.Plugin) = 1
end_said None = 2

-- ---- what an opening says of the screen

-- "screen"
abbrev pub screen_word : List ℕ
screen_word = 115 ∷ 99 ∷ 114 ∷ 101 ∷ 101 ∷ 110 ∷ []

-- "no-screen"
abbrev pub no_screen_word : List ℕ
no_screen_word = 110 ∷ 111 ∷ 45 ∷ 115 ∷ 99 ∷ 114 ∷ 101 ∷ 101 ∷ 110 ∷ []

-- "default"
abbrev pub default_word : List ℕ
default_word = 100 ∷ 101 ∷ 102 ∷ 97 ∷ 117 ∷ 108 ∷ 116 ∷ []

-- the words for the screen, in order
abbrev pub screen_words : List (List ℕ)
screen_words = screen_word ∷ no_screen_word ∷ default_word ∷ []

-- the number of the code's answer
abbrev pub screen_said : Option ScreenChoice → ℕ
screen_said (Some screen_is.Shown) = 0
screen_said (Some screen_is.Missing) = 1
screen_said (Some screen_is.Default) = 2
screen_said None = 3

-- ---- a kind that is looked up

-- "recipient"
abbrev pub recipient_word : List ℕ
recipient_word = 114 ∷ 101 ∷ 99 ∷ 105 ∷ 112 ∷ 105 ∷ 101 ∷ 110 ∷ 116 ∷ []

-- "identity"
abbrev pub identity_word : List ℕ
identity_word = 105 ∷ 100 ∷ 101 ∷ 110 ∷ 116 ∷ 105 ∷ 116 ∷ 121 ∷ []

-- the words for a kind, in order
abbrev pub kind_words : List (List ℕ)
kind_words = recipient_word ∷ identity_word ∷ []

-- the number of the code's answer
abbrev pub kind_said : Option KindChoice → ℕ
kind_said (Some kind_is.Recipient) = 0
kind_said (Some kind_is.Identity) = 1
kind_said None = 2

-- ---- a command of phase one that is sent

-- "add-recipient"
abbrev pub add_recipient_word : List ℕ
add_recipient_word = 97 ∷ 100 ∷ 100 ∷ 45 ∷ 114 ∷ 101 ∷ 99 ∷ 105 ∷ 112 ∷ 105 ∷ 101 ∷ 110 ∷ 116 ∷ []

-- "add-identity"
abbrev pub add_identity_word : List ℕ
add_identity_word = 97 ∷ 100 ∷ 100 ∷ 45 ∷ 105 ∷ 100 ∷ 101 ∷ 110 ∷ 116 ∷ 105 ∷ 116 ∷ 121 ∷ []

-- "wrap-file-key"
abbrev pub wrap_file_key_word : List ℕ
wrap_file_key_word = 119 ∷ 114 ∷ 97 ∷ 112 ∷ 45 ∷ 102 ∷ 105 ∷ 108 ∷ 101 ∷ 45 ∷ 107 ∷ 101 ∷ 121 ∷ []

-- "recipient-stanza"
abbrev pub recipient_stanza_word : List ℕ
recipient_stanza_word = 114 ∷ 101 ∷ 99 ∷ 105 ∷ 112 ∷ 105 ∷ 101 ∷ 110 ∷ 116 ∷ 45 ∷ 115 ∷ 116 ∷ 97 ∷ 110 ∷ 122 ∷ 97 ∷ []

-- "done"
abbrev pub done_word : List ℕ
done_word = 100 ∷ 111 ∷ 110 ∷ 101 ∷ []

-- the words for a command of phase one, in order
abbrev pub command_words : List (List ℕ)
command_words = add_recipient_word ∷ add_identity_word ∷ wrap_file_key_word ∷ recipient_stanza_word ∷ done_word ∷ []

-- the number of the code's answer
abbrev pub command_said : Option CommandChoice → ℕ
command_said (Some command_is.AddRecipient) = 0
command_said (Some command_is.AddIdentity) = 1
command_said (Some command_is.WrapFileKey) = 2
command_said (Some command_is.RecipientStanza) = 3
command_said (Some command_is.Done) = 4
command_said None = 5

-- ---- a command of phase two that is sent

-- "msg"
abbrev pub msg_word : List ℕ
msg_word = 109 ∷ 115 ∷ 103 ∷ []

-- "confirm"
abbrev pub confirm_word : List ℕ
confirm_word = 99 ∷ 111 ∷ 110 ∷ 102 ∷ 105 ∷ 114 ∷ 109 ∷ []

-- "request-public"
abbrev pub request_public_word : List ℕ
request_public_word = 114 ∷ 101 ∷ 113 ∷ 117 ∷ 101 ∷ 115 ∷ 116 ∷ 45 ∷ 112 ∷ 117 ∷ 98 ∷ 108 ∷ 105 ∷ 99 ∷ []

-- "request-secret"
abbrev pub request_secret_word : List ℕ
request_secret_word = 114 ∷ 101 ∷ 113 ∷ 117 ∷ 101 ∷ 115 ∷ 116 ∷ 45 ∷ 115 ∷ 101 ∷ 99 ∷ 114 ∷ 101 ∷ 116 ∷ []

-- "file-key"
abbrev pub file_key_word : List ℕ
file_key_word = 102 ∷ 105 ∷ 108 ∷ 101 ∷ 45 ∷ 107 ∷ 101 ∷ 121 ∷ []

-- "error"
abbrev pub error_word : List ℕ
error_word = 101 ∷ 114 ∷ 114 ∷ 111 ∷ 114 ∷ []

-- the words for a command of phase two, in order
abbrev pub command_two_words : List (List ℕ)
command_two_words = msg_word ∷ confirm_word ∷ request_public_word ∷ request_secret_word ∷ recipient_stanza_word ∷ file_key_word ∷ error_word ∷ done_word ∷ []

-- the number of the code's answer
abbrev pub command_two_said : Option CommandTwoChoice → ℕ
command_two_said (Some two_is.Msg) = 0
command_two_said (Some two_is.Confirm) = 1
command_two_said (Some two_is.RequestPublic) = 2
command_two_said (Some two_is.RequestSecret) = 3
command_two_said (Some two_is.RecipientStanza) = 4
command_two_said (Some two_is.FileKey) = 5
command_two_said (Some two_is.Error) = 6
command_two_said (Some two_is.Done) = 7
command_two_said None = 8

-- ---- a reply

-- "ok"
abbrev pub ok_word : List ℕ
ok_word = 111 ∷ 107 ∷ []

-- "yes"
abbrev pub yes_word : List ℕ
yes_word = 121 ∷ 101 ∷ 115 ∷ []

-- "no"
abbrev pub no_word : List ℕ
no_word = 110 ∷ 111 ∷ []

-- "fail"
abbrev pub fail_word : List ℕ
fail_word = 102 ∷ 97 ∷ 105 ∷ 108 ∷ []

-- "unsupported"
abbrev pub unsupported_word : List ℕ
unsupported_word = 117 ∷ 110 ∷ 115 ∷ 117 ∷ 112 ∷ 112 ∷ 111 ∷ 114 ∷ 116 ∷ 101 ∷ 100 ∷ []

-- the words for a reply, in order
abbrev pub reply_words : List (List ℕ)
reply_words = ok_word ∷ yes_word ∷ no_word ∷ fail_word ∷ unsupported_word ∷ []

-- the number of the code's answer
abbrev pub reply_said : Option ReplyChoice → ℕ
reply_said (Some reply_is.Ok) = 0
reply_said (Some reply_is.Yes) = 1
reply_said (Some reply_is.No) = 2
reply_said (Some reply_is.Fail) = 3
reply_said (Some reply_is.Unsupported) = 4
reply_said None = 5
