-- Which call a line of a script makes, by its first word: the number of the word among the words of the calls.
use Rattle.std.specs.Prelude.{ℕ, List, [], ◌∷◌, Option, Some, None}
use Rattle.script.specs.Choice.{recipient_word, identity_word}
use Rattle.script.specs.declared.calls.Call.{Call}
use Rattle.script.specs.declared.calls.Call.TheVariants.{Stanza, Write, Index, Checksum, Recipient, Identity, WriteRecipient, WriteIdentity, Profile, Judge, Open, Buffers, Send, Chunk, Reply, Awaited, Finish, Entry, Show, IdentityFile}

-- "stanza"
abbrev pub stanza_word : List ℕ
stanza_word = 115 ∷ 116 ∷ 97 ∷ 110 ∷ 122 ∷ 97 ∷ []

-- "write"
abbrev pub write_word : List ℕ
write_word = 119 ∷ 114 ∷ 105 ∷ 116 ∷ 101 ∷ []

-- "index"
abbrev pub index_word : List ℕ
index_word = 105 ∷ 110 ∷ 100 ∷ 101 ∷ 120 ∷ []

-- "checksum"
abbrev pub checksum_word : List ℕ
checksum_word = 99 ∷ 104 ∷ 101 ∷ 99 ∷ 107 ∷ 115 ∷ 117 ∷ 109 ∷ []

-- "write-recipient"
abbrev pub write_recipient_word : List ℕ
write_recipient_word = 119 ∷ 114 ∷ 105 ∷ 116 ∷ 101 ∷ 45 ∷ 114 ∷ 101 ∷ 99 ∷ 105 ∷ 112 ∷ 105 ∷ 101 ∷ 110 ∷ 116 ∷ []

-- "write-identity"
abbrev pub write_identity_word : List ℕ
write_identity_word = 119 ∷ 114 ∷ 105 ∷ 116 ∷ 101 ∷ 45 ∷ 105 ∷ 100 ∷ 101 ∷ 110 ∷ 116 ∷ 105 ∷ 116 ∷ 121 ∷ []

-- "profile"
abbrev pub profile_word : List ℕ
profile_word = 112 ∷ 114 ∷ 111 ∷ 102 ∷ 105 ∷ 108 ∷ 101 ∷ []

-- "judge"
abbrev pub judge_word : List ℕ
judge_word = 106 ∷ 117 ∷ 100 ∷ 103 ∷ 101 ∷ []

-- "open"
abbrev pub open_word : List ℕ
open_word = 111 ∷ 112 ∷ 101 ∷ 110 ∷ []

-- "buffers"
abbrev pub buffers_word : List ℕ
buffers_word = 98 ∷ 117 ∷ 102 ∷ 102 ∷ 101 ∷ 114 ∷ 115 ∷ []

-- "send"
abbrev pub send_word : List ℕ
send_word = 115 ∷ 101 ∷ 110 ∷ 100 ∷ []

-- "chunk"
abbrev pub chunk_word : List ℕ
chunk_word = 99 ∷ 104 ∷ 117 ∷ 110 ∷ 107 ∷ []

-- "reply"
abbrev pub reply_word : List ℕ
reply_word = 114 ∷ 101 ∷ 112 ∷ 108 ∷ 121 ∷ []

-- "awaited"
abbrev pub awaited_word : List ℕ
awaited_word = 97 ∷ 119 ∷ 97 ∷ 105 ∷ 116 ∷ 101 ∷ 100 ∷ []

-- "finish"
abbrev pub finish_word : List ℕ
finish_word = 102 ∷ 105 ∷ 110 ∷ 105 ∷ 115 ∷ 104 ∷ []

-- "entry"
abbrev pub entry_word : List ℕ
entry_word = 101 ∷ 110 ∷ 116 ∷ 114 ∷ 121 ∷ []

-- "show"
abbrev pub show_word : List ℕ
show_word = 115 ∷ 104 ∷ 111 ∷ 119 ∷ []

-- "identity-file"
abbrev pub identity_file_word : List ℕ
identity_file_word = 105 ∷ 100 ∷ 101 ∷ 110 ∷ 116 ∷ 105 ∷ 116 ∷ 121 ∷ 45 ∷ 102 ∷ 105 ∷ 108 ∷ 101 ∷ []

-- all of them
abbrev pub call_words : List (List ℕ)
call_words = stanza_word ∷ write_word ∷ index_word ∷ checksum_word ∷ recipient_word ∷ identity_word ∷ write_recipient_word ∷ write_identity_word ∷ profile_word ∷ judge_word ∷ open_word ∷ buffers_word ∷ send_word ∷ chunk_word ∷ reply_word ∷ awaited_word ∷ finish_word ∷ entry_word ∷ show_word ∷ identity_file_word ∷ []

-- the number of the code's answer
abbrev pub call_said : Option Call → ℕ
call_said (Some Stanza) = 0
call_said (Some Write) = 1
call_said (Some Index) = 2
call_said (Some Checksum) = 3
call_said (Some Recipient) = 4
call_said (Some Identity) = 5
call_said (Some WriteRecipient) = 6
call_said (Some WriteIdentity) = 7
call_said (Some Profile) = 8
call_said (Some Judge) = 9
call_said (Some Open) = 10
call_said (Some Buffers) = 11
call_said (Some Send) = 12
call_said (Some Chunk) = 13
call_said (Some Reply) = 14
call_said (Some Awaited) = 15
call_said (Some Finish) = 16
call_said (Some Entry) = 17
call_said (Some Show) = 18
call_said (Some IdentityFile) = 19
call_said None = 20
