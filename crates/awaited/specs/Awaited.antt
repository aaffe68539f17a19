-- The stanza that waits for the host's reply, kept whole until then, since no piece of the input need hold it (document 02, No. 1), and what it says: a message in its body, and
-- for a confirm "one or two base64 labels" behind its word (document 01, "Phase two").
use Rattle.std.specs.Prelude.{ℕ, ◌+◌, ◌-◌, List, [], ltb, take}
use Rattle.strict_base64.specs.Code.{decoded}
use Rattle.refusal.specs.Pick.{pick}
use Rattle.stanza.specs.Arguments.{count_of, argument_of}
use Rattle.stanza.specs.Reading.{read_first}
use Rattle.session.specs.declared.sessions.Session.{Session as CodeSession}
use Rattle.conversation.specs.Calls.{line_read, body_read}
use Rattle.chunks.specs.Taking.{client}
use Rattle.intake.specs.Intake.{awaited_size}

-- its text, as the client end keeps it
abbrev pub awaited_text : CodeSession → List ℕ → List ℕ
awaited_text s input = take (awaited_size client s) input

-- the text of its arguments
abbrev pub line_in : List ℕ → List ℕ
line_in text = line_read (read_first text) text

-- its message
abbrev pub message_in : List ℕ → List ℕ
message_in text = body_read (read_first text) text

-- how many labels stand behind its word
abbrev pub label_count : List ℕ → ℕ
label_count text = count_of (line_in text) - 1

-- one of them, counted from 0; empty where there are not so many
abbrev pub label_in : ℕ → List ℕ → List ℕ
label_in n text = pick (ltb n (label_count text)) (decoded (argument_of (line_in text) (n + 1))) []
