-- What an end gives back, said of its call alone (document 01, "Stanza text": a call "says how many bytes that was"; "Phase two": "the plugin end gives back which it
-- was and writes its decoded body to the output room"; "the client end gives back which it is and writes nothing").
use Rattle.std.specs.Prelude.{ℕ, ◌≡◌, length}
use Rattle.stanza.specs.Grammar.{stanza_text}
use Rattle.stanza.specs.Reading as reading
use Rattle.stanza.specs.Reading.{Reading, read_first}
use Rattle.responses.specs.Responses as responses
use Rattle.responses.specs.Responses.{ResponseRead, response_of, response_line}
use Rattle.phase_one.specs.Commands as one_command
use Rattle.session.specs.Session.{Session}
use Rattle.conversation.specs.Calls.{Call, receive, send, receive_two, reply, send_two, respond, Given, command_one, given_command_two, response, wrote, nothing, outcome}
use Rattle.conversation.specs.CommandsTwo as two_command
use Rattle.conversation.specs.Kinds.{Buffers}
use Rattle.conversation.specs.Phases.{line_in, body_in, word_of, command_in}
use Rattle.conversation.specs.ReceivingTwo.{at_once, text_of}

-- the bytes of the first stanza of a text
abbrev pub taken_by : Reading → ℕ
taken_by (reading.stanza e n k) = k
taken_by (reading.refused n) = 0

-- a response, with the bytes taken and its body's length
abbrev pub response_given : ResponseRead → ℕ → ℕ → Given
response_given (responses.response r) k n = response r k n
response_given responses.nothing k n = nothing

-- what an accepted call gives back: a command's word is what its text's first argument names for the machine, a response is what its arguments' text is
abbrev pub given_by : Session → Call → Given
given_by s (receive text) = command_one (one_command.word_in s.machine (word_of text)) (taken_by (read_first text))
given_by s (send word arguments body out) = wrote (length (stanza_text (one_command.line_sent word arguments) body))
given_by s (receive_two text out) =
    given_command_two (two_command.word_two s.machine (word_of text)) (taken_by (read_first text)) (length (text_of (at_once s.screen (command_in s.machine text))))
given_by s (reply r body out) = wrote (length (stanza_text (response_line r) body))
given_by s (send_two word arguments body out) = wrote (length (stanza_text (two_command.line_sent word arguments) body))
given_by s (respond text out) = response_given (response_of (line_in text)) (taken_by (read_first text)) (length (body_in text))

-- a call gives that back where it is accepted, and nothing where it is refused
pub record GivenBack (s : Session) (b : Buffers) (c : Call) : Type 0 where
  pub accepted : (outcome s b c).number ≡ 0 → (outcome s b c).given ≡ given_by s c
  pub refused : ((outcome s b c).number ≡ 0 → ⊥) → (outcome s b c).given ≡ nothing
