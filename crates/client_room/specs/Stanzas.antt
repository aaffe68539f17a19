-- What the answers to one command of phase two that was received stand for.
use Rattle.std.specs.Prelude.{ℕ, ◌≡◌, List, eqb, Result, Ok, Err}
use Rattle.refusal.specs.Number.{number_of}
use Rattle.refusal.specs.Pick.{pick}
use Rattle.stanza.specs.Reading.{Reading, refused, read_first}
use Rattle.session.specs.Session.{Session}
use Rattle.conversation.specs.CommandsTwo.{CommandTwo, word_of}
use Rattle.conversation.specs.PhaseTwo.{BuffersTwo}
use Rattle.conversation.specs.ReceivingTwo.{Taking, took, declined, received_stanza}
use Rattle.chunks.specs.Taking.{Turn, reads, drops, keeps_back, ample}
use Rattle.refusal.specs.declared.Refusal.{Refusal}
use Rattle.client_room.specs.declared.stanzas.Taken.{Taken as CodeTaken}

-- the answer to a command c with the number n, of k bytes, with j bytes written
abbrev pub answer_of : ℕ → CommandTwo → ℕ → ℕ → Taking
answer_of n c k j = pick (eqb n 0) (took (word_of c) k j) (declined n)

-- the code's answer
abbrev pub taking_said : Result CodeTaken Refusal → Taking
taking_said (Ok t) = took t.word t.taken t.written
taking_said (Err r) = declined (number_of r)

-- the first stanza of a text, where it is the turn to read one; else there is none yet
abbrev pub next_in : Turn → List ℕ → Reading
next_in reads text = read_first text
next_in (drops n) text = refused 2
next_in keeps_back text = refused 2

-- the answer and the session of a whole stanza of k bytes that has room
pub record Tried (s : Session) (b : BuffersTwo) (line body : List ℕ) (k : ℕ) (answer : Taking) (after : Session) : Type 0 where
  pub answer_is : answer ≡ (received_stanza s b ample line body k).answer
  pub session_is : after ≡ (received_stanza s b ample line body k).session
