-- Whose turn it is in phase two (document 01, "Numbers given back": 13, 14).
use Rattle.std.specs.Prelude.{ℕ}
use Rattle.session.specs.declared.words.WordTwo.{WordTwo}
use Rattle.session.specs.declared.phases.Phase.{Phase}
use Rattle.session.specs.declared.phases.Phase.TheVariants.{One, Two, Awaiting, Ended, Closed}
use Rattle.session.specs.Session.{Session, moved}

-- a command: No. 13, the session is closed or has ended; No. 14, a call of the other phase, or a command while an answer is due
abbrev pub turn_two : Phase → ℕ
turn_two One = 14
turn_two Two = 0
turn_two (Awaiting w) = 14
turn_two Ended = 13
turn_two Closed = 13

-- an answer: the command that awaits it, or the number
pub data Due : Type 0 where
  due : WordTwo → Due
  undue : ℕ → Due

-- No. 13, the session is closed or has ended; No. 14, nothing is awaited
abbrev pub due_in : Phase → Due
due_in One = undue 14
due_in Two = undue 14
due_in (Awaiting w) = due w
due_in Ended = undue 13
due_in Closed = undue 13

-- the session, its tables as they were, with the answer given
abbrev pub answered : Session → Session
answered s = moved s Two s.tables
