-- What the code's answers about turns stand for.
use Rattle.std.specs.Prelude.{Result, Ok, Err}
use Rattle.refusal.specs.Number.{number_of}
use Rattle.conversation.specs.TurnsTwo.{Due, due, undue}
use Rattle.chunks.specs.Taking.{Turn, reads, drops, keeps_back}
use Rattle.intake.specs.declared.turns.Turn.{Turn as CodeTurn}
use Rattle.intake.specs.declared.turns.Turn.TheVariants as the_turn
use Rattle.refusal.specs.declared.Refusal.{Refusal}
use Rattle.session.specs.declared.words.WordTwo.{WordTwo}

-- the command that awaits an answer, or the number
abbrev pub due_said : Result WordTwo Refusal → Due
due_said (Ok w) = due w
due_said (Err r) = undue (number_of r)

-- what becomes of bytes that are left
abbrev pub turn_said : CodeTurn → Turn
turn_said the_turn.Reads = reads
turn_said (the_turn.Drops r) = drops (number_of r)
turn_said the_turn.KeepsBack = keeps_back
