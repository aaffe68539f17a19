-- The five phases: a command awaits its answer in one of them.
use Rattle.intake.proofs.turns.answer_due.Goals as goal

pub returns-in-One : goal.returns-in-One
returns-in-One c = rw c.in-One.is

pub returns-in-Two : goal.returns-in-Two
returns-in-Two c = rw c.in-Two.is

pub returns-in-Awaiting : goal.returns-in-Awaiting
returns-in-Awaiting c = rw c.in-Awaiting.is

pub returns-in-Ended : goal.returns-in-Ended
returns-in-Ended c = rw c.in-Ended.is

pub returns-in-Closed : goal.returns-in-Closed
returns-in-Closed c = rw c.in-Closed.is
