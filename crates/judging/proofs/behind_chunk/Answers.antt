-- The five phases.
use mathlib.Core.Path.{ap, ◌∙◌}
use Rattle.session.specs.Tables.{tables_in}
use Rattle.judging.specs.Judging.{stopped, counted}
use Rattle.judging.proofs.behind_chunk.Goals as goal

pub returns-in-One : goal.returns-in-One
returns-in-One c = λ xs hs input. rw c.in-One.is

pub returns-in-Two : goal.returns-in-Two
returns-in-Two c = λ xs hs input. rw c.in-Two.is (ap stopped (c.count.ensures xs hs))

pub returns-in-Awaiting : goal.returns-in-Awaiting
returns-in-Awaiting c = λ xs hs input. rw c.in-Awaiting.is (ap stopped (c.count-in-Awaiting.ensures xs hs))

pub returns-in-Ended : goal.returns-in-Ended
returns-in-Ended c = λ xs hs input. rw c.in-Ended.is (ap stopped (c.count-in-Ended.ensures xs hs))

pub returns-in-Closed : goal.returns-in-Closed
returns-in-Closed c = λ xs hs input. rw c.in-Closed.is (ap stopped (c.count-in-Closed.ensures xs hs ∙ ap (counted (tables_in c.args.session.tables xs hs)) c.verdict_number.ensures))
