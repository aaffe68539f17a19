-- Stopped, or the input ended before done.
use mathlib.Core.Path.{ap, ◌∙◌}
use Rattle.session.specs.Tables.{tables_in}
use Rattle.judging.specs.Judging.{counted}
use Rattle.judging.proofs.Judging.numbers.Goals as goal

pub returns-in-Some : goal.returns-in-Some
returns-in-Some c = λ xs hs input. rw c.in-Some.is

pub returns-in-None : goal.returns-in-None
returns-in-None c = λ xs hs input. rw c.in-None.is (c.count.ensures xs hs ∙ ap (counted (tables_in c.args.self.session.tables xs hs)) (c.verdict_number.ensures ∙ c.finish.ensures))
