-- The tests in the definition's order: tag, arguments, body.
use mathlib.Core.Path.{sym, ◌∙◌}
use borrow.Author.Tests.{not-true, not-false, eq-eqb, ne_eqb}
use Rattle.profile.proofs.check.Goals as goal

pub returns-then-not-is_known : goal.returns-then-not-is_known
returns-then-not-is_known c = rw (sym c.is_known.ensures ∙ not-true c.is_known.result c.if-not-is_known.true-raw)

pub returns-then-not-are_arguments : goal.returns-then-not-are_arguments
returns-then-not-are_arguments c = rw (sym c.is_known.ensures ∙ not-false c.is_known.result c.if-not-is_known.false-raw, sym c.are_arguments.ensures ∙ not-true c.are_arguments.result c.if-not-are_arguments.true-raw)

pub returns-then-body-eq-BODY : goal.returns-then-body-eq-BODY
returns-then-body-eq-BODY c = rw (sym c.is_known.ensures ∙ not-false c.is_known.result c.if-not-is_known.false-raw, sym c.are_arguments.ensures ∙ not-false c.are_arguments.result c.if-not-are_arguments.false-raw, eq-eqb c.args.body 32 c.if-body-eq-BODY.true)

pub returns : goal.returns
returns c = rw (sym c.is_known.ensures ∙ not-false c.is_known.result c.if-not-is_known.false-raw, sym c.are_arguments.ensures ∙ not-false c.are_arguments.result c.if-not-are_arguments.false-raw, ne_eqb c.args.body 32 c.if-body-eq-BODY.false)
