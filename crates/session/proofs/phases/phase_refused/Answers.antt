-- `is_closing` decides.
use mathlib.Core.Path.{sym, ◌∙◌}
use Rattle.session.proofs.phases.phase_refused.Goals as goal

pub returns-then-is_closing : goal.returns-then-is_closing
returns-then-is_closing c = rw (sym c.is_closing.ensures ∙ c.if-is_closing.true)

pub returns : goal.returns
returns c = rw (sym c.is_closing.ensures ∙ c.if-is_closing.false)
