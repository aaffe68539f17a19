-- Its number of all is found first.
use mathlib.Core.Path.{◌∙◌}
use Rattle.phase_two_decision.proofs.Laws.Questions.{passes_among}
use Rattle.phase_two_decision.proofs.questions.is_unknown_in.Goals as goal

pub returns : goal.returns
returns c = c.is_unknown_at.ensures ∙ rw (rw c.span_of-span.ensures at c.number_of-n.ensures) (passes_among _ _ _ _)
