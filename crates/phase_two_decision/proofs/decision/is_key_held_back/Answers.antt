-- An invalid entry first, then a header stanza of the file with the mark of a nonconforming one.
use mathlib.Core.Path.{sym, ◌∙◌}
use Rattle.phase_two_decision.proofs.decision.is_key_held_back.Goals as goal

pub returns-then-has_invalid : goal.returns-then-has_invalid
returns-then-has_invalid c = rw (sym (c.has_invalid.ensures c.args.header_slots.now) ∙ c.if-has_invalid.true) c.if-has_invalid.true

pub returns-else-has_invalid : goal.returns-else-has_invalid
returns-else-has_invalid c = rw (sym (c.has_invalid.ensures c.args.header_slots.now) ∙ c.if-has_invalid.false) (rw c.span_of.ensures at c.has_labelled.ensures)
