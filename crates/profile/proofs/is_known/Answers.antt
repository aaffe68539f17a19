-- The plugin's name decides first, then the tag.
use mathlib.Core.Path.{sym, ◌∙◌}
use borrow.Author.Tests.{not-true, not-false}
use Rattle.profile.proofs.is_known.Goals as goal

pub returns-then-not-is_lowered : goal.returns-then-not-is_lowered
returns-then-not-is_lowered c = rw (sym c.is_lowered.ensures ∙ not-true c.is_lowered.result c.if-not-is_lowered.true-raw)

pub returns : goal.returns
returns c = rw (sym c.is_lowered.ensures ∙ not-false c.is_lowered.result c.if-not-is_lowered.false-raw, ← c.argument-tag.ensures) c.is_same.ensures
