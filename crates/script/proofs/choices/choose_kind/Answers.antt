-- `choose_kind` meets its contract: the code's words are those of `kind_words`, and its choices are numbered in order.
use mathlib.Core.Path.{refl, ap, ◌∙◌}
use Rattle.script.proofs.Laws.Choice.{numbered}
use Rattle.script.specs.Choice.{kind_said}
use Rattle.script.proofs.choices.choose_kind.Goals as goal

pub returns : goal.returns
returns c = ap kind_said c.choose.ensures ∙ numbered kind_said c.args.word.now _ refl
