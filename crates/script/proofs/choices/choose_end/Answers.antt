-- `choose_end` meets its contract: the code's words are those of `end_words`, and its choices are numbered in order.
use mathlib.Core.Path.{refl, ap, ◌∙◌}
use Rattle.script.proofs.Laws.Choice.{numbered}
use Rattle.script.specs.Choice.{end_said}
use Rattle.script.proofs.choices.choose_end.Goals as goal

pub returns : goal.returns
returns c = ap end_said c.choose.ensures ∙ numbered end_said c.args.word.now _ refl
