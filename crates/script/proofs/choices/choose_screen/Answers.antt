-- `choose_screen` meets its contract: the code's words are those of `screen_words`, and its choices are numbered in order.
use mathlib.Core.Path.{refl, ap, ◌∙◌}
use Rattle.script.proofs.Laws.Choice.{numbered}
use Rattle.script.specs.Choice.{screen_said}
use Rattle.script.proofs.choices.choose_screen.Goals as goal

pub returns : goal.returns
returns c = ap screen_said c.choose.ensures ∙ numbered screen_said c.args.word.now _ refl
