-- `choose_command` meets its contract: the code's words are those of `command_words`, and its choices are numbered in order.
use mathlib.Core.Path.{refl, ap, ◌∙◌}
use Rattle.script.proofs.Laws.Choice.{numbered}
use Rattle.script.specs.Choice.{command_said}
use Rattle.script.proofs.choices.choose_command.Goals as goal

pub returns : goal.returns
returns c = ap command_said c.choose.ensures ∙ numbered command_said c.args.word.now _ refl
