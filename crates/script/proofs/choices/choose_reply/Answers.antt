-- `choose_reply` meets its contract: the code's words are those of `reply_words`, and its choices are numbered in order.
use mathlib.Core.Path.{refl, ap, ◌∙◌}
use Rattle.script.proofs.Laws.Choice.{numbered}
use Rattle.script.specs.Choice.{reply_said}
use Rattle.script.proofs.choices.choose_reply.Goals as goal

pub returns : goal.returns
returns c = ap reply_said c.choose.ensures ∙ numbered reply_said c.args.word.now _ refl
