-- `choose_call` meets its contract: the code's words are those of `call_words`, and its choices are numbered in order.
use mathlib.Core.Path.{refl, ap, ◌∙◌}
use Rattle.script.proofs.Laws.Choice.{numbered}
use Rattle.script.specs.Call.{call_said}
use Rattle.script.proofs.calls.choose_call.Goals as goal

pub returns : goal.returns
returns c = ap call_said c.choose.ensures ∙ numbered call_said c.args.word.now _ refl
