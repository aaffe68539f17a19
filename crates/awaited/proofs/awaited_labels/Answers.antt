-- One less than the words of its line.
use mathlib.Core.Path.{ap, ◌∙◌}
use Prim.Native.Nat.{◌-◌}
use native.Mathlib.Omega.{arith}
use Rattle.stanza.specs.Arguments.{count_of}
use Rattle.stanza.proofs.Laws.Arguments.{words_some}
use Rattle.awaited.proofs.awaited_labels.Goals as goal

pub overflow_sub-result : goal.overflow_sub-result
overflow_sub-result c = omega (arith, c.count.ensures, words_some c.line.result.now)

pub returns : goal.returns
returns c = ap (λ n. n - 1) (c.count.ensures ∙ ap count_of c.line.ensures)
