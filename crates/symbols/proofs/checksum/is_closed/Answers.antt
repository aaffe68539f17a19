-- The loop's invariant: the whole closes from the first state as what was seen is a symbol's and the rest of the text closes from the state reached.
use mathlib.Core.Path.{refl, sym, ap, ◌∙◌}
use mathlib.Core.Bool.{◌&&◌}
use lib.Dec.{ltb}
use native.Mathlib.Omega.{arith}
use borrow.Author.Rules.{rules}
use Rattle.symbols.specs.Steps.{value_in}
use Rattle.symbols.proofs.Laws.Folds.{closes_seen, closes_end}
use Rattle.symbols.proofs.checksum.is_closed.Goals as goal

pub loop-b-init : goal.loop-b-init
loop-b-init c = (search rules, refl)

pub loop-b-preserved : goal.loop-b-preserved
loop-b-preserved c = (search rules, rw (c.step-state.ensures, c.look_up-v.ensures) (c.loop-b.invariant.1 ∙ closes_seen (value_in c.args.table.now) c.args.text.now c.loop-b.b-index c.loop-b.state c.loop-b.seen (omega arith)))

pub returns : goal.returns
returns c = sym (c.loop-b.invariant.1 ∙ ap (λ x. ltb c.loop-b.seen 32 && x) (closes_end (value_in c.args.table.now) c.args.text.now c.loop-b.b-index c.loop-b.state (omega arith)))
