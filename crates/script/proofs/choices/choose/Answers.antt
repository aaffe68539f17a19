-- `choose` meets its contract. Invariant: the word names what it names among the choices that are left.
use mathlib.Core.Path.{sym, ◌∙◌}
use Rattle.script.proofs.Laws.Choice.{chosen_here, chosen_later, chosen_none}
use Rattle.script.proofs.choices.choose.Goals as goal

pub returns-then-eq : goal.returns-then-eq
returns-then-eq g c =
    sym (c.loop-name.invariant ∙ chosen_here c.args.word.now c.args.choices.now c.loop-name.name-index c.loop-name-item.result c.loop-name-test.true c.loop-name-item.is (sym c.eq.ensures ∙ c.if-eq.true))

pub loop-name-preserved : goal.loop-name-preserved
loop-name-preserved g c =
    c.loop-name.invariant ∙ chosen_later c.args.word.now c.args.choices.now c.loop-name.name-index c.loop-name-item.result c.loop-name-test.true c.loop-name-item.is (sym c.eq.ensures ∙ c.if-eq.false)

pub returns : goal.returns
returns g c = sym (c.loop-name.invariant ∙ chosen_none c.args.word.now c.args.choices.now c.loop-name.name-index c.loop-name-test.false)
