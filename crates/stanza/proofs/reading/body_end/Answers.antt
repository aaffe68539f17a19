-- Invariant: the automaton comes to the same from `from` and from i; a full line brings it back to where it was.
use mathlib.Core.Path.{sym, ◌∙◌}
use native.Mathlib.Omega.{arith}
use Rattle.stanza.proofs.Laws.Automaton.{line_full}
use Rattle.stanza.proofs.reading.body_end.Goals as goal

pub loop-i-smaller : goal.loop-i-smaller
loop-i-smaller c = omega (arith, (line_full c.args.text.now c.loop-i.i (sym c.full_line.ensures ∙ c.loop-i-test.true)).0)

pub loop-i-preserved : goal.loop-i-preserved
loop-i-preserved c = ((line_full c.args.text.now c.loop-i.i (sym c.full_line.ensures ∙ c.loop-i-test.true)).0, c.loop-i.invariant.1 ∙ (line_full c.args.text.now c.loop-i.i (sym c.full_line.ensures ∙ c.loop-i-test.true)).1)
