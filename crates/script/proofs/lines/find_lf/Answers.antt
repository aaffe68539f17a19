-- `find_lf` meets its contract. Invariant: the line ends at the same place, seen from `from` and from i.
use Rattle.std.proofs.Common.{length, sym, ◌∙◌, arith}
use Rattle.std.proofs.Math.Decide.{dec_le}
use borrow.Author.Tests.{eq-eqb, ne_eqb}
use Rattle.refusal.proofs.Laws.Run.{run_in, run_out, run_end}
use Rattle.script.specs.Line.{is_line_byte}
use Rattle.script.proofs.lines.find_lf.Goals as goal

pub returns-then-text-i-eq10 : goal.returns-then-text-i-eq10
unfolding is_line_byte
returns-then-text-i-eq10 c = sym (c.loop-i.invariant ∙ run_out is_line_byte _ _ c.loop-i-test.true (rw (eq-eqb _ _ c.if-text-i-eq10.true)))

pub loop-i-preserved : goal.loop-i-preserved
unfolding is_line_byte
loop-i-preserved c = c.loop-i.invariant ∙ run_in is_line_byte _ _ c.loop-i-test.true (rw (ne_eqb _ _ c.if-text-i-eq10.false))

pub returns : goal.returns
returns c =
    let text = c.args.text.now in
    let here = run_end is_line_byte text c.loop-i.i c.loop-i-test.false in
    elim (dec_le c.args.from (length text)) [
      | yes h ↦ omega (arith, here, c.loop-i.invariant, c.loop-i.auto.i-end h)
      | no h ↦ omega (arith, run_end is_line_byte text c.args.from (omega arith))
    ]
