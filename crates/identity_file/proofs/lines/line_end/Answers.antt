-- The loop's invariant: the line ends where the run of bytes other than LF ends that goes on at i.
use Rattle.std.proofs.Common.{sym, ◌∙◌, arith}
use borrow.Author.Tests.{eq-eqb, ne_eqb}
use Rattle.refusal.proofs.Laws.Run.{run_in, run_out, run_end}
use Rattle.identity_file.specs.Lines.{is_line_byte}
use Rattle.identity_file.proofs.lines.line_end.Goals as goal

pub returns-then-text-i-eq10 : goal.returns-then-text-i-eq10
returns-then-text-i-eq10 c = sym (c.loop-i.invariant ∙ run_out is_line_byte c.args.text.now c.loop-i.i c.loop-i-test.true (rw (eq-eqb _ _ c.if-text-i-eq10.true)))

pub loop-i-preserved : goal.loop-i-preserved
loop-i-preserved c = c.loop-i.invariant ∙ run_in is_line_byte c.args.text.now c.loop-i.i c.loop-i-test.true (rw (ne_eqb _ _ c.if-text-i-eq10.false))

pub returns : goal.returns
returns c = omega (arith, c.requires, c.loop-i.invariant, run_end is_line_byte c.args.text.now c.loop-i.i c.loop-i-test.false)
