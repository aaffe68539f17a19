-- `is_line` meets its contract. Invariant: the text is a line exactly if what stands from `at` on is one.
use mathlib.Core.Path.{sym, ◌∙◌}
use native.Mathlib.Omega.{arith}
use Rattle.refusal.specs.Run.{is_graphic}
use Rattle.refusal.proofs.Laws.Run.{end_le}
use Rattle.stanza.proofs.Laws.Arguments.{line_empty, line_last, line_bad, line_next}
use Rattle.stanza.proofs.arguments.is_line.Goals as goal

pub returns-then-end-at : goal.returns-then-end-at
returns-then-end-at c = let line = c.args.line.now in
    let from = c.loop-at.at in
    let r = c.graphic_end-end.result in
    sym (c.loop-at.invariant.1 ∙ line_empty line from r c.graphic_end-end.ensures (omega arith))

pub returns-then-end-line : goal.returns-then-end-line
returns-then-end-line c = let line = c.args.line.now in
    let from = c.loop-at.at in
    let r = c.graphic_end-end.result in
    sym (c.loop-at.invariant.1 ∙ line_last line from r c.graphic_end-end.ensures (λ q. omega arith) (omega arith))

pub bounds-line-end : goal.bounds-line-end
bounds-line-end c = let line = c.args.line.now in
    let from = c.loop-at.at in
    omega (arith, end_le is_graphic line from c.loop-at.invariant.0)

pub returns-then-line-end-ne32 : goal.returns-then-line-end-ne32
returns-then-line-end-ne32 c = let line = c.args.line.now in
    let from = c.loop-at.at in
    let r = c.graphic_end-end.result in
    sym (c.loop-at.invariant.1 ∙ line_bad line from r c.graphic_end-end.ensures (λ q. omega arith) c.loop-at.invariant.0 (λ q. omega arith) (λ q. omega arith))

pub loop-at-preserved : goal.loop-at-preserved
loop-at-preserved c = let line = c.args.line.now in
    let from = c.loop-at.at in
    let r = c.graphic_end-end.result in (
      omega (arith, end_le is_graphic line from c.loop-at.invariant.0),
      c.loop-at.invariant.1 ∙ line_next line from r c.graphic_end-end.ensures (λ q. omega arith) c.loop-at.invariant.0 (λ q. omega arith) (omega arith),
    )
