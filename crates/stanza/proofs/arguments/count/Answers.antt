-- `count` meets its contract. Invariant: n counts the words that have begun, the one at `at` among them.
use native.Mathlib.Omega.{arith}
use Rattle.stanza.proofs.Laws.Arguments.{count_last, count_next}
use Rattle.stanza.proofs.arguments.count.Goals as goal

pub returns-then-line-end : goal.returns-then-line-end
returns-then-line-end c = let line = c.args.line.now in
    let from = c.loop-n.at in
    let r = c.word_end-end.result in
    omega (arith, count_last line from r c.word_end-end.ensures (omega arith))

pub loop-n-preserved : goal.loop-n-preserved
loop-n-preserved c = let line = c.args.line.now in
    let from = c.loop-n.at in
    let r = c.word_end-end.result in
    omega (arith, count_next line from r c.word_end-end.ensures (omega arith))
