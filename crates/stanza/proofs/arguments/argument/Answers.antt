-- A turn passes over one word.
use mathlib.Core.Path.{◌≡◌, sym, ap, ◌∙◌}
use Prim.Native.Nat.{◌+◌, ◌-◌}
use lib.ListN.{drop}
use native.Mathlib.Omega.{arith}
use Rattle.refusal.proofs.Laws.Run.{end_le}
use Rattle.stanza.specs.Arguments.{is_word_byte, argument_of}
use Rattle.stanza.proofs.Laws.Arguments.{argument_here, argument_none, argument_next}
use Rattle.stanza.proofs.arguments.argument.Goals as goal

pub returns-then-line-end : goal.returns-then-line-end
returns-then-line-end c = let line = c.args.line.now in
    let from = c.loop.at in
    let r = c.word_end-end.result in
    sym (c.loop.invariant.1 ∙ argument_none line from r c.word_end-end.ensures (c.args.k - c.loop.counter) (omega arith) (omega arith))

pub loop-preserved : goal.loop-preserved
loop-preserved c = let line = c.args.line.now in
    let from = c.loop.at in
    let r = c.word_end-end.result in
    let n : c.args.k - c.loop.counter - 1 ≡ c.args.k - (c.loop.counter + 1) = omega arith in
    (omega arith, rw n at (c.loop.invariant.1 ∙ argument_next line from r c.word_end-end.ensures (c.args.k - c.loop.counter) (omega arith) (omega arith)))

pub slice_bounds-result-end-2 : goal.slice_bounds-result-end-2
slice_bounds-result-end-2 c = let line = c.args.line.now in
    let from = c.loop.at in
    omega (arith, end_le is_word_byte line from c.loop.invariant.0)

pub returns : goal.returns
returns c = let line = c.args.line.now in
    let from = c.loop.at in
    let r = c.word_end-end-2.result in
    sym (c.loop.invariant.1 ∙ ap (argument_of (drop from line)) (omega arith) ∙ argument_here line from r c.word_end-end-2.ensures)
