-- `spell` meets its contract. Invariant: the n bytes stored print what stands before the index; behind them the buffer is as it was, and has space for the rest.
use Rattle.std.proofs.Common.{◌∙◌, get_or, arith}
use Rattle.script.specs.Escape.{printed}
use Rattle.script.proofs.Laws.Escape.{spell_space, spell_kept, spell_more, spell_whole}
use lib.Seq.{length-sets}
use Rattle.script.proofs.escaping.spell.Goals as goal

pub put-n-requires : goal.put-n-requires
put-n-requires c =
    omega (arith, spell_space c.args.bytes.now c.loop-b.out c.args.out.now c.loop-b.n c.loop-b.b-index c.loop-b-test.true c.loop-b.invariant.1)

pub loop-b-preserved : goal.loop-b-preserved
loop-b-preserved c = let bytes = c.args.bytes.now in
    let out = c.args.out.now in
    let out' = c.loop-b.out in
    let n = c.loop-b.n in
    let i = c.loop-b.b-index in (
      rw c.put-n.ensures.buffer (length-sets out' n (printed (get_or bytes i 0)) ∙ c.loop-b.invariant.0),
      rw (c.put-n.ensures.buffer, c.put-n.ensures.next, length-sets) (spell_space bytes out' out n i c.loop-b-test.true c.loop-b.invariant.1),
      rw (c.put-n.ensures.buffer, c.put-n.ensures.next) (spell_kept bytes out' out n i c.loop-b-test.true c.loop-b.invariant.1 c.loop-b.invariant.2),
      rw (c.put-n.ensures.buffer, c.put-n.ensures.next) (spell_more bytes out' out n i c.loop-b-test.true c.loop-b.invariant.1 c.loop-b.invariant.3),
    )

pub returns : goal.returns
returns c = spell_whole c.args.bytes.now c.loop-b.out c.args.out.now c.loop-b.n c.loop-b.b-index c.loop-b-test.false (omega arith) c.loop-b.invariant.2 c.loop-b.invariant.3
