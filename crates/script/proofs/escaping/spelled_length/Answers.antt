-- `spelled_length` meets its contract. Invariant: n bytes print what stands before the index, and n is within the limit.
use borrow.Author.Tests.{lt-ltb, le-ltb}
use Rattle.std.proofs.Common.{◌≡◌, length, ap, arith}
use Rattle.script.specs.Escape.{spelled}
use Rattle.script.proofs.Laws.Escape.{spelled_ends, spelled_length_lem}
use Rattle.script.proofs.escaping.spelled_length.Goals as goal

pub returns-then-limit-n : goal.returns-then-limit-n
returns-then-limit-n c = let bytes = c.args.bytes.now in
    rw (lt-ltb c.args.limit (length (spelled bytes)) (omega (arith, spelled_length_lem bytes c.loop-b.b-index c.loop-b-test.true)))

pub loop-b-preserved : goal.loop-b-preserved
loop-b-preserved c = omega (arith, spelled_length_lem c.args.bytes.now c.loop-b.b-index c.loop-b-test.true)

pub returns : goal.returns
returns c = let bytes = c.args.bytes.now in
    let n = c.loop-b.n in
    let e : length (spelled bytes) ≡ n = omega (arith, ap length (spelled_ends bytes c.loop-b.b-index c.loop-b-test.false)) in
    rw (e, le-ltb c.args.limit n (omega arith))
