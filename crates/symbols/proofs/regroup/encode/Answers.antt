-- As many places as `out` has make fewer bytes than the payload has exactly if its symbols do not fit.
use lib.ListN.{length}
use native.Mathlib.Omega.{arith}
use borrow.Author.Tests.{lt-ltb}
use Rattle.symbols.specs.Regroup.{symbols}
use Rattle.symbols.proofs.Laws.Groups.{symbols_length}
use Rattle.symbols.proofs.regroup.encode.Goals as goal

pub returns-then-bytes_length-payload : goal.returns-then-bytes_length-payload
returns-then-bytes_length-payload c = let p = c.args.payload.now in
    let o = c.args.out.now in
    rw (lt-ltb (length o) (length (symbols p)) (omega (arith, symbols_length p, c.bytes_length.ensures)))
