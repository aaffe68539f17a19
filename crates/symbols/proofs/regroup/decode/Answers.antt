-- Too short a buffer is left as it was; else `decode_into` fills it.
use mathlib.Core.List.{map}
use lib.ListN.{length, length-map}
use native.Mathlib.Omega.{arith}
use borrow.Author.Tests.{lt-ltb}
use Rattle.symbols.specs.Regroup.{bytes}
use Rattle.symbols.specs.Steps.{symbol_in}
use Rattle.symbols.proofs.Laws.Groups.{bytes_length}
use Rattle.symbols.proofs.regroup.decode.Goals as goal

pub returns-then-out-bytes_length : goal.returns-then-out-bytes_length
returns-then-out-bytes_length c = let t = c.args.text.now in
    let f = symbol_in c.args.table.now in
    let o = c.args.out.now in
    rw (lt-ltb (length o) (length (bytes (map f t))) (omega (arith, bytes_length (map f t), length-map t f, c.bytes_length.ensures)))
