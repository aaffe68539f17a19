-- The table is the definition tabulated at the 256 bytes, and every value is below 64.
use Rattle.std.proofs.Common.{arith}
use Rattle.refusal.proofs.Laws.Below.{tabulated_at}
use Rattle.strict_base64.specs.Alphabet.{value_of}
use Rattle.strict_base64.proofs.Laws.Alphabet.{value_lt}
use Rattle.strict_base64.proofs.alphabet.value.Goals as goal

pub returns : goal.returns
unfolding value_of
returns c =
    let e = tabulated_at value_of 256 c.args.b (omega (arith, c.ranges.b)) in
    record {
      value = e;
      small = rw e (value_lt c.args.b);
    }
