-- The separator stands within the text, or at its end.
use native.Mathlib.Omega.{arith}
use Rattle.bech32.proofs.Laws.Parsing.{separator_le}
use Rattle.bech32.proofs.parsing.Separated.of.Goals as goal

pub invariant_of-result : goal.invariant_of-result
invariant_of-result c = let l = separator_le c.args.text.now in
    record { at_separator = c.find_separator.ensures; in_bounds = omega arith; bytes = λ i. (c.type_inv.text i).fits }
