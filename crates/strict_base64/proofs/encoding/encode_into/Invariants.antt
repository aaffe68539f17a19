-- Invariant: the first i groups' characters stand at the front of `out`, 4 of each, and behind them `out` is as it was.
use Prim.Native.Nat.{◌*◌}
use mathlib.Core.Path.{◌≡◌}
use mathlib.Core.List.{◌++◌}
use lib.ListN.{length, take, drop}
use Rattle.strict_base64.specs.Code.{encoded}
use Rattle.strict_base64.proofs.encoding.encode_into.Given as goal

abbrev pub invariant-loop-i : goal.invariant-loop-i
invariant-loop-i l = (length l.out ≡ length l.initial.out) × (l.out ≡ encoded (take (3 * l.i) l.bytes) ++ drop (4 * l.i) l.initial.out)
