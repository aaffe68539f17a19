-- Invariant: the first i groups' bytes stand at the front of `out`, 3 of each, and behind them `out` is as it was.
use Prim.Native.Nat.{◌*◌}
use mathlib.Core.Path.{◌≡◌}
use mathlib.Core.List.{◌++◌}
use lib.ListN.{length, take, drop}
use Rattle.strict_base64.specs.Code.{decoded}
use Rattle.strict_base64.proofs.decoding.decode_into.Given as goal

abbrev pub invariant-loop-i : goal.invariant-loop-i
invariant-loop-i l = (length l.out ≡ length l.initial.out) × (l.out ≡ decoded (take (4 * l.i) l.text) ++ drop (3 * l.i) l.initial.out)
