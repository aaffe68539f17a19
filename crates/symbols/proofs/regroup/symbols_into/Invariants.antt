-- Invariant: the first i groups' symbols stand at the front of `out`, 8 of each, and behind them `out` is as it was.
use Prim.Native.Nat.{◌*◌}
use mathlib.Core.Path.{◌≡◌}
use mathlib.Core.List.{◌++◌}
use lib.ListN.{take, drop}
use Rattle.symbols.specs.Regroup.{symbols}
use Rattle.symbols.proofs.regroup.symbols_into.Given as goal

abbrev pub invariant-loop-i : goal.invariant-loop-i
invariant-loop-i l = l.out ≡ symbols (take (5 * l.i) l.payload) ++ drop (8 * l.i) l.initial.out
