-- The loop's invariant: the bytes of the groups passed stand at the front, and the buffer is as it was behind them.
use Prim.Native.Nat.{◌*◌}
use mathlib.Core.Path.{◌≡◌}
use mathlib.Core.List.{◌++◌, map}
use lib.ListN.{take, drop}
use Rattle.symbols.specs.Regroup.{bytes}
use Rattle.symbols.specs.Steps.{symbol_in}
use Rattle.symbols.proofs.regroup.decode_into.Given as goal

abbrev pub invariant-loop-i : goal.invariant-loop-i
invariant-loop-i l = l.out ≡ bytes (map (symbol_in l.table) (take (8 * l.i) l.text)) ++ drop (5 * l.i) l.initial.out
