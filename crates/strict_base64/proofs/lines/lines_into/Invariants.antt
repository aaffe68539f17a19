-- Invariant: the first i lines stand at the front of `out`, 65 bytes each, and behind them `out` is as it was.
use Prim.Native.Nat.{◌*◌}
use mathlib.Core.Path.{◌≡◌}
use mathlib.Core.List.{◌++◌}
use lib.ListN.{length, take, drop}
use Rattle.strict_base64.specs.Lines.{lines_of}
use Rattle.strict_base64.proofs.lines.lines_into.Given as goal

abbrev pub invariant-loop-i : goal.invariant-loop-i
invariant-loop-i l = (length l.out ≡ length l.initial.out) × (l.out ≡ take (65 * l.i) (lines_of l.body) ++ drop (65 * l.i) l.initial.out)
