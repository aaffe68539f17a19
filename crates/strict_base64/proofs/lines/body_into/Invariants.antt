-- Invariant: the first i lines' bytes stand at the front of `out`, 48 of each, and behind them `out` is as it was.
use Prim.Native.Nat.{◌*◌}
use mathlib.Core.Path.{◌≡◌}
use mathlib.Core.List.{◌++◌}
use lib.ListN.{length, take, drop}
use Rattle.strict_base64.specs.Lines.{body_of}
use Rattle.strict_base64.proofs.lines.body_into.Given as goal

abbrev pub invariant-loop-i : goal.invariant-loop-i
invariant-loop-i l = (length l.out ≡ length l.initial.out) × (l.out ≡ take (48 * l.i) (body_of l.lines) ++ drop (48 * l.i) l.initial.out)
