-- `count` meets its contract. Invariant: n counts the words that have begun, the one at `at` among them.
use Prim.Native.Nat.{◌+◌, ◌-◌, ◌≤◌}
use mathlib.Core.Path.{◌≡◌}
use lib.ListN.{length, drop}
use Rattle.stanza.specs.Arguments.{count_of}
use Rattle.stanza.proofs.arguments.count.Given as goal

abbrev pub invariant-loop-n : goal.invariant-loop-n
invariant-loop-n l = (l.at ≤ length l.line) × (l.n ≤ l.at + 1) × (count_of l.line + 1 ≡ l.n + count_of (drop l.at l.line))

abbrev pub decreases-loop-n : goal.decreases-loop-n
decreases-loop-n l = length l.line - l.at
