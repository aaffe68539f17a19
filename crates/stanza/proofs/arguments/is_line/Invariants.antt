-- `is_line` meets its contract. Invariant: the text is a line exactly if what stands from `at` on is one.
use Prim.Native.Nat.{◌-◌, ◌≤◌}
use mathlib.Core.Path.{◌≡◌}
use lib.ListN.{length, drop}
use Rattle.stanza.specs.Arguments.{is_line}
use Rattle.stanza.proofs.arguments.is_line.Given as goal

abbrev pub invariant-loop-at : goal.invariant-loop-at
invariant-loop-at l = (l.at ≤ length l.line) × (is_line l.line ≡ is_line (drop l.at l.line))

abbrev pub decreases-loop-at : goal.decreases-loop-at
decreases-loop-at l = length l.line - l.at
