-- Invariants: the run ends at the same place, seen from `from` and from where the loop is.
use Rattle.std.proofs.Common.{◌≡◌, ◌+◌, ◌-◌, ◌≤◌, ℕ, Bool, drop, length, max}
use Rattle.refusal.specs.Run.{run}
use Rattle.strict_base64.specs.Class.{Tests}
use Rattle.strict_base64.proofs.runs.run_end.Given as goal

abbrev pub invariant-loop-end : goal.invariant-loop-end
invariant-loop-end g l =
    (l.from ≤ l.end) × (l.end ≤ max l.from (length l.text))
    × ((class : ℕ → Bool) → Tests (goal.F-post g l.is_in) class → l.from + run class (drop l.from l.text) ≡ l.end + run class (drop l.end l.text))

abbrev pub decreases-loop-end : goal.decreases-loop-end
decreases-loop-end g l = length l.text - l.end

abbrev pub invariant-loop-i : goal.invariant-loop-i
invariant-loop-i g l =
    (l.i ≤ max l.from (length l.text))
    × ((class : ℕ → Bool) → Tests (goal.F-post g l.is_in) class → l.from + run class (drop l.from l.text) ≡ l.i + run class (drop l.i l.text))
