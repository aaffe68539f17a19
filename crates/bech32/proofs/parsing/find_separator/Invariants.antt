-- Invariant of both loops: the text is what is left and a back, and no "1" stands in the back.
use Prim.Native.Nat.{ℕ}
use mathlib.Core.Path.{◌≡◌}
use mathlib.Core.Bool.{true}
use mathlib.Core.List.{List, ◌++◌}
use lib.ListN.{length}
use Rattle.refusal.specs.Run.{all}
use Rattle.bech32.specs.Text.{is_not_one}
use Rattle.bech32.proofs.parsing.find_separator.Given as goal

abbrev pub invariant-loop-before : goal.invariant-loop-before
invariant-loop-before l = (back : List ℕ) × (l.text ≡ l.front ++ back) × (all is_not_one back ≡ true)

abbrev pub decreases-loop-before : goal.decreases-loop-before
decreases-loop-before l = length l.front

abbrev pub invariant-loop-last : goal.invariant-loop-last
invariant-loop-last l = (back : List ℕ) × (l.text ≡ l.front ++ back) × (all is_not_one back ≡ true)

abbrev pub decreases-loop-last : goal.decreases-loop-last
decreases-loop-last l = length l.front
