-- Invariant: `good` says whether the bytes so far are all in the class.
use Rattle.std.proofs.Common.{◌≡◌, ℕ, Bool, take}
use Rattle.refusal.specs.Run.{all}
use Rattle.strict_base64.specs.Class.{Tests}
use Rattle.strict_base64.proofs.runs.are_all.Given as goal

abbrev pub invariant-loop-b : goal.invariant-loop-b
invariant-loop-b g l = (class : ℕ → Bool) → Tests (goal.F-post g l.is_in) class → l.good ≡ all class (take l.b-index l.text)
