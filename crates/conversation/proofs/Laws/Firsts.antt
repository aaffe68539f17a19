-- The first of two faults, and the output that is long enough.
use Prim.Native.Nat.{ℕ}
use mathlib.Core.Path.{◌≡◌, refl}
use mathlib.Core.Bool.{Bool, true, false}
use mathlib.Core.Logic.{◌↔◌}
use lib.Dec.{eqb}
use native.Mathlib.Omega.{arith}
use borrow.Author.Tests.{eqb-true, eqb-false}
use Rattle.refusal.specs.Pick.{pick}
use Rattle.refusal.proofs.Laws.Booleans.{cases}
use Rattle.refusal.specs.Verdict.{first_of}

-- there is none exactly if neither is one
pub first_iff : (n late : ℕ) → (first_of n late ≡ 0) ↔ ((n ≡ 0) × (late ≡ 0))
first_iff n late = cases (eqb n 0) (λ e. let z = eqb-true n 0 e in (λ h. (z, rw e at h), λ h. rw e h.1)) (λ e. (λ h. absurd (eqb-false n 0 e (rw e at h)), λ h. absurd (eqb-false n 0 e h.0)))

-- No. 15 is not given: the output is long enough
pub short_none : (f : Bool) → ◌≡◌ {A = ℕ} (pick f 15 0) 0 → f ≡ false
short_none true e = absurd (omega arith)
short_none false e = refl
