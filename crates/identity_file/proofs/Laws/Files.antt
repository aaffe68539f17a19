-- The first k of some pairs: one more put behind them, and those that there are.
use Prim.Native.Nat.{ℕ, zero, suc, ◌≤◌}
use mathlib.Core.Path.{◌≡◌, refl, ap}
use mathlib.Core.List.{List, [], ◌∷◌, ◌++◌}
use lib.ListN.{length, take, set}
use native.Mathlib.Omega.{arith}
use Rattle.identity_file.specs.Files.{first_of}

pub first_put : (k : ℕ) (fs : List (List ℕ)) (f : List ℕ) → set (first_of k fs) (length fs) f ≡ first_of k (fs ++ f ∷ [])
unfolding first_of
first_put zero fs f = refl
first_put (suc k) [] f = refl
first_put (suc k) (x ∷ fs) f = ap (λ l. x ∷ l) (first_put k fs f)

pub first_take : (k : ℕ) (fs : List (List ℕ)) → length fs ≤ k → take (length fs) (first_of k fs) ≡ fs
unfolding first_of
first_take k [] h = refl
first_take zero (x ∷ fs) h = absurd (omega arith)
first_take (suc k) (x ∷ fs) h = ap (λ l. x ∷ l) (first_take k fs (omega arith))

pub first_length : (k : ℕ) (fs : List (List ℕ)) → length (first_of k fs) ≡ k
unfolding first_of
first_length zero fs = refl
first_length (suc k) [] = ap suc (first_length k [])
first_length (suc k) (x ∷ fs) = ap suc (first_length k fs)
