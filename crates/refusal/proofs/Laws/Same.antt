-- Two texts that are the same, byte for byte.
use Prim.Native.Nat.{ℕ, suc, ◌+◌, ◌<◌}
use mathlib.Core.Path.{◌≡◌, refl, ap}
use mathlib.Core.Bool.{true, false, ◌&&◌, false≢true}
use mathlib.Core.List.{List, [], ◌∷◌}
use lib.Dec.{eqb}
use lib.ListN.{length, drop, get_or}
use lib.Pointwise.{pointwise}
use borrow.Author.Tests.{eq-eqb, eqb-true}
use Rattle.refusal.specs.Same.{same}
use Rattle.refusal.proofs.Laws.Booleans.{and_true, cases}
use Rattle.refusal.proofs.Laws.Lists.{drop_one}

-- the `==` of slices
pub pointwise_same : (a b : List ℕ) → pointwise eqb a b ≡ same a b
unfolding same
pointwise_same [] [] = refl
pointwise_same [] (y ∷ b) = refl
pointwise_same (x ∷ a) [] = refl
pointwise_same (x ∷ a) (y ∷ b) = ap (λ r. eqb x y && r) (pointwise_same a b)

pub same_refl : (a : List ℕ) → same a a ≡ true
unfolding same
same_refl [] = refl
same_refl (x ∷ a) = rw (eq-eqb x x refl) (same_refl a)

pub same_eq : (a b : List ℕ) → same a b ≡ true → a ≡ b
unfolding same
same_eq [] [] e = refl
same_eq [] (y ∷ b) e = absurd (false≢true e)
same_eq (x ∷ a) [] e = absurd (false≢true e)
same_eq (x ∷ a) (y ∷ b) e =
    let p = and_true (eqb x y) (same a b) e in
    let q = eqb-true x y p.0 in
    let r = same_eq a b p.1 in
    cc

-- texts of different lengths are not the same
pub same_length : (a b : List ℕ) → (length a ≡ length b → ⊥) → same a b ≡ false
unfolding same
same_length [] [] h = absurd (h refl)
same_length [] (y ∷ b) h = refl
same_length (x ∷ a) [] h = refl
same_length (x ∷ a) (y ∷ b) h =
    cases (eqb x y) (λ e. rw e (same_length a b (λ q. h (ap suc q)))) (λ e. rw e)

-- one byte on, where both have one
pub same_one : (a b : List ℕ) (i : ℕ) → i < length a → i < length b →
    same (drop i a) (drop i b) ≡ (eqb (get_or a i 0) (get_or b i 0) && same (drop (i + 1) a) (drop (i + 1) b))
unfolding same
same_one a b i h k = rw (drop_one a i 0 h, drop_one b i 0 k)
