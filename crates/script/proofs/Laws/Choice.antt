-- What a word names in a table of words and choices, seen from the k-th on; and where the choices are numbered in order, its number among the words.
use Prim.Native.Nat.{ℕ, suc, ◌+◌, ◌<◌, ◌≤◌}
use mathlib.Core.Path.{◌≡◌, refl, ap, ◌∙◌}
use mathlib.Core.Bool.{Bool, true, false, ◌&&◌}
use mathlib.Core.List.{List, [], ◌∷◌, map}
use lib.Dec.{eqb}
use lib.ListN.{length, drop, get_or, drop_of_length-le}
use lib.Pointwise.{pointwise}
use native.Mathlib.Omega.{arith}
use borrow.Author.Tests.{eqb-true}
use Rattle.std.specs.Borrow.{Bor}
use Rattle.std.specs.Prelude.{Option, Some, None}
use Rattle.refusal.specs.Same.{same}
use Rattle.refusal.proofs.Laws.Booleans.{cases, and_true}
use Rattle.refusal.proofs.Laws.Lists.{drop_one}
use Rattle.script.specs.Choice.{place, chosen}

-- `==` of slices
pub same_pointwise : (a b : List ℕ) → pointwise eqb a b ≡ same a b
unfolding same
same_pointwise [] [] = refl
same_pointwise [] (y ∷ b) = refl
same_pointwise (x ∷ a) [] = refl
same_pointwise (x ∷ a) (y ∷ b) = ap (λ r. eqb x y && r) (same_pointwise a b)

module _ {A : Type 0} (w : List ℕ) (cs : List (Bor (List ℕ) × A)) (k : ℕ) where
  pub chosen_here : (c : Bor (List ℕ) × A) → k < length cs → c ≡ get_or cs k c → pointwise eqb w c.0.now ≡ true → chosen w (drop k cs) ≡ Some c.1
  unfolding chosen
  chosen_here c h p e = rw (drop_one cs k c h, ← p, ← same_pointwise w c.0.now, e)

  pub chosen_later : (c : Bor (List ℕ) × A) → k < length cs → c ≡ get_or cs k c → pointwise eqb w c.0.now ≡ false →
      chosen w (drop k cs) ≡ chosen w (drop (k + 1) cs)
  unfolding chosen
  chosen_later c h p e = rw (drop_one cs k c h, ← p, ← same_pointwise w c.0.now, e)

  pub chosen_none : length cs ≤ k → chosen w (drop k cs) ≡ None
  unfolding chosen
  chosen_none h = rw (drop_of_length-le cs h)

-- the choices have the numbers from k on, in order, and none of them has the next
abbrev pub is_numbered : {A : Type 0} → (Option A → ℕ) → ℕ → List (Bor (List ℕ) × A) → Bool
is_numbered said k [] = eqb (said None) k
is_numbered said k (c ∷ cs) = eqb (said (Some c.1)) k && is_numbered said (suc k) cs

numbered_from : {A : Type 0} (said : Option A → ℕ) (w : List ℕ) (k : ℕ) (cs : List (Bor (List ℕ) × A)) →
    is_numbered said k cs ≡ true → said (chosen w cs) ≡ k + place w (map (λ c. c.0.now) cs)
unfolding chosen place
numbered_from said w k [] e = omega (arith, eqb-true (said None) k e)
numbered_from said w k (c ∷ cs) e =
    let a = and_true (eqb (said (Some c.1)) k) (is_numbered said (suc k) cs) e in
    cases (same w c.0.now)
    (λ h. rw h (omega (arith, eqb-true (said (Some c.1)) k a.0)))
    (λ h. rw h (numbered_from said w (suc k) cs a.1 ∙ omega arith))

-- .. from 0 on: what a word names has its number among the words
pub numbered : {A : Type 0} (said : Option A → ℕ) (w : List ℕ) (cs : List (Bor (List ℕ) × A)) →
    is_numbered said 0 cs ≡ true → said (chosen w cs) ≡ place w (map (λ c. c.0.now) cs)
numbered said w cs e = numbered_from said w 0 cs e ∙ omega arith
