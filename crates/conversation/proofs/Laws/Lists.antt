-- Lists of anything: a property of each member, the members that a test keeps, the sum of a weight over them, and what a permutation keeps.
use Prim.Native.Nat.{ℕ, ◌+◌, ◌≤◌}
use mathlib.Core.Path.{◌≡◌, refl, ap, ◌∙◌, subst, fun_ext}
use mathlib.Core.Bool.{Bool, true, false, ◌&&◌}
use mathlib.Core.Logic.{◌↔◌}
use mathlib.Core.List.{List, [], ◌∷◌, ◌++◌, map, append-nil, append_assoc, Permᴰ}
use lib.ListN.{length}
use native.Mathlib.Omega.{arith}
use Rattle.refusal.specs.Pick.{pick}
use Rattle.conversation.specs.Phases.{All, keep}

-- ---- a property of each member

module _ {X : Type 0} (P : X → Type 0) where
  pub all_append : (xs ys : List X) → All P (xs ++ ys) ↔ (All P xs × All P ys)
  unfolding All
  all_append [] ys = (λ h. (tt, h), λ h. h.1)
  all_append (x ∷ xs) ys = let i = all_append xs ys in (λ h. let r = i.0 h.1 in ((h.0, r.0), r.1), λ h. (h.0.0, i.1 (h.0.1, h.1)))

  pub all_permuted : {xs ys : List X} → Permᴰ xs ys → All P xs → All P ys
  unfolding All
  all_permuted Permᴰ.nil h = h
  all_permuted (Permᴰ.cons e d) h = (subst P e h.0, all_permuted d h.1)
  all_permuted (Permᴰ.swap e₁ e₂) h = (subst P e₂ h.1.0, (subst P e₁ h.0, h.1.1))
  all_permuted (Permᴰ.trans d₁ d₂) h = all_permuted d₂ (all_permuted d₁ h)

  module _ (test : X → Bool) (sure : (x : X) → test x ≡ false → P x) where
    one_kept : (x : X) (f : Bool) → test x ≡ f → P x ↔ All P (pick f (x ∷ []) [])
    unfolding All
    one_kept x true e = (λ h. (h, tt), λ h. h.0)
    one_kept x false e = (λ h. tt, λ h. sure x e)

    -- it holds of all exactly if it holds of those kept, where it is sure of the others
    pub all_kept : (xs : List X) → All P xs ↔ All P (keep test xs)
    unfolding All keep
    all_kept [] = (λ h. h, λ h. h)
    all_kept (x ∷ xs) =
        let a = all_append (pick (test x) (x ∷ []) []) (keep test xs) in
        let o = one_kept x (test x) refl in
        let i = all_kept xs in
        (λ h. a.1 (o.0 h.0, i.0 h.1), λ h. (o.1 (a.0 h).0, i.1 (a.0 h).1))

-- what each member has by another property
pub all_weaker : {X : Type 0} {P Q : X → Type 0} → ((x : X) → P x → Q x) → (xs : List X) → All P xs → All Q xs
unfolding All
all_weaker f [] h = tt
all_weaker f (x ∷ xs) h = (f x h.0, all_weaker f xs h.1)

-- two properties together
pub all_both : {X : Type 0} (P Q : X → Type 0) (xs : List X) → All P xs → All Q xs → All (λ x. P x × Q x) xs
unfolding All
all_both P Q [] h g = tt
all_both P Q (x ∷ xs) h g = ((h.0, g.0), all_both P Q xs h.1 g.1)

-- a property of each image
pub all_map : {X Y : Type 0} (f : X → Y) (P : Y → Type 0) (xs : List X) → All P (map f xs) ↔ All (λ x. P (f x)) xs
unfolding All
all_map f P [] = (λ h. h, λ h. h)
all_map f P (x ∷ xs) = let i = all_map f P xs in (λ h. (h.0, i.0 h.1), λ h. (h.0, i.1 h.1))

-- ---- the sum of a weight

unfoldable pub sum_of : {X : Type 0} → (X → ℕ) → List X → ℕ
sum_of w [] = 0
sum_of w (x ∷ xs) = w x + sum_of w xs

module _ {X : Type 0} (w : X → ℕ) where
  pub sum_append : (xs ys : List X) → sum_of w (xs ++ ys) ≡ sum_of w xs + sum_of w ys
  unfolding sum_of
  sum_append [] ys = omega arith
  sum_append (x ∷ xs) ys = omega (arith, sum_append xs ys)

  pub sum_permuted : {xs ys : List X} → Permᴰ xs ys → sum_of w xs ≡ sum_of w ys
  unfolding sum_of
  sum_permuted Permᴰ.nil = refl
  sum_permuted (Permᴰ.cons e d) = omega (arith, ap w e, sum_permuted d)
  sum_permuted (Permᴰ.swap e₁ e₂) = omega (arith, ap w e₁, ap w e₂)
  sum_permuted (Permᴰ.trans d₁ d₂) = sum_permuted d₁ ∙ sum_permuted d₂

  -- over those kept, where the others weigh nothing
  pub sum_kept : (test : X → Bool) → ((x : X) → test x ≡ false → w x ≡ 0) → (xs : List X) → sum_of w xs ≡ sum_of w (keep test xs)
  unfolding sum_of keep
  sum_kept test none [] = refl
  sum_kept test none (x ∷ xs) = omega (arith, sum_append (pick (test x) (x ∷ []) []) (keep test xs), one (test x) refl, sum_kept test none xs)
    where
      one : (f : Bool) → test x ≡ f → w x ≡ sum_of w (pick f (x ∷ []) [])
      one true e = omega arith
      one false e = none x e

-- ---- the members that a test keeps

module _ {X : Type 0} (test : X → Bool) where
  pub keep_append : (xs ys : List X) → keep test (xs ++ ys) ≡ keep test xs ++ keep test ys
  unfolding keep
  keep_append [] ys = refl
  keep_append (x ∷ xs) ys = rw (keep_append xs ys, append_assoc)

  -- how many they are
  pub length_keep : (xs : List X) → length (keep test xs) ≡ sum_of (λ x. pick (test x) 1 0) xs
  unfolding keep sum_of
  length_keep [] = refl
  length_keep (x ∷ xs) = go (test x) (length_keep xs)
    where
      go : (f : Bool) → length (keep test xs) ≡ sum_of (λ x. pick (test x) 1 0) xs → length (pick f (x ∷ []) [] ++ keep test xs) ≡ pick f 1 0 + sum_of (λ x. pick (test x) 1 0) xs
      go true e = omega (arith, e)
      go false e = omega (arith, e)

  swap_picks : (s t : Bool) (x y : X) (l : List X) → pick s 1 0 + pick t 1 0 ≤ 1 → pick s (x ∷ []) [] ++ (pick t (y ∷ []) [] ++ l) ≡ pick t (y ∷ []) [] ++ (pick s (x ∷ []) [] ++ l)
  swap_picks true true x y l h = absurd (omega arith)
  swap_picks true false x y l h = refl
  swap_picks false t x y l h = refl

  swapped : {xs ys : List X} → Permᴰ xs ys → sum_of (λ x. pick (test x) 1 0) xs ≤ 1 → keep test xs ≡ keep test ys
  unfolding keep sum_of
  swapped Permᴰ.nil h = refl
  swapped (Permᴰ.cons e d) h = let r = swapped d (omega arith) in cc
  swapped (Permᴰ.swap {a = a} {b = b} {l = l} e₁ e₂) h = let r = swap_picks (test a) (test b) a b (keep test l) (omega arith) in cc
  swapped (Permᴰ.trans d₁ d₂) h = swapped d₁ h ∙ swapped d₂ (rw (sum_permuted (λ x. pick (test x) 1 0) d₁) at h)

  -- a permutation keeps them in order, where it is at most one
  pub keep_permuted_once : {xs ys : List X} → Permᴰ xs ys → length (keep test xs) ≤ 1 → keep test xs ≡ keep test ys
  keep_permuted_once {xs = xs} d h = swapped d (subst (λ n. n ≤ 1) (length_keep xs) h)

module _ {X : Type 0} (p q : X → Bool) where
  -- two tests, one after the other
  pub keep_both : (xs : List X) → keep q (keep p xs) ≡ keep (λ x. p x && q x) xs
  unfolding keep
  keep_both [] = refl
  keep_both (x ∷ xs) = rw (keep_append, keep_both xs) (go (p x))
    where
      go : (f : Bool) → keep q (pick f (x ∷ []) []) ++ keep (λ x. p x && q x) xs ≡ pick (f && q x) (x ∷ []) [] ++ keep (λ x. p x && q x) xs
      go true = rw append-nil
      go false = refl

  -- a test that only members kept by another pass
  pub keep_kept : ((x : X) → p x && q x ≡ q x) → (xs : List X) → keep q (keep p xs) ≡ keep q xs
  keep_kept h xs = keep_both xs ∙ ap (λ t. keep t xs) (fun_ext h)

-- ---- images

module _ {X Y : Type 0} (f : X → Y) where
  map_pick : (t : Bool) (x : X) (xs : List X) → pick t (f x ∷ []) [] ++ map f xs ≡ map f (pick t (x ∷ []) [] ++ xs)
  map_pick true x xs = refl
  map_pick false x xs = refl

  pub keep_map : (test : Y → Bool) (xs : List X) → keep test (map f xs) ≡ map f (keep (λ x. test (f x)) xs)
  unfolding keep
  keep_map test [] = refl
  keep_map test (x ∷ xs) = rw (keep_map test xs) (map_pick (test (f x)) x (keep (λ x. test (f x)) xs))

  pub sum_map : (w : Y → ℕ) (xs : List X) → sum_of w (map f xs) ≡ sum_of (λ x. w (f x)) xs
  unfolding sum_of
  sum_map w [] = refl
  sum_map w (x ∷ xs) = ap (λ n. w (f x) + n) (sum_map w xs)

  pub map_permuted : {xs ys : List X} → Permᴰ xs ys → Permᴰ (map f xs) (map f ys)
  map_permuted Permᴰ.nil = Permᴰ.nil
  map_permuted (Permᴰ.cons e d) = Permᴰ.cons (ap f e) (map_permuted d)
  map_permuted (Permᴰ.swap e₁ e₂) = Permᴰ.swap (ap f e₁) (ap f e₂)
  map_permuted (Permᴰ.trans d₁ d₂) = Permᴰ.trans (map_permuted d₁) (map_permuted d₂)
