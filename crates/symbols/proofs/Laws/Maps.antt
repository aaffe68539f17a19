-- Lists mapped: parts, elements, one map after another.
use Prim.Native.Nat.{ℕ, zero, suc, ◌+◌, ◌<◌}
use mathlib.Core.Path.{◌≡◌, refl, sym, ap, ap₂, ◌∙◌}
use mathlib.Core.Bool.{Bool}
use mathlib.Core.List.{List, [], ◌∷◌, map}
use lib.ListN.{length, take, drop, get_or}
use native.Mathlib.Omega.{arith}
use Rattle.refusal.specs.Pick.{pick}
use Rattle.std.specs.List.{prefix_len, take_while}
use Rattle.std.proofs.lemmas.List.Folds.{length-prefix_len}
use Rattle.refusal.specs.Run.{run}
use Rattle.refusal.proofs.Laws.Booleans.{cases}
use Rattle.refusal.proofs.Laws.Lists.{drop_one}

pub map_id : (l : List ℕ) → map (λ b. b) l ≡ l
map_id [] = refl
map_id (b ∷ l) = ap (λ t. b ∷ t) (map_id l)

module _ (f : ℕ → ℕ) where
  pub map_take : (n : ℕ) (l : List ℕ) → take n (map f l) ≡ map f (take n l)
  map_take zero l = refl
  map_take (suc n) [] = refl
  map_take (suc n) (b ∷ l) = ap (λ t. f b ∷ t) (map_take n l)

  pub map_drop : (n : ℕ) (l : List ℕ) → drop n (map f l) ≡ map f (drop n l)
  map_drop zero l = refl
  map_drop (suc n) [] = refl
  map_drop (suc n) (b ∷ l) = map_drop n l

  -- an element that is there
  pub map_at : (l : List ℕ) (i : ℕ) → i < length l → get_or (map f l) i 0 ≡ f (get_or l i 0)
  map_at [] i h = absurd (omega arith)
  map_at (b ∷ l) zero h = refl
  map_at (b ∷ l) (suc i) h = map_at l i (omega arith)

  -- the rest, by its first element
  pub map_one : (l : List ℕ) (i : ℕ) → i < length l → map f (drop i l) ≡ f (get_or l i 0) ∷ map f (drop (i + 1) l)
  map_one l i h = ap (map f) (drop_one l i 0 h)

  -- after another map
  pub map_map : (g : ℕ → ℕ) (l : List ℕ) → map f (map g l) ≡ map (λ b. f (g b)) l
  map_map g [] = refl
  map_map g (b ∷ l) = ap (λ t. f (g b) ∷ t) (map_map g l)

  -- a run of a class
  pub run_map : (class : ℕ → Bool) (l : List ℕ) → run class (map f l) ≡ run (λ b. class (f b)) l
  unfolding run
  run_map class [] = refl
  run_map class (b ∷ l) = ap (λ n. pick (class (f b)) (suc n) 0) (run_map class l)

-- two functions that agree on bytes, of a part of a list of bytes
module _ (f g : ℕ → ℕ) (agree : (b : ℕ) → b < 256 → f b ≡ g b) where
  map_bytes : (l : List ℕ) → ((i : ℕ) → get_or l i 0 < 256) → map f l ≡ map g l
  map_bytes [] h = refl
  map_bytes (b ∷ l) h = ap₂ (λ x t. x ∷ t) (agree b (h 0)) (map_bytes l (λ i. h (suc i)))

  pub map_part : (n m : ℕ) (l : List ℕ) → ((i : ℕ) → get_or l i 0 < 256) → map f (take n (drop m l)) ≡ map g (take n (drop m l))
  map_part n m l h =
      sym (map_take f n (drop m l)) ∙ ap (take n) (sym (map_drop f m l) ∙ ap (drop m) (map_bytes l h) ∙ map_drop g m l) ∙ map_take g n (drop m l)

-- the front that a class takes is its run
prefix_run : (class : ℕ → Bool) (l : List ℕ) → prefix_len class l ≡ run class l
unfolding run
prefix_run class [] = refl
prefix_run class (b ∷ l) = cases (class b) (λ e. rw e (omega (arith, prefix_run class l))) (λ e. rw e)

pub run_taken : (class : ℕ → Bool) (l : List ℕ) → length (take_while class l) ≡ run class l
run_taken class l = length-prefix_len class l ∙ prefix_run class l
