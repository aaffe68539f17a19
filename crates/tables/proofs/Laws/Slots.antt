-- A span's slots among all: read, one put in, and that a span apart from it is not touched.
use Prim.Native.Nat.{ℕ, zero, suc, ◌+◌, ◌-◌, ◌<◌, ◌≤◌}
use mathlib.Core.Path.{◌≡◌, refl, sym, ap, ◌∙◌}
use mathlib.Core.Bool.{true, ◌||◌}
use mathlib.Core.List.{List, [], ◌∷◌, map}
use lib.Dec.{leb}
use lib.ListN.{take, drop, set}
use lib.Seq.{drop-set-add, drop-set-lt, take-set-lt, take-set-le}
use native.Mathlib.Omega.{arith}
use borrow.Author.Tests.{leb-true}
use Rattle.refusal.proofs.Laws.Booleans.{cases}
use Rattle.tables.specs.Slots.{are_apart, entry_of, slots_of}
use Rattle.tables.specs.declared.slots.Span.{Span}

map_set : (l : List (List ℕ)) (i : ℕ) (v : List ℕ) → map entry_of (set l i v) ≡ set (map entry_of l) i (entry_of v)
map_set [] i v = refl
map_set (x ∷ xs) zero v = refl
map_set (x ∷ xs) (suc i) v = ap (λ r. entry_of x ∷ r) (map_set xs i v)

module _ (h : Span) (xs : List (List ℕ)) where
  -- one put in
  pub slot_set : (n : ℕ) (v : List ℕ) → n < h.width → slots_of h (set xs (h.first + n) v) ≡ set (slots_of h xs) n (entry_of v)
  slot_set n v l =
      ap (λ d. map entry_of (take h.width d)) (drop-set-add h.first xs n v)
      ∙ ap (map entry_of) (take-set-lt h.width (drop h.first xs) n v l)
      ∙ map_set (take h.width (drop h.first xs)) n v

  -- one put in behind them, or before them
  slot_before : (i : ℕ) (v : List ℕ) → i < h.first → slots_of h (set xs i v) ≡ slots_of h xs
  slot_before i v l = ap (λ d. map entry_of (take h.width d)) (drop-set-lt h.first xs i v l)

  slot_behind : (n : ℕ) (v : List ℕ) → h.width ≤ n → slots_of h (set xs (h.first + n) v) ≡ slots_of h xs
  slot_behind n v l =
      ap (λ d. map entry_of (take h.width d)) (drop-set-add h.first xs n v)
      ∙ ap (map entry_of) (take-set-le h.width (drop h.first xs) n v l)

-- so another kind's slots stay as they were
pub slot_other : (h k : Span) (xs : List (List ℕ)) (n : ℕ) (v : List ℕ) → n < h.width → are_apart h k ≡ true → slots_of k (set xs (h.first + n) v) ≡ slots_of k xs
slot_other h k xs n v l a =
    cases (leb (h.first + h.width) k.first)
    (λ e. let g = leb-true (h.first + h.width) k.first e in slot_before k xs (h.first + n) v (omega (arith, g)))
    (λ e.
    let f : leb (k.first + k.width) h.first ≡ true = sym (ap (λ b. b || leb (k.first + k.width) h.first) e) ∙ a in
    let g = leb-true (k.first + k.width) h.first f in
    let m : h.first + n ≡ k.first + (h.first + n - k.first) = omega (arith, g) in
    ap (λ i. slots_of k (set xs i v)) m ∙ slot_behind k xs (h.first + n - k.first) v (omega (arith, g)))
