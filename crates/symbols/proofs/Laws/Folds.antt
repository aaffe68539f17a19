-- The checksum's loops: one symbol more, and the end.
use Prim.Native.Nat.{ℕ, ◌+◌, ◌%◌, ◌<◌, ◌≤◌}
use mathlib.Core.Path.{◌≡◌, refl, sym, ap, ap₂, ◌∙◌}
use mathlib.Core.Bool.{◌&&◌}
use mathlib.Core.List.{List, [], ◌∷◌, map}
use lib.Bits.{bit_or, or_lt, or_add_and, and_le_l, and_le_r}
use lib.Dec.{eqb, ltb}
use lib.ListN.{length, drop, get_or, drop_of_length-le}
use native.Mathlib.Omega.{arith}
use borrow.Author.Tests.{ltb-true, ltb-false, lt-ltb, le-ltb}
use Rattle.std.specs.List.{fold}
use Rattle.refusal.specs.Run.{all}
use Rattle.refusal.proofs.Laws.Booleans.{cases, and_assoc}
use Rattle.symbols.specs.Charset.{is_upper, lower}
use Rattle.symbols.specs.Checksum.{are_symbols, stepped, polymod}
use Rattle.symbols.specs.Calls.{closes}
use Rattle.symbols.proofs.Laws.Maps.{map_one}

-- the state after the symbols that f makes, as a fold
pub polymod_fold : (f : ℕ → ℕ) (l : List ℕ) (c : ℕ) → fold (λ s b. stepped s (f b)) c l ≡ polymod c (map f l)
unfolding polymod
polymod_fold f [] c = refl
polymod_fold f (b ∷ l) c = polymod_fold f l (stepped c (f b))

closes_at : (f : ℕ → ℕ) (l : List ℕ) (i c : ℕ) → i < length l →
    closes c (map f (drop i l)) ≡ (ltb (f (get_or l i 0)) 32 && closes (stepped c (f (get_or l i 0))) (map f (drop (i + 1) l)))
unfolding closes
closes_at f l i c h = ap (closes c) (map_one f l i h)

pub closes_end : (f : ℕ → ℕ) (l : List ℕ) (i c : ℕ) → length l ≤ i → closes c (map f (drop i l)) ≡ eqb c 1
unfolding closes
closes_end f l i c h = ap (λ t. closes c (map f t)) (drop_of_length-le l h)

-- the bits of two values are a symbol's where both are symbols
pub seen_or : (a b : ℕ) → ltb (bit_or a b) 32 ≡ (ltb a 32 && ltb b 32)
seen_or a b =
    cases (ltb a 32)
    (λ e. cases (ltb b 32)
    (λ f. rw (e, f) (lt-ltb (bit_or a b) 32 (or_lt 5 a b (ltb-true a 32 e) (ltb-true b 32 f))))
    (λ f. rw (e, f) (le-ltb (bit_or a b) 32 (omega (arith, or_add_and a b, and_le_l a b, ltb-false b 32 f)))))
    (λ e. rw e (le-ltb (bit_or a b) 32 (omega (arith, or_add_and a b, and_le_r a b, ltb-false a 32 e))))

-- one value more, with what was seen before
pub closes_seen : (f : ℕ → ℕ) (l : List ℕ) (i c s : ℕ) → i < length l →
    (ltb s 32 && closes c (map f (drop i l))) ≡ (ltb (bit_or s (f (get_or l i 0))) 32 && closes (stepped c (f (get_or l i 0))) (map f (drop (i + 1) l)))
closes_seen f l i c s h = let v = f (get_or l i 0) in
    ap (λ x. ltb s 32 && x) (closes_at f l i c h) ∙ and_assoc (ltb s 32) (ltb v 32) (closes (stepped c v) (map f (drop (i + 1) l)))
    ∙ ap (λ x. x && closes (stepped c v) (map f (drop (i + 1) l))) (sym (seen_or s v))

-- all are symbols, and the final value is 1
pub closes_is : (l : List ℕ) (c : ℕ) → closes c l ≡ (are_symbols l && eqb (polymod c l) 1)
unfolding closes polymod all
closes_is [] c = refl
closes_is (v ∷ l) c = ap (λ b. ltb v 32 && b) (closes_is l (stepped c v)) ∙ and_assoc (ltb v 32) (are_symbols l) (eqb (polymod (stepped c v) l) 1)

-- a letter has the same low bits in either case
lower_low : (b : ℕ) → lower b % 32 ≡ b % 32
unfolding lower
lower_low b = cases (is_upper b) (λ e. rw e (omega arith)) (λ e. rw e)

pub low_bits : (l : List ℕ) → map (λ b. b % 32) (map lower l) ≡ map (λ b. b % 32) l
low_bits [] = refl
low_bits (b ∷ l) = ap₂ (λ x t. x ∷ t) (lower_low b) (low_bits l)
