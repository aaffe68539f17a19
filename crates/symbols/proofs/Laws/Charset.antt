-- Laws of the alphabet and of case.
use Prim.Native.Nat.{ℕ, ◌+◌, ◌-◌, ◌%◌, ◌<◌, ◌≤◌}
use mathlib.Core.Path.{◌≡◌, sym, ap, ◌∙◌}
use mathlib.Core.Bool.{true, false}
use mathlib.Core.List.{List, [], ◌∷◌, map}
use lib.Dec.{eqb, leb, eqb→eq}
use lib.ListN.{length, take, drop, get_or}
use native.Mathlib.Omega.{arith}
use borrow.Author.Tests.{eqb-true, leb-true, leb-false, le-leb, lt-leb}
use Rattle.std.specs.Char.{to_ascii_lowercase, to_ascii_uppercase}
use Rattle.std.proofs.lemmas.Bool.Decides.{nat_tests}
use Rattle.refusal.proofs.Laws.Below.{below}
use Rattle.refusal.proofs.Laws.Booleans.{and_true, true_and, cases}
use Rattle.symbols.specs.Charset.{charset, place_of, value_of, character_of, is_upper, is_lower, lower, upper}
use Rattle.symbols.specs.Calls.{value_at, symbol_at}
use Rattle.symbols.specs.Steps.{Values, value_in, symbol_in}
use Rattle.symbols.proofs.Laws.Maps.{map_part}

-- what stands at its own place
place_at : (b : ℕ) (xs : List ℕ) → place_of b xs < length xs → get_or xs (place_of b xs) 0 ≡ b
unfolding place_of
place_at b [] h = absurd (omega arith)
place_at b (x ∷ xs) h = cases (eqb b x) (λ e. rw e (sym (eqb-true b x e))) (λ e. rw e (place_at b xs (omega (arith, rw e at h))))

pub character_value : (b : ℕ) → value_of b < 32 → character_of (value_of b) ≡ b
character_value b h = place_at b charset h

pub value_character : (v : ℕ) → v < 32 → value_of (character_of v) ≡ v
unfolding place_of
value_character v h = eqb→eq _ _ (below (λ v. eqb (value_of (character_of v)) v) 32 tt v h)

-- a letter's bounds, and back
pub lower_bounds : (b : ℕ) → is_lower b ≡ true → (97 ≤ b) × (b ≤ 122)
unfolding is_lower
lower_bounds b h = let a = and_true (leb 97 b) (leb b 122) h in (leb-true 97 b a.0, leb-true b 122 a.1)

pub upper_bounds : (b : ℕ) → is_upper b ≡ true → (65 ≤ b) × (b ≤ 90)
unfolding is_upper
upper_bounds b h = let a = and_true (leb 65 b) (leb b 90) h in (leb-true 65 b a.0, leb-true b 90 a.1)

upper_is : (b : ℕ) → 65 ≤ b → b ≤ 90 → is_upper b ≡ true
unfolding is_upper
upper_is b h g = true_and (leb 65 b) (leb b 90) (le-leb 65 b h) (le-leb b 90 g)

lower_is : (b : ℕ) → 97 ≤ b → b ≤ 122 → is_lower b ≡ true
unfolding is_lower
lower_is b h g = true_and (leb 97 b) (leb b 122) (le-leb 97 b h) (le-leb b 122 g)

lower_is_not : (b : ℕ) → b < 97 → is_lower b ≡ false
unfolding is_lower
lower_is_not b h = rw (lt-leb 97 b h)

-- a letter in the other case, and any other byte
raised : (b : ℕ) → is_lower b ≡ true → upper b ≡ b - 32
unfolding upper
raised b h = rw h

pub upper_plain : (b : ℕ) → is_lower b ≡ false → upper b ≡ b
unfolding upper
upper_plain b h = rw h

lowered : (b : ℕ) → is_upper b ≡ true → lower b ≡ b + 32
unfolding lower
lowered b h = rw h

pub lower_plain : (b : ℕ) → is_upper b ≡ false → lower b ≡ b
unfolding lower
lower_plain b h = rw h

-- the same as std's rule
pub lower_ascii : (b : ℕ) → to_ascii_lowercase b ≡ lower b
unfolding lower is_upper
lower_ascii b =
    cases (leb 65 b)
    (λ e. cases (leb b 90)
    (λ f. let g = leb-true 65 b e in let h = leb-true b 90 f in rw (e, f) (grind (arith, nat_tests)))
    (λ f. let g = leb-true 65 b e in let h = leb-false b 90 f in rw (e, f) (grind (arith, nat_tests))))
    (λ e. let g = leb-false 65 b e in rw e (grind (arith, nat_tests)))

pub upper_ascii : (b : ℕ) → to_ascii_uppercase b ≡ upper b
unfolding upper is_lower
upper_ascii b =
    cases (leb 97 b)
    (λ e. cases (leb b 122)
    (λ f. let g = leb-true 97 b e in let h = leb-true b 122 f in rw (e, f) (grind (arith, nat_tests)))
    (λ f. let g = leb-true 97 b e in let h = leb-false b 122 f in rw (e, f) (grind (arith, nat_tests))))
    (λ e. let g = leb-false 97 b e in rw e (grind (arith, nat_tests)))

-- lowering undoes raising where nothing is in upper case, and raising lowering where nothing is in lower case
pub lower_upper : (b : ℕ) → is_upper b ≡ false → lower (upper b) ≡ b
lower_upper b h =
    cases (is_lower b)
    (λ e. let w = lower_bounds b e in ap lower (raised b e) ∙ lowered (b - 32) (upper_is (b - 32) (omega arith) (omega arith)) ∙ omega arith)
    (λ e. ap lower (upper_plain b e) ∙ lower_plain b h)

pub upper_lower : (b : ℕ) → is_lower b ≡ false → upper (lower b) ≡ b
upper_lower b h =
    cases (is_upper b)
    (λ e. let w = upper_bounds b e in ap upper (lowered b e) ∙ raised (b + 32) (lower_is (b + 32) (omega arith) (omega arith)) ∙ omega arith)
    (λ e. ap upper (lower_plain b e) ∙ upper_plain b h)

pub upper_not_lower : (b : ℕ) → is_lower (upper b) ≡ false
upper_not_lower b =
    cases (is_lower b)
    (λ e. let w = lower_bounds b e in ap is_lower (raised b e) ∙ lower_is_not (b - 32) (omega arith))
    (λ e. ap is_lower (upper_plain b e) ∙ e)

-- ---- by the table of the values, a part of a text has its values and its symbols

module _ (t : List ℕ) (v : Values t) where
  pub values_by : (n m : ℕ) (l : List ℕ) → ((i : ℕ) → get_or l i 0 < 256) → map (value_in t) (take n (drop m l)) ≡ map value_at (take n (drop m l))
  values_by = map_part (value_in t) value_at v

  pub symbols_by : (n m : ℕ) (l : List ℕ) → ((i : ℕ) → get_or l i 0 < 256) → map (symbol_in t) (take n (drop m l)) ≡ map symbol_at (take n (drop m l))
  symbols_by = map_part (symbol_in t) symbol_at (λ b h. ap (λ x. x % 32) (v b h))
