-- Numbers: what the code's loop passes over, and that the decimal text of a number is read as that number.
use Prim.Native.Nat.{ℕ, suc, ◌+◌, ◌-◌, ◌*◌, ◌<◌, ◌≤◌}
use mathlib.Core.Path.{◌≡◌, refl, ◌∙◌}
use mathlib.Core.Bool.{true, false, ◌&&◌}
use mathlib.Core.List.{List, [], ◌∷◌}
use lib.Dec.{leb}
use lib.ListN.{length, drop, get_or, drop_of_length-le}
use native.Mathlib.Omega.{arith}
use borrow.Author.Tests.{le-leb}
use Rattle.refusal.specs.Pick.{pick}
use Rattle.refusal.specs.Run.{all}
use Rattle.refusal.proofs.Laws.Booleans.{and_false_right}
use Rattle.refusal.proofs.Laws.Lists.{drop_one}
use Rattle.stanza.specs.Index.{is_digit, value_from, decimal}
use Rattle.stanza.proofs.Laws.Index.{value_above, decimal_digits, decimal_some}
use Rattle.script.specs.Number.{ReadNumber, value, bad, is_number, read_number}

-- the rest of a number, where v has been read
unfoldable pub rest_number : ℕ → ℕ → List ℕ → ReadNumber
rest_number limit v t = pick (all is_digit t && leb (value_from v t) limit) (value (value_from v t)) bad

some_digits : (t : List ℕ) → 0 < length t → is_number t ≡ all is_digit t
unfolding is_number
some_digits [] h = absurd (omega arith)
some_digits (b ∷ t) h = refl

pub number_none : (limit : ℕ) (t : List ℕ) → length t ≡ 0 → read_number t limit ≡ bad
unfolding read_number is_number
number_none limit [] h = refl
number_none limit (b ∷ t) h = absurd (omega arith)

pub number_some : (limit : ℕ) (t : List ℕ) → 0 < length t → read_number t limit ≡ rest_number limit 0 t
unfolding read_number rest_number
number_some limit t h = rw (some_digits t h)

module _ (limit v : ℕ) (t : List ℕ) (i : ℕ) where
  pub rest_ends : length t ≤ i → v ≤ limit → rest_number limit v (drop i t) ≡ value v
  unfolding rest_number all value_from
  rest_ends h k = rw (drop_of_length-le t h, le-leb v limit k)

  -- a byte that is no digit
  pub rest_other : i < length t → is_digit (get_or t i 0) ≡ false → rest_number limit v (drop i t) ≡ bad
  unfolding rest_number all
  rest_other h e = rw (drop_one t i 0 h, e)

  pub rest_digit : i < length t → is_digit (get_or t i 0) ≡ true →
      rest_number limit v (drop i t) ≡ rest_number limit (v * 10 + (get_or t i 0 - 48)) (drop (i + 1) t)
  unfolding rest_number all value_from
  rest_digit h e = rw (drop_one t i 0 h, e)

-- what is above the limit stays above it
pub rest_above : (limit v : ℕ) (t : List ℕ) → limit < v → rest_number limit v t ≡ bad
unfolding rest_number
rest_above limit v t h = rw (value_above limit v t h, and_false_right (all is_digit t))

pub number_decimal : (limit n : ℕ) → n ≤ limit → read_number (decimal n) limit ≡ value n
unfolding rest_number decimal
number_decimal limit n h =
    let d = decimal_digits (suc n) n (omega arith) in
    number_some limit (decimal n) (decimal_some n) ∙ rw (d.0, d.1, le-leb n limit h)
