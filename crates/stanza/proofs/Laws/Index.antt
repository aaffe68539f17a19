-- The text of an index: which texts are one, and of which number. `read_index` and `decimal` undo each other, and every other text is refused with 5.
use Prim.Native.Nat.{ℕ, zero, suc, ◌+◌, ◌-◌, ◌*◌, ◌/◌, ◌%◌, ◌<◌, ◌≤◌}
use mathlib.Core.Path.{◌≡◌, refl, sym, ap, ◌∙◌}
use mathlib.Core.Bool.{true, false, ◌&&◌}
use mathlib.Core.List.{List, [], ◌∷◌, ◌++◌, append_assoc, append-nil}
use mathlib.Core.Logic.{◌⊎◌, inl, inr, ⊎_elim, ◌↔◌}
use lib.Dec.{leb, ltb, eqb, eqb-suc-zero, eqb-suc-suc}
use lib.ListN.{length, drop, get_or, drop_of_length-le, length-append, get_or-append}
use native.Mathlib.Omega.{arith}
use borrow.Author.Tests.{lt-ltb, le-ltb, le-leb, lt-leb, ne_eqb, leb-true, leb-false, ltb-true, ltb-false, eqb-false}
use Rattle.refusal.specs.Pick.{pick}
use Rattle.refusal.specs.Run.{all}
use Rattle.refusal.proofs.Laws.Booleans.{cases, and_true, and_false_right}
use Rattle.refusal.proofs.Laws.Lists.{drop_one}
use Rattle.refusal.proofs.Laws.Run.{all_append}
use Rattle.stanza.specs.Index.{number, refused, is_digit, digits, read_index, value_from, is_index, decimal, decimal_with}

-- ---- what the code passes over

pub digits_none : (t : List ℕ) (v i : ℕ) → length t ≤ i → digits v (drop i t) ≡ number v
unfolding digits
digits_none t v i h = rw (drop_of_length-le t h)

pub digits_one : (t : List ℕ) (v i : ℕ) → i < length t →
    digits v (drop i t) ≡
    pick (is_digit (get_or t i 0) && leb (v * 10 + (get_or t i 0 - 48)) 4294967295)
    (digits (v * 10 + (get_or t i 0 - 48)) (drop (i + 1) t))
    (refused 5)
unfolding digits
digits_one t v i h = rw (drop_one t i 0 h)

-- by the length and the first byte
pub read_index_by : (t : List ℕ) →
    read_index t ≡
    pick (eqb (length t) 0) (refused 5)
    (pick (eqb (length t) 1) (digits 0 t) (pick (eqb (get_or t 0 0) 48) (refused 5) (digits 0 t)))
unfolding read_index
read_index_by [] = refl
read_index_by (b ∷ []) = refl
read_index_by (b ∷ c ∷ t) =
    rw (eqb-suc-zero (suc (length t)), eqb-suc-suc (suc (length t)) 0, eqb-suc-zero (length t))

-- ---- what digits stand for

pub value_append : (v : ℕ) (s t : List ℕ) → value_from v (s ++ t) ≡ value_from (value_from v s) t
unfolding value_from
value_append v [] t = refl
value_append v (b ∷ s) t = value_append (v * 10 + (b - 48)) s t

-- it only grows
pub value_le : (v : ℕ) (t : List ℕ) → v ≤ value_from v t
unfolding value_from
value_le v [] = omega arith
value_le v (b ∷ t) = omega (arith, value_le (v * 10 + (b - 48)) t)

pub value_above : (limit v : ℕ) (t : List ℕ) → limit < v → leb (value_from v t) limit ≡ false
value_above limit v t h = lt-leb (value_from v t) limit (omega (arith, value_le v t))

-- digits are read if all of them are digits and the number is not too large
digits_value : (v : ℕ) (t : List ℕ) → v ≤ 4294967295 →
    digits v t ≡ pick (all is_digit t && leb (value_from v t) 4294967295) (number (value_from v t)) (refused 5)
unfolding digits value_from all
digits_value v [] h = rw (le-leb v 4294967295 h)
digits_value v (b ∷ t) h =
    cases (is_digit b)
    (λ d. cases (leb (v * 10 + (b - 48)) 4294967295)
    (λ l. rw (d, l) (digits_value (v * 10 + (b - 48)) t (leb-true _ _ l)))
    (λ l. rw (d, l, value_above 4294967295 (v * 10 + (b - 48)) t (leb-false _ _ l), and_false_right (all is_digit t))))
    (λ d. rw d)

-- ---- the text of a number

decimal_small : (f n : ℕ) → n < 10 → decimal_with (suc f) n ≡ (48 + n) ∷ []
unfolding decimal_with
decimal_small f n h = rw (lt-ltb n 10 h)

decimal_large : (f n : ℕ) → 10 ≤ n → decimal_with (suc f) n ≡ decimal_with f (n / 10) ++ ((48 + n % 10) ∷ [])
unfolding decimal_with
decimal_large f n h = rw (le-ltb n 10 h)

-- any fuel above the number is enough
decimal_fuel : (f g n : ℕ) → n < f → n < g → decimal_with f n ≡ decimal_with g n
decimal_fuel zero g n h k = absurd (omega arith)
decimal_fuel (suc f) zero n h k = absurd (omega arith)
decimal_fuel (suc f) (suc g) n h k =
    cases (ltb n 10)
    (λ e. decimal_small f n (ltb-true n 10 e) ∙ sym (decimal_small g n (ltb-true n 10 e)))
    (λ e. let l = ltb-false n 10 e in
    decimal_large f n l ∙
    ap (λ (s : List ℕ). s ++ ((48 + n % 10) ∷ [])) (decimal_fuel f g (n / 10) (omega arith) (omega arith)) ∙
    sym (decimal_large g n l))

-- one digit more
decimal_digit : (v d : ℕ) → 0 < v → d < 10 → decimal (v * 10 + d) ≡ decimal v ++ ((48 + d) ∷ [])
unfolding decimal
decimal_digit v d h k =
    let q : (v * 10 + d) / 10 ≡ v = omega arith in
    let r : (v * 10 + d) % 10 ≡ d = omega arith in
    rw (
      decimal_large (v * 10 + d) (v * 10 + d) (omega arith),
      q,
      r,
      decimal_fuel (v * 10 + d) (suc v) v (omega arith) (omega arith),
    )

-- it has digits only, and they stand for the number
pub decimal_digits : (f n : ℕ) → n < f → (all is_digit (decimal_with f n) ≡ true) × (value_from 0 (decimal_with f n) ≡ n)
unfolding all value_from
decimal_digits zero n h = absurd (omega arith)
decimal_digits (suc f) n h =
    cases (ltb n 10)
    (λ e. let l = ltb-true n 10 e in
    rw (decimal_small f n l, le-leb 48 (48 + n) (omega arith), le-leb (48 + n) 57 (omega arith)) (refl, omega arith))
    (λ e. let l = ltb-false n 10 e in
    let ih = decimal_digits f (n / 10) (omega arith) in
    rw (
      decimal_large f n l,
      all_append is_digit (decimal_with f (n / 10)) ((48 + n % 10) ∷ []),
      value_append 0 (decimal_with f (n / 10)) ((48 + n % 10) ∷ []),
      ih.0,
      ih.1,
      le-leb 48 (48 + n % 10) (omega arith),
      le-leb (48 + n % 10) 57 (omega arith),
    )
    (refl, omega arith))

-- there is at least one
pub decimal_some : (n : ℕ) → 0 < length (decimal n)
unfolding decimal
decimal_some n =
    cases (ltb n 10) (λ e. rw (decimal_small n n (ltb-true n 10 e)) (omega arith))
    (λ e. rw (decimal_large n n (ltb-false n 10 e), length-append (decimal_with n (n / 10)) ((48 + n % 10) ∷ [])) (omega arith))

-- only that of 0 begins with "0"
decimal_first : (f n : ℕ) → n < f → 0 < n → (0 < length (decimal_with f n)) × (get_or (decimal_with f n) 0 0 ≡ 48 → ⊥)
decimal_first zero n h k = absurd (omega arith)
decimal_first (suc f) n h k =
    cases (ltb n 10)
    (λ e. rw (decimal_small f n (ltb-true n 10 e)) (omega arith, λ q. omega arith))
    (λ e. let l = ltb-false n 10 e in
    let ih = decimal_first f (n / 10) (omega arith) (omega arith) in
    rw (decimal_large f n l) (
      rw (length-append (decimal_with f (n / 10)) ((48 + n % 10) ∷ [])) (omega arith),
      rw (get_or-append (decimal_with f (n / 10)) ((48 + n % 10) ∷ []) 0 0 ih.0) ih.1,
    ))

-- ---- reading and writing undo each other

-- a text that does not begin with "0" is its digits
read_plain : (t : List ℕ) → 0 < length t → (get_or t 0 0 ≡ 48 → ⊥) → read_index t ≡ digits 0 t
read_plain t h k =
    cases (eqb (length t) 1) (λ e. rw (read_index_by t, ne_eqb (length t) 0 (λ q. omega arith), e))
    (λ e. rw (read_index_by t, ne_eqb (length t) 0 (λ q. omega arith), e, ne_eqb (get_or t 0 0) 48 k))

pub read_decimal : (n : ℕ) → n ≤ 4294967295 → read_index (decimal n) ≡ number n
unfolding decimal
read_decimal zero h = unfold decimal_with read_index digits in refl
read_decimal (suc m) h =
    let n = suc m in
    let d = decimal_digits (suc n) n (omega arith) in
    let f = decimal_first (suc n) n (omega arith) (omega arith) in
    read_plain (decimal_with (suc n) n) f.0 f.1 ∙
    digits_value 0 (decimal_with (suc n) n) (omega arith) ∙
    rw (d.0, d.1, le-leb n 4294967295 h)

-- what the digits of a text stand for has that text, behind the text of what was read before
decimal_value : (v : ℕ) (t : List ℕ) → 0 < v → all is_digit t ≡ true → decimal (value_from v t) ≡ decimal v ++ t
unfolding value_from all
decimal_value v [] h e = sym (append-nil (decimal v))
decimal_value v (b ∷ t) h e =
    let a = and_true (is_digit b) (all is_digit t) e in
    let l = and_true (leb 48 b) (leb b 57) a.0 in
    let lo = leb-true 48 b l.0 in
    let hi = leb-true b 57 l.1 in
    let q : 48 + (b - 48) ≡ b = omega arith in
    decimal_value (v * 10 + (b - 48)) t (omega arith) a.1 ∙
    rw (decimal_digit v (b - 48) h (omega arith), q) (append_assoc (decimal v) (b ∷ []) t)

decimal_one : (b : ℕ) → is_digit b ≡ true → decimal (0 * 10 + (b - 48)) ≡ b ∷ []
unfolding decimal
decimal_one b e =
    let l = and_true (leb 48 b) (leb b 57) e in
    let lo = leb-true 48 b l.0 in
    let hi = leb-true b 57 l.1 in
    let q : 48 + (0 * 10 + (b - 48)) ≡ b = omega arith in
    decimal_small (0 * 10 + (b - 48)) (0 * 10 + (b - 48)) (omega arith) ∙ rw q

first_positive : (b : ℕ) → 48 ≤ b → (b ≡ 48 → ⊥) → 0 < 0 * 10 + (b - 48)
first_positive b h k = omega arith

-- an index is the text of its number, and every other text is refused with 5
abbrev pub Judged : List ℕ → Type 0
Judged t = ((n : ℕ) × (read_index t ≡ number n) × (t ≡ decimal n) × (n ≤ 4294967295)) ⊎ (read_index t ≡ refused 5)

-- where a text is its digits, and is that of what they stand for if they are digits
judged : (t : List ℕ) → read_index t ≡ digits 0 t → (all is_digit t ≡ true → decimal (value_from 0 t) ≡ t) → Judged t
judged t e h =
    cases (all is_digit t && leb (value_from 0 t) 4294967295)
    (λ g. let a = and_true (all is_digit t) (leb (value_from 0 t) 4294967295) g in
    inl (
      value_from 0 t,
      e ∙ digits_value 0 t (omega arith) ∙ rw g,
      sym (h a.0),
      leb-true (value_from 0 t) 4294967295 a.1,
    ))
    (λ g. inr (e ∙ digits_value 0 t (omega arith) ∙ rw g))

pub read_index_lem : (t : List ℕ) → Judged t
unfolding read_index
read_index_lem [] = inr refl
read_index_lem (b ∷ []) = judged (b ∷ []) refl (unfold value_from all in (λ a. decimal_one b (and_true (is_digit b) true a).0))
read_index_lem (b ∷ c ∷ t) =
    cases (eqb b 48) (λ e. inr (rw e))
    (λ e. judged (b ∷ c ∷ t) (rw e)
    (unfold value_from all in
    (λ a. let d = and_true (is_digit b) (all is_digit (c ∷ t)) a in
    let l = leb-true 48 b (and_true (leb 48 b) (leb b 57) d.0).0 in
    decimal_value (0 * 10 + (b - 48)) (c ∷ t) (first_positive b l (eqb-false b 48 e)) d.1 ∙ rw (decimal_one b d.0))))

-- so what is read from a text says which text it is
pub read_number : (t : List ℕ) (n : ℕ) → read_index t ≡ number n → (t ≡ decimal n) × (n ≤ 4294967295)
read_number t n e =
    ⊎_elim
    (λ j. let k = j.0 in
    let f = j.1 in
    let m : n ≡ k = cc in
    rw m (j.2, j.3))
    (λ f. let z : ◌≡◌ {A = ℕ} 0 1 = cc in absurd (omega arith))
    (read_index_lem t)

-- ---- exactly which texts are an index, and of which number

-- by the paper's words
pub index_is : (t : List ℕ) → read_index t ≡ pick (is_index t) (number (value_from 0 t)) (refused 5)
unfolding read_index
index_is [] = refl
index_is (b ∷ []) = digits_value 0 (b ∷ []) (omega arith)
index_is (b ∷ c ∷ t) = cases (eqb b 48) (λ e. rw e) (λ e. rw e (digits_value 0 (b ∷ c ∷ t) (omega arith)))

-- by the text of the number
pub index_iff : (t : List ℕ) (n : ℕ) → (read_index t ≡ number n) ↔ ((t ≡ decimal n) × (n ≤ 4294967295))
index_iff t n = (read_number t n, λ w. ap read_index w.0 ∙ read_decimal n w.1)
