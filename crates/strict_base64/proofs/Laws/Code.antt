-- Laws of encoding and decoding.
use Prim.Native.Nat.{ℕ, ◌+◌, ◌-◌, ◌*◌, ◌/◌, ◌%◌, ◌<◌, ◌≤◌}
use mathlib.Core.Path.{◌≡◌, refl, sym, ◌∙◌}
use mathlib.Core.Bool.{true, false}
use mathlib.Core.List.{List, [], ◌∷◌, ◌++◌}
use lib.ListN.{length, take, drop, get_or, take-append-drop}
use Rattle.strict_base64.specs.Tables.{decoded_size, encoded_size}
use lib.Seq.{take-add, length-take-le}
use native.Mathlib.Omega.{arith}
use Rattle.refusal.proofs.Laws.Booleans.{cases}
use Rattle.refusal.proofs.Laws.Lists.{drop_one, part_rest, put_rest, overwrite_part}
use Rattle.strict_base64.specs.Alphabet.{value_of, character_of}
use Rattle.strict_base64.specs.Code.{encoded, decoded, is_base64, Judged, base64, not_base64, measured}

pub decoded_length : (t : List ℕ) → length (decoded t) ≡ decoded_size (length t)
unfolding decoded
decoded_length [] = refl
decoded_length (a ∷ []) = refl
decoded_length (a ∷ b ∷ []) = refl
decoded_length (a ∷ b ∷ c ∷ []) = refl
decoded_length (a ∷ b ∷ c ∷ d ∷ t) = omega (arith, decoded_length t)

pub encoded_length : (t : List ℕ) → length (encoded t) ≡ encoded_size (length t)
unfolding encoded
encoded_length [] = refl
encoded_length (a ∷ []) = refl
encoded_length (a ∷ b ∷ []) = refl
encoded_length (a ∷ b ∷ c ∷ t) = omega (arith, encoded_length t)

-- a text of whole groups, with another behind it
pub decoded_append : (n : ℕ) (s t : List ℕ) → length s ≡ 4 * n → decoded (s ++ t) ≡ decoded s ++ decoded t
unfolding decoded
decoded_append n [] t h = refl
decoded_append n (a ∷ []) t h = absurd (omega arith)
decoded_append n (a ∷ b ∷ []) t h = absurd (omega arith)
decoded_append n (a ∷ b ∷ c ∷ []) t h = absurd (omega arith)
decoded_append n (a ∷ b ∷ c ∷ d ∷ s) t h = rw (decoded_append (n - 1) s t (omega arith))

pub encoded_append : (n : ℕ) (s t : List ℕ) → length s ≡ 3 * n → encoded (s ++ t) ≡ encoded s ++ encoded t
unfolding encoded
encoded_append n [] t h = refl
encoded_append n (a ∷ []) t h = absurd (omega arith)
encoded_append n (a ∷ b ∷ []) t h = absurd (omega arith)
encoded_append n (a ∷ b ∷ c ∷ s) t h = rw (encoded_append (n - 1) s t (omega arith))

-- one group at k
four : (t : List ℕ) (k : ℕ) → k + 4 ≤ length t → take 4 (drop k t) ≡ get_or t k 0 ∷ get_or t (k + 1) 0 ∷ get_or t (k + 2) 0 ∷ get_or t (k + 3) 0 ∷ []
four t k h =
    let e2 : k + 1 + 1 ≡ k + 2 = omega arith in
    let e3 : k + 2 + 1 ≡ k + 3 = omega arith in
    rw (drop_one t k 0 (omega arith), drop_one t (k + 1) 0 (omega arith), e2, drop_one t (k + 2) 0 (omega arith), e3, drop_one t (k + 3) 0 (omega arith))

three : (t : List ℕ) (k : ℕ) → k + 3 ≤ length t → take 3 (drop k t) ≡ get_or t k 0 ∷ get_or t (k + 1) 0 ∷ get_or t (k + 2) 0 ∷ []
three t k h =
    let e2 : k + 1 + 1 ≡ k + 2 = omega arith in
    rw (drop_one t k 0 (omega arith), drop_one t (k + 1) 0 (omega arith), e2, drop_one t (k + 2) 0 (omega arith))

-- one group more of a text that is decoded group by group
pub decoded_turn : (t : List ℕ) (i : ℕ) {a b c d : ℕ} → 4 * i + 4 ≤ length t →
    a ≡ value_of (get_or t (4 * i) 0) → b ≡ value_of (get_or t (4 * i + 1) 0) → c ≡ value_of (get_or t (4 * i + 2) 0) → d ≡ value_of (get_or t (4 * i + 3) 0) →
    decoded (take (4 * (i + 1)) t) ≡ decoded (take (4 * i) t) ++ ((a * 4 + b / 16) ∷ (b % 16 * 16 + c / 4) ∷ (c % 4 * 64 + d) ∷ [])
unfolding decoded
decoded_turn t i h ea eb ec ed =
    let e : 4 * (i + 1) ≡ 4 * i + 4 = omega arith in
    rw (e, take-add (4 * i) 4 t, decoded_append i (take (4 * i) t) (take 4 (drop (4 * i) t)) (length-take-le (4 * i) t (omega arith)), four t (4 * i) h, ea, eb, ec, ed)

pub encoded_turn : (t : List ℕ) (i : ℕ) → 3 * i + 3 ≤ length t →
    encoded (take (3 * (i + 1)) t) ≡
    encoded (take (3 * i) t) ++
    (character_of (get_or t (3 * i) 0 / 4) ∷ character_of (get_or t (3 * i) 0 % 4 * 16 + get_or t (3 * i + 1) 0 / 16) ∷
    character_of (get_or t (3 * i + 1) 0 % 16 * 4 + get_or t (3 * i + 2) 0 / 64) ∷ character_of (get_or t (3 * i + 2) 0 % 64) ∷ [])
unfolding encoded
encoded_turn t i h =
    let e : 3 * (i + 1) ≡ 3 * i + 3 = omega arith in
    rw (e, take-add (3 * i) 3 t, encoded_append i (take (3 * i) t) (take 3 (drop (3 * i) t)) (length-take-le (3 * i) t (omega arith)), three t (3 * i) h)

-- whole groups: three bytes for four characters
pub decoded_groups : (t : List ℕ) (i : ℕ) → 4 * i ≤ length t → length (decoded (take (4 * i) t)) ≡ 3 * i
decoded_groups t i h = decoded_length (take (4 * i) t) ∙ rw (length-take-le (4 * i) t h) (omega arith)

pub encoded_groups : (t : List ℕ) (i : ℕ) → 3 * i ≤ length t → length (encoded (take (3 * i) t)) ≡ 4 * i
encoded_groups t i h = encoded_length (take (3 * i) t) ∙ rw (length-take-le (3 * i) t h) (omega arith)

-- the whole, where the groups are written and then the rest, into the part of the buffer behind them
pub decoded_end : (t o o₀ part : List ℕ) (n : ℕ) → 4 * n ≤ length t → o ≡ decoded (take (4 * n) t) ++ drop (3 * n) o₀ →
    part ≡ decoded (take (length t - 4 * n) (drop (4 * n) t)) ++ drop (length (decoded (take (length t - 4 * n) (drop (4 * n) t)))) (take (length o - 3 * n) (drop (3 * n) o)) →
    take (3 * n) o ++ (part ++ drop (length o - 3 * n) (drop (3 * n) o)) ≡ decoded t ++ drop (length (decoded t)) o₀
decoded_end t o o₀ part n h e p =
    let d : decoded (take (4 * n) t) ++ decoded (drop (4 * n) t) ≡ decoded t = sym (decoded_append n (take (4 * n) t) (drop (4 * n) t) (length-take-le (4 * n) t h)) ∙ rw (take-append-drop (4 * n) t) in
    put_rest (3 * n) o part ∙ rw (p, part_rest (4 * n) t, part_rest (3 * n) o) (overwrite_part o o₀ (decoded (take (4 * n) t)) (decoded (drop (4 * n) t)) (3 * n) e (decoded_groups t n h) ∙ rw d)

pub encoded_end : (t o o₀ part : List ℕ) (n : ℕ) → 3 * n ≤ length t → o ≡ encoded (take (3 * n) t) ++ drop (4 * n) o₀ →
    part ≡ encoded (take (length t - 3 * n) (drop (3 * n) t)) ++ drop (length (encoded (take (length t - 3 * n) (drop (3 * n) t)))) (take (length o - 4 * n) (drop (4 * n) o)) →
    take (4 * n) o ++ (part ++ drop (length o - 4 * n) (drop (4 * n) o)) ≡ encoded t ++ drop (length (encoded t)) o₀
encoded_end t o o₀ part n h e p =
    let d : encoded (take (3 * n) t) ++ encoded (drop (3 * n) t) ≡ encoded t = sym (encoded_append n (take (3 * n) t) (drop (3 * n) t) (length-take-le (3 * n) t h)) ∙ rw (take-append-drop (3 * n) t) in
    put_rest (4 * n) o part ∙ rw (p, part_rest (3 * n) t, part_rest (4 * n) o) (overwrite_part o o₀ (encoded (take (3 * n) t)) (encoded (drop (3 * n) t)) (4 * n) e (encoded_groups t n h) ∙ rw d)

-- the last characters, fewer than four
pub decoded_none : (t : List ℕ) → length t < 2 → decoded t ≡ []
unfolding decoded
decoded_none [] h = refl
decoded_none (a ∷ []) h = refl
decoded_none (a ∷ b ∷ t) h = absurd (omega arith)

pub decoded_two : (t : List ℕ) → length t ≡ 2 → decoded t ≡ (value_of (get_or t 0 0) * 4 + value_of (get_or t 1 0) / 16) ∷ []
unfolding decoded
decoded_two [] h = absurd (omega arith)
decoded_two (a ∷ []) h = absurd (omega arith)
decoded_two (a ∷ b ∷ []) h = refl
decoded_two (a ∷ b ∷ c ∷ t) h = absurd (omega arith)

pub decoded_three : (t : List ℕ) → length t ≡ 3 →
    decoded t ≡ (value_of (get_or t 0 0) * 4 + value_of (get_or t 1 0) / 16) ∷ (value_of (get_or t 1 0) % 16 * 16 + value_of (get_or t 2 0) / 4) ∷ []
unfolding decoded
decoded_three [] h = absurd (omega arith)
decoded_three (a ∷ []) h = absurd (omega arith)
decoded_three (a ∷ b ∷ []) h = absurd (omega arith)
decoded_three (a ∷ b ∷ c ∷ []) h = refl
decoded_three (a ∷ b ∷ c ∷ d ∷ t) h = absurd (omega arith)

-- the last bytes, fewer than three
pub encoded_none : (t : List ℕ) → length t ≡ 0 → encoded t ≡ []
unfolding encoded
encoded_none [] h = refl
encoded_none (a ∷ t) h = absurd (omega arith)

pub encoded_one : (t : List ℕ) → length t ≡ 1 → encoded t ≡ character_of (get_or t 0 0 / 4) ∷ character_of (get_or t 0 0 % 4 * 16) ∷ []
unfolding encoded
encoded_one [] h = absurd (omega arith)
encoded_one (a ∷ []) h = refl
encoded_one (a ∷ b ∷ t) h = absurd (omega arith)

pub encoded_two : (t : List ℕ) → length t ≡ 2 →
    encoded t ≡ character_of (get_or t 0 0 / 4) ∷ character_of (get_or t 0 0 % 4 * 16 + get_or t 1 0 / 16) ∷ character_of (get_or t 1 0 % 16 * 4) ∷ []
unfolding encoded
encoded_two [] h = absurd (omega arith)
encoded_two (a ∷ []) h = absurd (omega arith)
encoded_two (a ∷ b ∷ []) h = refl
encoded_two (a ∷ b ∷ c ∷ t) h = absurd (omega arith)

-- what measuring says of a text
pub measured_is : (t : List ℕ) (m : ℕ) → measured t ≡ base64 m → (is_base64 t ≡ true) × (length (decoded t) ≡ m)
measured_is t m e =
    cases (is_base64 t)
    (λ i. let q : base64 (length (decoded t)) ≡ base64 m = rw i at e in let n : length (decoded t) ≡ m = cc in (i, n))
    (λ i. let q : ◌≡◌ {A = Judged ℕ} not_base64 (base64 m) = rw i at e in let z : ◌≡◌ {A = ℕ} 0 1 = cc in absurd (omega arith))

pub measured_not : (t : List ℕ) → measured t ≡ not_base64 → is_base64 t ≡ false
measured_not t e =
    cases (is_base64 t)
    (λ i. let q : ◌≡◌ {A = Judged ℕ} (base64 (length (decoded t))) not_base64 = rw i at e in let z : ◌≡◌ {A = ℕ} 0 1 = cc in absurd (omega arith))
    (λ i. i)
