-- The alphabet's laws: values and characters undo each other.
use Prim.Native.Nat.{ℕ, ◌<◌, ◌≤◌}
use mathlib.Core.Path.{◌≡◌, sym, ◌∙◌}
use mathlib.Core.Bool.{Bool, true, false, false≢true}
use lib.Dec.{T, eqb, ltb, eqb→eq, ltb→lt}
use native.Mathlib.Decide.{dec_lt}
use native.Mathlib.Omega.{arith}
use borrow.Author.Tests.{le-leb, lt-leb, ne_eqb}
use Rattle.refusal.proofs.Laws.Below.{below}
use Rattle.refusal.proofs.Laws.Booleans.{T_true}
use Rattle.strict_base64.specs.Alphabet.{is_character, value_of, character_of}

-- every value's character is a character, of that value
pub character_is : (v : ℕ) → v < 64 → is_character (character_of v) ≡ true
unfolding is_character character_of
character_is v h = T_true _ (below (λ v. is_character (character_of v)) 64 tt v h)

pub value_character : (v : ℕ) → v < 64 → value_of (character_of v) ≡ v
unfolding value_of character_of
value_character v h = eqb→eq _ _ (below (λ v. eqb (value_of (character_of v)) v) 64 tt v h)

-- no byte from 123 on is a character
high_out : (b : ℕ) → 123 ≤ b → is_character b ≡ false
unfolding is_character
high_out b h =
    simp (le-leb 65 b (omega arith), lt-leb b 90 (omega arith), le-leb 97 b (omega arith), lt-leb b 122 (omega arith), le-leb 48 b (omega arith), lt-leb b 57 (omega arith), ne_eqb b 43 (omega arith), ne_eqb b 47 (omega arith))

high_zero : (b : ℕ) → 123 ≤ b → value_of b ≡ 0
unfolding value_of
high_zero b h =
    simp (le-leb 65 b (omega arith), lt-leb b 90 (omega arith), le-leb 97 b (omega arith), lt-leb b 122 (omega arith), le-leb 48 b (omega arith), lt-leb b 57 (omega arith), ne_eqb b 43 (omega arith), ne_eqb b 47 (omega arith))

-- a rule of every number, by the test below 123 and the rest
low_high {ℓ} : (P : ℕ → Type ℓ) → ((b : ℕ) → b < 123 → P b) → ((b : ℕ) → 123 ≤ b → P b) → (b : ℕ) → P b
low_high P low rest b = elim (dec_lt b 123) [ yes h ↦ low b h | no h ↦ rest b (omega arith) ]

pub value_lt : (b : ℕ) → value_of b < 64
unfolding value_of
value_lt =
    low_high (λ b. value_of b < 64) (λ b h. ltb→lt _ _ (below (λ b. ltb (value_of b) 64) 123 tt b h))
    (λ b h. rw (high_zero b h) (omega arith))

implies : Bool → Bool → Bool
implies true b = b
implies false b = true

implied : (a b : Bool) → T (implies a b) → a ≡ true → T b
unfolding implies
implied true b t e = t
implied false b t e = absurd (false≢true e)

pub character_value : (b : ℕ) → is_character b ≡ true → character_of (value_of b) ≡ b
unfolding is_character character_of value_of implies
character_value =
    low_high (λ b. is_character b ≡ true → character_of (value_of b) ≡ b)
    (λ b h e. eqb→eq _ _ (implied (is_character b) (eqb (character_of (value_of b)) b) (below (λ b. implies (is_character b) (eqb (character_of (value_of b)) b)) 123 tt b h) e))
    (λ b h e. absurd (false≢true (sym (high_out b h) ∙ e)))
