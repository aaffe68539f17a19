-- An index (document 01, "Phase one"): "0" or digits without a leading zero, at most 4,294,967,295. Anything else is No. 5.
use Rattle.std.specs.Prelude.{ℕ, zero, suc, ◌+◌, ◌-◌, ◌*◌, ◌/◌, ◌%◌, Bool, true, false, ◌&&◌, not, List, [], ◌∷◌, ◌++◌, leb, ltb, eqb, Result, Ok, Err}
use Rattle.refusal.specs.Number.{number_of}
use Rattle.refusal.specs.Pick.{pick}
use Rattle.refusal.specs.Run.{all}
use Rattle.refusal.specs.declared.Refusal.{Refusal}

-- what reading an index gives: the number, or the paper's number of the refusal
pub data ReadIndex : Type 0 where
  number : ℕ → ReadIndex
  refused : ℕ → ReadIndex

-- what the code's answer stands for
abbrev pub index_said : Result ℕ Refusal → ReadIndex
index_said (Ok n) = number n
index_said (Err r) = refused (number_of r)

-- "0" to "9"
abbrev pub is_digit : ℕ → Bool
is_digit b = leb 48 b && leb b 57

-- the digits of a number, from the left, where v has been read: never more than 4,294,967,295
unfoldable pub digits : ℕ → List ℕ → ReadIndex
digits v [] = number v
digits v (b ∷ t) = pick (is_digit b && leb (v * 10 + (b - 48)) 4294967295) (digits (v * 10 + (b - 48)) t) (refused 5)

-- no digits are no index, and a leading zero stands alone
unfoldable pub read_index : List ℕ → ReadIndex
read_index [] = refused 5
read_index (b ∷ []) = digits 0 (b ∷ [])
read_index (b ∷ c ∷ t) = pick (eqb b 48) (refused 5) (digits 0 (b ∷ c ∷ t))

-- what digits stand for, from the left, where v has been read
unfoldable pub value_from : ℕ → List ℕ → ℕ
value_from v [] = v
value_from v (b ∷ t) = value_from (v * 10 + (b - 48)) t

-- "0", or no leading zero
abbrev pub is_plain : List ℕ → Bool
is_plain [] = false
is_plain (b ∷ []) = true
is_plain (b ∷ c ∷ t) = not (eqb b 48)

-- "0" or digits without a leading zero, at most 4,294,967,295
abbrev pub is_index : List ℕ → Bool
is_index t = is_plain t && all is_digit t && leb (value_from 0 t) 4294967295

-- the decimal digits of a number, with fuel for as many digits: the last digit stands behind those of the tenth part
unfoldable pub decimal_with : ℕ → ℕ → List ℕ
decimal_with zero n = []
decimal_with (suc f) n = let more = decimal_with f (n / 10) ++ ((48 + n % 10) ∷ []) in pick (ltb n 10) ((48 + n) ∷ []) more

-- the text of a number without leading zeros, "0" for 0
unfoldable pub decimal : ℕ → List ℕ
decimal n = decimal_with (suc n) n
