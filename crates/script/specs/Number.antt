-- Numbers of a script: one or more decimal digits, leading zeros and all, at most a limit.
use Rattle.std.specs.Prelude.{ℕ, Bool, false, ◌&&◌, List, [], ◌∷◌, Option, Some, None, leb}
use Rattle.refusal.specs.Pick.{pick}
use Rattle.refusal.specs.Run.{all}
use Rattle.stanza.specs.Index.{is_digit, value_from}

-- what reading a number gives
pub data ReadNumber : Type 0 where
  value : ℕ → ReadNumber
  bad : ReadNumber

-- what the code's answer stands for
abbrev pub number_said : Option ℕ → ReadNumber
number_said (Some n) = value n
number_said None = bad

-- at least one digit, and nothing else
unfoldable pub is_number : List ℕ → Bool
is_number [] = false
is_number (b ∷ t) = all is_digit (b ∷ t)

-- what a text stands for, if it is a number and not above the limit
unfoldable pub read_number : List ℕ → ℕ → ReadNumber
read_number t limit = pick (is_number t && leb (value_from 0 t) limit) (value (value_from 0 t)) bad
