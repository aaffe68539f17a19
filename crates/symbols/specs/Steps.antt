-- What the functions make of a table that they are lent, and what they work out. Nobody has to believe this: a caller that lends them the
-- table of `values` shows that they answer what Calls says.
use Rattle.std.specs.Prelude.{ℕ, ◌%◌, ◌^◌, ◌<◌, ◌≡◌, Bool, ◌&&◌, List, ltb, eqb, get_or}
use Rattle.symbols.specs.Calls.{value_at}
use Rattle.symbols.specs.Checksum.{constants, folded}

-- the value of each byte
abbrev pub Values : List ℕ → Type 0
Values t = (b : ℕ) → b < 256 → get_or t b 0 ≡ value_at b

-- what a number of five bits folds in: the exclusive or of the constants that its bits choose, the lowest first
abbrev pub chosen : ℕ → ℕ
chosen n = folded 0 constants n

abbrev pub Folds : List ℕ → Type 0
Folds t = (n : ℕ) → n < 32 → get_or t n 0 ≡ chosen n

-- the value of a byte by a table, and its symbol
abbrev pub value_in : List ℕ → ℕ → ℕ
value_in t b = get_or t b 0

abbrev pub symbol_in : List ℕ → ℕ → ℕ
symbol_in t b = value_in t b % 32

-- fewer than 5 bits remain and all are zero, by how many remain and the last symbol
abbrev pub is_clear : ℕ → ℕ → Bool
is_clear left v = ltb left 5 && eqb (v % 2 ^ left) 0
