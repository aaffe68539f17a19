-- What the calls answer: characters in either case as symbols, and how many bytes and symbols make each other (document 01, "Recipients and identities").
use Rattle.std.specs.Prelude.{ℕ, ◌+◌, ◌*◌, ◌/◌, ◌%◌, Bool, ◌&&◌, List, [], ◌∷◌, ltb, eqb}
use Rattle.symbols.specs.Charset.{value_of, lower}
use Rattle.symbols.specs.Checksum.{stepped}

-- the value of a byte in either case
abbrev pub value_at : ℕ → ℕ
value_at b = value_of (lower b)

-- the symbol of a byte in either case: its value, or 0 for a byte outside the alphabet, whose value is 32
abbrev pub symbol_at : ℕ → ℕ
symbol_at b = value_at b % 32

-- the values are all symbols and bring the state to 1
unfoldable pub closes : ℕ → List ℕ → Bool
closes c [] = eqb c 1
closes c (v ∷ t) = ltb v 32 && closes (stepped c v) t

-- how many bytes n symbols make, and how many symbols n bytes
abbrev pub bytes_size : ℕ → ℕ
bytes_size n = n * 5 / 8

abbrev pub symbols_size : ℕ → ℕ
symbols_size n = (n * 8 + 4) / 5
