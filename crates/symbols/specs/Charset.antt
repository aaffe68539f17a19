-- The Bech32 alphabet (document 01, "Recipients and identities"): `qpzry9x8gf2tvdw0s3jn54khce6mua7l`, values 0 to 31 in that order; and letters by case.
use Rattle.std.specs.Prelude.{ℕ, suc, ◌+◌, ◌-◌, Bool, ◌&&◌, List, [], ◌∷◌, leb, eqb, get_or}
use Rattle.refusal.specs.Pick.{pick}

-- the 32 characters
abbrev pub charset : List ℕ
charset =
    113 ∷ 112 ∷ 122 ∷ 114 ∷ 121 ∷ 57 ∷ 120 ∷ 56 ∷ 103 ∷ 102 ∷ 50 ∷ 116 ∷ 118 ∷ 100 ∷ 119 ∷ 48 ∷ 115 ∷ 51 ∷ 106 ∷ 110 ∷ 53 ∷ 52 ∷ 107 ∷ 104 ∷ 99 ∷
    101 ∷ 54 ∷ 109 ∷ 117 ∷ 97 ∷ 55 ∷ 108 ∷ []

-- where a byte stands in a list, its length where it does not
unfoldable pub place_of : ℕ → List ℕ → ℕ
place_of b [] = 0
place_of b (x ∷ xs) = pick (eqb b x) 0 (suc (place_of b xs))

-- the value of a character, 32 for a byte outside the alphabet
abbrev pub value_of : ℕ → ℕ
value_of b = place_of b charset

-- the character of a value
abbrev pub character_of : ℕ → ℕ
character_of v = get_or charset v 0

-- a letter A to Z
unfoldable pub is_upper : ℕ → Bool
is_upper b = leb 65 b && leb b 90

-- a letter a to z
unfoldable pub is_lower : ℕ → Bool
is_lower b = leb 97 b && leb b 122

-- a byte in lower case
unfoldable pub lower : ℕ → ℕ
lower b = pick (is_upper b) (b + 32) b

-- a byte in upper case
unfoldable pub upper : ℕ → ℕ
upper b = pick (is_lower b) (b - 32) b
