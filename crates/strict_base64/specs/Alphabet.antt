-- The standard base64 alphabet (RFC 4648, section 4; document 01: "standard base64").
use Rattle.std.specs.Prelude.{ℕ, ◌+◌, ◌-◌, Bool, ◌&&◌, ◌||◌, ltb, leb, eqb}
use Rattle.refusal.specs.Pick.{pick}

-- A to Z, a to z, 0 to 9, "+" and "/"
unfoldable pub is_character : ℕ → Bool
is_character b =
    leb 65 b && leb b 90 || leb 97 b && leb b 122 || leb 48 b && leb b 57 || eqb b 43 || eqb b 47

-- the value of a character, in that order from 0 to 63; of any other byte 0, which no reader asks for
unfoldable pub value_of : ℕ → ℕ
value_of b =
    pick (leb 65 b && leb b 90) (b - 65)
    (pick (leb 97 b && leb b 122) (b - 71)
    (pick (leb 48 b && leb b 57) (b + 4) (pick (eqb b 43) 62 (pick (eqb b 47) 63 0))))

-- the character of a value below 64
unfoldable pub character_of : ℕ → ℕ
character_of v =
    pick (ltb v 26) (v + 65) (pick (ltb v 52) (v + 71) (pick (ltb v 62) (v - 4) (pick (eqb v 62) 43 47)))
