-- Base64 without padding: three bytes are four characters, and what is left over two or three (document 01, "Stanza text").
use Rattle.std.specs.Prelude.{ℕ, ◌+◌, ◌-◌, ◌*◌, ◌/◌, ◌%◌, Bool, true, false, ◌&&◌, List, [], ◌∷◌, eqb, length, get_or, Option, Some, None}
use Rattle.refusal.specs.Pick.{pick}
use Rattle.strict_base64.specs.Alphabet.{is_character, value_of, character_of}
use Rattle.refusal.specs.Run.{all}

-- the text of some bytes
unfoldable pub encoded : List ℕ → List ℕ
encoded [] = []
encoded (a ∷ []) = character_of (a / 4) ∷ character_of (a % 4 * 16) ∷ []
encoded (a ∷ b ∷ []) = character_of (a / 4) ∷ character_of (a % 4 * 16 + b / 16) ∷ character_of (b % 16 * 4) ∷ []
encoded (a ∷ b ∷ c ∷ t) =
    character_of (a / 4) ∷ character_of (a % 4 * 16 + b / 16) ∷ character_of (b % 16 * 4 + c / 64) ∷ character_of (c % 64) ∷
    encoded t

-- the bytes of a text
unfoldable pub decoded : List ℕ → List ℕ
decoded [] = []
decoded (a ∷ []) = []
decoded (a ∷ b ∷ []) = (value_of a * 4 + value_of b / 16) ∷ []
decoded (a ∷ b ∷ c ∷ []) = (value_of a * 4 + value_of b / 16) ∷ (value_of b % 16 * 16 + value_of c / 4) ∷ []
decoded (a ∷ b ∷ c ∷ d ∷ t) =
    (value_of a * 4 + value_of b / 16) ∷ (value_of b % 16 * 16 + value_of c / 4) ∷ (value_of c % 4 * 64 + value_of d) ∷ decoded t

-- a text of n characters may end where the last has the value v: no single character is left over, and unused bits are zero
unfoldable pub ends_well : ℕ → ℕ → Bool
ends_well n v =
    pick (eqb (n % 4) 0) true (pick (eqb (n % 4) 2) (eqb (v % 16) 0) (pick (eqb (n % 4) 3) (eqb (v % 4) 0) false))

-- the last byte of a text, 0 of an empty one
abbrev pub last : List ℕ → ℕ
last t = get_or t (length t - 1) 0

-- which texts are base64
unfoldable pub is_base64 : List ℕ → Bool
is_base64 t = all is_character t && ends_well (length t) (value_of (last t))

-- an answer about a text that may be no base64
pub data Judged (X : Type 0) : Type 0 where
  base64 : X → Judged X
  not_base64 : Judged X

-- what the code's answer stands for
abbrev pub size_said : Option ℕ → Judged ℕ
size_said (Some n) = base64 n
size_said None = not_base64

-- measuring: how many bytes the text decodes to
abbrev pub measured : List ℕ → Judged ℕ
measured t = pick (is_base64 t) (base64 (length (decoded t))) not_base64
