-- 8 bits to 5 and back (document 01, "Recipients and identities"): five bytes are eight symbols of 5 bits, the first bit first.
use Rattle.std.specs.Prelude.{ℕ, ◌+◌, ◌-◌, ◌*◌, ◌/◌, ◌%◌, ◌^◌, Bool, ◌&&◌, List, [], ◌∷◌, ltb, eqb, length, get_or}

-- the symbols of some bytes; the last is filled up with zero bits
unfoldable pub symbols : List ℕ → List ℕ
symbols [] = []
symbols (a ∷ []) = (a / 8) ∷ (a % 8 * 4) ∷ []
symbols (a ∷ b ∷ []) = (a / 8) ∷ (a % 8 * 4 + b / 64) ∷ (b / 2 % 32) ∷ (b % 2 * 16) ∷ []
symbols (a ∷ b ∷ c ∷ []) = (a / 8) ∷ (a % 8 * 4 + b / 64) ∷ (b / 2 % 32) ∷ (b % 2 * 16 + c / 16) ∷ (c % 16 * 2) ∷ []
symbols (a ∷ b ∷ c ∷ d ∷ []) =
    (a / 8) ∷ (a % 8 * 4 + b / 64) ∷ (b / 2 % 32) ∷ (b % 2 * 16 + c / 16) ∷ (c % 16 * 2 + d / 128) ∷ (d / 4 % 32) ∷ (d % 4 * 8) ∷ []
symbols (a ∷ b ∷ c ∷ d ∷ e ∷ t) =
    (a / 8) ∷ (a % 8 * 4 + b / 64) ∷ (b / 2 % 32) ∷ (b % 2 * 16 + c / 16) ∷ (c % 16 * 2 + d / 128) ∷ (d / 4 % 32) ∷ (d % 4 * 8 + e / 32) ∷ (e % 32) ∷
    symbols t

-- the whole bytes of some symbols
unfoldable pub bytes : List ℕ → List ℕ
bytes [] = []
bytes (p ∷ []) = []
bytes (p ∷ q ∷ []) = (p * 8 + q / 4) ∷ []
bytes (p ∷ q ∷ r ∷ []) = (p * 8 + q / 4) ∷ []
bytes (p ∷ q ∷ r ∷ s ∷ []) = (p * 8 + q / 4) ∷ (q % 4 * 64 + r * 2 + s / 16) ∷ []
bytes (p ∷ q ∷ r ∷ s ∷ t ∷ []) = (p * 8 + q / 4) ∷ (q % 4 * 64 + r * 2 + s / 16) ∷ (s % 16 * 16 + t / 2) ∷ []
bytes (p ∷ q ∷ r ∷ s ∷ t ∷ u ∷ []) = (p * 8 + q / 4) ∷ (q % 4 * 64 + r * 2 + s / 16) ∷ (s % 16 * 16 + t / 2) ∷ []
bytes (p ∷ q ∷ r ∷ s ∷ t ∷ u ∷ v ∷ []) =
    (p * 8 + q / 4) ∷ (q % 4 * 64 + r * 2 + s / 16) ∷ (s % 16 * 16 + t / 2) ∷ (t % 2 * 128 + u * 4 + v / 8) ∷ []
bytes (p ∷ q ∷ r ∷ s ∷ t ∷ u ∷ v ∷ w ∷ l) =
    (p * 8 + q / 4) ∷ (q % 4 * 64 + r * 2 + s / 16) ∷ (s % 16 * 16 + t / 2) ∷ (t % 2 * 128 + u * 4 + v / 8) ∷ (v % 8 * 32 + w) ∷ bytes l

-- how many bits of n symbols remain behind their whole bytes
abbrev pub remaining : ℕ → ℕ
remaining n = n * 5 % 8

-- the last symbol, 0 of none
abbrev pub last : List ℕ → ℕ
last t = get_or t (length t - 1) 0

-- fewer than 5 bits remain and all are zero
unfoldable pub is_whole : List ℕ → Bool
is_whole t = ltb (remaining (length t)) 5 && eqb (last t % 2 ^ remaining (length t)) 0
