-- The Bech32 checksum (document 01, "Recipients and identities": the constants, and the final value 1; BIP 173, "Checksum").
use Rattle.std.specs.Prelude.{ℕ, ◌*◌, ◌/◌, ◌%◌, Bool, List, [], ◌∷◌, ◌++◌, map, eqb, ltb}
use Rattle.std.specs.Int.Bits.{bit_xor}
use Rattle.refusal.specs.Pick.{pick}
use Rattle.refusal.specs.Run.{all}

-- what the five top bits of the state fold in, the lowest first
abbrev pub constants : List ℕ
constants = 0x3b6a57b2 ∷ 0x26508e6d ∷ 0x1ea119fa ∷ 0x3d4233dd ∷ 0x2a1462b3 ∷ []

-- the constant where its bit is set
unfoldable pub taken : ℕ → ℕ → ℕ
taken bit constant = pick (eqb bit 1) constant 0

-- the state with the constants folded in whose bits are set
unfoldable pub folded : ℕ → List ℕ → ℕ → ℕ
folded c [] bits = c
folded c (g ∷ gs) bits = folded (bit_xor c (taken (bits % 2) g)) gs (bits / 2)

-- one symbol on: the low 25 bits move up by 5, the symbol comes in, and the 5 top bits choose the constants
unfoldable pub stepped : ℕ → ℕ → ℕ
stepped c v = folded (bit_xor (c % 33554432 * 32) v) constants (c / 33554432)

-- every value is a symbol, a number of 5 bits
abbrev pub are_symbols : List ℕ → Bool
are_symbols t = all (λ v. ltb v 32) t

-- several symbols on
unfoldable pub polymod : ℕ → List ℕ → ℕ
polymod c [] = c
polymod c (v ∷ t) = polymod (stepped c v) t

-- the human part as the checksum takes it in: the high bits of each byte, 0, and the low five
abbrev pub expanded : List ℕ → List ℕ
expanded h = map (λ b. b / 32) h ++ 0 ∷ map (λ b. b % 32) h

-- a number of 30 bits as six symbols, the first the highest
abbrev pub six_symbols : ℕ → List ℕ
six_symbols p = (p / 33554432 % 32) ∷ (p / 1048576 % 32) ∷ (p / 32768 % 32) ∷ (p / 1024 % 32) ∷ (p / 32 % 32) ∷ (p % 32) ∷ []

-- the six symbols of the checksum behind a state: with them the final value is 1
abbrev pub checksum : ℕ → List ℕ
checksum c = six_symbols (bit_xor (polymod c (0 ∷ 0 ∷ 0 ∷ 0 ∷ 0 ∷ 0 ∷ [])) 1)
