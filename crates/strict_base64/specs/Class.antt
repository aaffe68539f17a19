-- A class of bytes, by the code's test of it.
use Rattle.std.specs.Prelude.{ℕ, Bool, ◌<◌, ◌≡◌}

-- what the test of a byte returns is whether the byte is in the class
abbrev pub Tests : (ℕ → Bool → Type 0) → (ℕ → Bool) → Type 0
Tests returns class = (b : ℕ) (r : Bool) → b < 256 → returns b r → r ≡ class b
