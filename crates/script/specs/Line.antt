-- A line of a script: the bytes up to an LF.
use Rattle.std.specs.Prelude.{ℕ, Bool, not, eqb}

-- a byte that is no LF
unfoldable pub is_line_byte : ℕ → Bool
is_line_byte b = not (eqb b 10)
