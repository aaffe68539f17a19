-- A payload put into a buffer behind those that are there.
use Prim.Native.Nat.{ℕ, ◌+◌, ◌≤◌}
use mathlib.Core.Path.{◌≡◌, sym, ◌∙◌}
use mathlib.Core.List.{List, ◌∷◌, ◌++◌}
use lib.ListN.{length, length-append}
use native.Mathlib.Omega.{arith}
use Rattle.strict_base64.specs.Tables.{body_size}

-- lines have no fewer bytes than their body
pub body_less : (n : ℕ) → body_size n ≤ n
body_less n = omega arith

-- a line, an LF and a body
pub lines_length : (f s : List ℕ) → length f + 1 + length s ≡ length (f ++ 10 ∷ s)
lines_length f s = sym (length-append f (10 ∷ s) ∙ omega arith)
