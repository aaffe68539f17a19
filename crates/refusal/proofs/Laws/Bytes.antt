-- Lists of bytes, taken apart.
use Prim.Native.Nat.{ℕ, ◌<◌}
use mathlib.Core.Path.{◌≡◌}
use mathlib.Core.Bool.{true}
use mathlib.Core.List.{List, ◌∷◌}
use lib.Dec.{ltb}
use lib.Pow.{are_bytes}
use borrow.Author.Tests.{ltb-true}
use Rattle.refusal.proofs.Laws.Booleans.{and_true}

-- the first byte's bound, and the rest of the bytes
pub byte : (b : ℕ) (t : List ℕ) → are_bytes (b ∷ t) ≡ true → (b < 256) × (are_bytes t ≡ true)
byte b t h = let a = and_true (ltb b 256) (are_bytes t) h in (ltb-true b 256 a.0, a.1)
