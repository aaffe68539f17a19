-- A run: the bytes of one class at the front of a text; and the class that texts are made of.
use Rattle.std.specs.Prelude.{ℕ, suc, Bool, true, ◌&&◌, List, [], ◌∷◌, leb}
use Rattle.refusal.specs.Pick.{pick}

-- every byte is in the class
unfoldable pub all : (ℕ → Bool) → List ℕ → Bool
all class [] = true
all class (b ∷ t) = class b && all class t

-- how many bytes of the class stand at the front
unfoldable pub run : (ℕ → Bool) → List ℕ → ℕ
run class [] = 0
run class (b ∷ t) = pick (class b) (suc (run class t)) 0

-- a byte from 33 to 126
unfoldable pub is_graphic : ℕ → Bool
is_graphic b = leb 33 b && leb b 126
