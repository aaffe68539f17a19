-- The arguments behind the tag, by their count and one by one.
use Prim.Native.Nat.{ℕ}
use mathlib.Core.Path.{◌≡◌, refl}
use mathlib.Core.Bool.{false, ◌&&◌}
use mathlib.Core.List.{List, [], ◌∷◌}
use lib.ListN.{length, drop, get_or}
use native.Mathlib.Omega.{arith}
use Rattle.profile.specs.Profile.{is_bytes, is_some, are_arguments}

pub two : (ws : List (List ℕ)) → length ws ≡ 3 → are_arguments (drop 1 ws) ≡ (is_bytes 32 (get_or ws 1 []) && is_bytes 12 (get_or ws 2 []))
two [] h = absurd (omega arith)
two (t ∷ []) h = absurd (omega arith)
two (t ∷ a ∷ []) h = absurd (omega arith)
two (t ∷ a ∷ b ∷ []) h = refl
two (t ∷ a ∷ b ∷ c ∷ ws) h = absurd (omega arith)

pub three : (ws : List (List ℕ)) → length ws ≡ 4 → are_arguments (drop 1 ws) ≡ (is_bytes 32 (get_or ws 1 []) && is_bytes 12 (get_or ws 2 []) && is_some (get_or ws 3 []))
three [] h = absurd (omega arith)
three (t ∷ []) h = absurd (omega arith)
three (t ∷ a ∷ []) h = absurd (omega arith)
three (t ∷ a ∷ b ∷ []) h = absurd (omega arith)
three (t ∷ a ∷ b ∷ c ∷ []) h = refl
three (t ∷ a ∷ b ∷ c ∷ d ∷ ws) h = absurd (omega arith)

pub other : (ws : List (List ℕ)) → (length ws ≡ 3 → ⊥) → (length ws ≡ 4 → ⊥) → are_arguments (drop 1 ws) ≡ false
other [] h g = refl
other (t ∷ []) h g = refl
other (t ∷ a ∷ []) h g = refl
other (t ∷ a ∷ b ∷ []) h g = absurd (h refl)
other (t ∷ a ∷ b ∷ c ∷ []) h g = absurd (g refl)
other (t ∷ a ∷ b ∷ c ∷ d ∷ ws) h g = refl
