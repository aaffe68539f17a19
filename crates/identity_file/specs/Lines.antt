-- The lines of a text (document 02, No. 8): "lines ended by LF, a last line without LF allowed". A text that ends in LF has no further line.
use Rattle.std.specs.Prelude.{ℕ, ◌≡◌, Bool, true, not, List, [], ◌∷◌, ◌++◌, eqb}
use Rattle.refusal.specs.Pick.{pick}
use Rattle.refusal.specs.Run.{all}
use Rattle.stanza.specs.Arguments.{before}

-- a text split behind each LF
unfoldable pub lines : List ℕ → List (List ℕ)
lines [] = []
lines (b ∷ t) = pick (eqb b 10) ([] ∷ lines t) (before b (lines t))

-- ---- what lines are

-- a byte that is no LF
abbrev pub is_line_byte : ℕ → Bool
is_line_byte b = not (eqb b 10)

-- the text is empty, or its last byte is LF
unfoldable pub is_ended : List ℕ → Bool
is_ended [] = true
is_ended (b ∷ []) = eqb b 10
is_ended (b ∷ c ∷ t) = is_ended (c ∷ t)

-- with the LF that its last line may lack
abbrev pub ended : List ℕ → List ℕ
ended t = pick (is_ended t) t (t ++ 10 ∷ [])

-- each line with its LF, one behind the other
unfoldable pub text_of_lines : List (List ℕ) → List ℕ
text_of_lines [] = []
text_of_lines (l ∷ ls) = l ++ 10 ∷ text_of_lines ls

-- none of them has an LF
unfoldable pub are_lines : List (List ℕ) → Type 0
are_lines [] = Unit
are_lines (l ∷ ls) = (all is_line_byte l ≡ true) × are_lines ls

-- the lines partition the text
pub record Partition (t : List ℕ) (ls : List (List ℕ)) : Type 0 where
  pub whole : text_of_lines ls ≡ ended t
  pub apart : are_lines ls
