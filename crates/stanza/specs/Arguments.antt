-- The arguments of a stanza (document 01, "Stanza text"): "one or more arguments separated by single spaces", "an argument is one or more
-- bytes from 33 to 126". The arguments' text is what stands between "-> " and the first LF.
use Rattle.std.specs.Prelude.{ℕ, Bool, true, false, ◌&&◌, not, List, [], ◌∷◌, ◌++◌, eqb, length, get_or}
use Rattle.refusal.specs.Pick.{pick}
use Rattle.refusal.specs.Run.{all, is_graphic}

-- a byte that is no space
unfoldable pub is_word_byte : ℕ → Bool
is_word_byte b = not (eqb b 32)

-- a byte put before the first word
unfoldable pub before : ℕ → List (List ℕ) → List (List ℕ)
before b [] = (b ∷ []) ∷ []
before b (w ∷ ws) = (b ∷ w) ∷ ws

-- a text split at each space: never no word, and a word may be empty
unfoldable pub words : List ℕ → List (List ℕ)
words [] = [] ∷ []
words (b ∷ t) = pick (eqb b 32) ([] ∷ words t) (before b (words t))

-- one or more bytes from 33 to 126
unfoldable pub is_argument : List ℕ → Bool
is_argument [] = false
is_argument (b ∷ w) = all is_graphic (b ∷ w)

-- each word is an argument
unfoldable pub are_arguments : List (List ℕ) → Bool
are_arguments [] = true
are_arguments (w ∷ ws) = is_argument w && are_arguments ws

-- a text of arguments separated by single spaces
abbrev pub is_line : List ℕ → Bool
is_line t = are_arguments (words t)

-- the arguments' text of a command and what stands behind it: the command alone, or a space between
abbrev pub line_with : List ℕ → List ℕ → List ℕ
line_with command arguments = pick (eqb (length arguments) 0) command (command ++ 32 ∷ arguments)

-- how many words, and the k-th, empty where there is none
abbrev pub count_of : List ℕ → ℕ
count_of t = length (words t)

abbrev pub argument_of : List ℕ → ℕ → List ℕ
argument_of t k = get_or (words t) k []
