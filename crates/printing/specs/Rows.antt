-- The lines of an answer and of a table.
use Rattle.std.specs.Prelude.{ℕ, List, [], ◌∷◌}
use Rattle.printing.specs.Page.{Page, put, lf, put_number, put_word}

-- a word, unless it is empty
unfoldable pub put_some : List ℕ → Page → Page
put_some [] p = p
put_some (b ∷ bytes) p = put_word (b ∷ bytes) p

-- HEAD NUMBER
abbrev pub number_line : List ℕ → ℕ → Page → Page
number_line head n p = put lf (put_number n (put head p))

-- HEAD WORD
abbrev pub word_line : List ℕ → List ℕ → Page → Page
word_line head word p = put lf (put_word word (put head p))

-- HEAD NUMBER SECOND PAYLOAD TAIL, without SECOND or TAIL where it is empty
abbrev pub row : List ℕ → ℕ → List ℕ → List ℕ → List ℕ → Page → Page
row head n second payload tail p = put lf (put_some tail (put_word payload (put_some second (put_number n (put head p)))))
