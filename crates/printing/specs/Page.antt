-- What is printed: pieces, one behind the other, in an output buffer of which some bytes are in use. A piece that does not fit is left out.
use Rattle.std.specs.Prelude.{ℕ, zero, suc, ◌+◌, ◌/◌, List, [], ◌∷◌, ◌++◌, ltb, length, take, drop}
use Rattle.io.specs.Digits.{last_digits}
use Rattle.refusal.specs.Output.{overflows, filled}
use Rattle.refusal.specs.Pick.{pick}
use Rattle.script.specs.Escape.{escaped}

-- how many bytes are in use, and the buffer
pub record Page : Type 0 where
  pub at : ℕ
  pub out : List ℕ

abbrev pub page : ℕ → List ℕ → Page
page n buffer = record { at = n; out = buffer }

-- a piece behind the bytes in use
unfoldable pub put : List ℕ → Page → Page
put piece p =
    page (p.at + pick (overflows piece (drop p.at p.out)) 0 (length piece)) (take p.at p.out ++ filled piece (drop p.at p.out))

-- a space
abbrev pub space : List ℕ
space = 32 ∷ []

-- the end of a line
abbrev pub lf : List ℕ
lf = 10 ∷ []

-- how many decimal digits a number has, where it has at most `most` and one
unfoldable pub places : ℕ → ℕ → ℕ
places zero n = 1
places (suc most) n = pick (ltb n 10) 1 (suc (places most (n / 10)))

-- a number in decimal: one below 2^64 has at most 20 digits
abbrev pub decimal : ℕ → List ℕ
decimal n = last_digits 10 (places 19 n) n

-- a space and a number
abbrev pub put_number : ℕ → Page → Page
put_number n p = put (decimal n) (put space p)

-- a space and a byte string as a word
abbrev pub put_word : List ℕ → Page → Page
put_word bytes p = put (escaped bytes) (put space p)
