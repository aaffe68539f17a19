-- Base64 in lines of 64 characters, as a stanza's body has it (document 01, "Stanza text"): the last line has 0 to 63 characters, and every
-- line ends in LF. So 48 bytes make a line of 64 and an empty line.
use Rattle.std.specs.Prelude.{ℕ, ◌+◌, List, [], ◌∷◌, Bool, ◌&&◌, ltb, eqb, length, take, get_or}
use Rattle.refusal.specs.Pick.{pick}
use Rattle.refusal.specs.Run.{all}
use Rattle.strict_base64.specs.Alphabet.{is_character}
use Rattle.strict_base64.specs.Code.{encoded, decoded}

-- characters laid out in lines, where k stand on the line already
unfoldable pub wrapped : ℕ → List ℕ → List ℕ
wrapped k [] = 10 ∷ []
wrapped k (c ∷ t) = c ∷ pick (eqb k 63) (10 ∷ wrapped 0 t) (wrapped (k + 1) t)

-- the way back: lines less the byte behind each 64 characters and the last byte, where k characters of the line have passed
unfoldable pub unwrapped : ℕ → List ℕ → List ℕ
unwrapped k [] = []
unwrapped k (c ∷ []) = []
unwrapped k (c ∷ d ∷ t) = pick (eqb k 64) (unwrapped 0 (d ∷ t)) (c ∷ unwrapped (k + 1) (d ∷ t))

-- the lines of a body, and the body of some lines
abbrev pub lines_of : List ℕ → List ℕ
lines_of body = wrapped 0 (encoded body)

abbrev pub body_of : List ℕ → List ℕ
body_of lines = decoded (unwrapped 0 lines)

-- a full line stands at the front: 64 characters and an LF
unfoldable pub is_full : List ℕ → Bool
is_full l = ltb 64 (length l) && all is_character (take 64 l) && eqb (get_or l 64 0) 10
