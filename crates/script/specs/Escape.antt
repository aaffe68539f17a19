-- Words of a script. In a word the bytes 33 to 126 stand for themselves, but for the backslash: `\s` is a space, `\n` LF, `\\` a backslash,
-- `\xHH` any byte, by two hex digits of either case, and `\e` nothing, so that the empty byte string can be written.
use Rattle.std.specs.Prelude.{ℕ, ◌+◌, ◌-◌, ◌*◌, ◌/◌, ◌%◌, Bool, false, ◌&&◌, List, [], ◌∷◌, ◌++◌, Option, Some, None, Result, leb, ltb, eqb, length}
use Rattle.refusal.specs.Run.{is_graphic}
use Rattle.refusal.specs.Output.{Answer, bytes, refused, said, answered, filled}
use Rattle.refusal.specs.Pick.{pick}
use Rattle.script.specs.declared.unescaping.State.{State}
use Rattle.script.specs.declared.unescaping.State.TheVariants as state_is
use Rattle.script.specs.declared.unescaping.Step.{Step}
use Rattle.script.specs.declared.unescaping.Step.TheVariants as step_is
use Rattle.refusal.specs.declared.Refusal.{Refusal}

-- ---- reading a word

-- the value of a hex digit of either case, 16 for another byte
unfoldable pub hex_value : ℕ → ℕ
hex_value b =
    pick (leb 48 b && leb b 57) (b - 48)
    (pick (leb 97 b && leb b 102) (b - 87) (pick (leb 65 b && leb b 70) (b - 55) 16))

-- what a byte does to a reader: it takes it to a state, it completes a byte of the string, which takes it to state 0, or no word goes on so
pub data Effect : Type 0 where
  moves : ℕ → Effect
  gives : ℕ → Effect
  stops : Effect

-- state 0, between two escapes: a backslash opens one, a byte from 33 to 126 stands for itself
unfoldable pub plain : ℕ → Effect
plain b = pick (eqb b 92) (moves 1) (pick (is_graphic b) (gives b) stops)

-- state 1, behind a backslash
unfoldable pub letter : ℕ → Effect
letter b =
    pick (eqb b 115) (gives 32)
    (pick (eqb b 110) (gives 10)
    (pick (eqb b 92) (gives 92) (pick (eqb b 101) (moves 0) (pick (eqb b 120) (moves 2) stops))))

-- state 2, behind "\x", and state 16 + v, behind "\x" and a digit of the value v
unfoldable pub digit : ℕ → ℕ → Effect
digit s b = pick (ltb (hex_value b) 16) (pick (eqb s 2) (moves (16 + hex_value b)) (gives (s % 16 * 16 + hex_value b))) stops

-- a byte in any state
unfoldable pub effect : ℕ → ℕ → Effect
effect s b = pick (eqb s 0) (plain b) (pick (eqb s 1) (letter b) (digit s b))

-- what a word stands for, or something of that; or that it is no word
pub data Meaning (X : Type 0) : Type 0 where
  word : X → Meaning X
  bad : Meaning X

-- bytes in front of what a word stands for
abbrev pub behind : List ℕ → Meaning (List ℕ) → Meaning (List ℕ)
behind s (word t) = word (s ++ t)
behind s bad = bad

-- what the rest of a word stands for in a state: a word ends in state 0
unfoldable pub rest : ℕ → List ℕ → Meaning (List ℕ)
rest s [] = pick (eqb s 0) (word []) bad
rest s (b ∷ t) = elim (effect s b) [ moves r ↦ rest r t | gives v ↦ behind (v ∷ []) (rest 0 t) | stops ↦ bad ]

-- what a word stands for
abbrev pub unescaped : List ℕ → Meaning (List ℕ)
unescaped t = rest 0 t

-- how many bytes that is
abbrev pub measured : Meaning (List ℕ) → Meaning ℕ
measured (word t) = word (length t)
measured bad = bad

-- a word's byte string fits a buffer
abbrev pub fits : Meaning (List ℕ) → List ℕ → Bool
fits (word t) buffer = leb (length t) (length buffer)
fits bad buffer = false

-- written to a buffer: the answer
abbrev pub answered_by : Meaning (List ℕ) → List ℕ → Meaning Answer
answered_by (word t) buffer = word (answered t buffer)
answered_by bad buffer = bad

-- .. and the buffer afterwards
abbrev pub filled_by : Meaning (List ℕ) → List ℕ → List ℕ
filled_by (word t) buffer = filled t buffer
filled_by bad buffer = buffer

-- the code's answer of a hex digit
abbrev pub some_digit : ℕ → Option ℕ
some_digit v = pick (ltb v 16) (Some v) None

-- what the code's answers stand for: the number of a state
abbrev pub state_said : State → ℕ
state_said state_is.Plain = 0
state_said state_is.Escape = 1
state_said (state_is.Hex None) = 2
state_said (state_is.Hex (Some v)) = 16 + v

-- .. of a step
abbrev pub step_said : Option Step → Effect
step_said (Some (step_is.Moves s)) = moves (state_said s)
step_said (Some (step_is.Gives b)) = gives b
step_said None = stops

-- .. of a measured word
abbrev pub size_said : Option ℕ → Meaning ℕ
size_said (Some n) = word n
size_said None = bad

-- .. of a word written to a buffer
abbrev pub unescaped_said : Option (Result ℕ Refusal) → Meaning Answer
unescaped_said (Some w) = word (said w)
unescaped_said None = bad

-- ---- printing a byte string

-- a hex digit of a value below 16, in lower case
unfoldable pub hex_digit : ℕ → ℕ
hex_digit v = pick (ltb v 10) (48 + v) (87 + v)

-- the letter of a byte that has one, 0 for another
unfoldable pub letter_of : ℕ → ℕ
letter_of b = pick (eqb b 32) 115 (pick (eqb b 10) 110 (pick (eqb b 92) 92 0))

-- the code's answer of a byte's letter
abbrev pub some_letter : ℕ → Option ℕ
some_letter l = pick (ltb 0 l) (Some l) None

-- a byte: by its letter, by itself, or by its hex digits
unfoldable pub printed : ℕ → List ℕ
printed b =
    pick (ltb 0 (letter_of b)) (92 ∷ letter_of b ∷ [])
    (pick (is_graphic b) (b ∷ []) (92 ∷ 120 ∷ hex_digit (b / 16) ∷ hex_digit (b % 16) ∷ []))

-- bytes one behind the other
unfoldable pub spelled : List ℕ → List ℕ
spelled [] = []
spelled (b ∷ t) = printed b ++ spelled t

-- a byte string as a word: `\e` where it is empty
unfoldable pub escaped : List ℕ → List ℕ
escaped [] = 92 ∷ 101 ∷ []
escaped (b ∷ t) = spelled (b ∷ t)

-- No. 15 where n bytes are more than a limit, else n
abbrev pub sized : ℕ → ℕ → Answer
sized n limit = pick (ltb limit n) (refused 15) (bytes n)
