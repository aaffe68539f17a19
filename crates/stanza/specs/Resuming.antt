-- Reading on in a stanza that comes in pieces (document 02, No. 1: "take bytes in pieces of any length, zero too, and keep at most 8,192 bytes of an
-- unfinished stanza"). The numbers are reading's, each in the call that brings its byte: 1 with the first byte that no stanza can have there, be it
-- byte 8,192; 3 with byte 8,192 where the stanza has not ended. 2 is none of them: the bytes are over, and the reading stands somewhere.
use Rattle.std.specs.Prelude.{ℕ, ◌+◌, List, [], ◌∷◌, ltb, eqb, Result, Ok, Err}
use Rattle.refusal.specs.Number.{number_of}
use Rattle.refusal.specs.Pick.{pick}
use Rattle.strict_base64.specs.Alphabet.{value_of}
use Rattle.refusal.specs.declared.Refusal.{Refusal}
use Rattle.stanza.specs.Automaton.{State, start, hyphen, arrow, gap, word, line, ended, dead, next}
use Rattle.stanza.specs.Reading.{Reading, stanza}
use Rattle.stanza.specs.Reading as reading
use Rattle.stanza.specs.declared.places.Place.{Place}
use Rattle.stanza.specs.declared.places.Place.TheVariants as place
use Rattle.stanza.specs.declared.places.Continued.{Continued as CodeContinued}
use Rattle.stanza.specs.declared.places.Continued.TheVariants as code

-- where the code's place stands: on a body line it has the last character itself
abbrev pub place_said : Place → State
place_said place.Start = start
place_said place.Hyphen = hyphen
place_said place.Arrow = arrow
place_said place.Gap = gap
place_said place.Word = word
place_said (place.Line k last) = line k (value_of last)
place_said place.Ended = ended
place_said place.Dead = dead

-- what reading on gives
pub data Continued : Type 0 where
  -- the stanza has ended behind so many of these bytes
  whole : ℕ → Continued
  -- the bytes are over and the stanza is not: where the reader stands
  unfinished : State → Continued
  -- the paper's number
  refused : ℕ → Continued

-- what the code's answer stands for
abbrev pub continued_said : Result CodeContinued Refusal → Continued
continued_said (Ok (code.Whole k)) = whole k
continued_said (Ok (code.Unfinished p)) = unfinished (place_said p)
continued_said (Err r) = refused (number_of r)

-- the same answer, counted with m bytes that stand before these
unfoldable pub behind : ℕ → Continued → Continued
behind m (whole k) = whole (m + k)
behind m (unfinished s) = unfinished s
behind m (refused n) = refused n

-- what a byte gives that leads to this state, where the bytes behind it give `rest`
unfoldable pub led : State → Continued → Continued
led dead rest = refused 1
led ended rest = whole 1
led start rest = behind 1 rest
led hyphen rest = behind 1 rest
led arrow rest = behind 1 rest
led gap rest = behind 1 rest
led word rest = behind 1 rest
led (line k v) rest = behind 1 rest

-- reading on from a state, behind n bytes of the same stanza: 3 where 8,192 have passed and it has not ended
unfoldable pub continued : State → ℕ → List ℕ → Continued
continued s n [] = pick (ltb n 8192) (unfinished s) (refused 3)
continued s n (b ∷ t) = pick (ltb n 8192) (led (next s b) (continued (next s b) (n + 1) t)) (refused 3)

-- what reading on gives from the start, where reading gives this of the same bytes and they lead to this state
unfoldable pub from_reading : Reading → State → Continued
from_reading (stanza e m k) s = whole k
from_reading (reading.refused r) s = pick (eqb r 2) (unfinished s) (refused r)
