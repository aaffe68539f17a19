-- The text of a stanza byte by byte: an automaton that is dead exactly where no stanza, of any length, goes on so.
use Rattle.std.specs.Prelude.{ℕ, ◌+◌, List, [], ◌∷◌, ltb, eqb}
use Rattle.refusal.specs.Run.{is_graphic}
use Rattle.refusal.specs.Pick.{pick}
use Rattle.strict_base64.specs.Alphabet.{is_character, value_of}
use Rattle.strict_base64.specs.Code.{ends_well}

-- where a reader stands
pub data State : Type 0 where
  -- before "-", before ">" and before the space of "-> "
  start hyphen arrow : State
  -- before an argument, and in one
  gap word : State
  -- in a body line, behind k characters of which the last has the value v
  line : ℕ → ℕ → State
  -- behind the last LF
  ended : State
  -- no stanza goes on so
  dead : State

-- one byte on
unfoldable pub next : State → ℕ → State
next start b = pick (eqb b 45) hyphen dead
next hyphen b = pick (eqb b 62) arrow dead
next arrow b = pick (eqb b 32) gap dead
next gap b = pick (is_graphic b) word dead
next word b = pick (is_graphic b) word (pick (eqb b 32) gap (pick (eqb b 10) (line 0 0) dead))
next (line k v) b =
    pick (is_character b) (pick (ltb k 64) (line (k + 1) (value_of b)) dead)
    (pick (eqb b 10) (pick (eqb k 64) (line 0 0) (pick (ends_well k v) ended dead)) dead)
next ended b = dead
next dead b = dead

-- several bytes on
unfoldable pub after : State → List ℕ → State
after s [] = s
after s (b ∷ t) = after (next s b) t

-- what a text says, read from the left
pub data Scan : Type 0 where
  -- a byte that no stanza can have there
  bad : Scan
  -- the text is over and the stanza is not
  short : Scan
  -- the stanza has ended behind so many bytes
  whole : ℕ → Scan

-- what a state says when i bytes have passed, where the rest of the text says `rest`
unfoldable pub verdict : State → ℕ → Scan → Scan
verdict dead i rest = bad
verdict ended i rest = whole i
verdict start i rest = rest
verdict hyphen i rest = rest
verdict arrow i rest = rest
verdict gap i rest = rest
verdict word i rest = rest
verdict (line k v) i rest = rest

-- what a text says from a state on, when i bytes have passed
unfoldable pub scan : State → ℕ → List ℕ → Scan
scan s i [] = short
scan s i (b ∷ t) = verdict (next s b) (i + 1) (scan (next s b) (i + 1) t)
