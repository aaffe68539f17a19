-- A text that comes in pieces, cut into stanzas byte by byte (document 02, No. 1; document 01, "Stanza text"): a byte that no stanza can have there gives 1 in the
-- call that brings it, and byte 8,192 without an end 3.
use Rattle.std.specs.Prelude.{ℕ, List, [], ◌∷◌, ◌++◌, ltb, length}
use Rattle.refusal.specs.Pick.{pick}
use Rattle.stanza.specs.Automaton.{State, start, hyphen, arrow, gap, word, line, ended, dead, next}

-- what stands behind the last whole stanza: the front of an unfinished one, empty where there is none, and where reading stands behind it; or bytes that no
-- stanza begins with, and the number
pub data Rest : Type 0 where
  unfinished : State → List ℕ → Rest
  impossible : ℕ → List ℕ → Rest

-- its bytes
abbrev pub bytes_of : Rest → List ℕ
bytes_of (unfinished q front) = front
bytes_of (impossible n text) = text

-- the whole stanzas of a text, in order, and the rest
pub record Cut : Type 0 where
  pub texts : List (List ℕ)
  pub rest : Rest

-- where reading goes on: behind a stanza's end, at the start of the next
abbrev pub onward : State → State
onward start = start
onward hyphen = hyphen
onward arrow = arrow
onward gap = gap
onward word = word
onward (line k v) = line k v
onward ended = start
onward dead = dead

-- what is kept of the stanza that is read: behind its end, nothing
abbrev pub front_onward : State → List ℕ → List ℕ
front_onward start front = front
front_onward hyphen front = front
front_onward arrow front = front
front_onward gap front = front
front_onward word front = front
front_onward (line k v) front = front
front_onward ended front = []
front_onward dead front = front

-- what a text is cut into by the place behind its next byte, where `front` ends with that byte, `t` is what follows and `c` is what that is cut into
unfoldable pub cut_at : State → List ℕ → List ℕ → Cut → Cut
cut_at ended front t c = record { texts = front ∷ c.texts; rest = c.rest }
cut_at dead front t c = record { texts = []; rest = impossible 1 (front ++ t) }
cut_at start front t c = pick (ltb (length front) 8192) c (record { texts = []; rest = impossible 3 (front ++ t) })
cut_at hyphen front t c = pick (ltb (length front) 8192) c (record { texts = []; rest = impossible 3 (front ++ t) })
cut_at arrow front t c = pick (ltb (length front) 8192) c (record { texts = []; rest = impossible 3 (front ++ t) })
cut_at gap front t c = pick (ltb (length front) 8192) c (record { texts = []; rest = impossible 3 (front ++ t) })
cut_at word front t c = pick (ltb (length front) 8192) c (record { texts = []; rest = impossible 3 (front ++ t) })
cut_at (line k v) front t c = pick (ltb (length front) 8192) c (record { texts = []; rest = impossible 3 (front ++ t) })

-- a text read on from a place, behind the front of a stanza
unfoldable pub cut : State → List ℕ → List ℕ → Cut
cut q front [] = record { texts = []; rest = unfinished q front }
cut q front (b ∷ t) = let v = next q b in let f = front ++ (b ∷ []) in cut_at v f t (cut (onward v) (front_onward v f) t)
