-- By the place: the test of each is the definition's.
use Rattle.stanza.specs.Automaton.{next}
use Rattle.stanza.proofs.places.next_place.Goals as goal

pub returns-in-Start : goal.returns-in-Start
unfolding next
returns-in-Start c = rw c.in-Start.is c.place_if.ensures

pub returns-in-Hyphen : goal.returns-in-Hyphen
unfolding next
returns-in-Hyphen c = rw c.in-Hyphen.is c.place_if-in-Hyphen.ensures

pub returns-in-Arrow : goal.returns-in-Arrow
unfolding next
returns-in-Arrow c = rw c.in-Arrow.is c.place_if-in-Arrow.ensures

pub returns-in-Gap : goal.returns-in-Gap
unfolding next
returns-in-Gap c = rw (c.in-Gap.is, ← c.is_graphic.ensures) c.place_if-in-Gap.ensures

pub returns-in-Ended : goal.returns-in-Ended
unfolding next
returns-in-Ended c = rw c.in-Ended.is

pub returns-in-Dead : goal.returns-in-Dead
unfolding next
returns-in-Dead c = rw c.in-Dead.is
