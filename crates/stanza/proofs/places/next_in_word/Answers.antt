-- By the definition's tests, in its order.
use Rattle.strict_base64.specs.Alphabet.{value_of}
use Rattle.stanza.specs.Automaton.{next}
use borrow.Author.Tests.{eq-eqb, ne_eqb}
use Rattle.stanza.proofs.places.next_in_word.Goals as goal

pub returns-then-is_graphic : goal.returns-then-is_graphic
unfolding next
returns-then-is_graphic c = simp (← c.is_graphic.ensures, c.if-is_graphic.true)

pub returns-then-b-eq32 : goal.returns-then-b-eq32
unfolding next
returns-then-b-eq32 c = simp (← c.is_graphic.ensures, c.if-is_graphic.false, eq-eqb _ _ c.if-b-eq32.true)

pub returns-then-b-eq10 : goal.returns-then-b-eq10
unfolding next value_of
returns-then-b-eq10 c = simp (← c.is_graphic.ensures, c.if-is_graphic.false, ne_eqb _ _ c.if-b-eq32.false, eq-eqb _ _ c.if-b-eq10.true)

pub returns : goal.returns
unfolding next
returns c = simp (← c.is_graphic.ensures, c.if-is_graphic.false, ne_eqb _ _ c.if-b-eq32.false, ne_eqb _ _ c.if-b-eq10.false)
