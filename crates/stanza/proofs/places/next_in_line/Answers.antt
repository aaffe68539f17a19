-- By the definition's tests, in its order; before the first character of a line the last has the value 0.
use Rattle.strict_base64.specs.Alphabet.{value_of}
use Rattle.stanza.specs.Automaton.{next}
use borrow.Author.Tests.{lt-ltb, le-ltb, eq-eqb, ne_eqb}
use Rattle.stanza.proofs.places.next_in_line.Goals as goal

pub returns-then-k-lt-LINE_CHARACTERS : goal.returns-then-k-lt-LINE_CHARACTERS
unfolding next
returns-then-k-lt-LINE_CHARACTERS c = simp (← c.is_character.ensures, c.if-is_character.true, lt-ltb _ _ c.if-k-lt-LINE_CHARACTERS.true)

pub returns-then-is_character : goal.returns-then-is_character
unfolding next
returns-then-is_character c = simp (← c.is_character.ensures, c.if-is_character.true, le-ltb _ _ c.if-k-lt-LINE_CHARACTERS.false)

pub returns-then-b-ne10 : goal.returns-then-b-ne10
unfolding next
returns-then-b-ne10 c = simp (← c.is_character.ensures, c.if-is_character.false, ne_eqb _ _ c.if-b-ne10.true)

pub returns-then-k-eq-LINE_CHARACTERS : goal.returns-then-k-eq-LINE_CHARACTERS
unfolding next value_of
returns-then-k-eq-LINE_CHARACTERS c = simp (← c.is_character.ensures, c.if-is_character.false, eq-eqb _ _ c.if-b-ne10.false, eq-eqb _ _ c.if-k-eq-LINE_CHARACTERS.true)

pub returns-then-ends_well : goal.returns-then-ends_well
unfolding next
returns-then-ends_well c = simp (← c.is_character.ensures, c.if-is_character.false, eq-eqb _ _ c.if-b-ne10.false, ne_eqb _ _ c.if-k-eq-LINE_CHARACTERS.false, ← c.ends_well.ensures, c.if-ends_well.true)

pub returns : goal.returns
unfolding next
returns c = simp (← c.is_character.ensures, c.if-is_character.false, eq-eqb _ _ c.if-b-ne10.false, ne_eqb _ _ c.if-k-eq-LINE_CHARACTERS.false, ← c.ends_well.ensures, c.if-ends_well.false)
