-- A graphic byte or a space within the arguments, a character within a body line; of any other byte nothing is said.
use mathlib.Core.Path.{sym, ap, ◌∙◌}
use mathlib.Core.List.{[], ◌∷◌}
use native.Mathlib.Omega.{arith}
use Rattle.stanza.specs.declared.places.Place.TheVariants as place
use Rattle.intake.specs.Fronts.{front_of}
use Rattle.intake.proofs.Laws.Fronts.{within_gap, within_word, within_space, within_line}
use Rattle.intake.proofs.keeping.read_within.Goals as goal

pub returns-then-is_graphic : goal.returns-then-is_graphic
returns-then-is_graphic c = rw c.in-Gap.is (within_gap c.args.b (sym c.is_graphic.ensures ∙ c.if-is_graphic.true))

pub returns-then-is_graphic-2 : goal.returns-then-is_graphic-2
returns-then-is_graphic-2 c = rw c.in-Word.is (within_word c.args.b (sym c.is_graphic-in-Word.ensures ∙ c.if-is_graphic-2.true))

pub returns-then-b-eq32 : goal.returns-then-b-eq32
returns-then-b-eq32 c = rw c.in-Word.is (λ n h. ap (λ b. front_of place.Word n (b ∷ [])) c.if-b-eq32.true ∙ within_space n h)

pub returns-then-is_character : goal.returns-then-is_character
returns-then-is_character c = rw c.in-Line.is (within_line c.in-Line.k c.in-Line.field-1 c.args.b (omega (arith, c.if-k-lt-LINE_CHARACTERS.true)) (sym c.is_character.ensures ∙ c.if-is_character.true))
