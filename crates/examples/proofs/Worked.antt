-- Every row of the table holds, by computation of the definitions.
use mathlib.Core.Path.{refl}
use Rattle.strict_base64.specs.Alphabet.{is_character, value_of, character_of}
use Rattle.strict_base64.specs.Code.{encoded, decoded, ends_well}
use Rattle.strict_base64.specs.Lines.{wrapped, unwrapped}
use Rattle.refusal.specs.Run.{run, is_graphic}
use Rattle.refusal.specs.Same.{same}
use Rattle.stanza.specs.Arguments.{words, before}
use Rattle.stanza.specs.Automaton.{next, verdict, scan}
use Rattle.stanza.specs.Index.{digits, read_index, decimal, decimal_with}
use Rattle.stanza.specs.Reading.{found}
use Rattle.tables.specs.Repeats.{any_shows}
use Rattle.phase_one.specs.Commands.{after_space}
use Rattle.conversation.specs.Calls.{numbers}
use Rattle.conversation.specs.Receiving.{received, received_stanza}
use Rattle.conversation.specs.Responding.{responded_as}
use Rattle.examples.specs.Examples.{AllHold, rows}

pub worked : AllHold rows
unfolding is_character value_of character_of encoded decoded ends_well wrapped unwrapped run is_graphic next verdict scan digits read_index found same words before decimal decimal_with after_space numbers received received_stanza responded_as any_shows
worked = (refl, (refl, (refl, (refl, (refl, (refl, (refl, (refl, (refl, (refl, (refl, (refl, (refl, (refl, ((refl, refl), tt)))))))))))))))
