-- `is_word_byte` meets its contract.
use mathlib.Core.Path.{refl}
use Rattle.stanza.specs.Arguments.{is_word_byte}
use Rattle.stanza.proofs.arguments.is_word_byte.Goals as goal

pub returns : goal.returns
unfolding is_word_byte
returns c = refl
