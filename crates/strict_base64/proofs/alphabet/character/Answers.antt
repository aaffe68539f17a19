-- The table is the definition tabulated at the 64 values.
use Rattle.refusal.proofs.Laws.Below.{tabulated_at}
use Rattle.strict_base64.specs.Alphabet.{character_of}
use Rattle.strict_base64.proofs.alphabet.character.Goals as goal

pub returns : goal.returns
unfolding character_of
returns c = tabulated_at character_of 64 c.args.v c.requires
