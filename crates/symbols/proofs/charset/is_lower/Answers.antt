-- The test is the definition.
use Rattle.symbols.specs.Charset.{is_lower}
use Rattle.symbols.proofs.charset.is_lower.Goals as goal

pub returns : goal.returns
unfolding is_lower
returns c = c.is_ascii_lowercase.ensures.value
