-- The test is the definition.
use Rattle.symbols.specs.Charset.{is_upper}
use Rattle.symbols.proofs.charset.is_upper.Goals as goal

pub returns : goal.returns
unfolding is_upper
returns c = c.is_ascii_uppercase.ensures.value
