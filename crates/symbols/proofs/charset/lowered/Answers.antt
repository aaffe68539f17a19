-- The rule is std's.
use mathlib.Core.Path.{◌∙◌}
use Rattle.symbols.proofs.Laws.Charset.{lower_ascii}
use Rattle.symbols.proofs.charset.lowered.Goals as goal

pub returns : goal.returns
returns c = c.to_ascii_lowercase.ensures.value ∙ lower_ascii c.args.b
