-- By kind; std's rule is the definition's.
use mathlib.Core.Path.{◌∙◌}
use Rattle.symbols.proofs.Laws.Charset.{upper_ascii}
use Rattle.bech32.proofs.charset.cased.Goals as goal

pub returns-in-Identity : goal.returns-in-Identity
returns-in-Identity c = rw c.in-Identity.is (c.to_ascii_uppercase.ensures.value ∙ upper_ascii c.args.b)
