-- The table is the definition tabulated at the 256 bytes.
use Rattle.refusal.proofs.Laws.Below.{tabulated_at}
use Rattle.symbols.specs.Charset.{place_of, lower, is_upper}
use Rattle.symbols.specs.Calls.{value_at}
use Rattle.symbols.proofs.charset.values.Goals as goal

pub returns : goal.returns
unfolding place_of lower is_upper
returns c = tabulated_at value_at 256
