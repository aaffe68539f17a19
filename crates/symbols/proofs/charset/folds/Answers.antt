-- The table is the rule tabulated at the 32 numbers of five bits: one computation over the whole table.
use Rattle.refusal.proofs.Laws.Below.{tabulated_at}
use Rattle.symbols.specs.Checksum.{folded, taken}
use Rattle.symbols.specs.Steps.{chosen}
use Rattle.symbols.proofs.charset.folds.Goals as goal

pub returns : goal.returns
unfolding folded taken
returns c = tabulated_at chosen 32
