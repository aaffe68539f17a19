-- The step by the table is the step by the constants.
use Rattle.symbols.proofs.Laws.Checksum.{step_table}
use Rattle.symbols.proofs.checksum.step.Goals as goal

pub returns : goal.returns
returns c = rw c.from.ensures (step_table c.folds.result.now c.folds.ensures c.args.state c.args.symbol)
