-- Those of the span's slots that are counted.
use Rattle.std.proofs.Common.{arith}
use Rattle.std.proofs.lemmas.Grind.{common_steps}
use Rattle.std.proofs.lemmas.List.{take-map}
use Rattle.tables.proofs.tables.Table.entries.Goals as goal

pub returns : goal.returns
returns c = grind (arith, common_steps, take-map)
