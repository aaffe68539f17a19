-- `read_number` meets its contract. Invariant: v is what the digits before the index stand for, within the limit.
use Rattle.std.proofs.Common.{◌≡◌, ◌≤◌, drop}
use Rattle.script.specs.Number.{read_number}
use Rattle.script.proofs.Laws.Number.{rest_number}
use Rattle.script.proofs.numbers.read_number.Given as goal

abbrev pub invariant-loop-b : goal.invariant-loop-b
invariant-loop-b l = (l.v ≤ l.limit) × (read_number l.text l.limit ≡ rest_number l.limit l.v (drop l.b-index l.text))
