-- `spelled_length` meets its contract. Invariant: n bytes print what stands before the index, and n is within the limit.
use Rattle.std.proofs.Common.{◌≡◌, ◌+◌, ◌≤◌, length, drop}
use Rattle.script.specs.Escape.{spelled}
use Rattle.script.proofs.escaping.spelled_length.Given as goal

abbrev pub invariant-loop-b : goal.invariant-loop-b
invariant-loop-b l = (l.n ≤ l.limit) × (length (spelled l.bytes) ≡ l.n + length (spelled (drop l.b-index l.bytes)))
