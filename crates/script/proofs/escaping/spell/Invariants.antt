-- `spell` meets its contract. Invariant: the n bytes stored print what stands before the index; behind them the buffer is as it was, and has space for the rest.
use Rattle.std.proofs.Common.{◌≡◌, ◌+◌, ◌≤◌, ◌++◌, length, take, drop}
use Rattle.script.specs.Escape.{spelled}
use Rattle.script.proofs.escaping.spell.Given as goal

abbrev pub invariant-loop-b : goal.invariant-loop-b
invariant-loop-b l = (length l.out ≡ length l.initial.out)
    × (l.n + length (spelled (drop l.b-index l.bytes)) ≤ length l.out)
    × (drop l.n l.out ≡ drop l.n l.initial.out)
    × (spelled l.bytes ≡ take l.n l.out ++ spelled (drop l.b-index l.bytes))
