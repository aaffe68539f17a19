-- `unescape_into` meets its contract. Invariant: the word stands for n bytes and what the rest stands for in this state. Where all of it fits, the n bytes are stored, and
-- behind them the buffer is as it was.
use Rattle.std.proofs.Common.{◌≡◌, ◌≤◌, true, drop}
use Rattle.script.specs.Escape.{rest, state_said, unescaped, measured, fits}
use Rattle.script.proofs.Laws.Escape.{plus, Stored}
use Rattle.script.proofs.unescaping.unescape_into.Given as goal

abbrev pub invariant-loop-b : goal.invariant-loop-b
invariant-loop-b l = (l.n ≤ l.b-index)
    × (measured (unescaped l.word) ≡ plus l.n (measured (rest (state_said l.state) (drop l.b-index l.word))))
    × (fits (unescaped l.word) l.initial.out ≡ true → Stored (unescaped l.word) l.out l.initial.out l.n (rest (state_said l.state) (drop l.b-index l.word)))
