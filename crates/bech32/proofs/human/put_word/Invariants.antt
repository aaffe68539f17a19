-- Invariant: the first i bytes in the kind's case stand at the front, what was there behind them.
use mathlib.Core.Path.{◌≡◌}
use mathlib.Core.List.{◌++◌, map}
use lib.ListN.{take, drop}
use Rattle.bech32.specs.Calls.{form_of}
use Rattle.bech32.specs.Steps.{cased_byte}
use Rattle.bech32.proofs.human.put_word.Given as goal

abbrev pub invariant-loop-i : goal.invariant-loop-i
invariant-loop-i l = l.out ≡ take l.i (map (cased_byte (form_of l.kind)) l.word) ++ drop l.i l.initial.out
