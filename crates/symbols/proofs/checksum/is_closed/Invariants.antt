-- The loop's invariant: the whole closes from the first state as what was seen is a symbol's and the rest of the text closes from the state reached.
use Prim.Native.Nat.{◌≤◌}
use mathlib.Core.Path.{◌≡◌}
use mathlib.Core.Bool.{◌&&◌}
use mathlib.Core.List.{map}
use lib.Dec.{ltb}
use lib.ListN.{length, drop}
use Rattle.symbols.specs.Calls.{closes}
use Rattle.symbols.specs.Steps.{value_in}
use Rattle.symbols.proofs.checksum.is_closed.Given as goal

abbrev pub invariant-loop-b : goal.invariant-loop-b
invariant-loop-b l = (l.b-index ≤ length l.text) × (closes l.from (map (value_in l.table) l.text) ≡ (ltb l.seen 32 && closes l.state (map (value_in l.table) (drop l.b-index l.text))))
