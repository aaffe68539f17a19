-- `read_digits` meets its contract. Invariant: v is what the digits before i stand for, at most 4,294,967,295.
use Prim.Native.Nat.{◌≤◌}
use mathlib.Core.Path.{◌≡◌}
use lib.ListN.{drop}
use Rattle.stanza.specs.Index.{digits}
use Rattle.stanza.proofs.indices.read_digits.Given as goal

abbrev pub invariant-loop-b : goal.invariant-loop-b
invariant-loop-b l = (l.v ≤ 4294967295) × (digits 0 l.text ≡ digits l.v (drop l.b-index l.text))
