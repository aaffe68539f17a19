-- Invariant: reading on from the place behind i bytes, with those counted, gives what it gives of all; the bytes looked at end where 8,192 have passed.
use Prim.Native.Nat.{◌+◌}
use mathlib.Core.Path.{◌≡◌}
use lib.ListN.{drop}
use Rattle.stanza.specs.Resuming.{place_said, behind, continued}
use Rattle.stanza.proofs.places.read_on.Given as goal

abbrev pub invariant-loop-i : goal.invariant-loop-i
invariant-loop-i l = continued (place_said l.initial.at) l.kept l.bytes ≡ behind l.i (continued (place_said l.at) (l.kept + l.i) (drop l.i l.bytes))
