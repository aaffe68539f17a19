-- Invariant: the automaton comes to the same from `from` and from i; a full line brings it back to where it was.
use Prim.Native.Nat.{◌-◌, ◌≤◌}
use mathlib.Core.Path.{◌≡◌}
use lib.ListN.{length, drop}
use Rattle.stanza.specs.Automaton.{scan, line}
use Rattle.stanza.proofs.reading.body_end.Given as goal

abbrev pub invariant-loop-i : goal.invariant-loop-i
invariant-loop-i l = (l.i ≤ length l.text) × (scan (line 0 0) l.from (drop l.from l.text) ≡ scan (line 0 0) l.i (drop l.i l.text))

abbrev pub decreases-loop-i : goal.decreases-loop-i
decreases-loop-i l = length l.text - l.i
