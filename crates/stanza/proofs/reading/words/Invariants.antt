-- Invariant: the automaton comes to the same from `from` and from i, and so does the search for the line's end.
use Prim.Native.Nat.{◌+◌, ◌-◌, ◌≤◌}
use mathlib.Core.Path.{◌≡◌}
use lib.ListN.{length, drop}
use Rattle.stanza.specs.Automaton.{scan, gap}
use Rattle.stanza.specs.Reading.{line_end}
use Rattle.stanza.proofs.reading.words.Given as goal

abbrev pub invariant-loop-i : goal.invariant-loop-i
invariant-loop-i l = (l.from ≤ l.i) × (l.i ≤ length l.text) × (scan gap l.from (drop l.from l.text) ≡ scan gap l.i (drop l.i l.text)) × (l.from + line_end (drop l.from l.text) ≡ l.i + line_end (drop l.i l.text))

abbrev pub decreases-loop-i : goal.decreases-loop-i
decreases-loop-i l = length l.text - l.i
