-- `find_lf` meets its contract. Invariant: the line ends at the same place, seen from `from` and from i.
use Rattle.std.proofs.Common.{◌≡◌, ◌+◌, drop}
use Rattle.refusal.specs.Run.{run}
use Rattle.script.specs.Line.{is_line_byte}
use Rattle.script.proofs.lines.find_lf.Given as goal

abbrev pub invariant-loop-i : goal.invariant-loop-i
invariant-loop-i l = l.from + run is_line_byte (drop l.from l.text) ≡ l.i + run is_line_byte (drop l.i l.text)
