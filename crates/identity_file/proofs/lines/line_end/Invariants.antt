-- The loop's invariant: the line ends where the run of bytes other than LF ends that goes on at i.
use Rattle.std.proofs.Common.{◌≡◌, ◌+◌, drop}
use Rattle.refusal.specs.Run.{run}
use Rattle.identity_file.specs.Lines.{is_line_byte}
use Rattle.identity_file.specs.Steps.{line_end}
use Rattle.identity_file.proofs.lines.line_end.Given as goal

abbrev pub invariant-loop-i : goal.invariant-loop-i
invariant-loop-i l = line_end l.text l.from ≡ l.i + run is_line_byte (drop l.i l.text)
