-- Each entry that does not show the text leaves what those behind it show; of one entry the bytes so far are those of the text.
use mathlib.Core.Path.{◌≡◌}
use Rattle.std.proofs.Common.{All}
use Rattle.tables.proofs.Laws.Repeats.{are_equal, shown_from}
use Rattle.tables.proofs.tables.Table.is_repeated.Given as goal

abbrev pub invariant-loop-a : goal.invariant-loop-a
invariant-loop-a l = All are_equal l.yielded

abbrev pub invariant-entries : goal.invariant-entries
invariant-entries l = shown_from l.slot-items l.buffer l.text 0 ≡ shown_from l.slot-items l.buffer l.text l.slot-index
