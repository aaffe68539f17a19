-- The entries before i have been passed, and the k-th of the file is looked for among the rest.
use mathlib.Core.Path.{◌≡◌}
use mathlib.Core.List.{map}
use Rattle.conversation.specs.PhaseTwo.{is_file}
use Rattle.look_up.specs.LookUp.{number_of}
use Rattle.look_up.proofs.Laws.Labels.{slot_label}
use Rattle.look_up.proofs.Laws.LookUp.{onward}
use Rattle.look_up.proofs.look_up.number_of.Given as goal

abbrev pub invariant-loop-i : goal.invariant-loop-i
invariant-loop-i l = onward (is_file l.file) l.entries l.i l.left ≡ number_of (is_file l.file) (map slot_label l.entries) l.k
