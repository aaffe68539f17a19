-- How many of the entries' labels are of the file.
use mathlib.Core.Path.{sym, ap, ◌∙◌}
use Rattle.conversation.specs.PhaseTwo.{is_file, how_many}
use Rattle.look_up.proofs.Laws.Labels.{labels_are, many_slots}
use Rattle.look_up.proofs.entries.count_file.Goals as goal

pub returns : goal.returns
returns c =
    let a = c.args in
    let es = c.entries.result.now in
    c.count_of.ensures ∙ sym (many_slots (is_file a.file) es) ∙ ap (how_many (is_file a.file)) (labels_are a.span a.table a.slots.now es c.entries.ensures)
