-- Whether one of the entries' labels is of the file.
use Rattle.std.proofs.Common.{ap, ◌∙◌, rules, tests}
use Rattle.std.proofs.lemmas.Iterator.{YieldsList-from_slice}
use Rattle.std.proofs.lemmas.Iterator.Search.{any_from_yields_List}
use Rattle.conversation.specs.PhaseTwo.{is_file, is_any}
use Rattle.look_up.proofs.Laws.Labels.{slot_label, labels_are, any_slots}
use Rattle.look_up.proofs.entries.has_file.Goals as goal

pub returns : goal.returns
returns c =
    let a = c.args in
    let q = is_file a.file in
    let es = c.entries.result.now in
    any_from_yields_List (λ slot. q (slot_label slot)) _ _ c.any.result c.any.ensures.ran (YieldsList-from_slice es cc) (λ x b q k. search (rules, tests))
    ∙ any_slots q es ∙ ap (is_any q) (labels_are a.span a.table a.slots.now es c.entries.ensures)
