-- How many labels of the first n entries are of the file.
use mathlib.Core.Path.{◌≡◌, sym, ap, ◌∙◌}
use mathlib.Core.List.{map}
use lib.ListN.{take}
use native.Mathlib.Omega.{arith}
use Rattle.std.proofs.lemmas.Grind.{common_steps}
use Rattle.std.proofs.lemmas.List.{take-map}
use Rattle.conversation.specs.PhaseTwo.{is_file, how_many}
use Rattle.look_up.proofs.Laws.Labels.{slot_label, labels_are, many_slots}
use Rattle.look_up.proofs.entries.count_before.Goals as goal

pub returns : goal.returns
returns c =
    let a = c.args in
    let es = c.entries-entries.result.now in
    let q = is_file a.file in
    let e : c.unwrap_or.result.now ≡ take a.n es = grind (arith, common_steps) in
    c.count_of.ensures ∙ sym (many_slots q c.unwrap_or.result.now)
    ∙ ap (λ s. how_many q (map slot_label s)) e ∙ ap (how_many q) (sym (take-map slot_label a.n es))
    ∙ ap (λ ls. how_many q (take a.n ls)) (labels_are a.span a.table a.slots.now es c.entries-entries.ensures)
