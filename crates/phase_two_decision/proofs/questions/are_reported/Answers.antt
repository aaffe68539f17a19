-- Whether each of the entries' labels that is invalid has had its error.
use Prim.Native.Nat.{ℕ}
use mathlib.Core.Bool.{not, ◌||◌}
use mathlib.Core.List.{List}
use Rattle.std.proofs.Common.{ap, ◌∙◌, rules, tests}
use Rattle.std.proofs.lemmas.Iterator.{YieldsList-from_slice}
use Rattle.std.proofs.lemmas.Iterator.Consumers.{YieldsList-from_enumerate}
use Rattle.std.proofs.lemmas.Iterator.Search.{all_from_yields_List}
use Rattle.tables.specs.Tables.{table_in}
use Rattle.session.specs.Tables.{span_of}
use Rattle.session.specs.declared.kinds.Kind.TheVariants as the
use Rattle.conversation.specs.PhaseTwo.{labels, is_any, is_invalid, is_naming, are_reported}
use Rattle.look_up.proofs.Laws.Labels.{slot_label, labels_are}
use Rattle.phase_two_decision.proofs.Laws.Questions.{all_reported}
use Rattle.phase_two_decision.proofs.questions.are_reported.Goals as goal

pub returns : goal.returns
returns c =
    let a = c.args in
    let es = c.entries.result.now in
    let errors = labels (table_in (span_of the.Errors) a.errors a.slots.now) in
    all_from_yields_List (λ (p : ℕ × List ℕ). not (is_invalid (slot_label p.1)) || is_any (is_naming a.mark p.0) errors) _ _ c.all.result c.all.ensures.ran
    (YieldsList-from_enumerate (YieldsList-from_slice es cc) (cc)) (λ x b q k. search (rules, tests))
    ∙ all_reported is_invalid a.mark errors 0 es ∙ ap (λ ls. are_reported is_invalid a.mark 0 ls errors) (labels_are a.span a.table a.slots.now es c.entries.ensures)
