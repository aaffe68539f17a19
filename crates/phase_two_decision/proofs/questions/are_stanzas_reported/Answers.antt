-- Whether each of the header stanzas' labels owes no error, or has had it.
use Prim.Native.Nat.{ℕ}
use mathlib.Core.List.{List}
use lib.ListN.{take}
use Rattle.std.proofs.Common.{ap, ◌∙◌, sym, rules, tests}
use Rattle.std.proofs.lemmas.Iterator.{YieldsList-from_slice}
use Rattle.std.proofs.lemmas.Iterator.Consumers.{YieldsList-from_enumerate}
use Rattle.std.proofs.lemmas.Iterator.Search.{all_from_yields_List}
use Rattle.tables.specs.Tables.{table_in}
use Rattle.session.specs.Tables.{span_of}
use Rattle.session.specs.declared.kinds.Kind.TheVariants as the
use Rattle.conversation.specs.PhaseTwo.{labels, are_stanzas_reported}
use Rattle.look_up.proofs.Laws.Labels.{slot_label, labels_are}
use Rattle.phase_two_decision.proofs.Laws.Questions.{is_settled, stanzas_reported}
use Rattle.phase_two_decision.proofs.questions.are_stanzas_reported.Goals as goal

pub returns : goal.returns
returns c =
    let a = c.args in
    let es = c.entries.result.now in
    let errors = labels (table_in (span_of the.Errors) a.errors a.slots.now) in
    let all = labels (table_in (span_of the.Headers) a.headers a.header_slots.now) in
    let e = labels_are (span_of the.Headers) a.headers a.header_slots.now es (rw c.span_of.ensures at c.entries.ensures) in
    all_from_yields_List (λ (p : ℕ × List ℕ). is_settled all errors p.0 (slot_label p.1)) _ _ c.all.result c.all.ensures.ran
    (YieldsList-from_enumerate (YieldsList-from_slice es cc) (cc)) (λ x b q k. search (rules, tests))
    ∙ stanzas_reported all errors 0 es (sym e) ∙ ap (λ ls. are_stanzas_reported (take 0 all) ls errors) e
