-- Whether one of the errors' labels names the header stanza.
use Rattle.std.proofs.Common.{◌+◌, ap, ◌∙◌, rules, tests}
use Rattle.std.proofs.lemmas.Iterator.{YieldsList-from_slice}
use Rattle.std.proofs.lemmas.Iterator.Search.{any_from_yields_List}
use Rattle.conversation.specs.PhaseTwo.{is_any, is_naming}
use Rattle.look_up.proofs.Laws.Labels.{slot_label, labels_are, any_slots}
use Rattle.session.specs.Tables.{span_of}
use Rattle.session.specs.declared.kinds.Kind.TheVariants as the
use Rattle.phase_two_decision.proofs.questions.has_stanza_error.Goals as goal

pub returns : goal.returns
returns c =
    let a = c.args in
    let q = is_naming (3 + a.file) a.i in
    let es = c.entries.result.now in
    any_from_yields_List (λ slot. q (slot_label slot)) _ _ c.any.result c.any.ensures.ran (YieldsList-from_slice es cc) (λ x b q k. search (rules, tests))
    ∙ any_slots q es ∙ ap (is_any q) (labels_are (span_of the.Errors) a.errors a.slots.now es (rw c.span_of.ensures at c.entries.ensures))
