-- Beyond the last entry nothing passes; else the slot's mark is asked.
use mathlib.Core.Path.{◌≡◌, ap, ◌∙◌}
use mathlib.Core.List.{map}
use native.Mathlib.Omega.{arith}
use Rattle.std.proofs.lemmas.Grind.{common_steps}
use Rattle.session.specs.Tables.{span_of}
use Rattle.session.specs.declared.kinds.Kind.TheVariants as the
use Rattle.conversation.specs.PhaseTwo.{is_unknown, passes}
use Rattle.look_up.proofs.Laws.Labels.{slot_label, labels_are}
use Rattle.phase_two_decision.proofs.Laws.Questions.{passes_there, passes_out}
use Rattle.phase_two_decision.proofs.questions.is_unknown_at.Goals as goal

pub returns : goal.returns
returns c =
    let a = c.args in
    let es = c.entries.result.now in
    let h : c.is_some_and.result ≡ passes is_unknown (map slot_label es) a.n = grind (arith, common_steps, passes_there is_unknown es a.n, passes_out is_unknown es a.n) in
    h ∙ ap (λ ls. passes is_unknown ls a.n) (labels_are (span_of the.Headers) a.headers a.header_slots.now es (rw c.span_of.ensures at c.entries.ensures))
