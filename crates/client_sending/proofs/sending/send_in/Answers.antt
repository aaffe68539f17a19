-- The composed line stands at the store's front and is judged as itself (`sent-from`); one that cannot be written is 17.
use mathlib.Core.Path.{◌≡◌, refl, sym, ap, ◌∙◌}
use borrow.Author.Rules.{rules}
use lib.Dec.{ltb}
use lib.ListN.{length}
use Rattle.refusal.specs.Number.{number_of}
use Rattle.refusal.specs.Output.{said}
use Rattle.refusal.specs.Pick.{pick}
use Rattle.refusal.specs.Verdict.{verdict_said}
use Rattle.stanza.specs.Writing.{sized}
use Rattle.stanza.proofs.Laws.Writing.{size_bytes}
use Rattle.session.specs.Opening.{name_of}
use Rattle.session.specs.Tables.{tables_in}
use Rattle.session.specs.Session.{session_of, carried_by}
use Rattle.session.specs.Composing.{composed_said}
use Rattle.session.proofs.Laws.Composing.{composed_line, composed_not}
use Rattle.phase_one.specs.Commands.{word_said, line_sent, command_said}
use Rattle.phase_one.specs.PhaseOne.{buffers_of}
use Rattle.conversation.specs.Sending.{sent_line}
use Rattle.conversation.proofs.Laws.Sending.{sent_from, sent_unwritable}
use Rattle.client_sending.proofs.sending.send_in.Goals as goal

pub slice_bounds-front-end : goal.slice_bounds-front-end
slice_bounds-front-end c = let g = c.well_formed in search rules

pub returns-in-Err : goal.returns-in-Err
returns-in-Err c = let a = c.args in
    let l = line_sent (word_said a.word) a.arguments.now in
    let p = c.put_line-put.ensures in
    let e = composed_not l a.store.now _ a.body.now (said c.put_line-put.result) p.answer p.buffer (number_of c.in-Err.r) c.requires (sym (ap composed_said c.in-Err.is) ∙ c.compose-composed.ensures) in
    record {
      outcome = rw e.1
          (sent_unwritable (session_of a.session a.slots.now a.header_slots.now) (buffers_of a.recipients.now a.identities.now a.keys.now a.headers.now) l a.body.now a.out.now e.0);
      carried = refl;
    }

pub shape_of-store-in-Ok : goal.shape_of-store-in-Ok
shape_of-store-in-Ok c = c.put_line-put.auto.out

pub shape_of-slots : goal.shape_of-slots
shape_of-slots c = c.step_one-step.auto.slots

pub shape_of-header_slots : goal.shape_of-header_slots
shape_of-header_slots c = c.step_one-step.auto.header_slots

pub returns-in-Ok : goal.returns-in-Ok
returns-in-Ok c = let a = c.args in
    let s = a.session in
    let l = line_sent (word_said a.word) a.arguments.now in
    let y = a.body.now in
    let o = a.out.now in
    let t = tables_in s.tables a.slots.now a.header_slots.now in
    let b = buffers_of a.recipients.now a.identities.now a.keys.now a.headers.now in
    let p = c.put_line-put.ensures in
    let d = composed_line l a.store.now _ y (said c.put_line-put.result) p.answer p.buffer c.in-Ok.composed.line c.in-Ok.composed.stanza (sym (ap composed_said c.in-Ok.is) ∙ c.compose-composed.ensures) in
    let line = c.front-line.result.now in
    let same : line ≡ l = c.front-line.ensures ∙ d.0 in
    let w = size_bytes line y o c.in-Ok.composed.stanza (d.1 ∙ ap (λ x. sized x y) (sym same)) in
    let g = c.front.result.now in
    let e = c.step_one-step.ensures in
    record {
      outcome = rw c.moved.ensures
          (sent_from s.machine (name_of s.name) s.screen s.phase t b line y o w.0
          g (verdict_said c.check_output-late.result) (verdict_said c.step_one-step.result.verdict) (command_said g line (length y) c.step_one-step.result.command) (said c.write_judged-answer.result) c.phase_sent-phase.result _ _ _
          c.front.ensures (c.check_output-late.ensures ∙ ap (λ n. pick (ltb (length o) n) 15 0) w.1) e.number e.command c.write_judged-answer.ensures.answer (c.phase_sent-phase.ensures g line (length y)) e.tables e.buffers c.write_judged-answer.ensures.output
          ∙ ap (λ x. sent_line (session_of s a.slots.now a.header_slots.now) b x y o) same);
      carried = ap carried_by c.moved.ensures;
    }
