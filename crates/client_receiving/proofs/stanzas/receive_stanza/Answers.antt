-- Each step of the code is a part of the definition (`received-from`), over the text's own arguments and body.
use mathlib.Core.Path.{ap, ap₂, ◌∙◌}
use Rattle.refusal.specs.Verdict.{verdict_said}
use Rattle.strict_base64.specs.Lines.{body_of}
use Rattle.session.specs.Opening.{name_of}
use Rattle.session.specs.Tables.{tables_in}
use Rattle.session.specs.Session.{session_of, carried_by}
use Rattle.conversation.specs.PhaseTwo.{buffers_of}
use Rattle.conversation.specs.ReceivingTwo.{received_stanza}
use Rattle.conversation.proofs.Laws.ReceivingTwo.{received_from}
use Rattle.phase_two.specs.AtOnce.{at_once_said}
use Rattle.phase_two_commands.specs.Commands.{command_said, command_of}
use Rattle.client_room.specs.Stanzas.{taking_said}
use Rattle.client_receiving.proofs.stanzas.receive_stanza.Goals as goal

pub shape_of-slots : goal.shape_of-slots
shape_of-slots c = c.step_two-step.auto.slots

pub returns : goal.returns
returns c = let a = c.args in
    let s = a.session in
    let hs = a.header_slots.now in
    let t = tables_in s.tables a.slots.now hs in
    let b = buffers_of a.errors.now a.stanzas.now a.returned.now in
    let l = c.arguments_of-line.result.now in
    let y = body_of c.lines_of.result.now in
    let e = c.step_two-step.ensures in
    record {
      outcome = rw c.moved.ensures
          (received_from s.machine (name_of s.name) s.screen s.phase t b a.out.now l y a.s.taken
          (command_said c.parse_two-command.result) (verdict_said c.rule_two-ruled.result) (at_once_said c.answer_at_once-at_once.result) c.at_once_size-size.result (verdict_said c.check_output-late.result) (verdict_said c.step_two-step.result.verdict) (taking_said c.answer_to-answer.result) c.phase_received_two-phase.result _ _ _
          (c.parse_two-command.ensures ∙ ap (command_of s.machine l) c.body_size-n.ensures.0) c.rule_two-ruled.ensures c.answer_at_once-at_once.ensures c.at_once_size-size.ensures c.check_output-late.ensures
          (e.number hs) c.answer_to-answer.ensures c.phase_received_two-phase.ensures (rw (e.number hs) (e.tables hs)) (rw (e.number hs) (e.buffers hs)) c.write_answer.ensures
          ∙ ap₂ (λ l y. received_stanza (session_of s a.slots.now hs) b a.out.now l y a.s.taken) c.arguments_of-line.ensures (ap body_of c.lines_of.ensures));
      carried = ap carried_by c.moved.ensures;
    }
