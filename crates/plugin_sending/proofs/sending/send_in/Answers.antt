-- 17 where the line cannot be written; else the step, by what it ensures, and what is written.
use mathlib.Core.Path.{◌≡◌, refl, sym, ap, ◌∙◌}
use lib.Dec.{ltb}
use lib.ListN.{length}
use Rattle.refusal.specs.Number.{number_of}
use Rattle.refusal.specs.Output.{said}
use Rattle.refusal.specs.Pick.{pick}
use Rattle.refusal.specs.Verdict.{verdict_said}
use Rattle.stanza.specs.Writing.{sized}
use Rattle.stanza.proofs.Laws.Writing.{size_bytes}
use Rattle.session.specs.Composing.{composed_said}
use Rattle.session.specs.Opening.{name_of}
use Rattle.session.specs.Tables.{tables_in}
use Rattle.session.specs.Session.{session_of, carried_by}
use Rattle.session.proofs.Laws.Composing.{composed_line, composed_not}
use Rattle.conversation.specs.CommandsTwo.{line_sent}
use Rattle.conversation.specs.PhaseTwo.{buffers_of}
use Rattle.conversation.proofs.Laws.SendingTwo.{sent_from, sent_unwritable}
use Rattle.phase_two_commands.specs.Commands.{command_said}
use Rattle.plugin_sending.proofs.sending.send_in.Goals as goal

pub returns-in-Err : goal.returns-in-Err
returns-in-Err c = let a = c.args in
    let l = line_sent a.word a.arguments.now in
    let r = number_of c.in-Err.r in
    let put = c.put_line_two-put.ensures in
    let z = composed_not l a.store.now _ a.body.now _ put.answer put.buffer r c.requires (sym (ap composed_said c.in-Err.is) ∙ c.compose-composed.ensures) in
    record {
      outcome = rw z.1 (sent_unwritable (session_of a.session a.slots.now a.header_slots.now) (buffers_of a.errors.now a.stanzas.now a.returned.now) l a.body.now a.out.now z.0);
      carried = refl;
    }

pub shape_of-store-in-Ok : goal.shape_of-store-in-Ok
shape_of-store-in-Ok c = c.put_line_two-put.auto.out

pub returns-in-Ok : goal.returns-in-Ok
returns-in-Ok c = let a = c.args in
    let l = line_sent a.word a.arguments.now in
    let y = a.body.now in
    let o = a.out.now in
    let put = c.put_line_two-put.ensures in
    let z = composed_line l a.store.now _ y _ put.answer put.buffer c.in-Ok.composed.line c.in-Ok.composed.stanza (sym (ap composed_said c.in-Ok.is) ∙ c.compose-composed.ensures) in
    let f = c.front-line.result.now in
    let e : f ≡ l = c.front-line.ensures ∙ z.0 in
    let w = size_bytes f y o c.in-Ok.composed.stanza (z.1 ∙ ap (λ x. sized x y) (sym e)) in
    let step = c.step_two-step in
    let hs = a.header_slots.now in
    record {
      outcome = rw (sym e, c.moved.ensures)
          (sent_from a.session.machine (name_of a.session.name) a.session.screen a.session.phase (tables_in a.session.tables a.slots.now hs) (buffers_of a.errors.now a.stanzas.now a.returned.now) f y o w.0
          (command_said c.parse_two-command.result) (verdict_said c.rule_two-ruled.result) (verdict_said c.check_output-late.result) (verdict_said step.result.verdict) (said c.write_judged-answer.result) c.phase_sent_two-phase.result _ _ _
          c.parse_two-command.ensures c.rule_two-ruled.ensures (c.check_output-late.ensures ∙ ap (λ n. pick (ltb (length o) n) 15 0) w.1) (step.ensures.number hs) c.write_judged-answer.ensures.answer c.phase_sent_two-phase.ensures (step.ensures.tables hs) (step.ensures.buffers hs) c.write_judged-answer.ensures.output);
      carried = ap carried_by c.moved.ensures;
    }
