-- 13 or 14 by the turn; else the command.
use mathlib.Core.Path.{refl, sym, ap, ◌∙◌}
use Rattle.refusal.specs.Number.{number_of}
use Rattle.refusal.specs.Verdict.{verdict_said}
use Rattle.refusal.proofs.Laws.Number.{number_not_zero}
use Rattle.session.specs.Session.{session_of}
use Rattle.conversation.specs.PhaseTwo.{buffers_of}
use Rattle.conversation.proofs.Laws.SendingTwo.{sent_out_of_turn, sent_in_turn}
use Rattle.plugin_sending.proofs.sending.send.Goals as goal

pub returns-in-Err : goal.returns-in-Err
returns-in-Err c = let a = c.args in
    let r = c.in-Err.r in
    record {
      outcome = sent_out_of_turn (session_of a.session a.slots.now a.header_slots.now) a.word a.arguments.now a.body.now (buffers_of a.errors.now a.stanzas.now a.returned.now) a.out.now (number_of r) (sym (ap verdict_said c.in-Err.is) ∙ c.turn_two-turn.ensures) (number_not_zero r);
      carried = refl;
    }

pub returns-in-Ok : goal.returns-in-Ok
returns-in-Ok c = let a = c.args in
    record {
      outcome = c.send_due.ensures.outcome
          ∙ sent_in_turn (session_of a.session a.slots.now a.header_slots.now) a.word a.arguments.now a.body.now (buffers_of a.errors.now a.stanzas.now a.returned.now) a.out.now (sym (ap verdict_said c.in-Ok.is) ∙ c.turn_two-turn.ensures);
      carried = c.send_due.ensures.carried;
    }
