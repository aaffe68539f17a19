-- Out of turn nothing changes; in turn the command is sent.
use mathlib.Core.Path.{refl, sym, ap, ◌∙◌}
use Rattle.refusal.specs.Number.{number_of}
use Rattle.refusal.specs.Verdict.{verdict_said}
use Rattle.refusal.proofs.Laws.Number.{number_not_zero}
use Rattle.session.specs.Session.{session_of}
use Rattle.phase_one.specs.Commands.{word_said}
use Rattle.phase_one.specs.PhaseOne.{buffers_of}
use Rattle.conversation.proofs.Laws.Sending.{sent_out_of_turn, sent_in_turn}
use Rattle.client_sending.proofs.sending.send.Goals as goal

pub returns-in-Err : goal.returns-in-Err
returns-in-Err c = let a = c.args in
    record {
      outcome = sent_out_of_turn (session_of a.session a.slots.now a.header_slots.now) (word_said a.word) a.arguments.now a.body.now (buffers_of a.recipients.now a.identities.now a.keys.now a.headers.now) a.out.now (number_of c.in-Err.r)
          (sym (ap verdict_said c.in-Err.is) ∙ c.turn_one-turn.ensures) (number_not_zero c.in-Err.r);
      carried = refl;
    }

pub returns-in-Ok : goal.returns-in-Ok
returns-in-Ok c = let a = c.args in
    record {
      outcome = c.send_due.ensures.outcome
          ∙ sent_in_turn (session_of a.session a.slots.now a.header_slots.now) (word_said a.word) a.arguments.now a.body.now (buffers_of a.recipients.now a.identities.now a.keys.now a.headers.now) a.out.now (sym (ap verdict_said c.in-Ok.is) ∙ c.turn_one-turn.ensures);
      carried = c.send_due.ensures.carried;
    }
