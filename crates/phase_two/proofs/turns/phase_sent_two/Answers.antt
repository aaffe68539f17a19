-- An accepted command leads on, a refusal leaves the phase.
use Rattle.refusal.proofs.Laws.Number.{number_not_zero}
use Rattle.phase_two.proofs.turns.phase_sent_two.Goals as goal

pub returns-in-Ok : goal.returns-in-Ok
returns-in-Ok c = rw c.in-Ok.is c.phase_spoken.ensures

pub returns-in-Err : goal.returns-in-Err
returns-in-Err c = rw (c.in-Err.is, number_not_zero c.in-Err.field-0)
