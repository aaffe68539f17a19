-- An accepted command has its answer written; a refusal, whose number is never 0, writes nothing.
use Rattle.refusal.proofs.Laws.Number.{number_not_zero}
use Rattle.client_receiving.proofs.stanzas.write_answer.Goals as goal

pub returns-in-Ok : goal.returns-in-Ok
returns-in-Ok c = rw c.in-Ok.is c.write_at_once.ensures

pub returns-in-Err : goal.returns-in-Err
returns-in-Err c = rw (c.in-Err.is, number_not_zero c.in-Err.field-0)
