-- Ruled out, nothing changes; else the command is kept.
use Rattle.refusal.specs.Number.{number_of}
use Rattle.tables.specs.Bodies.{body_from}
use Rattle.conversation.specs.CommandsTwo.{payload_of}
use Rattle.phase_two_commands.specs.Commands.{command_said}
use Rattle.refusal.specs.Verdict.{verdict_said}
use Rattle.refusal.proofs.Laws.Number.{number_not_zero}
use Rattle.session.specs.Tables.{tables_in}
use Rattle.conversation.specs.PhaseTwo.{buffers_of}
use Rattle.phase_two.proofs.Laws.Steps.{step_ruled}
use Rattle.phase_two.proofs.steps.step_two.Goals as goal

pub returns-in-Err : goal.returns-in-Err
returns-in-Err c = let a = c.args in
    let b = buffers_of a.errors.now a.stanzas.now a.returned.now in
    record {
      number = rw c.in-Err.is ((λ hs. (step_ruled (tables_in a.tables a.slots.now hs) b (payload_of (command_said a.command) a.line.now (body_from a.body)) (verdict_said a.late) (number_of c.in-Err.field-0) (command_said a.command) (number_not_zero c.in-Err.field-0)).0));
      tables = rw c.in-Err.is ((λ hs. (step_ruled (tables_in a.tables a.slots.now hs) b (payload_of (command_said a.command) a.line.now (body_from a.body)) (verdict_said a.late) (number_of c.in-Err.field-0) (command_said a.command) (number_not_zero c.in-Err.field-0)).1.0));
      buffers = rw c.in-Err.is ((λ hs. (step_ruled (tables_in a.tables a.slots.now hs) b (payload_of (command_said a.command) a.line.now (body_from a.body)) (verdict_said a.late) (number_of c.in-Err.field-0) (command_said a.command) (number_not_zero c.in-Err.field-0)).1.1));
    }

pub returns-in-Ok : goal.returns-in-Ok
returns-in-Ok c = record {
  number = rw c.in-Ok.is c.keep.ensures.number;
  tables = rw c.in-Ok.is c.keep.ensures.tables;
  buffers = rw c.in-Ok.is c.keep.ensures.buffers;
}
