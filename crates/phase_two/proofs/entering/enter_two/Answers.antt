-- Ruled out, nothing changes; else the command is entered.
use Rattle.refusal.specs.Number.{number_of}
use Rattle.refusal.specs.Verdict.{verdict_said}
use Rattle.refusal.proofs.Laws.Number.{number_not_zero}
use Rattle.session.specs.Tables.{tables_in}
use Rattle.phase_two_commands.specs.Commands.{command_said}
use Rattle.phase_two.proofs.Laws.Entering.{enter_ruled}
use Rattle.phase_two.proofs.entering.enter_two.Goals as goal

pub returns-in-Err : goal.returns-in-Err
returns-in-Err c = let a = c.args in
    let r = c.in-Err.field-0 in
    rw c.in-Err.is (λ hs b p l e. enter_ruled (tables_in a.tables a.slots.now hs) b p (verdict_said a.late) (number_of r) (command_said a.command) (number_not_zero r))

pub returns-in-Ok : goal.returns-in-Ok
returns-in-Ok c = rw c.in-Ok.is c.enter.ensures
