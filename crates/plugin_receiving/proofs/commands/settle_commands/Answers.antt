-- What is left is settled by the turn; behind a refusal nothing is kept.
use mathlib.Core.Path.{refl, ap}
use mathlib.Core.List.{[]}
use Rattle.refusal.specs.Verdict.{verdict_said}
use Rattle.chunks.specs.Taking.{plugin}
use Rattle.intake.specs.Turns.{turn_said}
use Rattle.intake.specs.declared.answers.Received.{Received}
use Rattle.plugin_receiving.proofs.Laws.Commands.{may_settle, refusal_stands}
use Rattle.plugin_receiving.proofs.commands.settle_commands.Goals as goal

pub returns-in-Ok : goal.returns-in-Ok
returns-in-Ok c = let a = c.args in
    let p = c.requires in
    let z = ap verdict_said c.in-Ok.is in
    record {
      outcome = λ xs hs b. rw c.in-Ok.is (c.settle.ensures.outcome plugin xs hs [] b (may_settle (verdict_said a.so_far.verdict) a.so_far.session.phase (turn_said c.turn_plugin-turn.result) a.rest.now a.input.now z p.none_due c.turn_plugin-turn.ensures p.in_bounds p.by_index));
      rest = c.settle.ensures.rest;
    }

pub returns-in-Err : goal.returns-in-Err
returns-in-Err c = let a = c.args in
    record {
      outcome = λ xs hs b. rw c.stop.ensures (refusal_stands a.so_far c.in-Err.r _ xs hs b a.input.now a.rest.now c.in-Err.is refl);
      rest = (ap (λ (r : Received). r.written) c.stop.ensures, ap (λ (r : Received). r.session.name) c.stop.ensures);
    }
