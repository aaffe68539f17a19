-- One step of phase one, by what it ensures of number, tables and buffers.
use Rattle.session.specs.Session.{carried_by}
use mathlib.Core.Path.{ap}
use Rattle.strict_base64.specs.Lines.{body_of}
use lib.ListN.{length}
use Rattle.refusal.specs.Verdict.{verdict_said}
use Rattle.stanza.specs.Parts.{arguments_in, body_in}
use Rattle.tables.specs.Bodies.{body_from}
use Rattle.tables.specs.declared.copying.Body.TheVariants.{Lines}
use Rattle.session.specs.Opening.{name_of}
use Rattle.session.specs.Tables.{tables_in}
use Rattle.phase_one.specs.Commands.{command_said}
use Rattle.phase_one.specs.PhaseOne.{buffers_of}
use Rattle.conversation.proofs.Laws.Receiving.{received_from}
use Rattle.plugin_receiving.specs.Receiving.{taking_said}
use Rattle.plugin_receiving.proofs.receiving.receive_stanza.Goals as goal

pub returns : goal.returns
returns c = let a = c.args in
    let text = a.text.now in
    let name = c.front.result.now in
    let line = c.arguments_of.result.now in
    let body = body_from (Lines c.lines_of.result) in
    let step = c.step_one-step in
    let e = step.ensures in
    let n = length body in
    record {
      outcome = rw c.moved.ensures
          (received_from a.session.machine (name_of a.session.name) a.session.screen a.session.phase (tables_in a.session.tables a.slots.now a.header_slots.now) (buffers_of a.recipients.now a.identities.now a.keys.now a.headers.now)
          (arguments_in text a.s) (body_in text a.s) a.s.taken name line body
          (verdict_said step.result.verdict) (command_said name line n step.result.command) (taking_said c.answer_to-answer.result) c.phase_received-phase.result _ _
          c.front.ensures c.arguments_of.ensures (ap body_of c.lines_of.ensures) e.number e.command (c.answer_to-answer.ensures name line n) (c.phase_received-phase.ensures name line n) e.tables e.buffers);
      carried = ap carried_by c.moved.ensures;
    }
