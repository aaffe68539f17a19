-- Each step of the code is a part of the definition, for all buffers of these lengths.
use mathlib.Core.Path.{sym, ap, ◌∙◌}
use Rattle.refusal.specs.Verdict.{verdict_said}
use Rattle.strict_base64.specs.Lines.{body_of}
use Rattle.session.specs.Opening.{name_of}
use Rattle.session.specs.Tables.{tables_in}
use Rattle.conversation.specs.CommandsTwo.{payload_of}
use Rattle.phase_two.specs.AtOnce.{at_once_said}
use Rattle.phase_two_commands.specs.Commands.{command_said, command_of}
use Rattle.client_room.specs.Stanzas.{taking_said}
use Rattle.client_room.proofs.Laws.Stanzas.{tried}
use Rattle.client_room.proofs.stanzas.try_stanza.Goals as goal

pub returns : goal.returns
returns c = record {
  outcome =
      λ b long.
      let a = c.args in
      let s = a.session in
      let hs = a.header_slots.now in
      let t = tables_in s.tables a.slots.now hs in
      let l = c.arguments_of-line.result.now in
      let y = body_of c.lines_of.result.now in
      rw (c.moved.ensures, sym c.arguments_of-line.ensures, sym c.lines_of.ensures)
      (tried s.machine (name_of s.name) s.screen s.phase t b l y a.s.taken (command_said c.parse_two-command.result) (verdict_said c.rule_two-ruled.result)
      (at_once_said c.answer_at_once-at_once.result) c.at_once_size-size.result (verdict_said c.enter_two-step.result.verdict) (taking_said c.answer_to-answer.result) c.phase_received_two-phase.result _
      (c.parse_two-command.ensures ∙ ap (command_of s.machine l) c.body_size-n.ensures.0) c.rule_two-ruled.ensures c.answer_at_once-at_once.ensures c.at_once_size-size.ensures
      (c.enter_two-step.ensures hs b (payload_of (command_said c.parse_two-command.result) l y) long (sym c.payload_size-payload.ensures)) c.answer_to-answer.ensures c.phase_received_two-phase.ensures);
}
