-- Each test in turn, the first that holds gives the number.
use mathlib.Core.Path.{◌≡◌, sym, ◌∙◌}
use Rattle.std.specs.Prelude.{Ok}
use Rattle.phase_two_commands.proofs.Laws.Commands.{no_fault}
use Rattle.phase_two_decision.proofs.decision.rule_two.Goals as goal

pub returns-then-is_missing : goal.returns-then-is_missing
returns-then-is_missing c =
    let w : c.args.command ≡ Ok c.in_ok-command.command = c.in_ok-command.was in
    rw (w, no_fault c.in_ok-command.command, sym (c.is_missing.ensures c.args.slots.now) ∙ c.if-is_missing.true)

pub returns-then-is_second_key : goal.returns-then-is_second_key
returns-then-is_second_key c =
    let w : c.args.command ≡ Ok c.in_ok-command.command = c.in_ok-command.was in
    rw (w, no_fault c.in_ok-command.command, sym (c.is_missing.ensures c.args.slots.now) ∙ c.if-is_missing.false, sym (c.is_second_key.ensures c.args.header_slots.now) ∙ c.if-is_second_key.true)

pub returns-then-is_too_many : goal.returns-then-is_too_many
returns-then-is_too_many c =
    let w : c.args.command ≡ Ok c.in_ok-command.command = c.in_ok-command.was in
    rw (w, no_fault c.in_ok-command.command, sym (c.is_missing.ensures c.args.slots.now) ∙ c.if-is_missing.false, sym (c.is_second_key.ensures c.args.header_slots.now) ∙ c.if-is_second_key.false, sym (c.is_too_many.ensures c.args.header_slots.now) ∙ c.if-is_too_many.true)

pub returns-then-is_clashing : goal.returns-then-is_clashing
returns-then-is_clashing c =
    let w : c.args.command ≡ Ok c.in_ok-command.command = c.in_ok-command.was in
    rw (w, no_fault c.in_ok-command.command, sym (c.is_missing.ensures c.args.slots.now) ∙ c.if-is_missing.false, sym (c.is_second_key.ensures c.args.header_slots.now) ∙ c.if-is_second_key.false, sym (c.is_too_many.ensures c.args.header_slots.now) ∙ c.if-is_too_many.false, sym (c.is_clashing.ensures c.args.header_slots.now) ∙ c.if-is_clashing.true)

pub returns-then-is_held_by : goal.returns-then-is_held_by
returns-then-is_held_by c =
    let w : c.args.command ≡ Ok c.in_ok-command.command = c.in_ok-command.was in
    rw (w, no_fault c.in_ok-command.command, sym (c.is_missing.ensures c.args.slots.now) ∙ c.if-is_missing.false, sym (c.is_second_key.ensures c.args.header_slots.now) ∙ c.if-is_second_key.false, sym (c.is_too_many.ensures c.args.header_slots.now) ∙ c.if-is_too_many.false, sym (c.is_clashing.ensures c.args.header_slots.now) ∙ c.if-is_clashing.false, sym c.is_held_by.ensures ∙ c.if-is_held_by.true)

pub returns : goal.returns
returns c =
    let w : c.args.command ≡ Ok c.in_ok-command.command = c.in_ok-command.was in
    rw (w, no_fault c.in_ok-command.command, sym (c.is_missing.ensures c.args.slots.now) ∙ c.if-is_missing.false, sym (c.is_second_key.ensures c.args.header_slots.now) ∙ c.if-is_second_key.false, sym (c.is_too_many.ensures c.args.header_slots.now) ∙ c.if-is_too_many.false, sym (c.is_clashing.ensures c.args.header_slots.now) ∙ c.if-is_clashing.false, sym c.is_held_by.ensures ∙ c.if-is_held_by.false)
