-- Each arm is one law of a command that is kept; parsing says which it is, storing what it came to.
use mathlib.Core.Path.{refl, sym, ap, ◌∙◌}
use lib.ListN.{length}
use Rattle.std.specs.Prelude.{Ok}
use Rattle.refusal.specs.Verdict.{verdict_said}
use Rattle.tables.specs.Bodies.{body_from}
use Rattle.session.specs.Tables.{tables_in}
use Rattle.session.proofs.Laws.Putting.{put_recipients, put_identities, put_keys, put_headers}
use Rattle.phase_one.specs.Commands.{command_said}
use Rattle.phase_one.specs.PhaseOne.{buffers_of}
use Rattle.phase_one.proofs.Laws.PhaseOne.{step_recipient, step_identity, step_key, step_header}
use Rattle.phase_one.proofs.steps.step_one.Goals as goal

pub returns-in-Ok-Recipient : goal.returns-in-Ok-Recipient
returns-in-Ok-Recipient c = let a = c.args in
    let y = body_from a.body in
    let t = tables_in a.tables a.slots.now a.header_slots.now in
    let b = buffers_of a.recipients.now a.identities.now a.keys.now a.headers.now in
    let e = rw c.body_size-n.ensures.0 at (c.parse_one-command.ensures a.plugin.now) in
    let z = c.keep_recipient-stored.ensures in
    let k = ap (command_said a.plugin.now a.line.now (length y)) (sym (c.in-Ok-Recipient.is ∙ ap Ok (rw c.in-Ok-Recipient.is at c.in-Ok-Recipient.field-0-is))) ∙ e in
    let s = step_recipient a.machine a.plugin.now t b (verdict_said a.late) a.line.now y _ _ _ _ k z.number z.table z.buffer in
    record {
      command = rw c.stepped.ensures e;
      number = rw c.stepped.ensures s.0;
      tables = rw c.stepped.ensures (put_recipients a.tables a.slots.now _ a.header_slots.now c.keep_recipient-stored.result.table _ refl z.others ∙ s.1.0);
      buffers = s.1.1;
    }

pub returns-in-Ok-Identity : goal.returns-in-Ok-Identity
returns-in-Ok-Identity c = let a = c.args in
    let y = body_from a.body in
    let t = tables_in a.tables a.slots.now a.header_slots.now in
    let b = buffers_of a.recipients.now a.identities.now a.keys.now a.headers.now in
    let e = rw c.body_size-n.ensures.0 at (c.parse_one-command.ensures a.plugin.now) in
    let z = rw c.span_of-span.ensures at c.keep_text-stored.ensures in
    let k = ap (command_said a.plugin.now a.line.now (length y)) (sym (c.in-Ok-Identity.is ∙ ap Ok (rw c.in-Ok-Identity.is at c.in-Ok-Identity.field-0-is))) ∙ e in
    let s = step_identity a.machine a.plugin.now t b (verdict_said a.late) a.line.now y _ _ _ _ k z.number z.table z.buffer in
    record {
      command = rw c.stepped-in-Ok-Identity.ensures e;
      number = rw c.stepped-in-Ok-Identity.ensures s.0;
      tables = rw c.stepped-in-Ok-Identity.ensures (put_identities a.tables a.slots.now _ a.header_slots.now c.keep_text-stored.result.table _ refl z.others ∙ s.1.0);
      buffers = s.1.1;
    }

pub returns-in-Ok-Key : goal.returns-in-Ok-Key
returns-in-Ok-Key c = let a = c.args in
    let y = body_from a.body in
    let t = tables_in a.tables a.slots.now a.header_slots.now in
    let b = buffers_of a.recipients.now a.identities.now a.keys.now a.headers.now in
    let e = rw c.body_size-n.ensures.0 at (c.parse_one-command.ensures a.plugin.now) in
    let z = rw c.span_of-span-in-Ok-Key.ensures at c.store-stored.ensures in
    let k = ap (command_said a.plugin.now a.line.now (length y)) (sym (c.in-Ok-Key.is ∙ ap Ok (rw c.in-Ok-Key.is at c.in-Ok-Key.field-0-is))) ∙ e in
    let s = step_key a.machine a.plugin.now t b (verdict_said a.late) a.line.now y _ _ _ k z.number (rw (sym z.number) at z.table) (rw (sym z.number) at z.buffer) in
    record {
      command = rw c.stepped-in-Ok-Key.ensures e;
      number = rw c.stepped-in-Ok-Key.ensures s.0;
      tables = rw c.stepped-in-Ok-Key.ensures (put_keys a.tables a.slots.now _ a.header_slots.now c.store-stored.result.table _ refl z.others ∙ s.1.0);
      buffers = s.1.1;
    }

pub returns-in-Ok-Header : goal.returns-in-Ok-Header
returns-in-Ok-Header c = let a = c.args in
    let y = body_from a.body in
    let t = tables_in a.tables a.slots.now a.header_slots.now in
    let b = buffers_of a.recipients.now a.identities.now a.keys.now a.headers.now in
    let e = rw c.body_size-n.ensures.0 at (c.parse_one-command.ensures a.plugin.now) in
    let z = rw c.body_size-n.ensures.0 at c.keep_header-stored.ensures in
    let k = ap (command_said a.plugin.now a.line.now (length y)) (sym (c.in-Ok-Header.is ∙ ap Ok (rw c.in-Ok-Header.is at c.in-Ok-Header.field-0-is))) ∙ e in
    let s = step_header a.machine a.plugin.now t b (verdict_said a.late) a.line.now y _ _ _ _ _ k z.number z.table z.buffer in
    record {
      command = rw c.stepped-in-Ok-Header.ensures e;
      number = rw c.stepped-in-Ok-Header.ensures s.0;
      tables = rw c.stepped-in-Ok-Header.ensures (put_headers a.tables a.slots.now c.keep_header-stored.new.slots c.keep_header-stored.result.table _ refl a.header_slots.now ∙ s.1.0);
      buffers = s.1.1;
    }
