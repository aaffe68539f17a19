-- Each arm is one law of a command that is kept, or that makes no entry; storing says what it came to.
use mathlib.Core.Path.{refl, ◌∙◌}
use mathlib.Core.List.{[], ◌∷◌, ◌++◌}
use Rattle.refusal.specs.Number.{number_of}
use Rattle.refusal.specs.Verdict.{verdict_said}
use Rattle.tables.specs.Bodies.{body_from}
use Rattle.session.specs.Tables.{tables_in}
use Rattle.session.proofs.Laws.Putting.{put_errors, put_stanzas, put_returned}
use Rattle.phase_one.specs.Commands.{rest_of}
use Rattle.conversation.specs.CommandsTwo as two
use Rattle.conversation.specs.PhaseTwo.{buffers_of}
use Rattle.phase_two_commands.specs.Commands.{named_said}
use Rattle.phase_two.proofs.Laws.Steps.{step_none, step_stanza, step_key, step_error}
use Rattle.phase_two.proofs.steps.keep.Goals as goal

pub returns-in-Ok-Stanza : goal.returns-in-Ok-Stanza
returns-in-Ok-Stanza c = let a = c.args in
    let b = buffers_of a.errors.now a.stanzas.now a.returned.now in
    let y = body_from a.body in
    let z = c.keep_stanza-stored.ensures in
    record {
      number = rw (c.in-Ok-Stanza.is, rw c.in-Ok-Stanza.is at c.in-Ok-Stanza.field-0-is, c.stepped.ensures) ((λ hs. (step_stanza (tables_in a.tables a.slots.now hs) b (rest_of a.line.now ++ 10 ∷ y) (verdict_said a.late) c.in-Ok-Stanza.file _ _ _ z.number z.table z.buffer).0));
      tables = rw (c.in-Ok-Stanza.is, rw c.in-Ok-Stanza.is at c.in-Ok-Stanza.field-0-is, c.stepped.ensures) ((λ hs. put_stanzas a.tables a.slots.now _ hs c.keep_stanza-stored.result.table _ refl z.others ∙ (step_stanza (tables_in a.tables a.slots.now hs) b (rest_of a.line.now ++ 10 ∷ y) (verdict_said a.late) c.in-Ok-Stanza.file _ _ _ z.number z.table z.buffer).1.0));
      buffers = simp (c.in-Ok-Stanza.is, rw c.in-Ok-Stanza.is at c.in-Ok-Stanza.field-0-is, c.stepped.ensures) ((λ hs. (step_stanza (tables_in a.tables a.slots.now hs) b (rest_of a.line.now ++ 10 ∷ y) (verdict_said a.late) c.in-Ok-Stanza.file _ _ _ z.number z.table z.buffer).1.1));
    }

pub returns-in-Ok-Key : goal.returns-in-Ok-Key
returns-in-Ok-Key c = let a = c.args in
    let b = buffers_of a.errors.now a.stanzas.now a.returned.now in
    let y = body_from a.body in
    let z = c.keep_key-stored.ensures in
    record {
      number = rw (c.in-Ok-Key.is, rw c.in-Ok-Key.is at c.in-Ok-Key.field-0-is, c.stepped-in-Ok-Key.ensures) ((λ hs. (step_key (tables_in a.tables a.slots.now hs) b y (verdict_said a.late) c.in-Ok-Key.file _ _ _ z.number z.table z.buffer).0));
      tables = rw (c.in-Ok-Key.is, rw c.in-Ok-Key.is at c.in-Ok-Key.field-0-is, c.stepped-in-Ok-Key.ensures) ((λ hs. put_returned a.tables a.slots.now _ hs c.keep_key-stored.result.table _ refl z.others ∙ (step_key (tables_in a.tables a.slots.now hs) b y (verdict_said a.late) c.in-Ok-Key.file _ _ _ z.number z.table z.buffer).1.0));
      buffers = simp (c.in-Ok-Key.is, rw c.in-Ok-Key.is at c.in-Ok-Key.field-0-is, c.stepped-in-Ok-Key.ensures) ((λ hs. (step_key (tables_in a.tables a.slots.now hs) b y (verdict_said a.late) c.in-Ok-Key.file _ _ _ z.number z.table z.buffer).1.1));
    }

pub returns-in-Ok-Error : goal.returns-in-Ok-Error
returns-in-Ok-Error c = let a = c.args in
    let b = buffers_of a.errors.now a.stanzas.now a.returned.now in
    let y = body_from a.body in
    let z = c.keep_error-stored.ensures in
    record {
      number = rw (c.in-Ok-Error.is, rw c.in-Ok-Error.is at c.in-Ok-Error.field-0-is, c.stepped-in-Ok-Error.ensures) ((λ hs. (step_error (tables_in a.tables a.slots.now hs) b y (verdict_said a.late) (named_said c.in-Ok-Error.named) _ _ _ z.number z.table z.buffer).0));
      tables = rw (c.in-Ok-Error.is, rw c.in-Ok-Error.is at c.in-Ok-Error.field-0-is, c.stepped-in-Ok-Error.ensures) ((λ hs. put_errors a.tables a.slots.now _ hs c.keep_error-stored.result.table _ refl z.others ∙ (step_error (tables_in a.tables a.slots.now hs) b y (verdict_said a.late) (named_said c.in-Ok-Error.named) _ _ _ z.number z.table z.buffer).1.0));
      buffers = simp (c.in-Ok-Error.is, rw c.in-Ok-Error.is at c.in-Ok-Error.field-0-is, c.stepped-in-Ok-Error.ensures) ((λ hs. (step_error (tables_in a.tables a.slots.now hs) b y (verdict_said a.late) (named_said c.in-Ok-Error.named) _ _ _ z.number z.table z.buffer).1.1));
    }

pub returns-in-Ok-Ask : goal.returns-in-Ok-Ask
returns-in-Ok-Ask c = let a = c.args in
    let b = buffers_of a.errors.now a.stanzas.now a.returned.now in
    record {
      number = rw (c.in-Ok-Ask.is, rw c.in-Ok-Ask.is at c.in-Ok-Ask.field-0-is) ((λ hs. (step_none (tables_in a.tables a.slots.now hs) b [] (verdict_said a.late) (two.ask c.in-Ok-Ask.field-0-0) refl refl refl).0));
      tables = rw (c.in-Ok-Ask.is, rw c.in-Ok-Ask.is at c.in-Ok-Ask.field-0-is) ((λ hs. (step_none (tables_in a.tables a.slots.now hs) b [] (verdict_said a.late) (two.ask c.in-Ok-Ask.field-0-0) refl refl refl).1.0));
      buffers = rw (c.in-Ok-Ask.is, rw c.in-Ok-Ask.is at c.in-Ok-Ask.field-0-is) ((λ hs. (step_none (tables_in a.tables a.slots.now hs) b [] (verdict_said a.late) (two.ask c.in-Ok-Ask.field-0-0) refl refl refl).1.1));
    }

pub returns-in-Ok-Done : goal.returns-in-Ok-Done
returns-in-Ok-Done c = let a = c.args in
    let b = buffers_of a.errors.now a.stanzas.now a.returned.now in
    record {
      number = rw (c.in-Ok-Done.is, rw c.in-Ok-Done.is at c.in-Ok-Done.field-0-is) ((λ hs. (step_none (tables_in a.tables a.slots.now hs) b [] (verdict_said a.late) two.done refl refl refl).0));
      tables = rw (c.in-Ok-Done.is, rw c.in-Ok-Done.is at c.in-Ok-Done.field-0-is) ((λ hs. (step_none (tables_in a.tables a.slots.now hs) b [] (verdict_said a.late) two.done refl refl refl).1.0));
      buffers = rw (c.in-Ok-Done.is, rw c.in-Ok-Done.is at c.in-Ok-Done.field-0-is) ((λ hs. (step_none (tables_in a.tables a.slots.now hs) b [] (verdict_said a.late) two.done refl refl refl).1.1));
    }

pub returns-in-Ok-Other : goal.returns-in-Ok-Other
returns-in-Ok-Other c = let a = c.args in
    let b = buffers_of a.errors.now a.stanzas.now a.returned.now in
    record {
      number = rw (c.in-Ok-Other.is, rw c.in-Ok-Other.is at c.in-Ok-Other.field-0-is) ((λ hs. (step_none (tables_in a.tables a.slots.now hs) b [] (verdict_said a.late) two.other refl refl refl).0));
      tables = rw (c.in-Ok-Other.is, rw c.in-Ok-Other.is at c.in-Ok-Other.field-0-is) ((λ hs. (step_none (tables_in a.tables a.slots.now hs) b [] (verdict_said a.late) two.other refl refl refl).1.0));
      buffers = rw (c.in-Ok-Other.is, rw c.in-Ok-Other.is at c.in-Ok-Other.field-0-is) ((λ hs. (step_none (tables_in a.tables a.slots.now hs) b [] (verdict_said a.late) two.other refl refl refl).1.1));
    }

pub returns-in-Err : goal.returns-in-Err
returns-in-Err c = let a = c.args in
    let b = buffers_of a.errors.now a.stanzas.now a.returned.now in
    record {
      number = rw c.in-Err.is ((λ hs. (step_none (tables_in a.tables a.slots.now hs) b [] (verdict_said a.late) (two.bad (number_of c.in-Err.field-0)) refl refl refl).0));
      tables = rw c.in-Err.is ((λ hs. (step_none (tables_in a.tables a.slots.now hs) b [] (verdict_said a.late) (two.bad (number_of c.in-Err.field-0)) refl refl refl).1.0));
      buffers = rw c.in-Err.is ((λ hs. (step_none (tables_in a.tables a.slots.now hs) b [] (verdict_said a.late) (two.bad (number_of c.in-Err.field-0)) refl refl refl).1.1));
    }
