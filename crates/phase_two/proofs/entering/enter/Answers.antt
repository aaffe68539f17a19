-- Each arm is one law of a command that is entered, or that makes no entry; the table says what entering came to.
use mathlib.Core.Path.{refl, ◌∙◌}
use Rattle.refusal.specs.Number.{number_of}
use Rattle.refusal.specs.Verdict.{verdict_said}
use Rattle.session.specs.Tables.{tables_in}
use Rattle.session.proofs.Laws.Putting.{put_errors, put_stanzas, put_returned}
use Rattle.conversation.specs.CommandsTwo as two
use Rattle.phase_two_commands.specs.Commands.{named_said}
use Rattle.phase_two.proofs.Laws.Entering.{enter_none, enter_stanza, enter_key, enter_error}
use Rattle.phase_two.proofs.entering.enter.Goals as goal

pub returns-in-Ok-Stanza : goal.returns-in-Ok-Stanza
returns-in-Ok-Stanza c = let a = c.args in
    let z = rw (c.span_of-span.ensures, c.wide.ensures) at c.enter-stored.ensures in
    rw (c.in-Ok-Stanza.is, rw c.in-Ok-Stanza.is at c.in-Ok-Stanza.field-0-is, c.stepped.ensures)
    (λ hs b p l e.
    let s = enter_stanza (tables_in a.tables a.slots.now hs) b p (verdict_said a.late) a.errors a.stanzas a.returned a.size l e c.in-Ok-Stanza.file _ _ z.number z.table in
    record { number = s.number; tables = put_stanzas a.tables a.slots.now _ hs c.enter-stored.result.table _ refl z.others ∙ s.tables })

pub returns-in-Ok-Key : goal.returns-in-Ok-Key
returns-in-Ok-Key c = let a = c.args in
    let z = rw (c.span_of-span-in-Ok-Key.ensures, c.wide-in-Ok-Key.ensures) at c.enter-stored-in-Ok-Key.ensures in
    rw (c.in-Ok-Key.is, rw c.in-Ok-Key.is at c.in-Ok-Key.field-0-is, c.stepped-in-Ok-Key.ensures)
    (λ hs b p l e.
    let s = enter_key (tables_in a.tables a.slots.now hs) b p (verdict_said a.late) a.errors a.stanzas a.returned a.size l e c.in-Ok-Key.file _ _ z.number z.table in
    record { number = s.number; tables = put_returned a.tables a.slots.now _ hs c.enter-stored-in-Ok-Key.result.table _ refl z.others ∙ s.tables })

pub returns-in-Ok-Error : goal.returns-in-Ok-Error
returns-in-Ok-Error c = let a = c.args in
    let z = rw (c.span_of-span-in-Ok-Error.ensures, c.index_of-index.ensures, c.mark_of-mark.ensures) at c.enter-stored-in-Ok-Error.ensures in
    rw (c.in-Ok-Error.is, rw c.in-Ok-Error.is at c.in-Ok-Error.field-0-is, c.stepped-in-Ok-Error.ensures)
    (λ hs b p l e.
    let s = enter_error (tables_in a.tables a.slots.now hs) b p (verdict_said a.late) a.errors a.stanzas a.returned a.size l e (named_said c.in-Ok-Error.named) _ _ z.number z.table in
    record { number = s.number; tables = put_errors a.tables a.slots.now _ hs c.enter-stored-in-Ok-Error.result.table _ refl z.others ∙ s.tables })

pub returns-in-Ok-Ask : goal.returns-in-Ok-Ask
returns-in-Ok-Ask c = let a = c.args in
    rw (c.in-Ok-Ask.is, rw c.in-Ok-Ask.is at c.in-Ok-Ask.field-0-is) (λ hs b p l e. enter_none (tables_in a.tables a.slots.now hs) b p (verdict_said a.late) (two.ask c.in-Ok-Ask.field-0-0) refl refl refl)

pub returns-in-Ok-Done : goal.returns-in-Ok-Done
returns-in-Ok-Done c = let a = c.args in
    rw (c.in-Ok-Done.is, rw c.in-Ok-Done.is at c.in-Ok-Done.field-0-is) (λ hs b p l e. enter_none (tables_in a.tables a.slots.now hs) b p (verdict_said a.late) two.done refl refl refl)

pub returns-in-Ok-Other : goal.returns-in-Ok-Other
returns-in-Ok-Other c = let a = c.args in
    rw (c.in-Ok-Other.is, rw c.in-Ok-Other.is at c.in-Ok-Other.field-0-is) (λ hs b p l e. enter_none (tables_in a.tables a.slots.now hs) b p (verdict_said a.late) two.other refl refl refl)

pub returns-in-Err : goal.returns-in-Err
returns-in-Err c = let a = c.args in
    rw c.in-Err.is (λ hs b p l e. enter_none (tables_in a.tables a.slots.now hs) b p (verdict_said a.late) (two.bad (number_of c.in-Err.field-0)) refl refl refl)
