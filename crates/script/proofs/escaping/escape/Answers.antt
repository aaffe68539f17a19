-- `escape` meets its contract: the empty string apart, by what was measured.
use borrow.Author.Tests.{lt-ltb, le-ltb, true-eqb, false-eqb}
use Rattle.std.proofs.Common.{refl, sym, ap, ◌∙◌, length, arith}
use Rattle.script.specs.Escape.{spelled}
use Rattle.script.proofs.Laws.Escape.{escaped_none, escaped_some, sized_refused, sized_bytes}
use Rattle.refusal.specs.Output.{said}
use Rattle.refusal.specs.Number.{number_of}
use Rattle.script.proofs.escaping.escape.Goals as goal

pub returns-then-out-lt2 : goal.returns-then-out-lt2
returns-then-out-lt2 c =
    let none = escaped_none c.args.bytes.now (true-eqb _ _ c.if-is_empty.ensures) in
    let short = lt-ltb (length c.args.out.now) 2 c.if-out-lt2.true in
    record { answer = rw (none, short) refl; buffer = rw (none, short) refl }

pub returns-then-is_empty : goal.returns-then-is_empty
returns-then-is_empty c =
    let none = escaped_none c.args.bytes.now (true-eqb _ _ c.if-is_empty.ensures) in
    let long = le-ltb (length c.args.out.now) 2 c.if-out-lt2.false in
    record { answer = rw (none, long) refl; buffer = rw (none, long, c.copy_from_slice.ensures.after) refl }

pub returns-in-Err : goal.returns-in-Err
returns-in-Err c =
    let bytes = c.args.bytes.now in
    let out = length c.args.out.now in
    let none = false-eqb (length bytes) 0 c.if-is_empty.ensures in
    let some = escaped_some bytes (omega (arith, none)) in
    let short = sized_refused (length (spelled bytes)) out (number_of c.in-Err.field-0) (sym (ap said c.in-Err.is) ∙ c.spelled_length-w.ensures) in
    record { answer = rw some c.spelled_length-w.ensures; buffer = rw (some, short) }

pub returns-in-Ok : goal.returns-in-Ok
returns-in-Ok c =
    let bytes = c.args.bytes.now in
    let out = length c.args.out.now in
    let none = false-eqb (length bytes) 0 c.if-is_empty.ensures in
    let some = escaped_some bytes (omega (arith, none)) in
    let long = sized_bytes (length (spelled bytes)) out c.in-Ok.field-0 (sym (ap said c.in-Ok.is) ∙ c.spelled_length-w.ensures) in
    record { answer = rw some c.spelled_length-w.ensures; buffer = rw (some, long) c.spell.ensures }
