-- Where the byte is kept, the stanza goes on with it (`byte_goes_on`); else nothing is done.
use mathlib.Core.Path.{sym, ◌∙◌}
use native.Mathlib.Omega.{arith}
use borrow.Author.Tests.{not-false}
use Rattle.intake.specs.Turns.{turn_said}
use Rattle.intake.proofs.Laws.Fronts.{byte_goes_on}
use Rattle.intake.proofs.keeping.read_one.Goals as goal

pub returns : goal.returns
returns c = let a = c.args in
    let read = c.is_reading in
    let e = c.in-Some.is in
    let w = c.read_within-within.ensures in
    byte_goes_on (turn_said a.turn) a.reading c.in-Some.place a.kept a.chunk.now a.input.now
    (sym read.ensures ∙ not-false read.result c.if-not-is_reading.false-raw) (omega (arith, c.if-chunk-ne1.false)) (omega (arith, c.if-kept-ge-MOST_UNFINISHED.false)) (omega (arith, c.if-input-kept.false))
    (rw e at w)
