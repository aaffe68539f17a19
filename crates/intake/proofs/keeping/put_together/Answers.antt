-- Two copies, the second behind the first.
use mathlib.Core.Path.{sym}
use lib.Seq.{length-take-le}
use native.Mathlib.Omega.{arith}
use Rattle.intake.proofs.Laws.Keeping.{put_together_is}
use Rattle.intake.proofs.keeping.put_together.Goals as goal

pub returns-then-input-kept : goal.returns-then-input-kept
returns-then-input-kept c = λ l h. absurd (omega arith)

pub returns-then-store-kept : goal.returns-then-store-kept
returns-then-store-kept c = λ l h. absurd (omega arith)

pub slice_bounds-copy-end : goal.slice_bounds-copy-end
slice_bounds-copy-end c = let a = c.args in sym (length-take-le a.kept a.input.now (omega arith))

pub returns : goal.returns
returns c = λ l h. let a = c.args in put_together_is a.input.now a.rest.now a.store.now _ _ a.kept l h c.copy.ensures c.copy-2.ensures
