-- One byte more is what the test returns of it.
use Rattle.std.proofs.Common.{refl, arith}
use native.Mathlib.Nat.{zero-add}
use Rattle.refusal.specs.Run.{all}
use Rattle.refusal.proofs.Laws.Run.{all_more}
use Rattle.strict_base64.proofs.runs.are_all.Goals as goal

pub loop-b-init : goal.loop-b-init
unfolding all
loop-b-init g c = λ class h. refl

pub loop-b-preserved : goal.loop-b-preserved
loop-b-preserved g c = λ class h. let f = c.type_inv.text c.loop-b.b-index in
    all_more class c.args.text.now 0 c.loop-b.b-index (omega arith) (c.loop-b.invariant class h) (rw zero-add (h _ _ (omega (arith, f)) c.is_in-good.ensures))
