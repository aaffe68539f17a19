-- Eight bytes of the class take the run on by eight, and behind the last such eight it ends at the first byte outside the class.
use Rattle.std.proofs.Common.{◌≡◌, ◌∙◌, ◌+◌, ◌-◌, sym, arith}
use Rattle.refusal.proofs.Laws.Run.{run_more, run_end, run_in, run_out}
use Rattle.strict_base64.proofs.runs.run_end.Goals as goal

pub loop-end-preserved : goal.loop-end-preserved
loop-end-preserved g c =
    let i = c.loop-end.end in
    let n : i + 8 - i ≡ 8 = omega arith in (
      omega arith,
      omega arith,
      λ class h.
          c.loop-end.invariant.2 class h ∙ run_more class 8 c.args.text.now i (omega arith) (rw n at (sym (c.are_all.ensures class h)) ∙ c.if-are_all.true),
    )

pub returns-then-not-is_in : goal.returns-then-not-is_in
returns-then-not-is_in g c = λ class h.
    let e = h _ _ (omega (arith, c.type_inv.text c.loop-i.i)) c.is_in.ensures in
    sym (c.loop-i.invariant.1 class h ∙ run_out class c.args.text.now c.loop-i.i c.loop-i-test.true (sym e ∙ c.if-not-is_in.true))

pub loop-i-preserved : goal.loop-i-preserved
loop-i-preserved g c = (
  omega arith,
  λ class h.
      let e = h _ _ (omega (arith, c.type_inv.text c.loop-i.i)) c.is_in.ensures in
      c.loop-i.invariant.1 class h ∙ run_in class c.args.text.now c.loop-i.i c.loop-i-test.true (sym e ∙ c.if-not-is_in.false),
)

pub returns : goal.returns
returns g c = λ class h.
    sym (c.loop-i.invariant.1 class h ∙ run_end class c.args.text.now c.loop-i.i (omega arith) ∙ omega (arith, c.max.ensures, c.loop-i.invariant.0, c.loop-end.invariant.0, c.loop-i.auto.i))
