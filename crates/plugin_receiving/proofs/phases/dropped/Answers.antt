-- By whether bytes are kept.
use Prim.Native.Nat.{◌+◌}
use mathlib.Core.Path.{◌≡◌, sym, ap, ◌∙◌}
use lib.Dec.{eqb}
use native.Mathlib.Omega.{arith}
use borrow.Author.Tests.{ne_eqb}
use Rattle.refusal.specs.Pick.{pick}
use Rattle.plugin_receiving.proofs.phases.dropped.Goals as goal

pub returns-then-kept-eq0 : goal.returns-then-kept-eq0
returns-then-kept-eq0 c = let a = c.args in
    let z : a.kept + a.came ≡ a.came = omega (arith, c.if-kept-eq0.true) in
    c.none_behind.ensures ∙ ap (λ n. pick (eqb n 0) 0 14) (sym z)

pub returns : goal.returns
returns c = let a = c.args in
    sym (ap (λ f. pick f 0 14) (ne_eqb (a.kept + a.came) 0 (λ h. c.if-kept-eq0.false (omega (arith, h)))))
