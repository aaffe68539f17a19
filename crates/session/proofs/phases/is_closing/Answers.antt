-- The tests of the definition: a number of at most 12, and not 2; or 20.
use mathlib.Core.Path.{◌≡◌, refl, sym, ap, ◌∙◌}
use mathlib.Core.Bool.{Bool, true, false, not, ◌||◌}
use lib.Dec.{eqb}
use native.Mathlib.Omega.{arith}
use borrow.Author.Tests.{lt-leb, le-leb, ne_eqb}
use Rattle.refusal.specs.Number.{number_of}
use Rattle.session.proofs.phases.is_closing.Goals as goal

or_false : (b : Bool) → (b || false) ≡ b
or_false true = refl
or_false false = refl

pub returns-then-n-gt12 : goal.returns-then-n-gt12
returns-then-n-gt12 c = rw (lt-leb (number_of c.args.refusal) 12 (omega (arith, c.number-n.ensures))) (ap (λ n. eqb n 20) c.number-n.ensures)

pub returns : goal.returns
returns c = let n = number_of c.args.refusal in
    let e = c.number-n.ensures in
    rw (le-leb n 12 (omega (arith, e)), ne_eqb n 20 (λ q. omega (arith, e))) (ap (λ n. not (eqb n 2)) e ∙ sym (or_false (not (eqb n 2))))
