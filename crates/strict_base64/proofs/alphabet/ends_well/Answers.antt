-- By what n leaves modulo 4; the last character's value is what `value` ensures.
use Rattle.strict_base64.specs.Code.{ends_well}
use Rattle.std.proofs.Common.{◌≡◌, ◌%◌, arith}
use Rattle.strict_base64.proofs.alphabet.ends_well.Goals as goal

pub returns-in-0 : goal.returns-in-0
unfolding ends_well
returns-in-0 c = simp c.in-0.is

pub returns-in-2 : goal.returns-in-2
unfolding ends_well
returns-in-2 c = simp (c.in-2.is, c.value.ensures.value)

pub returns-in-3 : goal.returns-in-3
unfolding ends_well
returns-in-3 c = simp (c.in-3.is, c.value-in-3.ensures.value)

pub returns-in_default : goal.returns-in_default
unfolding ends_well
returns-in_default c = let e : c.args.n % 4 ≡ 1 = omega arith in simp e
