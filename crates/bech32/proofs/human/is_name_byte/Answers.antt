-- By the ranges: each is one of the definition's.
use native.Mathlib.Omega.{arith}
use Rattle.std.proofs.lemmas.Bool.Decides.{nat_tests}
use Rattle.symbols.specs.Charset.{is_lower}
use Rattle.bech32.specs.Text.{is_name_byte}
use Rattle.bech32.proofs.human.is_name_byte.Goals as goal

pub returns-in_default : goal.returns-in_default
unfolding is_name_byte is_lower
returns-in_default c = grind (arith, nat_tests)

pub returns-in_default-2 : goal.returns-in_default-2
unfolding is_name_byte is_lower
returns-in_default-2 c = grind (arith, nat_tests)

pub returns-in_default-3 : goal.returns-in_default-3
unfolding is_name_byte is_lower
returns-in_default-3 c = grind (arith, nat_tests)

pub returns-in_default-4 : goal.returns-in_default-4
unfolding is_name_byte is_lower
returns-in_default-4 c = grind (arith, nat_tests)

pub returns-in-97-to-122 : goal.returns-in-97-to-122
unfolding is_name_byte is_lower
returns-in-97-to-122 c = grind (arith, nat_tests)

pub returns-in-97-to-122-2 : goal.returns-in-97-to-122-2
unfolding is_name_byte is_lower
returns-in-97-to-122-2 c = grind (arith, nat_tests)

pub returns-in-97-to-122-3 : goal.returns-in-97-to-122-3
unfolding is_name_byte is_lower
returns-in-97-to-122-3 c = grind (arith, nat_tests)

pub returns-in-97-to-122-4 : goal.returns-in-97-to-122-4
unfolding is_name_byte is_lower
returns-in-97-to-122-4 c = grind (arith, nat_tests)
