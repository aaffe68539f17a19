-- By the length, and byte by byte.
use mathlib.Core.Path.{sym, ◌∙◌}
use native.Mathlib.Omega.{arith}
use lib.ListN.{length}
use borrow.Author.Tests.{le-leb, eqb-false}
use Rattle.std.proofs.lemmas.Bool.Decides.{nat_tests}
use Rattle.bech32.specs.Text.{is_name}
use Rattle.bech32.proofs.human.is_name.Goals as goal

pub returns-then-is_empty : goal.returns-then-is_empty
unfolding is_name
returns-then-is_empty c = grind (arith, nat_tests)

pub returns : goal.returns
unfolding is_name
returns c = let t = c.args.text.now in
    let n = eqb-false (length t) 0 (sym c.is_empty.ensures ∙ c.if-is_empty.false) in
    rw (le-leb 1 (length t) (omega arith), le-leb (length t) 32 c.if-text-gt-LONGEST_NAME.false) c.are_name_bytes.ensures
