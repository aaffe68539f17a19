-- A turn reads one digit: the tests are the definition's.
use Prim.Native.Nat.{◌+◌, ◌-◌, ◌*◌}
use mathlib.Core.Path.{◌≡◌, sym, ◌∙◌}
use mathlib.Core.Bool.{true, false}
use lib.ListN.{get_or}
use native.Mathlib.Omega.{arith}
use borrow.Author.Tests.{le-leb, lt-leb}
use Rattle.stanza.specs.Index.{is_digit}
use Rattle.stanza.proofs.Laws.Index.{digits_none, digits_one}
use Rattle.stanza.proofs.indices.read_digits.Goals as goal

pub returns-then-not-is_ascii_digit : goal.returns-then-not-is_ascii_digit
returns-then-not-is_ascii_digit c = let text = c.args.text.now in
    let i = c.loop-b.b-index in
    let d : is_digit (get_or text i 0) ≡ false = sym c.is_ascii_digit.ensures.value ∙ c.if-not-is_ascii_digit.true in
    sym (c.loop-b.invariant.1 ∙ digits_one text c.loop-b.v i (omega arith) ∙ rw d)

pub returns-then-v-gt-LARGEST : goal.returns-then-v-gt-LARGEST
returns-then-v-gt-LARGEST c = let text = c.args.text.now in
    let v = c.loop-b.v in
    let i = c.loop-b.b-index in
    let d : is_digit (get_or text i 0) ≡ true = sym c.is_ascii_digit.ensures.value ∙ c.if-not-is_ascii_digit.false in
    sym (c.loop-b.invariant.1 ∙ digits_one text v i (omega arith) ∙ rw (d, lt-leb (v * 10 + (get_or text i 0 - 48)) 4294967295 (omega arith)))

pub loop-b-preserved : goal.loop-b-preserved
loop-b-preserved c = let text = c.args.text.now in
    let v = c.loop-b.v in
    let i = c.loop-b.b-index in
    let d : is_digit (get_or text i 0) ≡ true = sym c.is_ascii_digit.ensures.value ∙ c.if-not-is_ascii_digit.false in
    (omega arith, c.loop-b.invariant.1 ∙ digits_one text v i (omega arith) ∙ rw (d, le-leb (v * 10 + (get_or text i 0 - 48)) 4294967295 (omega arith), c.from.ensures))

pub returns : goal.returns
returns c = sym (c.loop-b.invariant.1 ∙ digits_none c.args.text.now c.loop-b.v c.loop-b.b-index c.loop-b-test.false)
