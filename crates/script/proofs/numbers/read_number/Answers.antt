-- `read_number` meets its contract. Invariant: v is what the digits before the index stand for, within the limit.
use Rattle.std.proofs.Common.{◌≡◌, ◌+◌, ◌-◌, ◌*◌, length, drop, get_or, sym, ap, ◌∙◌, arith, rules}
use borrow.Author.Tests.{true-eqb, false-eqb}
use Rattle.script.specs.Number.{number_said}
use Rattle.script.proofs.Laws.Number.{rest_number, number_none, number_some, rest_ends, rest_other, rest_digit, rest_above}
use Rattle.script.proofs.numbers.read_number.Goals as goal

pub returns-then-is_empty : goal.returns-then-is_empty
returns-then-is_empty c = sym (number_none c.args.limit c.args.text.now (true-eqb _ _ c.if-is_empty.ensures))

pub loop-b-init : goal.loop-b-init
loop-b-init c =
    let some = false-eqb (length c.args.text.now) 0 c.if-is_empty.ensures in
    (search rules, number_some c.args.limit c.args.text.now (omega (arith, some)))

pub returns-then-not-is_ascii_digit : goal.returns-then-not-is_ascii_digit
returns-then-not-is_ascii_digit c =
    sym (c.loop-b.invariant.1 ∙ rest_other c.args.limit c.loop-b.v c.args.text.now c.loop-b.b-index c.loop-b-test.true (sym c.is_ascii_digit.ensures.value ∙ c.if-not-is_ascii_digit.true))

pub returns-in_err-tens : goal.returns-in_err-tens
returns-in_err-tens c =
    let text = c.args.text.now in
    let i = c.loop-b.b-index in
    ap number_said c.from_residual.ensures ∙ sym (c.loop-b.invariant.1
    ∙ rest_digit c.args.limit c.loop-b.v text i c.loop-b-test.true (sym c.is_ascii_digit.ensures.value ∙ c.if-not-is_ascii_digit.false)
    ∙ rest_above c.args.limit (c.loop-b.v * 10 + (get_or text i 0 - 48)) (drop (i + 1) text) (omega (arith, c.in_err-tens.ensures)))

pub returns-in_err-v : goal.returns-in_err-v
returns-in_err-v c =
    let text = c.args.text.now in
    let i = c.loop-b.b-index in
    ap number_said c.from_residual-in_err-v.ensures ∙ sym (c.loop-b.invariant.1
    ∙ rest_digit c.args.limit c.loop-b.v text i c.loop-b-test.true (sym c.is_ascii_digit.ensures.value ∙ c.if-not-is_ascii_digit.false)
    ∙ rest_above c.args.limit (c.loop-b.v * 10 + (get_or text i 0 - 48)) (drop (i + 1) text) (omega (arith, c.in_ok-tens.ensures, c.in_err-v.ensures)))

pub returns-then-limit-v : goal.returns-then-limit-v
returns-then-limit-v c =
    let text = c.args.text.now in
    let i = c.loop-b.b-index in
    sym (c.loop-b.invariant.1
    ∙ rest_digit c.args.limit c.loop-b.v text i c.loop-b-test.true (sym c.is_ascii_digit.ensures.value ∙ c.if-not-is_ascii_digit.false)
    ∙ rest_above c.args.limit (c.loop-b.v * 10 + (get_or text i 0 - 48)) (drop (i + 1) text) (omega (arith, c.in_ok-tens.ensures, c.in_ok-v.ensures)))

pub loop-b-preserved : goal.loop-b-preserved
loop-b-preserved c =
    let text = c.args.text.now in
    let i = c.loop-b.b-index in
    let e : c.loop-b.v * 10 + (get_or text i 0 - 48) ≡ c.in_ok-v.v = omega (arith, c.in_ok-tens.ensures, c.in_ok-v.ensures) in (
      omega arith,
      c.loop-b.invariant.1
          ∙ rest_digit c.args.limit c.loop-b.v text i c.loop-b-test.true (sym c.is_ascii_digit.ensures.value ∙ c.if-not-is_ascii_digit.false)
          ∙ ap (λ n. rest_number c.args.limit n (drop (i + 1) text)) e,
    )

pub returns : goal.returns
returns c = sym (c.loop-b.invariant.1 ∙ rest_ends c.args.limit c.loop-b.v c.args.text.now c.loop-b.b-index c.loop-b-test.false c.loop-b.invariant.0)
