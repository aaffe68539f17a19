-- `put` meets its contract: what each branch stores is what prints the byte.
use Rattle.std.proofs.Common.{ℕ, ◌≡◌, ◌/◌, ◌%◌, ◌∷◌, [], Bool, false, None, length, refl, sym, ap, ◌∙◌, arith}
use Rattle.refusal.specs.Run.{is_graphic}
use Rattle.script.specs.Escape.{printed, hex_digit, letter_of, some_letter}
use Rattle.script.proofs.Laws.Escape.{letter_some, letter_none, printed_self, printed_hex, copied}
use Rattle.script.proofs.escaping.put.Goals as goal

-- what prints a byte by its hex digits
by_hex : (b x y : ℕ) {r : Bool} → None ≡ some_letter (letter_of b) → r ≡ is_graphic b → r ≡ false → x ≡ hex_digit (b / 16) → y ≡ hex_digit (b % 16) → printed b ≡ 92 ∷ 120 ∷ x ∷ y ∷ []
by_hex b x y e g h p q = rw (p, q) (printed_hex b (letter_none b e) (sym g ∙ h))

pub slice_bounds-copy_from_slice-end : goal.slice_bounds-copy_from_slice-end
slice_bounds-copy_from_slice-end c =
    let e = letter_some c.args.b c.in-Some.letter c.in-Some.ensures in
    omega (arith, ap length e)

pub returns-in-Some-clause-next : goal.returns-in-Some-clause-next
returns-in-Some-clause-next c = rw (letter_some c.args.b c.in-Some.letter c.in-Some.ensures)

pub returns-in-Some-clause-buffer : goal.returns-in-Some-clause-buffer
returns-in-Some-clause-buffer c =
    let e = letter_some c.args.b c.in-Some.letter c.in-Some.ensures in
    rw (c.copy_from_slice.ensures.after, e) (copied c.args.out.now (92 ∷ c.in-Some.letter ∷ []) c.args.at 2 refl (omega (arith, ap length e)))

pub bounds-out-at : goal.bounds-out-at
bounds-out-at c =
    let e = printed_self c.args.b (letter_none c.args.b c.in_default.ensures) (sym c.is_graphic.ensures ∙ c.if-is_graphic.true) in
    omega (arith, ap length e)

pub returns-then-is_graphic-clause-next : goal.returns-then-is_graphic-clause-next
returns-then-is_graphic-clause-next c = rw (printed_self c.args.b (letter_none c.args.b c.in_default.ensures) (sym c.is_graphic.ensures ∙ c.if-is_graphic.true))

pub returns-then-is_graphic-clause-buffer : goal.returns-then-is_graphic-clause-buffer
returns-then-is_graphic-clause-buffer c = rw (printed_self c.args.b (letter_none c.args.b c.in_default.ensures) (sym c.is_graphic.ensures ∙ c.if-is_graphic.true))

pub slice_bounds-copy_from_slice-end-2 : goal.slice_bounds-copy_from_slice-end-2
slice_bounds-copy_from_slice-end-2 c =
    let e = by_hex c.args.b _ _ c.in_default.ensures c.is_graphic.ensures c.if-is_graphic.false refl refl in
    omega (arith, ap length e)

pub returns-clause-next : goal.returns-clause-next
returns-clause-next c = rw (by_hex c.args.b _ _ c.in_default.ensures c.is_graphic.ensures c.if-is_graphic.false refl refl)

pub returns-clause-buffer : goal.returns-clause-buffer
returns-clause-buffer c =
    let e = by_hex c.args.b c.hex_digit.result c.hex_digit-2.result c.in_default.ensures c.is_graphic.ensures c.if-is_graphic.false c.hex_digit.ensures c.hex_digit-2.ensures in
    rw (c.copy_from_slice-2.ensures.after, e) (copied c.args.out.now (92 ∷ 120 ∷ c.hex_digit.result ∷ c.hex_digit-2.result ∷ []) c.args.at 4 refl (omega (arith, ap length e)))
