-- By name, length and buffer: a payload of more than 1,024 bytes makes a text that is too long.
use Prim.Native.Nat.{◌+◌}
use mathlib.Core.Path.{◌≡◌, sym, ap₂, ◌∙◌}
use lib.ListN.{length}
use native.Mathlib.Omega.{arith}
use borrow.Author.Tests.{not-false}
use Rattle.bech32.specs.Text.{text_of}
use Rattle.bech32.specs.Calls.{form_of}
use Rattle.bech32.proofs.Laws.Writing.{name_short, human_size, text_length, writes_not, writes_short, writes, writable, too_long}
use Rattle.bech32.proofs.writing.write.Goals as goal

pub returns-then-payload-gt-LONGEST : goal.returns-then-payload-gt-LONGEST
returns-then-payload-gt-LONGEST c = let whole = let k = form_of c.args.kind in
    let name = c.args.name.now in
    let payload = c.args.payload.now in
    let o = c.args.out.now in
    writes_not k name payload o (too_long k name payload o (omega (arith, text_length k name payload))) in
    record { answer = whole.0; buffer = whole.1 }

pub human_length-requires : goal.human_length-requires
human_length-requires c = name_short c.args.name.now (sym c.is_name.ensures ∙ not-false c.is_name.result c.if-not-is_name.false-raw)

pub returns-then-n-gt-LONGEST : goal.returns-then-n-gt-LONGEST
returns-then-n-gt-LONGEST c = let whole = let k = form_of c.args.kind in
    let name = c.args.name.now in
    let payload = c.args.payload.now in
    let o = c.args.out.now in
    let n : length (text_of k name payload) ≡ c.human_length.result + c.symbols_length.result + 7 =
    text_length k name payload ∙ ap₂ (λ x y. x + y + 7) (human_size k name ∙ sym c.human_length.ensures) (sym c.symbols_length.ensures) in
    writes_not k name payload o (too_long k name payload o (omega arith)) in
    record { answer = whole.0; buffer = whole.1 }

pub returns-then-out-n : goal.returns-then-out-n
returns-then-out-n c = let whole = let k = form_of c.args.kind in
    let name = c.args.name.now in
    let payload = c.args.payload.now in
    let o = c.args.out.now in
    let n : length (text_of k name payload) ≡ c.human_length.result + c.symbols_length.result + 7 =
    text_length k name payload ∙ ap₂ (λ x y. x + y + 7) (human_size k name ∙ sym c.human_length.ensures) (sym c.symbols_length.ensures) in
    writes_short k name payload o (writable k name payload o (sym c.is_name.ensures ∙ not-false c.is_name.result c.if-not-is_name.false-raw) (omega arith)) (omega arith) in
    record { answer = whole.0; buffer = whole.1 }

pub returns : goal.returns
returns c = let whole = let k = form_of c.args.kind in
    let name = c.args.name.now in
    let payload = c.args.payload.now in
    let o = c.args.out.now in
    let n : length (text_of k name payload) ≡ c.human_length.result + c.symbols_length.result + 7 =
    text_length k name payload ∙ ap₂ (λ x y. x + y + 7) (human_size k name ∙ sym c.human_length.ensures) (sym c.symbols_length.ensures) in
    writes k name payload o _ _ (writable k name payload o (sym c.is_name.ensures ∙ not-false c.is_name.result c.if-not-is_name.false-raw) (omega arith)) (omega arith) n c.write_into.ensures in
    record { answer = whole.0; buffer = whole.1 }
