-- The symbols are put first and then translated in place, which is allowed as all of them are below 32.
use Prim.Native.Nat.{◌+◌}
use mathlib.Core.Path.{◌≡◌, sym, ap, ap₂, ◌∙◌}
use mathlib.Core.List.{◌++◌, map}
use lib.ListN.{length, take, drop}
use native.Mathlib.Omega.{arith}
use lib.Seq.{length-take-le, take_at, drop_at}
use Rattle.symbols.specs.Charset.{character_of}
use Rattle.symbols.specs.Checksum.{are_symbols}
use Rattle.bech32.specs.Text.{in_case}
use Rattle.bech32.specs.Calls.{form_of}
use Rattle.symbols.specs.Calls.{symbols_size}
use Rattle.bech32.specs.Steps.{with_checksum}
use Rattle.bech32.proofs.Laws.Writing.{are_bytes_lem, with_length, with_symbols}
use Rattle.bech32.proofs.writing.put_characters.Goals as goal

pub slice_bounds-translate-end-2 : goal.slice_bounds-translate-end-2
slice_bounds-translate-end-2 c = let n = c.symbols_length-end.result in
    sym (length-take-le (n + 6) c.put_symbols.new.out (omega (arith, c.symbols_length-end.ensures, c.put_symbols.auto.out, c.requires.payload_in_bounds)))

pub translate-requires : goal.translate-requires
translate-requires c = let p = c.args.payload.now in
    let w = with_checksum c.args.from p in
    let o₀ = c.args.out.now in
    let n = c.symbols_length-end.result in
    let k : length w ≡ n + 6 = with_length c.args.from p ∙ ap (λ m. m + 6) (sym c.symbols_length-end.ensures) in
    let e : take (n + 6) c.put_symbols.new.out ≡ w = ap (take (n + 6)) c.put_symbols.ensures ∙ take_at w (drop (symbols_size (length p) + 6) o₀) (n + 6) k in
    ap are_symbols e ∙ with_symbols c.args.from p (are_bytes_lem p (λ i. (c.type_inv.payload i).fits))

pub returns : goal.returns
returns c = let p = c.args.payload.now in
    let w = with_checksum c.args.from p in
    let o₀ = c.args.out.now in
    let a = c.put_symbols.new.out in
    let n = c.symbols_length-end.result in
    let s = symbols_size (length p) in
    let q : n + 6 ≡ s + 6 = ap (λ m. m + 6) c.symbols_length-end.ensures in
    let k : length w ≡ n + 6 = with_length c.args.from p ∙ sym q in
    let e : take (n + 6) a ≡ w = ap (take (n + 6)) c.put_symbols.ensures ∙ take_at w (drop (s + 6) o₀) (n + 6) k in
    let d : drop (n + 6) a ≡ drop (s + 6) o₀ = ap (drop (n + 6)) c.put_symbols.ensures ∙ drop_at w (drop (s + 6) o₀) (n + 6) k in
    ap₂ (λ x y. x ++ y) (c.translate.ensures ∙ ap (λ l. in_case (form_of c.args.kind) (map character_of l)) e) d
