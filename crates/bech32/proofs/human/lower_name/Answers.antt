-- A text that is too long is no name, and zeros are no letters.
use mathlib.Core.Path.{◌≡◌, sym, ap, ◌∙◌}
use mathlib.Core.Bool.{true, false}
use mathlib.Core.List.{map}
use lib.ListN.{length, length-map}
use native.Mathlib.Omega.{arith}
use Rattle.std.specs.Char.{to_ascii_lowercase}
use Rattle.symbols.specs.Charset.{lower}
use Rattle.bech32.specs.Text.{is_name}
use Rattle.bech32.specs.Calls.{padded, given_name}
use Rattle.bech32.proofs.Laws.Human.{padded_front, lower_padded, given_long, name_some}
use Rattle.bech32.proofs.human.lower_name.Goals as goal

pub returns-in_err-name : goal.returns-in_err-name
returns-in_err-name c = let t = c.args.text.now in
    let l = c.in_err-name.ensures in
    rw c.from_residual.ensures (given_long (map lower t) (omega (arith, length-map t lower)))

pub returns-then-not-is_name : goal.returns-then-not-is_name
returns-then-not-is_name c = let t = c.args.text.now in
    let w = map lower t in
    let e = c.in_ok-name.ensures in
    let p : c.make_ascii_lowercase.new.self ≡ padded w = c.make_ascii_lowercase.ensures.after ∙ ap (map to_ascii_lowercase) e.0 ∙ lower_padded t in
    let v : is_name w ≡ false = ap is_name (sym (padded_front w _ _ p (e.1 ∙ sym (length-map t lower)))) ∙ sym c.is_name.ensures ∙ c.if-not-is_name.true in
    rw v

pub returns : goal.returns
returns c = let t = c.args.text.now in
    let w = map lower t in
    let e = c.in_ok-name.ensures in
    let p : c.make_ascii_lowercase.new.self ≡ padded w = c.make_ascii_lowercase.ensures.after ∙ ap (map to_ascii_lowercase) e.0 ∙ lower_padded t in
    let q : c.in_ok-name.name.length ≡ length w = e.1 ∙ sym (length-map t lower) in
    let v : is_name w ≡ true = ap is_name (sym (padded_front w _ _ p q)) ∙ sym c.is_name.ensures ∙ c.if-not-is_name.false in
    let z : given_name w ≡ w = rw v in
    ((p ∙ ap padded (sym z), q ∙ ap length (sym z)), λ n. name_some w v (sym (ap length z) ∙ n))
