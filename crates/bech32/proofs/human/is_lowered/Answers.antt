-- Texts of one length are compared byte by byte.
use Prim.Native.Nat.{ℕ}
use mathlib.Core.Path.{◌≡◌, sym, ◌∙◌}
use mathlib.Core.Bool.{Bool}
use mathlib.Core.List.{map}
use lib.Dec.{eqb}
use lib.ListN.{length, length-map}
use borrow.Author.Rules.{rules}
use borrow.Author.Tests.{tests, ne_eqb}
use Rattle.std.specs.List.{list_all, zip}
use Rattle.std.proofs.lemmas.Iterator.{YieldsList-from_slice, YieldsList-from_zip}
use Rattle.std.proofs.lemmas.Iterator.Search.{all_from_yields_List}
use Rattle.refusal.proofs.Laws.Same.{same_length}
use Rattle.symbols.specs.Charset.{lower}
use Rattle.bech32.proofs.Laws.Human.{same_zipped}
use Rattle.bech32.proofs.human.is_lowered.Goals as goal

pub returns-then-text-word : goal.returns-then-text-word
returns-then-text-word c = let t = c.args.text.now in
    let w = c.args.word.now in
    let test : ℕ × ℕ → Bool = λ p. eqb (lower p.0) p.1 in
    let e : c.all.result ≡ list_all test (zip t w) =
    all_from_yields_List test c.all.new.self _ c.all.result c.all.ensures.ran (YieldsList-from_zip (YieldsList-from_slice t cc) (YieldsList-from_slice w cc)) (λ x b q k. search (rules, tests)) in
    e ∙ same_zipped t w c.if-text-word.true

pub returns-else-text-word : goal.returns-else-text-word
returns-else-text-word c = let t = c.args.text.now in
    let w = c.args.word.now in
    ne_eqb (length t) (length w) c.if-text-word.false ∙ sym (same_length (map lower t) w (λ q. c.if-text-word.false (sym (length-map t lower) ∙ q)))
