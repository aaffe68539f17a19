-- The fold says whether no byte is in lower case.
use mathlib.Core.Path.{◌≡◌, ◌∙◌}
use mathlib.Core.Bool.{true, ◌&&◌, not}
use borrow.Author.Rules.{rules}
use borrow.Author.Tests.{tests}
use Rattle.std.specs.List.{fold}
use Rattle.std.proofs.lemmas.Iterator.{YieldsList-from_slice}
use Rattle.std.proofs.lemmas.Iterator.Consumers.{fold_from_yields_List}
use Rattle.symbols.specs.Charset.{is_lower}
use Rattle.bech32.proofs.Laws.Parsing.{all_fold}
use Rattle.bech32.proofs.parsing.no_lower.Goals as goal

pub returns : goal.returns
returns c = let t = c.args.text.now in
    let e : c.fold.result ≡ fold (λ a b. a && not (is_lower b)) true t =
    fold_from_yields_List _ (λ a b. a && not (is_lower b)) true c.fold.result c.fold.ensures.ran (YieldsList-from_slice t cc) (λ a x b q k. search (rules, tests)) in
    e ∙ all_fold (λ b. not (is_lower b)) t
