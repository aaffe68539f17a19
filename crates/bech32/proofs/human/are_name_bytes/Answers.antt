-- Each byte is tested.
use mathlib.Core.Path.{◌≡◌, ◌∙◌}
use borrow.Author.Rules.{rules}
use borrow.Author.Tests.{tests}
use Rattle.std.specs.List.{list_all}
use Rattle.std.proofs.lemmas.Iterator.{YieldsList-from_slice}
use Rattle.std.proofs.lemmas.Iterator.Search.{all_from_yields_List}
use Rattle.bech32.specs.Text.{is_name_byte}
use Rattle.bech32.proofs.Laws.Human.{all_listed}
use Rattle.bech32.proofs.human.are_name_bytes.Goals as goal

pub returns : goal.returns
returns c = let t = c.args.text.now in
    let e : c.all.result ≡ list_all is_name_byte t =
    all_from_yields_List is_name_byte c.all.new.self _ c.all.result c.all.ensures.ran (YieldsList-from_slice t cc) (λ x b q k. search (rules, tests)) in
    e ∙ all_listed is_name_byte t
