-- The front that is taken is the run.
use mathlib.Core.Path.{◌≡◌, sym, ◌∙◌}
use lib.Dec.{ltb}
use lib.ListN.{length}
use borrow.Author.Rules.{rules}
use borrow.Author.Tests.{tests}
use Rattle.std.specs.List.{take_while}
use Rattle.std.proofs.lemmas.Iterator.{YieldsList-from_slice}
use Rattle.std.proofs.lemmas.Iterator.Consumers.{count_from_yields_List}
use Rattle.std.proofs.lemmas.Iterator.Search.{YieldsList-from_take_while}
use Rattle.symbols.specs.Steps.{value_in}
use Rattle.symbols.proofs.Laws.Maps.{run_map, run_taken}
use Rattle.symbols.proofs.charset.character_run.Goals as goal

pub returns : goal.returns
returns c = let t = c.args.text.now in
    let f = value_in c.args.table.now in
    let e : c.count.result ≡ length (take_while (λ b. ltb (f b) 32) t) =
    count_from_yields_List c.take_while.result _ c.count.ensures.ran (YieldsList-from_take_while _ (λ b. ltb (f b) 32) (YieldsList-from_slice t cc) c.take_while.ensures.closure c.take_while.ensures.done (λ x b q k. search (rules, tests))) in
    e ∙ run_taken (λ b. ltb (f b) 32) t ∙ sym (run_map f (λ v. ltb v 32) t)
