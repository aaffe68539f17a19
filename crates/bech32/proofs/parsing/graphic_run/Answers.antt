-- The front that is taken is the run.
use mathlib.Core.Path.{◌≡◌, ◌∙◌}
use lib.ListN.{length}
use borrow.Author.Rules.{rules}
use borrow.Author.Tests.{tests}
use Rattle.std.specs.List.{take_while}
use Rattle.std.proofs.lemmas.Iterator.{YieldsList-from_slice}
use Rattle.std.proofs.lemmas.Iterator.Consumers.{count_from_yields_List}
use Rattle.std.proofs.lemmas.Iterator.Search.{YieldsList-from_take_while}
use Rattle.refusal.specs.Run.{is_graphic}
use Rattle.symbols.proofs.Laws.Maps.{run_taken}
use Rattle.bech32.proofs.parsing.graphic_run.Goals as goal

pub returns : goal.returns
unfolding is_graphic
returns c = let t = c.args.text.now in
    let e : c.count.result ≡ length (take_while is_graphic t) =
    count_from_yields_List c.take_while.result _ c.count.ensures.ran (YieldsList-from_take_while _ is_graphic (YieldsList-from_slice t cc) c.take_while.ensures.closure c.take_while.ensures.done (λ x b q k. search (rules, tests))) in
    e ∙ run_taken is_graphic t
