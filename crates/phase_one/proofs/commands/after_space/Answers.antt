-- What stands behind the first space, by its position.
use Rattle.std.proofs.Common.{◌+◌, ◌∙◌, sym, rules, tests}
use Rattle.std.proofs.lemmas.Iterator.{YieldsList-from_slice}
use Rattle.std.proofs.lemmas.Iterator.Search.{position_from_yields_List}
use Rattle.refusal.proofs.Laws.Lists.{part_rest}
use Rattle.phase_one.proofs.Laws.Commands.{is_space, space_found, space_missing}
use Rattle.phase_one.proofs.commands.after_space.Goals as goal

pub returns-in-Some : goal.returns-in-Some
returns-in-Some c =
    let t = c.args.text.now in
    let e = position_from_yields_List is_space c.position.new.self _ c.position.result c.position.ensures.ran (YieldsList-from_slice t cc) (λ x b q k. search (rules, tests)) in
    part_rest (c.in-Some.i + 1) t ∙ space_found t c.in-Some.i (sym c.in-Some.is ∙ e)

pub returns-in-None : goal.returns-in-None
returns-in-None c =
    let t = c.args.text.now in
    let e = position_from_yields_List is_space c.position.new.self _ c.position.result c.position.ensures.ran (YieldsList-from_slice t cc) (λ x b q k. search (rules, tests)) in
    space_missing t (sym c.in-None.is ∙ e)
