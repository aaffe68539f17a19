-- A place behind the end, and one within.
use mathlib.Core.Path.{ap, ◌∙◌}
use mathlib.Core.List.{◌++◌}
use lib.ListN.{take}
use Rattle.refusal.specs.Output.{filled}
use Rattle.refusal.proofs.Laws.Lists.{part_rest, put_rest}
use Rattle.intake.proofs.Laws.Keeping.{none_behind}
use Rattle.intake.proofs.keeping.copy_behind.Goals as goal

pub returns-then-out-at : goal.returns-then-out-at
returns-then-out-at c = none_behind c.args.part.now c.args.out.now c.args.at c.if-out-at.true

pub returns : goal.returns
returns c = let o = c.args.out.now in
    let k = c.args.at in
    put_rest k o _ ∙ ap (λ p. take k o ++ p) (c.copy.ensures ∙ ap (λ x. filled c.args.part.now x) (part_rest k o))
