-- The fold is the state after the symbols.
use mathlib.Core.Path.{◌≡◌, ap, ◌∙◌}
use borrow.Author.Rules.{rules}
use Rattle.std.specs.List.{fold}
use Rattle.symbols.specs.Checksum.{polymod, stepped}
use Rattle.symbols.proofs.Laws.Folds.{polymod_fold}
use Rattle.symbols.proofs.Laws.Maps.{map_id}
use Rattle.symbols.proofs.checksum.fold_symbols.Goals as goal

pub returns : goal.returns
returns c = let l = c.args.symbols.now in
    let e : c.fold.result ≡ fold (λ s b. stepped s b) c.args.from l = search rules in
    e ∙ polymod_fold (λ b. b) l c.args.from ∙ ap (polymod c.args.from) (map_id l)
