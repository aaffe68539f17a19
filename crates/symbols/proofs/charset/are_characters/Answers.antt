-- All are characters where the run of them is the whole text.
use mathlib.Core.Path.{sym, ◌∙◌}
use mathlib.Core.List.{map}
use lib.Dec.{eqb, ltb}
use lib.ListN.{length, length-map}
use native.Mathlib.Omega.{arith}
use borrow.Author.Tests.{eqb-true, eqb-false}
use Rattle.refusal.proofs.Laws.Booleans.{cases}
use Rattle.refusal.proofs.Laws.Run.{run_le, run_whole, run_part}
use Rattle.symbols.specs.Steps.{value_in}
use Rattle.symbols.proofs.charset.are_characters.Goals as goal

pub returns : goal.returns
returns c = let f = value_in c.args.table.now in
    let t = c.args.text.now in
    let l = map f t in
    let n = length-map t f in
    let r = c.character_run.result in
    cases (eqb r (length t))
    (λ e. e ∙ sym (run_whole (λ v. ltb v 32) l (omega (arith, n, eqb-true r (length t) e, c.character_run.ensures))))
    (λ e. e ∙ sym (run_part (λ v. ltb v 32) l (omega (arith, n, eqb-false r (length t) e, c.character_run.ensures, run_le (λ v. ltb v 32) l))))
