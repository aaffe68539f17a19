-- Both folds are states after symbols, and the state after high bits, a zero and low bits is the three one behind the other.
use Prim.Native.Nat.{◌/◌, ◌%◌}
use mathlib.Core.Path.{◌≡◌, sym}
use mathlib.Core.List.{◌∷◌, map}
use borrow.Author.Rules.{rules}
use Rattle.std.specs.List.{fold}
use Rattle.symbols.specs.Checksum.{polymod, stepped}
use Rattle.symbols.specs.Charset.{lower}
use Rattle.symbols.proofs.Laws.Checksum.{polymod_append}
use Rattle.symbols.proofs.Laws.Folds.{polymod_fold, low_bits}
use Rattle.symbols.proofs.Laws.Maps.{map_map}
use Rattle.symbols.proofs.checksum.fold_human.Goals as goal

pub returns : goal.returns
unfolding polymod
returns c = let l = c.args.human.now in
    let h = map lower l in
    let high : c.fold-high.result ≡ fold (λ s b. stepped s (lower b / 32)) 1 l = search rules in
    let low : c.fold.result ≡ fold (λ s b. stepped s (b % 32)) c.step.result l = search rules in
    rw (low, polymod_fold (λ b. b % 32) l c.step.result, c.step.ensures, high, polymod_fold (λ b. lower b / 32) l 1, ← map_map (λ b. b / 32) lower l, ← low_bits l)
    (sym (polymod_append (map (λ b. b / 32) h) (0 ∷ map (λ b. b % 32) h) 1))
