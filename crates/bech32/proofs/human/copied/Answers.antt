-- The bytes are put over the front of zeros.
use mathlib.Core.Path.{refl, ap}
use mathlib.Core.List.{◌++◌}
use lib.ListN.{length, drop, replicate}
use Rattle.bech32.proofs.Laws.Human.{over_zeros}
use Rattle.bech32.proofs.human.copied.Goals as goal

pub returns : goal.returns
returns c = let t = c.args.text.now in
    (over_zeros t _ (length t) (ap (λ x. x ++ drop (length t) (replicate 32 0)) c.copy_from_slice.ensures.after) refl, refl)
