-- The eight writes, from place 0 on, put the list of the eight symbols that five bytes make.
use lib.Seq.{sets-eq}
use mathlib.Core.List.{[], ◌∷◌}
use Rattle.symbols.proofs.Laws.Groups.{symbols_five}
use Rattle.symbols.proofs.regroup.symbols_group.Goals as goal

pub returns : goal.returns
returns c = rw (symbols_five c.args.payload.now c.told-payload) (sets-eq (_ ∷ _ ∷ _ ∷ _ ∷ _ ∷ _ ∷ _ ∷ _ ∷ []) c.args.out.now 0 c.requires)
