-- The five bytes, one store each.
use lib.Seq.{sets-eq}
use mathlib.Core.List.{[], ◌∷◌}
use Rattle.symbols.specs.Steps.{symbol_in}
use Rattle.symbols.proofs.Laws.Groups.{bytes_eight}
use Rattle.symbols.proofs.regroup.decode_group.Goals as goal

pub returns : goal.returns
returns c = rw (bytes_eight (symbol_in c.args.table.now) c.args.text.now c.told-text, ← c.symbol-p.ensures.value, ← c.symbol-q.ensures.value, ← c.symbol-r.ensures.value, ← c.symbol-s.ensures.value, ← c.symbol-t.ensures.value, ← c.symbol-u.ensures.value, ← c.symbol-v.ensures.value, ← c.symbol-w.ensures.value) (sets-eq (_ ∷ _ ∷ _ ∷ _ ∷ _ ∷ []) c.args.out.now 0 c.requires)
