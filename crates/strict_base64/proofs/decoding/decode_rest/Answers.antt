-- By the number of characters: fewer than two make no byte, two make one, three make two.
use mathlib.Core.List.{[], ◌∷◌}
use lib.Seq.{sets-eq}
use native.Mathlib.Omega.{arith}
use Rattle.strict_base64.proofs.Laws.Code.{decoded_none, decoded_two, decoded_three}
use Rattle.strict_base64.proofs.decoding.decode_rest.Goals as goal

pub returns-then-n-lt2 : goal.returns-then-n-lt2
returns-then-n-lt2 c = rw (decoded_none c.args.text.now c.if-n-lt2.true)

pub returns-then-n-eq3 : goal.returns-then-n-eq3
returns-then-n-eq3 c = rw (decoded_three c.args.text.now (omega arith), ← c.value-a.ensures.value, ← c.value-b.ensures.value, ← c.value-c.ensures.value) (sets-eq (_ ∷ _ ∷ []) c.args.out.now 0 (omega arith))

pub returns-else-n-eq3 : goal.returns-else-n-eq3
returns-else-n-eq3 c = rw (decoded_two c.args.text.now (omega arith), ← c.value-a.ensures.value, ← c.value-b.ensures.value) (sets-eq (_ ∷ []) c.args.out.now 0 (omega arith))
