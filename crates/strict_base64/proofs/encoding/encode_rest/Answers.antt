-- By the number of bytes: one makes two characters, two make three, with zero for the byte that is missing.
use mathlib.Core.List.{[], ◌∷◌}
use lib.Seq.{sets-eq}
use native.Mathlib.Omega.{arith}
use Rattle.strict_base64.proofs.Laws.Code.{encoded_none, encoded_one, encoded_two}
use Rattle.strict_base64.proofs.encoding.encode_rest.Goals as goal

pub returns-then-n-eq0 : goal.returns-then-n-eq0
returns-then-n-eq0 c = rw (encoded_none c.args.bytes.now c.if-n-eq0.true)

pub returns-then-n-eq1 : goal.returns-then-n-eq1
returns-then-n-eq1 c = rw (encoded_one c.args.bytes.now c.if-n-eq1.true, ← c.character.ensures, ← c.character-then-n-eq1.ensures) (sets-eq (_ ∷ _ ∷ []) c.args.out.now 0 (omega arith))

pub returns : goal.returns
returns c = rw (encoded_two c.args.bytes.now (omega arith), ← c.character.ensures, ← c.character-2.ensures, ← c.character-3.ensures) (sets-eq (_ ∷ _ ∷ _ ∷ []) c.args.out.now 0 (omega arith))
