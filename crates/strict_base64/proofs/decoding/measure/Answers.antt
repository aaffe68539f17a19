-- The text is base64 if the run of characters reaches its end and the last may stand there; an empty text is.
use Prim.Native.Nat.{ℕ}
use mathlib.Core.Path.{◌≡◌, refl}
use mathlib.Core.Bool.{true}
use mathlib.Core.List.{List, [], ◌∷◌}
use lib.ListN.{length}
use native.Mathlib.Omega.{arith}
use Rattle.strict_base64.specs.Alphabet.{is_character}
use Rattle.strict_base64.specs.Code.{is_base64, ends_well}
use Rattle.strict_base64.proofs.Laws.Code.{decoded_none, decoded_length}
use Rattle.refusal.specs.Run.{all}
use Rattle.refusal.proofs.Laws.Run.{run_part, run_whole}
use Rattle.strict_base64.proofs.decoding.measure.Goals as goal

nothing : (t : List ℕ) → length t ≡ 0 → is_base64 t ≡ true
unfolding is_base64 all ends_well
nothing [] h = refl
nothing (a ∷ t) h = absurd (omega arith)

pub returns-then-n-eq0 : goal.returns-then-n-eq0
returns-then-n-eq0 c = rw (nothing c.args.text.now c.if-n-eq0.true, decoded_none c.args.text.now (omega arith))

pub returns-then-characters-n : goal.returns-then-characters-n
unfolding is_base64
returns-then-characters-n c = simp (run_part is_character c.args.text.now (omega (arith, c.characters.ensures)))

pub returns-then-ends_well : goal.returns-then-ends_well
unfolding is_base64
returns-then-ends_well c = simp (run_whole is_character c.args.text.now (omega (arith, c.characters.ensures)), ← c.ends_well.ensures, c.if-ends_well.true, c.decoded_length.ensures, decoded_length c.args.text.now)

pub returns : goal.returns
unfolding is_base64
returns c = simp (run_whole is_character c.args.text.now (omega (arith, c.characters.ensures)), ← c.ends_well.ensures, c.if-ends_well.false)
