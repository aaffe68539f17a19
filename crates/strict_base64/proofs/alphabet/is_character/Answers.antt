-- The test is the definition, with the digits first.
use Rattle.std.proofs.Common.{◌≡◌, refl}
use mathlib.Core.Bool.{Bool, true, false, ◌||◌}
use lib.Dec.{leb, eqb}
use mathlib.Core.Bool.{◌&&◌}
use Rattle.strict_base64.specs.Alphabet.{is_character}
use Rattle.strict_base64.proofs.alphabet.is_character.Goals as goal

order : (d u l p s : Bool) → (((d || u) || l) || p || s) ≡ (u || l || d || p || s)
order true true l p s = refl
order true false true p s = refl
order true false false p s = refl
order false true l p s = refl
order false false true p s = refl
order false false false p s = refl

pub returns : goal.returns
unfolding is_character
returns c = let b = c.args.b in
    rw c.is_ascii_alphanumeric.ensures.value (order (leb 48 b && leb b 57) (leb 65 b && leb b 90) (leb 97 b && leb b 122) (eqb b 43) (eqb b 47))
