-- What is written at once.
use Prim.Native.Nat.{ℕ}
use mathlib.Core.Path.{◌≡◌, refl}
use mathlib.Core.List.{List, [], ◌∷◌}
use lib.ListN.{length}
use native.Mathlib.Omega.{arith}
use borrow.Author.Tests.{le-ltb}
use Rattle.refusal.specs.Output.{filled}
use Rattle.strict_base64.specs.Code.{encoded}
use Rattle.strict_base64.specs.Lines.{wrapped}
use Rattle.responses.specs.declared.Response.{Response}
use Rattle.responses.specs.declared.Response.TheVariants.{Ok, Yes, No, Fail, Unsupported}
use Rattle.conversation.specs.ReceivingTwo.{text_of, writes}

-- the responses with no body, byte by byte
abbrev pub bare_text : Response → List ℕ
bare_text Ok = 45 ∷ 62 ∷ 32 ∷ 111 ∷ 107 ∷ 10 ∷ 10 ∷ []
bare_text Yes = 45 ∷ 62 ∷ 32 ∷ 111 ∷ 107 ∷ 32 ∷ 121 ∷ 101 ∷ 115 ∷ 10 ∷ 10 ∷ []
bare_text No = 45 ∷ 62 ∷ 32 ∷ 111 ∷ 107 ∷ 32 ∷ 110 ∷ 111 ∷ 10 ∷ 10 ∷ []
bare_text Fail = 45 ∷ 62 ∷ 32 ∷ 102 ∷ 97 ∷ 105 ∷ 108 ∷ 10 ∷ 10 ∷ []
bare_text Unsupported = 45 ∷ 62 ∷ 32 ∷ 117 ∷ 110 ∷ 115 ∷ 117 ∷ 112 ∷ 112 ∷ 111 ∷ 114 ∷ 116 ∷ 101 ∷ 100 ∷ 10 ∷ 10 ∷ []

pub bare_text_lem : (r : Response) → bare_text r ≡ text_of (writes r)
unfolding wrapped encoded
bare_text_lem Ok = refl
bare_text_lem Yes = refl
bare_text_lem No = refl
bare_text_lem Fail = refl
bare_text_lem Unsupported = refl

-- nothing written
pub silent_is : (out : List ℕ) → out ≡ filled [] out
silent_is out = rw (le-ltb (length out) 0 (omega arith)) refl
