-- What a stanza is (document 01, "Stanza text"): "-> ", one or more arguments separated by single spaces, LF, and the body in base64 in lines
-- of 64 characters. The limit of 8,192 bytes is no part of the grammar.
use Rattle.std.specs.Prelude.{ℕ, ◌≡◌, true, List, [], ◌∷◌, ◌++◌}
use Rattle.std.proofs.Math.Pow.{are_bytes}
use Rattle.strict_base64.specs.Lines.{lines_of}
use Rattle.stanza.specs.Arguments.{is_line}

-- "-> ", the arguments and LF
abbrev pub first_line : List ℕ → List ℕ
first_line line = 45 ∷ 62 ∷ 32 ∷ line ++ (10 ∷ [])

-- the text of a stanza with these arguments and this body
abbrev pub stanza_text : List ℕ → List ℕ → List ℕ
stanza_text line body = first_line line ++ lines_of body

-- a text is a stanza: it is the text of some arguments and some body
pub record IsStanza (t : List ℕ) : Type 0 where
  pub line : List ℕ
  pub body : List ℕ
  pub arguments : is_line line ≡ true
  pub bytes : are_bytes body ≡ true
  pub text : stanza_text line body ≡ t
