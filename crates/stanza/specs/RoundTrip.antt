-- "What is written reads back, and what is read would be written so again" (demand 2), of stanza text.
use Rattle.std.specs.Prelude.{ℕ, ◌+◌, ◌≡◌, true, List, length, take, drop}
use Rattle.std.proofs.Math.Pow.{are_bytes}
use Rattle.strict_base64.specs.Lines.{body_of}
use Rattle.stanza.specs.Grammar.{stanza_text}
use Rattle.stanza.specs.Reading.{read_first, stanza}
use Rattle.stanza.specs.Writing.{is_writable}

-- a text reads as a stanza of these arguments and this body: all of its bytes are taken, and its parts are the arguments and the body
pub record ReadBack (line body t : List ℕ) : Type 0 where
  pub answer : read_first t ≡ stanza (length line + 3) (length body) (length (stanza_text line body))
  pub arguments : drop 3 (take (length line + 3) t) ≡ line
  pub decoded : body_of (drop (length line + 3 + 1) (take (length (stanza_text line body)) t)) ≡ body

-- the parts of what was read, with the first line's LF at e, n bytes of body and k bytes taken: they can be written, and their text is what was read, byte for byte
pub record Again (t : List ℕ) (e n k : ℕ) : Type 0 where
  pub writable : is_writable (drop 3 (take e t)) (body_of (drop (e + 1) (take k t))) ≡ true
  pub bytes : are_bytes (body_of (drop (e + 1) (take k t))) ≡ true
  pub body : length (body_of (drop (e + 1) (take k t))) ≡ n
  pub text : stanza_text (drop 3 (take e t)) (body_of (drop (e + 1) (take k t))) ≡ take k t
