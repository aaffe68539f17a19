-- Both directions (document 01, "Stanza text"): what is encoded decodes to the same bytes, a text that is base64 is the encoding of what it
-- decodes to, and so the texts that are base64 are exactly the encodings of bytes.
use Prim.Native.Nat.{ℕ, suc, ◌+◌, ◌-◌, ◌*◌, ◌/◌, ◌%◌}
use mathlib.Core.Path.{◌≡◌, refl, sym, ap, ◌∙◌}
use mathlib.Core.Bool.{true, false≢true}
use mathlib.Core.Logic.{◌↔◌}
use mathlib.Core.List.{List, [], ◌∷◌}
use lib.ListN.{length}
use lib.Pow.{are_bytes}
use native.Mathlib.Omega.{arith}
use borrow.Author.Tests.{lt-ltb, eqb-true}
use Rattle.refusal.specs.Run.{all}
use Rattle.refusal.proofs.Laws.Bytes.{byte}
use Rattle.refusal.proofs.Laws.Booleans.{and_true, true_and}
use Rattle.strict_base64.specs.Alphabet.{is_character, value_of, character_of}
use Rattle.strict_base64.specs.Code.{encoded, decoded, ends_well, is_base64, last}
use Rattle.strict_base64.specs.Lines.{lines_of, body_of}
use Rattle.strict_base64.proofs.Laws.Alphabet.{value_lt, value_character, character_is, character_value}
use Rattle.strict_base64.proofs.Laws.Lines.{unwrapped_wrapped}

-- what is encoded decodes to the same bytes
pub decoded_encoded : (t : List ℕ) → are_bytes t ≡ true → decoded (encoded t) ≡ t
unfolding decoded encoded
decoded_encoded [] h = refl
decoded_encoded (a ∷ []) h =
    let ha = byte a [] h in
    let e : a / 4 * 4 + a % 4 * 16 / 16 ≡ a = omega arith in
    rw (value_character (a / 4) (omega arith), value_character (a % 4 * 16) (omega arith), e)
decoded_encoded (a ∷ b ∷ []) h =
    let ha = byte a (b ∷ []) h in
    let hb = byte b [] ha.1 in
    let e : a / 4 * 4 + (a % 4 * 16 + b / 16) / 16 ≡ a = omega arith in
    let f : (a % 4 * 16 + b / 16) % 16 * 16 + b % 16 * 4 / 4 ≡ b = omega arith in
    rw (value_character (a / 4) (omega arith), value_character (a % 4 * 16 + b / 16) (omega arith), value_character (b % 16 * 4) (omega arith), e, f)
decoded_encoded (a ∷ b ∷ c ∷ t) h =
    let ha = byte a (b ∷ c ∷ t) h in
    let hb = byte b (c ∷ t) ha.1 in
    let hc = byte c t hb.1 in
    let e : a / 4 * 4 + (a % 4 * 16 + b / 16) / 16 ≡ a = omega arith in
    let f : (a % 4 * 16 + b / 16) % 16 * 16 + (b % 16 * 4 + c / 64) / 4 ≡ b = omega arith in
    let g : (b % 16 * 4 + c / 64) % 4 * 64 + c % 64 ≡ c = omega arith in
    rw (value_character (a / 4) (omega arith), value_character (a % 4 * 16 + b / 16) (omega arith), value_character (b % 16 * 4 + c / 64) (omega arith), value_character (c % 64) (omega arith), e, f, g, decoded_encoded t hc.1)

-- the bytes of any text are bytes
pub decoded_bytes : (t : List ℕ) → are_bytes (decoded t) ≡ true
unfolding decoded
decoded_bytes [] = refl
decoded_bytes (a ∷ []) = refl
decoded_bytes (a ∷ b ∷ []) = rw (lt-ltb (value_of a * 4 + value_of b / 16) 256 (omega (arith, value_lt a, value_lt b)))
decoded_bytes (a ∷ b ∷ c ∷ []) =
    rw (lt-ltb (value_of a * 4 + value_of b / 16) 256 (omega (arith, value_lt a, value_lt b)), lt-ltb (value_of b % 16 * 16 + value_of c / 4) 256 (omega (arith, value_lt c)))
decoded_bytes (a ∷ b ∷ c ∷ d ∷ t) =
    rw (lt-ltb (value_of a * 4 + value_of b / 16) 256 (omega (arith, value_lt a, value_lt b)), lt-ltb (value_of b % 16 * 16 + value_of c / 4) 256 (omega (arith, value_lt c)), lt-ltb (value_of c % 4 * 64 + value_of d) 256 (omega (arith, value_lt d))) (decoded_bytes t)

-- whether a text may end does not depend on the whole groups before
ends_group : (a b c d : ℕ) (t : List ℕ) → ends_well (length (a ∷ b ∷ c ∷ d ∷ t)) (value_of (last (a ∷ b ∷ c ∷ d ∷ t))) ≡ ends_well (length t) (value_of (last t))
unfolding ends_well
ends_group a b c d [] = refl
ends_group a b c d (x ∷ t) =
    let e : suc (suc (suc (suc (suc (length t))))) % 4 ≡ suc (length t) % 4 = omega arith in
    let f : suc (suc (suc (suc (suc (length t))))) - 1 ≡ suc (suc (suc (suc (suc (length t) - 1)))) = omega arith in
    rw (e, f)

-- a text that is base64 is the encoding of what it decodes to
encoded_decoded_all : (t : List ℕ) → all is_character t ≡ true → ends_well (length t) (value_of (last t)) ≡ true → encoded (decoded t) ≡ t
unfolding encoded decoded all ends_well
encoded_decoded_all [] h e = refl
encoded_decoded_all (a ∷ []) h e = absurd (false≢true e)
encoded_decoded_all (a ∷ b ∷ []) h e =
    let ha = and_true (is_character a) (all is_character (b ∷ [])) h in
    let hb = and_true (is_character b) true ha.1 in
    let z = eqb-true (value_of b % 16) 0 e in
    let p : (value_of a * 4 + value_of b / 16) / 4 ≡ value_of a = omega (arith, value_lt b) in
    let q : (value_of a * 4 + value_of b / 16) % 4 * 16 ≡ value_of b = omega (arith, value_lt b) in
    rw (p, q, character_value a ha.0, character_value b hb.0)
encoded_decoded_all (a ∷ b ∷ c ∷ []) h e =
    let ha = and_true (is_character a) (all is_character (b ∷ c ∷ [])) h in
    let hb = and_true (is_character b) (all is_character (c ∷ [])) ha.1 in
    let hc = and_true (is_character c) true hb.1 in
    let z = eqb-true (value_of c % 4) 0 e in
    let p : (value_of a * 4 + value_of b / 16) / 4 ≡ value_of a = omega (arith, value_lt b) in
    let q : (value_of a * 4 + value_of b / 16) % 4 * 16 + (value_of b % 16 * 16 + value_of c / 4) / 16 ≡ value_of b = omega (arith, value_lt b, value_lt c) in
    let r : (value_of b % 16 * 16 + value_of c / 4) % 16 * 4 ≡ value_of c = omega (arith, value_lt c) in
    rw (p, q, r, character_value a ha.0, character_value b hb.0, character_value c hc.0)
encoded_decoded_all (a ∷ b ∷ c ∷ d ∷ t) h e =
    let ha = and_true (is_character a) (all is_character (b ∷ c ∷ d ∷ t)) h in
    let hb = and_true (is_character b) (all is_character (c ∷ d ∷ t)) ha.1 in
    let hc = and_true (is_character c) (all is_character (d ∷ t)) hb.1 in
    let hd = and_true (is_character d) (all is_character t) hc.1 in
    let p : (value_of a * 4 + value_of b / 16) / 4 ≡ value_of a = omega (arith, value_lt b) in
    let q : (value_of a * 4 + value_of b / 16) % 4 * 16 + (value_of b % 16 * 16 + value_of c / 4) / 16 ≡ value_of b = omega (arith, value_lt b, value_lt c) in
    let r : (value_of b % 16 * 16 + value_of c / 4) % 16 * 4 + (value_of c % 4 * 64 + value_of d) / 64 ≡ value_of c = omega (arith, value_lt c, value_lt d) in
    let s : (value_of c % 4 * 64 + value_of d) % 64 ≡ value_of d = omega (arith, value_lt d) in
    rw (p, q, r, s, character_value a ha.0, character_value b hb.0, character_value c hc.0, character_value d hd.0, encoded_decoded_all t hd.1 (sym (ends_group a b c d t) ∙ e))

pub encoded_decoded : (t : List ℕ) → is_base64 t ≡ true → encoded (decoded t) ≡ t
unfolding is_base64
encoded_decoded t h = let a = and_true (all is_character t) (ends_well (length t) (value_of (last t))) h in encoded_decoded_all t a.0 a.1

-- the encoding of bytes is base64
pub encoded_is : (t : List ℕ) → are_bytes t ≡ true → is_base64 (encoded t) ≡ true
unfolding is_base64 encoded all ends_well
encoded_is [] h = refl
encoded_is (a ∷ []) h =
    let ha = byte a [] h in
    let z : a % 4 * 16 % 16 ≡ 0 = omega arith in
    rw (character_is (a / 4) (omega arith), character_is (a % 4 * 16) (omega arith), value_character (a % 4 * 16) (omega arith), z)
encoded_is (a ∷ b ∷ []) h =
    let ha = byte a (b ∷ []) h in
    let hb = byte b [] ha.1 in
    let z : b % 16 * 4 % 4 ≡ 0 = omega arith in
    rw (character_is (a / 4) (omega arith), character_is (a % 4 * 16 + b / 16) (omega arith), character_is (b % 16 * 4) (omega arith), value_character (b % 16 * 4) (omega arith), z)
encoded_is (a ∷ b ∷ c ∷ t) h =
    let ha = byte a (b ∷ c ∷ t) h in
    let hb = byte b (c ∷ t) ha.1 in
    let hc = byte c t hb.1 in
    let i = and_true (all is_character (encoded t)) (ends_well (length (encoded t)) (value_of (last (encoded t)))) (encoded_is t hc.1) in
    true_and (all is_character (encoded (a ∷ b ∷ c ∷ t))) _
    (rw (character_is (a / 4) (omega arith), character_is (a % 4 * 16 + b / 16) (omega arith), character_is (b % 16 * 4 + c / 64) (omega arith), character_is (c % 64) (omega arith)) i.0)
    (ends_group (character_of (a / 4)) (character_of (a % 4 * 16 + b / 16)) (character_of (b % 16 * 4 + c / 64)) (character_of (c % 64)) (encoded t) ∙ i.1)

-- so a text is base64 exactly if it is the encoding of some bytes, and every other text is refused
pub base64_iff : (t : List ℕ) → (is_base64 t ≡ true) ↔ ((b : List ℕ) × (are_bytes b ≡ true) × (encoded b ≡ t))
base64_iff t = (λ h. (decoded t, decoded_bytes t, encoded_decoded t h), λ w. ap is_base64 (sym w.2) ∙ encoded_is w.0 w.1)

-- and in lines
pub body_lines : (b : List ℕ) → are_bytes b ≡ true → body_of (lines_of b) ≡ b
body_lines b h = ap decoded (unwrapped_wrapped 0 (encoded b) (omega arith)) ∙ decoded_encoded b h
