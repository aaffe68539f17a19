-- What a line of an identity file is (document 02, No. 8).
use Rattle.std.specs.Prelude.{ℕ, ◌<◌, ◌≤◌, ◌≡◌, ◌⊎◌, ◌↔◌, Bool, true, List, [], ◌∷◌, ltb, eqb, length, take, get_or}
use Rattle.refusal.specs.Pick.{pick}
use Rattle.refusal.specs.Same.{same}
use Rattle.bech32.specs.Text.{identity, parse}
use Rattle.bech32.specs.Calls.{text_number}

-- skipped; a secret key, counted and not judged further; invalid, with the refusal's number; or valid, an identity of any plugin
pub data Kind : Type 0 where
  skipped : Kind
  secret_key : Kind
  invalid : ℕ → Kind
  valid : Kind

-- AGE-SECRET-KEY-1
abbrev pub secret_key_text : List ℕ
secret_key_text = 65 ∷ 71 ∷ 69 ∷ 45 ∷ 83 ∷ 69 ∷ 67 ∷ 82 ∷ 69 ∷ 84 ∷ 45 ∷ 75 ∷ 69 ∷ 89 ∷ 45 ∷ 49 ∷ []

-- "lines beginning with # and empty lines skipped"
abbrev pub is_skipped : List ℕ → Bool
is_skipped [] = true
is_skipped (b ∷ l) = eqb b 35

-- "Lines that begin AGE-SECRET-KEY-1"
abbrev pub is_secret_key : List ℕ → Bool
is_secret_key l = same (take 16 l) secret_key_text

-- by the reader's number, 0 where the line is an identity
abbrev pub judged : ℕ → Kind
judged n = pick (eqb n 0) valid (invalid n)

-- "Lines are at most 1,024 bytes without their LF; a longer one, whatever it holds, is 16"
unfoldable pub kind_of : List ℕ → Kind
kind_of l =
    pick (ltb 1024 (length l)) (invalid 16)
    (pick (is_skipped l) skipped
    (pick (is_secret_key l) secret_key
    (judged (text_number (parse identity l)))))

-- ---- the same, each kind by its condition

pub record Skipped (l : List ℕ) : Type 0 where
  pub short : length l ≤ 1024
  pub mark : (l ≡ []) ⊎ (get_or l 0 0 ≡ 35)

-- neither too long nor skipped
pub record Unskipped (l : List ℕ) : Type 0 where
  pub short : length l ≤ 1024
  pub some : l ≡ [] → ⊥
  pub unmarked : get_or l 0 0 ≡ 35 → ⊥

pub record SecretKey (l : List ℕ) : Type 0 where
  pub unskipped : Unskipped l
  pub key : take 16 l ≡ secret_key_text

-- left to the reader of identities
pub record Judged (l : List ℕ) (n : ℕ) : Type 0 where
  pub unskipped : Unskipped l
  pub no_key : take 16 l ≡ secret_key_text → ⊥
  pub number : text_number (parse identity l) ≡ n

-- invalid: too long, with 16; or as the reader's number says
abbrev pub Invalid : List ℕ → ℕ → Type 0
Invalid l n = ((1024 < length l) × (n ≡ 16)) ⊎ (Judged l n × (n ≡ 0 → ⊥))

-- a line is exactly one of the four, each exactly if its condition holds
pub record Judgement (l : List ℕ) : Type 0 where
  pub skipped_iff : (kind_of l ≡ skipped) ↔ Skipped l
  pub key_iff : (kind_of l ≡ secret_key) ↔ SecretKey l
  pub invalid_iff : (n : ℕ) → (kind_of l ≡ invalid n) ↔ Invalid l n
  pub valid_iff : (kind_of l ≡ valid) ↔ Judged l 0
