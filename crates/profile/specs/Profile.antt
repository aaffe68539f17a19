-- The stanza check of the plugin fido2-hmac (document 01, "Phase two", the paragraph on fido2-hmac stanzas; document 000).
use Rattle.std.specs.Prelude.{ℕ, Bool, false, ◌&&◌, List, [], ◌∷◌, map, leb, eqb, length, drop}
use Rattle.refusal.specs.Pick.{pick}
use Rattle.refusal.specs.Same.{same}
use Rattle.strict_base64.specs.Code.{is_base64, decoded}
use Rattle.stanza.specs.Arguments.{words, argument_of}
use Rattle.symbols.specs.Charset.{lower}
use Rattle.profile.specs.declared.Conformity.{Conformity}
use Rattle.profile.specs.declared.Conformity.TheVariants as the

-- fido2-hmac: the plugin's name, and the tag of its stanzas
abbrev pub fido2_hmac : List ℕ
fido2_hmac = 102 ∷ 105 ∷ 100 ∷ 111 ∷ 50 ∷ 45 ∷ 104 ∷ 109 ∷ 97 ∷ 99 ∷ []

-- base64 of n bytes
abbrev pub is_bytes : ℕ → List ℕ → Bool
is_bytes n t = is_base64 t && eqb (length (decoded t)) n

-- base64 of at least 1 byte
abbrev pub is_some : List ℕ → Bool
is_some t = is_base64 t && leb 1 (length (decoded t))

-- two or three arguments: 32 bytes, 12 bytes, and where present a credential of at least 1 byte
abbrev pub are_arguments : List (List ℕ) → Bool
are_arguments (salt ∷ nonce ∷ []) = is_bytes 32 salt && is_bytes 12 nonce
are_arguments (salt ∷ nonce ∷ credential ∷ []) = is_bytes 32 salt && is_bytes 12 nonce && is_some credential
are_arguments [] = false
are_arguments (a ∷ []) = false
are_arguments (a ∷ b ∷ c ∷ d ∷ rest) = false

-- what a stanza is to a plugin: conforming, nonconforming (the paper's faulty), or unknown
pub data Finding : Type 0 where
  conforming : Finding
  nonconforming : Finding
  unknown : Finding

-- what the code's answer stands for
abbrev pub found : Conformity → Finding
found the.Conforming = conforming
found the.Nonconforming = nonconforming
found the.Unknown = unknown

-- the plugin's name is compared without case, the tag byte for byte; other tags are unknown, and so is every tag under another name
abbrev pub is_known : List ℕ → List ℕ → Bool
is_known plugin line = same (map lower plugin) fido2_hmac && same (argument_of line 0) fido2_hmac

-- the check of a stanza: tag and arguments, separated by single spaces, and how many bytes its body has
abbrev pub checked : List ℕ → List ℕ → ℕ → Finding
checked plugin line body = pick (is_known plugin line) (pick (are_arguments (drop 1 (words line)) && eqb body 32) conforming nonconforming) unknown
