-- Recipients and identities as texts (document 01, "Recipients and identities").
use Rattle.std.specs.Prelude.{ℕ, suc, ◌+◌, ◌-◌, ◌≤◌, min, ◌≡◌, Bool, true, false, ◌&&◌, ◌||◌, not, List, [], ◌∷◌, ◌++◌, map, leb, ltb, eqb, length, take, drop}
use Rattle.std.proofs.Math.Pow.{are_bytes}
use Rattle.refusal.specs.Pick.{pick}
use Rattle.refusal.specs.Run.{all, run, is_graphic}
use Rattle.refusal.specs.Same.{same}
use Rattle.symbols.specs.Charset.{value_of, character_of, is_upper, is_lower, lower, upper}
use Rattle.symbols.specs.Calls.{value_at}
use Rattle.symbols.specs.Checksum.{are_symbols, polymod, expanded, checksum}
use Rattle.symbols.specs.Regroup.{symbols, bytes, is_whole}

-- a byte of NAME: a to z, 0 to 9, "+", "-", ".", "_"
unfoldable pub is_name_byte : ℕ → Bool
is_name_byte b = is_lower b || leb 48 b && leb b 57 || eqb b 43 || eqb b 45 || eqb b 46 || eqb b 95

-- NAME: 1 to 32 of these
unfoldable pub is_name : List ℕ → Bool
is_name n = leb 1 (length n) && leb (length n) 32 && all is_name_byte n

-- the form of a kind of text: what stands before and behind NAME in the human part, and whether it is all upper case
pub record Form : Type 0 where
  pub front : List ℕ
  pub back : List ℕ
  pub capital : Bool

-- a recipient: age1NAME, all lower case
abbrev pub recipient : Form
recipient = record { front = 97 ∷ 103 ∷ 101 ∷ 49 ∷ []; back = []; capital = false }

-- an identity: AGE-PLUGIN-NAME-, all upper case
abbrev pub identity : Form
identity = record { front = 97 ∷ 103 ∷ 101 ∷ 45 ∷ 112 ∷ 108 ∷ 117 ∷ 103 ∷ 105 ∷ 110 ∷ 45 ∷ []; back = 45 ∷ []; capital = true }

-- the human part of a name, in lower case
abbrev pub human_part : Form → List ℕ → List ℕ
human_part k name = k.front ++ name ++ k.back

-- human part, separator, and the symbols with their checksum, in lower case
abbrev pub plain_text : List ℕ → List ℕ → List ℕ
plain_text h vs = h ++ 49 ∷ map character_of (vs ++ checksum (polymod 1 (expanded h ++ vs)))

-- a text in lower case, put into the form's case
abbrev pub in_case : Form → List ℕ → List ℕ
in_case k l = pick k.capital (map upper l) l

-- the text of a name and a payload
abbrev pub text_of : Form → List ℕ → List ℕ → List ℕ
text_of k name payload = in_case k (plain_text (human_part k name) (symbols payload))

-- ---- reading

-- no letter in lower case
abbrev pub no_lower : List ℕ → Bool
no_lower t = all (λ b. not (is_lower b)) t

-- no letter in upper case
abbrev pub no_upper : List ℕ → Bool
no_upper t = all (λ b. not (is_upper b)) t

-- no letter of the wrong case
abbrev pub is_cased : Form → List ℕ → Bool
is_cased k t = pick k.capital (no_lower t) (no_upper t)

-- no separator among the bytes
abbrev pub is_not_one : ℕ → Bool
is_not_one b = not (eqb b 49)

-- where the separator, the last "1", stands; the length where there is none
unfoldable pub separator : List ℕ → ℕ
separator [] = 0
separator (b ∷ t) = pick (all is_not_one t) (pick (eqb b 49) 0 (suc (length t))) (suc (separator t))

-- the human part holds NAME between what stands before and behind it
abbrev pub name_in : Form → List ℕ → List ℕ
name_in k h = take (length h - length k.front - length k.back) (drop (length k.front) h)

-- what a text is read as: a name and a payload; or what is wrong with it: the form, with the place; or, of a name, the checksum, or bits left over
pub data Parsed : Type 0 where
  parsed : List ℕ → List ℕ → Parsed
  malformed : ℕ → Parsed
  bad_checksum : List ℕ → Parsed
  leftover_bits : List ℕ → Parsed

-- the human part of a text in lower case: what stands before the separator
abbrev pub human_in : List ℕ → List ℕ
human_in l = take (separator l) l

-- the values of the characters behind it
abbrev pub values_in : List ℕ → List ℕ
values_in l = map value_of (drop (separator l + 1) l)

-- the values less the checksum's six
abbrev pub payload_in : List ℕ → List ℕ
payload_in l = take (length (values_in l) - 6) (values_in l)

-- a separator, and behind it at least six characters of the alphabet
unfoldable pub has_tail : List ℕ → Bool
has_tail l = ltb (separator l) (length l) && leb 6 (length (values_in l)) && are_symbols (values_in l)

-- the checksum's final value is 1
unfoldable pub is_closed : List ℕ → Bool
is_closed l = eqb (polymod 1 (expanded (human_in l) ++ values_in l)) 1

-- the human part is that of a name
unfoldable pub is_human : Form → List ℕ → Bool
is_human k h = same h (human_part k (name_in k h)) && is_name (name_in k h)

-- the form of the kind: at most 1,024 characters, none of the wrong case; the rest goes by its lower-case form
unfoldable pub is_formed : Form → List ℕ → Bool
is_formed k t = leb (length t) 1024 && is_cased k t && has_tail (map lower t) && is_human k (human_in (map lower t))

-- a character of the alphabet, in lower or upper case
abbrev pub is_in_alphabet : ℕ → Bool
is_in_alphabet b = ltb (value_at b) 32

-- "the place of the first byte outside 33 to 126 or, after the separator, outside the alphabet in either case; if there is none, the text's length": of the whole
-- text, as it stands
unfoldable pub place_in : List ℕ → ℕ
place_in t = min (run is_graphic t) (separator t + 1 + run is_in_alphabet (drop (separator t + 1) t))

-- reading a text: the form, then the checksum, then the bits left over
unfoldable pub parse : Form → List ℕ → Parsed
parse k t =
    pick (is_formed k t)
    (pick (is_closed (map lower t))
    (pick (is_whole (payload_in (map lower t))) (parsed (name_in k (human_in (map lower t))) (bytes (payload_in (map lower t))))
    (leftover_bits (name_in k (human_in (map lower t)))))
    (bad_checksum (name_in k (human_in (map lower t)))))
    (malformed (place_in t))

-- what a text that was read is: at most 1,024 characters, the text of its name and its payload
pub record Read (k : Form) (t name payload : List ℕ) : Type 0 where
  pub is_named : is_name name ≡ true
  pub are_read : are_bytes payload ≡ true
  pub limit : length t ≤ 1024
  pub text : text_of k name payload ≡ t
