-- What the private functions ask of the table and the buffers that they are lent, and what they work out. Nobody has to believe this: each caller shows it.
use Rattle.std.specs.Prelude.{ℕ, ◌-◌, ◌<◌, ◌≡◌, Bool, ◌&&◌, List, [], ◌++◌, map, leb, length, take, drop, get_or}
use Rattle.refusal.specs.Pick.{pick}
use Rattle.refusal.specs.Same.{same}
use Rattle.symbols.specs.Charset.{character_of, lower, upper}
use Rattle.symbols.specs.Checksum.{polymod, checksum, are_symbols}
use Rattle.symbols.specs.Regroup.{symbols, is_whole}
use Rattle.bech32.specs.Text.{Form, is_name, is_human, name_in, human_in, is_cased, separator, values_in, payload_in, is_closed}

-- a byte in the form's case
abbrev pub cased_byte : Form → ℕ → ℕ
cased_byte k b = pick k.capital (upper b) b

-- the character of each value in the form's case
abbrev pub Characters : Form → List ℕ → Type 0
Characters k t = (v : ℕ) → v < 32 → get_or t v 0 ≡ cased_byte k (character_of v)

-- the symbols of a payload, and those of the checksum behind a state
abbrev pub with_checksum : ℕ → List ℕ → List ℕ
with_checksum c payload = symbols payload ++ checksum (polymod c (symbols payload))

-- what stands between a front and a back
abbrev pub between : List ℕ → List ℕ → List ℕ → List ℕ
between front back h = take (length h - length front - length back) (drop (length front) h)

-- the name there, empty where there is none
abbrev pub name_between : List ℕ → List ℕ → List ℕ → List ℕ
name_between front back h = pick (same h (front ++ between front back h ++ back) && is_name (between front back h)) (between front back h) []

-- the name in a human part of the form, empty where there is none
abbrev pub name_or : Form → List ℕ → List ℕ
name_or k h = pick (is_human k h) (name_in k h) []

-- what stands before the tail is that of a text of the form: at most 1,024 characters, none of the wrong case, six behind the separator, and the human part
unfoldable pub has_head : Form → List ℕ → Bool
has_head k t = leb (length t) 1024 && is_cased k t && leb 7 (length t - separator t) && is_human k (human_in (map lower t))

-- the name there, empty where there is none
abbrev pub name_at : Form → List ℕ → List ℕ
name_at k t = pick (has_head k t) (name_in k (human_in (map lower t))) []

-- the number of a tail in lower case: a byte outside the alphabet, the checksum, the bits left over
abbrev pub tail_number : List ℕ → ℕ
tail_number l = pick (are_symbols (values_in l)) (pick (is_closed l) (pick (is_whole (payload_in l)) 0 22) 21) 16
