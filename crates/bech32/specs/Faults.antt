-- What is wrong with a text (document 02, No. 4), in the paper's words and not by the reader's tests.
use Rattle.std.specs.Prelude.{ℕ, ◌+◌, ◌-◌, ◌<◌, ◌≤◌, ◌≡◌, true, false, List, ◌∷◌, ◌++◌, map, ◌↔◌, length, take, drop, get_or}
use Rattle.refusal.specs.Run.{all, is_graphic}
use Rattle.symbols.specs.Charset.{value_of, lower}
use Rattle.symbols.specs.Checksum.{are_symbols, polymod, expanded}
use Rattle.symbols.specs.Regroup.{is_whole}
use Rattle.bech32.specs.Text.{Form, is_name, human_part, is_cased, is_not_one, is_in_alphabet, Parsed, parsed, malformed, bad_checksum, leftover_bits, Read}

-- a text of the form, by its name and what stands behind the separator: no bad character, case or length, no missing separator, fewer than six behind it or wrong
-- human part
pub record Formed (k : Form) (t name tail : List ℕ) : Type 0 where
  pub limit : length t ≤ 1024
  pub cased : is_cased k t ≡ true
  pub text : map lower t ≡ human_part k name ++ 49 ∷ tail
  pub named : is_name name ≡ true
  pub six : 6 ≤ length tail
  pub characters : are_symbols (map value_of tail) ≡ true

-- its checksum holds
abbrev pub Closed : Form → List ℕ → List ℕ → Type 0
Closed k name tail = polymod 1 (expanded (human_part k name) ++ map value_of tail) ≡ 1

-- the payload's characters
abbrev pub payload_part : List ℕ → List ℕ
payload_part tail = take (length tail - 6) tail

-- fewer than five bits are left over, and none of them is set
abbrev pub Whole : List ℕ → Type 0
Whole tail = is_whole (map value_of (payload_part tail)) ≡ true

-- i is behind the last "1"
abbrev pub Behind : List ℕ → ℕ → Type 0
Behind t i = (j : ℕ) × (j < i) × (get_or t j 0 ≡ 49) × (all is_not_one (drop (j + 1) t) ≡ true)

-- the byte at i is outside 33 to 126 or, behind the separator, outside the alphabet in either case
pub data Foreign (t : List ℕ) (i : ℕ) : Type 0 where
  not_graphic : is_graphic (get_or t i 0) ≡ false → Foreign t i
  not_in_alphabet : Behind t i → is_in_alphabet (get_or t i 0) ≡ false → Foreign t i

-- the first such byte's place; if there is none, the text's length
pub record Place (t : List ℕ) (n : ℕ) : Type 0 where
  pub within : n ≤ length t
  pub foreign : n < length t → Foreign t n
  pub first : (i : ℕ) → i < n → Foreign t i → ⊥

-- what a text of a kind is read as: 16 with the place, 21, 22, or name and payload, each exactly if its condition holds
pub record Judged (k : Form) (t : List ℕ) (p : Parsed) : Type 0 where
  pub form : (n : ℕ) → (p ≡ malformed n) ↔ (((name tail : List ℕ) → Formed k t name tail → ⊥) × Place t n)
  pub checksum : (name : List ℕ) → (p ≡ bad_checksum name) ↔ ((tail : List ℕ) × Formed k t name tail × (Closed k name tail → ⊥))
  pub bits : (name : List ℕ) → (p ≡ leftover_bits name) ↔ ((tail : List ℕ) × Formed k t name tail × Closed k name tail × (Whole tail → ⊥))
  pub whole : (name payload : List ℕ) → (p ≡ parsed name payload) ↔ Read k t name payload

-- an entry's mark for a plugin's name: 16 where the text has not the form with this name, else 21, 22 or 0 as it is read
pub record Marked (k : Form) (t plugin : List ℕ) (mark : ℕ) : Type 0 where
  pub form : (mark ≡ 16) ↔ ((tail : List ℕ) → Formed k t (map lower plugin) tail → ⊥)
  pub checksum : (mark ≡ 21) ↔ ((tail : List ℕ) × Formed k t (map lower plugin) tail × (Closed k (map lower plugin) tail → ⊥))
  pub bits : (mark ≡ 22) ↔ ((tail : List ℕ) × Formed k t (map lower plugin) tail × Closed k (map lower plugin) tail × (Whole tail → ⊥))
  pub valid : (mark ≡ 0) ↔ ((payload : List ℕ) × Read k t (map lower plugin) payload)
