-- Writing a text as the code does: symbols first, then their characters in place.
use Prim.Native.Nat.{ℕ, suc, ◌+◌, ◌-◌, ◌<◌, ◌≤◌}
use mathlib.Core.Path.{◌≡◌, refl, sym, ap, ap₂, ◌∙◌}
use mathlib.Core.Bool.{true, false, ◌&&◌}
use mathlib.Core.List.{List, [], ◌∷◌, ◌++◌, map, append_assoc}
use lib.Dec.{ltb, leb}
use lib.ListN.{length, take, drop, get_or, set, length-map, length-append}
use lib.Pow.{are_bytes}
use borrow.Author.Tests.{leb-true, lt-ltb, le-ltb, le-leb, lt-leb}
use lib.Seq.{length-take-le, get_or-append-add, get_or-drop, take-set-le, take_at, set_at, append_snoc}
use native.Mathlib.Omega.{arith}
use Rattle.refusal.specs.Run.{all}
use Rattle.refusal.proofs.Laws.Booleans.{and_true, true_and, and_false_right, cases}
use Rattle.refusal.proofs.Laws.Run.{all_append}
use Rattle.refusal.proofs.Laws.Lists.{drop_one, part_rest, put_rest, overwrite_part}
use Rattle.symbols.specs.Charset.{character_of, is_lower, lower, upper}
use Rattle.symbols.specs.Checksum.{are_symbols, polymod, checksum, expanded}
use Rattle.bech32.specs.Text.{Form, in_case, human_part, text_of, is_name, is_name_byte}
use Rattle.bech32.specs.Calls.{form_of, is_writable, write_answer, write_buffer}
use Rattle.bech32.specs.declared.TextKind.{TextKind}
use Rattle.bech32.specs.declared.TextKind.TheVariants.{Recipient, Identity}
use Rattle.refusal.specs.Output.{bytes, refused}
use Rattle.bech32.specs.Steps.{cased_byte, with_checksum}
use Rattle.symbols.specs.Calls.{symbols_size}
use Rattle.symbols.specs.Regroup.{symbols}
use Rattle.symbols.proofs.Laws.Checksum.{six_lt, polymod_append}
use Rattle.bech32.proofs.Laws.Text.{Plain, human_lowered}
use Rattle.symbols.proofs.Laws.Regroup.{symbols_small}
use Rattle.symbols.proofs.Laws.Groups.{symbols_length}
use Rattle.symbols.proofs.Laws.Maps.{map_map}
use Rattle.bech32.proofs.Laws.Human.{case_map, case_length, case_append, map_store, human_length}

-- what has not been stored yet is as it was
pub front_next : (w o o₀ : List ℕ) (i : ℕ) → o ≡ take i w ++ drop i o₀ → i ≤ length w → get_or o i 0 ≡ get_or o₀ i 0
front_next w o o₀ i e h =
    let n : length (take i w) + 0 ≡ i = omega (arith, length-take-le i w h) in
    let z : i + 0 ≡ i = omega arith in
    ap (λ l. get_or l i 0) e ∙ ap (λ m. get_or (take i w ++ drop i o₀) m 0) (sym n) ∙ get_or-append-add (take i w) (drop i o₀) 0 0 ∙ get_or-drop i o₀ 0 0 ∙ ap (λ m. get_or o₀ m 0) z

-- a symbol's character stored in its place
pub translated : (k : Form) (o o₀ : List ℕ) (i : ℕ) (x : ℕ) → o ≡ take i (in_case k (map character_of o₀)) ++ drop i o₀ → i < length o₀ →
    x ≡ cased_byte k (character_of (get_or o i 0)) → set o i x ≡ take (i + 1) (in_case k (map character_of o₀)) ++ drop (i + 1) o₀
translated k o o₀ i x e h q =
    let f : ℕ → ℕ = λ v. cased_byte k (character_of v) in
    let w = in_case k (map character_of o₀) in
    let m : w ≡ map f o₀ = case_map k (map character_of o₀) ∙ map_map (cased_byte k) character_of o₀ in
    let n : length w ≡ length o₀ = ap length m ∙ length-map o₀ f in
    rw m (map_store f o₀ o o₀ i x (rw m at e) h (omega arith) (q ∙ ap f (front_next w o o₀ i e (omega arith))))

-- a part from k on, lent and come back with m elements of content at its front
pub put_behind : (a o₀ front content part : List ℕ) (k m : ℕ) → a ≡ front ++ drop k o₀ → length front ≡ k → length content ≡ m →
    part ≡ content ++ drop m (take (length a - k) (drop k a)) → take k a ++ (part ++ drop (length a - k) (drop k a)) ≡ (front ++ content) ++ drop (k + m) o₀
put_behind a o₀ front content part k m e h n p =
    let l : length (front ++ content) ≡ k + m = omega (arith, length-append front content) in
    put_rest k a part
    ∙ ap (λ x. take k a ++ x) (p ∙ ap (λ d. content ++ drop m d) (part_rest k a) ∙ ap (λ j. content ++ drop j (drop k a)) (sym n))
    ∙ overwrite_part a o₀ front content k e h ∙ ap (λ j. (front ++ content) ++ drop j o₀) l

-- what a slice of bytes is known to hold
pub are_bytes_lem : (l : List ℕ) → ((i : ℕ) → get_or l i 0 < 256) → are_bytes l ≡ true
are_bytes_lem [] h = refl
are_bytes_lem (b ∷ l) h = true_and (ltb b 256) (are_bytes l) (lt-ltb b 256 (h 0)) (are_bytes_lem l (λ i. h (suc i)))

-- a payload's symbols with their checksum: how many, and all of them symbols
pub with_length : (c : ℕ) (p : List ℕ) → length (with_checksum c p) ≡ symbols_size (length p) + 6
with_length c p = length-append (symbols p) (checksum (polymod c (symbols p))) ∙ ap (λ n. n + 6) (symbols_length p)

pub with_symbols : (c : ℕ) (p : List ℕ) → are_bytes p ≡ true → are_symbols (with_checksum c p) ≡ true
with_symbols c p h =
    all_append (λ v. ltb v 32) (symbols p) (checksum (polymod c (symbols p)))
    ∙ true_and (are_symbols (symbols p)) (are_symbols (checksum (polymod c (symbols p)))) (symbols_small p h) (six_lt _)

-- ---- the text, part by part

-- the separator is no letter
one_cased : (k : Form) (l : List ℕ) → in_case k (49 ∷ l) ≡ 49 ∷ in_case k l
unfolding upper is_lower
one_cased k l = cases k.capital (λ e. rw e) (λ e. rw e)

-- what stands behind the separator
abbrev characters_of : Form → List ℕ → List ℕ → List ℕ
characters_of k h payload = in_case k (map character_of (with_checksum (polymod 1 (expanded h)) payload))

-- human part, separator, characters
text_parts : (k : Form) (name payload : List ℕ) →
    text_of k name payload ≡ (in_case k (human_part k name) ++ (49 ∷ [])) ++ characters_of k (human_part k name) payload
text_parts k name payload =
    let h = human_part k name in
    let d = map character_of (with_checksum (polymod 1 (expanded h)) payload) in
    ap (λ c. in_case k (h ++ 49 ∷ map character_of (symbols payload ++ checksum c))) (polymod_append (expanded h) (symbols payload) 1)
    ∙ case_append k h (49 ∷ d) ∙ ap (λ x. in_case k h ++ x) (one_cased k d) ∙ sym (append_assoc (in_case k h) (49 ∷ []) (in_case k d))

characters_length : (k : Form) (h payload : List ℕ) → length (characters_of k h payload) ≡ symbols_size (length payload) + 6
characters_length k h payload =
    let w = with_checksum (polymod 1 (expanded h)) payload in
    case_length k (map character_of w) ∙ length-map w character_of ∙ with_length (polymod 1 (expanded h)) payload

pub text_length : (k : Form) (name payload : List ℕ) → length (text_of k name payload) ≡ length (human_part k name) + symbols_size (length payload) + 7
text_length k name payload =
    let h = human_part k name in
    let f = in_case k h ++ (49 ∷ []) in
    let c = characters_of k h payload in
    ap length (text_parts k name payload)
    ∙ omega (arith, length-append f c, length-append (in_case k h) (49 ∷ []), case_length k h, characters_length k h payload)

-- the human part's length, by that of the name
pub human_size : (k : Form) (name : List ℕ) → length (human_part k name) ≡ length name + length (human_part k [])
human_size k name = omega (arith, human_length k name, human_length k [])

-- the human part is still there when the separator stands behind it
human_front : (k : Form) (h a o₀ : List ℕ) (n : ℕ) → a ≡ in_case k h ++ drop n o₀ → n ≡ length h → take n (set a n 49) ≡ in_case k h
human_front k h a o₀ n e q = take-set-le n a n 49 (omega arith) ∙ ap (take n) e ∙ take_at (in_case k h) (drop n o₀) n (case_length k h ∙ sym q)

-- and so is the state behind it
human_state : (k : Form) → Plain k → (name a o₀ : List ℕ) (n c : ℕ) → is_name name ≡ true → a ≡ in_case k (human_part k name) ++ drop n o₀ → n ≡ length (human_part k name) →
    c ≡ polymod 1 (expanded (map lower (take n (set a n 49)))) → c ≡ polymod 1 (expanded (human_part k name))
human_state k pl name a o₀ n c hn e q s =
    s ∙ ap (λ x. polymod 1 (expanded (map lower x))) (human_front k (human_part k name) a o₀ n e q) ∙ ap (λ x. polymod 1 (expanded x)) (human_lowered k pl name hn)

-- human part, separator and characters put one behind the other are the text
pub assembled : (k : Form) → Plain k → (name payload a o₀ part : List ℕ) (m n c : ℕ) → is_name name ≡ true → a ≡ in_case k (human_part k name) ++ drop m o₀ →
    m ≡ length (human_part k name) → n ≡ m → n < length o₀ → c ≡ polymod 1 (expanded (map lower (take n (set a n 49)))) →
    part ≡ in_case k (map character_of (with_checksum c payload)) ++ drop (symbols_size (length payload) + 6) (take (length (set a n 49) - (n + 1)) (drop (n + 1) (set a n 49))) →
    take (n + 1) (set a n 49) ++ (part ++ drop (length (set a n 49) - (n + 1)) (drop (n + 1) (set a n 49))) ≡
    text_of k name payload ++ drop (length (text_of k name payload)) o₀
assembled k pl name payload a o₀ part m n c hn e₀ q₀ z h r p₀ =
    let e : a ≡ in_case k (human_part k name) ++ drop n o₀ = e₀ ∙ ap (λ j. in_case k (human_part k name) ++ drop j o₀) (sym z) in
    let q : n ≡ length (human_part k name) = z ∙ q₀ in
    let d : c ≡ polymod 1 (expanded (human_part k name)) = human_state k pl name a o₀ n c hn e q r in
    let p = p₀ ∙ ap (λ s. in_case k (map character_of (with_checksum s payload)) ++ drop (symbols_size (length payload) + 6) (take (length (set a n 49) - (n + 1)) (drop (n + 1) (set a n 49)))) d in
    let f = in_case k (human_part k name) in
    let l₀ = characters_of k (human_part k name) payload in
    let j = symbols_size (length payload) + 6 in
    let b = set a n 49 in
    let l : length f ≡ n = case_length k (human_part k name) ∙ sym q in
    let g : length (f ++ (49 ∷ [])) ≡ n + 1 = omega (arith, length-append f (49 ∷ [])) in
    let s : b ≡ (f ++ (49 ∷ [])) ++ drop (n + 1) o₀ =
    ap (λ x. set x n 49) (e ∙ ap (λ x. f ++ x) (drop_one o₀ n 0 h)) ∙ set_at f (get_or o₀ n 0) (drop (n + 1) o₀) 49 n l ∙ sym (append_snoc f 49 (drop (n + 1) o₀)) in
    let t : n + 1 + j ≡ length (text_of k name payload) = omega (arith, text_length k name payload) in
    put_behind b o₀ (f ++ (49 ∷ [])) l₀ part (n + 1) j s g (characters_length k (human_part k name) payload) p
    ∙ ap₂ (λ x y. x ++ drop y o₀) (sym (text_parts k name payload)) t

-- ---- the three answers

module _ (k : Form) (name payload o : List ℕ) where
  pub writes_not : is_writable k name payload ≡ false → (refused 17 ≡ write_answer k name payload o) × (o ≡ write_buffer k name payload o)
  writes_not e = rw e (refl, refl)

  pub writes_short : is_writable k name payload ≡ true → length o < length (text_of k name payload) → (refused 15 ≡ write_answer k name payload o) × (o ≡ write_buffer k name payload o)
  writes_short e h = rw (e, lt-ltb (length o) (length (text_of k name payload)) h) (refl, refl)

  pub writes : (n : ℕ) (x : List ℕ) → is_writable k name payload ≡ true → length (text_of k name payload) ≤ length o → length (text_of k name payload) ≡ n →
      x ≡ text_of k name payload ++ drop (length (text_of k name payload)) o → (bytes n ≡ write_answer k name payload o) × (x ≡ write_buffer k name payload o)
  writes n x e h q z = rw (e, le-ltb (length o) (length (text_of k name payload)) h) (ap bytes (sym q), z)

  pub writable : is_name name ≡ true → length (text_of k name payload) ≤ 1024 → is_writable k name payload ≡ true
  writable e h = true_and (is_name name) (leb (length (text_of k name payload)) 1024) e (le-leb (length (text_of k name payload)) 1024 h)

  pub nameless : is_name name ≡ false → is_writable k name payload ≡ false
  nameless e = ap (λ b. b && leb (length (text_of k name payload)) 1024) e

  pub too_long : 1024 < length (text_of k name payload) → is_writable k name payload ≡ false
  too_long h = ap (λ b. is_name name && b) (lt-leb (length (text_of k name payload)) 1024 h) ∙ and_false_right (is_name name)

-- a name has at most 32 bytes, and what stands around it 12
pub name_short : (name : List ℕ) → is_name name ≡ true → length name ≤ 32
unfolding is_name
name_short name e =
    let b = and_true (leb 1 (length name) && leb (length name) 32) (all is_name_byte name) e in
    leb-true (length name) 32 (and_true (leb 1 (length name)) (leb (length name) 32) b.0).1

pub form_short : (k : TextKind) → length (human_part (form_of k) []) ≤ 12
form_short Recipient = omega arith
form_short Identity = omega arith
