-- The human part: the tests of a name, the name between a front and a back, and words in a form's case.
use Prim.Native.Nat.{ℕ, zero, suc, ◌+◌, ◌-◌, ◌<◌, ◌≤◌}
use mathlib.Core.Path.{◌≡◌, refl, sym, ap, ap₂, ◌∙◌}
use mathlib.Core.Bool.{Bool, true, false, ◌&&◌, false≢true}
use mathlib.Core.List.{List, [], ◌∷◌, ◌++◌, map, map-id, map-append, append_assoc}
use lib.Dec.{leb, eqb}
use lib.ListN.{length, take, drop, get_or, set, replicate, length-append, length-map, take-append-drop}
use lib.Seq.{drop-drop, length-take-le, take_at}
use native.Mathlib.Nat.{sub-zero, zero-sub, suc-sub-suc}
use native.Mathlib.Omega.{arith}
use borrow.Author.Tests.{leb-true, lt-leb}
use Rattle.std.specs.Char.{to_ascii_lowercase}
use Rattle.std.specs.Option.{is_some}
use Rattle.std.specs.Prelude.{Option, Some, None, MatchOption}
use Rattle.std.specs.List.{list_all, zip}
use Rattle.refusal.specs.Pick.{pick}
use Rattle.refusal.specs.Run.{all}
use Rattle.refusal.specs.Same.{same}
use Rattle.refusal.proofs.Laws.Booleans.{and_true, and_assoc, and_true_right, and_false_right}
use Rattle.refusal.proofs.Laws.Lists.{front_store, front_whole, put_rest, part_rest, overwrite_part}
use Rattle.refusal.proofs.Laws.Same.{same_refl, same_length}
use Rattle.symbols.specs.Charset.{lower, upper}
use Rattle.bech32.specs.Text.{is_name_byte, is_name, Form, human_part, in_case, is_human}
use Rattle.bech32.specs.declared.human.Name.{Name}
use Rattle.bech32.specs.Calls.{padded, IsText, IsGiven, given_name}
use Rattle.bech32.specs.Steps.{between, name_between, name_or, cased_byte}
use Rattle.symbols.proofs.Laws.Charset.{lower_ascii}
use Rattle.symbols.proofs.Laws.Maps.{map_at, map_take, map_drop}

-- ---- byte by byte

-- std's test of each byte, and that of two texts byte by byte, the first in lower case
pub all_listed : (class : ℕ → Bool) (t : List ℕ) → list_all class t ≡ all class t
unfolding all
all_listed class [] = refl
all_listed class (b ∷ t) = ap (λ x. class b && x) (all_listed class t)

pub same_zipped : (t w : List ℕ) → length t ≡ length w → list_all (λ p. eqb (lower p.0) p.1) (zip t w) ≡ same (map lower t) w
unfolding same
same_zipped [] [] h = refl
same_zipped [] (c ∷ w) h = absurd (omega arith)
same_zipped (b ∷ t) [] h = absurd (omega arith)
same_zipped (b ∷ t) (c ∷ w) h = ap (λ x. eqb (lower b) c && x) (same_zipped t w (omega arith))

-- one byte more of a mapped list, stored behind those that are there
pub map_store : (f : ℕ → ℕ) (t o o₀ : List ℕ) (i x : ℕ) → o ≡ take i (map f t) ++ drop i o₀ → i < length t → length t ≤ length o₀ → x ≡ f (get_or t i 0) →
    set o i x ≡ take (i + 1) (map f t) ++ drop (i + 1) o₀
map_store f t o o₀ i x e h l q =
    ap (set o i) (q ∙ sym (map_at f t i h)) ∙ front_store (map f t) o o₀ i 0 e (rw (length-map t f) h) (rw (length-map t f) l)

-- all of it
pub map_whole : (f : ℕ → ℕ) (t o o₀ : List ℕ) (i : ℕ) → o ≡ take i (map f t) ++ drop i o₀ → i ≡ length t → o ≡ map f t ++ drop (length t) o₀
map_whole f t o o₀ i e h = front_whole (map f t) o o₀ i e (h ∙ sym (length-map t f)) ∙ rw (length-map t f)

-- ---- names by value

-- what is left of zeros
zeros_drop : (n m : ℕ) → drop n (replicate {A = ℕ} m 0) ≡ replicate (m - n) 0
zeros_drop zero m = rw sub-zero
zeros_drop (suc n) zero = rw zero-sub
zeros_drop (suc n) (suc m) = rw suc-sub-suc (zeros_drop n m)

-- a text put over the front of 32 zeros
pub over_zeros : (w o : List ℕ) (n : ℕ) → o ≡ w ++ drop n (replicate 32 0) → n ≡ length w → o ≡ padded w
over_zeros w o n e h = e ∙ ap (λ z. w ++ z) (zeros_drop n 32 ∙ rw h)

-- and taken out again
pub padded_front : (w o : List ℕ) (n : ℕ) → o ≡ padded w → n ≡ length w → take n o ≡ w
padded_front w o n e h = rw e (take_at w (replicate (32 - length w) 0) n (sym h))

-- which is no longer than what it is taken from
pub padded_fits : (w o : List ℕ) (n : ℕ) → o ≡ padded w → n ≡ length w → n ≤ length o
padded_fits w o n e h = rw (e, length-append) (omega arith)

-- in lower case: zeros are no letters
lower_zeros : (n : ℕ) → map to_ascii_lowercase (replicate n 0) ≡ replicate n 0
lower_zeros zero = refl
lower_zeros (suc n) = ap (λ l. 0 ∷ l) (lower_zeros n)

lower_bytes : (t : List ℕ) → map to_ascii_lowercase t ≡ map lower t
lower_bytes [] = refl
lower_bytes (b ∷ t) = ap₂ (λ x l. x ∷ l) (lower_ascii b) (lower_bytes t)

pub lower_padded : (t : List ℕ) → map to_ascii_lowercase (padded t) ≡ padded (map lower t)
lower_padded t =
    map-append to_ascii_lowercase t (replicate (32 - length t) 0)
    ∙ ap₂ (λ x y. x ++ y) (lower_bytes t) (lower_zeros (32 - length t) ∙ ap (λ n. replicate (32 - n) 0) (sym (length-map t lower)))

-- a text of more than 32 bytes is no name, and no more is the empty text
pub given_long : (t : List ℕ) → 32 < length t → given_name t ≡ []
unfolding is_name
given_long t h = rw (lt-leb (length t) 32 h, and_false_right)

pub name_some : (t : List ℕ) → is_name t ≡ true → length t ≡ 0 → ⊥
unfolding is_name
name_some t e h =
    let a = and_true (leb 1 (length t) && leb (length t) 32) (all is_name_byte t) e in
    let b = leb-true 1 (length t) (and_true (leb 1 (length t)) (leb (length t) 32) a.0).0 in
    omega arith

-- a text of a name, copied
pub given_copied : (o : Option Name) (t : List ℕ) → is_name t ≡ true → MatchOption o (32 < length t) (λ v. IsText v t) → IsGiven o (given_name t)
given_copied None t e h = given_long t h
given_copied (Some v) t e h = rw e (h, name_some t e)

-- a name that is given, or none
pub given_none : (o : Option Name) (n : List ℕ) → IsGiven o n → is_some o ≡ false → n ≡ []
given_none None n g h = g
given_none (Some v) n g h = absurd (false≢true (sym h))

pub given_some : (o : Option Name) (n : List ℕ) → IsGiven o n → is_some o ≡ true → length n ≡ 0 → ⊥
given_some None n g h = absurd (false≢true h)
given_some (Some v) n g h = g.1

-- ---- what stands between a front and a back

-- two texts in two parts, where the first parts are equally long
same_append : (a b s t : List ℕ) → length a ≡ length b → same (a ++ s) (b ++ t) ≡ (same a b && same s t)
unfolding same
same_append [] [] s t e = refl
same_append [] (y ∷ b) s t e = absurd (omega arith)
same_append (x ∷ a) [] s t e = absurd (omega arith)
same_append (x ∷ a) (y ∷ b) s t e = rw (same_append a b s t (omega arith)) (and_assoc (eqb x y) (same a b) (same s t))

-- in three parts, of which the middle ones are the same
same_around : (p f m q b : List ℕ) → length p ≡ length f → same (p ++ m ++ q) (f ++ m ++ b) ≡ (same p f && same q b)
same_around p f m q b e =
    same_append (p ++ m) (f ++ m) q b (simp length-append (omega arith))
    ∙ ap (λ x. x && same q b) (same_append p f m m e ∙ ap (λ x. same p f && x) (same_refl m) ∙ and_true_right (same p f))

-- a text in three parts
between_parts : (f b h : List ℕ) → length f + length b ≤ length h → h ≡ take (length f) h ++ between f b h ++ drop (length h - length b) h
between_parts f b h l =
    let n : length f + (length h - length f - length b) ≡ length h - length b = omega arith in
    sym (append_assoc (take (length f) h) (between f b h) (drop (length h - length b) h)
    ∙ ap (λ x. take (length f) h ++ x)
    (ap (λ x. between f b h ++ x) (ap (λ m. drop m h) (sym n) ∙ sym (drop-drop (length h - length f - length b) (length f) h)) ∙ take-append-drop (length h - length f - length b) (drop (length f) h))
    ∙ take-append-drop (length f) h)

-- the same parts around what is between: the whole is compared by the front and by the back
between_same : (f b h : List ℕ) → length f + length b ≤ length h →
    same h (f ++ between f b h ++ b) ≡ (same (take (length f) h) f && same (drop (length h - length b) h) b)
between_same f b h l =
    ap (λ x. same x (f ++ between f b h ++ b)) (between_parts f b h l)
    ∙ same_around (take (length f) h) f (between f b h) (drop (length h - length b) h) b (length-take-le (length f) h (omega arith))

-- a text that is shorter than front and back has no name
pub name_short : (f b h : List ℕ) → length h < length f + length b → name_between f b (map lower h) ≡ []
name_short f b h l =
    let w = map lower h in
    rw (same_length w (f ++ between f b w ++ b) (λ q. omega (arith, q, length-map h lower, length-append (f ++ between f b w) b, length-append f (between f b w))))

-- the name in another text, by the tests of front, back, and what is between
pub name_is : (f b h : List ℕ) → length f + length b ≤ length h →
    name_between f b (map lower h) ≡
    pick
    (same (map lower (take (length f) h)) f && same (map lower (drop (length h - length b) h)) b && is_name (map lower (between f b h)))
    (map lower (between f b h))
    []
name_is f b h l =
    let w = map lower h in
    let n : length w ≡ length h = length-map h lower in
    let m : between f b w ≡ map lower (between f b h) = rw (n, map_drop lower (length f) h, map_take lower (length h - length f - length b) (drop (length f) h)) in
    let s : same w (f ++ between f b w ++ b) ≡ (same (map lower (take (length f) h)) f && same (map lower (drop (length h - length b) h)) b) =
    between_same f b w (omega arith) ∙ rw (n, map_take lower (length f) h, map_drop lower (length h - length b) h) in
    ap (λ x. pick (x && is_name (between f b w)) (between f b w) []) s
    ∙ ap (λ x. pick (same (map lower (take (length f) h)) f && same (map lower (drop (length h - length b) h)) b && is_name x) x []) m

-- the name of a form is the one between its front and its back
pub name_form : (k : Form) (h : List ℕ) → name_or k h ≡ name_between k.front k.back h
unfolding is_human
name_form k h = refl

-- ---- words in a form's case

-- byte by byte
pub case_map : (k : Form) (l : List ℕ) → in_case k l ≡ map (cased_byte k) l
case_map k l = by_case k.capital l
  where
    by_case : (c : Bool) (l : List ℕ) → pick c (map upper l) l ≡ map (λ b. pick c (upper b) b) l
    by_case true l = refl
    by_case false l = sym (map-id l)

-- as long as in lower case
pub case_length : (k : Form) (l : List ℕ) → length (in_case k l) ≡ length l
case_length k l = ap length (case_map k l) ∙ length-map l (cased_byte k)

-- part by part
pub case_append : (k : Form) (a b : List ℕ) → in_case k (a ++ b) ≡ in_case k a ++ in_case k b
case_append k a b = case_map k (a ++ b) ∙ map-append (cased_byte k) a b ∙ sym (ap₂ (λ x y. x ++ y) (case_map k a) (case_map k b))

-- a word behind what is written: the part from n on was lent and came back with the word at its front
pub word_behind : (k : Form) (a w o o₀ part : List ℕ) (n : ℕ) → o ≡ in_case k a ++ drop n o₀ → n ≡ length a →
    part ≡ in_case k w ++ drop (length w) (take (length o - n) (drop n o)) →
    take n o ++ (part ++ drop (length o - n) (drop n o)) ≡ in_case k (a ++ w) ++ drop (n + length w) o₀
word_behind k a w o o₀ part n e h p =
    let m : length (in_case k a ++ in_case k w) ≡ n + length w = length-append (in_case k a) (in_case k w) ∙ ap₂ (λ x y. x + y) (case_length k a ∙ sym h) (case_length k w) in
    put_rest n o part
    ∙ ap (λ x. take n o ++ x) (p ∙ ap₂ (λ x y. in_case k w ++ drop x y) (sym (case_length k w)) (part_rest n o))
    ∙ overwrite_part o o₀ (in_case k a) (in_case k w) n e (case_length k a ∙ sym h)
    ∙ ap₂ (λ x y. x ++ drop y o₀) (sym (case_append k a w)) m

-- how long the human part of a name is
pub human_length : (k : Form) (n : List ℕ) → length (human_part k n) ≡ length k.front + length n + length k.back
human_length k n = simp length-append

-- the human part at a buffer's front, where its three words are those of a form that is known
pub human_put : (k r : Form) (n o o₀ : List ℕ) → human_part k n ≡ human_part r n →
    o ≡ in_case k (human_part r n) ++ drop (length r.front + length n + length r.back) o₀ →
    o ≡ in_case k (human_part k n) ++ drop (length (human_part k n)) o₀
human_put k r n o o₀ e p = p ∙ ap₂ (λ x y. in_case k x ++ drop y o₀) (sym e) (sym (ap length e ∙ human_length r n))
