-- What is kept in the lent input, and read back from it.
use Prim.Native.Nat.{ℕ, suc, ◌+◌, ◌-◌, ◌≤◌, ◌<◌, min}
use mathlib.Core.Path.{◌≡◌, refl, sym, ap, ap₂, ◌∙◌, subst}
use mathlib.Core.List.{List, [], ◌∷◌, ◌++◌, append_assoc, append-nil}
use lib.ListN.{length, take, drop, set, get_or, length-append, length-drop, drop_of_length-le, take-append-drop}
use lib.Seq.{set_split, take_at, drop_at, take_all, take-add, drop-drop, take-append_seam, drop-append_seam, length-take-le}
use native.Mathlib.Omega.{arith}
use borrow.Author.Tests.{lt-ltb, le-ltb}
use Rattle.refusal.specs.Output.{filled}
use Rattle.refusal.proofs.Laws.Lists.{part_rest, put_rest}
use Rattle.session.specs.declared.sessions.Session.{Session as CodeSession}
use Rattle.chunks.specs.Taking.{End}
use Rattle.intake.specs.Intake.{awaited_size, kept_size, intake_of, stored_in}

-- ---- copies

-- what has room is written whole
pub filled_whole : (p o : List ℕ) → length p ≤ length o → filled p o ≡ p ++ drop (length p) o
filled_whole p o h = rw (le-ltb (length o) (length p) h)

-- nothing to write
pub filled_empty : (o : List ℕ) → o ≡ filled [] o
filled_empty o = sym (filled_whole [] o (omega arith))

-- nothing is written where there is no place
filled_none : (p : List ℕ) → filled p [] ≡ []
filled_none [] = refl
filled_none (x ∷ p) = rw (lt-ltb 0 (length (x ∷ p)) (omega arith))

-- a place behind the end
pub none_behind : (p o : List ℕ) (k : ℕ) → length o < k → o ≡ take k o ++ filled p (drop k o)
none_behind p o k h = rw (take_all k o (omega arith), drop_of_length-le o {i = k} (omega arith), filled_none p, append-nil)

-- a part behind the first k bytes
pub part_behind : (p o : List ℕ) (k : ℕ) → k + length p ≤ length o → take k o ++ filled p (drop k o) ≡ filled (take k o ++ p) o
part_behind p o k h =
    let l : length (take k o) ≡ k = length-take-le k o (omega arith) in
    let n : length (take k o ++ p) ≡ k + length p = length-append (take k o) p ∙ ap (λ n. n + length p) l in
    rw (filled_whole p (drop k o) (simp length-drop (omega arith)), filled_whole (take k o ++ p) o (rw n h), n, drop-drop)
    (sym (append_assoc (take k o) p (drop (k + length p) o)))

-- a text and another behind it
pub both : (a p o : List ℕ) → length a + length p ≤ length o → take (length a) (filled a o) ++ filled p (drop (length a) (filled a o)) ≡ filled (a ++ p) o
both a p o h =
    rw (filled_whole a o (omega arith), take-append_seam a (drop (length a) o), drop-append_seam a (drop (length a) o), filled_whole p (drop (length a) o) (simp length-drop (omega arith)), filled_whole (a ++ p) o (rw (length-append a p) h), length-append a p, drop-drop)
    (sym (append_assoc a p (drop (length a + length p) o)))

-- one byte behind the first k
pub byte_behind : (o : List ℕ) (k b : ℕ) → k < length o → set o k b ≡ take k o ++ filled (b ∷ []) (drop k o)
byte_behind o k b h =
    let n : k + 1 ≡ suc k = omega arith in
    set_split o k b h
    ∙ ap (λ d. take k o ++ b ∷ d) (sym (drop-drop 1 k o ∙ ap (λ n. drop n o) n))
    ∙ ap (λ d. take k o ++ d) (sym (filled_whole (b ∷ []) (drop k o) (simp length-drop (omega arith))))

-- a list of one byte
pub one_of : (x : List ℕ) → length x ≡ 1 → x ≡ get_or x 0 0 ∷ []
one_of [] h = absurd (omega arith)
one_of (b ∷ []) h = refl
one_of (b ∷ c ∷ x) h = absurd (omega arith)

-- ---- the front of a stanza and its rest in a store

pub put_together_is : (input rest store copied part : List ℕ) (n : ℕ) → n ≤ length input → n + length rest ≤ length store → copied ≡ filled (take n input) store →
    part ≡ filled rest (take (length copied - n) (drop n copied)) →
    take n copied ++ (part ++ drop (length copied - n) (drop n copied)) ≡ (take n input ++ rest) ++ drop (n + length rest) store
put_together_is input rest store copied part n l m e f =
    let k : length (take n input) ≡ n = length-take-le n input l in
    let c : copied ≡ take n input ++ drop n store = e ∙ filled_whole (take n input) store (omega arith) ∙ ap (λ i. take n input ++ drop i store) k in
    let d : drop n copied ≡ drop n store = ap (drop n) c ∙ drop_at (take n input) (drop n store) n k in
    let t : take n copied ≡ take n input = ap (take n) c ∙ take_at (take n input) (drop n store) n k in
    let z : length (drop n store) ≡ length store - n = length-drop n store in
    put_rest n copied part ∙ ap₂ ◌++◌ t (f ∙ ap (filled rest) (part_rest n copied ∙ d) ∙ filled_whole rest (drop n store) (omega arith) ∙ ap (λ x. rest ++ x) (drop-drop (length rest) n store))
    ∙ sym (append_assoc (take n input) rest (drop (n + length rest) store))

-- what stands at the front of the store
store_front : (t store after : List ℕ) (n : ℕ) → after ≡ t ++ drop n store → length t ≡ n → take n after ≡ t
store_front t store after n e l = ap (take n) e ∙ take_at t (drop n store) n l

-- what was kept and the rest, in a store
pub joined_front : (input rest store after : List ℕ) (n k : ℕ) → n ≤ length input → length rest ≡ k → after ≡ (take n input ++ rest) ++ drop (n + length rest) store →
    take (n + k) after ≡ take n input ++ rest
joined_front input rest store after n k l r e =
    let z : length (take n input ++ rest) ≡ n + k = length-append (take n input) rest ∙ ap₂ ◌+◌ (length-take-le n input l) r in
    store_front (take n input ++ rest) store after (n + k) (e ∙ ap (λ i. (take n input ++ rest) ++ drop (n + i) store) r) z

-- ---- read back

-- the front of an unfinished stanza
pub front_back : (k o : List ℕ) → length k ≤ 8191 → 8192 ≤ length o → take (min (length k) 8191) (filled k o) ≡ k
front_back k o h m = rw (filled_whole k o (omega arith)) (take_at k (drop (length k) o) (min (length k) 8191) (omega arith))

-- the text that waits
pub awaited_back : (a k o : List ℕ) → length a ≤ 8192 → length k ≤ 8192 → 16384 ≤ length o → take (min (length a) 8192) (filled (a ++ k) o) ≡ a
awaited_back a k o h j m =
    rw (filled_whole (a ++ k) o (rw (length-append a k) (omega arith)), append_assoc a k (drop (length (a ++ k)) o))
    (take_at a (k ++ drop (length (a ++ k)) o) (min (length a) 8192) (omega arith))

-- .. and what was kept back behind it
pub kept_back : (a k o : List ℕ) → length a ≤ 8192 → length k ≤ 8192 → 16384 ≤ length o →
    take (min (length k) 8192) (drop (min (length a) 8192) (filled (a ++ k) o)) ≡ k
kept_back a k o h j m =
    rw (filled_whole (a ++ k) o (rw (length-append a k) (omega arith)), append_assoc a k (drop (length (a ++ k)) o), drop_at a (k ++ drop (length (a ++ k)) o) (min (length a) 8192) (omega arith))
    (take_at k (drop (length (a ++ k)) o) (min (length k) 8192) (omega arith))

-- ---- stored where it lies

-- a text's own first bytes, in two parts
own_parts : (a k : ℕ) (x : List ℕ) → filled (take a x ++ take k (drop a x)) x ≡ x
own_parts a k x =
    let t = take (a + k) x in
    let r = drop (a + k) x in
    ap (λ t. filled t x) (sym (take-add a k x))
    ∙ subst (λ y. filled t y ≡ y) (take-append-drop (a + k) x) (filled_whole t (t ++ r) (simp length-append (omega arith)) ∙ ap (λ y. t ++ y) (drop-append_seam t r))

-- what an end keeps, by its own input
pub stored_own : (e : End) (s : CodeSession) (xs hs : List (List ℕ)) (x : List ℕ) → stored_in (intake_of e s xs hs x) x ≡ x
stored_own e s xs hs x = own_parts (awaited_size e s) (kept_size e s) x
