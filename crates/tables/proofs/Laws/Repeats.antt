-- A text among those that entries show; and what it says of a table that an opening and calls can reach.
use Prim.Native.Nat.{ℕ, zero, suc, ◌+◌, ◌<◌, ◌≤◌}
use mathlib.Core.Path.{◌≡◌, refl, sym, ap, ap₂, ◌∙◌, subst}
use mathlib.Core.Bool.{Bool, true, false, ◌||◌, false≢true}
use mathlib.Core.Logic.{◌↔◌}
use mathlib.Core.List.{List, [], ◌∷◌, map, reverse}
use lib.Dec.{leb}
use lib.ListN.{length, take, drop, get_or, length-take, length-drop, drop_of_length-le}
use lib.Seq.{get_or-take, length-take-le}
use native.Mathlib.Omega.{arith}
use borrow.Author.Tests.{le-leb, leb-true}
use Rattle.std.proofs.Common.{Some, None, Bor, All, zip}
use Rattle.std.proofs.lemmas.List.{reverse-reverse, length-reverse}
use Rattle.std.proofs.lemmas.List.Elements.{All-head, All-tail}
use Rattle.std.proofs.lemmas.Slice.Zip.{firsts-zip, seconds-zip}
use Rattle.refusal.specs.Same.{same}
use Rattle.refusal.proofs.Laws.Booleans.{and_true, true_and, cases}
use Rattle.refusal.proofs.Laws.Lists.{drop_one}
use Rattle.refusal.proofs.Laws.Same.{same_refl, same_eq, same_length}
use Rattle.tables.specs.Slots.{entry_of}
use Rattle.tables.specs.Tables.{Table, empty, found, shown, part_in, end_of}
use Rattle.tables.specs.Repeats.{shows, any_shows, repeats}
use Rattle.tables.specs.declared.slots.Entry.{Entry}
use Rattle.tables.proofs.Laws.LookUp.{slot_of, there}
use Rattle.tables.proofs.Laws.Tables.{Kept}

-- ---- one entry

part_length : (start n : ℕ) (buffer : List ℕ) → start + n ≤ length buffer → length (take n (drop start buffer)) ≡ n
part_length start n buffer h = simp (length-take, length-drop) (omega arith)

pub part_long : (start n : ℕ) (buffer part : List ℕ) → Some part ≡ part_in start n buffer → length part ≡ n
part_long start n buffer part p =
    cases (leb (start + n) (length buffer))
    (λ f. let q : Some part ≡ Some (take n (drop start buffer)) = p ∙ rw f in
    let r : part ≡ take n (drop start buffer) = cc in
    ap length r ∙ part_length start n buffer (leb-true (start + n) (length buffer) f))
    (λ f. let q : Some part ≡ None = p ∙ rw f in cc)

module _ (e : Entry) (buffer text : List ℕ) where
  pub shows_held : e.start + e.length ≤ length buffer → shows e buffer text ≡ same (take e.length (drop e.start buffer)) text
  shows_held h = rw (le-leb (e.start + e.length) (length buffer) h)

  pub shows_other : (e.length ≡ length text → ⊥) → shows e buffer text ≡ false
  shows_other n =
      cases (leb (e.start + e.length) (length buffer))
      (λ f. let h = leb-true (e.start + e.length) (length buffer) f in
      shows_held h ∙ same_length (take e.length (drop e.start buffer)) text (λ q. n (sym (part_length e.start e.length buffer h) ∙ q)))
      (λ f. rw f)

  pub shows_none : None ≡ part_in e.start e.length buffer → shows e buffer text ≡ false
  shows_none p =
      cases (leb (e.start + e.length) (length buffer))
      (λ f. let q : None ≡ Some (take e.length (drop e.start buffer)) = p ∙ rw f in cc)
      (λ f. rw f)

  -- the part of the buffer
  pub shows_part : (part : List ℕ) → Some part ≡ part_in e.start e.length buffer → shows e buffer text ≡ same part text
  shows_part part p =
      cases (leb (e.start + e.length) (length buffer))
      (λ f. let q : Some part ≡ Some (take e.length (drop e.start buffer)) = p ∙ rw f in
      let r : take e.length (drop e.start buffer) ≡ part = cc in
      shows_held (leb-true (e.start + e.length) (length buffer) f) ∙ ap (λ l. same l text) r)
      (λ f. let q : Some part ≡ None = p ∙ rw f in cc)

-- ---- bytes compared from the last

-- the pairs of the bytes of two texts, from the last
abbrev pub pairs : List ℕ → List ℕ → List (ℕ × ℕ)
pairs a b = zip (reverse a) (reverse b)

-- the bytes that a pair of references is to
abbrev pub bytes_of : Bor ℕ × Bor ℕ → ℕ × ℕ
bytes_of p = (p.0.now, p.1.now)

-- they are equal
abbrev pub are_equal : Bor ℕ × Bor ℕ → Type 0
are_equal p = p.0.now ≡ p.1.now

-- one pair differs
pub one_differs : (a b : List ℕ) (i : ℕ) (x : ℕ × ℕ) → (i < length (pairs a b)) × (x ≡ get_or (pairs a b) i x) → (x.0 ≡ x.1 → ⊥) → same a b ≡ false
one_differs a b i x p n =
    cases (same a b)
    (λ e. let t = subst (λ c. (i < length (pairs a c)) × (x ≡ get_or (pairs a c) i x)) (sym (same_eq a b e)) p in
    absurd (n (ap (λ y. y.0) t.1 ∙ alike (reverse a) i x t.0 ∙ sym (ap (λ y. y.1) t.1))))
    (λ e. e)
  where
    alike : (r : List ℕ) (i : ℕ) (d : ℕ × ℕ) → i < length (zip r r) → (get_or (zip r r) i d).0 ≡ (get_or (zip r r) i d).1
    alike [] i d h = absurd (omega arith)
    alike (x ∷ r) zero d h = refl
    alike (x ∷ r) (suc i) d h = alike r i d (omega arith)

-- none does
pub none_differs : (a b : List ℕ) (xs : List (Bor ℕ × Bor ℕ)) → map bytes_of xs ≡ pairs a b → length a ≡ length b → All are_equal xs → same a b ≡ true
none_differs a b xs m l q =
    let n : length (reverse b) ≡ length (reverse a) = length-reverse b ∙ sym l ∙ sym (length-reverse a) in
    let r : reverse a ≡ reverse b =
    sym (firsts-zip (reverse a) (reverse b) n) ∙ ap (map (λ (p : ℕ × ℕ). p.0)) (sym m) ∙ halves xs q ∙ ap (map (λ (p : ℕ × ℕ). p.1)) m ∙ seconds-zip (reverse a) (reverse b) n in
    subst (λ t. same a t ≡ true) (sym (reverse-reverse a) ∙ ap reverse r ∙ reverse-reverse b) (same_refl a)
  where
    halves : (xs : List (Bor ℕ × Bor ℕ)) → All are_equal xs → map (λ (p : ℕ × ℕ). p.0) (map bytes_of xs) ≡ map (λ (p : ℕ × ℕ). p.1) (map bytes_of xs)
    halves [] q = refl
    halves (x ∷ xs) q = ap₂ (λ y ys. y ∷ ys) (All-head are_equal x xs q) (halves xs (All-tail are_equal x xs q))

-- ---- one slot on

module _ (slots : List (List ℕ)) (buffer text : List ℕ) where
  -- what the slots from a number on show
  abbrev pub shown_from : ℕ → Bool
  shown_from i = any_shows (map entry_of (drop i slots)) buffer text

  module _ (i : ℕ) (l : i < length slots) (e : Entry) (x : e ≡ entry_of (get_or slots i [])) where
    slot_on : shown_from i ≡ (shows e buffer text || shown_from (i + 1))
    unfolding any_shows
    slot_on = ap (λ t. any_shows (map entry_of t) buffer text) (drop_one slots i [] l) ∙ ap (λ y. shows y buffer text || shown_from (i + 1)) (sym x)

    pub missed : shows e buffer text ≡ false → shown_from i ≡ shown_from (i + 1)
    missed s = slot_on ∙ ap (λ b. b || shown_from (i + 1)) s

    pub met : shows e buffer text ≡ true → shown_from i ≡ true
    met s = slot_on ∙ ap (λ b. b || shown_from (i + 1)) s

  pub none_left : (i : ℕ) → length slots ≤ i → shown_from i ≡ false
  unfolding any_shows
  none_left i h = ap (λ t. any_shows (map entry_of t) buffer text) (drop_of_length-le slots {i = i} h)

-- ---- of a table that an opening and calls can reach

any_some : (es : List Entry) (buffer text : List ℕ) → any_shows es buffer text ≡ true → (n : ℕ) × (n < length es) × (shows (get_or es n empty) buffer text ≡ true)
unfolding any_shows
any_some [] buffer text e = absurd (false≢true e)
any_some (x ∷ es) buffer text e =
    cases (shows x buffer text) (λ f. (0, omega arith, f))
    (λ f. let r = any_some es buffer text (sym (ap (λ b. b || any_shows es buffer text) f) ∙ e) in (suc r.0, omega (arith, r.1), r.2))

some_any : (es : List Entry) (buffer text : List ℕ) (n : ℕ) → n < length es → shows (get_or es n empty) buffer text ≡ true → any_shows es buffer text ≡ true
unfolding any_shows
some_any [] buffer text n h e = absurd (omega arith)
some_any (x ∷ es) buffer text zero h e = ap (λ b. b || any_shows es buffer text) e
some_any (x ∷ es) buffer text (suc n) h e =
    cases (shows x buffer text) (λ f. ap (λ b. b || any_shows es buffer text) f) (λ f. ap (λ b. b || any_shows es buffer text) f ∙ some_any es buffer text n (omega arith) e)

-- a text is repeated exactly if a look-up of some number shows it, and the buffer is long enough for that entry
module _ (t : Table) (buffer text : List ℕ) (k : Kept t) where
  abbrev entries : List Entry
  entries = take t.count t.slots

  entries_length : length entries ≡ t.count
  entries_length = length-take-le t.count t.slots (omega (arith, k.counted, k.wide))

  entry_is : (n : ℕ) → n < t.count → get_or entries n empty ≡ slot_of t n
  entry_is n h = get_or-take t.count t.slots n empty h

  pub repeats_iff : (repeats t buffer text ≡ true) ↔ ((n : ℕ) × (n < t.count) × (end_of t n ≤ length buffer) × (shown (found t n) buffer ≡ text))
  repeats_iff = (
    λ e. let r = any_some entries buffer text e in
        let h : r.0 < t.count = omega (arith, r.1, entries_length) in
        let a = and_true _ _ (subst (λ x. shows x buffer text ≡ true) (entry_is r.0 h) r.2) in
        (r.0, h, leb-true (end_of t r.0) (length buffer) a.0, ap (λ x. shown x buffer) (there t r.0 k h) ∙ rw a.0 (same_eq _ text a.1)),
    λ x. let n = x.0 in
        let u = le-leb (end_of t n) (length buffer) x.2 in
        let q : take (slot_of t n).length (drop (slot_of t n).start buffer) ≡ text = sym (ap (λ y. shown y buffer) (there t n k x.1) ∙ rw u) ∙ x.3 in
        some_any entries buffer text n (omega (arith, x.1, entries_length))
        (subst (λ y. shows y buffer text ≡ true) (sym (entry_is n x.1)) (true_and _ _ u (subst (λ p. same p text ≡ true) (sym q) (same_refl text)))),
  )
