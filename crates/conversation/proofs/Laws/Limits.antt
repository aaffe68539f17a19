-- One kind's table and the limits of its rows: slots, payload bytes and, for header stanzas, indices that never fall; for recipients, texts that differ.
use Prim.Native.Nat.{ℕ, zero, suc, ◌+◌, ◌-◌, ◌<◌, ◌≤◌}
use mathlib.Core.Path.{◌≡◌, refl, sym, ap, ap₂, ◌∙◌, subst}
use mathlib.Core.Bool.{Bool, true, false, ◌||◌, true≢false}
use mathlib.Core.Logic.{◌↔◌}
use mathlib.Core.List.{List, [], ◌∷◌, ◌++◌, map, map-append, append-nil}
use lib.Dec.{ltb, leb, eqb}
use lib.ListN.{length, take, drop, get_or, length-append, length-take, length-drop}
use lib.Seq.{take-suc}
use native.Mathlib.Omega.{arith}
use borrow.Author.Tests.{ltb-true, ltb-false, leb-true, lt-ltb, le-ltb, le-leb}
use Rattle.refusal.specs.Pick.{pick}
use Rattle.refusal.specs.Same.{same as same_text}
use Rattle.refusal.proofs.Laws.Booleans.{and_true, true_and, cases}
use Rattle.refusal.proofs.Laws.Same.{same_refl, same_eq}
use Rattle.tables.specs.declared.slots.Entry.{Entry}
use Rattle.tables.specs.Repeats.{shows, any_shows, repeats}
use Rattle.tables.specs.Tables.{Table, Row, empty, fits, entered, row_of, view, placed, kept}
use Rattle.tables.proofs.Laws.Repeats.{shows_held}
use Rattle.tables.proofs.Laws.Tables.{Kept, Filled, Chained, chain_le, view_count}
use Rattle.phase_one.specs.PhaseOne.{falls}
use Rattle.phase_one.proofs.Laws.PhaseOne.{falls_none, falls_is}
use Rattle.phase_one.specs.Views.{KindOne, recipients, identities, keys, headers}
use Rattle.conversation.specs.Allowed.{slots_of, bytes_of, Rising, Distinct}
use Rattle.conversation.specs.Phases.{All}
use Rattle.conversation.proofs.Laws.Lists.{all_append}

-- ---- the limits of a list of rows

-- header stanza indices never fall, and no recipient's text is another's; the other kinds have no such limit
abbrev pub Ordered : KindOne → List Row → Type 0
Ordered recipients rs = Distinct rs
Ordered identities rs = Unit
Ordered keys rs = Unit
Ordered headers rs = Rising rs

-- the limits of a kind whose buffer has n bytes
pub record Within (k : KindOne) (n : ℕ) (rs : List Row) : Type 0 where
  pub slots : length rs ≤ slots_of k
  pub bytes : bytes_of rs ≤ n
  pub ordered : Ordered k rs

bytes_append : (xs ys : List Row) → bytes_of (xs ++ ys) ≡ bytes_of xs + bytes_of ys
unfolding bytes_of
bytes_append [] ys = omega arith
bytes_append (a ∷ xs) ys = omega (arith, bytes_append xs ys)

rising_front : (xs ys : List Row) → Rising (xs ++ ys) → Rising xs
unfolding Rising
rising_front [] ys h = tt
rising_front (a ∷ []) ys h = tt
rising_front (a ∷ c ∷ xs) ys h = (h.0, rising_front (c ∷ xs) ys h.1)

distinct_front : (xs ys : List Row) → Distinct (xs ++ ys) → Distinct xs
unfolding Distinct
distinct_front [] ys h = tt
distinct_front (a ∷ xs) ys h = (((all_append (λ q. a.payload ≡ q.payload → ⊥) xs ys).0 h.0).0, distinct_front xs ys h.1)

ordered_front : (k : KindOne) (xs ys : List Row) → Ordered k (xs ++ ys) → Ordered k xs
ordered_front recipients xs ys h = distinct_front xs ys h
ordered_front identities xs ys h = tt
ordered_front keys xs ys h = tt
ordered_front headers xs ys h = rising_front xs ys h

-- the front of rows within the limits is within them
pub within_front : (k : KindOne) (n : ℕ) (xs ys : List Row) → Within k n (xs ++ ys) → Within k n xs
within_front k n xs ys w = record {
  slots = omega (arith, w.slots, length-append xs ys);
  bytes = omega (arith, w.bytes, bytes_append xs ys);
  ordered = ordered_front k xs ys w.ordered;
}

-- ---- indices that never fall: the next one and the last

unfoldable pub last_of : List Row → ℕ
last_of [] = 0
last_of (r ∷ []) = r.index
last_of (r ∷ q ∷ rs) = last_of (q ∷ rs)

pub last_is : (rs : List Row) (r : Row) → last_of (rs ++ (r ∷ [])) ≡ r.index
unfolding last_of
last_is [] r = refl
last_is (q ∷ []) r = refl
last_is (q ∷ s ∷ rs) r = last_is (s ∷ rs) r

rising_more : (rs : List Row) (r : Row) → Rising rs → last_of rs ≤ r.index → Rising (rs ++ (r ∷ []))
unfolding Rising last_of
rising_more [] r h l = tt
rising_more (q ∷ []) r h l = (l, tt)
rising_more (q ∷ s ∷ rs) r h l = (h.0, rising_more (s ∷ rs) r h.1 l)

rising_last : (rs : List Row) (r : Row) → Rising (rs ++ (r ∷ [])) → last_of rs ≤ r.index
unfolding Rising last_of
rising_last [] r h = omega arith
rising_last (q ∷ []) r h = h.0
rising_last (q ∷ s ∷ rs) r h = rising_last (s ∷ rs) r h.1

-- ---- payloads that differ: the next one and those before

-- no row has this payload
abbrev pub Without : List ℕ → List Row → Type 0
Without p rs = All (λ q. q.payload ≡ p → ⊥) rs

pub distinct_more : (rs : List Row) (r : Row) → Distinct rs → Without r.payload rs → Distinct (rs ++ (r ∷ []))
unfolding Distinct All
distinct_more [] r h w = (tt, tt)
distinct_more (q ∷ rs) r h w = ((all_append (λ x. q.payload ≡ x.payload → ⊥) rs (r ∷ [])).1 (h.0, (w.0, tt)), distinct_more rs r h.1 w.1)

distinct_last : (rs : List Row) (r : Row) → Distinct (rs ++ (r ∷ [])) → Without r.payload rs
unfolding Distinct All
distinct_last [] r h = tt
distinct_last (q ∷ rs) r h = (((all_append (λ x. q.payload ≡ x.payload → ⊥) rs (r ∷ [])).0 h.0).1.0, distinct_last rs r h.1)

-- entries that the buffer is long enough for show a text exactly if a row has it as its payload
chain_without : (es : List Entry) (s u : ℕ) (b p : List ℕ) → Chained s es u → u ≤ length b → (any_shows es b p ≡ false) ↔ Without p (map (row_of b) es)
unfolding Chained All any_shows
chain_without [] s u b p h g = (λ e. tt, λ w. refl)
chain_without (e ∷ es) s u b p h g =
    let i = chain_without es (s + e.length) u b p h.1 g in
    let q = shows_held e b p (omega (arith, h.0, chain_le es (s + e.length) u h.1)) in
    let x = take e.length (drop e.start b) in (
      λ f. let o = or_false (shows e b p) (any_shows es b p) f in (λ y. true≢false (sym (same_refl p) ∙ ap (λ z. same_text z p) (sym y) ∙ sym q ∙ o.0), i.0 o.1),
      λ w. cases (same_text x p) (λ f. absurd (w.0 (same_eq x p f))) (λ f. ap₂ (λ a b. a || b) (q ∙ f) (i.1 w.1)),
    )
  where
    or_false : (a b : Bool) → (a || b) ≡ false → (a ≡ false) × (b ≡ false)
    or_false true b f = absurd (true≢false f)
    or_false false b f = (refl, f)

-- so it is repeated exactly if it is the payload of a row
pub no_repeat : (t : Table) (b p : List ℕ) → Kept t → t.used ≤ length b → (repeats t b p ≡ false) ↔ Without p (view t b)
no_repeat t b p k g = chain_without (take t.count t.slots) 0 t.used b p k.chained g

-- ---- a table's bytes and last index are those of its view

chain_bytes : (es : List Entry) (s u : ℕ) (b : List ℕ) → Chained s es u → u ≤ length b → s + bytes_of (map (row_of b) es) ≡ u
unfolding Chained bytes_of
chain_bytes [] s u b h g = omega arith
chain_bytes (e ∷ es) s u b h g =
    let i = chain_bytes es (s + e.length) u b h.1 g in
    let q : length (take e.length (drop e.start b)) ≡ e.length = simp (length-take, length-drop) (omega (arith, h.0)) in
    omega (arith, h.0)

view_bytes : (t : Table) (b : List ℕ) → Kept t → t.used ≤ length b → bytes_of (view t b) ≡ t.used
view_bytes t b k g = omega (arith, chain_bytes (take t.count t.slots) 0 t.used b k.chained g)

view_last : (es : List Entry) (n : ℕ) (b : List ℕ) → 0 < n → n ≤ length es → last_of (map (row_of b) (take n es)) ≡ (get_or es (n - 1) empty).index
view_last es zero b h g = absurd (omega arith)
view_last es (suc n) b h g =
    let q : suc n - 1 ≡ n = omega arith in
    ap (λ l. last_of (map (row_of b) l)) (take-suc es n empty (omega arith)) ∙ ap last_of (map-append (row_of b) (take n es) (get_or es n empty ∷ []))
    ∙ last_is (map (row_of b) (take n es)) (row_of b (get_or es n empty)) ∙ ap (λ j. (get_or es j empty).index) (sym q)

-- an index does not fall exactly if it is not below the last row's
pub no_fall : (t : Table) (i : ℕ) (b : List ℕ) → Kept t → (falls t i ≡ false) ↔ (last_of (view t b) ≤ i)
unfolding last_of
no_fall t i b k =
    cases (ltb 0 t.count)
    (λ e. let h = ltb-true 0 t.count e in
    let q = falls_is t i h k.counted in
    let l = view_last t.slots t.count b h (omega (arith, k.counted, k.wide)) in
    (λ f. omega (arith, ltb-false i (get_or t.slots (t.count - 1) empty).index (q ∙ f)), λ g. sym q ∙ le-ltb i (get_or t.slots (t.count - 1) empty).index (omega arith)))
    (λ e. let z : t.count ≡ 0 = omega (arith, ltb-false 0 t.count e) in
    let l : last_of (view t b) ≡ 0 = ap (λ n. last_of (map (row_of b) (take n t.slots))) z in
    (λ f. omega arith, λ g. sym (falls_none t i z)))

-- ---- a kind's table and its buffer between calls

pub record Held (k : KindOne) (t : Table) (b : List ℕ) : Type 0 where
  pub reached : Filled t
  pub wide : t.width ≡ slots_of k
  pub room : t.used ≤ length b
  pub ordered : Ordered k (view t b)

-- a header stanza's index does not fall, a recipient's text is not shown
abbrev pub Passes : KindOne → Table → List ℕ → Row → Type 0
Passes recipients t b r = repeats t b r.payload ≡ false
Passes identities t b r = Unit
Passes keys t b r = Unit
Passes headers t b r = falls t r.index ≡ false

module _ (t : Table) (b : List ℕ) (r : Row) where
  passes_ordered : (k : KindOne) → Kept t → t.used ≤ length b → Ordered k (view t b) → Passes k t b r → Ordered k (view t b ++ (r ∷ []))
  passes_ordered recipients h u o p = distinct_more (view t b) r o ((no_repeat t b r.payload h u).0 p)
  passes_ordered identities h u o p = tt
  passes_ordered keys h u o p = tt
  passes_ordered headers h u o p = rising_more (view t b) r o ((no_fall t r.index b h).0 p)

  ordered_passes : (k : KindOne) → Kept t → t.used ≤ length b → Ordered k (view t b ++ (r ∷ [])) → Passes k t b r
  ordered_passes recipients h u o = (no_repeat t b r.payload h u).1 (distinct_last (view t b) r o)
  ordered_passes identities h u o = tt
  ordered_passes keys h u o = tt
  ordered_passes headers h u o = (no_fall t r.index b h).1 (rising_last (view t b) r o)

  one_bytes : bytes_of (view t b ++ (r ∷ [])) ≡ bytes_of (view t b) + length r.payload
  unfolding bytes_of
  one_bytes = omega (arith, bytes_append (view t b) (r ∷ []))

  -- one row more is within the limits exactly if it fits and passes
  fits_within : (k : KindOne) → Held k t b → fits t (length r.payload) (length b) ≡ true → Passes k t b r → Within k (length b) (view t b ++ (r ∷ []))
  fits_within k h f p =
      let a = and_true (ltb t.count t.width) (leb (t.used + length r.payload) (length b)) f in
      record {
        slots = omega (arith, ltb-true t.count t.width a.0, view_count t b h.reached.kept_so, length-append (view t b) (r ∷ []), h.wide);
        bytes = omega (arith, leb-true (t.used + length r.payload) (length b) a.1, view_bytes t b h.reached.kept_so h.room, one_bytes);
        ordered = passes_ordered k h.reached.kept_so h.room h.ordered p;
      }

  pub within_fits : (k : KindOne) → Held k t b → Within k (length b) (view t b ++ (r ∷ [])) → (fits t (length r.payload) (length b) ≡ true) × Passes k t b r
  within_fits k h w =
      let s : t.count < t.width = omega (arith, w.slots, view_count t b h.reached.kept_so, length-append (view t b) (r ∷ []), h.wide) in
      let u : t.used + length r.payload ≤ length b = omega (arith, w.bytes, view_bytes t b h.reached.kept_so h.room, one_bytes) in
      (true_and (ltb t.count t.width) (leb (t.used + length r.payload) (length b)) (lt-ltb t.count t.width s) (le-leb (t.used + length r.payload) (length b) u), ordered_passes k h.reached.kept_so h.room w.ordered)

-- ---- what one command does to a kind's table and buffer, where the decision is the number d: nothing, or one entry more

pub data Grown (k : KindOne) (t : Table) (b : List ℕ) (d : ℕ) : List Row → Table → List ℕ → Type 0 where
  same : Grown k t b d [] t b
  more : (p : List ℕ) (i m : ℕ) → (d ≡ 0 → (fits t (length p) (length b) ≡ true) × Passes k t b (record { payload = p; index = i; mark = m })) →
      Grown k t b d (record { payload = p; index = i; mark = m } ∷ []) (entered t (length p) i m (length b)) (kept t p b)

held_within : {k : KindOne} {t : Table} {b : List ℕ} → Held k t b → Within k (length b) (view t b)
held_within {t = t} {b = b} h = record {
  slots = omega (arith, h.reached.kept_so.counted, view_count t b h.reached.kept_so, h.wide);
  bytes = omega (arith, view_bytes t b h.reached.kept_so h.room, h.room);
  ordered = h.ordered;
}

pub placed_length : (t : Table) (p b : List ℕ) → fits t (length p) (length b) ≡ true → length (placed t p b) ≡ length b
placed_length t p b f =
    let u = leb-true (t.used + length p) (length b) (and_true (ltb t.count t.width) (leb (t.used + length p) (length b)) f).1 in
    simp (length-append, length-take, length-drop) (omega arith)

module _ {k : KindOne} {t : Table} {b : List ℕ} {d : ℕ} where
  -- one row or none
  pub grown_rows : {rs : List Row} {t' : Table} {b' : List ℕ} → Grown k t b d rs t' b' → rs ≡ pick (eqb (length rs) 1) (rs ++ []) []
  grown_rows same = refl
  grown_rows (more p i m f) = refl

  -- the rows so far and its own are within the limits
  pub grown_within : {rs : List Row} {t' : Table} {b' : List ℕ} → Grown k t b d rs t' b' → d ≡ 0 → Held k t b → Within k (length b) (view t b ++ rs)
  grown_within same z h = subst (Within k (length b)) (sym (append-nil (view t b))) (held_within h)
  grown_within (more p i m f) z h = fits_within t b (record { payload = p; index = i; mark = m }) k h (f z).0 (f z).1

  -- buffers keep their lengths
  pub grown_length : {rs : List Row} {t' : Table} {b' : List ℕ} → Grown k t b d rs t' b' → d ≡ 0 → length b' ≡ length b
  grown_length same z = refl
  grown_length (more p i m f) z = let q = (f z).0 in rw q (placed_length t p b q)

  pub grown_held : {rs : List Row} {t' : Table} {b' : List ℕ} → Grown k t b d rs t' b' → d ≡ 0 → Held k t b → Filled t' → view t' b' ≡ view t b ++ rs → Held k t' b'
  grown_held same z h x e = h
  grown_held (more p i m f) z h x e =
      let q = (f z).0 in
      record {
        reached = x;
        wide = rw q h.wide;
        room = rw q (omega (arith, placed_length t p b q, leb-true (t.used + length p) (length b) (and_true (ltb t.count t.width) (leb (t.used + length p) (length b)) q).1));
        ordered = subst (Ordered k) (sym e) (fits_within t b (record { payload = p; index = i; mark = m }) k h q (f z).1).ordered;
      }
