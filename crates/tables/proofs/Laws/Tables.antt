-- Tables: one entry more, once for every kind.
use Prim.Native.Nat.{ℕ, suc, ◌+◌, ◌-◌, ◌<◌, ◌≤◌}
use mathlib.Core.Path.{◌≡◌, refl, sym, ap, ap₂, ◌∙◌, subst}
use mathlib.Core.Bool.{true, false}
use mathlib.Core.List.{List, [], ◌∷◌, ◌++◌, map, map-append, append_assoc}
use lib.Dec.{ltb, leb}
use lib.ListN.{length, take, drop, set, replicate, length-drop, length-set, length-replicate, length-map}
use lib.Seq.{length-take-le, take-append-le, drop-append-le, take-suc-set, drop_at, take-take, drop-drop, drop-set-lt, take-append_seam}
use native.Mathlib.Nat.{sub-zero}
use native.Mathlib.Omega.{arith}
use borrow.Author.Tests.{ltb-true, leb-true}
use Rattle.refusal.specs.Pick.{pick}
use Rattle.refusal.proofs.Laws.Booleans.{and_true, cases}
use Rattle.refusal.proofs.Laws.Lists.{drop_take}
use Rattle.tables.specs.Tables.{Table, empty, opened, fits, storing, appended, entered, row_of, view, placed, kept}
use Rattle.tables.specs.declared.slots.Entry.{Entry}

-- ---- what storing comes to

module _ (t : Table) (n capacity late : ℕ) where
  -- 8 first
  pub storing_full : fits t n capacity ≡ false → 8 ≡ storing t n capacity late
  storing_full f = rw f

  -- nothing is refused only if it fits
  pub storing_fits : storing t n capacity late ≡ 0 → fits t n capacity ≡ true
  storing_fits z = cases (fits t n capacity) (λ f. f) (λ f. absurd (let e = storing_full f in omega (arith, e, z)))

-- ---- tables that an opening and calls can reach: entries one behind the other, the rest of the slots as opened

-- payloads one behind the other from s to u
unfoldable pub Chained : ℕ → List Entry → ℕ → Type 0
Chained s [] u = s ≡ u
Chained s (e ∷ es) u = (e.start ≡ s) × Chained (s + e.length) es u

-- no payload is empty
unfoldable pub AllSome : List Entry → Type 0
AllSome [] = Unit
AllSome (e ∷ es) = (0 < e.length) × AllSome es

pub record Kept (t : Table) : Type 0 where
  pub counted : t.count ≤ t.width
  pub wide : length t.slots ≡ t.width
  pub chained : Chained 0 (take t.count t.slots) t.used
  pub rest : drop t.count t.slots ≡ replicate (t.width - t.count) empty

-- the same with no empty payload: every kind but errors, whose messages may be empty
pub record Filled (t : Table) : Type 0 where
  pub kept_so : Kept t
  pub some : AllSome (take t.count t.slots)

-- an opened table is one, and shows nothing
pub opened_kept : (n : ℕ) → Kept (opened n)
unfolding Chained
opened_kept n = record { counted = omega arith; wide = length-replicate n empty; chained = refl; rest = ap (λ k. replicate k empty) (sym (sub-zero n)) }

pub opened_filled : (n : ℕ) → Filled (opened n)
unfolding AllSome
opened_filled n = record { kept_so = opened_kept n; some = tt }

pub opened_view : (n : ℕ) (buffer : List ℕ) → view (opened n) buffer ≡ []
opened_view n buffer = refl

-- ---- one entry more

pub chain_le : (es : List Entry) (s u : ℕ) → Chained s es u → s ≤ u
unfolding Chained
chain_le [] s u h = omega arith
chain_le (e ∷ es) s u h = omega (arith, chain_le es (s + e.length) u h.1)

chain_more : (es : List Entry) (e : Entry) (s u : ℕ) → Chained s es u → e.start ≡ u → Chained s (es ++ (e ∷ [])) (u + e.length)
unfolding Chained
chain_more [] e s u h q = (q ∙ sym h, ap (λ x. x + e.length) h)
chain_more (x ∷ es) e s u h q = (h.0, chain_more es e (s + x.length) u h.1 q)

some_more : (es : List Entry) (e : Entry) → AllSome es → 0 < e.length → AllSome (es ++ (e ∷ []))
unfolding AllSome
some_more [] e h g = (g, tt)
some_more (x ∷ es) e h g = (h.0, some_more es e h.1 g)

-- the number of an entry is the count before: it stands behind those that are there
slots_more : (t : Table) (e : Entry) → Kept t → t.count < t.width → take (t.count + 1) (set t.slots t.count e) ≡ take t.count t.slots ++ (e ∷ [])
slots_more t e k h =
    let n : t.count + 1 ≡ suc t.count = omega arith in
    ap (λ j. take j (set t.slots t.count e)) n ∙ take-suc-set t.slots t.count e (omega (arith, k.wide))

pub appended_kept : (t : Table) (n index mark : ℕ) → Kept t → t.count < t.width → Kept (appended t n index mark)
appended_kept t n index mark k h =
    let e : Entry = record { start = t.used; length = n; index = index; mark = mark } in
    let w : t.width - t.count ≡ suc (t.width - (t.count + 1)) = omega arith in
    record {
      counted = omega arith;
      wide = length-set t.slots t.count e ∙ k.wide;
      chained = subst (λ l. Chained 0 l (t.used + n)) (sym (slots_more t e k h)) (chain_more (take t.count t.slots) e 0 t.used k.chained refl);
      rest = drop-set-lt (t.count + 1) t.slots t.count e (omega arith) ∙ sym (drop-drop 1 t.count t.slots) ∙ ap (drop 1) (k.rest ∙ ap (λ j. replicate j empty) w);
    }

appended_filled : (t : Table) (n index mark : ℕ) → Filled t → 0 < n → t.count < t.width → Filled (appended t n index mark)
appended_filled t n index mark k g h =
    let e : Entry = record { start = t.used; length = n; index = index; mark = mark } in
    record { kept_so = appended_kept t n index mark k.kept_so h; some = subst AllSome (sym (slots_more t e k.kept_so h)) (some_more (take t.count t.slots) e k.some g) }

-- what lies before u is not touched by what is written from u on
part_same : (s l u : ℕ) (b x : List ℕ) → s + l ≤ u → u ≤ length b → take l (drop s (take u b ++ x)) ≡ take l (drop s b)
part_same s l u b x h g =
    let n : length (take u b) ≡ u = length-take-le u b g in
    let m : length (drop s (take u b)) ≡ u - s = length-drop s (take u b) ∙ ap (λ j. j - s) n in
    ap (take l) (drop-append-le s (take u b) x (omega arith)) ∙ take-append-le l (drop s (take u b)) x (omega arith) ∙ ap (take l) (drop_take s u b) ∙ take-take l (u - s) (drop s b) (omega arith)

-- so earlier entries keep their payloads
rows_same : (es : List Entry) (s u : ℕ) (b x : List ℕ) → Chained s es u → u ≤ length b → map (row_of (take u b ++ x)) es ≡ map (row_of b) es
unfolding Chained
rows_same [] s u b x h g = refl
rows_same (e ∷ es) s u b x h g =
    let l = chain_le es (s + e.length) u h.1 in
    let p : take e.length (drop e.start (take u b ++ x)) ≡ take e.length (drop e.start b) = part_same e.start e.length u b x (omega (arith, h.0)) g in
    ap₂ (λ q l. record { payload = q; index = e.index; mark = e.mark } ∷ l) p (rows_same es (s + e.length) u b x h.1 g)

-- the payload stands where its entry says
payload_there : (u : ℕ) (p b : List ℕ) → u ≤ length b → take (length p) (drop u (take u b ++ p ++ drop (u + length p) b)) ≡ p
payload_there u p b g =
    ap (λ l. take (length p) (drop u l)) (append_assoc (take u b) p (drop (u + length p) b))
    ∙ ap (take (length p)) (drop_at (take u b) (p ++ drop (u + length p) b) u (length-take-le u b g)) ∙ take-append_seam p (drop (u + length p) b)

-- an accepted command appends exactly one row; earlier rows stay
pub appended_view : (t : Table) (p b : List ℕ) (index mark : ℕ) → Kept t → fits t (length p) (length b) ≡ true →
    view (appended t (length p) index mark) (placed t p b) ≡ view t b ++ (record { payload = p; index = index; mark = mark } ∷ [])
appended_view t p b index mark k f =
    let e : Entry = record { start = t.used; length = length p; index = index; mark = mark } in
    let a = and_true (ltb t.count t.width) (leb (t.used + length p) (length b)) f in
    let h = ltb-true t.count t.width a.0 in
    let g = leb-true (t.used + length p) (length b) a.1 in
    let u : t.used ≤ length b = omega arith in
    let x : List ℕ = p ++ drop (t.used + length p) b in
    let s : placed t p b ≡ take t.used b ++ x = append_assoc (take t.used b) p (drop (t.used + length p) b) in
    let es = take t.count t.slots in
    ap (map (row_of (placed t p b))) (slots_more t e k h) ∙ map-append (row_of (placed t p b)) es (e ∷ [])
    ∙ ap₂ (λ r q. r ++ (record { payload = q; index = index; mark = mark } ∷ [])) (ap (λ l. map (row_of l) es) s ∙ rows_same es 0 t.used b x k.chained u) (payload_there t.used p b u)

-- the count is the number of entries
pub view_count : (t : Table) (b : List ℕ) → Kept t → length (view t b) ≡ t.count
view_count t b k = length-map (take t.count t.slots) (row_of b) ∙ length-take-le t.count t.slots (omega (arith, k.counted, k.wide))

-- the law of a kind's command, whether it fits or not
pub entered_view : (t : Table) (p b : List ℕ) (index mark : ℕ) → Kept t →
    view (entered t (length p) index mark (length b)) (kept t p b) ≡ pick (fits t (length p) (length b)) (view t b ++ (record { payload = p; index = index; mark = mark } ∷ [])) (view t b)
entered_view t p b index mark k = cases (fits t (length p) (length b)) (λ f. rw f (appended_view t p b index mark k f)) (λ f. rw f)

entered_slot : (t : Table) (n capacity : ℕ) → fits t n capacity ≡ true → t.count < t.width
entered_slot t n capacity f = ltb-true t.count t.width (and_true (ltb t.count t.width) (leb (t.used + n) capacity) f).0

pub entered_kept : (t : Table) (n index mark capacity : ℕ) → Kept t → Kept (entered t n index mark capacity)
entered_kept t n index mark capacity k = cases (fits t n capacity) (λ f. rw f (appended_kept t n index mark k (entered_slot t n capacity f))) (λ f. rw f k)

pub entered_filled : (t : Table) (n index mark capacity : ℕ) → Filled t → 0 < n → Filled (entered t n index mark capacity)
entered_filled t n index mark capacity k g = cases (fits t n capacity) (λ f. rw f (appended_filled t n index mark k g (entered_slot t n capacity f))) (λ f. rw f k)
