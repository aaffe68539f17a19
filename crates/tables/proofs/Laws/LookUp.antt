-- Look-up, by the tests of the code; and what it shows of a table that an opening and calls can reach.
use Prim.Native.Nat.{ℕ, zero, suc, ◌+◌, ◌-◌, ◌<◌, ◌≤◌}
use mathlib.Core.Path.{◌≡◌, refl, sym, ap, ◌∙◌, subst}
use mathlib.Core.Logic.{◌⊎◌, inl, inr, ⊎_elim, ◌↔◌}
use mathlib.Core.List.{List, [], ◌∷◌}
use lib.ListN.{length, take, drop, get_or, drop_of_length-le, length-take, length-drop, length-map, get_or-map}
use lib.Seq.{take-nil, get_or-take, length-take-le}
use native.Mathlib.Decide.{dec_lt}
use native.Mathlib.Omega.{arith}
use borrow.Author.Tests.{lt-ltb, le-ltb, le-leb, lt-leb}
use Rattle.tables.specs.Tables.{Table, Row, empty, row_of, view, entry, nothing, found, part_of, shown, end_of, payload_at, Looked}
use Rattle.tables.specs.declared.slots.Entry.{Entry}
use Rattle.tables.proofs.Laws.Tables.{AllSome, Kept, Filled, view_count}

-- ---- the entry of a number

module _ (t : Table) (n : ℕ) where
  pub find_none : t.count ≤ n → nothing ≡ found t n
  find_none h = rw (le-ltb n t.count h)

  pub find_there : n < t.count → n < t.width → entry (get_or t.slots n empty) ≡ found t n
  find_there h g = rw (lt-ltb n t.count h, lt-ltb n t.width g)

-- ---- its part of the buffer

-- what lies behind a buffer's end
pub nothing_left : (b : List ℕ) → take (length b - length b) (drop (length b) b) ≡ []
nothing_left b = ap (take (length b - length b)) (drop_of_length-le b {i = length b} (omega arith)) ∙ take-nil (length b - length b)

-- ---- of a table that an opening and calls can reach

-- the slot of a number
abbrev pub slot_of : Table → ℕ → Entry
slot_of t n = get_or t.slots n empty

some_at : (es : List Entry) (n : ℕ) → AllSome es → n < length es → 0 < (get_or es n empty).length
unfolding AllSome
some_at [] n a h = absurd (omega arith)
some_at (e ∷ es) zero a h = a.0
some_at (e ∷ es) (suc n) a h = some_at es n a.1 (omega arith)

-- below the count there is an entry, and its row is the view's of that number
pub there : (t : Table) (n : ℕ) → Kept t → n < t.count → found t n ≡ entry (slot_of t n)
there t n k h = sym (find_there t n h (omega (arith, k.counted)))

row_at : (t : Table) (buffer : List ℕ) (n : ℕ) (d : Row) → Kept t → n < t.count → get_or (view t buffer) n d ≡ row_of buffer (slot_of t n)
row_at t buffer n d k h =
    let es = take t.count t.slots in
    let l = length-take-le t.count t.slots (omega (arith, k.counted, k.wide)) in
    get_d_default (view t buffer) n d (row_of buffer empty) (omega (arith, length-map es (row_of buffer))) ∙ get_or-map (row_of buffer) es n empty
    ∙ ap (row_of buffer) (get_or-take t.count t.slots n empty h)
  where
    get_d_default : (rs : List Row) (n : ℕ) (d e : Row) → n < length rs → get_or rs n d ≡ get_or rs n e
    get_d_default [] n d e h = absurd (omega arith)
    get_d_default (r ∷ rs) zero d e h = refl
    get_d_default (r ∷ rs) (suc n) d e h = get_d_default rs n d e (omega arith)

-- so its part of a buffer that is long enough for it is that row's payload
pub part_shown : (t : Table) (buffer : List ℕ) (n : ℕ) → Kept t → n < t.count → end_of t n ≤ length buffer → shown (found t n) buffer ≡ payload_at (view t buffer) n
part_shown t buffer n k h l =
    ap (λ x. shown x buffer) (there t n k h) ∙ rw (le-leb (end_of t n) (length buffer) l) (sym (ap (λ r. r.payload) (row_at t buffer n _ k h)))

-- where no payload is empty, its payload is not
looked_some : (t : Table) (n : ℕ) → Filled t → n < t.count → 0 < (slot_of t n).length
looked_some t n k h =
    let es = take t.count t.slots in
    let l = length-take-le t.count t.slots (omega (arith, k.kept_so.counted, k.kept_so.wide)) in
    subst (λ e. 0 < e.length) (get_or-take t.count t.slots n empty h) (some_at es n k.some (omega arith))

-- a part that is not of length 0 is empty exactly if the buffer is too short for it
part_empty : (start n : ℕ) (b : List ℕ) → 0 < n → (part_of start n b ≡ []) ↔ (length b < start + n)
part_empty start n b s = (λ e. elim (dec_lt (length b) (start + n)) [ yes h ↦ h | no h ↦ absurd (omega (arith, long (omega arith), ap length e)) ], λ h. rw (lt-leb (start + n) (length b) h))
  where
    long : start + n ≤ length b → length (part_of start n b) ≡ n
    long h = rw (le-leb (start + n) (length b) h) (simp (length-take, length-drop) (omega arith))

-- what is shown is empty exactly if there is no entry of that number or the buffer is too short for it
pub shown_empty : (t : Table) (buffer : List ℕ) (n : ℕ) → Filled t → (shown (found t n) buffer ≡ []) ↔ ((t.count ≤ n) ⊎ (length buffer < end_of t n))
shown_empty t buffer n k =
    elim (dec_lt n t.count) [
      | yes h ↦
          let w = there t n k.kept_so h in
          let p = part_empty (slot_of t n).start (slot_of t n).length buffer (looked_some t n k h) in
          (λ e. inr (p.0 (ap (λ x. shown x buffer) (sym w) ∙ e)), λ o. ap (λ x. shown x buffer) w ∙ p.1 (⊎_elim (λ l. absurd (omega arith)) (λ l. l) o))
      | no h ↦ (λ e. inl (omega arith), λ o. ap (λ x. shown x buffer) (sym (find_none t n (omega arith))))
    ]

-- a look-up by number
pub looked : (t : Table) (buffer : List ℕ) (n : ℕ) → Filled t → Looked (shown (found t n) buffer) t buffer n
looked t buffer n k =
    let c = view_count t buffer k.kept_so in
    let s = shown_empty t buffer n k in
    record {
      there = λ h l. part_shown t buffer n k.kept_so (omega arith) l;
      empty_iff = (λ e. ⊎_elim (λ l. inl (omega arith)) (λ l. inr l) (s.0 e), λ o. s.1 (⊎_elim (λ l. inl (omega arith)) (λ l. inr l) o));
    }
