-- Look-up by file, by the loop of the code; and what a look-up shows of tables that an opening and calls can reach.
use Prim.Native.Nat.{ℕ, zero, suc, ◌+◌, ◌<◌, ◌≤◌}
use mathlib.Core.Path.{◌≡◌, refl, sym, ap, ◌∙◌}
use mathlib.Core.Logic.{◌⊎◌, inl, inr, ⊎_elim}
use mathlib.Core.Bool.{Bool, true, false}
use mathlib.Core.List.{List, [], ◌∷◌, ◌++◌, map}
use lib.Dec.{eqb}
use lib.ListN.{length, take, drop, get_or, length-map, get_or-map, drop_of_length-le}
use lib.Seq.{length-take-le}
use native.Mathlib.Decide.{dec_lt}
use native.Mathlib.Omega.{arith}
use borrow.Author.Tests.{lt-leb}
use Rattle.refusal.specs.Pick.{pick}
use Rattle.tables.specs.declared.slots.Entry.{Entry}
use Rattle.tables.specs.Tables.{Table, Row, row_of, view, found, shown, end_of, Looked}
use Rattle.tables.proofs.Laws.Tables.{Kept, Filled, view_count}
use Rattle.tables.proofs.Laws.LookUp.{find_none, there, part_shown, shown_empty, looked}
use Rattle.bech32.specs.declared.TextKind.TheVariants.{Recipient, Identity}
use Rattle.session.specs.Tables.{Tables}
use Rattle.phase_one.specs.Views as one_kind
use Rattle.phase_one.proofs.Laws.Views.{Reached}
use Rattle.conversation.specs.Kinds.{of_file}
use Rattle.conversation.specs.PhaseTwo.{Label, label_of, labels, how_many, is_file, errors, stanzas, returned}
use Rattle.conversation.proofs.Laws.ViewsTwo.{ReachedTwo, kept_two}
use Rattle.look_up.specs.LookUp.{entry_text, number_of, found_of, message_of, stanza_of, key_of, LookedOf, Told}
use Rattle.refusal.proofs.Laws.Lists.{drop_one}
use Rattle.look_up.proofs.Laws.Labels.{slot_label}

-- ---- the loop: the entries before i have been passed, and the k-th of the rest is looked for

module _ (q : Label → Bool) (es : List (List ℕ)) where
  abbrev pub onward : ℕ → ℕ → ℕ
  onward i k = i + number_of q (drop i (map slot_label es)) k

  labels_at : (i : ℕ) → i < length es → drop i (map slot_label es) ≡ slot_label (get_or es i []) ∷ drop (i + 1) (map slot_label es)
  labels_at i h =
      drop_one (map slot_label es) i (slot_label []) (omega (arith, length-map es slot_label))
      ∙ ap (λ l. l ∷ drop (i + 1) (map slot_label es)) (get_or-map slot_label es i [])

  -- it is here
  pub onward_here : (i k : ℕ) → i < length es → q (slot_label (get_or es i [])) ≡ true → k ≡ 0 → onward i k ≡ i
  unfolding number_of
  onward_here i k h e z = ap (onward i) z ∙ rw (labels_at i h, e) (omega arith)

  -- another that passes
  pub onward_one : (i k j : ℕ) → i < length es → q (slot_label (get_or es i [])) ≡ true → k ≡ suc j → onward i k ≡ onward (i + 1) j
  unfolding number_of
  onward_one i k j h e z = ap (onward i) z ∙ rw (labels_at i h, e) (omega arith)

  -- one that does not
  pub onward_none : (i k : ℕ) → i < length es → q (slot_label (get_or es i [])) ≡ false → onward i k ≡ onward (i + 1) k
  unfolding number_of
  onward_none i zero h e = rw (labels_at i h, e) (omega arith)
  onward_none i (suc k) h e = rw (labels_at i h, e) (omega arith)

  -- none is left
  pub onward_end : (k : ℕ) → onward (length es) k ≡ length es
  unfolding number_of
  onward_end k = rw (drop_of_length-le (map slot_label es) {i = length es} (omega (arith, length-map es slot_label))) (omega arith)

-- ---- a file's rows, by the numbers of its entries

-- what a row adds to those of a file
abbrev more : Bool → Row → List Row → List Row
more x r rs = pick x (r ∷ []) [] ++ rs

more_count : (x : Bool) (r : Row) (rs : List Row) (n : ℕ) → n ≡ length rs → pick x 1 0 + n ≡ length (more x r rs)
more_count true r rs n e = omega arith
more_count false r rs n e = omega arith

-- a number of a file's rows that is one of all
abbrev At : List Row → List Row → Row → ℕ → ℕ → Type 0
At own all d k n = (n < length all) × (get_or own k d ≡ get_or all n d)

at_first : (x : Bool) (r d : Row) (own all : List Row) (n : ℕ) → (0 < length own → At own all d 0 n) → 0 < length (more x r own) → At (more x r own) (r ∷ all) d 0 (pick x 0 (suc n))
at_first true r d own all n i h = (omega arith, refl)
at_first false r d own all n i h = (omega (arith, (i h).0), (i h).1)

at_later : (x : Bool) (r d : Row) (own all : List Row) (n : ℕ → ℕ) (k : ℕ) → ((j : ℕ) → j < length own → At own all d j (n j)) → suc k < length (more x r own) →
    At (more x r own) (r ∷ all) d (suc k) (suc (n (pick x k (suc k))))
at_later true r d own all n k i h = (omega (arith, (i k (omega arith)).0), (i k (omega arith)).1)
at_later false r d own all n k i h = (omega (arith, (i (suc k) h).0), (i (suc k) h).1)

none_first : (x : Bool) (r : Row) (own : List Row) (n m : ℕ) → (length own ≤ 0 → n ≡ m) → length (more x r own) ≤ 0 → pick x 0 (suc n) ≡ suc m
none_first true r own n m i h = absurd (omega arith)
none_first false r own n m i h = ap suc (i h)

none_later : (x : Bool) (r : Row) (own : List Row) (n : ℕ → ℕ) (m k : ℕ) → ((j : ℕ) → length own ≤ j → n j ≡ m) → length (more x r own) ≤ suc k → suc (n (pick x k (suc k))) ≡ suc m
none_later true r own n m k i h = ap suc (i k (omega arith))
none_later false r own n m k i h = ap suc (i (suc k) h)

module _ (b : List ℕ) (f : ℕ) where
  -- all rows, the file's, and their numbers among all
  abbrev all : List Entry → List Row
  all es = map (row_of b) es

  abbrev own : List Entry → List Row
  own es = of_file f (all es)

  abbrev number : List Entry → ℕ → ℕ
  number es = number_of (is_file f) (map label_of es)

  rows_count : (es : List Entry) → how_many (is_file f) (map label_of es) ≡ length (own es)
  unfolding how_many of_file
  rows_count [] = refl
  rows_count (e ∷ es) = more_count (eqb e.index f) (row_of b e) (own es) (how_many (is_file f) (map label_of es)) (rows_count es)

  rows_at : (es : List Entry) (d : Row) (k : ℕ) → k < length (own es) → At (own es) (all es) d k (number es k)
  unfolding number_of of_file
  rows_at [] d k h = absurd (omega arith)
  rows_at (e ∷ es) d zero h = at_first (eqb e.index f) (row_of b e) d (own es) (all es) (number es 0) (rows_at es d 0) h
  rows_at (e ∷ es) d (suc k) h = at_later (eqb e.index f) (row_of b e) d (own es) (all es) (number es) k (rows_at es d) h

  rows_none : (es : List Entry) (k : ℕ) → length (own es) ≤ k → number es k ≡ length es
  unfolding number_of of_file
  rows_none [] k h = refl
  rows_none (e ∷ es) zero h = none_first (eqb e.index f) (row_of b e) (own es) (number es 0) (length es) (rows_none es 0) h
  rows_none (e ∷ es) (suc k) h = none_later (eqb e.index f) (row_of b e) (own es) (number es) (length es) k (rows_none es) h

-- ---- of a table that an opening and calls can reach

-- the k-th entry of a file
pub looked_of : (t : Table) (b : List ℕ) (f k : ℕ) → Filled t → LookedOf (shown (found_of t f k) b) t b f k
looked_of t b f k w =
    let es = take t.count t.slots in
    let n = number_of (is_file f) (labels t) k in
    let c : length es ≡ t.count = length-take-le t.count t.slots (omega (arith, w.kept_so.counted, w.kept_so.wide)) in
    let v : length (view t b) ≡ t.count = view_count t b w.kept_so in
    let at = rows_at b f es (record { payload = []; index = 0; mark = 0 }) k in
    let s = shown_empty t b n w in
    let out : t.count ≤ n → length (of_file f (view t b)) ≤ k =
    λ l. elim (dec_lt k (length (of_file f (view t b)))) [ yes h ↦ absurd (omega (arith, (at h).0)) | no h ↦ omega arith ] in
    record {
      there = λ h l. part_shown t b n w.kept_so (omega (arith, (at h).0)) l ∙ sym (ap (λ r. r.payload) (at h).1);
      empty_iff = (λ e. ⊎_elim (λ l. inl (out l)) (λ l. inr l) (s.0 e), λ o. s.1 (⊎_elim (λ l. inl (omega (arith, rows_none b f es k l))) (λ l. inr l) o));
    }

-- how many stanzas a file has, and whether it has a key: as many as rows of the file
pub count_of : (t : Table) (b : List ℕ) (f : ℕ) → how_many (is_file f) (labels t) ≡ length (of_file f (view t b))
count_of t b f = rows_count b f (take t.count t.slots)

-- an entry whose payload may be empty: none is shown beyond the rows, or of a buffer that is too short
none_shown : (t : Table) (b : List ℕ) (k : ℕ) → Kept t → (length (view t b) ≤ k) ⊎ (length b < end_of t k) → shown (found t k) b ≡ []
none_shown t b k w o =
    let c = view_count t b w in
    elim (dec_lt k t.count) [
      | yes h ↦ ap (λ x. shown x b) (there t k w h) ∙ rw (lt-leb (end_of t k) (length b) (⊎_elim (λ l. absurd (omega arith)) (λ l. l) o))
      | no h ↦ ap (λ x. shown x b) (sym (find_none t k (omega arith)))
    ]

-- ---- of the tables of a session that an opening and calls can reach

module _ (t : Tables) (r : Reached t) where
  -- an entry of a kind of phase one, found by its number
  pub entry_looked : (k : one_kind.KindOne) (b : List ℕ) (n : ℕ) → Looked (shown (found (one_kind.table_of k t) n) b) (one_kind.table_of k t) b n
  unfolding Reached
  entry_looked k b n = looked (one_kind.table_of k t) b n (r k)

  -- a recipient or an identity: what `entry_text` shows
  pub recipient_looked : (n : ℕ) (recipients identities : List ℕ) → Looked (entry_text t Recipient n recipients identities) t.recipients recipients n
  recipient_looked n recipients identities = entry_looked one_kind.recipients recipients n

  pub identity_looked : (n : ℕ) (recipients identities : List ℕ) → Looked (entry_text t Identity n recipients identities) t.identities identities n
  identity_looked n recipients identities = entry_looked one_kind.identities identities n

module _ (t : Tables) (r : ReachedTwo t) where
  -- stanza k of a file, and how many it has
  pub stanza_looked : (b : List ℕ) (f k : ℕ) → LookedOf (stanza_of t f k b) t.stanzas b f k
  unfolding ReachedTwo
  stanza_looked b f k = looked_of t.stanzas b f k (r stanzas)

  -- the key of a file
  pub key_looked : (b : List ℕ) (f : ℕ) → LookedOf (key_of t f b) t.returned b f 0
  unfolding ReachedTwo
  key_looked b f = looked_of t.returned b f 0 (r returned)

  -- the message of error k
  pub message_told : (b : List ℕ) (k : ℕ) → Told (message_of t k b) t.errors b k
  message_told b k =
      let w = kept_two t r errors in
      let c = view_count t.errors b w in
      record { there = λ h l. part_shown t.errors b k w (omega arith) l; none = none_shown t.errors b k w }
