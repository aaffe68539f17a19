-- The conditions of phase two's numbers, and the decision's tests: each holds exactly if its test does. For every session that an opening and calls can reach.
use Prim.Native.Nat.{ℕ, zero, suc, ◌+◌, ◌<◌, ◌≤◌}
use mathlib.Core.Path.{◌≡◌, refl, sym, ap, ◌∙◌, subst}
use mathlib.Core.Bool.{Bool, true, false, not, ◌&&◌, ◌||◌, true≢false, false≢true}
use mathlib.Core.Logic.{◌⊎◌, inl, inr, ⊎_elim, ◌↔◌}
use mathlib.Core.List.{List, [], ◌∷◌}
use lib.Dec.{ltb, leb, eqb}
use lib.ListN.{length, length-map}
use native.Mathlib.Omega.{arith}
use borrow.Author.Tests.{ltb-true, ltb-false, leb-true, leb-false, lt-ltb, le-ltb, le-leb, lt-leb, eqb-true, eqb-false, eq-eqb, ne_eqb, not-true, not-false}
use Rattle.refusal.proofs.Laws.Booleans.{and_true, true_and}
use Rattle.tables.specs.declared.slots.Entry.{Entry}
use Rattle.tables.specs.Tables.{Row, fits, row_of}
use Rattle.tables.proofs.Laws.Tables.{Kept, Chained, view_count}
use Rattle.session.specs.Session.{Session}
use Rattle.session.specs.Tables.{Tables}
use Rattle.phase_one.specs.Views as one_kind
use Rattle.phase_one.specs.Views.{recipients, identities, keys, headers}
use Rattle.phase_one.proofs.Laws.Views.{Reached}
use Rattle.conversation.specs.CommandsTwo as command
use Rattle.conversation.specs.CommandsTwo.{CommandTwo, ask, stanza, key, error, done, other, bad, command_two, payload_of}
use Rattle.conversation.specs.PhaseTwo as two
use Rattle.conversation.specs.PhaseTwo.{errors, stanzas, returned, Label, labels, how_many, is_any, passes, among, is_file, headers_of, has_header, is_naming, is_about, stanzas_for, most_stanzas, has_key, is_missing, is_second_key, is_too_many, is_against_key, is_clashing, is_spaceless, is_invalid, any_invalid, is_nonconforming, is_unknown, are_reported, are_stanzas_reported, is_held_back}
use Rattle.conversation.specs.Kinds.{AnyKind, first, second, Buffers, table_of, view_of, of_file}
use Rattle.conversation.specs.Allowed.{RowAt}
use Rattle.conversation.specs.Numbers.{Naming, internal, identity, recipient, header, SayingTwo, returns_stanza, returns_key, reports, ends_two, SaysTwo, SomeRow, Missing, no_file_key, no_file, no_identity, no_recipient, no_stanza, Second, TooMany, Together, stanza_with_errors, error_with_stanzas, key_with_error, error_with_key, Invalid, NoError, Held, stanza_held, key_held, key_nonconforming, error_unknown, recipient_owed, identity_owed, stanza_owed, entries_of, lengths_of, slots_for, buffer_for, Full, stanza_payload, SpacelessTwo, stanza_spaceless, returned_spaceless, error_spaceless}
use Rattle.conversation.proofs.Laws.DecidedTwo.{row_label, row_labels, labels_view, of_file_many, of_file_among}
use Rattle.conversation.proofs.Laws.PresentTwo.{at_iff, any_iff}
use Rattle.conversation.proofs.Laws.Reached.{ReachedSession}
use Rattle.conversation.proofs.Laws.ReportedTwo as reported
use Rattle.conversation.proofs.Laws.RowsTwo.{command_said, naming_of, SaidTwo, says_command}
use Rattle.conversation.proofs.Laws.SumsTwo.{or_false, false_or, refuted, and_false, false_and}
use Rattle.conversation.proofs.Laws.ViewsTwo.{kept_two}

-- ---- tests

or_true : (a b : Bool) → (a || b) ≡ true → (a ≡ true) ⊎ (b ≡ true)
or_true true b e = inl refl
or_true false b e = inr e

pub true_or : (a b : Bool) → (a ≡ true) ⊎ (b ≡ true) → (a || b) ≡ true
true_or true b h = refl
true_or false b h = ⊎_elim (λ e. absurd (false≢true e)) (λ e. e) h

-- ---- what the tables of a session that calls can reach show

-- entries one behind the other have their lengths' sum
chain_sum : (es : List Entry) (s u : ℕ) → Chained s es u → s + lengths_of es ≡ u
unfolding Chained lengths_of
chain_sum [] s u h = omega arith
chain_sum (e ∷ es) s u h = omega (arith, chain_sum es (s + e.length) u h.1)

-- an error is owed: a row that owes one has had none with its number; the first row has the number n
module _ (test : Label → Bool) (Owes : Row → Type 0) (same : (x : Row) → (test (row_label x) ≡ true) ↔ Owes x) (mark : ℕ) (es : List Label) (Had : ℕ → Type 0)
    (had : (n : ℕ) → (is_any (is_naming mark n) es ≡ true) ↔ Had n) where
  owed_from : (n : ℕ) (rs : List Row) → are_reported test mark n (row_labels rs) es ≡ false → (i : ℕ) × RowAt Owes rs i × (Had (n + i) → ⊥)
  unfolding are_reported RowAt
  owed_from n [] e = absurd (true≢false e)
  owed_from n (x ∷ rs) e =
      ⊎_elim
      (λ f. let h = or_false (not (test (row_label x))) (is_any (is_naming mark n) es) f in
      (zero, (same x).0 (not-false _ h.0), λ y. true≢false (sym ((had n).1 (subst Had (omega arith) y)) ∙ h.1)))
      (λ f. let j = owed_from (n + 1) rs f in (suc j.0, j.1, λ y. j.2 (subst Had (omega arith) y)))
      (and_false (not (test (row_label x)) || is_any (is_naming mark n) es) (are_reported test mark (n + 1) (row_labels rs) es) e)

  owed_to : (n : ℕ) (rs : List Row) (i : ℕ) → RowAt Owes rs i → (Had (n + i) → ⊥) → are_reported test mark n (row_labels rs) es ≡ false
  unfolding are_reported RowAt
  owed_to n [] i h y = absurd h
  owed_to n (x ∷ rs) zero h y =
      false_and _ (are_reported test mark (n + 1) (row_labels rs) es) (inl (false_or (not (test (row_label x))) (is_any (is_naming mark n) es) (ap not ((same x).1 h)) (refuted _ (λ e. y (subst Had (omega arith) ((had n).0 e))))))
  owed_to n (x ∷ rs) (suc i) h y = false_and (not (test (row_label x)) || is_any (is_naming mark n) es) _ (inr (owed_to (n + 1) rs i h (λ z. y (subst Had (omega arith) z))))

module _ (s : Session) (b : Buffers) (r : ReachedSession s) where
  abbrev t : Tables
  t = s.tables

  abbrev rows : AnyKind → List Row
  rows k = view_of k t b

  pub kept_any : (k : AnyKind) → Kept (table_of k t)
  unfolding Reached
  kept_any (first k) = (r.tables k).kept_so
  kept_any (second k) = kept_two t r.later_tables k

  counted : (k : AnyKind) → length (rows k) ≡ (table_of k t).count
  counted (first k) = view_count (one_kind.table_of k t) (one_kind.buffer_of k b.first) (kept_any (first k))
  counted (second k) = view_count (table_of (second k) t) _ (kept_any (second k))

  labelled : (k : AnyKind) → labels (table_of k t) ≡ row_labels (rows k)
  labelled (first k) = labels_view (one_kind.table_of k t) _
  labelled (second k) = labels_view (table_of (second k) t) _

  entries_counted : (k : AnyKind) → length (entries_of k t) ≡ (table_of k t).count
  entries_counted (first k) = sym (length-map (entries_of (first k) t) (row_of (one_kind.buffer_of k b.first))) ∙ counted (first k)
  entries_counted (second k) = sym (length-map (entries_of (second k) t) (row_of (two.buffer_of k b.second))) ∙ counted (second k)

  slots_are : (k : AnyKind) → (table_of k t).width ≡ slots_for k
  slots_are (first recipients) = r.wide (first recipients)
  slots_are (first identities) = r.wide (first identities)
  slots_are (first keys) = r.wide (first keys)
  slots_are (first headers) = r.wide (first headers)
  slots_are (second errors) = r.wide (second errors)
  slots_are (second stanzas) = r.wide (second stanzas)
  slots_are (second returned) = r.wide (second returned)

  used_is : (k : AnyKind) → lengths_of (entries_of k t) ≡ (table_of k t).used
  used_is k = omega (arith, chain_sum (entries_of k t) 0 (table_of k t).used (kept_any k).chained)

  -- a label passes exactly if a row has the property
  module _ (q : Label → Bool) (P : Row → Type 0) (same : (x : Row) → (q (row_label x) ≡ true) ↔ P x) (k : AnyKind) where
    some_row : (is_any q (labels (table_of k t)) ≡ true) ↔ SomeRow P (rows k)
    some_row = subst (λ l. (is_any q l ≡ true) ↔ SomeRow P (rows k)) (sym (labelled k)) (any_iff q P same (rows k))

    row_at : (i : ℕ) → (passes q (labels (table_of k t)) i ≡ true) ↔ RowAt P (rows k) i
    row_at i = subst (λ l. (passes q l i ≡ true) ↔ RowAt P (rows k) i) (sym (labelled k)) (at_iff q P same (rows k) i)

  of_one_file : (f : ℕ) (x : Row) → (is_file f (row_label x) ≡ true) ↔ (x.index ≡ f)
  of_one_file f x = (eqb-true x.index f, eq-eqb x.index f)

  some_of : (f : ℕ) (k : AnyKind) → (is_any (is_file f) (labels (table_of k t)) ≡ true) ↔ SomeRow (λ x. x.index ≡ f) (rows k)
  some_of f k = some_row (is_file f) (λ x. x.index ≡ f) (of_one_file f) k

  -- how many of a file there are
  many_of : (f : ℕ) (k : AnyKind) → how_many (is_file f) (labels (table_of k t)) ≡ length (of_file f (rows k))
  many_of f k = ap (how_many (is_file f)) (labelled k) ∙ of_file_many f (rows k)

  -- the i-th header stanza of a file is there
  not_there : (f i : ℕ) → (not (has_header t f i) ≡ true) ↔ (length (of_file f (rows (first headers))) ≤ i)
  not_there f i =
      let n = how_many (is_file f) (labels t.headers) in
      (λ e. omega (arith, ltb-false i n (not-true _ e), many_of f (first headers)), λ h. ap not (le-ltb i n (omega (arith, many_of f (first headers)))))

  some_there : (k : AnyKind) → (ltb 0 (table_of k t).count ≡ true) ↔ (0 < length (rows k))
  some_there k = (λ e. omega (arith, ltb-true 0 (table_of k t).count e, counted k), λ h. lt-ltb 0 (table_of k t).count (omega (arith, counted k)))

  not_below : (i : ℕ) (k : AnyKind) → (not (ltb i (table_of k t).count) ≡ true) ↔ (length (rows k) ≤ i)
  not_below i k = (
    λ e. omega (arith, ltb-false i (table_of k t).count (not-true _ e), counted k),
    λ h. ap not (le-ltb i (table_of k t).count (omega (arith, counted k))),
  )

  -- a command does not fit exactly if its kind is full
  pub full_iff : (k : AnyKind) (p : List ℕ) → (not (fits (table_of k t) (length p) (length (buffer_for k b))) ≡ true) ↔ Full t b k p
  full_iff k p =
      let count = (table_of k t).count in
      let width = (table_of k t).width in
      let used = (table_of k t).used in
      let room = length (buffer_for k b) in (
        λ e. ⊎_elim (λ f. inl (omega (arith, ltb-false count width f, entries_counted k, slots_are k))) (λ f. inr (omega (arith, leb-false (used + length p) room f, used_is k)))
            (and_false (ltb count width) (leb (used + length p) room) (not-true _ e)),
        λ h. ap not (false_and (ltb count width) (leb (used + length p) room)
            (⊎_elim (λ l. inl (le-ltb count width (omega (arith, entries_counted k, slots_are k)))) (λ l. inr (lt-leb (used + length p) room (omega (arith, used_is k)))) h)),
      )

  -- ---- the numbers' conditions

  module _ (line body : List ℕ) where
    abbrev Says : SayingTwo ℕ → Type 0
    Says x = SaysTwo s.machine line body x

    abbrev said : CommandTwo
    said = command_two s.machine line body

    abbrev Said : CommandTwo → Type 0
    Said c = SaidTwo s.machine line body c

    -- a test of what is said
    tested : (test : CommandTwo → Bool) (x : SayingTwo ℕ) → Says x → test (command_said x) ≡ true → test said ≡ true
    tested test x h e = ap test (says_command s.machine line body x h) ∙ e

    -- the error of what it names
    named : (n : Naming ℕ) → (q : command.Named) × (command_said (reports n) ≡ error q)
    named internal = (command.internal, refl)
    named (identity i) = (command.identity i, refl)
    named (recipient i) = (command.recipient i, refl)
    named (header f i) = (command.header f i, refl)

    tested_error : (test : CommandTwo → Bool) (n : Naming ℕ) → Says (reports n) → ((q : command.Named) → test (error q) ≡ true) → test said ≡ true
    tested_error test n h e = tested test (reports n) h (ap test (named n).1 ∙ e (named n).0)

    -- No. 6
    pub missing_to : Missing Says rows → is_missing t said ≡ true
    missing_to (no_file_key f h l) = tested (is_missing t) (returns_stanza f) h ((not_below f (first keys)).1 l)
    missing_to (no_file f h n) = tested (is_missing t) (returns_key f) h (ap not (refuted _ (λ e. n ((some_of f (first headers)).0 e))))
    missing_to (no_identity i h l) = tested (is_missing t) (reports (identity i)) h ((not_below i (first identities)).1 l)
    missing_to (no_recipient i h l) = tested (is_missing t) (reports (recipient i)) h ((not_below i (first recipients)).1 l)
    missing_to (no_stanza f i h n) = tested (is_missing t) (reports (header f i)) h ((not_there f i).1 n)

    pub missing_from : (c : CommandTwo) → Said c → is_missing t c ≡ true → Missing Says rows
    missing_from (ask w) h e = absurd (false≢true e)
    missing_from (stanza f) h e = no_file_key f h ((not_below f (first keys)).0 e)
    missing_from (key f) h e = no_file f h (λ j. true≢false (sym ((some_of f (first headers)).1 j) ∙ not-true _ e))
    missing_from (error command.internal) h e = absurd (false≢true e)
    missing_from (error (command.identity i)) h e = no_identity i h ((not_below i (first identities)).0 e)
    missing_from (error (command.recipient i)) h e = no_recipient i h ((not_below i (first recipients)).0 e)
    missing_from (error (command.header f i)) h e = no_stanza f i h ((not_there f i).0 e)
    missing_from done h e = absurd (false≢true e)
    missing_from other h e = absurd (false≢true e)
    missing_from (bad n) h e = absurd (false≢true e)

    -- of an error stanza f i: exactly if the file has i or fewer
    pub stanza_missing : (f i : ℕ) → Says (reports (header f i)) → Missing Says rows ↔ (length (of_file f (rows (first headers))) ≤ i)
    stanza_missing f i h = (λ m. (not_there f i).0 (sym (ap (is_missing t) (says_command s.machine line body (reports (header f i)) h)) ∙ missing_to m), λ l. no_stanza f i h l)

    -- No. 9
    pub second_to : Second Says rows → is_second_key t said ≡ true
    second_to x = tested (is_second_key t) (returns_key x.file) x.said ((some_of x.file (second returned)).1 x.there)

    pub second_from : (c : CommandTwo) → Said c → is_second_key t c ≡ true → Second Says rows
    second_from (ask w) h e = absurd (false≢true e)
    second_from (stanza f) h e = absurd (false≢true e)
    second_from (key f) h e = record { file = f; said = h; there = (some_of f (second returned)).0 e }
    second_from (error n) h e = absurd (false≢true e)
    second_from done h e = absurd (false≢true e)
    second_from other h e = absurd (false≢true e)
    second_from (bad n) h e = absurd (false≢true e)

    -- No. 10
    pub too_many_to : TooMany Says rows → is_too_many t said ≡ true
    too_many_to x = tested (is_too_many t) (returns_stanza x.file) x.said (le-leb (most_stanzas t) (stanzas_for t x.file) (omega (arith, x.full, many_of x.file (second stanzas), counted (first recipients), counted (first identities))))

    pub too_many_from : (c : CommandTwo) → Said c → is_too_many t c ≡ true → TooMany Says rows
    too_many_from (ask w) h e = absurd (false≢true e)
    too_many_from (stanza f) h e = record { file = f; said = h; full = omega (arith, leb-true (most_stanzas t) (stanzas_for t f) e, many_of f (second stanzas), counted (first recipients), counted (first identities)) }
    too_many_from (key f) h e = absurd (false≢true e)
    too_many_from (error n) h e = absurd (false≢true e)
    too_many_from done h e = absurd (false≢true e)
    too_many_from other h e = absurd (false≢true e)
    too_many_from (bad n) h e = absurd (false≢true e)

    -- No. 11
    about : (f : ℕ) (e : Row) → (is_about f (row_label e) ≡ true) ↔ (e.mark ≡ 3 + f)
    about f e = (eqb-true e.mark (3 + f), eq-eqb e.mark (3 + f))

    pub together_to : Together Says rows → is_clashing t said ≡ true
    together_to (stanza_with_errors f h l) = tested (is_clashing t) (returns_stanza f) h ((some_there (second errors)).1 l)
    together_to (error_with_stanzas n h l) = tested_error (is_clashing t) n h (λ q. true_or _ (is_against_key t q) (inl ((some_there (second stanzas)).1 l)))
    together_to (key_with_error f h e) = tested (is_clashing t) (returns_key f) h ((some_row _ _ (about f) (second errors)).1 e)
    together_to (error_with_key f i h e) = tested (is_clashing t) (reports (header f i)) h (true_or (ltb 0 t.stanzas.count) (has_key t f) (inr ((some_of f (second returned)).1 e)))

    against_key : (n : command.Named) → Says (reports (naming_of n)) → is_against_key t n ≡ true → Together Says rows
    against_key command.internal h e = absurd (false≢true e)
    against_key (command.identity i) h e = absurd (false≢true e)
    against_key (command.recipient i) h e = absurd (false≢true e)
    against_key (command.header f i) h e = error_with_key f i h ((some_of f (second returned)).0 e)

    pub together_from : (c : CommandTwo) → Said c → is_clashing t c ≡ true → Together Says rows
    together_from (ask w) h e = absurd (false≢true e)
    together_from (stanza f) h e = stanza_with_errors f h ((some_there (second errors)).0 e)
    together_from (key f) h e = key_with_error f h ((some_row _ _ (about f) (second errors)).0 e)
    together_from (error n) h e = ⊎_elim (λ q. error_with_stanzas (naming_of n) h ((some_there (second stanzas)).0 q)) (λ q. against_key n h q) (or_true (ltb 0 t.stanzas.count) (is_against_key t n) e)
    together_from done h e = absurd (false≢true e)
    together_from other h e = absurd (false≢true e)
    together_from (bad n) h e = absurd (false≢true e)

    -- No. 8
    pub spaceless_to : SpacelessTwo Says t b line body → is_spaceless t b.second said (length (payload_of said line body)) ≡ true
    spaceless_to (stanza_spaceless f h l) = tested (λ c. is_spaceless t b.second c (length (payload_of c line body))) (returns_stanza f) h ((full_iff (second stanzas) (stanza_payload line body)).1 l)
    spaceless_to (returned_spaceless f h l) = tested (λ c. is_spaceless t b.second c (length (payload_of c line body))) (returns_key f) h ((full_iff (second returned) body).1 l)
    spaceless_to (error_spaceless n h l) = tested_error (λ c. is_spaceless t b.second c (length (payload_of c line body))) n h (λ q. (full_iff (second errors) body).1 l)

    pub spaceless_from : (c : CommandTwo) → Said c → is_spaceless t b.second c (length (payload_of c line body)) ≡ true → SpacelessTwo Says t b line body
    spaceless_from (ask w) h e = absurd (false≢true e)
    spaceless_from (stanza f) h e = stanza_spaceless f h ((full_iff (second stanzas) (stanza_payload line body)).0 e)
    spaceless_from (key f) h e = returned_spaceless f h ((full_iff (second returned) body).0 e)
    spaceless_from (error n) h e = error_spaceless (naming_of n) h ((full_iff (second errors) body).0 e)
    spaceless_from done h e = absurd (false≢true e)
    spaceless_from other h e = absurd (false≢true e)
    spaceless_from (bad n) h e = absurd (false≢true e)

    -- No. 19
    invalid : (x : Row) → (is_invalid (row_label x) ≡ true) ↔ Invalid x
    invalid x = (λ e. eqb-false x.mark 0 (not-true _ e), λ h. ap not (ne_eqb x.mark 0 h))

    nonconforming : (x : Row) → (is_nonconforming (row_label x) ≡ true) ↔ (x.mark ≡ 1)
    nonconforming x = (eqb-true x.mark 1, eq-eqb x.mark 1)

    nonconforming_of : (f : ℕ) (x : Row) → ((is_nonconforming (row_label x) && is_file f (row_label x)) ≡ true) ↔ ((x.mark ≡ 1) × (x.index ≡ f))
    nonconforming_of f x = (
      λ e. let a = and_true (eqb x.mark 1) (eqb x.index f) e in (eqb-true x.mark 1 a.0, eqb-true x.index f a.1),
      λ h. true_and (eqb x.mark 1) (eqb x.index f) (eq-eqb x.mark 1 h.0) (eq-eqb x.index f h.1),
    )

    unknown_at : (f i : ℕ) → (passes is_unknown (headers_of t f) i ≡ true) ↔ RowAt (λ x. x.mark ≡ 2) (of_file f (rows (first headers))) i
    unknown_at f i =
        subst (λ l. (passes is_unknown l i ≡ true) ↔ RowAt (λ x. x.mark ≡ 2) (of_file f (rows (first headers))) i) (sym (ap (among (is_file f)) (labelled (first headers)) ∙ of_file_among f (rows (first headers))))
        (at_iff is_unknown (λ x. x.mark ≡ 2) (λ x. (eqb-true x.mark 2, eq-eqb x.mark 2)) (of_file f (rows (first headers))) i)

    any_invalid_lem : (any_invalid t ≡ true) ↔ (SomeRow Invalid (rows (first recipients)) ⊎ SomeRow Invalid (rows (first identities)))
    any_invalid_lem =
        let i = some_row is_invalid Invalid invalid in (
          λ e. ⊎_elim (λ q. inl ((i (first recipients)).0 q)) (λ q. inr ((i (first identities)).0 q)) (or_true (is_any is_invalid (labels t.recipients)) (is_any is_invalid (labels t.identities)) e),
          λ h. true_or (is_any is_invalid (labels t.recipients)) (is_any is_invalid (labels t.identities)) (⊎_elim (λ q. inl ((i (first recipients)).1 q)) (λ q. inr ((i (first identities)).1 q)) h),
        )

    -- an error with a mark and a number
    had : (mark n : ℕ) → (is_any (is_naming mark n) (labels t.errors) ≡ true) ↔ SomeRow (λ e. (e.mark ≡ mark) × (e.index ≡ n)) (rows (second errors))
    had mark n = some_row (is_naming mark n) _ (λ e. (
      λ h. let a = and_true (eqb e.mark mark) (eqb e.index n) h in (eqb-true e.mark mark a.0, eqb-true e.index n a.1),
      λ h. true_and (eqb e.mark mark) (eqb e.index n) (eq-eqb e.mark mark h.0) (eq-eqb e.index n h.1),
    )) (second errors)

    module _ (test : Label → Bool) (Owes : Row → Type 0) (same : (x : Row) → (test (row_label x) ≡ true) ↔ Owes x) (mark : ℕ) (k : AnyKind) where
      owed : are_reported test mark 0 (labels (table_of k t)) (labels t.errors) ≡ false → (n : ℕ) × RowAt Owes (rows k) n × NoError mark n (rows (second errors))
      owed e =
          let j = owed_from test Owes same mark (labels t.errors) _ (had mark) 0 (rows k) (ap (λ l. are_reported test mark 0 l (labels t.errors)) (sym (labelled k)) ∙ e) in
          (j.0, j.1, subst (λ n. NoError mark n (rows (second errors))) (omega arith) j.2)

      owes : (n : ℕ) → RowAt Owes (rows k) n → NoError mark n (rows (second errors)) → are_reported test mark 0 (labels (table_of k t)) (labels t.errors) ≡ false
      owes n h y =
          ap (λ l. are_reported test mark 0 l (labels t.errors)) (labelled k)
          ∙ owed_to test Owes same mark (labels t.errors) _ (had mark) 0 (rows k) n h (subst (λ n. NoError mark n (rows (second errors))) (omega arith) y)

    -- the three parts of what is reported
    abbrev recipients_reported : Bool
    recipients_reported = are_reported is_invalid 2 0 (labels t.recipients) (labels t.errors)

    abbrev identities_reported : Bool
    identities_reported = are_reported is_invalid 1 0 (labels t.identities) (labels t.errors)

    abbrev headers_reported : Bool
    headers_reported = are_stanzas_reported [] (labels t.headers) (labels t.errors)

    -- there is none before the first
    none_of : (f : ℕ) → length (of_file f []) ≡ 0
    unfolding of_file
    none_of f = refl

    -- the stanza that is owed an error
    stanza_is_owed : headers_reported ≡ false → (f : ℕ) × (i : ℕ) × RowAt (λ x. x.mark ≡ 1) (of_file f (rows (first headers))) i × NoError (3 + f) i (rows (second errors))
    stanza_is_owed e =
        let j = reported.owed_from (labels t.errors) _ (λ f i. had (3 + f) i) [] (rows (first headers)) (ap (λ l. are_stanzas_reported [] l (labels t.errors)) (sym (labelled (first headers))) ∙ e) in
        (j.0, j.1, j.2, subst (λ n. NoError (3 + j.0) n (rows (second errors))) (omega (arith, none_of j.0)) j.3)

    stanza_owes : (f i : ℕ) → RowAt (λ x. x.mark ≡ 1) (of_file f (rows (first headers))) i → NoError (3 + f) i (rows (second errors)) → headers_reported ≡ false
    stanza_owes f i h y =
        ap (λ l. are_stanzas_reported [] l (labels t.errors)) (labelled (first headers))
        ∙ reported.owed_to (labels t.errors) _ (λ f i. had (3 + f) i) [] (rows (first headers)) (f, i, h, subst (λ n. NoError (3 + f) n (rows (second errors))) (omega (arith, none_of f)) y)

    pub held_to : Held Says rows → is_held_back t said ≡ true
    held_to (stanza_held f h u) = tested (is_held_back t) (returns_stanza f) h (any_invalid_lem.1 u)
    held_to (key_held f h u) = tested (is_held_back t) (returns_key f) h (true_or _ _ (inl (any_invalid_lem.1 u)))
    held_to (key_nonconforming f h u) = tested (is_held_back t) (returns_key f) h (true_or (any_invalid t) _ (inr ((some_row _ _ (nonconforming_of f) (first headers)).1 u)))
    held_to (error_unknown f i h u) = tested (is_held_back t) (reports (header f i)) h ((unknown_at f i).1 u)
    held_to (recipient_owed h n u y) =
        tested (is_held_back t) ends_two h (ap not (false_and (recipients_reported && identities_reported) headers_reported (inl (false_and recipients_reported identities_reported (inl (owes is_invalid Invalid invalid 2 (first recipients) n u y))))))
    held_to (identity_owed h n u y) =
        tested (is_held_back t) ends_two h (ap not (false_and (recipients_reported && identities_reported) headers_reported (inl (false_and recipients_reported identities_reported (inr (owes is_invalid Invalid invalid 1 (first identities) n u y))))))
    held_to (stanza_owed h f i u y) =
        tested (is_held_back t) ends_two h (ap not (false_and (recipients_reported && identities_reported) headers_reported (inr (stanza_owes f i u y))))

    done_owes : Says ends_two → not (recipients_reported && identities_reported && headers_reported) ≡ true → Held Says rows
    done_owes h e =
        ⊎_elim
        (λ q. ⊎_elim
        (λ z. let j = owed is_invalid Invalid invalid 2 (first recipients) z in recipient_owed h j.0 j.1 j.2)
        (λ z. let j = owed is_invalid Invalid invalid 1 (first identities) z in identity_owed h j.0 j.1 j.2)
        (and_false recipients_reported identities_reported q))
        (λ z. let j = stanza_is_owed z in stanza_owed h j.0 j.1 j.2 j.3)
        (and_false (recipients_reported && identities_reported) headers_reported (not-true _ e))

    pub held_from : (c : CommandTwo) → Said c → is_held_back t c ≡ true → Held Says rows
    held_from (ask w) h e = absurd (false≢true e)
    held_from (stanza f) h e = stanza_held f h (any_invalid_lem.0 e)
    held_from (key f) h e = ⊎_elim (λ q. key_held f h (any_invalid_lem.0 q)) (λ q. key_nonconforming f h ((some_row _ _ (nonconforming_of f) (first headers)).0 q)) (or_true (any_invalid t) _ e)
    held_from (error command.internal) h e = absurd (false≢true e)
    held_from (error (command.identity i)) h e = absurd (false≢true e)
    held_from (error (command.recipient i)) h e = absurd (false≢true e)
    held_from (error (command.header f i)) h e = error_unknown f i h ((unknown_at f i).0 e)
    held_from done h e = done_owes h e
    held_from other h e = absurd (false≢true e)
    held_from (bad n) h e = absurd (false≢true e)
