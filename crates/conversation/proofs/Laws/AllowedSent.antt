-- Phase two at the plugin end: exactly the allowed lists of exchanges are accepted.
use Prim.Native.Nat.{ℕ, zero, suc, ◌+◌, ◌<◌, ◌≤◌}
use mathlib.Core.Path.{◌≡◌, refl, sym, ap, ap₂, ◌∙◌, subst, subst₂}
use mathlib.Core.Bool.{Bool, true, false, not, ◌&&◌, ◌||◌, true≢false, false≢true}
use mathlib.Core.Logic.{◌⊎◌, inl, inr, ⊎_elim, ◌↔◌}
use mathlib.Core.List.{List, [], ◌∷◌, ◌++◌, map, map-append, append-nil, append_assoc}
use lib.Dec.{ltb, eqb}
use lib.ListN.{length}
use native.Mathlib.Omega.{arith}
use borrow.Author.Tests.{ltb-true, lt-ltb, eqb-true, eqb-false, eq-eqb, ne_eqb, not-false}
use Rattle.refusal.specs.Pick.{pick}
use Rattle.refusal.specs.Same.{same}
use Rattle.refusal.proofs.Laws.Booleans.{and_true, true_and, cases}
use Rattle.stanza.specs.Grammar.{stanza_text}
use Rattle.stanza.specs.Reading as reading
use Rattle.stanza.specs.Reading.{Reading, read_first}
use Rattle.stanza.specs.Writing.{is_writable}
use Rattle.responses.specs.Responses.{fits_whole, ResponseRead, response, response_of}
use Rattle.session.specs.declared.words.WordTwo.{WordTwo}
use Rattle.tables.specs.Tables.{Row, view}
use Rattle.phase_one.specs.Commands.{is_bare}
use Rattle.session.specs.Tables.{Tables}
use Rattle.refusal.specs.Verdict.{first_of}
use Rattle.phase_one.specs.Views as one_kind
use Rattle.phase_one.specs.Views.{recipients, identities, headers}
use Rattle.session.specs.declared.phases.Phase.TheVariants.{Two, Awaiting, Ended}
use Rattle.conversation.specs.Calls.{Call, send_two, respond, sent_number, responded_number, outcome, written_by, state_of, after, numbers, line_read, body_read, AllZero, Accepted}
use Rattle.conversation.specs.CommandsTwo.{Named, internal, identity, recipient, header, CommandTwo, ask, stanza, key, error, done, other, bad, word_of}
use Rattle.conversation.specs.Kinds.{Buffers, buffers_of, of_file}
use Rattle.conversation.specs.PhaseTwo.{Label, labels, how_many, is_any, passes, among, is_file, mark_of, index_of, is_naming, is_invalid, any_invalid, is_nonconforming, is_unknown, are_reported, are_stanzas_reported, all_reported, is_held_back, decided, applied, filled_by, rows_of, errors}
use Rattle.conversation.specs.Phases.{All, body_in, is_error, Supply, skip, LongEnough}
use Rattle.conversation.specs.Responding as responding
use Rattle.conversation.specs.Responding.{responded_as, responded_text}
use Rattle.conversation.specs.Sending.{shortness}
use Rattle.conversation.specs.SendingTwo.{phase_sent, Sent, sent_line, sent}
use Rattle.session.specs.Session.{Session}
use Rattle.conversation.specs.Allowed.{Left, is_right_two, RowAt, Present, Said, Exchange, line_of, command_sent, said_in, OneResponse, Responded, NoneInvalid, Unheld, Some, Reported, AllReported, RightExchange, AllowedSent, is_done_sent, response_calls, exchange_calls, sending_calls, left_of, capacity_of}
use Rattle.conversation.proofs.Laws.Accepted.{accepted}
use Rattle.conversation.proofs.Laws.AllowedTwo.{Standing, decided_exact, standing_with, Fitting, fitting_front, fitting_one, fitting_rest, done_command}
use Rattle.conversation.proofs.Laws.CommandsTwo.{Proper, command_proper}
use Rattle.conversation.proofs.Laws.Firsts.{first_iff}
use Rattle.conversation.proofs.Laws.DecidedTwo.{decided_iff, row_label, row_labels, labels_view, many_append, of_file_among}
use Rattle.conversation.proofs.Laws.OrderTwo.{begins, two_session, fitting_all}
use Rattle.conversation.proofs.Laws.PresentTwo.{Shows}
use Rattle.conversation.proofs.Laws.Reached.{JustReached}
use Rattle.conversation.proofs.Laws.ReportedTwo as reported
use Rattle.conversation.proofs.Laws.Runs.{accepted_append, enough_append}
use Rattle.conversation.proofs.Laws.StepsTwo.{long_enough, at, Settled}
use Rattle.conversation.proofs.Laws.SumsTwo.{With, not_any, none_any, or_false, false_or, assured, not_is}
use Rattle.conversation.proofs.Laws.ViewsTwo.{applied_view_two}
use Rattle.conversation.proofs.Laws.WrittenRead.{front}

-- ---- No. 19, a command that is not done

module _ (q : Label → Bool) (P : Row → Type 0) (same : (r : Row) → (q (row_label r) ≡ false) ↔ P r) where
  none_many : (rs : List Row) → (how_many q (row_labels rs) ≡ 0) ↔ All P rs
  unfolding All how_many
  none_many [] = (λ e. tt, λ a. refl)
  none_many (r ∷ rs) =
      let i = none_many rs in
      cases (q (row_label r))
      (λ e. (λ h. let h' = rw e at h in absurd (omega arith), λ a. absurd (true≢false (sym e ∙ (same r).1 a.0))))
      (λ e. (λ h. let h' = rw e at h in ((same r).0 e, i.0 (omega arith)), λ a. rw e (omega (arith, i.1 a.1))))

  -- no label passes exactly if each row has the property
  none_iff : (rs : List Row) → (is_any q (row_labels rs) ≡ false) ↔ All P rs
  none_iff rs = (λ e. (none_many rs).0 (not_any q (row_labels rs) e), λ a. none_any q (row_labels rs) ((none_many rs).1 a))

valid_same : (r : Row) → (is_invalid (row_label r) ≡ false) ↔ (r.mark ≡ 0)
valid_same r = (λ e. eqb-true r.mark 0 (not-false _ e), λ e. not_is _ (eq-eqb r.mark 0 e))

conforming_same : (f : ℕ) (r : Row) → ((is_nonconforming (row_label r) && is_file f (row_label r)) ≡ false) ↔ (r.mark ≡ 1 → r.index ≡ f → ⊥)
conforming_same f r = (
  λ e m i. true≢false (sym (true_and (eqb r.mark 1) (eqb r.index f) (eq-eqb r.mark 1 m) (eq-eqb r.index f i)) ∙ e),
  λ h. cases (eqb r.mark 1 && eqb r.index f) (λ e. let a = and_true (eqb r.mark 1) (eqb r.index f) e in absurd (h (eqb-true r.mark 1 a.0) (eqb-true r.index f a.1))) (λ e. e),
)

-- the stanza of a number that is there is known
known_iff : (rs : List Row) (i : ℕ) → i < length rs → (passes is_unknown (row_labels rs) i ≡ false) ↔ RowAt (λ r. r.mark ≡ 2 → ⊥) rs i
unfolding passes RowAt
known_iff [] i h = absurd (omega arith)
known_iff (r ∷ rs) zero h = (eqb-false r.mark 2, ne_eqb r.mark 2)
known_iff (r ∷ rs) (suc i) h = known_iff rs i (omega arith)

or_iff : {X Y : Type 0} (a b : Bool) → (a ≡ false) ↔ X → (b ≡ false) ↔ Y → ((a || b) ≡ false) ↔ (X × Y)
or_iff a b i j = (λ e. let h = or_false a b e in (i.0 h.0, j.0 h.1), λ h. false_or a b (i.1 h.0) (j.1 h.1))

module _ (t : Tables) (left : Left) (s : Shows t left) where
  none_of : (q : Label → Bool) (P : Row → Type 0) → ((r : Row) → (q (row_label r) ≡ false) ↔ P r) → (k : one_kind.KindOne) → (is_any q (labels (one_kind.table_of k t)) ≡ false) ↔ All P (left k)
  none_of q P same k = subst (λ l. (is_any q l ≡ false) ↔ All P (left k)) (sym (s.labelled k)) (none_iff q P same (left k))

  valid_iff : (any_invalid t ≡ false) ↔ NoneInvalid left
  valid_iff = or_iff _ _ (none_of is_invalid (λ r. r.mark ≡ 0) valid_same recipients) (none_of is_invalid (λ r. r.mark ≡ 0) valid_same identities)

  -- nothing holds back a command that is not done
  pub unheld_iff : (c : CommandTwo) → Proper false c → Present left c → (is_held_back t c ≡ false) ↔ Unheld left c
  unheld_iff (ask w) d p = (λ e. tt, λ e. refl)
  unheld_iff (stanza f) d p = valid_iff
  unheld_iff (key f) d p = or_iff _ _ valid_iff (none_of (λ l. is_nonconforming l && is_file f l) (λ r. r.mark ≡ 1 → r.index ≡ f → ⊥) (conforming_same f) headers)
  unheld_iff (error internal) d p = (λ e. tt, λ e. refl)
  unheld_iff (error (identity i)) d p = (λ e. tt, λ e. refl)
  unheld_iff (error (recipient i)) d p = (λ e. tt, λ e. refl)
  unheld_iff (error (header f i)) d p =
      subst (λ l. (passes is_unknown l i ≡ false) ↔ RowAt (λ r. r.mark ≡ 2 → ⊥) (of_file f (left headers)) i) (sym (ap (among (is_file f)) (s.labelled headers) ∙ of_file_among f (left headers)))
      (known_iff (of_file f (left headers)) i p)
  unheld_iff done d p = absurd (false≢true d)
  unheld_iff other d p = (λ e. tt, λ e. refl)
  unheld_iff (bad n) d p = (λ e. tt, λ e. refl)

-- ---- No. 19, done: the errors' table and the error commands

-- the labels of the errors that a list of commands makes
unfoldable pub named_in : List Said → List Label
named_in [] = []
named_in (c ∷ cs) = row_labels (rows_of c.command errors c.payload) ++ named_in cs

any_append : (q : Label → Bool) (a b : List Label) → (is_any q (a ++ b) ≡ true) ↔ ((is_any q a ≡ true) ⊎ (is_any q b ≡ true))
any_append q a b = (
  λ e. cases (is_any q a) (λ f. inl f) (λ f. inr (lt-ltb 0 (how_many q b) (omega (arith, ltb-true 0 (how_many q (a ++ b)) e, many_append q a b, not_any q a f)))),
  λ h. lt-ltb 0 (how_many q (a ++ b)) (⊎_elim (λ e. omega (arith, many_append q a b, ltb-true 0 (how_many q a) e)) (λ e. omega (arith, many_append q a b, ltb-true 0 (how_many q b) e)) h),
)

any_one : (q : Label → Bool) (l : Label) → is_any q (l ∷ []) ≡ q l
unfolding how_many
any_one q l = go (q l)
  where
    go : (f : Bool) → ltb 0 (pick f 1 0 + 0) ≡ f
    go true = refl
    go false = refl

-- an error's label
abbrev label_named : Named → Label
label_named x = record { index = index_of x; mark = mark_of x }

module _ (q : Label → Bool) (P : CommandTwo → Type 0) (same : (x : Named) → (q (label_named x) ≡ true) ↔ P (error x)) (only : (c : CommandTwo) → P c → is_error c ≡ true) where
  idle : (c : CommandTwo) → is_error c ≡ false → (◌≡◌ {A = Bool} false true) ↔ P c
  idle c e = (λ z. absurd (false≢true z), λ h. sym e ∙ only c h)

  one_iff : (c : CommandTwo) (p : List ℕ) → (is_any q (row_labels (rows_of c errors p)) ≡ true) ↔ P c
  unfolding how_many
  one_iff (ask w) p = idle (ask w) refl
  one_iff (stanza f) p = idle (stanza f) refl
  one_iff (key f) p = idle (key f) refl
  one_iff (error x) p = subst (λ f. (f ≡ true) ↔ P (error x)) (sym (any_one q (label_named x))) (same x)
  one_iff done p = idle done refl
  one_iff other p = idle other refl
  one_iff (bad n) p = idle (bad n) refl

  -- an error of the list has the property exactly if a label passes
  some_iff : (cs : List Said) → (is_any q (named_in cs) ≡ true) ↔ Some P cs
  unfolding named_in Some how_many
  some_iff [] = (λ e. absurd (false≢true e), λ e. absurd e)
  some_iff (c ∷ cs) =
      let a = any_append q (row_labels (rows_of c.command errors c.payload)) (named_in cs) in
      let i = one_iff c.command c.payload in
      let j = some_iff cs in
      (λ e. ⊎_elim (λ h. inl (i.0 h)) (λ h. inr (j.0 h)) (a.0 e), λ h. a.1 (⊎_elim (λ h. inl (i.1 h)) (λ h. inr (j.1 h)) h))

-- the mark of a header stanza's error is no other's
apart : (m f n i : ℕ) → (3 + f ≡ m → ⊥) → (eqb (3 + f) m && eqb i n) ≡ true → ⊥
apart m f n i d e = d (eqb-true (3 + f) m (and_true (eqb (3 + f) m) (eqb i n) e).0)

other_mark : (m f n i : ℕ) → (m ≡ 3 + f → ⊥) → (eqb m (3 + f) && eqb i n) ≡ true → ⊥
other_mark m f n i d e = d (eqb-true m (3 + f) (and_true (eqb m (3 + f)) (eqb i n) e).0)

names_recipient : (n : ℕ) (x : Named) → (is_naming 2 n (label_named x) ≡ true) ↔ (error x ≡ error (recipient n))
names_recipient n internal = (λ e. absurd (false≢true e), λ e. let z : ◌≡◌ {A = ℕ} 0 1 = cc in absurd (omega arith))
names_recipient n (identity i) = (λ e. absurd (false≢true e), λ e. let z : ◌≡◌ {A = ℕ} 0 1 = cc in absurd (omega arith))
names_recipient n (recipient i) = (λ e. ap (λ j. error (recipient j)) (eqb-true i n e), λ e. let z : i ≡ n = cc in eq-eqb i n z)
names_recipient n (header f i) = (λ e. absurd (apart 2 f n i (λ z. omega arith) e), λ e. let z : ◌≡◌ {A = ℕ} 0 1 = cc in absurd (omega arith))

names_identity : (n : ℕ) (x : Named) → (is_naming 1 n (label_named x) ≡ true) ↔ (error x ≡ error (identity n))
names_identity n internal = (λ e. absurd (false≢true e), λ e. let z : ◌≡◌ {A = ℕ} 0 1 = cc in absurd (omega arith))
names_identity n (identity i) = (λ e. ap (λ j. error (identity j)) (eqb-true i n e), λ e. let z : i ≡ n = cc in eq-eqb i n z)
names_identity n (recipient i) = (λ e. absurd (false≢true e), λ e. let z : ◌≡◌ {A = ℕ} 0 1 = cc in absurd (omega arith))
names_identity n (header f i) = (λ e. absurd (apart 1 f n i (λ z. omega arith) e), λ e. let z : ◌≡◌ {A = ℕ} 0 1 = cc in absurd (omega arith))

names_header : (f n : ℕ) (x : Named) → (is_naming (3 + f) n (label_named x) ≡ true) ↔ (error x ≡ error (header f n))
names_header f n internal = (λ e. absurd (other_mark 0 f n 0 (λ z. omega arith) e), λ e. let z : ◌≡◌ {A = ℕ} 0 1 = cc in absurd (omega arith))
names_header f n (identity i) = (λ e. absurd (other_mark 1 f n i (λ z. omega arith) e), λ e. let z : ◌≡◌ {A = ℕ} 0 1 = cc in absurd (omega arith))
names_header f n (recipient i) = (λ e. absurd (other_mark 2 f n i (λ z. omega arith) e), λ e. let z : ◌≡◌ {A = ℕ} 0 1 = cc in absurd (omega arith))
names_header f n (header g i) = (
  λ e. let a = and_true (eqb (3 + g) (3 + f)) (eqb i n) e in let z : 3 + g ≡ 3 + f = eqb-true (3 + g) (3 + f) a.0 in let k : g ≡ f = omega arith in ap₂ (λ f i. error (header f i)) k (eqb-true i n a.1),
  λ e. let y : g ≡ f = cc in let z : i ≡ n = cc in true_and (eqb (3 + g) (3 + f)) (eqb i n) (eq-eqb (3 + g) (3 + f) (ap (λ f. 3 + f) y)) (eq-eqb i n z),
)

-- each row that owes an error has had it
module _ (test : Label → Bool) (Owes : Row → Type 0) (same : (r : Row) → (test (row_label r) ≡ true) ↔ Owes r) (mark : ℕ) (Names : ℕ → CommandTwo → Type 0) (es : List Label) (cs : List Said)
    (names : (n : ℕ) → (is_any (is_naming mark n) es ≡ true) ↔ Some (Names n) cs) where
  owes_iff : (r : Row) (n : ℕ) → ((not (test (row_label r)) || is_any (is_naming mark n) es) ≡ true) ↔ (Owes r → Some (Names n) cs)
  owes_iff r n = cases (test (row_label r)) (λ e. rw e (λ h o. (names n).0 h, λ h. (names n).1 (h ((same r).0 e)))) (λ e. rw e (λ h o. absurd (true≢false (sym ((same r).1 o) ∙ e)), λ h. refl))

  reported_iff : (n : ℕ) (rs : List Row) → (are_reported test mark n (row_labels rs) es ≡ true) ↔ Reported Owes Names n rs cs
  unfolding are_reported Reported
  reported_iff n [] = (λ e. tt, λ e. refl)
  reported_iff n (r ∷ rs) =
      let i = owes_iff r n in
      let j = reported_iff (n + 1) rs in
      (λ e. let a = and_true _ _ e in (i.0 a.0, j.0 a.1), λ h. true_and _ _ (i.1 h.0) (j.1 h.1))

invalid_same : (r : Row) → (is_invalid (row_label r) ≡ true) ↔ (r.mark ≡ 0 → ⊥)
invalid_same r = (λ e z. true≢false (sym e ∙ (valid_same r).1 z), λ h. rw (ne_eqb r.mark 0 h))

-- no error is owed exactly if the list of commands reports all; the errors' table holds those of the list
pub all_reported_iff : (t : Tables) (left : Left) (cs : List Said) → Shows t left → labels t.errors ≡ named_in cs → (all_reported t ≡ true) ↔ AllReported left cs
all_reported_iff t left cs s e =
    let r = of recipients is_invalid (λ r. r.mark ≡ 0 → ⊥) invalid_same 2 (λ n c. c ≡ error (recipient n)) names_recipient (λ n c h. ap is_error h) in
    let i = of identities is_invalid (λ r. r.mark ≡ 0 → ⊥) invalid_same 1 (λ n c. c ≡ error (identity n)) names_identity (λ n c h. ap is_error h) in
    let h = subst₂ (λ l es. (are_stanzas_reported [] l es ≡ true) ↔ ((f i : ℕ) → RowAt (λ r. r.mark ≡ 1) (of_file f (left headers)) i → Some (λ c. c ≡ error (header f i)) cs)) (sym (s.labelled headers)) (sym e) stanzas_iff in (
      λ z. let a = and_true _ _ z in let b = and_true _ _ a.0 in record { of_recipients = r.0 b.0; of_identities = i.0 b.1; of_headers = h.0 a.1 },
      λ y. true_and _ _ (true_and _ _ (r.1 y.of_recipients) (i.1 y.of_identities)) (h.1 y.of_headers),
    )
  where
    -- error stanza f i
    had : (f i : ℕ) → (is_any (is_naming (3 + f) i) (named_in cs) ≡ true) ↔ Some (λ c. c ≡ error (header f i)) cs
    had f i = some_iff (is_naming (3 + f) i) (λ c. c ≡ error (header f i)) (names_header f i) (λ c h. ap is_error h) cs

    none_before : (f i : ℕ) → length (of_file f []) + i ≡ i
    none_before f i = unfold of_file in omega arith

    stanzas_iff : (are_stanzas_reported [] (row_labels (left headers)) (named_in cs) ≡ true) ↔ ((f i : ℕ) → RowAt (λ r. r.mark ≡ 1) (of_file f (left headers)) i → Some (λ c. c ≡ error (header f i)) cs)
    stanzas_iff = (
      λ z f i h. cases (is_any (is_naming (3 + f) i) (named_in cs)) (λ y. (had f i).0 y)
          (λ y. absurd (true≢false (sym z ∙ reported.owed_to (named_in cs) _ had [] (left headers) (f, i, h, λ x. true≢false (sym ((had f i).1 (subst (λ n. Some (λ c. c ≡ error (header f n)) cs) (none_before f i) x)) ∙ y))))),
      λ h. assured (are_stanzas_reported [] (row_labels (left headers)) (named_in cs))
          (λ z. let k = reported.owed_from (named_in cs) _ had [] (left headers) z in k.3 (subst (λ n. Some (λ c. c ≡ error (header k.0 n)) cs) (sym (none_before k.0 k.1)) (h k.0 k.1 k.2))),
    )

    of : (k : one_kind.KindOne) (test : Label → Bool) (Owes : Row → Type 0) → ((r : Row) → (test (row_label r) ≡ true) ↔ Owes r) → (mark : ℕ) (Names : ℕ → CommandTwo → Type 0) →
        ((n : ℕ) (x : Named) → (is_naming mark n (label_named x) ≡ true) ↔ Names n (error x)) → ((n : ℕ) (c : CommandTwo) → Names n c → is_error c ≡ true) →
        (are_reported test mark 0 (labels (one_kind.table_of k t)) (labels t.errors) ≡ true) ↔ Reported Owes Names 0 (left k) cs
    of k test Owes same mark Names names only =
        subst₂ (λ l es. (are_reported test mark 0 l es ≡ true) ↔ Reported Owes Names 0 (left k) cs) (sym (s.labelled k)) (sym e)
        (reported_iff test Owes same mark Names (named_in cs) cs (λ n. some_iff (is_naming mark n) (Names n) (names n) (only n) cs) 0 (left k))

-- ---- a sending

-- a conditional whose test holds has the first result's number
pick_zero : {X : Type 0} (number : X → ℕ) (f : Bool) (x y : X) → f ≡ true → number x ≡ 0 → number (pick f x y) ≡ 0
pick_zero number true x y e h = h
pick_zero number false x y e h = absurd (false≢true e)

module _ (s : Session) (t : Tables) (b : Buffers) (x : Exchange) where
  abbrev c : CommandTwo
  c = command_sent s.machine x

  abbrev p : List ℕ
  p = (said_in s.machine x).payload

  abbrev call : List ℕ → Call
  call out = send_two x.word x.arguments x.body out

  abbrev text : List ℕ
  text = stanza_text (line_of x) x.body

  -- it can be written and the decision finds no fault; the tables and the buffers behind it
  abbrev pub Judged : Type 0
  Judged = (is_writable (line_of x) x.body ≡ true) × (decided true t b.second c (length p) ≡ 0)

  abbrev pub tables_sent : Tables
  tables_sent = applied t b.second c p

  abbrev pub buffers_sent : Buffers
  buffers_sent = buffers_of b.first (filled_by t b.second c p)

  sent_zero : (out : List ℕ) → Judged → length text ≤ length out → (outcome (at s Two t) b (call out)).number ≡ 0
  unfolding sent sent_line
  sent_zero out j h =
      let n = first_of (pick (is_writable (line_of x) x.body) (decided true t b.second c (length p)) 17) (shortness text out) in
      pick_zero (λ (r : Sent). sent_number r.answer) (eqb n 0) _ _ (eq-eqb n 0 ((first_iff _ _).1 (ap (λ f. pick f (decided true t b.second c (length p)) 17) j.0 ∙ j.1, long_enough text out h))) refl

  -- it is accepted exactly then
  pub sent_to : (out : List ℕ) → (outcome (at s Two t) b (call out)).number ≡ 0 → Judged
  sent_to out z = let a = accepted (at s Two t) b (call out) z in (a.writable, a.faultless)

  pub sent_from : (out : List ℕ) → ((big : List ℕ) → length (written_by (at s Two t) b (call big)) ≤ length out) → Judged → (outcome (at s Two t) b (call out)).number ≡ 0
  sent_from out e j =
      let a = accepted (at s Two t) b (call text) (sent_zero text j (omega arith)) in
      sent_zero out j (subst (λ k. k ≤ length out) (ap length (front text text _ a.written)) (e text))

  -- and what it leaves
  sent_state : (out : List ℕ) → (outcome (at s Two t) b (call out)).number ≡ 0 → state_of (outcome (at s Two t) b (call out)).session (outcome (at s Two t) b (call out)).buffers ≡ state_of (at s (phase_sent c) tables_sent) buffers_sent
  sent_state out z = let a = accepted (at s Two t) b (call out) z in ap₂ state_of a.session a.buffers

-- ---- its responses

module _ (s : Session) (t : Tables) (b : Buffers) (w : WordTwo) where
  abbrev Fits : List ℕ → Type 0
  Fits u = OneResponse w (u ∷ [])

  respond_zero : (u out : List ℕ) → Fits u → length (body_in u) ≤ length out → (outcome (at s (Awaiting w) t) b (respond u out)).number ≡ 0
  unfolding responded_as same
  respond_zero u out f l = go (read_first u) f.1 f.2 l
    where
      read_as : (q : ResponseRead) (body : List ℕ) (k : ℕ) → q ≡ response f.0 → fits_whole w f.0 body ≡ true → length body ≤ length out → responded_number (responded_as w (at s (Awaiting w) t) q body k out).answer ≡ 0
      read_as q body k e g l =
          let m : ℕ = pick (fits_whole w f.0 body) 0 12 in
          let n = first_of m (shortness body out) in
          subst (λ q. responded_number (responded_as w (at s (Awaiting w) t) q body k out).answer ≡ 0) (sym e)
          (pick_zero (λ (x : responding.Responded). responded_number x.answer) (eqb n 0) _ _ (eq-eqb n 0 ((first_iff m _).1 (ap (λ x. pick x 0 12) g, long_enough body out l))) refl)

      go : (q : Reading) → response_of (line_read q u) ≡ response f.0 → fits_whole w f.0 (body_read q u) ≡ true → length (body_read q u) ≤ length out → responded_number (responded_text q w (at s (Awaiting w) t) u out).answer ≡ 0
      go (reading.stanza e n k) h g l = read_as (response_of (line_read (reading.stanza e n k) u)) (body_read (reading.stanza e n k) u) k h g l
      go (reading.refused n) h g l = let z : ◌≡◌ {A = ℕ} 0 1 = cc in absurd (omega arith)

  -- a response is accepted exactly if it fits
  respond_to : (u out : List ℕ) → (outcome (at s (Awaiting w) t) b (respond u out)).number ≡ 0 → Fits u
  respond_to u out z =
      let a = accepted (at s (Awaiting w) t) b (respond u out) z in
      let turn : Awaiting w ≡ Awaiting a.1.awaited = a.1.turn in
      let e : a.1.awaited ≡ w = cc in
      (a.0, a.1.named, subst (λ w. fits_whole w a.0 (body_in u) ≡ true) e a.1.fitting)

  respond_from : (u out : List ℕ) → ((big : List ℕ) → length (written_by (at s (Awaiting w) t) b (respond u big)) ≤ length out) → Fits u → (outcome (at s (Awaiting w) t) b (respond u out)).number ≡ 0
  respond_from u out e f =
      let body = body_in u in
      let a = accepted (at s (Awaiting w) t) b (respond u body) (respond_zero u body f (omega arith)) in
      respond_zero u out f (subst (λ k. k ≤ length out) (ap length (front body body _ a.1.written)) (e body))

  respond_state : (u out : List ℕ) → (outcome (at s (Awaiting w) t) b (respond u out)).number ≡ 0 → state_of (outcome (at s (Awaiting w) t) b (respond u out)).session (outcome (at s (Awaiting w) t) b (respond u out)).buffers ≡ state_of (at s Two t) b
  respond_state u out z = let a = (accepted (at s (Awaiting w) t) b (respond u out) z).1 in ap₂ state_of a.session a.buffers

  -- exactly one is accepted before the next sending
  responses_from : (outs : Supply) (us : List (List ℕ)) → OneResponse w us → LongEnough (at s (Awaiting w) t) b (response_calls outs us) →
      Accepted (at s (Awaiting w) t) b (response_calls outs us) × (after (at s (Awaiting w) t) b (response_calls outs us) ≡ state_of (at s Two t) b)
  unfolding AllZero numbers after response_calls LongEnough
  responses_from outs [] f l = absurd f
  responses_from outs (u ∷ []) f l = let z = respond_from u (outs 0) l.0 f in ((z, tt), respond_state u (outs 0) z)
  responses_from outs (u ∷ v ∷ us) f l = absurd f

  responses_to : (outs : Supply) (us : List (List ℕ)) → Accepted (at s (Awaiting w) t) b (response_calls outs us) → Settled (after (at s (Awaiting w) t) b (response_calls outs us)).session.phase → OneResponse w us
  unfolding AllZero numbers after response_calls
  responses_to outs [] a h = h
  responses_to outs (u ∷ []) a h = respond_to u (outs 0) a.0
  responses_to outs (u ∷ v ∷ us) a h =
      let n : ◌≡◌ {A = ℕ} 14 0 = ap (λ o. (outcome o.session o.buffers (respond v (skip 1 outs 0))).number) (sym (respond_state u (outs 0) a.0)) ∙ a.1.0 in
      absurd (omega arith)

-- none is accepted behind done
ended_none : (s : Session) (t : Tables) (b : Buffers) (outs : Supply) (us : List (List ℕ)) → Accepted (at s Ended t) b (response_calls outs us) → us ≡ []
unfolding AllZero numbers response_calls
ended_none s t b outs [] a = refl
ended_none s t b outs (u ∷ us) a = absurd (omega (arith, a.0))

none_accepted : (s : Session) (b : Buffers) (outs : Supply) (us : List (List ℕ)) → us ≡ [] → Accepted s b (response_calls outs us)
none_accepted s b outs us e = subst (λ us. Accepted s b (response_calls outs us)) (sym e) (unfold AllZero in unfold numbers in unfold response_calls in tt)

-- ---- an exchange

-- a right command that is not done awaits its one response
pub awaits : (c : CommandTwo) → Proper false c → is_right_two c ≡ true → (phase_sent c ≡ Awaiting (word_of c)) × ((us : List (List ℕ)) → Responded c us ↔ OneResponse (word_of c) us)
awaits (ask w) d e = (refl, λ us. (λ h. h, λ h. h))
awaits (stanza f) d e = (refl, λ us. (λ h. h, λ h. h))
awaits (key f) d e = (refl, λ us. (λ h. h, λ h. h))
awaits (error n) d e = (refl, λ us. (λ h. h, λ h. h))
awaits done d e = absurd (false≢true d)
awaits other d e = (refl, λ us. (λ h. h, λ h. h))
awaits (bad n) d e = absurd (false≢true e)

-- the word done that is right is done
done_is : (f : Bool) (c : CommandTwo) → c ≡ pick f done (bad 4) → is_right_two c ≡ true → c ≡ done
done_is true c e r = e
done_is false c e r = absurd (false≢true (sym (ap is_right_two e) ∙ r))

-- one command more
named_more : (h : List Said) (c : Said) → named_in (h ++ (c ∷ [])) ≡ named_in h ++ row_labels (rows_of c.command errors c.payload)
unfolding named_in
named_more [] c = append-nil (row_labels (rows_of c.command errors c.payload))
named_more (d ∷ h) c = ap (λ l. row_labels (rows_of d.command errors d.payload) ++ l) (named_more h c) ∙ sym (append_assoc (row_labels (rows_of d.command errors d.payload)) (named_in h) _)

module _ (s : Session) (left : Left) (t : Tables) (b : Buffers) (x : Exchange) (g : Standing left t b.second) where
  abbrev c' : CommandTwo
  c' = command_sent s.machine x

  abbrev p' : List ℕ
  p' = (said_in s.machine x).payload

  abbrev t' : Tables
  t' = tables_sent s t b x

  abbrev b' : Buffers
  b' = buffers_sent s t b x

  proper : (d : Bool) → is_done_sent x ≡ d → Proper d c'
  proper d e = subst (λ f. Proper f c') e (command_proper s.machine (line_of x) x.body)

  exact : (decided true t b.second c' (length p') ≡ 0) ↔ ((is_right_two c' ≡ true) × Present left c' × With t b.second c' p' × (is_held_back t c' ≡ false))
  exact = decided_exact true left t b.second (is_done_sent x) c' p' (proper (is_done_sent x) refl) g

  -- the errors' table behind it
  named_behind : (h : List Said) → labels t.errors ≡ named_in h → decided true t b.second c' (length p') ≡ 0 → labels t'.errors ≡ named_in (h ++ (said_in s.machine x ∷ []))
  named_behind h n z =
      labels_view t'.errors b'.second.errors
      ∙ ap row_labels (applied_view_two true t b.second p' g.going.held c' z errors)
      ∙ map-append row_label (view t.errors b.second.errors) _
      ∙ ap (λ l. l ++ row_labels (rows_of c' errors p')) (sym (labels_view t.errors b.second.errors) ∙ n)
      ∙ sym (named_more h (said_in s.machine x))

  pub standing_behind : decided true t b.second c' (length p') ≡ 0 → Standing left t' b'.second
  standing_behind z = standing_with true left t b.second c' p' g ((decided_iff true t b.second c' (length p')).0 z)

  -- one that is not done
  module _ (d : is_done_sent x ≡ false) where
    pub exchange_iff : (Judged s t b x × Responded c' x.responses) ↔ (RightExchange s.machine left x × With t b.second c' p')
    exchange_iff = (
      λ h.
          let q = exact.0 h.0.1 in
          (record { writable = h.0.0; right = q.0; present = q.1; unheld = (unheld_iff t left g.shows c' (proper false d) q.1).0 q.3; responded = h.1 }, q.2),
      λ h.
          let r = h.0 in
          ((r.writable, exact.1 (r.right, r.present, h.1, (unheld_iff t left g.shows c' (proper false d) r.present).1 r.unheld)), r.responded),
    )

    module _ (outs : Supply) where
      abbrev cs : List Call
      cs = response_calls (skip 1 outs) x.responses

      waiting : (outcome (at s Two t) b (call s t b x (outs 0))).number ≡ 0 → is_right_two c' ≡ true →
          state_of (outcome (at s Two t) b (call s t b x (outs 0))).session (outcome (at s Two t) b (call s t b x (outs 0))).buffers ≡ state_of (at s (Awaiting (word_of c')) t') b'
      waiting z r = sent_state s t b x (outs 0) z ∙ ap (λ q. state_of (at s q t') b') (awaits c' (proper false d) r).0

      pub exchange_to : Accepted (at s Two t) b (exchange_calls outs x) → Settled (after (at s Two t) b (exchange_calls outs x)).session.phase → Judged s t b x × Responded c' x.responses
      unfolding AllZero numbers after
      exchange_to a h =
          let j = sent_to s t b x (outs 0) a.0 in
          let r = (exact.0 j.1).0 in
          let e = waiting a.0 r in (
            j,
            ((awaits c' (proper false d) r).1 x.responses).1
                (responses_to s t' b' (word_of c') (skip 1 outs) x.responses (subst (λ u. Accepted u.session u.buffers cs) e a.1) (subst (λ u. Settled (after u.session u.buffers cs).session.phase) e h)),
          )

      pub exchange_from : LongEnough (at s Two t) b (exchange_calls outs x) → Judged s t b x → Responded c' x.responses →
          Accepted (at s Two t) b (exchange_calls outs x) × (after (at s Two t) b (exchange_calls outs x) ≡ state_of (at s Two t') b')
      unfolding AllZero numbers after LongEnough
      exchange_from l j q =
          let z = sent_from s t b x (outs 0) l.0 j in
          let r = (exact.0 j.1).0 in
          let e = waiting z r in
          let f = responses_from s t' b' (word_of c') (skip 1 outs) x.responses (((awaits c' (proper false d) r).1 x.responses).0 q) (subst (λ u. LongEnough u.session u.buffers cs) e l.1) in
          ((z, subst (λ u. Accepted u.session u.buffers cs) (sym e) f.0), ap (λ u. after u.session u.buffers cs) e ∙ f.1)

  -- done, behind the commands h
  module _ (d : is_done_sent x ≡ true) (h : List Said) (n : labels t.errors ≡ named_in h) where
    ending : is_right_two c' ≡ true → c' ≡ done
    ending r = done_is (is_bare (line_of x) (length x.body) 0) c' (done_command s.machine (line_of x) x.body d) r

    reports : c' ≡ done → (is_held_back t c' ≡ false) ↔ AllReported left (h ++ (said_in s.machine x ∷ []))
    reports e =
        let q : labels t.errors ≡ named_in (h ++ (said_in s.machine x ∷ [])) =
        n ∙ sym (append-nil (named_in h)) ∙ ap (λ c. named_in h ++ row_labels (rows_of c errors p')) (sym e) ∙ sym (named_more h (said_in s.machine x)) in
        let i = all_reported_iff t left (h ++ (said_in s.machine x ∷ [])) g.shows q in
        let held = ap (λ c. is_held_back t c) e in
        (λ z. i.0 (not-false _ (sym held ∙ z)), λ r. held ∙ not_is _ (i.1 r))

    last_to : (outs : Supply) → Accepted (at s Two t) b (exchange_calls outs x) → RightExchange s.machine left x × With t b.second c' p' × AllReported left (h ++ (said_in s.machine x ∷ []))
    unfolding AllZero numbers
    last_to outs a =
        let j = sent_to s t b x (outs 0) a.0 in
        let q = exact.0 j.1 in
        let e = ending q.0 in
        let state = sent_state s t b x (outs 0) a.0 ∙ ap (λ c. state_of (at s (phase_sent c) t') b') e in
        let none = ended_none s t' b' (skip 1 outs) x.responses (subst (λ u. Accepted u.session u.buffers (response_calls (skip 1 outs) x.responses)) state a.1) in
        (record { writable = j.0; right = q.0; present = q.1; unheld = subst (Unheld left) (sym e) tt; responded = subst (λ c. Responded c x.responses) (sym e) none }, q.2, (reports e).0 q.3)

    last_from : (outs : Supply) → LongEnough (at s Two t) b (exchange_calls outs x) → RightExchange s.machine left x → With t b.second c' p' → AllReported left (h ++ (said_in s.machine x ∷ [])) → Accepted (at s Two t) b (exchange_calls outs x)
    unfolding AllZero numbers LongEnough
    last_from outs l r w q =
        let e = ending r.right in
        (sent_from s t b x (outs 0) l.0 (r.writable, exact.1 (r.right, r.present, w, (reports e).1 q)), none_accepted _ _ (skip 1 outs) x.responses (subst (λ c. Responded c x.responses) e r.responded))

-- ---- a list of exchanges that done ends

module _ (s : Session) (left : Left) where
  -- each is right by itself
  abbrev pub Right : List Exchange → Type 0
  Right xs = All (RightExchange s.machine left) xs

  -- what they say
  abbrev pub saids : List Exchange → List Said
  saids xs = map (said_in s.machine) xs

  -- a list is accepted only in phase two
  first_turn : (s' : Session) (b : Buffers) (outs : Supply) (xs : List Exchange) (y : Exchange) → Accepted s' b (sending_calls outs (xs ++ (y ∷ []))) → s'.phase ≡ Two
  unfolding sending_calls AllZero numbers
  first_turn s' b outs [] y a = (accepted s' b (send_two y.word y.arguments y.body (outs 0)) a.0).turn
  first_turn s' b outs (x ∷ xs) y a = (accepted s' b (send_two x.word x.arguments x.body (outs 0)) a.0).turn

  -- the exchanges from here on are accepted exactly if each is right, together with what the tables hold they keep the limits, and with the errors of h, which are
  -- those of the errors' table, they report all
  pub sent_iff : (xs : List Exchange) (y : Exchange) (t : Tables) (b : Buffers) (outs : Supply) (h : List Said) → Standing left t b.second → labels t.errors ≡ named_in h →
      All (λ x. is_done_sent x ≡ false) xs → is_done_sent y ≡ true → LongEnough (at s Two t) b (sending_calls outs (xs ++ (y ∷ []))) →
      Accepted (at s Two t) b (sending_calls outs (xs ++ (y ∷ []))) ↔ (Right (xs ++ (y ∷ [])) × Fitting t b.second (saids (xs ++ (y ∷ []))) × AllReported left (h ++ saids (xs ++ (y ∷ []))))
  unfolding All sending_calls
  sent_iff [] y t b outs h g n d e l =
      let le = (enough_append (at s Two t) b (exchange_calls outs y) [] l).0 in
      let split = accepted_append (at s Two t) b (exchange_calls outs y) [] in
      let c = command_sent s.machine y in
      let p = (said_in s.machine y).payload in (
        λ a. let r = last_to s left t b y g e h n outs (split.0 a).0 in ((r.0, tt), fitting_one t b.second c p r.1, r.2),
        λ r. split.1 (last_from s left t b y g e h n outs le r.0.0 (fitting_front t b.second c p [] r.1) r.2, unfold AllZero in unfold numbers in tt),
      )
  sent_iff (x ∷ xs) y t b outs h g n d e l =
      let later-outs = skip (length x.responses) (skip 1 outs) in
      let cs = sending_calls later-outs (xs ++ (y ∷ [])) in
      let le = enough_append (at s Two t) b (exchange_calls outs x) cs l in
      let split = accepted_append (at s Two t) b (exchange_calls outs x) cs in
      let c = command_sent s.machine x in
      let p = (said_in s.machine x).payload in
      let i = exchange_iff s left t b x g d.0 in
      let t' = tables_sent s t b x in
      let b' = buffers_sent s t b x in
      let rest = saids (xs ++ (y ∷ [])) in
      let h' = h ++ (said_in s.machine x ∷ []) in
      let more : h' ++ rest ≡ h ++ (said_in s.machine x ∷ rest) = append_assoc h (said_in s.machine x ∷ []) rest in
      let state : Judged s t b x → Responded c x.responses → after (at s Two t) b (exchange_calls outs x) ≡ state_of (at s Two t') b' = λ j q. (exchange_from s left t b x g d.0 outs le.0 j q).1 in
      let later : Judged s t b x → Responded c x.responses → Accepted (at s Two t') b' cs ↔ (Right (xs ++ (y ∷ [])) × Fitting t' b'.second rest × AllReported left (h' ++ rest)) =
      λ j q. sent_iff xs y t' b' later-outs h' (standing_behind s left t b x g j.1) (named_behind s left t b x g h n j.1) d.1 e (subst (λ u. LongEnough u.session u.buffers cs) (state j q) le.1) in (
        λ a.
            let split-a = split.0 a in
            let turn = first_turn (after (at s Two t) b (exchange_calls outs x)).session (after (at s Two t) b (exchange_calls outs x)).buffers later-outs xs y split-a.1 in
            let k = exchange_to s left t b x g d.0 outs split-a.0 (subst Settled (sym turn) tt) in
            let r = i.0 k in
            let z = (later k.0 k.1).0 (subst (λ u. Accepted u.session u.buffers cs) (state k.0 k.1) split-a.1) in
            let f = (decided_iff true t b.second c (length p)).0 k.0.1 in
            ((r.0, z.0), (fitting_rest true left t b.second c p rest g f).1 z.1, subst (AllReported left) more z.2),
        λ r.
            let k = i.1 (r.0.0, fitting_front t b.second c p rest r.1) in
            let f = (decided_iff true t b.second c (length p)).0 k.0.1 in
            let z = (later k.0 k.1).1 (r.0.1, (fitting_rest true left t b.second c p rest g f).0 r.1, subst (AllReported left) (sym more) r.2) in
            split.1 ((exchange_from s left t b x g d.0 outs le.0 k.0 k.1).0, subst (λ u. Accepted u.session u.buffers cs) (sym (state k.0 k.1)) z),
      )

-- ---- where nothing of phase two was accepted yet

-- a session that has just come to phase two accepts exactly the allowed exchanges
pub accepted_sent_iff : (s : Session) (b : Buffers) → JustReached s → (outs : Supply) (xs : List Exchange) (y : Exchange) → All (λ x. is_done_sent x ≡ false) xs → is_done_sent y ≡ true →
    LongEnough s b (sending_calls outs (xs ++ (y ∷ []))) → Accepted s b (sending_calls outs (xs ++ (y ∷ []))) ↔ AllowedSent s.machine (left_of (state_of s b)) (capacity_of b) (xs ++ (y ∷ []))
accepted_sent_iff s b j outs xs y d e l =
    let cs = sending_calls outs (xs ++ (y ∷ [])) in
    let left = left_of (state_of s b) in
    let here = two_session s j in
    let errorless : labels s.tables.errors ≡ named_in [] = unfold named_in in ap labels j.later_opened.0 in
    let i = sent_iff s left xs y s.tables b outs [] (begins s b j) errorless d e (subst (λ s. LongEnough s b cs) (sym here) l) in
    let f = fitting_all s b j (saids s left (xs ++ (y ∷ []))) in (
      λ a. let r = i.0 (subst (λ s. Accepted s b cs) (sym here) a) in record { right = r.0; limits = f.0 r.1; reported = r.2 },
      λ r. subst (λ s. Accepted s b cs) here (i.1 (r.right, f.1 r.limits, r.reported)),
    )
