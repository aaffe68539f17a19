-- Tables: of any list of calls, refused ones included, at both ends, each kind's table is exactly the list's accepted commands of that kind, in order.
use Prim.Native.Nat.{ℕ, ◌+◌}
use mathlib.Core.Path.{◌≡◌, refl, sym, ap, ap₂, ◌∙◌}
use mathlib.Core.Bool.{Bool, true, false}
use mathlib.Core.List.{List, [], ◌∷◌, ◌++◌, append-nil, append_assoc}
use lib.Dec.{eqb}
use lib.ListN.{length, get_or, length-append}
use lib.Seq.{get_or_at}
use borrow.Author.Tests.{eqb-true, eqb-false, eq-eqb, ne_eqb}
use Rattle.refusal.specs.Pick.{pick}
use Rattle.refusal.proofs.Laws.Booleans.{cases}
use Rattle.stanza.specs.Reading.{read_first}
use Rattle.tables.specs.Tables.{Row, view}
use Rattle.tables.proofs.Laws.Tables.{view_count}
use Rattle.phase_one.specs.Commands.{CommandOne, recipient, identity, key, header, done, other, bad}
use Rattle.phase_one.specs.PhaseOne as one
use Rattle.session.specs.Tables.{Tables, opened_tables}
use Rattle.phase_one.specs.PhaseOne.{command_in, payload_in}
use Rattle.phase_one.specs.Turns.{phase_after}
use Rattle.phase_one.specs.Views as one_kind
use Rattle.phase_one.specs.Views.{recipients, identities, keys, headers}
use Rattle.session.specs.declared.phases.Phase.{Phase}
use Rattle.phase_one.proofs.Laws.Views.{Reached}
use Rattle.session.specs.Session.{Session, moved, opened}
use Rattle.conversation.specs.Kinds.{AnyKind, first, second, Buffers, buffers_of, table_of, view_of, of_file}
use Rattle.conversation.specs.CommandsTwo as two_command
use Rattle.conversation.specs.CommandsTwo.{CommandTwo}
use Rattle.conversation.specs.PhaseTwo as two
use Rattle.conversation.specs.PhaseTwo.{errors, stanzas, returned}
use Rattle.conversation.specs.ReceivingTwo.{phase_received}
use Rattle.conversation.specs.SendingTwo.{phase_sent}
use Rattle.conversation.specs.Numbers.{buffer_for}
use Rattle.conversation.specs.Tables.{Numbered, NumberedInFile, Ignored, phase_ignored}
use Rattle.conversation.specs.Calls.{Call, receive, send, receive_two, reply, send_two, respond, Outcome, outcome, after, line_read, body_read, brought_by, rows_one, rows_two, rows_brought, accepted_rows}
use Rattle.conversation.proofs.Laws.DecidedTwo.{of_file_append}
use Rattle.conversation.proofs.Laws.Accepted.{AppliedOne, AppliedTwo, command_at, payload_at, applied_rows, AcceptedBy, accepted}
use Rattle.conversation.proofs.Laws.Reached.{ReachedSession, empty_reached, opening_tables, opening_reached, call_reached, after_reached}
use Rattle.conversation.proofs.Laws.Refusals.{refusal}
use Rattle.conversation.proofs.Laws.ViewsTwo.{kept_two, applied_view_two, one_leaves, two_leaves}

-- ---- one call

module _ (s : Session) (b : Buffers) where
  same_rows : (o : Outcome) (k : AnyKind) → o.session.tables ≡ s.tables → o.buffers ≡ b → view_of k o.session.tables o.buffers ≡ view_of k s.tables b ++ []
  same_rows o k t e = ap₂ (view_of k) t e ∙ sym (append-nil (view_of k s.tables b))

module _ (s : Session) (b : Buffers) (r : ReachedSession s) where
  -- the rows that an accepted command of phase one adds to a kind's table
  one_rows : (line body text out : List ℕ) (o : Outcome) → AppliedOne s b line body text out o → (k : AnyKind) → view_of k o.session.tables o.buffers ≡ view_of k s.tables b ++ rows_one s line body k
  one_rows line body text out o a (first k) = applied_rows s b.first line body o.session o.buffers.first a.applied r.tables k
  one_rows line body text out o a (second k) =
      ap₂ (λ t x. view t (two.buffer_of k x))
      (ap (λ x. two.table_of k x.tables) a.applied.session ∙ one_leaves s.tables (payload_in s.machine s.name line body) b.first (command_in s.machine s.name line body) k) a.second
      ∙ sym (append-nil (view_of (second k) s.tables b))

  -- .. one of phase two
  two_rows : (own : Bool) (line body : List ℕ) (phase : Phase) (text out : List ℕ) (o : Outcome) → AppliedTwo own s b line body phase text out o →
      (k : AnyKind) → view_of k o.session.tables o.buffers ≡ view_of k s.tables b ++ rows_two s line body k
  two_rows own line body phase text out o a (first k) =
      ap₂ (λ t x. view t (one_kind.buffer_of k x))
      (ap (λ x. one_kind.table_of k x.tables) a.session ∙ two_leaves s.tables (payload_at s line body) b.second (command_at s line body) k) (ap (λ x. x.first) a.buffers)
      ∙ sym (append-nil (view_of (first k) s.tables b))
  two_rows own line body phase text out o a (second k) =
      ap₂ (two.view_of k) (ap (λ x. x.tables) a.session) (ap (λ x. x.second) a.buffers)
      ∙ applied_view_two own s.tables b.second (payload_at s line body) (kept_two s.tables r.later_tables) (command_at s line body) a.faultless k

  -- .. an accepted call
  pub accepted_view : (c : Call) → AcceptedBy s b c → (k : AnyKind) → view_of k (outcome s b c).session.tables (outcome s b c).buffers ≡ view_of k s.tables b ++ rows_brought s (brought_by c) k
  accepted_view (receive text) a k = one_rows _ _ _ _ (outcome s b (receive text)) a k
  accepted_view (send word arguments body out) a k = one_rows _ _ _ _ (outcome s b (send word arguments body out)) a k
  accepted_view (receive_two text out) a k = two_rows false _ _ _ _ _ (outcome s b (receive_two text out)) a k
  accepted_view (reply x body out) a k = same_rows s b (outcome s b (reply x body out)) k (ap (λ x. x.tables) a.session) a.buffers
  accepted_view (send_two word arguments body out) a k = two_rows true _ _ _ _ _ (outcome s b (send_two word arguments body out)) a k
  accepted_view (respond text out) a k = same_rows s b (outcome s b (respond text out)) k (ap (λ x. x.tables) a.1.session) a.1.buffers

-- the rows that a call adds to a kind's table: those of its command if it is accepted, else none
pub call_view : (s : Session) (b : Buffers) (c : Call) → ReachedSession s → (k : AnyKind) →
    view_of k (outcome s b c).session.tables (outcome s b c).buffers ≡ view_of k s.tables b ++ pick (eqb (outcome s b c).number 0) (rows_brought s (brought_by c) k) []
call_view s b c r k =
    cases (eqb (outcome s b c).number 0)
    (λ f. accepted_view s b r c (accepted s b c (eqb-true (outcome s b c).number 0 f)) k ∙ ap (λ x. view_of k s.tables b ++ pick x (rows_brought s (brought_by c) k) []) (sym f))
    (λ f. let w = refusal s b c (eqb-false (outcome s b c).number 0 f) in
    same_rows s b (outcome s b c) k w.tables w.buffers ∙ ap (λ x. view_of k s.tables b ++ pick x (rows_brought s (brought_by c) k) []) (sym f))

-- ---- lists of calls

-- each kind's table afterwards is what it was, and behind it the rows of the list's accepted commands of that kind, in order
pub tables_after : (k : AnyKind) (s : Session) (b : Buffers) (cs : List Call) → ReachedSession s →
    view_of k (after s b cs).session.tables (after s b cs).buffers ≡ view_of k s.tables b ++ accepted_rows k s b cs
unfolding after accepted_rows
tables_after k s b [] r = sym (append-nil (view_of k s.tables b))
tables_after k s b (c ∷ cs) r =
    tables_after k (outcome s b c).session (outcome s b c).buffers cs (call_reached s b c r) ∙ ap (λ v. v ++ accepted_rows k (outcome s b c).session (outcome s b c).buffers cs) (call_view s b c r k)
    ∙ append_assoc (view_of k s.tables b) _ _

empty_view : (k : AnyKind) (b : Buffers) → view_of k opened_tables b ≡ []
empty_view (first recipients) b = refl
empty_view (first identities) b = refl
empty_view (first keys) b = refl
empty_view (first headers) b = refl
empty_view (second errors) b = refl
empty_view (second stanzas) b = refl
empty_view (second returned) b = refl

-- where the tables were as opened, each kind's table afterwards is exactly the list's accepted commands of that kind, in order
pub tables_from_empty : (k : AnyKind) (s : Session) (b : Buffers) (cs : List Call) → s.tables ≡ opened_tables →
    view_of k (after s b cs).session.tables (after s b cs).buffers ≡ accepted_rows k s b cs
tables_from_empty k s b cs e = tables_after k s b cs (empty_reached s e) ∙ ap (λ v. v ++ accepted_rows k s b cs) (ap (λ t. view_of k t b) e ∙ empty_view k b)

-- so it is from any opening on
pub tables_opened : (k : AnyKind) (machine name : List ℕ) (screen : Bool) (b : Buffers) (cs : List Call) →
    view_of k (after (opened machine name screen).session b cs).session.tables (after (opened machine name screen).session b cs).buffers ≡ accepted_rows k (opened machine name screen).session b cs
tables_opened k machine name screen b cs = tables_from_empty k (opened machine name screen).session b cs (opening_tables machine name screen)

-- ---- counts and numbers

-- a kind's count is the number of its rows, whatever the buffers
pub count_rows : (k : AnyKind) (s : Session) (b : Buffers) → ReachedSession s → (table_of k s.tables).count ≡ length (view_of k s.tables b)
unfolding Reached
count_rows (first k) s b r = sym (view_count (one_kind.table_of k s.tables) (one_kind.buffer_of k b.first) (r.tables k).kept_so)
count_rows (second k) s b r = sym (view_count (two.table_of k s.tables) (two.buffer_of k b.second) (kept_two s.tables r.later_tables k))

-- so a kind's count grows by the number of its accepted commands
pub count_after : (k : AnyKind) (s : Session) (b : Buffers) (cs : List Call) → ReachedSession s → (table_of k (after s b cs).session.tables).count ≡ (table_of k s.tables).count + length (accepted_rows k s b cs)
count_after k s b cs r =
    count_rows k (after s b cs).session (after s b cs).buffers (after_reached s b cs r) ∙ ap length (tables_after k s b cs r) ∙ length-append (view_of k s.tables b) (accepted_rows k s b cs)
    ∙ ap (λ n. n + length (accepted_rows k s b cs)) (sym (count_rows k s b r))

-- from an opening on it is that number
pub count_opened : (k : AnyKind) (machine name : List ℕ) (screen : Bool) (b : Buffers) (cs : List Call) →
    (table_of k (after (opened machine name screen).session b cs).session.tables).count ≡ length (accepted_rows k (opened machine name screen).session b cs)
count_opened k machine name screen b cs =
    let s = (opened machine name screen).session in
    count_rows k (after s b cs).session (after s b cs).buffers (after_reached s b cs (opening_reached machine name screen)) ∙ ap length (tables_opened k machine name screen b cs)

-- an accepted command's number and row
pub numbered : (s : Session) (b : Buffers) (c : Call) (k : AnyKind) (row : Row) → ReachedSession s → (outcome s b c).number ≡ 0 → rows_brought s (brought_by c) k ≡ row ∷ [] → Numbered s b c k row
numbered s b c k row r z q =
    let v : view_of k (outcome s b c).session.tables (outcome s b c).buffers ≡ view_of k s.tables b ++ (row ∷ []) = accepted_view s b r c (accepted s b c z) k ∙ ap (λ l. view_of k s.tables b ++ l) q in
    record {
      count =
          count_rows k (outcome s b c).session (outcome s b c).buffers (call_reached s b c r) ∙ ap length v ∙ length-append (view_of k s.tables b) (row ∷ [])
          ∙ ap (λ n. n + 1) (sym (count_rows k s b r));
      entry = λ d. ap (λ l. get_or l (table_of k s.tables).count d) v ∙ get_or_at (view_of k s.tables b) row [] d (table_of k s.tables).count (sym (count_rows k s b r));
      rows = v;
    }

-- ---- numbers within a file

own_file : (f : ℕ) (row : Row) → row.index ≡ f → of_file f (row ∷ []) ≡ row ∷ []
unfolding of_file
own_file f row e = ap (λ x. pick x (row ∷ []) [] ++ []) (eq-eqb row.index f e)

-- .. within its file
pub numbered_in_file : (s : Session) (b : Buffers) (c : Call) (k : AnyKind) (f : ℕ) (row : Row) → ReachedSession s → (outcome s b c).number ≡ 0 →
    rows_brought s (brought_by c) k ≡ row ∷ [] → row.index ≡ f → NumberedInFile s b c k f row
numbered_in_file s b c k f row r z q e =
    let v : of_file f (view_of k (outcome s b c).session.tables (outcome s b c).buffers) ≡ of_file f (view_of k s.tables b) ++ (row ∷ []) =
    ap (of_file f) (numbered s b c k row r z q).rows ∙ of_file_append f (view_of k s.tables b) (row ∷ []) ∙ ap (λ l. of_file f (view_of k s.tables b) ++ l) (own_file f row e) in
    record { rows = v; entry = λ d. ap (λ l. get_or l (length (of_file f (view_of k s.tables b))) d) v ∙ get_or_at (of_file f (view_of k s.tables b)) row [] d (length (of_file f (view_of k s.tables b))) refl }

-- another file's rows stay
pub other_file : (s : Session) (b : Buffers) (c : Call) (k : AnyKind) (f : ℕ) (row : Row) → ReachedSession s → (outcome s b c).number ≡ 0 →
    rows_brought s (brought_by c) k ≡ row ∷ [] → (row.index ≡ f → ⊥) → of_file f (view_of k (outcome s b c).session.tables (outcome s b c).buffers) ≡ of_file f (view_of k s.tables b)
unfolding of_file
other_file s b c k f row r z q h =
    ap (of_file f) (numbered s b c k row r z q).rows ∙ of_file_append f (view_of k s.tables b) (row ∷ [])
    ∙ ap (λ x. of_file f (view_of k s.tables b) ++ (pick x (row ∷ []) [] ++ [])) (ne_eqb row.index f h) ∙ append-nil (of_file f (view_of k s.tables b))

-- ---- what a command leaves

-- a command makes no entry of a kind: the kind's table and its buffer stay
applied_elsewhere : (t : Tables) (b : one.BuffersOne) (c : CommandOne) (k : one_kind.KindOne) (p : List ℕ) → one_kind.rows_of c k p ≡ [] →
    (one_kind.table_of k (one.applied t b c p) ≡ one_kind.table_of k t) × (one_kind.buffer_of k (one.filled_by t b c p) ≡ one_kind.buffer_of k b)
applied_elsewhere t b (recipient m) recipients p h = (cc, cc)
applied_elsewhere t b (recipient m) identities p h = (refl, refl)
applied_elsewhere t b (recipient m) keys p h = (refl, refl)
applied_elsewhere t b (recipient m) headers p h = (refl, refl)
applied_elsewhere t b (identity m) recipients p h = (refl, refl)
applied_elsewhere t b (identity m) identities p h = (cc, cc)
applied_elsewhere t b (identity m) keys p h = (refl, refl)
applied_elsewhere t b (identity m) headers p h = (refl, refl)
applied_elsewhere t b key recipients p h = (refl, refl)
applied_elsewhere t b key identities p h = (refl, refl)
applied_elsewhere t b key keys p h = (cc, cc)
applied_elsewhere t b key headers p h = (refl, refl)
applied_elsewhere t b (header i m) recipients p h = (refl, refl)
applied_elsewhere t b (header i m) identities p h = (refl, refl)
applied_elsewhere t b (header i m) keys p h = (refl, refl)
applied_elsewhere t b (header i m) headers p h = (cc, cc)
applied_elsewhere t b done k p h = (refl, refl)
applied_elsewhere t b other k p h = (refl, refl)
applied_elsewhere t b (bad n) k p h = (refl, refl)

two_elsewhere : (t : Tables) (b : two.BuffersTwo) (c : CommandTwo) (k : two.KindTwo) (p : List ℕ) → two.rows_of c k p ≡ [] →
    (two.table_of k (two.applied t b c p) ≡ two.table_of k t) × (two.buffer_of k (two.filled_by t b c p) ≡ two.buffer_of k b)
two_elsewhere t b (two_command.ask w) k p h = (refl, refl)
two_elsewhere t b (two_command.stanza f) errors p h = (refl, refl)
two_elsewhere t b (two_command.stanza f) stanzas p h = (cc, cc)
two_elsewhere t b (two_command.stanza f) returned p h = (refl, refl)
two_elsewhere t b (two_command.key f) errors p h = (refl, refl)
two_elsewhere t b (two_command.key f) stanzas p h = (refl, refl)
two_elsewhere t b (two_command.key f) returned p h = (cc, cc)
two_elsewhere t b (two_command.error n) errors p h = (cc, cc)
two_elsewhere t b (two_command.error n) stanzas p h = (refl, refl)
two_elsewhere t b (two_command.error n) returned p h = (refl, refl)
two_elsewhere t b two_command.done k p h = (refl, refl)
two_elsewhere t b two_command.other k p h = (refl, refl)
two_elsewhere t b (two_command.bad n) k p h = (refl, refl)

module _ (s : Session) (b : Buffers) where
  abbrev Stays : Outcome → AnyKind → Type 0
  Stays o k = (table_of k o.session.tables ≡ table_of k s.tables) × (buffer_for k o.buffers ≡ buffer_for k b)

  one_stays : (line body text out : List ℕ) (o : Outcome) → AppliedOne s b line body text out o → (k : AnyKind) → rows_one s line body k ≡ [] → Stays o k
  one_stays line body text out o a (first k) q =
      let w = applied_elsewhere s.tables b.first (command_in s.machine s.name line body) k (payload_in s.machine s.name line body) q in
      (ap (λ x. one_kind.table_of k x.tables) a.applied.session ∙ w.0, ap (one_kind.buffer_of k) a.applied.buffers ∙ w.1)
  one_stays line body text out o a (second k) q = (
    ap (λ x. two.table_of k x.tables) a.applied.session ∙ one_leaves s.tables (payload_in s.machine s.name line body) b.first (command_in s.machine s.name line body) k,
    ap (two.buffer_of k) a.second,
  )

  two_stays : (own : Bool) (line body : List ℕ) (phase : Phase) (text out : List ℕ) (o : Outcome) → AppliedTwo own s b line body phase text out o → (k : AnyKind) → rows_two s line body k ≡ [] → Stays o k
  two_stays own line body phase text out o a (first k) q = (
    ap (λ x. one_kind.table_of k x.tables) a.session ∙ two_leaves s.tables (payload_at s line body) b.second (command_at s line body) k,
    ap (λ x. one_kind.buffer_of k x.first) a.buffers,
  )
  two_stays own line body phase text out o a (second k) q =
      let w = two_elsewhere s.tables b.second (command_at s line body) k (payload_at s line body) q in
      (ap (λ x. two.table_of k x.tables) a.session ∙ w.0, ap (λ x. two.buffer_of k x.second) a.buffers ∙ w.1)

  -- an accepted call whose command makes no entry of a kind, or that has no command, changes neither the kind's table nor its buffer
  pub elsewhere : (c : Call) (k : AnyKind) → (outcome s b c).number ≡ 0 → rows_brought s (brought_by c) k ≡ [] →
      (table_of k (outcome s b c).session.tables ≡ table_of k s.tables) × (buffer_for k (outcome s b c).buffers ≡ buffer_for k b)
  elsewhere c k z = by c (accepted s b c z)
    where
      by : (c : Call) → AcceptedBy s b c → rows_brought s (brought_by c) k ≡ [] → Stays (outcome s b c) k
      by (receive text) a q = one_stays _ _ _ _ (outcome s b (receive text)) a k q
      by (send word arguments body out) a q = one_stays _ _ _ _ (outcome s b (send word arguments body out)) a k q
      by (receive_two text out) a q = two_stays false _ _ _ _ _ (outcome s b (receive_two text out)) a k q
      by (reply x body out) a q = (ap (λ x. table_of k x.tables) a.session, ap (buffer_for k) a.buffers)
      by (send_two word arguments body out) a q = two_stays true _ _ _ _ _ (outcome s b (send_two word arguments body out)) a k q
      by (respond text out) a q = (ap (λ x. table_of k x.tables) a.1.session, ap (buffer_for k) a.1.buffers)

-- ---- an ignored command

module _ (s : Session) (b : Buffers) where
  abbrev Unchanged : Phase → Outcome → Type 0
  Unchanged p o = (o.session ≡ moved s p s.tables) × (o.buffers ≡ b)

  one_ignored : (line body text out : List ℕ) (o : Outcome) → AppliedOne s b line body text out o → command_in s.machine s.name line body ≡ other → Unchanged s.phase o
  one_ignored line body text out o a q =
      let p = payload_in s.machine s.name line body in (
        a.applied.session ∙ ap (λ x. moved s (phase_after x) (one.applied s.tables b.first x p)) q ∙ ap (λ h. moved s h s.tables) (sym a.applied.turn),
        ap₂ buffers_of (a.applied.buffers ∙ ap (λ x. one.filled_by s.tables b.first x p) q) a.second,
      )

  two_ignored : (own : Bool) (line body : List ℕ) (phase : CommandTwo → Phase) (text out : List ℕ) (o : Outcome) → AppliedTwo own s b line body (phase (command_at s line body)) text out o →
      command_at s line body ≡ two_command.other → Unchanged (phase two_command.other) o
  two_ignored own line body phase text out o a q =
      let p = payload_at s line body in (
        a.session ∙ ap (λ x. moved s (phase x) (two.applied s.tables b.second x p)) q,
        a.buffers ∙ ap (λ x. buffers_of b.first (two.filled_by s.tables b.second x p)) q,
      )

  -- it changes nothing else
  pub ignored : (c : Call) → (outcome s b c).number ≡ 0 → Ignored s (brought_by c) → ((outcome s b c).session ≡ moved s (phase_ignored s c) s.tables) × ((outcome s b c).buffers ≡ b)
  ignored c z = by c (accepted s b c z)
    where
      by : (c : Call) → AcceptedBy s b c → Ignored s (brought_by c) → Unchanged (phase_ignored s c) (outcome s b c)
      by (receive text) a q = one_ignored _ _ _ _ (outcome s b (receive text)) a q
      by (send word arguments body out) a q = one_ignored _ _ _ _ (outcome s b (send word arguments body out)) a q
      by (receive_two text out) a q =
          let w = two_ignored false (line_read (read_first text) text) (body_read (read_first text) text) (phase_received s.screen) _ out (outcome s b (receive_two text out)) a q in
          (w.0 ∙ ap (λ h. moved s h s.tables) (sym a.turn), w.1)
      by (reply x body out) a q = absurd q
      by (send_two word arguments body out) a q = two_ignored true (two_command.line_sent word arguments) body phase_sent _ out (outcome s b (send_two word arguments body out)) a q
      by (respond text out) a q = absurd q
