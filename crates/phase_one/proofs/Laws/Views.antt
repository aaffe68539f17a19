-- An accepted command of phase one adds one row to its kind's table and none to another's: once for every kind.
use Prim.Native.Nat.{ℕ, ◌<◌}
use mathlib.Core.Path.{◌≡◌, refl, sym, ap, ◌∙◌, subst}
use mathlib.Core.Bool.{Bool, true, false, ◌&&◌}
use mathlib.Core.List.{List, [], ◌∷◌, ◌++◌, append-nil}
use lib.Dec.{eqb, leb}
use lib.ListN.{length, length-append}
use native.Mathlib.Omega.{arith}
use borrow.Author.Tests.{eqb-true}
use Rattle.refusal.specs.Pick.{pick}
use Rattle.refusal.proofs.Laws.Booleans.{cases, and_true}
use Rattle.stanza.specs.Arguments.{is_line, count_of, argument_of}
use Rattle.stanza.specs.Index.{ReadIndex, number, refused, read_index}
use Rattle.stanza.proofs.Laws.Arguments.{argument_some}
use Rattle.bech32.specs.Text.{parse}
use Rattle.bech32.specs.Calls.{form_of, mark_of}
use Rattle.bech32.specs.declared.TextKind.{TextKind}
use Rattle.bech32.specs.declared.TextKind.TheVariants as the_kind
use Rattle.phase_one.specs.Commands.{WordOne, add_recipient, add_identity, wrap_file_key, recipient_stanza, done_command, other_word, word_in, CommandOne, recipient, identity, key, header, done, other, bad, text_of_kind, header_mark, indexed, is_bare, row_command, payload_of}
use Rattle.tables.specs.Repeats.{repeats}
use Rattle.tables.specs.Tables.{Table, fits, entered, kept, view}
use Rattle.session.specs.declared.opening.Machine.{Machine}
use Rattle.session.specs.Tables.{Tables, opened_tables}
use Rattle.phase_one.specs.PhaseOne.{BuffersOne, falls, decided, applied, filled_by, command_in, payload_in, number_one, tables_one, buffers_one}
use Rattle.refusal.specs.Verdict.{first_of}
use Rattle.phase_one.specs.Views.{KindOne, recipients, identities, keys, headers, table_of, view_of, rows_of}
use Rattle.tables.proofs.Laws.Tables.{Kept, Filled, opened_filled, entered_filled, entered_view}

-- tables that an opening and calls can reach
unfoldable pub Reached : Tables → Type 0
Reached t = (k : KindOne) → Filled (table_of k t)

pub opened_reached : Reached opened_tables
unfolding Reached
opened_reached recipients = opened_filled 64
opened_reached identities = opened_filled 64
opened_reached keys = opened_filled 64
opened_reached headers = opened_filled 256

-- the payload of a command that makes an entry is not empty
abbrev pub Stored : CommandOne → List ℕ → Type 0
Stored (recipient m) p = 0 < length p
Stored (identity m) p = 0 < length p
Stored key p = 0 < length p
Stored (header i m) p = 0 < length p
Stored done p = Unit
Stored other p = Unit
Stored (bad n) p = Unit

-- commands keep them so
pub applied_reached : (t : Tables) (b : BuffersOne) (c : CommandOne) (p : List ℕ) → Stored c p → Reached t → Reached (applied t b c p)
unfolding Reached
applied_reached t b (recipient m) p h r recipients = entered_filled t.recipients (length p) 0 m (length b.recipients) (r recipients) h
applied_reached t b (recipient m) p h r identities = r identities
applied_reached t b (recipient m) p h r keys = r keys
applied_reached t b (recipient m) p h r headers = r headers
applied_reached t b (identity m) p h r recipients = r recipients
applied_reached t b (identity m) p h r identities = entered_filled t.identities (length p) 0 m (length b.identities) (r identities) h
applied_reached t b (identity m) p h r keys = r keys
applied_reached t b (identity m) p h r headers = r headers
applied_reached t b key p h r recipients = r recipients
applied_reached t b key p h r identities = r identities
applied_reached t b key p h r keys = entered_filled t.keys (length p) 0 0 (length b.keys) (r keys) h
applied_reached t b key p h r headers = r headers
applied_reached t b (header i m) p h r recipients = r recipients
applied_reached t b (header i m) p h r identities = r identities
applied_reached t b (header i m) p h r keys = r keys
applied_reached t b (header i m) p h r headers = entered_filled t.headers (length p) i m (length b.headers) (r headers) h
applied_reached t b done p h r k = r k
applied_reached t b other p h r k = r k
applied_reached t b (bad n) p h r k = r k

-- a command that needs space and is accepted fits; a recipient's text is shown by none, the index of a header stanza does not fall
pub space : (f : Bool) → ◌≡◌ {A = ℕ} (pick f 0 8) 0 → f ≡ true
space true h = refl
space false h = absurd (omega arith)

pub recipient_space : (g f : Bool) → ◌≡◌ {A = ℕ} (pick g 20 (pick f 0 8)) 0 → (f ≡ true) × (g ≡ false)
recipient_space true f h = absurd (omega arith)
recipient_space false f h = (space f h, refl)

pub header_space : (g f : Bool) → ◌≡◌ {A = ℕ} (pick g 7 (pick f 0 8)) 0 → (f ≡ true) × (g ≡ false)
header_space true f h = absurd (omega arith)
header_space false f h = (space f h, refl)

-- the row of an entry, where it fits
own : (t : Table) (p b : List ℕ) (index mark : ℕ) → Kept t → fits t (length p) (length b) ≡ true →
    view (entered t (length p) index mark (length b)) (kept t p b) ≡ view t b ++ (record { payload = p; index = index; mark = mark } ∷ [])
own t p b index mark k f = entered_view t p b index mark k ∙ ap (λ x. pick x (view t b ++ (record { payload = p; index = index; mark = mark } ∷ [])) (view t b)) f

module _ (t : Tables) (b : BuffersOne) (p : List ℕ) (r : Reached t) where
  none : (k : KindOne) → view_of k t b ≡ view_of k t b ++ []
  none k = sym (append-nil (view_of k t b))

  kept_of : (k : KindOne) → Kept (table_of k t)
  unfolding Reached
  kept_of k = (r k).kept_so

  pub applied_view : (c : CommandOne) → decided t b c p ≡ 0 → (k : KindOne) → view_of k (applied t b c p) (filled_by t b c p) ≡ view_of k t b ++ rows_of c k p
  applied_view (recipient m) h recipients = own t.recipients p b.recipients 0 m (kept_of recipients) (recipient_space (repeats t.recipients b.recipients p) (fits t.recipients (length p) (length b.recipients)) h).0
  applied_view (recipient m) h identities = none identities
  applied_view (recipient m) h keys = none keys
  applied_view (recipient m) h headers = none headers
  applied_view (identity m) h recipients = none recipients
  applied_view (identity m) h identities = own t.identities p b.identities 0 m (kept_of identities) (space (fits t.identities (length p) (length b.identities)) h)
  applied_view (identity m) h keys = none keys
  applied_view (identity m) h headers = none headers
  applied_view key h recipients = none recipients
  applied_view key h identities = none identities
  applied_view key h keys = own t.keys p b.keys 0 0 (kept_of keys) (space (fits t.keys (length p) (length b.keys)) h)
  applied_view key h headers = none headers
  applied_view (header i m) h recipients = none recipients
  applied_view (header i m) h identities = none identities
  applied_view (header i m) h keys = none keys
  applied_view (header i m) h headers = own t.headers p b.headers i m (kept_of headers) (header_space (falls t.headers i) (fits t.headers (length p) (length b.headers)) h).0
  applied_view done h k = none k
  applied_view other h k = none k
  applied_view (bad n) h k = none k

-- ---- one command, accepted or refused

pub first_zero : (n late : ℕ) → first_of n late ≡ 0 → n ≡ 0
first_zero n late h = cases (eqb n 0) (λ e. eqb-true n 0 e) (λ e. rw e at h)

-- no payload of a command that was read is empty: no argument is, a key has 16 bytes, and a header stanza its LF
module _ (g l y : List ℕ) (a : is_line l ≡ true) where
  text_stored : (k : TextKind) (f : Bool) (m : ℕ) → (f ≡ true → 0 < length (argument_of l 1)) → Stored (pick f (text_of_kind k m) (bad 4)) (payload_of (pick f (text_of_kind k m) (bad 4)) l y)
  text_stored the_kind.Recipient true m h = h refl
  text_stored the_kind.Identity true m h = h refl
  text_stored k false m h = tt

  bare_stored : (f : Bool) → (f ≡ true → 0 < length y) → Stored (pick f key (bad 4)) (payload_of (pick f key (bad 4)) l y)
  bare_stored true h = h refl
  bare_stored false h = tt

  done_stored : (f : Bool) → Stored (pick f done (bad 4)) (payload_of (pick f done (bad 4)) l y)
  done_stored true = tt
  done_stored false = tt

  header_stored : (f : Bool) (i : ReadIndex) (m : ℕ) → Stored (pick f (indexed i m) (bad 4)) (payload_of (pick f (indexed i m) (bad 4)) l y)
  header_stored true (number i) m = simp length-append (omega arith)
  header_stored true (refused n) m = tt
  header_stored false i m = tt

  two_some : (eqb (count_of l) 2 && eqb (length y) 0) ≡ true → 0 < length (argument_of l 1)
  two_some e = argument_some l 1 a (omega (arith, eqb-true (count_of l) 2 (and_true (eqb (count_of l) 2) (eqb (length y) 0) e).0))

  row_stored : (w : WordOne) → Stored (row_command w g l (length y)) (payload_of (row_command w g l (length y)) l y)
  row_stored add_recipient = text_stored the_kind.Recipient (eqb (count_of l) 2 && eqb (length y) 0) (mark_of (parse (form_of the_kind.Recipient) (argument_of l 1)) g) two_some
  row_stored add_identity = text_stored the_kind.Identity (eqb (count_of l) 2 && eqb (length y) 0) (mark_of (parse (form_of the_kind.Identity) (argument_of l 1)) g) two_some
  row_stored wrap_file_key = bare_stored (is_bare l (length y) 16) (λ e. omega (arith, eqb-true (length y) 16 (and_true (eqb (count_of l) 1) (eqb (length y) 16) e).1))
  row_stored recipient_stanza = header_stored (leb 3 (count_of l)) (read_index (argument_of l 1)) (header_mark g l (length y))
  row_stored done_command = done_stored (is_bare l (length y) 0)
  row_stored other_word = tt

  pub payload_stored : (m : Machine) → Stored (command_in m g l y) (payload_in m g l y)
  payload_stored m = row_stored (word_in m (argument_of l 0))

module _ (m : Machine) (g : List ℕ) (t : Tables) (b : BuffersOne) (z : ℕ) (l y : List ℕ) (r : Reached t) where
  pub one_reached : is_line l ≡ true → Reached (tables_one m g t b z l y)
  one_reached a =
      cases (eqb (number_one m g t b z l y) 0)
      (λ e. subst Reached (sym (ap (λ x. pick x (applied t b (command_in m g l y) (payload_in m g l y)) t) e)) (applied_reached t b (command_in m g l y) (payload_in m g l y) (payload_stored g l y a m) r))
      (λ e. subst Reached (sym (ap (λ x. pick x (applied t b (command_in m g l y) (payload_in m g l y)) t) e)) r)

  -- the rows that it adds: one to its kind's table if it is accepted; none if it is refused, or ignored
  pub one_view : (k : KindOne) → view_of k (tables_one m g t b z l y) (buffers_one m g t b z l y) ≡ view_of k t b ++ pick (eqb (number_one m g t b z l y) 0) (rows_of (command_in m g l y) k (payload_in m g l y)) []
  one_view k =
      both (eqb (number_one m g t b z l y) 0)
      (λ e. applied_view t b (payload_in m g l y) r (command_in m g l y) (first_zero (decided t b (command_in m g l y) (payload_in m g l y)) z (eqb-true (number_one m g t b z l y) 0 e)) k)
    where
      both : (f : Bool) →
          (f ≡ true → view_of k (applied t b (command_in m g l y) (payload_in m g l y)) (filled_by t b (command_in m g l y) (payload_in m g l y)) ≡ view_of k t b ++ rows_of (command_in m g l y) k (payload_in m g l y)) →
          view_of k (pick f (applied t b (command_in m g l y) (payload_in m g l y)) t) (pick f (filled_by t b (command_in m g l y) (payload_in m g l y)) b) ≡ view_of k t b ++ pick f (rows_of (command_in m g l y) k (payload_in m g l y)) []
      both true h = h refl
      both false h = sym (append-nil (view_of k t b))
