-- An accepted command of phase two adds one row to its kind's table and none to another's: once for every kind.
use Prim.Native.Nat.{ℕ, ◌<◌}
use mathlib.Core.Path.{◌≡◌, refl, sym, ap, ◌∙◌}
use mathlib.Core.Bool.{Bool, true, false, not, ◌&&◌}
use mathlib.Core.List.{List, [], ◌∷◌, ◌++◌, append-nil}
use lib.Dec.{eqb, leb}
use lib.ListN.{length, length-append}
use native.Mathlib.Omega.{arith}
use borrow.Author.Tests.{eqb-true}
use Rattle.refusal.specs.Pick.{pick}
use Rattle.refusal.specs.Same.{same}
use Rattle.refusal.proofs.Laws.Booleans.{and_true}
use Rattle.stanza.specs.Arguments.{count_of, argument_of}
use Rattle.stanza.specs.Index.{ReadIndex, number, refused, read_index}
use Rattle.session.specs.declared.words.WordTwo.{WordTwo}
use Rattle.session.specs.declared.words.WordTwo.TheVariants.{Msg, Confirm, RequestPublic, RequestSecret, RecipientStanza, FileKey, Error, Other, Done}
use Rattle.tables.specs.Tables.{Table, fits, entered, kept, view}
use Rattle.tables.proofs.Laws.Tables.{Kept, Filled, opened_kept, opened_filled, entered_kept, entered_filled, entered_view}
use Rattle.phase_one.specs.Commands.{is_bare}
use Rattle.phase_one.specs.PhaseOne as one
use Rattle.session.specs.Tables.{Tables, opened_tables}
use Rattle.phase_one.specs.Commands as one_command
use Rattle.phase_one.specs.Views as one_kind
use Rattle.session.specs.declared.opening.Machine.{Machine}
use Rattle.session.specs.declared.opening.Machine.TheVariants.{RecipientV1, IdentityV1}
use Rattle.conversation.specs.CommandsTwo.{Named, identity, recipient, CommandTwo, ask, stanza, key, error, done, other, bad, internal_word, identity_word, recipient_word, stanza_word, are_labels, stanza_at, key_at, error_at, header_at, error_of, row_two, command_two, word_two, payload_of}
use Rattle.conversation.specs.PhaseTwo.{KindTwo, errors, stanzas, returned, BuffersTwo, table_of, view_of, decided, applied, filled_by, rows_of}
use Rattle.conversation.proofs.Laws.DecidedTwo.{decided_iff}

-- ---- tables that an opening and calls can reach

-- an error's message may be empty, the payload of a stanza or a key is not
abbrev pub KeptAs : KindTwo → Table → Type 0
KeptAs errors t = Kept t
KeptAs stanzas t = Filled t
KeptAs returned t = Filled t

unfoldable pub ReachedTwo : Tables → Type 0
ReachedTwo t = (k : KindTwo) → KeptAs k (table_of k t)

pub opened_reached_two : ReachedTwo opened_tables
unfolding ReachedTwo
opened_reached_two errors = opened_kept 384
opened_reached_two stanzas = opened_filled 256
opened_reached_two returned = opened_filled 256

-- either way the entries stand one behind the other
pub kept_two : (t : Tables) → ReachedTwo t → (k : KindTwo) → Kept (table_of k t)
unfolding ReachedTwo
kept_two t r errors = r errors
kept_two t r stanzas = (r stanzas).kept_so
kept_two t r returned = (r returned).kept_so

-- the payload of a stanza or a key is not empty
abbrev pub StoredTwo : CommandTwo → List ℕ → Type 0
StoredTwo (ask w) p = Unit
StoredTwo (stanza f) p = 0 < length p
StoredTwo (key f) p = 0 < length p
StoredTwo (error n) p = Unit
StoredTwo done p = Unit
StoredTwo other p = Unit
StoredTwo (bad n) p = Unit

-- commands keep them so
pub applied_reached_two : (t : Tables) (b : BuffersTwo) (c : CommandTwo) (p : List ℕ) → StoredTwo c p → ReachedTwo t → ReachedTwo (applied t b c p)
unfolding ReachedTwo
applied_reached_two t b (ask w) p h r k = r k
applied_reached_two t b (stanza f) p h r errors = r errors
applied_reached_two t b (stanza f) p h r stanzas = entered_filled t.stanzas (length p) f 0 (length b.stanzas) (r stanzas) h
applied_reached_two t b (stanza f) p h r returned = r returned
applied_reached_two t b (key f) p h r errors = r errors
applied_reached_two t b (key f) p h r stanzas = r stanzas
applied_reached_two t b (key f) p h r returned = entered_filled t.returned (length p) f 0 (length b.returned) (r returned) h
applied_reached_two t b (error n) p h r errors = entered_kept t.errors (length p) _ _ (length b.errors) (r errors)
applied_reached_two t b (error n) p h r stanzas = r stanzas
applied_reached_two t b (error n) p h r returned = r returned
applied_reached_two t b done p h r k = r k
applied_reached_two t b other p h r k = r k
applied_reached_two t b (bad n) p h r k = r k

-- ---- views

-- the row of an entry, where there is space
own_row : (t : Table) (p b : List ℕ) (index mark : ℕ) → Kept t → (f : Bool) → fits t (length p) (length b) ≡ f → not f ≡ false →
    view (entered t (length p) index mark (length b)) (kept t p b) ≡ view t b ++ (record { payload = p; index = index; mark = mark } ∷ [])
own_row t p b index mark k true e h = entered_view t p b index mark k ∙ ap (λ x. pick x (view t b ++ (record { payload = p; index = index; mark = mark } ∷ [])) (view t b)) e
own_row t p b index mark k false e h = cc

module _ (own : Bool) (t : Tables) (b : BuffersTwo) (p : List ℕ) (r : (k : KindTwo) → Kept (table_of k t)) where
  none : (k : KindTwo) → view_of k t b ≡ view_of k t b ++ []
  none k = sym (append-nil (view_of k t b))

  pub applied_view_two : (c : CommandTwo) → decided own t b c (length p) ≡ 0 → (k : KindTwo) → view_of k (applied t b c p) (filled_by t b c p) ≡ view_of k t b ++ rows_of c k p
  applied_view_two (ask w) h k = none k
  applied_view_two (stanza f) h errors = none errors
  applied_view_two (stanza f) h stanzas = own_row t.stanzas p b.stanzas f 0 (r stanzas) (fits t.stanzas (length p) (length b.stanzas)) refl ((decided_iff own t b (stanza f) (length p)).0 h).space
  applied_view_two (stanza f) h returned = none returned
  applied_view_two (key f) h errors = none errors
  applied_view_two (key f) h stanzas = none stanzas
  applied_view_two (key f) h returned = own_row t.returned p b.returned f 0 (r returned) (fits t.returned (length p) (length b.returned)) refl ((decided_iff own t b (key f) (length p)).0 h).space
  applied_view_two (error n) h errors = own_row t.errors p b.errors _ _ (r errors) (fits t.errors (length p) (length b.errors)) refl ((decided_iff own t b (error n) (length p)).0 h).space
  applied_view_two (error n) h stanzas = none stanzas
  applied_view_two (error n) h returned = none returned
  applied_view_two done h k = none k
  applied_view_two other h k = none k
  applied_view_two (bad n) h k = none k

-- ---- a command of one phase leaves the other phase's tables

-- tables that are equal, kind by kind
each_second : (t u : Tables) → (u.errors ≡ t.errors) × (u.stanzas ≡ t.stanzas) × (u.returned ≡ t.returned) → (k : KindTwo) → table_of k u ≡ table_of k t
each_second t u e errors = e.0
each_second t u e stanzas = e.1
each_second t u e returned = e.2

each_first : (t u : Tables) → (u.recipients ≡ t.recipients) × (u.identities ≡ t.identities) × (u.keys ≡ t.keys) × (u.headers ≡ t.headers) →
    (k : one_kind.KindOne) → one_kind.table_of k u ≡ one_kind.table_of k t
each_first t u e one_kind.recipients = e.0
each_first t u e one_kind.identities = e.1
each_first t u e one_kind.keys = e.2
each_first t u e one_kind.headers = e.3

module _ (t : Tables) (p : List ℕ) where
  pub one_leaves : (b : one.BuffersOne) (c : one_command.CommandOne) (k : KindTwo) → table_of k (one.applied t b c p) ≡ table_of k t
  one_leaves b (one_command.recipient m) k = each_second t (one.applied t b (one_command.recipient m) p) (refl, refl, refl) k
  one_leaves b (one_command.identity m) k = each_second t (one.applied t b (one_command.identity m) p) (refl, refl, refl) k
  one_leaves b one_command.key k = each_second t (one.applied t b one_command.key p) (refl, refl, refl) k
  one_leaves b (one_command.header i m) k = each_second t (one.applied t b (one_command.header i m) p) (refl, refl, refl) k
  one_leaves b one_command.done k = refl
  one_leaves b one_command.other k = refl
  one_leaves b (one_command.bad n) k = refl

  pub two_leaves : (b : BuffersTwo) (c : CommandTwo) (k : one_kind.KindOne) → one_kind.table_of k (applied t b c p) ≡ one_kind.table_of k t
  two_leaves b (ask w) k = refl
  two_leaves b (stanza f) k = each_first t (applied t b (stanza f) p) (refl, refl, refl, refl) k
  two_leaves b (key f) k = each_first t (applied t b (key f) p) (refl, refl, refl, refl) k
  two_leaves b (error n) k = each_first t (applied t b (error n) p) (refl, refl, refl, refl) k
  two_leaves b done k = refl
  two_leaves b other k = refl
  two_leaves b (bad n) k = refl

-- ---- no payload of a stanza or a key that was read is empty: a stanza's has its LF, and a key 16 bytes

module _ (line body : List ℕ) where
  abbrev Right : CommandTwo → Type 0
  Right c = StoredTwo c (payload_of c line body)

  at_either : (f : Bool) (x y : CommandTwo) → (f ≡ true → Right x) → Right y → Right (pick f x y)
  at_either true x y h g = h refl
  at_either false x y h g = g

  stanza_stored : (i : ReadIndex) → Right (stanza_at i)
  stanza_stored (number f) = simp length-append (omega arith)
  stanza_stored (refused n) = tt

  key_stored : (i : ReadIndex) → length body ≡ 16 → Right (key_at i)
  key_stored (number f) h = omega arith
  key_stored (refused n) h = tt

  named_stored : (name : ℕ → Named) (i : ReadIndex) → Right (error_at name i)
  named_stored name (number f) = tt
  named_stored name (refused n) = tt

  header_stored : (f i : ReadIndex) → Right (header_at f i)
  header_stored (number f) (number i) = tt
  header_stored (number f) (refused n) = tt
  header_stored (refused n) i = tt

  error_stored : (m : Machine) → Right (error_of m line)
  error_stored RecipientV1 = at_either (same (argument_of line 1) recipient_word && eqb (count_of line) 3) _ (bad 4) (λ e. named_stored recipient (read_index (argument_of line 2))) tt
  error_stored IdentityV1 = at_either (same (argument_of line 1) stanza_word && eqb (count_of line) 4) _ (bad 4) (λ e. header_stored (read_index (argument_of line 2)) (read_index (argument_of line 3))) tt

  row_stored : (w : WordTwo) (m : Machine) → Right (row_two w m line (length body))
  row_stored Msg m = at_either (eqb (count_of line) 1) (ask Msg) (bad 4) (λ e. tt) tt
  row_stored Confirm m = at_either (are_labels line) (ask Confirm) (bad 4) (λ e. tt) tt
  row_stored RequestPublic m = at_either (eqb (count_of line) 1) (ask RequestPublic) (bad 4) (λ e. tt) tt
  row_stored RequestSecret m = at_either (eqb (count_of line) 1) (ask RequestSecret) (bad 4) (λ e. tt) tt
  row_stored RecipientStanza m = at_either (leb 3 (count_of line)) (stanza_at (read_index (argument_of line 1))) (bad 4) (λ e. stanza_stored (read_index (argument_of line 1))) tt
  row_stored FileKey m =
      at_either (eqb (count_of line) 2 && eqb (length body) 16) (key_at (read_index (argument_of line 1))) (bad 4)
      (λ e. key_stored (read_index (argument_of line 1)) (eqb-true (length body) 16 (and_true (eqb (count_of line) 2) (eqb (length body) 16) e).1)) tt
  row_stored Error m =
      at_either (same (argument_of line 1) internal_word && eqb (count_of line) 2) _ _ (λ e. tt)
      (at_either (same (argument_of line 1) identity_word && eqb (count_of line) 3) _ _ (λ e. named_stored identity (read_index (argument_of line 2))) (error_stored m))
  row_stored Other m = tt
  row_stored Done m = at_either (is_bare line (length body) 0) done (bad 4) (λ e. tt) tt

  pub payload_stored_two : (m : Machine) → StoredTwo (command_two m line body) (payload_of (command_two m line body) line body)
  unfolding command_two
  payload_stored_two m = row_stored (word_two m (argument_of line 0)) m
