-- Phase two: what the decision asks of phase one's tables, said of the rows that they show.
use Prim.Native.Nat.{ℕ, zero, suc, ◌+◌, ◌<◌}
use mathlib.Core.Path.{◌≡◌, refl, sym, ap, ap₂, ◌∙◌, subst}
use mathlib.Core.Bool.{Bool, true, false, not, false≢true}
use mathlib.Core.Logic.{◌↔◌}
use mathlib.Core.List.{List, [], ◌∷◌}
use lib.Dec.{ltb}
use lib.ListN.{length}
use native.Mathlib.Omega.{arith}
use borrow.Author.Tests.{ltb-true, lt-ltb, eqb-true, eq-eqb, not-false}
use Rattle.refusal.proofs.Laws.Booleans.{cases}
use Rattle.tables.specs.Tables.{Row}
use Rattle.session.specs.Tables.{Tables}
use Rattle.phase_one.specs.Views as one_kind
use Rattle.phase_one.specs.Views.{recipients, identities, keys, headers}
use Rattle.conversation.specs.CommandsTwo.{internal, identity, recipient, header, CommandTwo, ask, stanza, key, error, done, other, bad}
use Rattle.conversation.specs.Kinds.{of_file}
use Rattle.conversation.specs.PhaseTwo.{Label, labels, how_many, is_any, passes, is_file, most_stanzas, is_missing, BuffersTwo, applied}
use Rattle.conversation.specs.Allowed.{Left, RowAt, Present}
use Rattle.conversation.proofs.Laws.DecidedTwo.{row_label, row_labels, of_file_many}
use Rattle.conversation.proofs.Laws.SumsTwo.{not_is}
use Rattle.conversation.proofs.Laws.ViewsTwo.{two_leaves}

-- ---- a test of labels and a property of rows

module _ (q : Label → Bool) (P : Row → Type 0) (same : (r : Row) → (q (row_label r) ≡ true) ↔ P r) where
  pub at_iff : (rs : List Row) (i : ℕ) → (passes q (row_labels rs) i ≡ true) ↔ RowAt P rs i
  unfolding passes RowAt
  at_iff [] i = (λ e. absurd (false≢true e), λ e. absurd e)
  at_iff (r ∷ rs) zero = same r
  at_iff (r ∷ rs) (suc i) = at_iff rs i

  any_to : (rs : List Row) → 0 < how_many q (row_labels rs) → (i : ℕ) × RowAt P rs i
  unfolding how_many RowAt
  any_to [] h = absurd (omega arith)
  any_to (r ∷ rs) h = cases (q (row_label r)) (λ e. (0, (same r).0 e)) (λ e. let h' = rw e at h in let j = any_to rs (omega arith) in (suc j.0, j.1))

  any_from : (rs : List Row) (i : ℕ) → RowAt P rs i → 0 < how_many q (row_labels rs)
  unfolding how_many RowAt
  any_from [] i h = absurd h
  any_from (r ∷ rs) zero h = rw ((same r).1 h) (omega arith)
  any_from (r ∷ rs) (suc i) h = omega (arith, any_from rs i h)

  -- one of them passes
  pub any_iff : (rs : List Row) → (is_any q (row_labels rs) ≡ true) ↔ ((i : ℕ) × RowAt P rs i)
  any_iff rs = (λ e. any_to rs (ltb-true 0 (how_many q (row_labels rs)) e), λ j. lt-ltb 0 (how_many q (row_labels rs)) (any_from rs j.0 j.1))

-- ---- what phase one left

-- tables whose rows of phase one are these, as far as the decision asks
pub record Shows (t : Tables) (left : Left) : Type 0 where
  pub counts : (k : one_kind.KindOne) → (one_kind.table_of k t).count ≡ length (left k)
  pub labelled : (k : one_kind.KindOne) → labels (one_kind.table_of k t) ≡ row_labels (left k)

pub most_is : (t : Tables) (left : Left) → Shows t left → most_stanzas t ≡ length (left recipients) + length (left identities)
most_is t left s = ap₂ ◌+◌ (s.counts recipients) (s.counts identities)

-- a command of phase two leaves them
pub applied_shows : (t : Tables) (b : BuffersTwo) (c : CommandTwo) (p : List ℕ) (left : Left) → Shows t left → Shows (applied t b c p) left
applied_shows t b c p left s = record {
  counts = λ k. ap (λ x. x.count) (two_leaves t p b c k) ∙ s.counts k;
  labelled = λ k. ap labels (two_leaves t p b c k) ∙ s.labelled k;
}

-- ---- No. 6

file_same : (f : ℕ) (r : Row) → (is_file f (row_label r) ≡ true) ↔ (r.index ≡ f)
file_same f r = (λ e. eqb-true r.index f e, λ e. eq-eqb r.index f e)

below_iff : (i n m : ℕ) → n ≡ m → (not (ltb i n) ≡ false) ↔ (i < m)
below_iff i n m e = (λ h. subst (λ k. i < k) e (ltb-true i n (not-false _ h)), λ h. not_is _ (lt-ltb i n (subst (λ k. i < k) (sym e) h)))

not_iff : {X : Type 0} (f : Bool) → (f ≡ true) ↔ X → (not f ≡ false) ↔ X
not_iff f i = (λ h. i.0 (not-false f h), λ x. not_is f (i.1 x))

-- what a command names is there
pub present_iff : (t : Tables) (left : Left) → Shows t left → (c : CommandTwo) → (is_missing t c ≡ false) ↔ Present left c
present_iff t left s (ask w) = (λ e. tt, λ e. refl)
present_iff t left s (stanza f) = below_iff f t.keys.count (length (left keys)) (s.counts keys)
present_iff t left s (key f) = not_iff (is_any (is_file f) (labels t.headers)) (subst (λ l. (is_any (is_file f) l ≡ true) ↔ ((i : ℕ) × RowAt (λ r. r.index ≡ f) (left headers) i)) (sym (s.labelled headers)) (any_iff (is_file f) (λ r. r.index ≡ f) (file_same f) (left headers)))
present_iff t left s (error internal) = (λ e. tt, λ e. refl)
present_iff t left s (error (identity i)) = below_iff i t.identities.count (length (left identities)) (s.counts identities)
present_iff t left s (error (recipient i)) = below_iff i t.recipients.count (length (left recipients)) (s.counts recipients)
present_iff t left s (error (header f i)) =
    below_iff i (how_many (is_file f) (labels t.headers)) (length (of_file f (left headers))) (ap (how_many (is_file f)) (s.labelled headers) ∙ of_file_many f (left headers))
present_iff t left s done = (λ e. tt, λ e. refl)
present_iff t left s other = (λ e. tt, λ e. refl)
present_iff t left s (bad n) = (λ e. tt, λ e. refl)
