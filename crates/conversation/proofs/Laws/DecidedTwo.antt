-- The decision of phase two, test by test: it finds no fault exactly if the command is right, what it names is there, and the sums of the tables with what it adds
-- keep the limits.
use Prim.Native.Nat.{ℕ, ◌+◌}
use mathlib.Core.Path.{◌≡◌, refl, sym, ap, ◌∙◌}
use mathlib.Core.Bool.{Bool, true, false, ◌&&◌}
use mathlib.Core.Logic.{◌↔◌}
use mathlib.Core.List.{List, [], ◌∷◌, ◌++◌, map, map-append, append_assoc}
use lib.Dec.{eqb}
use lib.ListN.{length, take}
use native.Mathlib.Omega.{arith}
use Rattle.refusal.specs.Pick.{pick}
use Rattle.refusal.proofs.Laws.Booleans.{cases}
use Rattle.tables.specs.declared.slots.Entry.{Entry}
use Rattle.tables.specs.Tables.{Table, Row, fits, entered, row_of, view, kept}
use Rattle.tables.proofs.Laws.Tables.{Kept, entered_view}
use Rattle.session.specs.Tables.{Tables}
use Rattle.conversation.specs.CommandsTwo.{CommandTwo}
use Rattle.conversation.specs.Kinds.{of_file}
use Rattle.conversation.specs.PhaseTwo.{BuffersTwo, Label, label_of, labels, how_many, among, is_file, is_missing, is_second_key, is_too_many, is_clashing, is_spaceless, is_held_back, fault_of, ruled, decided}
use Rattle.conversation.proofs.Laws.Firsts.{first_iff}

-- ---- the first fault

-- no test finds a fault
pub record Faultless (own : Bool) (t : Tables) (b : BuffersTwo) (c : CommandTwo) (n : ℕ) : Type 0 where
  pub right : fault_of c ≡ 0
  pub there : is_missing t c ≡ false
  pub first_key : is_second_key t c ≡ false
  pub few : is_too_many t c ≡ false
  pub apart : is_clashing t c ≡ false
  pub unheld : (own && is_held_back t c) ≡ false
  pub space : is_spaceless t b c n ≡ false

pub decided_iff : (own : Bool) (t : Tables) (b : BuffersTwo) (c : CommandTwo) (n : ℕ) → (decided own t b c n ≡ 0) ↔ Faultless own t b c n
unfolding decided
decided_iff own t b c n = (to, from)
  where
    to : decided own t b c n ≡ 0 → Faultless own t b c n
    to h =
        let r = (first_iff (ruled own t c) _).0 h in
        let a = (first_iff (fault_of c) _).0 r.0 in
        let z = a.0 in
        let m : is_missing t c ≡ false = cases (is_missing t c) (λ f. absurd (omega (arith, rw (z, f) at r.0))) (λ f. f) in
        let k : is_second_key t c ≡ false = cases (is_second_key t c) (λ f. absurd (omega (arith, rw (z, m, f) at r.0))) (λ f. f) in
        let y : is_too_many t c ≡ false = cases (is_too_many t c) (λ f. absurd (omega (arith, rw (z, m, k, f) at r.0))) (λ f. f) in
        let l : is_clashing t c ≡ false = cases (is_clashing t c) (λ f. absurd (omega (arith, rw (z, m, k, y, f) at r.0))) (λ f. f) in
        record {
          right = z;
          there = m;
          first_key = k;
          few = y;
          apart = l;
          unheld = cases (own && is_held_back t c) (λ f. absurd (omega (arith, rw (z, m, k, y, l, f) at r.0))) (λ f. f);
          space = cases (is_spaceless t b c n) (λ f. absurd (omega (arith, rw f at r.1))) (λ f. f);
        }

    from : Faultless own t b c n → decided own t b c n ≡ 0
    from f = rw (f.right, f.there, f.first_key, f.few, f.apart, f.unheld, f.space)

-- ---- labels: what is kept of an entry beside its payload is shown by its row

-- of a row
abbrev pub row_label : Row → Label
row_label r = record { index = r.index; mark = r.mark }

-- of rows
abbrev pub row_labels : List Row → List Label
row_labels rs = map row_label rs

entry_labels : (es : List Entry) (b : List ℕ) → map label_of es ≡ row_labels (map (row_of b) es)
entry_labels [] b = refl
entry_labels (e ∷ es) b = ap (λ l. label_of e ∷ l) (entry_labels es b)

-- whatever the buffer
pub labels_view : (t : Table) (b : List ℕ) → labels t ≡ row_labels (view t b)
labels_view t b = entry_labels (take t.count t.slots) b

-- one entry more
pub labels_more : (t : Table) (p b : List ℕ) (index mark : ℕ) → Kept t → fits t (length p) (length b) ≡ true →
    labels (entered t (length p) index mark (length b)) ≡ labels t ++ (record { index = index; mark = mark } ∷ [])
labels_more t p b index mark k f =
    labels_view (entered t (length p) index mark (length b)) (kept t p b)
    ∙ ap row_labels (entered_view t p b index mark k ∙ ap (λ x. pick x (view t b ++ (record { payload = p; index = index; mark = mark } ∷ [])) (view t b)) f)
    ∙ map-append row_label (view t b) _
    ∙ ap (λ l. l ++ (record { index = index; mark = mark } ∷ [])) (sym (labels_view t b))

pub many_append : (q : Label → Bool) (a b : List Label) → how_many q (a ++ b) ≡ how_many q a + how_many q b
unfolding how_many
many_append q [] b = omega arith
many_append q (l ∷ a) b = omega (arith, many_append q a b)

pub many_one : (q : Label → Bool) (l : Label) → how_many q (l ∷ []) ≡ pick (q l) 1 0
unfolding how_many
many_one q l = omega arith

-- ---- the rows of a file

-- as many as labels of it
pub of_file_many : (f : ℕ) (rs : List Row) → how_many (is_file f) (row_labels rs) ≡ length (of_file f rs)
unfolding how_many of_file
of_file_many f [] = refl
of_file_many f (r ∷ rs) = go (eqb r.index f) (of_file_many f rs)
  where
    go : (g : Bool) → how_many (is_file f) (row_labels rs) ≡ length (of_file f rs) → pick g 1 0 + how_many (is_file f) (row_labels rs) ≡ length (pick g (r ∷ []) [] ++ of_file f rs)
    go true e = omega arith
    go false e = omega arith

-- and their labels are those of it
pub of_file_among : (f : ℕ) (rs : List Row) → among (is_file f) (row_labels rs) ≡ row_labels (of_file f rs)
unfolding among of_file
of_file_among f [] = refl
of_file_among f (r ∷ rs) = go (eqb r.index f) (of_file_among f rs)
  where
    go : (g : Bool) → among (is_file f) (row_labels rs) ≡ row_labels (of_file f rs) → pick g (row_label r ∷ []) [] ++ among (is_file f) (row_labels rs) ≡ row_labels (pick g (r ∷ []) [] ++ of_file f rs)
    go true e = ap (λ l. row_label r ∷ l) e
    go false e = e

-- the rows of one file, of two lists together
pub of_file_append : (f : ℕ) (a b : List Row) → of_file f (a ++ b) ≡ of_file f a ++ of_file f b
unfolding of_file
of_file_append f [] b = refl
of_file_append f (x ∷ a) b = ap (λ l. pick (eqb x.index f) (x ∷ []) [] ++ l) (of_file_append f a b) ∙ sym (append_assoc (pick (eqb x.index f) (x ∷ []) []) (of_file f a) (of_file f b))
