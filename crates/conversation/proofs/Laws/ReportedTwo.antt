-- Which nonconforming stanza has not had its error: the first in the order received, numbered within its file by those before it.
use Prim.Native.Nat.{ℕ, zero, suc, ◌+◌}
use mathlib.Core.Path.{◌≡◌, refl, sym, ap, ap₂, ◌∙◌, subst}
use mathlib.Core.Bool.{Bool, true, false, not, ◌||◌, true≢false}
use mathlib.Core.Logic.{◌⊎◌, inl, inr, ⊎_elim, ◌↔◌}
use mathlib.Core.List.{List, [], ◌∷◌, ◌++◌, map-append}
use lib.Dec.{eqb}
use lib.ListN.{length, length-append}
use native.Mathlib.Omega.{arith}
use borrow.Author.Tests.{eqb-true, eq-eqb, not-false}
use Rattle.refusal.specs.Pick.{pick}
use Rattle.tables.specs.Tables.{Row}
use Rattle.conversation.specs.CommandsTwo.{Named, internal, identity, recipient, header}
use Rattle.conversation.specs.Kinds.{of_file}
use Rattle.conversation.specs.PhaseTwo.{Label, how_many, is_any, is_file, mark_of, index_of, is_naming, is_nonconforming, are_stanzas_reported}
use Rattle.conversation.specs.Allowed.{RowAt}
use Rattle.conversation.proofs.Laws.DecidedTwo.{row_label, row_labels, of_file_many, of_file_append}
use Rattle.conversation.proofs.Laws.SumsTwo.{or_false, false_or, refuted, and_false, false_and}

-- ---- one row more: of the file, or of another

file_more : (f : ℕ) (before : List Row) (x : Row) → length (of_file f (before ++ (x ∷ []))) ≡ length (of_file f before) + pick (eqb x.index f) 1 0
unfolding of_file
file_more f before x = ap length (of_file_append f before (x ∷ [])) ∙ length-append (of_file f before) (pick (eqb x.index f) (x ∷ []) [] ++ []) ∙ ap (λ n. length (of_file f before) + n) (go (eqb x.index f))
  where
    go : (g : Bool) → length (pick g (x ∷ []) [] ++ []) ≡ pick g 1 0
    go true = refl
    go false = refl

module _ (P : Row → Type 0) (f : ℕ) (x : Row) (rs : List Row) where
  -- a row of the file behind it
  row_behind : (i : ℕ) → RowAt P (of_file f rs) i → RowAt P (of_file f (x ∷ rs)) (pick (eqb x.index f) 1 0 + i)
  unfolding RowAt of_file
  row_behind i h = go (eqb x.index f)
    where
      go : (g : Bool) → RowAt P (pick g (x ∷ []) [] ++ of_file f rs) (pick g 1 0 + i)
      go true = let e : suc i ≡ 1 + i = omega arith in subst (RowAt P (x ∷ of_file f rs)) e h
      go false = let e : i ≡ 0 + i = omega arith in subst (RowAt P (of_file f rs)) e h

  -- a row of the file: this one, or one behind it
  row_ahead : (i : ℕ) → RowAt P (of_file f (x ∷ rs)) i → ((x.index ≡ f) × (i ≡ 0) × P x) ⊎ ((j : ℕ) × (i ≡ pick (eqb x.index f) 1 0 + j) × RowAt P (of_file f rs) j)
  unfolding RowAt of_file
  row_ahead i h = go (eqb x.index f) refl i h
    where
      go : (g : Bool) → eqb x.index f ≡ g → (i : ℕ) → RowAt P (pick g (x ∷ []) [] ++ of_file f rs) i → ((x.index ≡ f) × (i ≡ 0) × P x) ⊎ ((j : ℕ) × (i ≡ pick g 1 0 + j) × RowAt P (of_file f rs) j)
      go true e zero h = inl (eqb-true x.index f e, refl, h)
      go true e (suc i) h = inr (i, omega arith, h)
      go false e i h = inr (i, omega arith, h)

-- ---- an error is owed

-- nonconforming
abbrev Owes : Row → Type 0
Owes x = x.mark ≡ 1

module _ (es : List Label) (Had : ℕ → ℕ → Type 0) (had : (f i : ℕ) → (is_any (is_naming (3 + f) i) es ≡ true) ↔ Had f i) where
  -- a row that owes an error, the i-th of its file f, has had none with f and i; `before` are the rows before these
  abbrev pub Unreported : List Row → List Row → Type 0
  Unreported before rs = (f : ℕ) × (i : ℕ) × RowAt Owes (of_file f rs) i × (Had f (length (of_file f before) + i) → ⊥)

  -- the error that names the next
  abbrev naming : List Row → Row → Bool
  naming before x = is_any (is_naming (3 + x.index) (how_many (is_file x.index) (row_labels before))) es

  named : (before : List Row) (x : Row) → (naming before x ≡ true) ↔ Had x.index (length (of_file x.index before))
  named before x = subst (λ n. (naming before x ≡ true) ↔ Had x.index n) (of_file_many x.index before) (had x.index (how_many (is_file x.index) (row_labels before)))

  -- the rows before the one behind
  labels_behind : (before : List Row) (x : Row) (rs : List Row) → are_stanzas_reported (row_labels before ++ (row_label x ∷ [])) (row_labels rs) es ≡ are_stanzas_reported (row_labels (before ++ (x ∷ []))) (row_labels rs) es
  labels_behind before x rs = ap (λ l. are_stanzas_reported l (row_labels rs) es) (sym (map-append row_label before (x ∷ [])))

  pub owed_from : (before rs : List Row) → are_stanzas_reported (row_labels before) (row_labels rs) es ≡ false → Unreported before rs
  unfolding are_stanzas_reported
  owed_from before [] e = absurd (true≢false e)
  owed_from before (x ∷ rs) e =
      ⊎_elim
      (λ z.
      let h = or_false (not (is_nonconforming (row_label x))) (naming before x) z in
      let f = x.index in
      (f, 0, first_row f (eq-eqb f f refl) (eqb-true x.mark 1 (not-false _ h.0)), λ y. true≢false (sym ((named before x).1 (subst (Had f) (omega arith) y)) ∙ h.1)))
      (λ z.
      let k = owed_from (before ++ (x ∷ [])) rs (sym (labels_behind before x rs) ∙ z) in
      (k.0, pick (eqb x.index k.0) 1 0 + k.1, row_behind Owes k.0 x rs k.1 k.2, λ y. k.3 (subst (Had k.0) (omega (arith, file_more k.0 before x)) y)))
      (and_false (not (is_nonconforming (row_label x)) || naming before x) (are_stanzas_reported (row_labels before ++ (row_label x ∷ [])) (row_labels rs) es) e)
    where
      first_row : (f : ℕ) → eqb x.index f ≡ true → Owes x → RowAt Owes (of_file f (x ∷ rs)) 0
      first_row f e o = unfold RowAt in unfold of_file in subst (λ g. RowAt Owes (pick g (x ∷ []) [] ++ of_file f rs) 0) (sym e) o

  pub owed_to : (before rs : List Row) → Unreported before rs → are_stanzas_reported (row_labels before) (row_labels rs) es ≡ false
  unfolding are_stanzas_reported
  owed_to before [] u = absurd (unfold RowAt in unfold of_file in u.2)
  owed_to before (x ∷ rs) u =
      let f = u.0 in
      ⊎_elim
      (λ z. false_and _ _ (inl (false_or (not (is_nonconforming (row_label x))) (naming before x) (ap not (eq-eqb x.mark 1 z.2))
      (refuted (naming before x) (λ e. u.3 (subst (λ n. Had f (length (of_file f before) + n)) (sym z.1) (subst (Had f) (omega arith) (subst (λ g. Had g (length (of_file g before))) z.0 ((named before x).0 e)))))))))
      (λ z. false_and (not (is_nonconforming (row_label x)) || naming before x) _
      (inr (labels_behind before x rs ∙ owed_to (before ++ (x ∷ [])) rs (f, z.0, z.2, λ y. u.3 (subst (Had f) (omega (arith, file_more f before x, z.1)) y)))))
      (row_ahead Owes f x rs u.1 u.2)

-- ---- what an error's entry names is one to one

pub named_once : (n m : Named) → mark_of n ≡ mark_of m → index_of n ≡ index_of m → n ≡ m
named_once internal internal e h = refl
named_once internal (identity j) e h = absurd (omega arith)
named_once internal (recipient j) e h = absurd (omega arith)
named_once internal (header g j) e h = absurd (omega arith)
named_once (identity i) internal e h = absurd (omega arith)
named_once (identity i) (identity j) e h = ap identity h
named_once (identity i) (recipient j) e h = absurd (omega arith)
named_once (identity i) (header g j) e h = absurd (omega arith)
named_once (recipient i) internal e h = absurd (omega arith)
named_once (recipient i) (identity j) e h = absurd (omega arith)
named_once (recipient i) (recipient j) e h = ap recipient h
named_once (recipient i) (header g j) e h = absurd (omega arith)
named_once (header f i) internal e h = absurd (omega arith)
named_once (header f i) (identity j) e h = absurd (omega arith)
named_once (header f i) (recipient j) e h = absurd (omega arith)
named_once (header f i) (header g j) e h = let k : f ≡ g = omega arith in ap₂ header k h
