-- Which header stanza an error names: row by row, by whether the first is of the file.
use Prim.Native.Nat.{ℕ, zero, suc, ◌+◌, ◌<◌}
use mathlib.Core.Path.{◌≡◌, refl, sym, ap, ◌∙◌, subst}
use mathlib.Core.Bool.{Bool, true, false, ◌&&◌}
use mathlib.Core.Logic.{◌↔◌}
use mathlib.Core.List.{List, [], ◌∷◌, ◌++◌}
use lib.Dec.{eqb, ltb}
use lib.ListN.{length, take, get_or}
use native.Mathlib.Decide.{dec_lt}
use native.Mathlib.Omega.{arith}
use borrow.Author.Tests.{eqb-true, eq-eqb, ltb-true}
use Rattle.refusal.specs.Pick.{pick}
use Rattle.refusal.proofs.Laws.Booleans.{and_true}
use Rattle.refusal.specs.declared.Refusal.TheVariants.{NoSuchIndex}
use Rattle.tables.specs.Tables.{Row}
use Rattle.phase_one.specs.Views.{headers}
use Rattle.session.specs.Session.{Session}
use Rattle.conversation.specs.Calls.{Call, receive, send, receive_two, reply, send_two, respond, outcome, in_two, brought_by}
use Rattle.conversation.specs.Kinds.{first, Buffers, view_of, of_file}
use Rattle.conversation.specs.Allowed.{RowAt}
use Rattle.conversation.specs.Names.{Names, NamedOnce}
use Rattle.conversation.specs.Numbers.{header, reports, SaysTwo, MissingIn, Condition, order_of, FirstOf, this_number, later_number}
use Rattle.conversation.proofs.Laws.ConditionsTwo.{stanza_missing}
use Rattle.conversation.proofs.Laws.Numbers.{number_given}
use Rattle.conversation.proofs.Laws.Reached.{ReachedSession}

-- a row is the file's
abbrev Of : ℕ → Row → Type 0
Of f r = r.index ≡ f

-- ---- one row more in front

file_first : (f : ℕ) (x : Row) (rs : List Row) → length (of_file f (x ∷ rs)) ≡ pick (eqb x.index f) 1 0 + length (of_file f rs)
unfolding of_file
file_first f x rs = go (eqb x.index f)
  where
    go : (g : Bool) → length (pick g (x ∷ []) [] ++ of_file f rs) ≡ pick g 1 0 + length (of_file f rs)
    go true = omega arith
    go false = omega arith

-- .. of the file itself
file_own : (f : ℕ) (x : Row) (rs : List Row) → Of f x → length (of_file f (x ∷ rs)) ≡ 1 + length (of_file f rs)
file_own f x rs h = file_first f x rs ∙ ap (λ g. pick g 1 0 + length (of_file f rs)) (eq-eqb x.index f h)

-- the first row of the file has none before it; behind a row each has as many more as that is of the file
first_named : (f : ℕ) (x : Row) (rs : List Row) → Of f x → Names (x ∷ rs) f 0 0
unfolding RowAt of_file
first_named f x rs h = record { file = h; before = refl }

next_named : (f i n : ℕ) (x : Row) (rs : List Row) → Names rs f i n → Names (x ∷ rs) f (pick (eqb x.index f) 1 0 + i) (suc n)
unfolding RowAt
next_named f i n x rs h = record { file = h.file; before = file_first f x (take n rs) ∙ ap (λ n. pick (eqb x.index f) 1 0 + n) h.before }

-- ---- by the row's number

row_there : (rs : List Row) (n : ℕ) → n < length rs → (f : ℕ) × RowAt (Of f) rs n
unfolding RowAt
row_there [] n h = absurd (omega arith)
row_there (x ∷ rs) zero h = (x.index, refl)
row_there (x ∷ rs) (suc n) h = row_there rs n (omega arith)

one_file : (rs : List Row) (f g n : ℕ) → RowAt (Of f) rs n → RowAt (Of g) rs n → f ≡ g
unfolding RowAt
one_file [] f g n h k = absurd h
one_file (x ∷ rs) f g zero h k = sym h ∙ k
one_file (x ∷ rs) f g (suc n) h k = one_file rs f g n h k

one_pair : (rs : List Row) (f i g j n : ℕ) → Names rs f i n → Names rs g j n → (f ≡ g) × (i ≡ j)
one_pair rs f i g j n h k =
    let e = one_file rs f g n h.file k.file in
    (e, sym h.before ∙ (subst (λ g. Names rs g j n) (sym e) k).before)

-- ---- by the pair

-- fewer of the file stand before one of its rows than it has
below : (rs : List Row) (f n : ℕ) → RowAt (Of f) rs n → length (of_file f (take n rs)) < length (of_file f rs)
unfolding RowAt
below [] f n h = absurd h
below (x ∷ rs) f zero h = omega (arith, file_own f x rs h, none)
  where
    none : length (of_file f []) ≡ 0
    none = unfold of_file in refl
below (x ∷ rs) f (suc n) h = omega (arith, file_first f x rs, file_first f x (take n rs), below rs f n h)

-- the row with so many before it
named : (rs : List Row) (f i : ℕ) → i < length (of_file f rs) → (n : ℕ) × Names rs f i n
unfolding of_file
named [] f i h = absurd (omega arith)
named (x ∷ rs) f i h = go (named rs f) (eqb x.index f) refl i h
  where
    behind : (i j : ℕ) → pick (eqb x.index f) 1 0 + j ≡ i → (n : ℕ) × Names rs f j n → (n : ℕ) × Names (x ∷ rs) f i n
    behind i j e k = (suc k.0, subst (λ i. Names (x ∷ rs) f i (suc k.0)) e (next_named f j k.0 x rs k.1))

    go : ((i : ℕ) → i < length (of_file f rs) → (n : ℕ) × Names rs f i n) → (g : Bool) → eqb x.index f ≡ g →
        (i : ℕ) → i < length (pick g (x ∷ []) [] ++ of_file f rs) → (n : ℕ) × Names (x ∷ rs) f i n
    go k true e zero h = (0, first_named f x rs (eqb-true x.index f e))
    go k true e (suc i) h = behind (suc i) i (ap (λ g. pick g 1 0 + i) e ∙ omega arith) (k i (omega arith))
    go k false e i h = behind i i (ap (λ g. pick g 1 0 + i) e ∙ omega arith) (k i h)

-- of two rows of the file the later has more before it
one_stanza : (rs : List Row) (f n m : ℕ) → RowAt (Of f) rs n → RowAt (Of f) rs m → length (of_file f (take n rs)) ≡ length (of_file f (take m rs)) → n ≡ m
unfolding RowAt
one_stanza [] f n m h k e = absurd h
one_stanza (x ∷ rs) f zero zero h k e = refl
one_stanza (x ∷ rs) f zero (suc m) h k e = absurd (unfold of_file in omega (arith, e, file_own f x (take m rs) h))
one_stanza (x ∷ rs) f (suc n) zero h k e = absurd (unfold of_file in omega (arith, e, file_own f x (take n rs) k))
one_stanza (x ∷ rs) f (suc n) (suc m) h k e = ap suc (one_stanza rs f n m h k (omega (arith, e, file_first f x (take n rs), file_first f x (take m rs))))

-- it stands there among the file's own
same : (rs : List Row) (f n : ℕ) → RowAt (Of f) rs n → (d : Row) → get_or rs n d ≡ get_or (of_file f rs) (length (of_file f (take n rs))) d
unfolding RowAt of_file
same [] f n h d = absurd h
same (x ∷ rs) f zero h d = sym (ap (λ g. get_or (pick g (x ∷ []) [] ++ of_file f rs) 0 d) (eq-eqb x.index f h))
same (x ∷ rs) f (suc n) h d = same rs f n h d ∙ go (eqb x.index f)
  where
    go : (g : Bool) →
        get_or (of_file f rs) (length (of_file f (take n rs))) d ≡ get_or (pick g (x ∷ []) [] ++ of_file f rs) (length (pick g (x ∷ []) [] ++ of_file f (take n rs))) d
    go true = refl
    go false = refl

-- ---- naming is one to one

pub named_rows : (rows : List Row) → NamedOnce rows
named_rows rows = record {
  pair = λ n h. let k = row_there rows n h in (k.0, _, record { file = k.1; before = refl });
  one_pair = one_pair rows;
  stanza = λ f i. (named rows f i, λ k. subst (λ j. j < length (of_file f rows)) k.1.before (below rows f k.0 k.1.file));
  one_stanza = λ f i n m h k. one_stanza rows f n m h.file k.file (h.before ∙ sym k.before);
  same = λ f i n h d. same rows f n h.file d ∙ ap (λ j. get_or (of_file f rows) j d) h.before;
}

-- ---- an error that is not refused with 6, and one that is accepted

module _ (s : Session) (b : Buffers) (reached : ReachedSession s) (line body : List ℕ) (f i : ℕ) where
  abbrev rows : List Row
  rows = view_of (first headers) s.tables b

  pub passes_six : SaysTwo s.machine line body (reports (header f i)) → (MissingIn s b (in_two line body) → ⊥) ↔ ((n : ℕ) × Names rows f i n)
  passes_six says =
      let k = stanza_missing s b reached line body f i says in (
        λ h. elim (dec_lt i (length (of_file f rows))) [ yes l ↦ named rows f i l | no l ↦ absurd (h (k.1 (omega arith))) ],
        λ h m. let l = below rows f h.0 h.1.file in omega (arith, l, h.1.before, k.0 m),
      )

-- where no number of an order is given, its front and its first condition do not hold
unfoldable are_positive : List ℕ → Bool
are_positive [] = true
are_positive (n ∷ ns) = ltb 0 n && are_positive ns

later : (P : ℕ → Type 0) (k n : ℕ) (order : List ℕ) → (n ≡ k → ⊥) → FirstOf P (k ∷ order) n → (P k → ⊥) × FirstOf P order n
later P k n order h (this_number p) = absurd (h refl)
later P k n order h (later_number q l) = (q, l)

not_first : (P : ℕ → Type 0) (ahead behind : List ℕ) (k : ℕ) → are_positive (ahead ++ (k ∷ [])) ≡ true → FirstOf P (ahead ++ (k ∷ behind)) 0 → P k → ⊥
unfolding are_positive
not_first P [] behind k h f = (later P k 0 behind (λ e. omega (arith, ltb-true 0 k (and_true (ltb 0 k) true h).0)) f).0
not_first P (n ∷ ahead) behind k h f =
    let z = and_true (ltb 0 n) (are_positive (ahead ++ (k ∷ []))) h in
    not_first P ahead behind k z.1 (later P n 0 (ahead ++ (k ∷ behind)) (λ e. omega (arith, ltb-true 0 n z.0)) f).1

-- an accepted call is not refused with 6
module _ (s : Session) (b : Buffers) (reached : ReachedSession s) where
  given_none : (c : Call) → (outcome s b c).number ≡ 0 → FirstOf (Condition s b c) (order_of c) 0
  given_none c z = subst (FirstOf (Condition s b c) (order_of c)) z (number_given s b reached c)

  not_missing : (c : Call) → (outcome s b c).number ≡ 0 → MissingIn s b (brought_by c) → ⊥
  not_missing (receive text) z m = m
  not_missing (send word arguments body out) z m = m
  not_missing (receive_two text out) z m =
      let c = receive_two text out in
      not_first (Condition s b c) (13 ∷ 14 ∷ 1 ∷ 2 ∷ 3 ∷ 4 ∷ 5 ∷ []) (7 ∷ 20 ∷ 9 ∷ 10 ∷ 11 ∷ 8 ∷ 15 ∷ []) 6 (unfold are_positive in refl)
      (given_none c z) (NoSuchIndex, refl, m)
  not_missing (reply r body out) z m = m
  not_missing (send_two word arguments body out) z m =
      let c = send_two word arguments body out in
      not_first (Condition s b c) (13 ∷ 14 ∷ 17 ∷ 4 ∷ 5 ∷ []) (7 ∷ 20 ∷ 9 ∷ 10 ∷ 11 ∷ 19 ∷ 8 ∷ 15 ∷ []) 6 (unfold are_positive in refl)
      (given_none c z) (NoSuchIndex, refl, m)
  not_missing (respond text out) z m = m

  pub accepted_names : (c : Call) (line body : List ℕ) (f i : ℕ) → brought_by c ≡ in_two line body →
      SaysTwo s.machine line body (reports (header f i)) → (outcome s b c).number ≡ 0 → (n : ℕ) × Names (view_of (first headers) s.tables b) f i n
  accepted_names c line body f i e says z = (passes_six s b reached line body f i says).0 (λ m. not_missing c z (subst (MissingIn s b) (sym e) m))
