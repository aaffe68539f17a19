-- Phase two: what the decision asks of the tables are sums over the commands so far, and each accepted command adds its own weight to them. So it finds no fault
-- exactly if the command is right, what it names is there, and the sums with its weight keep the limits.
use Prim.Native.Nat.{ℕ, ◌+◌, ◌<◌, ◌≤◌}
use mathlib.Core.Path.{◌≡◌, refl, sym, ap, ◌∙◌}
use mathlib.Core.Bool.{Bool, true, false, not, ◌&&◌, ◌||◌, true≢false, false≢true}
use mathlib.Core.Logic.{◌⊎◌, inl, inr, ⊎_elim, ◌↔◌}
use mathlib.Core.List.{List}
use lib.Dec.{ltb, leb, eqb}
use lib.ListN.{length}
use native.Mathlib.Omega.{arith}
use borrow.Author.Tests.{ltb-true, ltb-false, leb-true, leb-false, lt-ltb, le-ltb, le-leb, lt-leb, eqb-true, eqb-false, eq-eqb, ne_eqb, not-false}
use Rattle.refusal.specs.Pick.{pick}
use Rattle.refusal.proofs.Laws.Booleans.{and_true, true_and, cases}
use Rattle.tables.specs.Tables.{Table, fits, entered}
use Rattle.tables.proofs.Laws.Tables.{Kept}
use Rattle.session.specs.Tables.{Tables}
use Rattle.conversation.specs.CommandsTwo.{Named, internal, identity, recipient, header, CommandTwo, ask, stanza, key, error, done, other, bad}
use Rattle.conversation.specs.PhaseTwo.{KindTwo, errors, stanzas, returned, BuffersTwo, table_of, buffer_of, Label, labels, how_many, is_any, is_file, most_stanzas, has_key, mark_of, index_of, is_about, is_second_key, is_too_many, is_against_key, is_clashing, is_spaceless, applied}
use Rattle.conversation.specs.Allowed.{is_key_for, is_error_for, is_kind, Said, Sum, keys_for, stanzas_for_file, errors_for, entries, bytes, weight, slots_two, Limits}
use Rattle.conversation.specs.Phases.{is_stanza_for}
use Rattle.conversation.proofs.Laws.DecidedTwo.{Faultless, labels_more, many_append, many_one}

-- ---- the sums of tables

abbrev pub sums_in : Tables → Sum → ℕ
sums_in t (keys_for f) = how_many (is_file f) (labels t.returned)
sums_in t (stanzas_for_file f) = how_many (is_file f) (labels t.stanzas)
sums_in t (errors_for f) = how_many (is_about f) (labels t.errors)
sums_in t (entries k) = (table_of k t).count
sums_in t (bytes k) = (table_of k t).used

-- a command with its payload
abbrev pub said : CommandTwo → List ℕ → Said
said c p = record { command = c; payload = p }

-- the tables of phase two that an opening and calls can reach
pub record Going (t : Tables) : Type 0 where
  pub held : (k : KindTwo) → Kept (table_of k t)
  pub wide : (k : KindTwo) → (table_of k t).width ≡ slots_two k

-- the limits with what a command adds
abbrev pub With : Tables → BuffersTwo → CommandTwo → List ℕ → Type 0
With t b c p = Limits (most_stanzas t) (λ k. length (buffer_of k b)) (λ m. sums_in t m + weight m (said c p))

-- .. and without
abbrev pub Kept_limits : Tables → BuffersTwo → Type 0
Kept_limits t b = Limits (most_stanzas t) (λ k. length (buffer_of k b)) (sums_in t)

-- ---- small facts

-- one more for a file: the limit holds for every file
filed : (x f : ℕ) (v : ℕ → ℕ) (n : ℕ) → v x + 1 ≤ n → v f ≤ n → v f + pick (eqb x f) 1 0 ≤ n
filed x f v n h k = cases (eqb x f) (λ e. rw (e, ← eqb-true x f e) h) (λ e. rw e (omega arith))

own_file : (x : ℕ) → ◌≡◌ {A = ℕ} (pick (eqb x x) 1 0) 1
own_file x = rw (eq-eqb x x refl)

pub not_any : (q : Label → Bool) (ls : List Label) → is_any q ls ≡ false → how_many q ls ≡ 0
not_any q ls e = omega (arith, ltb-false 0 (how_many q ls) e)

pub none_any : (q : Label → Bool) (ls : List Label) → how_many q ls ≡ 0 → is_any q ls ≡ false
none_any q ls e = le-ltb 0 (how_many q ls) (omega arith)

pub or_false : (a b : Bool) → (a || b) ≡ false → (a ≡ false) × (b ≡ false)
or_false true b e = absurd (true≢false e)
or_false false b e = (refl, e)

pub false_or : (a b : Bool) → a ≡ false → b ≡ false → (a || b) ≡ false
false_or true b p q = p
false_or false b p q = q

-- a test that cannot hold
pub refuted : (f : Bool) → (f ≡ true → ⊥) → f ≡ false
refuted true h = absurd (h refl)
refuted false h = refl

-- one that cannot fail
pub assured : (f : Bool) → (f ≡ false → ⊥) → f ≡ true
assured true h = refl
assured false h = absurd (h refl)

pub and_false : (a b : Bool) → (a && b) ≡ false → (a ≡ false) ⊎ (b ≡ false)
and_false true b e = inr e
and_false false b e = inl refl

pub false_and : (a b : Bool) → (a ≡ false) ⊎ (b ≡ false) → (a && b) ≡ false
false_and true b h = ⊎_elim (λ e. absurd (true≢false e)) (λ e. e) h
false_and false b h = refl

pub not_is : (a : Bool) → a ≡ true → not a ≡ false
not_is true e = refl
not_is false e = absurd (false≢true e)

-- it fits: a slot and the bytes
fits_iff : (t : Table) (n c : ℕ) → (fits t n c ≡ true) ↔ ((t.count < t.width) × (t.used + n ≤ c))
fits_iff t n c = (
  λ f. let a = and_true (ltb t.count t.width) (leb (t.used + n) c) f in (ltb-true t.count t.width a.0, leb-true (t.used + n) c a.1),
  λ h. true_and (ltb t.count t.width) (leb (t.used + n) c) (lt-ltb t.count t.width h.0) (le-leb (t.used + n) c h.1),
)

-- ---- from no fault to the limits

module _ (t : Tables) (b : BuffersTwo) (g : Going t) (l : Kept_limits t b) (p : List ℕ) where
  -- a sum to which a command adds nothing
  spared : (n m : ℕ) → n ≤ m → n + 0 ≤ m
  spared n m h = omega arith

  once_with : (c : CommandTwo) → is_second_key t c ≡ false → (f : ℕ) → sums_in t (keys_for f) + weight (keys_for f) (said c p) ≤ 1
  once_with (ask w) e f = spared _ _ (l.once f)
  once_with (stanza x) e f = spared _ _ (l.once f)
  once_with (key x) e f = filed x f (λ f. sums_in t (keys_for f)) 1 (omega (arith, not_any (is_file x) (labels t.returned) e)) (l.once f)
  once_with (error n) e f = spared _ _ (l.once f)
  once_with done e f = spared _ _ (l.once f)
  once_with other e f = spared _ _ (l.once f)
  once_with (bad n) e f = spared _ _ (l.once f)

  few_with : (c : CommandTwo) → is_too_many t c ≡ false → (f : ℕ) → sums_in t (stanzas_for_file f) + weight (stanzas_for_file f) (said c p) ≤ most_stanzas t
  few_with (ask w) e f = spared _ _ (l.few f)
  few_with (stanza x) e f = filed x f (λ f. sums_in t (stanzas_for_file f)) (most_stanzas t) (omega (arith, leb-false (most_stanzas t) (sums_in t (stanzas_for_file x)) e)) (l.few f)
  few_with (key x) e f = spared _ _ (l.few f)
  few_with (error n) e f = spared _ _ (l.few f)
  few_with done e f = spared _ _ (l.few f)
  few_with other e f = spared _ _ (l.few f)
  few_with (bad n) e f = spared _ _ (l.few f)

  abbrev Apart : CommandTwo → Type 0
  Apart c = (sums_in t (entries errors) + weight (entries errors) (said c p) ≡ 0) ⊎ (sums_in t (entries stanzas) + weight (entries stanzas) (said c p) ≡ 0)

  old_apart : (x y : ℕ) → x ≡ 0 → y ≡ 0 → (sums_in t (entries errors) + x ≡ 0) ⊎ (sums_in t (entries stanzas) + y ≡ 0)
  old_apart x y e h = ⊎_elim (λ z. inl (omega arith)) (λ z. inr (omega arith)) l.apart

  apart_with : (c : CommandTwo) → is_clashing t c ≡ false → Apart c
  apart_with (ask w) e = old_apart 0 0 refl refl
  apart_with (stanza x) e = inl (omega (arith, ltb-false 0 t.errors.count e))
  apart_with (key x) e = old_apart 0 0 refl refl
  apart_with (error n) e = inr (omega (arith, ltb-false 0 t.stanzas.count (or_false (ltb 0 t.stanzas.count) (is_against_key t n) e).0))
  apart_with done e = old_apart 0 0 refl refl
  apart_with other e = old_apart 0 0 refl refl
  apart_with (bad n) e = old_apart 0 0 refl refl

  abbrev ApartFile : CommandTwo → ℕ → Type 0
  ApartFile c f = (sums_in t (errors_for f) + weight (errors_for f) (said c p) ≡ 0) ⊎ (sums_in t (keys_for f) + weight (keys_for f) (said c p) ≡ 0)

  -- nothing is added for the file
  old_file : (f x y : ℕ) → x ≡ 0 → y ≡ 0 → (sums_in t (errors_for f) + x ≡ 0) ⊎ (sums_in t (keys_for f) + y ≡ 0)
  old_file f x y e h = ⊎_elim (λ z. inl (omega arith)) (λ z. inr (omega arith)) (l.apart_file f)

  apart_file_with : (c : CommandTwo) → is_clashing t c ≡ false → (f : ℕ) → ApartFile c f
  apart_file_with (ask w) e f = old_file f 0 0 refl refl
  apart_file_with (stanza x) e f = old_file f 0 0 refl refl
  apart_file_with (key x) e f =
      cases (eqb x f)
      (λ q. inl (rw (← eqb-true x f q) (omega (arith, not_any (is_about x) (labels t.errors) e))))
      (λ q. old_file f 0 (pick (eqb x f) 1 0) refl (rw q))
  apart_file_with (error internal) e f = old_file f 0 0 refl refl
  apart_file_with (error (identity i)) e f = old_file f 0 0 refl refl
  apart_file_with (error (recipient i)) e f = old_file f 0 0 refl refl
  apart_file_with (error (header x i)) e f =
      cases (eqb x f)
      (λ q. inr (rw (← eqb-true x f q) (omega (arith, not_any (is_file x) (labels t.returned) (or_false (ltb 0 t.stanzas.count) (has_key t x) e).1))))
      (λ q. old_file f (pick (eqb x f) 1 0) 0 (rw q) refl)
  apart_file_with done e f = old_file f 0 0 refl refl
  apart_file_with other e f = old_file f 0 0 refl refl
  apart_file_with (bad n) e f = old_file f 0 0 refl refl

  -- a kind's slots and bytes: of its own command by what fits, of another's as they were
  abbrev Space : CommandTwo → KindTwo → Type 0
  Space c k = (sums_in t (entries k) + weight (entries k) (said c p) ≤ slots_two k) × (sums_in t (bytes k) + weight (bytes k) (said c p) ≤ length (buffer_of k b))

  old_space : (k : KindTwo) → ((table_of k t).count + 0 ≤ slots_two k) × ((table_of k t).used + 0 ≤ length (buffer_of k b))
  old_space k = (spared _ _ (l.slots k), spared _ _ (l.bytes_fit k))

  new_space : (k : KindTwo) → not (fits (table_of k t) (length p) (length (buffer_of k b))) ≡ false → ((table_of k t).count + 1 ≤ slots_two k) × ((table_of k t).used + length p ≤ length (buffer_of k b))
  new_space k e = let h = (fits_iff (table_of k t) (length p) (length (buffer_of k b))).0 (not-false _ e) in (omega (arith, h.0, g.wide k), h.1)

  space_with : (c : CommandTwo) → is_spaceless t b c (length p) ≡ false → (k : KindTwo) → Space c k
  space_with (ask w) e k = old_space k
  space_with (stanza f) e errors = old_space errors
  space_with (stanza f) e stanzas = new_space stanzas e
  space_with (stanza f) e returned = old_space returned
  space_with (key f) e errors = old_space errors
  space_with (key f) e stanzas = old_space stanzas
  space_with (key f) e returned = new_space returned e
  space_with (error n) e errors = new_space errors e
  space_with (error n) e stanzas = old_space stanzas
  space_with (error n) e returned = old_space returned
  space_with done e k = old_space k
  space_with other e k = old_space k
  space_with (bad n) e k = old_space k

  pub limits_with : (own : Bool) (c : CommandTwo) → Faultless own t b c (length p) → With t b c p
  limits_with own c f = record {
    once = once_with c f.first_key;
    few = few_with c f.few;
    apart = apart_with c f.apart;
    apart_file = apart_file_with c f.apart;
    slots = λ k. (space_with c f.space k).0;
    bytes_fit = λ k. (space_with c f.space k).1;
  }

-- ---- and back

module _ (t : Tables) (b : BuffersTwo) (g : Going t) (p : List ℕ) where
  first_key_by : (c : CommandTwo) → With t b c p → is_second_key t c ≡ false
  first_key_by (ask w) l = refl
  first_key_by (stanza x) l = refl
  first_key_by (key x) l = none_any (is_file x) (labels t.returned) (omega (arith, l.once x, own_file x))
  first_key_by (error n) l = refl
  first_key_by done l = refl
  first_key_by other l = refl
  first_key_by (bad n) l = refl

  few_by : (c : CommandTwo) → With t b c p → is_too_many t c ≡ false
  few_by (ask w) l = refl
  few_by (stanza x) l = lt-leb (most_stanzas t) (sums_in t (stanzas_for_file x)) (omega (arith, l.few x, own_file x))
  few_by (key x) l = refl
  few_by (error n) l = refl
  few_by done l = refl
  few_by other l = refl
  few_by (bad n) l = refl

  against_by : (n : Named) → With t b (error n) p → is_against_key t n ≡ false
  against_by internal l = refl
  against_by (identity i) l = refl
  against_by (recipient i) l = refl
  against_by (header x i) l = none_any (is_file x) (labels t.returned) (⊎_elim (λ z. absurd (omega (arith, own_file x))) (λ z. omega arith) (l.apart_file x))

  apart_by : (c : CommandTwo) → With t b c p → is_clashing t c ≡ false
  apart_by (ask w) l = refl
  apart_by (stanza x) l = le-ltb 0 t.errors.count (⊎_elim (λ z. omega arith) (λ z. absurd (omega arith)) l.apart)
  apart_by (key x) l = none_any (is_about x) (labels t.errors) (⊎_elim (λ z. omega arith) (λ z. absurd (omega (arith, own_file x))) (l.apart_file x))
  apart_by (error n) l = false_or (ltb 0 t.stanzas.count) (is_against_key t n) (le-ltb 0 t.stanzas.count (⊎_elim (λ z. absurd (omega arith)) (λ z. omega arith) l.apart)) (against_by n l)
  apart_by done l = refl
  apart_by other l = refl
  apart_by (bad n) l = refl

  fits_by : (k : KindTwo) → (table_of k t).count + 1 ≤ slots_two k → (table_of k t).used + length p ≤ length (buffer_of k b) → not (fits (table_of k t) (length p) (length (buffer_of k b))) ≡ false
  fits_by k h j = not_is _ ((fits_iff (table_of k t) (length p) (length (buffer_of k b))).1 (omega (arith, g.wide k), j))

  space_by : (c : CommandTwo) → With t b c p → is_spaceless t b c (length p) ≡ false
  space_by (ask w) l = refl
  space_by (stanza x) l = fits_by stanzas (l.slots stanzas) (l.bytes_fit stanzas)
  space_by (key x) l = fits_by returned (l.slots returned) (l.bytes_fit returned)
  space_by (error n) l = fits_by errors (l.slots errors) (l.bytes_fit errors)
  space_by done l = refl
  space_by other l = refl
  space_by (bad n) l = refl

  -- where the limits hold with what a command adds, no test of the sums finds a fault
  pub tests_by : (c : CommandTwo) → With t b c p → (is_second_key t c ≡ false) × (is_too_many t c ≡ false) × (is_clashing t c ≡ false) × (is_spaceless t b c (length p) ≡ false)
  tests_by c l = (first_key_by c l, few_by c l, apart_by c l, space_by c l)

-- ---- an accepted command adds its weight

module _ (t : Tables) (b : BuffersTwo) (g : Going t) (p : List ℕ) where
  abbrev Adds : CommandTwo → Type 0
  Adds c = (m : Sum) → sums_in (applied t b c p) m ≡ sums_in t m + weight m (said c p)

  nothing_added : (n : ℕ) → n ≡ n + 0
  nothing_added n = omega arith

  -- an entry more of a kind
  module _ (k : KindTwo) (i m : ℕ) (e : not (fits (table_of k t) (length p) (length (buffer_of k b))) ≡ false) where
    abbrev grown : Table
    grown = entered (table_of k t) (length p) i m (length (buffer_of k b))

    fitting : fits (table_of k t) (length p) (length (buffer_of k b)) ≡ true
    fitting = not-false _ e

    count_grown : grown.count ≡ (table_of k t).count + 1
    count_grown = rw fitting

    used_grown : grown.used ≡ (table_of k t).used + length p
    used_grown = rw fitting

    many_grown : (q : Label → Bool) → how_many q (labels grown) ≡ how_many q (labels (table_of k t)) + pick (q (record { index = i; mark = m })) 1 0
    many_grown q =
        ap (how_many q) (labels_more (table_of k t) p (buffer_of k b) i m (g.held k) fitting)
        ∙ many_append q (labels (table_of k t)) _ ∙ ap (λ n. how_many q (labels (table_of k t)) + n) (many_one q (record { index = i; mark = m }))

  stanza_adds : (x : ℕ) → not (fits t.stanzas (length p) (length b.stanzas)) ≡ false → Adds (stanza x)
  stanza_adds x e (keys_for f) = nothing_added _
  stanza_adds x e (stanzas_for_file f) = many_grown stanzas x 0 e (is_file f)
  stanza_adds x e (errors_for f) = nothing_added _
  stanza_adds x e (entries errors) = nothing_added _
  stanza_adds x e (entries stanzas) = count_grown stanzas x 0 e
  stanza_adds x e (entries returned) = nothing_added _
  stanza_adds x e (bytes errors) = nothing_added _
  stanza_adds x e (bytes stanzas) = used_grown stanzas x 0 e
  stanza_adds x e (bytes returned) = nothing_added _

  key_adds : (x : ℕ) → not (fits t.returned (length p) (length b.returned)) ≡ false → Adds (key x)
  key_adds x e (keys_for f) = many_grown returned x 0 e (is_file f)
  key_adds x e (stanzas_for_file f) = nothing_added _
  key_adds x e (errors_for f) = nothing_added _
  key_adds x e (entries errors) = nothing_added _
  key_adds x e (entries stanzas) = nothing_added _
  key_adds x e (entries returned) = count_grown returned x 0 e
  key_adds x e (bytes errors) = nothing_added _
  key_adds x e (bytes stanzas) = nothing_added _
  key_adds x e (bytes returned) = used_grown returned x 0 e

  -- an error names a header stanza of the file exactly if it says so
  about_is : (n : Named) (f : ℕ) → is_about f (record { index = index_of n; mark = mark_of n }) ≡ is_error_for f (error n)
  about_is internal f = ne_eqb 0 (3 + f) (λ e. omega arith)
  about_is (identity i) f = ne_eqb 1 (3 + f) (λ e. omega arith)
  about_is (recipient i) f = ne_eqb 2 (3 + f) (λ e. omega arith)
  about_is (header x i) f = cases (eqb x f) (λ e. eq-eqb (3 + x) (3 + f) (ap (λ n. 3 + n) (eqb-true x f e)) ∙ sym e) (λ e. ne_eqb (3 + x) (3 + f) (λ z. eqb-false x f e (omega arith)) ∙ sym e)

  error_adds : (n : Named) → not (fits t.errors (length p) (length b.errors)) ≡ false → Adds (error n)
  error_adds n e (keys_for f) = nothing_added _
  error_adds n e (stanzas_for_file f) = nothing_added _
  error_adds n e (errors_for f) = many_grown errors (index_of n) (mark_of n) e (is_about f) ∙ ap (λ x. how_many (is_about f) (labels t.errors) + pick x 1 0) (about_is n f)
  error_adds n e (entries errors) = count_grown errors (index_of n) (mark_of n) e
  error_adds n e (entries stanzas) = nothing_added _
  error_adds n e (entries returned) = nothing_added _
  error_adds n e (bytes errors) = used_grown errors (index_of n) (mark_of n) e
  error_adds n e (bytes stanzas) = nothing_added _
  error_adds n e (bytes returned) = nothing_added _

  idle_adds : (c : CommandTwo) → ((m : Sum) → weight m (said c p) ≡ 0) → applied t b c p ≡ t → Adds c
  idle_adds c w e m = ap (λ t. sums_in t m) e ∙ nothing_added (sums_in t m) ∙ ap (λ n. sums_in t m + n) (sym (w m))

  weightless : (m : Sum) (c : CommandTwo) → ((f : ℕ) → is_key_for f c ≡ false) → ((f : ℕ) → is_stanza_for f c ≡ false) → ((f : ℕ) → is_error_for f c ≡ false) → ((k : KindTwo) → is_kind k c ≡ false) → weight m (said c p) ≡ 0
  weightless (keys_for f) c a s e k = rw (a f)
  weightless (stanzas_for_file f) c a s e k = rw (s f)
  weightless (errors_for f) c a s e k = rw (e f)
  weightless (entries j) c a s e k = rw (k j)
  weightless (bytes j) c a s e k = rw (k j)

  pub adds : (own : Bool) (c : CommandTwo) → Faultless own t b c (length p) → Adds c
  adds own (ask w) f = idle_adds (ask w) (λ m. weightless m (ask w) (λ f. refl) (λ f. refl) (λ f. refl) (λ k. refl)) refl
  adds own (stanza x) f = stanza_adds x f.space
  adds own (key x) f = key_adds x f.space
  adds own (error n) f = error_adds n f.space
  adds own done f = idle_adds done (λ m. weightless m done (λ f. refl) (λ f. refl) (λ f. refl) (λ k. refl)) refl
  adds own other f = idle_adds other (λ m. weightless m other (λ f. refl) (λ f. refl) (λ f. refl) (λ k. refl)) refl
  adds own (bad n) f = idle_adds (bad n) (λ m. weightless m (bad n) (λ f. refl) (λ f. refl) (λ f. refl) (λ k. refl)) refl
