-- Phase two at the client end: exactly the allowed phases are accepted by a session that has just sent done; a rearrangement of an allowed phase is allowed; and
-- what they leave and write is the same.
use Prim.Native.Nat.{ℕ, ◌+◌, ◌≤◌}
use mathlib.Core.Path.{◌≡◌, refl, sym, ap, ap₂, ◌∙◌, subst, fun_ext}
use mathlib.Core.Bool.{Bool, true, false, not, ◌&&◌, true≢false}
use mathlib.Core.Logic.{inl, ◌↔◌}
use mathlib.Core.List.{List, [], ◌∷◌, ◌++◌, map, append-nil, append_assoc}
use lib.Dec.{eqb}
use lib.ListN.{length}
use native.Mathlib.Omega.{arith}
use borrow.Author.Tests.{eqb-true, not-false}
use Rattle.refusal.specs.Pick.{pick}
use Rattle.refusal.proofs.Laws.Booleans.{cases}
use Rattle.tables.specs.Tables.{Row, view, opened}
use Rattle.tables.proofs.Laws.Tables.{Kept, opened_kept, view_count}
use Rattle.session.specs.Tables.{Tables}
use Rattle.phase_one.specs.Views as one_kind
use Rattle.phase_one.specs.Views.{recipients, identities}
use Rattle.phase_one.proofs.Laws.Views.{Reached}
use Rattle.session.specs.declared.opening.Machine.{Machine}
use Rattle.session.specs.declared.phases.Phase.TheVariants.{Two}
use Rattle.conversation.specs.Calls.{State, state_of, after, Accepted}
use Rattle.conversation.specs.CommandsTwo.{CommandTwo, ask, stanza, key, error, done, other, bad}
use Rattle.conversation.specs.Kinds.{Buffers, of_file}
use Rattle.conversation.specs.PhaseTwo.{KindTwo, errors, stanzas, returned, table_of, buffer_of, view_of, labels, how_many, is_file, is_about, rows_of}
use Rattle.conversation.specs.Phases.{All, keep, command_in, payload_in, is_named_two, is_error, is_stanza_for, two_part, Block, Phase, blocks_of, IsPhase, Supply, calls_of, written_in, responses_to, LongEnough, SameStart, is_kept, of_errors, of_one_file, Rearranged, SameTables, SameOutcome}
use Rattle.session.specs.Session.{Session, moved}
use Rattle.conversation.specs.Allowed.{Left, is_right_two, Present, is_key_for, Said, Sum, keys_for, stanzas_for_file, errors_for, entries, bytes, weight, total, slots_two, Limits, said_by, Answered, RightBlock, AllowedTwo, left_of, capacity_of}
use Rattle.conversation.proofs.Laws.AllowedTwo.{limits_same, Standing, Fitting, accepted_from}
use Rattle.conversation.proofs.Laws.DecidedTwo.{labels_view, of_file_append}
use Rattle.conversation.proofs.Laws.LeftTwo.{rows_by, rows_in, Grown, left_from}
use Rattle.conversation.proofs.Laws.Lists.{all_append, all_permuted, all_kept, sum_of, sum_append, sum_permuted, sum_kept, length_keep, keep_permuted_once, keep_kept}
use Rattle.conversation.proofs.Laws.OrderOne.{turned}
use Rattle.conversation.proofs.Laws.PresentTwo.{Shows, most_is}
use Rattle.conversation.proofs.Laws.Reached.{LaterOpened, ReachedSession, JustReached}
use Rattle.conversation.proofs.Laws.StepsTwo.{at}
use Rattle.conversation.proofs.Laws.SumsTwo.{sums_in, Kept_limits, or_false}

-- ---- a session that has just sent done

-- each table of phase two is as opened
second_opened : (t : Tables) → LaterOpened t → (k : KindTwo) → table_of k t ≡ opened (slots_two k)
second_opened t l errors = l.0
second_opened t l stanzas = l.1
second_opened t l returned = l.2

-- so there is nothing in it yet
sums_opened : (t : Tables) → LaterOpened t → (m : Sum) → sums_in t m ≡ 0
unfolding how_many
sums_opened t l (keys_for f) = ap (λ x. how_many (is_file f) (labels x)) l.2
sums_opened t l (stanzas_for_file f) = ap (λ x. how_many (is_file f) (labels x)) l.1
sums_opened t l (errors_for f) = ap (λ x. how_many (is_about f) (labels x)) l.0
sums_opened t l (entries k) = ap (λ x. x.count) (second_opened t l k)
sums_opened t l (bytes k) = ap (λ x. x.used) (second_opened t l k)

pub none_yet : (t : Tables) (b : Buffers) → LaterOpened t → Kept_limits t b.second
none_yet t b l =
    let z = sums_opened t l in
    record {
      once = λ f. omega (arith, z (keys_for f));
      few = λ f. omega (arith, z (stanzas_for_file f));
      apart = inl (z (entries errors));
      apart_file = λ f. inl (z (errors_for f));
      slots = λ k. omega (arith, z (entries k));
      bytes_fit = λ k. omega (arith, z (bytes k));
    }

pub shows_left : (s : Session) (b : Buffers) → ReachedSession s → Shows s.tables (left_of (state_of s b))
unfolding Reached
shows_left s b r = record {
  counts = λ k. sym (view_count (one_kind.table_of k s.tables) (one_kind.buffer_of k b.first) (r.tables k).kept_so);
  labelled = λ k. labels_view (one_kind.table_of k s.tables) (one_kind.buffer_of k b.first);
}

-- phase two begins
pub begins : (s : Session) (b : Buffers) → JustReached s → Standing (left_of (state_of s b)) s.tables b.second
begins s b j = record {
  going = record {
    held = λ k. subst Kept (sym (second_opened s.tables j.later_opened k)) (opened_kept (slots_two k));
    wide = λ k. ap (λ t. t.width) (second_opened s.tables j.later_opened k);
  };
  shows = shows_left s b j.reached;
  limits = none_yet s.tables b j.later_opened;
}

pub two_session : (s : Session) → JustReached s → at s Two s.tables ≡ s
two_session s j = ap (λ p. moved s p s.tables) (sym j.turn)

pub fitting_all : (s : Session) (b : Buffers) → JustReached s → (cs : List Said) →
    Fitting s.tables b.second cs ↔ Limits (length (left_of (state_of s b) recipients) + length (left_of (state_of s b) identities)) (capacity_of b) (λ m. total m cs)
fitting_all s b j cs =
    let z = sums_opened s.tables j.later_opened in
    let m = most_is s.tables (left_of (state_of s b)) (shows_left s b j.reached) in (
      limits_same _ _ (capacity_of b) (capacity_of b) (λ m. sums_in s.tables m + total m cs) (λ m. total m cs) m (λ k. refl) (λ m. omega (arith, z m)),
      limits_same _ _ (capacity_of b) (capacity_of b) (λ m. total m cs) (λ m. sums_in s.tables m + total m cs) (sym m) (λ k. refl) (λ m. omega (arith, z m)),
    )

module _ (s : Session) (b : Buffers) (j : JustReached s) (p : Phase) (h : IsPhase two_part p) (outs : Supply) (l : LongEnough s b (calls_of two_part outs (blocks_of p))) where
  enough_two : LongEnough (at s Two s.tables) b (calls_of two_part outs (blocks_of p))
  enough_two = subst (λ s. LongEnough s b (calls_of two_part outs (blocks_of p))) (sym (two_session s j)) l

  -- exactly the allowed phases are accepted
  pub accepted_two_iff : Accepted s b (calls_of two_part outs (blocks_of p)) ↔ AllowedTwo s.machine s.screen (left_of (state_of s b)) (capacity_of b) (blocks_of p)
  accepted_two_iff =
      let i = accepted_from s (left_of (state_of s b)) p.ahead p.last s.tables b outs (begins s b j) h.whole h.done_once h.done_last enough_two in
      let f = fitting_all s b j (map (said_by s.machine) (blocks_of p)) in (
        λ a. let r = i.0 (subst (λ s. Accepted s b (calls_of two_part outs (blocks_of p))) (sym (two_session s j)) a) in record { right = r.0; limits = f.0 r.1 },
        λ a. subst (λ s. Accepted s b (calls_of two_part outs (blocks_of p))) (two_session s j) (i.1 (a.right, f.1 a.limits)),
      )

  -- what an accepted one leaves and writes
  pub accepted_two_left : Accepted s b (calls_of two_part outs (blocks_of p)) →
      Grown s.tables b (λ k. rows_in s.machine k (blocks_of p)) (after s b (calls_of two_part outs (blocks_of p))) × (written_in two_part s b outs (blocks_of p) ≡ map (responses_to two_part s.machine s.screen) (blocks_of p))
  accepted_two_left a =
      let d = left_from s (left_of (state_of s b)) p.ahead p.last s.tables b outs (begins s b j) h.whole h.done_once h.done_last enough_two (subst (λ s. Accepted s b (calls_of two_part outs (blocks_of p))) (sym (two_session s j)) a) in (
        subst (λ s'. Grown s.tables b (λ k. rows_in s.machine k (blocks_of p)) (after s' b (calls_of two_part outs (blocks_of p)))) (two_session s j) d.grown,
        ap (λ s'. written_in two_part s' b outs (blocks_of p)) (sym (two_session s j)) ∙ d.texts,
      )

-- ---- a block that may be added or dropped

-- an unknown command without replies
abbrev Unknown : CommandTwo → Type 0
Unknown c = is_named_two c ≡ false

by_unknown : (P : CommandTwo → Type 0) (c : CommandTwo) → Unknown c → P other → P c
by_unknown P (ask w) e h = absurd (true≢false e)
by_unknown P (stanza f) e h = absurd (true≢false e)
by_unknown P (key f) e h = absurd (true≢false e)
by_unknown P (error n) e h = absurd (true≢false e)
by_unknown P done e h = absurd (true≢false e)
by_unknown P other e h = h
by_unknown P (bad n) e h = absurd (true≢false e)

no_replies : {X : Type 0} (rs : List X) → not (eqb (length rs) 0) ≡ false → rs ≡ []
no_replies [] e = refl
no_replies (r ∷ rs) e = absurd (omega (arith, eqb-true (length (r ∷ rs)) 0 (not-false _ e)))

module _ (machine : Machine) (screen : Bool) (left : Left) where
  -- it is right by itself
  spare_right : (x : Block) → is_kept two_part machine x ≡ false → RightBlock machine screen left x
  spare_right x e =
      let u = or_false (is_named_two (command_in machine x.text)) (not (eqb (length x.replies) 0)) e in
      let n = no_replies x.replies u.1 in
      record {
        right = by_unknown (λ c. is_right_two c ≡ true) (command_in machine x.text) u.0 refl;
        present = by_unknown (Present left) (command_in machine x.text) u.0 tt;
        answered = by_unknown (λ c. Answered screen c x.replies) (command_in machine x.text) u.0 n;
      }

-- and adds nothing to any sum
spare_weight : (machine : Machine) (m : Sum) (x : Block) → is_kept two_part machine x ≡ false → weight m (said_by machine x) ≡ 0
spare_weight machine m x e =
    by_unknown (λ c. weight m (record { command = c; payload = payload_in machine x.text }) ≡ 0) (command_in machine x.text) (or_false (is_named_two (command_in machine x.text)) (not (eqb (length x.replies) 0)) e).0 (none m)
  where
    none : (m : Sum) → weight m (record { command = other; payload = payload_in machine x.text }) ≡ 0
    none (keys_for f) = refl
    none (stanzas_for_file f) = refl
    none (errors_for f) = refl
    none (entries k) = refl
    none (bytes k) = refl

-- a test that only kept blocks pass
known_kept : (machine : Machine) (test : CommandTwo → Bool) → test other ≡ false → (x : Block) → is_kept two_part machine x && test (command_in machine x.text) ≡ test (command_in machine x.text)
known_kept machine test e x = cases (is_kept two_part machine x) (λ k. rw k) (λ k. rw k (sym (by_unknown (λ c. test c ≡ false) (command_in machine x.text) (or_false (is_named_two (command_in machine x.text)) (not (eqb (length x.replies) 0)) k).0 e)))

-- ---- sums over blocks

total_sum : (machine : Machine) (m : Sum) (xs : List Block) → total m (map (said_by machine) xs) ≡ sum_of (λ x. weight m (said_by machine x)) xs
unfolding total sum_of
total_sum machine m [] = refl
total_sum machine m (x ∷ xs) = ap (λ n. weight m (said_by machine x) + n) (total_sum machine m xs)

module _ (machine : Machine) (name : List ℕ) (p q : Phase) (r : Rearranged two_part machine name p q) where
  -- rearranged blocks have the same sums
  same_total : (m : Sum) → total m (map (said_by machine) (blocks_of q)) ≡ total m (map (said_by machine) (blocks_of p))
  same_total m =
      let w : Block → ℕ = λ x. weight m (said_by machine x) in
      let ahead : (xs : List Block) → sum_of w xs ≡ sum_of w (keep (is_kept two_part machine) xs) = sum_kept w (is_kept two_part machine) (spare_weight machine m) in
      total_sum machine m (blocks_of q) ∙ sum_append w q.ahead (q.last ∷ [])
      ∙ ap₂ (λ n y. n + sum_of w (y ∷ [])) (ahead q.ahead ∙ sym (sum_permuted w r.permuted) ∙ sym (ahead p.ahead)) (sym r.same_last)
      ∙ sym (sum_append w p.ahead (p.last ∷ [])) ∙ sym (total_sum machine m (blocks_of p))

  -- with equal settings and lengths the one is allowed where the other is
  same_allowed : (screen : Bool) (left : Left) (c d : KindTwo → ℕ) → ((k : KindTwo) → c k ≡ d k) → AllowedTwo machine screen left c (blocks_of p) → AllowedTwo machine screen left d (blocks_of q)
  same_allowed screen left c d e a =
      let P : Block → Type 0 = RightBlock machine screen left in
      let known : (xs : List Block) → All P xs ↔ All P (keep (is_kept two_part machine) xs) = λ xs. all_kept P (is_kept two_part machine) (spare_right machine screen left) xs in
      let parts = (all_append P p.ahead (p.last ∷ [])).0 a.right in
      record {
        right = (all_append P q.ahead (q.last ∷ [])).1 ((known q.ahead).1 (all_permuted P r.permuted ((known p.ahead).0 parts.0)), subst (λ y. All P (y ∷ [])) r.same_last parts.1);
        limits = limits_same _ _ c d (λ m. total m (map (said_by machine) (blocks_of p))) (λ m. total m (map (said_by machine) (blocks_of q))) refl e same_total a.limits;
      }

-- ---- rows over blocks

module _ (machine : Machine) (k : KindTwo) where
  rows_append : (xs ys : List Block) → rows_in machine k (xs ++ ys) ≡ rows_in machine k xs ++ rows_in machine k ys
  unfolding rows_in
  rows_append [] ys = refl
  rows_append (x ∷ xs) ys = ap (λ r. rows_by machine k x ++ r) (rows_append xs ys) ∙ sym (append_assoc (rows_by machine k x) (rows_in machine k xs) (rows_in machine k ys))

  -- of the rows that a choice leaves: they are those of the blocks that a test keeps
  module _ (choice : List Row → List Row) (none : choice [] ≡ []) (parts : (a b : List Row) → choice (a ++ b) ≡ choice a ++ choice b) (test : Block → Bool) (one : (x : Block) → choice (rows_by machine k x) ≡ pick (test x) (rows_by machine k x) []) where
    rows_chosen : (xs : List Block) → choice (rows_in machine k xs) ≡ rows_in machine k (keep test xs)
    unfolding rows_in keep
    rows_chosen [] = none
    rows_chosen (x ∷ xs) =
        parts (rows_by machine k x) (rows_in machine k xs) ∙ ap₂ (λ a b. a ++ b) (one x) (rows_chosen xs) ∙ go (test x)
      where
        go : (f : Bool) → pick f (rows_by machine k x) [] ++ rows_in machine k (keep test xs) ≡ rows_in machine k (pick f (x ∷ []) [] ++ keep test xs)
        go true = refl
        go false = refl

    -- so lists that keep the same blocks have the same rows
    same_chosen : (p q : Phase) → p.last ≡ q.last → keep test p.ahead ≡ keep test q.ahead → choice (rows_in machine k (blocks_of p)) ≡ choice (rows_in machine k (blocks_of q))
    same_chosen p q l e =
        let front : (xs : List Block) (y : Block) → choice (rows_in machine k (xs ++ (y ∷ []))) ≡ rows_in machine k (keep test xs) ++ choice (rows_in machine k (y ∷ [])) =
        λ xs y. ap choice (rows_append xs (y ∷ [])) ∙ parts (rows_in machine k xs) (rows_in machine k (y ∷ [])) ∙ ap (λ a. a ++ choice (rows_in machine k (y ∷ []))) (rows_chosen xs) in
        front p.ahead p.last ∙ ap₂ (λ xs y. rows_in machine k xs ++ choice (rows_in machine k (y ∷ []))) e l ∙ sym (front q.ahead q.last)

-- an error makes a row among the errors, and nothing else does
error_row : (c : CommandTwo) (p : List ℕ) → rows_of c errors p ≡ pick (is_error c) (rows_of c errors p) []
error_row (ask w) p = refl
error_row (stanza f) p = refl
error_row (key f) p = refl
error_row (error n) p = refl
error_row done p = refl
error_row other p = refl
error_row (bad n) p = refl

-- a stanza makes a row for its file
stanza_row : (f : ℕ) (c : CommandTwo) (p : List ℕ) → of_file f (rows_of c stanzas p) ≡ pick (is_stanza_for f c) (rows_of c stanzas p) []
unfolding of_file
stanza_row f (ask w) p = refl
stanza_row f (stanza g) p = append-nil (pick (eqb g f) _ [])
stanza_row f (key g) p = refl
stanza_row f (error n) p = refl
stanza_row f done p = refl
stanza_row f other p = refl
stanza_row f (bad n) p = refl

-- and so does a key
key_row : (f : ℕ) (c : CommandTwo) (p : List ℕ) → of_file f (rows_of c returned p) ≡ pick (is_key_for f c) (rows_of c returned p) []
unfolding of_file
key_row f (ask w) p = refl
key_row f (stanza g) p = refl
key_row f (key g) p = append-nil (pick (eqb g f) _ [])
key_row f (error n) p = refl
key_row f done p = refl
key_row f other p = refl
key_row f (bad n) p = refl

module _ (machine : Machine) (name : List ℕ) (p q : Phase) (r : Rearranged two_part machine name p q) where
  same_errors : rows_in machine errors (blocks_of p) ≡ rows_in machine errors (blocks_of q)
  same_errors =
      same_chosen machine errors (λ l. l) refl (λ a b. refl) (λ x. is_error (command_in machine x.text)) (λ x. error_row (command_in machine x.text) (payload_in machine x.text)) p q r.same_last (r.same_order of_errors)

  file_none : (f : ℕ) → of_file f [] ≡ []
  unfolding of_file
  file_none f = refl

  same_stanzas : (f : ℕ) → of_file f (rows_in machine stanzas (blocks_of p)) ≡ of_file f (rows_in machine stanzas (blocks_of q))
  same_stanzas f =
      same_chosen machine stanzas (of_file f) (file_none f) (of_file_append f) (λ x. is_stanza_for f (command_in machine x.text)) (λ x. stanza_row f (command_in machine x.text) (payload_in machine x.text)) p q r.same_last (r.same_order (of_one_file f))

  -- at most one key a file: so its order does not matter
  same_keys : (f : ℕ) → total (keys_for f) (map (said_by machine) (blocks_of p)) ≤ 1 → of_file f (rows_in machine returned (blocks_of p)) ≡ of_file f (rows_in machine returned (blocks_of q))
  same_keys f h =
      let test : Block → Bool = λ x. is_key_for f (command_in machine x.text) in
      let w : Block → ℕ = λ x. weight (keys_for f) (said_by machine x) in
      let kept : (xs : List Block) → keep test (keep (is_kept two_part machine) xs) ≡ keep test xs = keep_kept (is_kept two_part machine) test (known_kept machine (is_key_for f) refl) in
      let few : length (keep test (keep (is_kept two_part machine) p.ahead)) ≤ 1 = omega (arith, ap length (kept p.ahead), length_keep test p.ahead, sum_append w p.ahead (p.last ∷ []), total_sum machine (keys_for f) (blocks_of p)) in
      same_chosen machine returned (of_file f) (file_none f) (of_file_append f) test (λ x. key_row f (command_in machine x.text) (payload_in machine x.text)) p q r.same_last
      (sym (kept p.ahead) ∙ keep_permuted_once test r.permuted few ∙ kept q.ahead)

-- ---- both

-- nothing is shown of phase two's tables where they are as opened
second_empty : (t : Tables) (b : Buffers) → LaterOpened t → (k : KindTwo) → view_of k t b.second ≡ []
second_empty t b l k = ap (λ x. view x (buffer_of k b.second)) (second_opened t l k)

module _ (x y : State) (jx : JustReached x.session) (jy : JustReached y.session) (e : SameStart two_part x y) (p q : Phase) (hp : IsPhase two_part p) (hq : IsPhase two_part q) (r : Rearranged two_part x.session.machine x.session.name p q) (outs outs' : Supply)
    (lx : LongEnough x.session x.buffers (calls_of two_part outs (blocks_of p))) (ly : LongEnough y.session y.buffers (calls_of two_part outs' (blocks_of q))) where
  allowed_x : Accepted x.session x.buffers (calls_of two_part outs (blocks_of p)) ↔ AllowedTwo x.session.machine x.session.screen (left_of x) (capacity_of x.buffers) (blocks_of p)
  allowed_x = accepted_two_iff x.session x.buffers jx p hp outs lx

  allowed_y : Accepted y.session y.buffers (calls_of two_part outs' (blocks_of q)) ↔ AllowedTwo x.session.machine x.session.screen (left_of x) (capacity_of y.buffers) (blocks_of q)
  allowed_y =
      let left : left_of x ≡ left_of y = fun_ext e.views in
      let same : AllowedTwo x.session.machine x.session.screen (left_of x) (capacity_of y.buffers) (blocks_of q) ≡ AllowedTwo y.session.machine y.session.screen (left_of y) (capacity_of y.buffers) (blocks_of q) =
      ap (λ m. AllowedTwo m x.session.screen (left_of x) (capacity_of y.buffers) (blocks_of q)) e.machine
      ∙ ap (λ c. AllowedTwo y.session.machine c (left_of x) (capacity_of y.buffers) (blocks_of q)) e.screen
      ∙ ap (λ l. AllowedTwo y.session.machine y.session.screen l (capacity_of y.buffers) (blocks_of q)) left in
      let i = accepted_two_iff y.session y.buffers jy q hq outs' ly in
      (λ a. subst (λ T. T) (sym same) (i.0 a), λ a. i.1 (subst (λ T. T) same a))

  forth : Accepted x.session x.buffers (calls_of two_part outs (blocks_of p)) → Accepted y.session y.buffers (calls_of two_part outs' (blocks_of q))
  forth a = allowed_y.1 (same_allowed x.session.machine x.session.name p q r x.session.screen (left_of x) (capacity_of x.buffers) (capacity_of y.buffers) e.lengths (allowed_x.0 a))

  back : Accepted y.session y.buffers (calls_of two_part outs' (blocks_of q)) → Accepted x.session x.buffers (calls_of two_part outs (blocks_of p))
  back a = allowed_x.1 (same_allowed x.session.machine x.session.name q p (turned x.session.machine x.session.name two_part p q r) x.session.screen (left_of x) (capacity_of y.buffers) (capacity_of x.buffers) (λ k. sym (e.lengths k)) (allowed_y.0 a))

  module _ (a : Accepted x.session x.buffers (calls_of two_part outs (blocks_of p))) where
    left_x : Grown x.session.tables x.buffers (λ k. rows_in x.session.machine k (blocks_of p)) (after x.session x.buffers (calls_of two_part outs (blocks_of p)))
    left_x = (accepted_two_left x.session x.buffers jx p hp outs lx a).0

    left_y : Grown y.session.tables y.buffers (λ k. rows_in x.session.machine k (blocks_of q)) (after y.session y.buffers (calls_of two_part outs' (blocks_of q)))
    left_y = subst (λ m. Grown y.session.tables y.buffers (λ k. rows_in m k (blocks_of q)) (after y.session y.buffers (calls_of two_part outs' (blocks_of q)))) (sym e.machine) (accepted_two_left y.session y.buffers jy q hq outs' ly (forth a)).0

    view_x : (k : KindTwo) → view_of k (after x.session x.buffers (calls_of two_part outs (blocks_of p))).session.tables (after x.session x.buffers (calls_of two_part outs (blocks_of p))).buffers.second ≡ rows_in x.session.machine k (blocks_of p)
    view_x k = left_x.views k ∙ ap (λ v. v ++ rows_in x.session.machine k (blocks_of p)) (second_empty x.session.tables x.buffers jx.later_opened k)

    view_y : (k : KindTwo) → view_of k (after y.session y.buffers (calls_of two_part outs' (blocks_of q))).session.tables (after y.session y.buffers (calls_of two_part outs' (blocks_of q))).buffers.second ≡ rows_in x.session.machine k (blocks_of q)
    view_y k = left_y.views k ∙ ap (λ v. v ++ rows_in x.session.machine k (blocks_of q)) (second_empty y.session.tables y.buffers jy.later_opened k)

    same_tables : SameTables (after x.session x.buffers (calls_of two_part outs (blocks_of p))) (after y.session y.buffers (calls_of two_part outs' (blocks_of q)))
    same_tables = record {
      views = λ k. ap₂ (λ t b. view t (one_kind.buffer_of k b)) (left_x.tables k) left_x.buffers ∙ e.views k ∙ sym (ap₂ (λ t b. view t (one_kind.buffer_of k b)) (left_y.tables k) left_y.buffers);
      errors = view_x errors ∙ same_errors x.session.machine x.session.name p q r ∙ sym (view_y errors);
      stanzas = λ f. ap (of_file f) (view_x stanzas) ∙ same_stanzas x.session.machine x.session.name p q r f ∙ sym (ap (of_file f) (view_y stanzas));
      returned = λ f. ap (of_file f) (view_x returned) ∙ same_keys x.session.machine x.session.name p q r f ((allowed_x.0 a).limits.once f) ∙ sym (ap (of_file f) (view_y returned));
    }

    texts_y : written_in two_part y.session y.buffers outs' (blocks_of q) ≡ map (responses_to two_part x.session.machine x.session.screen) (blocks_of q)
    texts_y = (accepted_two_left y.session y.buffers jy q hq outs' ly (forth a)).1 ∙ ap₂ (λ m c. map (responses_to two_part m c) (blocks_of q)) (sym e.machine) (sym e.screen)

  pub order_reached : SameOutcome two_part x y p q outs outs'
  order_reached = record {
    accepted = (forth, back);
    tables = same_tables;
    responses = λ a. ((accepted_two_left x.session x.buffers jx p hp outs lx a).1, texts_y a);
  }
