-- Phase one: which phases are accepted, and the tables that an accepted one leaves.
use Prim.Native.Nat.{ℕ}
use mathlib.Core.Path.{◌≡◌, refl, sym, ap, ap₂, ◌∙◌, subst}
use mathlib.Core.Bool.{Bool, true, false}
use mathlib.Core.Logic.{◌↔◌}
use mathlib.Core.List.{List, [], ◌∷◌, ◌++◌, map, map-append, append-nil, append_assoc}
use lib.ListN.{length}
use native.Mathlib.Omega.{arith}
use Rattle.tables.specs.Tables.{Table, Row}
use Rattle.session.specs.declared.opening.Machine.{Machine}
use Rattle.phase_one.specs.Commands.{CommandOne, recipient, identity, key, header, done, other, bad}
use Rattle.session.specs.Tables.{Tables, opened_tables}
use Rattle.phase_one.specs.PhaseOne.{BuffersOne, applied}
use Rattle.phase_one.specs.Views.{KindOne, recipients, identities, keys, headers, buffer_of, view_of}
use Rattle.phase_one.proofs.Laws.Views.{Reached, opened_reached}
use Rattle.session.specs.Session.{Session, opened_session}
use Rattle.conversation.specs.Kinds.{buffers_of}
use Rattle.conversation.specs.Kinds as kinds
use Rattle.conversation.specs.PhaseTwo as two
use Rattle.conversation.specs.Calls.{receive, outcome, State, after, numbers, AllZero, Accepted}
use Rattle.conversation.specs.Phases.{All, Whole, is_done, command_of, rows_from, one_part, Block, Phase, blocks_of, Quiet, IsPhase, Supply, skip, reply_calls, calls_of, texts_of}
use Rattle.conversation.specs.Allowed.{is_right, rows_in, Rising, Distinct, Allowed}
use Rattle.conversation.proofs.Laws.Lists.{all_map}
use Rattle.conversation.proofs.Laws.Limits.{Ordered, Within, within_front}
use Rattle.conversation.proofs.Laws.Steps.{Going, Fitting, payload, judged, tables_with, buffers_with, judged_iff, view_with, length_with, going_with, going, number_received, tables_received, buffers_received, session_received}

-- the tables of phase two
abbrev late_of : Tables → Table × Table × Table
late_of t = (t.errors, t.stanzas, t.returned)

-- which phase one leaves as they were
applied_late : (t : Tables) (b : BuffersOne) (c : CommandOne) (p : List ℕ) → late_of (applied t b c p) ≡ late_of t
applied_late t b (recipient m) p = refl
applied_late t b (identity m) p = refl
applied_late t b key p = refl
applied_late t b (header i m) p = refl
applied_late t b done p = refl
applied_late t b other p = refl
applied_late t b (bad n) p = refl

-- what rows more leave
record Left (t : Tables) (b : BuffersOne) (rows : KindOne → List Row) (x : State) : Type 0 where
  views : (k : KindOne) → view_of k x.session.tables x.buffers.first ≡ view_of k t b ++ rows k
  late : late_of x.session.tables ≡ late_of t

within_same : {k : KindOne} {m n : ℕ} {rs qs : List Row} → m ≡ n → rs ≡ qs → Within k m rs → Within k n qs
within_same {k = k} {n = n} {rs = rs} e q w = subst (Within k n) q (subst (λ m. Within k m rs) e w)

-- ---- from any tables that calls can reach

module _ (machine : Machine) (name : List ℕ) where
  -- every command is right
  abbrev Right : List (List ℕ) → Type 0
  Right ts = All (λ x. is_right (command_of machine name x) ≡ true) ts

  abbrev rows : List (List ℕ) → KindOne → List Row
  rows ts k = rows_in machine name k ts

  -- a text is accepted; the tables and the buffers behind it
  abbrev Zero : Tables → BuffersOne → List ℕ → Type 0
  Zero t b x = judged machine name t b x ≡ 0

  abbrev tables : Tables → BuffersOne → List ℕ → Tables
  tables t b x = tables_with machine name t b x

  abbrev buffers : Tables → BuffersOne → List ℕ → BuffersOne
  buffers t b x = buffers_with machine name t b x

  module _ (t : Tables) (b : BuffersOne) (x : List ℕ) (more : KindOne → List Row) where
    -- rows more behind its own
    view_more : Whole x → Going t b → Zero t b x → (k : KindOne) → view_of k (tables t b x) (buffers t b x) ++ more k ≡ view_of k t b ++ (rows_from machine name k x ++ more k)
    view_more w g z k = ap (λ v. v ++ more k) (view_with machine name t b x w g z k) ∙ append_assoc (view_of k t b) (rows_from machine name k x) (more k)

    -- their limits are the same
    fitting_more : Whole x → Going t b → Zero t b x → Fitting (tables t b x) (buffers t b x) more ↔ Fitting t b (λ k. rows_from machine name k x ++ more k)
    fitting_more w g z =
        let l = length_with machine name t b x w g z in
        let v = view_more w g z in
        (λ f k. within_same (l k) (v k) (f k), λ f k. within_same (sym (l k)) (sym (v k)) (f k))

    -- and its own are the first of them
    fitting_front : Fitting t b (λ k. rows_from machine name k x ++ more k) → Fitting t b (λ k. rows_from machine name k x)
    fitting_front f k =
        within_front k (length (buffer_of k b)) (view_of k t b ++ rows_from machine name k x) (more k) (within_same refl (sym (append_assoc (view_of k t b) (rows_from machine name k x) (more k))) (f k))

  -- phase two's buffers are lent beside and stay
  module _ (screen : Bool) (later : two.BuffersTwo) where
    abbrev session : Tables → Session
    session t = going machine name screen t

    -- what follows an accepted text that is not done
    follows : {X : Type 0} (f : Session → kinds.Buffers → X) (t : Tables) (b : BuffersOne) (x : List ℕ) → Whole x → Zero t b x → is_done x ≡ false →
        f (outcome (session t) (buffers_of b later) (receive x)).session (outcome (session t) (buffers_of b later) (receive x)).buffers ≡ f (session (tables t b x)) (buffers_of (buffers t b x) later)
    follows f t b x w z d = ap₂ f (session_received machine name screen t b later x w z d) (buffers_received machine name screen t b later x w z)

    -- texts of which only the last may be done are accepted exactly if they are right and their rows are within the limits
    from_iff : (xs : List (List ℕ)) (y : List ℕ) (t : Tables) (b : BuffersOne) → Going t b → All Whole (xs ++ (y ∷ [])) → All (λ x. is_done x ≡ false) xs →
        Accepted (session t) (buffers_of b later) (map receive (xs ++ (y ∷ []))) ↔ (Right (xs ++ (y ∷ [])) × Fitting t b (rows (xs ++ (y ∷ []))))
    unfolding All AllZero numbers rows_in
    from_iff [] y t b g w d =
        let i = judged_iff machine name t b y g in
        let n = number_received machine name screen t b later y w.0 in (
          λ a. let h = i.0 (sym n ∙ a.0) in ((h.0, tt), λ k. within_same refl (ap (λ r. view_of k t b ++ r) (sym (append-nil (rows_from machine name k y)))) (h.1 k)),
          λ h. (n ∙ i.1 (h.0.0, fitting_front t b y (λ k. []) h.1), tt),
        )
    from_iff (x ∷ xs) y t b g w d =
        let i = judged_iff machine name t b x g in
        let n = number_received machine name screen t b later x w.0 in
        let cs = map receive (xs ++ (y ∷ [])) in
        let more = rows (xs ++ (y ∷ [])) in
        let next : Zero t b x → Accepted (session (tables t b x)) (buffers_of (buffers t b x) later) cs ↔ (Right (xs ++ (y ∷ [])) × Fitting (tables t b x) (buffers t b x) more) =
        λ z. from_iff xs y (tables t b x) (buffers t b x) (going_with machine name t b x w.0 g z) w.1 d.1 in
        let calls : Zero t b x → _ ≡ numbers (session (tables t b x)) (buffers_of (buffers t b x) later) cs = λ z. follows (λ s b. numbers s b cs) t b x w.0 z d.0 in (
          λ a. let z = sym n ∙ a.0 in
              let h = (next z).0 (subst AllZero (calls z) a.1) in
              (((i.0 z).0, h.0), (fitting_more t b x more w.0 g z).0 h.1),
          λ h. let z = i.1 (h.0.0, fitting_front t b x more h.1) in
              (n ∙ z, subst AllZero (sym (calls z)) ((next z).1 (h.0.1, (fitting_more t b x more w.0 g z).1 h.1))),
        )

    -- and what they leave then
    from_left : (xs : List (List ℕ)) (y : List ℕ) (t : Tables) (b : BuffersOne) → Going t b → All Whole (xs ++ (y ∷ [])) → All (λ x. is_done x ≡ false) xs →
        Accepted (session t) (buffers_of b later) (map receive (xs ++ (y ∷ []))) → Left t b (rows (xs ++ (y ∷ []))) (after (session t) (buffers_of b later) (map receive (xs ++ (y ∷ []))))
    unfolding All AllZero numbers rows_in after
    from_left [] y t b g w d a =
        let z = sym (number_received machine name screen t b later y w.0) ∙ a.0 in
        let e = tables_received machine name screen t b later y w.0 z in
        record {
          views = λ k. ap₂ (view_of k) e (ap (λ b. b.first) (buffers_received machine name screen t b later y w.0 z)) ∙ view_with machine name t b y w.0 g z k ∙ ap (λ r. view_of k t b ++ r) (sym (append-nil (rows_from machine name k y)));
          late = ap late_of e ∙ applied_late t b (command_of machine name y) (payload machine name y);
        }
    from_left (x ∷ xs) y t b g w d a =
        let z = sym (number_received machine name screen t b later x w.0) ∙ a.0 in
        let cs = map receive (xs ++ (y ∷ [])) in
        let more = rows (xs ++ (y ∷ [])) in
        let h = from_left xs y (tables t b x) (buffers t b x) (going_with machine name t b x w.0 g z) w.1 d.1 (subst AllZero (follows (λ s b. numbers s b cs) t b x w.0 z d.0) a.1) in
        subst (Left t b (rows (x ∷ (xs ++ (y ∷ []))))) (sym (follows (λ s b. after s b cs) t b x w.0 z d.0)) (record {
          views = λ k. h.views k ∙ view_more t b x more w.0 g z k;
          late = h.late ∙ applied_late t b (command_of machine name x) (payload machine name x);
        })

-- ---- from an opening

pub opened_going : (b : BuffersOne) → Going opened_tables b
unfolding Reached Rising Distinct
opened_going b recipients = record { reached = opened_reached recipients; wide = refl; room = omega arith; ordered = tt }
opened_going b identities = record { reached = opened_reached identities; wide = refl; room = omega arith; ordered = tt }
opened_going b keys = record { reached = opened_reached keys; wide = refl; room = omega arith; ordered = tt }
opened_going b headers = record { reached = opened_reached headers; wide = refl; room = omega arith; ordered = tt }

opened_none : (b : BuffersOne) (k : KindOne) (rs : List Row) → view_of k opened_tables b ++ rs ≡ rs
opened_none b recipients rs = refl
opened_none b identities rs = refl
opened_none b keys rs = refl
opened_none b headers rs = refl

allowed_ordered : (rows : KindOne → List Row) → Rising (rows headers) → Distinct (rows recipients) → (k : KindOne) → Ordered k (rows k)
allowed_ordered rows h d recipients = d
allowed_ordered rows h d identities = tt
allowed_ordered rows h d keys = tt
allowed_ordered rows h d headers = h

-- ---- a phase

-- blocks without replies are received as their texts, whatever the supply
pub quiet_calls : (outs : Supply) (xs : List Block) → All (Quiet one_part) xs → calls_of one_part outs xs ≡ map receive (map (λ x. x.text) xs)
unfolding All calls_of reply_calls
quiet_calls outs [] h = refl
quiet_calls outs (x ∷ xs) h =
    ap (λ rs. (receive x.text ∷ reply_calls (skip 1 outs) rs) ++ calls_of one_part (skip (length rs) (skip 1 outs)) xs) h.0
    ∙ ap (λ cs. receive x.text ∷ cs) (quiet_calls (skip 0 (skip 1 outs)) xs h.1)

-- each kind's table is the rows of the phase's texts, in order, and phase two's tables are as they were opened
pub record Holds (machine : Machine) (name : List ℕ) (ts : List (List ℕ)) (x : State) : Type 0 where
  pub views : (k : KindOne) → view_of k x.session.tables x.buffers.first ≡ rows_in machine name k ts
  pub errors : x.session.tables.errors ≡ opened_tables.errors
  pub stanzas : x.session.tables.stanzas ≡ opened_tables.stanzas
  pub returned : x.session.tables.returned ≡ opened_tables.returned

module _ (machine : Machine) (name : List ℕ) (screen : Bool) (b : kinds.Buffers) where
  abbrev start : Session
  start = opened_session machine name screen

  module _ (xs : List (List ℕ)) (y : List ℕ) (w : All Whole (xs ++ (y ∷ []))) (d : All (λ x. is_done x ≡ false) xs) where
    abbrev texts : List (List ℕ)
    texts = xs ++ (y ∷ [])

    none_yet : (k : KindOne) → view_of k opened_tables b.first ++ rows_in machine name k texts ≡ rows_in machine name k texts
    none_yet k = opened_none b.first k (rows_in machine name k texts)

    pub texts_iff : Accepted start b (map receive texts) ↔ Allowed machine name b.first texts
    texts_iff =
        let i = from_iff machine name screen b.second xs y opened_tables b.first (opened_going b.first) w d in (
          λ a. let f : (k : KindOne) → Within k (length (buffer_of k b.first)) (rows_in machine name k texts) = λ k. within_same refl (none_yet k) ((i.0 a).1 k) in
              record { right = (i.0 a).0; slots = λ k. (f k).slots; bytes = λ k. (f k).bytes; rising = (f headers).ordered; distinct = (f recipients).ordered },
          λ a. i.1 (a.right, λ k. within_same refl (sym (none_yet k)) (record { slots = a.slots k; bytes = a.bytes k; ordered = allowed_ordered (λ k. rows_in machine name k texts) a.rising a.distinct k })),
        )

    texts_tables : Accepted start b (map receive texts) → Holds machine name texts (after start b (map receive texts))
    texts_tables a =
        let l = from_left machine name screen b.second xs y opened_tables b.first (opened_going b.first) w d a in
        record {
          views = λ k. l.views k ∙ none_yet k;
          errors = ap (λ q. q.0) l.late;
          stanzas = ap (λ q. q.1) l.late;
          returned = ap (λ q. q.2) l.late;
        }

  module _ (outs : Supply) (p : Phase) (h : IsPhase one_part p) where
    abbrev ahead : List (List ℕ)
    ahead = map (λ x. x.text) p.ahead

    split : texts_of p ≡ ahead ++ (p.last.text ∷ [])
    split = map-append (λ x. x.text) p.ahead (p.last ∷ [])

    calls : map receive (ahead ++ (p.last.text ∷ [])) ≡ calls_of one_part outs (blocks_of p)
    calls = ap (map receive) (sym split) ∙ sym (quiet_calls outs (blocks_of p) h.quiet)

    whole : All Whole (ahead ++ (p.last.text ∷ []))
    whole = subst (All Whole) split ((all_map (λ x. x.text) Whole (blocks_of p)).1 h.whole)

    none_done : All (λ x. is_done x ≡ false) ahead
    none_done = (all_map (λ x. x.text) (λ x. is_done x ≡ false) p.ahead).1 h.done_once

    -- a phase is accepted exactly if it is allowed
    pub accepted_iff : Accepted start b (calls_of one_part outs (blocks_of p)) ↔ Allowed machine name b.first (texts_of p)
    accepted_iff =
        subst (λ cs. Accepted start b cs ↔ Allowed machine name b.first (texts_of p)) calls
        (subst (λ ts. Accepted start b (map receive (ahead ++ (p.last.text ∷ []))) ↔ Allowed machine name b.first ts) (sym split) (texts_iff ahead p.last.text whole none_done))

    -- and then its tables are so
    pub accepted_tables : Accepted start b (calls_of one_part outs (blocks_of p)) → Holds machine name (texts_of p) (after start b (calls_of one_part outs (blocks_of p)))
    accepted_tables =
        subst (λ cs. Accepted start b cs → Holds machine name (texts_of p) (after start b cs)) calls
        (subst (λ ts. Accepted start b (map receive (ahead ++ (p.last.text ∷ []))) → Holds machine name ts (after start b (map receive (ahead ++ (p.last.text ∷ []))))) (sym split) (texts_tables ahead p.last.text whole none_done))
