-- Phase one at the plugin end: exactly the texts that have the shape of a phase and are allowed are accepted, and exactly the fronts of such ones.
use Prim.Native.Nat.{ℕ, ◌≤◌}
use mathlib.Core.Path.{◌≡◌, refl, sym, ap, ap₂, ◌∙◌, subst}
use mathlib.Core.Bool.{Bool, true, false, true≢false}
use mathlib.Core.Logic.{◌⊎◌, inl, inr, ⊎_elim, ◌↔◌}
use mathlib.Core.List.{List, [], ◌∷◌, ◌++◌, map, map-append}
use lib.ListN.{length}
use native.Mathlib.Omega.{arith}
use Rattle.refusal.specs.Pick.{pick}
use Rattle.refusal.specs.Same.{same}
use Rattle.refusal.proofs.Laws.Booleans.{cases}
use Rattle.refusal.proofs.Laws.Same.{same_eq}
use Rattle.stanza.specs.Arguments.{argument_of}
use Rattle.phase_one.specs.Commands.{CommandOne, done, bad, done_word, word_in, is_bare, row_command}
use Rattle.phase_one.specs.PhaseOne as one
use Rattle.phase_one.specs.Turns.{phase_after}
use Rattle.phase_one.specs.Views as one_kind
use Rattle.phase_one.specs.Views.{KindOne, recipients, headers}
use Rattle.session.specs.Tables.{Tables}
use Rattle.session.specs.declared.opening.Machine.{Machine}
use Rattle.session.specs.declared.opening.Machine.TheVariants.{RecipientV1, IdentityV1}
use Rattle.session.specs.declared.phases.Phase.{Phase as SessionPhase}
use Rattle.session.specs.declared.phases.Phase.TheVariants.{One, Two}
use Rattle.session.specs.Session.{Session, opened_session}
use Rattle.conversation.specs.Calls.{receive, outcome, after, numbers, AllZero, Accepted}
use Rattle.conversation.specs.Kinds.{Buffers}
use Rattle.conversation.specs.Phases.{All, Whole, line_in, body_in, is_done, command_of}
use Rattle.conversation.specs.Allowed.{is_right, rows_in, bytes_of, Rising, Distinct, slots_of, Allowed}
use Rattle.conversation.specs.Shapes.{AcceptedTo, BeginsWhole, FrontOne, ShapedOne}
use Rattle.conversation.proofs.Laws.Accepted.{accepted}
use Rattle.conversation.proofs.Laws.AllowedOne.{texts_iff}
use Rattle.conversation.proofs.Laws.Lists.{all_append, all_map, all_weaker}
use Rattle.conversation.proofs.Laws.Shapes.{begins_whole, first_of_text, first_whole, first_line_same, first_body, alone_call, same_numbers}
use Rattle.conversation.proofs.Laws.Steps.{Proper, proper, proper_phase}

-- ---- done and its phase

-- the word done is done, or a fault
one_done : (m : Machine) (name line body : List ℕ) → same (argument_of line 0) done_word ≡ true → one.command_in m name line body ≡ pick (is_bare line (length body) 0) done (bad 4)
unfolding same
one_done RecipientV1 name line body e = ap (λ w. row_command (word_in RecipientV1 w) name line (length body)) (same_eq (argument_of line 0) done_word e)
one_done IdentityV1 name line body e = ap (λ w. row_command (word_in IdentityV1 w) name line (length body)) (same_eq (argument_of line 0) done_word e)

done_phase : (t : Tables) (b : one.BuffersOne) (p : List ℕ) (f : Bool) (c : CommandOne) → c ≡ pick f done (bad 4) → one.decided t b c p ≡ 0 → phase_after c ≡ Two
done_phase t b p true c e z = ap phase_after e
done_phase t b p false c e z = let h : ◌≡◌ {A = ℕ} 4 0 = ap (λ c. one.decided t b c p) (sym e) ∙ z in absurd (omega arith)

module _ (s : Session) (b : Buffers) (t : List ℕ) (z : (outcome s b (receive t)).number ≡ 0) where
  abbrev c : CommandOne
  c = command_of s.machine s.name t

  behind : (outcome s b (receive t)).session.phase ≡ phase_after c
  behind = ap (λ x. x.phase) (accepted s b (receive t) z).applied.session

  -- an accepted done leads to phase two, and any other command leaves phase one
  pub behind_done : is_done t ≡ true → (outcome s b (receive t)).session.phase ≡ Two
  behind_done d = behind ∙ done_phase s.tables b.first _ (is_bare (line_in t) (length (body_in t)) 0) c (one_done s.machine s.name (line_in t) (body_in t) d) (accepted s b (receive t) z).applied.faultless

  pub behind_other : is_done t ≡ false → (outcome s b (receive t)).session.phase ≡ One
  behind_other d = behind ∙ proper_phase c (subst (λ f. Proper f c) d (proper s.machine s.name t))

  begun : BeginsWhole t
  begun = begins_whole t (accepted s b (receive t) z).writable

-- ---- accepted texts have the shape

-- by the phase behind them
abbrev Shape : SessionPhase → List (List ℕ) → Type 0
Shape q ts = ((q ≡ Two) × ShapedOne ts) ⊎ ((q ≡ One) × FrontOne ts)

-- behind done no text is accepted
pub none_behind : (s : Session) (b : Buffers) (ts : List (List ℕ)) → s.phase ≡ Two → Accepted s b (map receive ts) → ts ≡ []
unfolding AllZero numbers
none_behind s b [] p a = refl
none_behind s b (t ∷ ts) p a = let q = (accepted s b (receive t) a.0).applied.turn in let z : ◌≡◌ {A = ℕ} 0 1 = cc in absurd (omega arith)

one_text : (t : List ℕ) → BeginsWhole t → is_done t ≡ true → ShapedOne (t ∷ [])
unfolding All
one_text t w d = record { ahead = []; last = t; texts = refl; whole = (w, tt); done_once = tt; done_last = d }

shape_more : (q : SessionPhase) (t : List ℕ) (ts : List (List ℕ)) → BeginsWhole t → is_done t ≡ false → Shape q ts → Shape q (t ∷ ts)
unfolding All
shape_more q t ts w d (inl h) =
    inl (h.0, record { ahead = t ∷ h.1.ahead; last = h.1.last; texts = ap (λ l. t ∷ l) h.1.texts; whole = (w, h.1.whole); done_once = (d, h.1.done_once); done_last = h.1.done_last })
shape_more q t ts w d (inr h) = inr (h.0, record { whole = (w, h.1.whole); none_done = (d, h.1.none_done) })

shape_of : (s : Session) (b : Buffers) (ts : List (List ℕ)) → s.phase ≡ One → Accepted s b (map receive ts) → Shape (after s b (map receive ts)).session.phase ts
unfolding All AllZero numbers after
shape_of s b [] p a = inr (p, record { whole = tt; none_done = tt })
shape_of s b (t ∷ ts) p a =
    let s' = (outcome s b (receive t)).session in
    let b' = (outcome s b (receive t)).buffers in
    let w = begun s b t a.0 in
    cases (is_done t)
    (λ d.
    let e = behind_done s b t a.0 d in
    let n = none_behind s' b' ts e a.1 in
    subst (λ ts. Shape (after s' b' (map receive ts)).session.phase (t ∷ ts)) (sym n) (inl (e, one_text t w d)))
    (λ d. shape_more _ t ts w d (shape_of s' b' ts (behind_other s b t a.0 d) a.1))

-- one shape excludes the other
shape_front : (ts : List (List ℕ)) → ShapedOne ts → FrontOne ts → ⊥
unfolding All
shape_front ts h f = true≢false (sym h.done_last ∙ ((all_append (λ t. is_done t ≡ false) h.ahead (h.last ∷ [])).0 (subst (All (λ t. is_done t ≡ false)) h.texts f.none_done)).1.0)

-- ---- the first stanza of each text alone

abbrev firsts : List (List ℕ) → List (List ℕ)
firsts ts = map first_of_text ts

first_calls : (ts : List (List ℕ)) → map receive (firsts ts) ≡ map alone_call (map receive ts)
first_calls [] = refl
first_calls (t ∷ ts) = ap (λ cs. receive (first_of_text t) ∷ cs) (first_calls ts)

first_wholes : (ts : List (List ℕ)) → All BeginsWhole ts → All Whole (firsts ts)
first_wholes ts h = (all_map first_of_text Whole ts).1 (all_weaker first_whole ts h)

first_done : (t : List ℕ) → is_done (first_of_text t) ≡ is_done t
first_done t = ap (λ l. same (argument_of l 0) done_word) (first_line_same t)

-- the last of a list
lasts : {X : Type 0} (x : X) (xs : List X) → (ys : List X) × (y : X) × (x ∷ xs ≡ ys ++ (y ∷ []))
lasts x [] = ([], x, refl)
lasts x (z ∷ zs) = let v = lasts z zs in (x ∷ v.0, v.1, ap (λ l. x ∷ l) v.2)

-- what holds of each value holds of each value of equal ones
all_same : {X C : Type 0} (f : X → C) (r : C → Bool) (g : X → X) → ((x : X) → f (g x) ≡ f x) → (xs : List X) → All (λ x. r (f x) ≡ true) (map g xs) ↔ All (λ x. r (f x) ≡ true) xs
all_same f r g e xs = (
  λ a. all_weaker (λ x h. ap r (sym (e x)) ∙ h) xs ((all_map g (λ x. r (f x) ≡ true) xs).0 a),
  λ a. (all_map g (λ x. r (f x) ≡ true) xs).1 (all_weaker (λ x h. ap r (e x) ∙ h) xs a),
)

module _ (machine : Machine) (name : List ℕ) where
  first_command : (t : List ℕ) → command_of machine name (first_of_text t) ≡ command_of machine name t
  first_command t = ap₂ (one.command_in machine name) (first_line_same t) (first_body t)

  first_rows : (k : KindOne) (ts : List (List ℕ)) → rows_in machine name k (firsts ts) ≡ rows_in machine name k ts
  unfolding rows_in
  first_rows k [] = refl
  first_rows k (t ∷ ts) =
      ap₂ (λ a b. a ++ b) (ap₂ (λ l y. one_kind.rows_of (one.command_in machine name l y) k (one.payload_in machine name l y)) (first_line_same t) (first_body t)) (first_rows k ts)

  first_right : (ts : List (List ℕ)) → All (λ t. is_right (command_of machine name t) ≡ true) (firsts ts) ↔ All (λ t. is_right (command_of machine name t) ≡ true) ts
  first_right = all_same (command_of machine name) is_right first_of_text first_command

  module _ (b : one.BuffersOne) (ts : List (List ℕ)) where
    allowed_first : Allowed machine name b (firsts ts) → Allowed machine name b ts
    allowed_first a = record {
      right = (first_right ts).0 a.right;
      slots = λ k. subst (λ r. length r ≤ slots_of k) (first_rows k ts) (a.slots k);
      bytes = λ k. subst (λ r. bytes_of r ≤ length (one_kind.buffer_of k b)) (first_rows k ts) (a.bytes k);
      rising = subst Rising (first_rows headers ts) a.rising;
      distinct = subst Distinct (first_rows recipients ts) a.distinct;
    }

    first_allowed : Allowed machine name b ts → Allowed machine name b (firsts ts)
    first_allowed a = record {
      right = (first_right ts).1 a.right;
      slots = λ k. subst (λ r. length r ≤ slots_of k) (sym (first_rows k ts)) (a.slots k);
      bytes = λ k. subst (λ r. bytes_of r ≤ length (one_kind.buffer_of k b)) (sym (first_rows k ts)) (a.bytes k);
      rising = subst Rising (sym (first_rows headers ts)) a.rising;
      distinct = subst Distinct (sym (first_rows recipients ts)) a.distinct;
    }

  -- ---- from an opening

  module _ (screen : Bool) (b : Buffers) where
    abbrev start : Session
    start = opened_session machine name screen

    -- texts of which only the last may be done
    last_iff : (xs : List (List ℕ)) (y : List ℕ) → All BeginsWhole (xs ++ (y ∷ [])) → All (λ t. is_done t ≡ false) xs →
        Accepted start b (map receive (xs ++ (y ∷ []))) ↔ Allowed machine name b.first (xs ++ (y ∷ []))
    last_iff xs y w d =
        let ts = xs ++ (y ∷ []) in
        let e : firsts ts ≡ firsts xs ++ (first_of_text y ∷ []) = map-append first_of_text xs (y ∷ []) in
        let n : numbers start b (map receive (firsts xs ++ (first_of_text y ∷ []))) ≡ numbers start b (map receive ts) =
        ap (λ l. numbers start b (map receive l)) (sym e) ∙ ap (numbers start b) (first_calls ts) ∙ same_numbers start b (map receive ts) in
        let i = texts_iff machine name screen b (firsts xs) (first_of_text y) (subst (All Whole) e (first_wholes ts w)) ((all_map first_of_text (λ t. is_done t ≡ false) xs).1 (all_weaker (λ t h. first_done t ∙ h) xs d)) in (
          λ a. allowed_first b.first ts (subst (Allowed machine name b.first) (sym e) (i.0 (subst AllZero (sym n) a))),
          λ h. subst AllZero n (i.1 (subst (Allowed machine name b.first) e (first_allowed b.first ts h))),
        )

    none_allowed : Allowed machine name b.first []
    unfolding All rows_in bytes_of Rising Distinct
    none_allowed = record { right = tt; slots = λ k. omega arith; bytes = λ k. omega arith; rising = tt; distinct = tt }

    -- texts of which none is done
    front_iff : (ts : List (List ℕ)) → FrontOne ts → Accepted start b (map receive ts) ↔ Allowed machine name b.first ts
    front_iff [] f = (λ a. none_allowed, λ h. unfold AllZero in unfold numbers in tt)
    front_iff (t ∷ ts) f =
        let v = lasts t ts in
        let e = v.2 in
        subst (λ l. Accepted start b (map receive l) ↔ Allowed machine name b.first l) (sym e)
        (last_iff v.0 v.1 (subst (All BeginsWhole) e f.whole) ((all_append (λ t. is_done t ≡ false) v.0 (v.1 ∷ [])).0 (subst (All (λ t. is_done t ≡ false)) e f.none_done)).0)

    shaped_iff : (ts : List (List ℕ)) → ShapedOne ts → Accepted start b (map receive ts) ↔ Allowed machine name b.first ts
    shaped_iff ts h =
        subst (λ l. Accepted start b (map receive l) ↔ Allowed machine name b.first l) (sym h.texts) (last_iff h.ahead h.last (subst (All BeginsWhole) h.texts h.whole) h.done_once)

    module _ (ts : List (List ℕ)) where
      -- accepted to the end of the phase
      pub shaped_one_iff : AcceptedTo Two start b (map receive ts) ↔ (ShapedOne ts × Allowed machine name b.first ts)
      shaped_one_iff = (
        λ a. ⊎_elim (λ h. (h.1, (shaped_iff ts h.1).0 a.0)) (λ h. let p = a.1 in let q = h.0 in let z : ◌≡◌ {A = ℕ} 0 1 = cc in absurd (omega arith)) (shape_of start b ts refl a.0),
        λ h. let a = (shaped_iff ts h.0).1 h.1 in (a, ⊎_elim (λ q. q.0) (λ q. absurd (shape_front ts h.0 q.1)) (shape_of start b ts refl a)),
      )

      -- accepted, and the phase has not ended: it is still phase one
      pub front_one_iff : (q : SessionPhase) → (q ≡ Two → ⊥) → AcceptedTo q start b (map receive ts) ↔ ((q ≡ One) × FrontOne ts × Allowed machine name b.first ts)
      front_one_iff q n = (
        λ a. ⊎_elim (λ h. absurd (n (sym a.1 ∙ h.0))) (λ h. (sym a.1 ∙ h.0, h.1, (front_iff ts h.1).0 a.0)) (shape_of start b ts refl a.0),
        λ h. let a = (front_iff ts h.1).1 h.2 in (a, ⊎_elim (λ q. absurd (shape_front ts q.1 h.1)) (λ q. q.0 ∙ sym h.0) (shape_of start b ts refl a)),
      )
