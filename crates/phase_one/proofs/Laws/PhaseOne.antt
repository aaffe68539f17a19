-- Phase one's decision, by the tests of the code.
use Prim.Native.Nat.{ℕ, ◌-◌, ◌<◌, ◌≤◌}
use mathlib.Core.Path.{◌≡◌, refl, sym, ap, ◌∙◌}
use mathlib.Core.Bool.{Bool, true, false}
use mathlib.Core.List.{List, ◌∷◌, ◌++◌}
use lib.Dec.{ltb, eqb}
use lib.ListN.{length, get_or}
use native.Mathlib.Omega.{arith}
use borrow.Author.Tests.{lt-ltb, le-ltb, le-leb, eq-eqb}
use Rattle.stanza.specs.Arguments.{argument_of}
use Rattle.tables.specs.Repeats.{repeats}
use Rattle.tables.specs.Tables.{Table, empty, storing, entered, kept}
use Rattle.refusal.specs.Pick.{pick}
use Rattle.refusal.proofs.Laws.Pick.{pick_in}
use Rattle.phase_one.specs.Commands.{CommandOne, recipient, identity, key, header, done, other, bad, rest_of, payload_of}
use Rattle.session.specs.declared.opening.Machine.{Machine}
use Rattle.session.specs.Tables.{Tables}
use Rattle.phase_one.specs.PhaseOne.{BuffersOne, buffers_of, falls, decided, applied, filled_by, command_in, payload_in, number_one, tables_one, buffers_one}
use Rattle.refusal.specs.Verdict.{first_of}

-- a choice between the same
same_either : {X : Type 0} (b : Bool) (x : X) → x ≡ pick b x x
same_either true x = refl
same_either false x = refl

-- No. 7 and No. 20 come before a fault that is looked for last
late_falling : (b : Bool) (n z : ℕ) → pick b 7 (first_of n z) ≡ first_of (pick b 7 n) z
late_falling true n z = refl
late_falling false n z = refl

late_repeated : (b : Bool) (n z : ℕ) → pick b 20 (first_of n z) ≡ first_of (pick b 20 n) z
late_repeated true n z = refl
late_repeated false n z = refl

module _ (t : Table) (index : ℕ) where
  pub falls_none : t.count ≡ 0 → false ≡ falls t index
  falls_none h = rw (le-ltb 0 t.count (omega arith))

  pub falls_is : 0 < t.count → t.count ≤ t.width → ltb index (get_or t.slots (t.count - 1) empty).index ≡ falls t index
  falls_is h g = rw (lt-ltb 0 t.count h, le-leb t.count t.width g)

-- ---- one command, by what it was parsed as and what storing it came to

module _ (m : Machine) (g : List ℕ) (t : Tables) (b : BuffersOne) (z : ℕ) (l y : List ℕ) where
  -- what a step comes to
  abbrev pub Stepped : ℕ → Tables → BuffersOne → Type 0
  Stepped v t' b' = (v ≡ number_one m g t b z l y) × ((t' ≡ tables_one m g t b z l y) × (b' ≡ buffers_one m g t b z l y))

  pub stepped : (x : CommandOne) (v : ℕ) (t' : Tables) (b' : BuffersOne) → x ≡ command_in m g l y → v ≡ first_of (decided t b x (payload_of x l y)) z →
      t' ≡ pick (eqb v 0) (applied t b x (payload_of x l y)) t → b' ≡ pick (eqb v 0) (filled_by t b x (payload_of x l y)) b → Stepped v t' b'
  stepped x v t' b' e q u w = (
    q ∙ ap (λ x. first_of (decided t b x (payload_of x l y)) z) e,
    (
      u ∙ ap (λ v. pick (eqb v 0) (applied t b x (payload_of x l y)) t) q ∙ ap (λ x. pick (eqb (first_of (decided t b x (payload_of x l y)) z) 0) (applied t b x (payload_of x l y)) t) e,
      w ∙ ap (λ v. pick (eqb v 0) (filled_by t b x (payload_of x l y)) b) q ∙ ap (λ x. pick (eqb (first_of (decided t b x (payload_of x l y)) z) 0) (filled_by t b x (payload_of x l y)) b) e,
    ),
  )

  -- a fault that nothing comes before, and a command that is not kept
  pub step_bad : (n : ℕ) → bad n ≡ command_in m g l y → eqb n 0 ≡ false → Stepped n t b
  step_bad n e f = stepped (bad n) n t b e (rw f) (same_either (eqb n 0) t) (same_either (eqb n 0) b)

  pub step_done : done ≡ command_in m g l y → Stepped z t b
  step_done e = stepped done z t b e refl (same_either (eqb z 0) t) (same_either (eqb z 0) b)

  pub step_other : other ≡ command_in m g l y → Stepped z t b
  step_other e = stepped other z t b e refl (same_either (eqb z 0) t) (same_either (eqb z 0) b)

  -- an entry of each kind
  pub step_recipient : (k v : ℕ) (r : Table) (p : List ℕ) → recipient k ≡ command_in m g l y →
      v ≡ pick (repeats t.recipients b.recipients (argument_of l 1)) 20 (storing t.recipients (length (argument_of l 1)) (length b.recipients) z) →
      r ≡ pick (eqb v 0) (entered t.recipients (length (argument_of l 1)) 0 k (length b.recipients)) t.recipients → p ≡ pick (eqb v 0) (kept t.recipients (argument_of l 1) b.recipients) b.recipients →
      Stepped v (record { recipients = r; identities = t.identities; keys = t.keys; headers = t.headers; errors = t.errors; stanzas = t.stanzas; returned = t.returned }) (buffers_of p b.identities b.keys b.headers)
  step_recipient k v r p e q u w =
      let f : Table → Tables = λ x. record { recipients = x; identities = t.identities; keys = t.keys; headers = t.headers; errors = t.errors; stanzas = t.stanzas; returned = t.returned } in
      let h : List ℕ → BuffersOne = λ x. buffers_of x b.identities b.keys b.headers in
      stepped (recipient k) v _ _ e (q ∙ late_repeated (repeats t.recipients b.recipients (argument_of l 1)) _ z) (ap f u ∙ pick_in (eqb v 0) f _ _) (ap h w ∙ pick_in (eqb v 0) h _ _)

  pub step_identity : (k v : ℕ) (r : Table) (p : List ℕ) → identity k ≡ command_in m g l y → v ≡ storing t.identities (length (argument_of l 1)) (length b.identities) z →
      r ≡ pick (eqb v 0) (entered t.identities (length (argument_of l 1)) 0 k (length b.identities)) t.identities → p ≡ pick (eqb v 0) (kept t.identities (argument_of l 1) b.identities) b.identities →
      Stepped v (record { recipients = t.recipients; identities = r; keys = t.keys; headers = t.headers; errors = t.errors; stanzas = t.stanzas; returned = t.returned }) (buffers_of b.recipients p b.keys b.headers)
  step_identity k v r p e q u w =
      let f : Table → Tables = λ x. record { recipients = t.recipients; identities = x; keys = t.keys; headers = t.headers; errors = t.errors; stanzas = t.stanzas; returned = t.returned } in
      let h : List ℕ → BuffersOne = λ x. buffers_of b.recipients x b.keys b.headers in
      stepped (identity k) v _ _ e q (ap f u ∙ pick_in (eqb v 0) f _ _) (ap h w ∙ pick_in (eqb v 0) h _ _)

  pub step_key : (v : ℕ) (r : Table) (p : List ℕ) → key ≡ command_in m g l y → v ≡ storing t.keys (length y) (length b.keys) z →
      r ≡ pick (eqb v 0) (entered t.keys (length y) 0 0 (length b.keys)) t.keys → p ≡ pick (eqb v 0) (kept t.keys y b.keys) b.keys →
      Stepped v (record { recipients = t.recipients; identities = t.identities; keys = r; headers = t.headers; errors = t.errors; stanzas = t.stanzas; returned = t.returned }) (buffers_of b.recipients b.identities p b.headers)
  step_key v r p e q u w =
      let f : Table → Tables = λ x. record { recipients = t.recipients; identities = t.identities; keys = x; headers = t.headers; errors = t.errors; stanzas = t.stanzas; returned = t.returned } in
      let h : List ℕ → BuffersOne = λ x. buffers_of b.recipients b.identities x b.headers in
      stepped key v _ _ e q (ap f u ∙ pick_in (eqb v 0) f _ _) (ap h w ∙ pick_in (eqb v 0) h _ _)

  pub step_header : (i k v : ℕ) (r : Table) (p : List ℕ) → header i k ≡ command_in m g l y → v ≡ pick (falls t.headers i) 7 (storing t.headers (length (rest_of l ++ 10 ∷ y)) (length b.headers) z) →
      r ≡ pick (eqb v 0) (entered t.headers (length (rest_of l ++ 10 ∷ y)) i k (length b.headers)) t.headers → p ≡ pick (eqb v 0) (kept t.headers (rest_of l ++ 10 ∷ y) b.headers) b.headers →
      Stepped v (record { recipients = t.recipients; identities = t.identities; keys = t.keys; headers = r; errors = t.errors; stanzas = t.stanzas; returned = t.returned }) (buffers_of b.recipients b.identities b.keys p)
  step_header i k v r p e q u w =
      let f : Table → Tables = λ x. record { recipients = t.recipients; identities = t.identities; keys = t.keys; headers = x; errors = t.errors; stanzas = t.stanzas; returned = t.returned } in
      let h : List ℕ → BuffersOne = λ x. buffers_of b.recipients b.identities b.keys x in
      stepped (header i k) v _ _ e (q ∙ late_falling (falls t.headers i) _ z) (ap f u ∙ pick_in (eqb v 0) f _ _) (ap h w ∙ pick_in (eqb v 0) h _ _)

-- ---- an accepted command
module _ (m : Machine) (g : List ℕ) (t : Tables) (b : BuffersOne) (z : ℕ) (l y : List ℕ) where
  pub accepted_one : (x : CommandOne) → x ≡ command_in m g l y → number_one m g t b z l y ≡ 0 →
      (applied t b x (payload_of x l y) ≡ tables_one m g t b z l y) × (filled_by t b x (payload_of x l y) ≡ buffers_one m g t b z l y)
  accepted_one x e q =
      let f0 : eqb (number_one m g t b z l y) 0 ≡ true = eq-eqb (number_one m g t b z l y) 0 q in (
        ap (λ w. applied t b w (payload_of w l y)) e ∙ sym (ap (λ c. pick c (applied t b (command_in m g l y) (payload_in m g l y)) t) f0),
        ap (λ w. filled_by t b w (payload_of w l y)) e ∙ sym (ap (λ c. pick c (filled_by t b (command_in m g l y) (payload_in m g l y)) b) f0),
      )

-- the four buffers, one by one
pub buffers_are : (r i k h : List ℕ) (b : BuffersOne) → (r ≡ b.recipients) × ((i ≡ b.identities) × ((k ≡ b.keys) × (h ≡ b.headers))) → buffers_of r i k h ≡ b
buffers_are r i k h b e = rw (e.0, e.1.0, e.1.1.0, e.1.1.1)
