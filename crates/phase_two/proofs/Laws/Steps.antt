-- A step of phase two: what storing came to is the decision's 8 and the late fault; one entry of its kind more where neither refuses it.
use Prim.Native.Nat.{ℕ}
use mathlib.Core.Path.{◌≡◌, refl, sym, ap, ◌∙◌}
use mathlib.Core.Bool.{Bool, true, false, not}
use mathlib.Core.List.{List}
use lib.Dec.{eqb}
use lib.ListN.{length}
use Rattle.refusal.specs.Pick.{pick}
use Rattle.refusal.proofs.Laws.Pick.{pick_in}
use Rattle.refusal.specs.Verdict.{first_of}
use Rattle.tables.specs.Tables.{Table, fits, storing, entered, kept}
use Rattle.session.specs.Tables.{Tables}
use Rattle.conversation.specs.CommandsTwo.{Named, CommandTwo, stanza, key, error}
use Rattle.conversation.specs.PhaseTwo.{BuffersTwo, buffers_of, when, applied, filled_by, mark_of, index_of}
use Rattle.phase_two.specs.Steps.{number_stepped}

space_as : (f : Bool) (late : ℕ) → first_of (pick f 0 8) late ≡ first_of (first_of 0 (when (not f) 8)) late
space_as true late = refl
space_as false late = refl

module _ (t : Tables) (b : BuffersTwo) (p : List ℕ) (late : ℕ) where
  -- what a command with the payload p comes to: its number, the tables and the buffers, where the tables rule n of it
  abbrev pub Stepped : ℕ → CommandTwo → ℕ → Tables → BuffersTwo → Type 0
  Stepped n c v t' b' =
      (v ≡ number_stepped n t b c p late)
      × ((t' ≡ pick (eqb (number_stepped n t b c p late) 0) (applied t b c p) t) × (b' ≡ pick (eqb (number_stepped n t b c p late) 0) (filled_by t b c p) b))

  -- ruled out: nothing changes
  pub step_ruled : (n : ℕ) (c : CommandTwo) → eqb n 0 ≡ false → Stepped n c n t b
  step_ruled n c f = rw (f, f, f) (refl, (refl, refl))

  -- a command that makes no entry, whatever is late
  pub step_none : (c : CommandTwo) → late ≡ number_stepped 0 t b c p late → applied t b c p ≡ t → filled_by t b c p ≡ b → Stepped 0 c late t b
  step_none c e u w = (e, (same (eqb (number_stepped 0 t b c p late) 0) u, same (eqb (number_stepped 0 t b c p late) 0) w))
    where
      same : {X : Type 0} {x y : X} (f : Bool) → x ≡ y → y ≡ pick f x y
      same true q = sym q
      same false q = refl

  -- a command that makes an entry, of each kind
  pub step_stanza : (f : ℕ) (v : ℕ) (r : Table) (d : List ℕ) → v ≡ storing t.stanzas (length p) (length b.stanzas) late →
      r ≡ pick (eqb v 0) (entered t.stanzas (length p) f 0 (length b.stanzas)) t.stanzas → d ≡ pick (eqb v 0) (kept t.stanzas p b.stanzas) b.stanzas →
      Stepped 0 (stanza f) v (record { recipients = t.recipients; identities = t.identities; keys = t.keys; headers = t.headers; errors = t.errors; stanzas = r; returned = t.returned }) (buffers_of b.errors d b.returned)
  step_stanza f v r d q u w =
      let n = q ∙ space_as (fits t.stanzas (length p) (length b.stanzas)) late in
      let g : Table → Tables = λ x. record { recipients = t.recipients; identities = t.identities; keys = t.keys; headers = t.headers; errors = t.errors; stanzas = x; returned = t.returned } in
      let h : List ℕ → BuffersTwo = λ x. buffers_of b.errors x b.returned in
      (n, (ap g u ∙ pick_in (eqb v 0) g _ _ ∙ ap (λ n. pick (eqb n 0) (applied t b (stanza f) p) t) n, ap h w ∙ pick_in (eqb v 0) h _ _ ∙ ap (λ n. pick (eqb n 0) (filled_by t b (stanza f) p) b) n))

  pub step_key : (f : ℕ) (v : ℕ) (r : Table) (d : List ℕ) → v ≡ storing t.returned (length p) (length b.returned) late →
      r ≡ pick (eqb v 0) (entered t.returned (length p) f 0 (length b.returned)) t.returned → d ≡ pick (eqb v 0) (kept t.returned p b.returned) b.returned →
      Stepped 0 (key f) v (record { recipients = t.recipients; identities = t.identities; keys = t.keys; headers = t.headers; errors = t.errors; stanzas = t.stanzas; returned = r }) (buffers_of b.errors b.stanzas d)
  step_key f v r d q u w =
      let n = q ∙ space_as (fits t.returned (length p) (length b.returned)) late in
      let g : Table → Tables = λ x. record { recipients = t.recipients; identities = t.identities; keys = t.keys; headers = t.headers; errors = t.errors; stanzas = t.stanzas; returned = x } in
      let h : List ℕ → BuffersTwo = λ x. buffers_of b.errors b.stanzas x in
      (n, (ap g u ∙ pick_in (eqb v 0) g _ _ ∙ ap (λ n. pick (eqb n 0) (applied t b (key f) p) t) n, ap h w ∙ pick_in (eqb v 0) h _ _ ∙ ap (λ n. pick (eqb n 0) (filled_by t b (key f) p) b) n))

  pub step_error : (e : Named) (v : ℕ) (r : Table) (d : List ℕ) → v ≡ storing t.errors (length p) (length b.errors) late →
      r ≡ pick (eqb v 0) (entered t.errors (length p) (index_of e) (mark_of e) (length b.errors)) t.errors → d ≡ pick (eqb v 0) (kept t.errors p b.errors) b.errors →
      Stepped 0 (error e) v (record { recipients = t.recipients; identities = t.identities; keys = t.keys; headers = t.headers; errors = r; stanzas = t.stanzas; returned = t.returned }) (buffers_of d b.stanzas b.returned)
  step_error e v r d q u w =
      let n = q ∙ space_as (fits t.errors (length p) (length b.errors)) late in
      let g : Table → Tables = λ x. record { recipients = t.recipients; identities = t.identities; keys = t.keys; headers = t.headers; errors = x; stanzas = t.stanzas; returned = t.returned } in
      let h : List ℕ → BuffersTwo = λ x. buffers_of x b.stanzas b.returned in
      (n, (ap g u ∙ pick_in (eqb v 0) g _ _ ∙ ap (λ n. pick (eqb n 0) (applied t b (error e) p) t) n, ap h w ∙ pick_in (eqb v 0) h _ _ ∙ ap (λ n. pick (eqb n 0) (filled_by t b (error e) p) b) n))
