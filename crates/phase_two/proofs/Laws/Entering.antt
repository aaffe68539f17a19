-- A command entered without its payload: what the table says of lengths is what a step comes to, for all buffers and payloads of these lengths.
use Prim.Native.Nat.{ℕ}
use mathlib.Core.Path.{◌≡◌, refl}
use mathlib.Core.Bool.{false}
use mathlib.Core.List.{List}
use lib.Dec.{eqb}
use lib.ListN.{length}
use Rattle.refusal.specs.Pick.{pick}
use Rattle.tables.specs.Tables.{Table, storing, entered}
use Rattle.session.specs.Tables.{Tables}
use Rattle.conversation.specs.CommandsTwo.{Named, CommandTwo, stanza, key, error}
use Rattle.conversation.specs.PhaseTwo.{BuffersTwo, applied, filled_by, mark_of, index_of}
use Rattle.phase_two.specs.Steps.{number_stepped}
use Rattle.phase_two.specs.Entering.{AreLong, Entered}
use Rattle.phase_two.proofs.Laws.Steps.{Stepped, step_ruled, step_none, step_stanza, step_key, step_error}

-- what storing n bytes in a buffer of m came to, for a payload and a buffer of these lengths
abbrev StoredAs : Table → ℕ → ℕ → ℕ → ℕ → ℕ → ℕ → Table → Type 0
StoredAs t n m late index mark v r = (v ≡ storing t n m late) × (r ≡ pick (eqb v 0) (entered t n index mark m) t)

stored_as : (t : Table) (n m k l late index mark v : ℕ) (r : Table) → k ≡ n → l ≡ m → v ≡ storing t n m late → r ≡ pick (eqb (storing t n m late) 0) (entered t n index mark m) t →
    StoredAs t k l late index mark v r
stored_as t n m k l late index mark v r e g q u = rw (e, g, q) (refl, u)

module _ (t : Tables) (b : BuffersTwo) (p : List ℕ) (late : ℕ) where
  entered_as : (n : ℕ) (c : CommandTwo) (v : ℕ) (t' : Tables) (b' : BuffersTwo) → Stepped t b p late n c v t' b' → Entered n t b c p late v t'
  entered_as n c v t' b' s = record { number = s.0; tables = s.1.0 }

  -- ruled out: nothing changes
  pub enter_ruled : (n : ℕ) (c : CommandTwo) → eqb n 0 ≡ false → Entered n t b c p late n t
  enter_ruled n c f = entered_as n c n t b (step_ruled t b p late n c f)

  -- a command that makes no entry, whatever is late
  pub enter_none : (c : CommandTwo) → late ≡ number_stepped 0 t b c p late → applied t b c p ≡ t → filled_by t b c p ≡ b → Entered 0 t b c p late late t
  enter_none c e u w = entered_as 0 c late t b (step_none t b p late c e u w)

  module _ (e s k n : ℕ) (a : AreLong b e s k) (g : length p ≡ n) where
    -- a command that makes an entry, of each kind
    pub enter_stanza : (f v : ℕ) (r : Table) → v ≡ storing t.stanzas n s late → r ≡ pick (eqb (storing t.stanzas n s late) 0) (entered t.stanzas n f 0 s) t.stanzas →
        Entered 0 t b (stanza f) p late v (record { recipients = t.recipients; identities = t.identities; keys = t.keys; headers = t.headers; errors = t.errors; stanzas = r; returned = t.returned })
    enter_stanza f v r q u =
        let z = stored_as t.stanzas n s (length p) (length b.stanzas) late f 0 v r g a.stanzas q u in
        entered_as 0 (stanza f) v _ _ (step_stanza t b p late f v r _ z.0 z.1 refl)

    pub enter_key : (f v : ℕ) (r : Table) → v ≡ storing t.returned n k late → r ≡ pick (eqb (storing t.returned n k late) 0) (entered t.returned n f 0 k) t.returned →
        Entered 0 t b (key f) p late v (record { recipients = t.recipients; identities = t.identities; keys = t.keys; headers = t.headers; errors = t.errors; stanzas = t.stanzas; returned = r })
    enter_key f v r q u =
        let z = stored_as t.returned n k (length p) (length b.returned) late f 0 v r g a.returned q u in
        entered_as 0 (key f) v _ _ (step_key t b p late f v r _ z.0 z.1 refl)

    pub enter_error : (d : Named) (v : ℕ) (r : Table) → v ≡ storing t.errors n e late → r ≡ pick (eqb (storing t.errors n e late) 0) (entered t.errors n (index_of d) (mark_of d) e) t.errors →
        Entered 0 t b (error d) p late v (record { recipients = t.recipients; identities = t.identities; keys = t.keys; headers = t.headers; errors = r; stanzas = t.stanzas; returned = t.returned })
    enter_error d v r q u =
        let z = stored_as t.errors n e (length p) (length b.errors) late (index_of d) (mark_of d) v r g a.errors q u in
        entered_as 0 (error d) v _ _ (step_error t b p late d v r _ z.0 z.1 refl)
