-- What is entered of a command without its payload: it goes by lengths alone. Nobody has to believe this: it is what a step comes to.
use Rattle.std.specs.Prelude.{ℕ, ◌≡◌, List, eqb, length}
use Rattle.refusal.specs.Pick.{pick}
use Rattle.session.specs.Tables.{Tables}
use Rattle.conversation.specs.CommandsTwo.{CommandTwo}
use Rattle.conversation.specs.PhaseTwo.{BuffersTwo, applied}
use Rattle.phase_two.specs.Steps.{number_stepped}

-- buffers of these lengths
pub record AreLong (b : BuffersTwo) (e s r : ℕ) : Type 0 where
  pub errors : length b.errors ≡ e
  pub stanzas : length b.stanzas ≡ s
  pub returned : length b.returned ≡ r

-- the number v and the tables t' of a step: of what is ruled, the tables t, the buffers b, the command c, its payload p and a late fault
pub record Entered (ruled : ℕ) (t : Tables) (b : BuffersTwo) (c : CommandTwo) (p : List ℕ) (late v : ℕ) (t' : Tables) : Type 0 where
  pub number : v ≡ number_stepped ruled t b c p late
  pub tables : t' ≡ pick (eqb (number_stepped ruled t b c p late) 0) (applied t b c p) t
