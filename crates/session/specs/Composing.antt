-- A line put into a store, and how long its stanza is. Nobody has to believe this: each caller shows that its store is long enough.
use Rattle.std.specs.Prelude.{ℕ, List, take, Result, Ok, Err}
use Rattle.refusal.specs.Number.{number_of}
use Rattle.refusal.specs.Output.{Answer, bytes, refused}
use Rattle.stanza.specs.Writing.{sized}
use Rattle.refusal.specs.declared.Refusal.{Refusal}
use Rattle.session.specs.declared.output.Composed.{Composed as CodeComposed}

-- how many bytes the line has, and how many the stanza; or the number
pub data Composed : Type 0 where
  composed : ℕ → ℕ → Composed
  unwritten : ℕ → Composed

-- the code's answer
abbrev pub composed_said : Result CodeComposed Refusal → Composed
composed_said (Ok c) = composed c.line c.stanza
composed_said (Err r) = unwritten (number_of r)

-- a line of n bytes, by the size of its stanza
abbrev pub sized_as : ℕ → Answer → Composed
sized_as n (bytes k) = composed n k
sized_as n (refused r) = unwritten r

-- by what putting it into the store came to
abbrev pub composed_by : Answer → List ℕ → List ℕ → Composed
composed_by (bytes n) store body = sized_as n (sized (take n store) body)
composed_by (refused r) store body = unwritten 17
