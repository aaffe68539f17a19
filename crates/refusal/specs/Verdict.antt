-- What is decided of a call, and the first of several faults (document 01, "Numbers given back": "Several at once").
use Rattle.std.specs.Prelude.{ℕ, eqb, Result, Ok, Err}
use Rattle.refusal.specs.Number.{number_of}
use Rattle.refusal.specs.Pick.{pick}
use Rattle.refusal.specs.declared.Refusal.{Refusal}

-- the number of a verdict, 0 where nothing is refused
abbrev pub verdict_said : Result Unit Refusal → ℕ
verdict_said (Ok u) = 0
verdict_said (Err r) = number_of r

-- the first fault: n, or else the late one
abbrev pub first_of : ℕ → ℕ → ℕ
first_of n late = pick (eqb n 0) late n
