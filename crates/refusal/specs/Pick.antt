-- The conditional of every definition: antt has none of its own.
use Rattle.std.specs.Prelude.{Bool, true, false}

-- x if the test holds, else y
abbrev pub pick : {X : Type 0} → Bool → X → X → X
pick true x y = x
pick false x y = y
