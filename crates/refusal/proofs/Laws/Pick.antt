-- A choice: by its test.
use mathlib.Core.Path.{◌≡◌, refl}
use mathlib.Core.Bool.{Bool, true, false}
use Rattle.refusal.specs.Pick.{pick}

-- a function of a choice is a choice of its values
pub pick_in : {X Y : Type 0} (b : Bool) (f : X → Y) (x y : X) → f (pick b x y) ≡ pick b (f x) (f y)
pick_in true f x y = refl
pick_in false f x y = refl

-- a choice between equals
pub pick_same : {X : Type 0} (b : Bool) (x : X) → pick b x x ≡ x
pick_same true x = refl
pick_same false x = refl
