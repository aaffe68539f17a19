-- What is shown of the stanza that waits.
use Prim.Native.Nat.{ℕ, min}
use mathlib.Core.Path.{◌≡◌, refl, sym, ap, ◌∙◌}
use mathlib.Core.List.{List, []}
use lib.ListN.{length, take, length-take}
use lib.Seq.{take-take, take_all}
use native.Mathlib.Decide.{dec_le}
use native.Mathlib.Omega.{arith}
use borrow.Author.Tests.{le-ltb}
use Rattle.refusal.specs.Output.{bytes, answered, filled}

-- the first n of at most 8,192
pub front_within : (n : ℕ) (x : List ℕ) → take n (take 8192 x) ≡ take (min n 8192) x
front_within n x =
    elim (dec_le n 8192) [
      | yes h ↦ (let m : min n 8192 ≡ n = omega arith in take-take n 8192 x h ∙ ap (λ k. take k x) (sym m))
      | no h ↦ (let m : min n 8192 ≡ 8192 = omega arith in take_all n (take 8192 x) (omega (arith, length-take 8192 x)) ∙ ap (λ k. take k x) (sym m))
    ]

-- nothing to write
pub nothing_written : (o : List ℕ) → (bytes 0 ≡ answered [] o) × (o ≡ filled [] o)
nothing_written o = rw (le-ltb (length o) 0 (omega arith)) (refl, refl)
