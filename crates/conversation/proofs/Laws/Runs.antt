-- Lists of calls put together: what holds of a list and of what stands behind it.
use mathlib.Core.Path.{◌≡◌, refl}
use mathlib.Core.Logic.{◌↔◌}
use mathlib.Core.List.{List, [], ◌∷◌, ◌++◌}
use Rattle.conversation.specs.Calls.{Call, outcome, after, numbers, AllZero, Accepted}
use Rattle.conversation.specs.Kinds.{Buffers}
use Rattle.conversation.specs.Phases.{LongEnough}
use Rattle.session.specs.Session.{Session}

pub after_append : (s : Session) (b : Buffers) (xs ys : List Call) → after s b (xs ++ ys) ≡ after (after s b xs).session (after s b xs).buffers ys
unfolding after
after_append s b [] ys = refl
after_append s b (c ∷ xs) ys = after_append (outcome s b c).session (outcome s b c).buffers xs ys

pub accepted_append : (s : Session) (b : Buffers) (xs ys : List Call) → Accepted s b (xs ++ ys) ↔ (Accepted s b xs × Accepted (after s b xs).session (after s b xs).buffers ys)
unfolding after AllZero numbers
accepted_append s b [] ys = (λ a. (tt, a), λ a. a.1)
accepted_append s b (c ∷ xs) ys =
    let i = accepted_append (outcome s b c).session (outcome s b c).buffers xs ys in
    (λ a. ((a.0, (i.0 a.1).0), (i.0 a.1).1), λ a. (a.0.0, i.1 (a.0.1, a.1)))

pub enough_append : (s : Session) (b : Buffers) (xs ys : List Call) → LongEnough s b (xs ++ ys) → LongEnough s b xs × LongEnough (after s b xs).session (after s b xs).buffers ys
unfolding after LongEnough
enough_append s b [] ys e = (tt, e)
enough_append s b (c ∷ xs) ys e = let i = enough_append (outcome s b c).session (outcome s b c).buffers xs ys e.1 in ((e.0, i.0), i.1)
