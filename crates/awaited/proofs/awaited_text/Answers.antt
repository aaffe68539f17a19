-- A command waits in one of the five phases.
use Prim.Native.Nat.{ℕ, min}
use mathlib.Core.Path.{◌≡◌, refl, ap, ◌∙◌}
use mathlib.Core.List.{List}
use lib.ListN.{take}
use Rattle.session.specs.declared.phases.Phase.{Phase}
use Rattle.session.specs.declared.phases.Phase.TheVariants.{One, Two, Awaiting, Ended, Closed}
use Rattle.chunks.specs.Taking.{client, awaited_behind}
use Rattle.chunks.specs.Uncut.{is_waiting}
use Rattle.refusal.specs.Pick.{pick}
use Rattle.awaited.proofs.Laws.Awaited.{front_within}
use Rattle.awaited.proofs.awaited_text.Goals as goal

waits_in : (p : Phase) (n : ℕ) (x : List ℕ) → awaited_behind client p (take n (take 8192 x)) ≡ take (pick (is_waiting client p) (min n 8192) 0) x
waits_in One n x = refl
waits_in Two n x = refl
waits_in (Awaiting w) n x = front_within n x
waits_in Ended n x = refl
waits_in Closed n x = refl

pub returns : goal.returns
returns c = let a = c.args in
    c.awaited_in.ensures ∙ ap (awaited_behind client a.session.phase) (c.front.ensures ∙ ap (take a.session.awaited) c.front-kept.ensures)
    ∙ waits_in a.session.phase a.session.awaited a.input.now
