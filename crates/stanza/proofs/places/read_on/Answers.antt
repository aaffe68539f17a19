-- A turn is one byte on; behind the bytes looked at, either 8,192 have passed or there are no more.
use Prim.Native.Nat.{ℕ, ◌+◌, ◌-◌, ◌<◌, min}
use mathlib.Core.Path.{◌≡◌, sym, ap, ◌∙◌}
use mathlib.Core.List.{List}
use lib.ListN.{length, take, drop, get_or, length-take}
use native.Mathlib.Nat.{add-zero}
use native.Mathlib.Omega.{arith}
use Rattle.std.proofs.lemmas.List.{get_or-take}
use Rattle.stanza.specs.Automaton.{State, next}
use Rattle.stanza.specs.Resuming.{behind, continued, led}
use Rattle.stanza.proofs.Laws.Resuming.{goes_on, behind_none, behind_behind, continued_over, continued_end, continued_at}
use Rattle.stanza.proofs.places.read_on.Goals as goal

one : (s q : State) (kept n i : ℕ) (t : List ℕ) → n ≡ min (8192 - kept) (length t) → i < length (take n t) → q ≡ next s (get_or (take n t) i 0) →
    behind i (continued s (kept + i) (drop i t)) ≡ behind i (led q (continued q (kept + (i + 1)) (drop (i + 1) t)))
one s q kept n i t e h p =
    let l : i < n = omega (arith, length-take n t) in
    continued_at s q kept t i (omega arith) (omega arith) (p ∙ ap (next s) (get_or-take n t i 0 l))

pub loop-i-init : goal.loop-i-init
loop-i-init c = rw (add-zero, behind_none)

pub returns-in-Dead : goal.returns-in-Dead
unfolding led behind
returns-in-Dead c = sym (c.loop-i.invariant ∙ one _ _ c.args.kept c.min-n.result c.loop-i.i c.args.bytes.now (omega (arith, c.min-n.ensures, c.saturating_sub-left.ensures)) c.loop-i-test.true c.next_place-at.ensures ∙ rw c.in-Dead.is)

pub returns-in-Ended : goal.returns-in-Ended
unfolding led behind
returns-in-Ended c = sym (c.loop-i.invariant ∙ one _ _ c.args.kept c.min-n.result c.loop-i.i c.args.bytes.now (omega (arith, c.min-n.ensures, c.saturating_sub-left.ensures)) c.loop-i-test.true c.next_place-at.ensures ∙ rw c.in-Ended.is)

pub loop-i-preserved : goal.loop-i-preserved
loop-i-preserved c = c.loop-i.invariant ∙ one _ _ c.args.kept c.min-n.result c.loop-i.i c.args.bytes.now (omega (arith, c.min-n.ensures, c.saturating_sub-left.ensures)) c.loop-i-test.true c.next_place-at.ensures ∙ rw (goes_on c.next_place-at.result _ c.in_default.not-Dead c.in_default.not-Ended) (behind_behind c.loop-i.i 1 _)

pub returns-then-n-left : goal.returns-then-n-left
returns-then-n-left c = sym (c.loop-i.invariant ∙ continued_over _ _ _ _ (omega (arith, c.min-n.ensures, c.saturating_sub-left.ensures, length-take c.min-n.result c.args.bytes.now)))

pub returns : goal.returns
returns c = let l = length-take c.min-n.result c.args.bytes.now in
    sym (c.loop-i.invariant ∙ continued_end _ _ _ _ (omega (arith, c.min-n.ensures, c.saturating_sub-left.ensures, l)) (omega (arith, c.min-n.ensures, c.saturating_sub-left.ensures, l)))
