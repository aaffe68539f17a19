-- Invariant of both loops: the text is what is left and a back, and no "1" stands in the back.
use Prim.Native.Nat.{◌-◌}
use mathlib.Core.Path.{◌≡◌, refl, sym, ap, ap₂, ◌∙◌}
use mathlib.Core.List.{[], ◌∷◌, ◌++◌, append_assoc}
use lib.ListN.{length, take-append-drop}
use borrow.Author.Rules.{rules}
use borrow.Author.Tests.{ne_eqb}
use Rattle.refusal.specs.Run.{all}
use Rattle.refusal.proofs.Laws.Booleans.{true_and}
use Rattle.refusal.proofs.Laws.Run.{all_append}
use Rattle.bech32.specs.Text.{is_not_one, separator}
use Rattle.bech32.proofs.Laws.Parsing.{separator_none, empty_before}
use Rattle.bech32.proofs.Laws.Text.{separator_is}
use Rattle.bech32.proofs.parsing.find_separator.Goals as goal

pub loop-before-init : goal.loop-before-init
unfolding all
loop-before-init c = ([], search rules, refl)

pub loop-before-preserved : goal.loop-before-preserved
loop-before-preserved c = let front = c.loop-before.front.now in
    let before = c.in-Some.before.now in
    let eight = c.in-Some.eight.now in
    let inv = c.loop-before.invariant in
    let e = c.in-Some.ensures.cases in
    let parts : front ≡ before ++ eight = sym (ap₂ (λ x y. x ++ y) e.0 e.1 ∙ take-append-drop (length front - 8) front) in (
      eight ++ inv.0,
      inv.1 ∙ ap (λ x. x ++ inv.0) parts ∙ append_assoc before eight inv.0,
      all_append is_not_one eight inv.0 ∙ true_and (all is_not_one eight) (all is_not_one inv.0) (sym c.eight_without_one.ensures ∙ c.if-not-eight_without_one.false) inv.2,
    )

pub returns-then-last-eq49 : goal.returns-then-last-eq49
returns-then-last-eq49 c = let before = c.in-Some-split_last.before.now in
    let inv = c.loop-last.invariant in
    let e = c.in-Some-split_last.ensures.cases in
    let x : c.args.text.now ≡ before ++ 49 ∷ inv.0 = inv.1 ∙ ap (λ x. x ++ inv.0) e.0 ∙ append_assoc before (c.in-Some-split_last.last.now ∷ []) inv.0 ∙ ap (λ b. before ++ b ∷ inv.0) c.if-last-eq49.true in
    sym (ap separator x ∙ separator_is before inv.0 inv.2)

pub loop-last-preserved : goal.loop-last-preserved
unfolding all
loop-last-preserved c = let before = c.in-Some-split_last.before.now in
    let last = c.in-Some-split_last.last.now in
    let inv = c.loop-last.invariant in
    let e = c.in-Some-split_last.ensures.cases in (
      last ∷ inv.0,
      inv.1 ∙ ap (λ x. x ++ inv.0) e.0 ∙ append_assoc before (last ∷ []) inv.0,
      rw (ne_eqb last 49 c.if-last-eq49.false) inv.2,
    )

pub returns : goal.returns
returns c = let inv = c.loop-last.invariant in
    let e = c.in_default-split_last.ensures.cases in
    sym (separator_none c.args.text.now (ap (all is_not_one) (inv.1 ∙ empty_before c.loop-last.front.now inv.0 e) ∙ inv.2))
