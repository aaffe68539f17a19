-- By the tests of front, back, and what is between.
use Prim.Native.Nat.{◌-◌}
use mathlib.Core.Path.{◌≡◌, sym, ap, ap₂, ◌∙◌}
use mathlib.Core.Bool.{true, false, ◌&&◌}
use mathlib.Core.List.{map}
use lib.ListN.{length, take, drop}
use lib.Seq.{drop-drop}
use native.Mathlib.Omega.{arith}
use Rattle.refusal.specs.Same.{same}
use Rattle.symbols.specs.Charset.{lower}
use Rattle.bech32.specs.Calls.{given_name}
use Rattle.bech32.specs.Steps.{name_between}
use Rattle.bech32.proofs.Laws.Human.{name_is}
use Rattle.bech32.proofs.human.name_between.Goals as goal
use Rattle.bech32.proofs.human.name_between.Goals.{then-not-is_lowered-via-then-not-is_lowered, then-not-is_lowered-via-else-not-is_lowered+then-not-is_lowered-2}

pub returns-then-not-is_lowered : goal.returns-then-not-is_lowered
returns-then-not-is_lowered c = let f = c.args.front.now in
    let b = c.args.back.now in
    let h = c.args.human.now in
    let x = c.in_ok-start.ensures.cases in
    let y = c.in_ok-middle.ensures.cases in
    let k : c.in_ok-checked_sub.field-0 ≡ length h - length f - length b = omega (arith, c.in_ok-checked_sub.ensures) in
    let e : c.in_ok-middle.end.now ≡ drop (length h - length b) h = y.2 ∙ ap₂ drop k x.2 ∙ drop-drop (length h - length f - length b) (length f) h ∙ ap (λ n. drop n h) (omega (arith, c.in_ok-checked_sub.ensures)) in
    let t : same (map lower (take (length f) h)) f ≡ c.is_lowered.result = sym (c.is_lowered.ensures ∙ ap (λ s. same (map lower s) f) x.1) in
    let v : (same (map lower (take (length f) h)) f && same (map lower (drop (length h - length b) h)) b) ≡ false = elim c.then-not-is_lowered.branch [
      | then-not-is_lowered-via-then-not-is_lowered w ↦ rw (t ∙ w.if-not-is_lowered.true)
      | then-not-is_lowered-via-else-not-is_lowered+then-not-is_lowered-2 w ↦
          rw (t ∙ w.if-not-is_lowered.false, sym (w.is_lowered-else-not-is_lowered.ensures ∙ ap (λ s. same (map lower s) b) e) ∙ w.if-not-is_lowered-2.true)
    ] in
    name_is f b h (omega (arith, c.in_ok-checked_sub.ensures)) ∙ rw v

pub returns : goal.returns
returns c = let f = c.args.front.now in
    let b = c.args.back.now in
    let h = c.args.human.now in
    let x = c.in_ok-start.ensures.cases in
    let y = c.in_ok-middle.ensures.cases in
    let k : c.in_ok-checked_sub.field-0 ≡ length h - length f - length b = omega (arith, c.in_ok-checked_sub.ensures) in
    let e : c.in_ok-middle.end.now ≡ drop (length h - length b) h = y.2 ∙ ap₂ drop k x.2 ∙ drop-drop (length h - length f - length b) (length f) h ∙ ap (λ n. drop n h) (omega (arith, c.in_ok-checked_sub.ensures)) in
    let t : same (map lower (take (length f) h)) f ≡ true = sym (c.is_lowered.ensures ∙ ap (λ s. same (map lower s) f) x.1) ∙ c.if-not-is_lowered.false in
    let u : same (map lower (drop (length h - length b) h)) b ≡ true = sym (c.is_lowered-else-not-is_lowered.ensures ∙ ap (λ s. same (map lower s) b) e) ∙ c.if-not-is_lowered-2.false in
    let z : name_between f b (map lower h) ≡ given_name (map lower c.in_ok-middle.middle.now) =
    name_is f b h (omega (arith, c.in_ok-checked_sub.ensures)) ∙ rw (t, u) (ap (λ s. given_name (map lower s)) (sym (y.1 ∙ ap₂ take k x.2))) in
    rw z c.lower_name.ensures
