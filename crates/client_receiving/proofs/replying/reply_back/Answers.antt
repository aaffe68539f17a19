-- The store has the bytes that were kept back (`back-copied`).
use Prim.Native.Nat.{ℕ, ◌+◌, ◌-◌}
use mathlib.Core.Path.{sym, ap, ap₂, ◌∙◌}
use lib.ListN.{take, drop, replicate, length-replicate}
use native.Mathlib.Omega.{arith}
use Rattle.session.specs.Session.{session_of}
use Rattle.chunks.specs.Taking.{client}
use Rattle.chunks.specs.Chunks.{judged}
use Rattle.intake.specs.Intake.{intake_of}
use Rattle.client_receiving.specs.Replying.{answered_with}
use Rattle.client_receiving.specs.Texts.{lent}
use Rattle.client_receiving.proofs.Laws.Replying.{back_is, back_copied, back_long}
use Rattle.client_receiving.proofs.replying.reply_back.Goals as goal

pub slice_bounds-reply_ahead-end : goal.slice_bounds-reply_ahead-end
slice_bounds-reply_ahead-end c = let a = c.args in
    let at = c.at_most_longest-at in
    let kept = c.at_most_longest-kept in
    back_long a.input.now (replicate 8192 0) c.copy.new.out at.result kept.result (at.result + kept.result - at.result) (omega arith) (omega (arith, at.ensures, kept.ensures, c.requires.2)) c.copy.ensures (omega (arith, kept.ensures, length-replicate {A = ℕ} 8192 0))

pub returns : goal.returns
returns c = let a = c.args in
    let p = c.requires in
    let xs = a.slots.now in
    let hs = a.header_slots.now in
    let at = c.at_most_longest-at in
    let kept = c.at_most_longest-kept in
    let f = c.reply_ahead in
    let back =
    back_copied a.input.now (replicate 8192 0) c.copy.new.out at.result kept.result (at.result + kept.result - at.result) (omega arith) (omega (arith, at.ensures, kept.ensures, p.2))
    c.copy.ensures (omega (arith, kept.ensures, length-replicate {A = ℕ} 8192 0))
    ∙ ap₂ (λ k i. take k (drop i a.input.now)) kept.ensures at.ensures ∙ sym (back_is a.session xs hs a.input.now p.3) in
    record {
      outcome = (λ b. let l = lent b a.errors.now a.stanzas.now a.returned.now in
          f.ensures.outcome b
          ∙ ap (λ x. judged (intake_of client a.session xs hs a.input.now) l a.out.now (answered_with (session_of a.session xs hs) l a.response a.body.now x)) back);
      input = f.ensures.input;
      name = f.ensures.name;
    }
