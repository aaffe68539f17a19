-- The store has the front that was kept and its rest: one text (`joined_front`).
use Prim.Native.Nat.{◌+◌, ◌≤◌}
use mathlib.Core.Path.{sym, ap, ap₂, ◌∙◌, subst}
use lib.ListN.{length, take, length-append}
use lib.Seq.{length-take-le}
use native.Mathlib.Omega.{arith}
use Rattle.refusal.proofs.Laws.Lists.{part_rest}
use Rattle.session.specs.Session.{session_of}
use Rattle.chunks.specs.Chunks.{is_held}
use Rattle.client_room.specs.Room.{stanza_ahead}
use Rattle.intake.proofs.Laws.Keeping.{joined_front}
use Rattle.client_receiving.specs.Texts.{lent, Answers}
use Rattle.client_receiving.proofs.receiving.take_joined.Goals as goal

pub slice_bounds-put_together-end : goal.slice_bounds-put_together-end
slice_bounds-put_together-end c = let a = c.args in sym (length-take-le a.k a.chunk.now c.requires.phase_value.1)

pub slice_bounds-take_front-end : goal.slice_bounds-take_front-end
slice_bounds-take_front-end c = let a = c.args in
    let p = c.requires in
    let r = take a.k a.chunk.now in
    let k = length-take-le a.k a.chunk.now p.phase_value.1 in
    let i : a.kept ≤ length a.input.now = omega (arith, p.phase_value.2, p.phase_value.3) in
    let e = joined_front a.input.now r _ _ a.kept a.k i k (c.put_together.ensures i (omega (arith, p.phase_value.2, k))) in
    sym (ap length e ∙ length-append (take a.kept a.input.now) r ∙ ap₂ ◌+◌ (length-take-le a.kept a.input.now i) k)

pub take_front-requires : goal.take_front-requires
take_front-requires c = let a = c.args in
    let p = c.requires in
    let r = take a.k a.chunk.now in
    let k = length-take-le a.k a.chunk.now p.phase_value.1 in
    let i : a.kept ≤ length a.input.now = omega (arith, p.phase_value.2, p.phase_value.3) in
    let e = joined_front a.input.now r _ _ a.kept a.k i k (c.put_together.ensures i (omega (arith, p.phase_value.2, k))) in
    record {
      phase_value = (p.phase_value.0, omega (arith, ap length e ∙ length-append (take a.kept a.input.now) r ∙ ap₂ ◌+◌ (length-take-le a.kept a.input.now i) k, p.phase_value.2), p.phase_value.3);
      out_value = λ b.
          ap₂ (λ t x. is_held (stanza_ahead (session_of a.session a.slots.now a.header_slots.now) (lent b a.errors.now a.stanzas.now a.returned.now) t x) a.out.now) e (part_rest a.k a.chunk.now)
          ∙ p.out_value b;
    }

pub returns : goal.returns
returns c = let a = c.args in
    let p = c.requires in
    let r = take a.k a.chunk.now in
    let k = length-take-le a.k a.chunk.now p.phase_value.1 in
    let i : a.kept ≤ length a.input.now = omega (arith, p.phase_value.2, p.phase_value.3) in
    let e = joined_front a.input.now r _ _ a.kept a.k i k (c.put_together.ensures i (omega (arith, p.phase_value.2, k))) in
    let f = c.take_front in
    record {
      outcome = (λ b. subst (λ t. Answers f.result f.new.slots a.header_slots.now a.input.now f.new.input (lent b f.new.errors f.new.stanzas f.new.returned) a.out.now f.new.out t)
          (ap₂ (λ t x. stanza_ahead (session_of a.session a.slots.now a.header_slots.now) (lent b a.errors.now a.stanzas.now a.returned.now) t x) e (part_rest a.k a.chunk.now)) (f.ensures.outcome b));
      name = f.ensures.name;
    }
