-- The store has the front that was kept and its rest: one text (`joined_front`).
use Rattle.refusal.proofs.Laws.Lists.{part_rest}
use Rattle.session.specs.Session.{session_of}
use Rattle.client_room.specs.Room.{has_room, stanza_ahead}
use Prim.Native.Nat.{◌+◌}
use mathlib.Core.Path.{sym, ap, ap₂, ◌∙◌}
use lib.ListN.{length, take, length-append}
use lib.Seq.{length-take-le}
use native.Mathlib.Omega.{arith}
use Rattle.intake.proofs.Laws.Keeping.{joined_front}
use Rattle.client_room.proofs.fitting.joined_fits.Goals as goal

pub slice_bounds-put_together-end : goal.slice_bounds-put_together-end
slice_bounds-put_together-end c = let a = c.args in sym (length-take-le a.k a.chunk.now c.requires.1)

pub slice_bounds-front_fits-end : goal.slice_bounds-front_fits-end
slice_bounds-front_fits-end c = let a = c.args in
    let p = c.requires in
    let r = take a.k a.chunk.now in
    let k = length-take-le a.k a.chunk.now p.1 in
    let e = joined_front a.input.now r _ _ a.kept a.k p.0 k (c.put_together.ensures p.0 (omega (arith, p.2, length-take-le a.k a.chunk.now p.1))) in
    sym (ap length e ∙ length-append (take a.kept a.input.now) r ∙ ap₂ ◌+◌ (length-take-le a.kept a.input.now p.0) k)

pub returns : goal.returns
returns c = λ b long two.
    let a = c.args in
    let p = c.requires in
    let e = joined_front a.input.now (take a.k a.chunk.now) _ _ a.kept a.k p.0 (length-take-le a.k a.chunk.now p.1) (c.put_together.ensures p.0 (omega (arith, p.2, length-take-le a.k a.chunk.now p.1))) in
    c.front_fits.ensures b long two
    ∙ ap₂ (λ t x. has_room (stanza_ahead (session_of a.session a.slots.now a.header_slots.now) b t x) a.room) e (part_rest a.k a.chunk.now)
