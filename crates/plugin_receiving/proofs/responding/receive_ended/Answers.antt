-- The stanza that was put together is the response, or reads as none.
use Prim.Native.Nat.{◌≤◌, min}
use mathlib.Core.Path.{sym, ap, ◌∙◌}
use mathlib.Core.List.{◌++◌}
use lib.ListN.{length, take}
use lib.Seq.{length-take-le}
use native.Mathlib.Omega.{arith}
use Rattle.session.specs.Session.{Carried}
use Rattle.intake.proofs.Laws.Fronts.{front_within}
use Rattle.intake.proofs.Laws.Keeping.{joined_front}
use Rattle.plugin_receiving.proofs.Laws.Responses.{ended_settled}
use Rattle.plugin_receiving.proofs.responding.receive_ended.Goals as goal

pub slice_bounds-put_together-end : goal.slice_bounds-put_together-end
slice_bounds-put_together-end c = let a = c.args in
    sym (length-take-le a.k a.chunk.now (front_within a.session.reading (min a.session.kept 8191) a.chunk.now a.k c.requires.chunk_value (omega arith)).0)

pub overflow_add-whole : goal.overflow_add-whole
overflow_add-whole c = let a = c.args in
    let w = front_within a.session.reading (min a.session.kept 8191) a.chunk.now a.k c.requires.chunk_value (omega arith) in
    omega (arith, c.kept_of-kept.ensures, w.1)

pub overflow_sub-left : goal.overflow_sub-left
overflow_sub-left c = let a = c.args in
    let p = c.requires in
    omega (arith, (front_within a.session.reading (min a.session.kept 8191) a.chunk.now a.k p.chunk_value (omega arith)).0)

pub settle_response-requires : goal.settle_response-requires
settle_response-requires c = ap (λ (x : Carried). x.name) c.receive_awaited-responded.ensures.carried

pub returns : goal.returns
returns c = let a = c.args in
    let p = c.requires in
    let n = c.receive_awaited-responded in
    let w = front_within a.session.reading (min a.session.kept 8191) a.chunk.now a.k p.chunk_value (omega arith) in
    let kept = c.kept_of-kept.result in
    let i : kept ≤ length a.input.now = omega (arith, p.in_bounds, c.kept_of-kept.ensures) in
    let l = length-take-le a.k a.chunk.now w.0 in
    let e = joined_front a.input.now (take a.k a.chunk.now) _ _ kept a.k i l (c.put_together.ensures i (omega (arith, w.1, l, c.kept_of-kept.ensures))) in
    let at = c.front.ensures ∙ e ∙ ap (λ j. take j a.input.now ++ take a.k a.chunk.now) c.kept_of-kept.ensures in
    record {
      outcome = λ xs hs b. c.settle_response.ensures.outcome xs hs a.input.now b _ ∙ ended_settled a.session a.word p.phase_value a.input.now p.in_bounds a.chunk.now xs hs b n.result a.out.now _ a.k p.chunk_value (λ z. omega (arith, p.le_k)) c.front.result.now at (n.ensures.outcome xs hs);
      name = c.settle_response.ensures.name;
    }
