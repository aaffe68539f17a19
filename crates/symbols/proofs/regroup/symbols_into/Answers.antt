-- The loop's invariant: what the groups passed make stands at the front, and the buffer is as it was behind it.
use Prim.Native.Nat.{◌-◌, ◌*◌, ◌/◌}
use mathlib.Core.Path.{◌≡◌, refl, ap, ◌∙◌}
use lib.ListN.{length, drop, length-take, length-drop}
use native.Mathlib.Omega.{arith}
use borrow.Rule.Slice.PartMut.{same_len_mid}
use Rattle.symbols.specs.Regroup.{symbols}
use Rattle.symbols.proofs.Laws.Groups.{symbols_turn, symbols_ended, group_at}
use Rattle.symbols.proofs.regroup.symbols_into.Goals as goal

pub loop-i-init : goal.loop-i-init
unfolding symbols
loop-i-init c = refl

pub symbols_group-requires : goal.symbols_group-requires
symbols_group-requires c = let e = c.as_chunks.ensures.front_len in simp (length-take, length-drop) (omega arith)

pub loop-i-preserved : goal.loop-i-preserved
loop-i-preserved c = let t = c.args.payload.now in
    let out = c.loop-i.out in
    let i = c.loop-i.i in
    let e = c.as_chunks.ensures.front_len in
    symbols_turn t out c.args.out.now c.symbols_group.new.out _ i (rw c.as_chunks.ensures.front (group_at 5 (length t / 5) i t _ (omega arith))) (omega arith) c.loop-i.invariant c.symbols_group.ensures

pub symbols_rest-requires : goal.symbols_rest-requires
symbols_rest-requires c = let e = c.as_chunks.ensures in record {
  payload_len_bound = omega arith;
  payload_in_bounds = simp (length-take, length-drop) (omega arith);
}

pub shape_of-out : goal.shape_of-out
shape_of-out c = let k = 8 * length c.as_chunks.result.0.now in
    let out = c.loop-i.out in
    same_len_mid k (length out - k) out c.symbols_rest.new.out c.symbols_rest.auto.out ∙ c.loop-i.auto.out

pub returns : goal.returns
returns c = let t = c.args.payload.now in
    let e = c.as_chunks.ensures in
    let n : c.loop-i.i ≡ length c.as_chunks.result.0.now = omega arith in
    let m : length t / 5 * 5 ≡ 5 * length c.as_chunks.result.0.now = omega arith in
    symbols_ended t c.loop-i.out c.args.out.now c.symbols_rest.new.out c.as_chunks.result.1.now (length c.as_chunks.result.0.now) (e.back ∙ ap (λ n. drop n t) m) (omega arith) (rw n at c.loop-i.invariant) c.symbols_rest.ensures
