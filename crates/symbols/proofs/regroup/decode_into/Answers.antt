-- The loop's invariant: what the groups passed make stands at the front, and the buffer is as it was behind it.
use Prim.Native.Nat.{◌-◌, ◌*◌, ◌/◌}
use mathlib.Core.Path.{◌≡◌, refl, ap, ◌∙◌}
use lib.ListN.{length, drop, length-take, length-drop}
use native.Mathlib.Omega.{arith}
use borrow.Rule.Slice.PartMut.{same_len_mid}
use Rattle.symbols.specs.Regroup.{bytes}
use Rattle.symbols.specs.Steps.{symbol_in}
use Rattle.symbols.proofs.Laws.Groups.{bytes_turn, bytes_ended, group_at}
use Rattle.symbols.proofs.regroup.decode_into.Goals as goal

pub loop-i-init : goal.loop-i-init
unfolding bytes
loop-i-init c = refl

pub decode_group-requires : goal.decode_group-requires
decode_group-requires c = let e = c.as_chunks.ensures.front_len in simp (length-take, length-drop) (omega arith)

pub loop-i-preserved : goal.loop-i-preserved
loop-i-preserved c = let t = c.args.text.now in
    let out = c.loop-i.out in
    let i = c.loop-i.i in
    let e = c.as_chunks.ensures.front_len in
    bytes_turn (symbol_in c.args.table.now) t out c.args.out.now c.decode_group.new.out _ i (rw c.as_chunks.ensures.front (group_at 8 (length t / 8) i t _ (omega arith))) (omega arith) c.loop-i.invariant c.decode_group.ensures

pub decode_rest-requires : goal.decode_rest-requires
decode_rest-requires c = let e = c.as_chunks.ensures in record {
  text_len_bound = omega arith;
  text_in_bounds = simp (length-take, length-drop) (omega arith);
}

pub shape_of-out : goal.shape_of-out
shape_of-out c = let k = 5 * length c.as_chunks.result.0.now in
    let out = c.loop-i.out in
    same_len_mid k (length out - k) out c.decode_rest.new.out c.decode_rest.auto.out ∙ c.loop-i.auto.out

pub returns : goal.returns
returns c = let t = c.args.text.now in
    let e = c.as_chunks.ensures in
    let n : c.loop-i.i ≡ length c.as_chunks.result.0.now = omega arith in
    let m : length t / 8 * 8 ≡ 8 * length c.as_chunks.result.0.now = omega arith in
    bytes_ended (symbol_in c.args.table.now) t c.loop-i.out c.args.out.now c.decode_rest.new.out c.as_chunks.result.1.now (length c.as_chunks.result.0.now) (e.back ∙ ap (λ n. drop n t) m) (omega arith) (rw n at c.loop-i.invariant) c.decode_rest.ensures
