-- The human part, "1" and the characters one behind the other; the state is folded from the human part as it was put.
use Prim.Native.Nat.{◌+◌, ◌-◌}
use mathlib.Core.Path.{◌≡◌, refl, sym, ◌∙◌}
use lib.ListN.{length, set, length-set, length-drop}
use native.Mathlib.Omega.{arith}
use lib.Seq.{length-take-le}
use borrow.Rule.Slice.PartMut.{same_len_mid}
use Rattle.refusal.proofs.Laws.Lists.{part_rest}
use Rattle.bech32.specs.Text.{human_part}
use Rattle.bech32.specs.Calls.{form_of}
use Rattle.bech32.proofs.Laws.Text.{form_plain}
use Rattle.bech32.proofs.Laws.Writing.{name_short, human_size, assembled}
use Rattle.bech32.proofs.writing.write_into.Goals as goal

pub human_length-h-requires : goal.human_length-h-requires
human_length-h-requires c = let name = c.args.name.now in
    name_short name c.requires.name_value

pub put_human-requires : goal.put_human-requires
put_human-requires c = omega (arith, c.requires.payload_in_bounds)

pub bounds-out-h : goal.bounds-out-h
bounds-out-h c = let k = form_of c.args.kind in
    let name = c.args.name.now in
    let n : c.human_length-h.result ≡ length (human_part k name) = c.human_length-h.ensures ∙ sym (human_size k name) in
    omega (arith, c.put_human.auto.out, c.requires.payload_in_bounds)

pub slice_bounds-fold_human-end : goal.slice_bounds-fold_human-end
slice_bounds-fold_human-end c = let k = form_of c.args.kind in
    let name = c.args.name.now in
    let n : c.human_length-h.result ≡ length (human_part k name) = c.human_length-h.ensures ∙ sym (human_size k name) in
    simp length-set (omega (arith, c.put_human.auto.out, c.requires.payload_in_bounds))

pub slice_bounds-fold_human-end-2 : goal.slice_bounds-fold_human-end-2
slice_bounds-fold_human-end-2 c = let k = form_of c.args.kind in
    let name = c.args.name.now in
    let n : c.human_length-h.result ≡ length (human_part k name) = c.human_length-h.ensures ∙ sym (human_size k name) in
    sym (length-take-le c.human_length-h.result _ (simp length-set (omega (arith, c.put_human.auto.out, c.requires.payload_in_bounds))))

pub overflow_add-from : goal.overflow_add-from
overflow_add-from c = let k = form_of c.args.kind in
    let name = c.args.name.now in
    let n : c.human_length-h.result ≡ length (human_part k name) = c.human_length-h.ensures ∙ sym (human_size k name) in
    omega (arith, c.requires.payload_in_bounds)

pub slice_bounds-put_characters-count : goal.slice_bounds-put_characters-count
slice_bounds-put_characters-count c = let k = form_of c.args.kind in
    let name = c.args.name.now in
    let n : c.human_length-h.result ≡ length (human_part k name) = c.human_length-h.ensures ∙ sym (human_size k name) in
    simp length-set (omega (arith, c.put_human.auto.out, c.requires.payload_in_bounds))

pub slice_bounds-put_characters-start : goal.slice_bounds-put_characters-start
slice_bounds-put_characters-start c = let k = form_of c.args.kind in
    let name = c.args.name.now in
    let n : c.human_length-h.result ≡ length (human_part k name) = c.human_length-h.ensures ∙ sym (human_size k name) in
    simp length-set (omega (arith, c.put_human.auto.out, c.requires.payload_in_bounds))

pub slice_bounds-put_characters-end : goal.slice_bounds-put_characters-end
slice_bounds-put_characters-end c = let k = form_of c.args.kind in
    let name = c.args.name.now in
    let n : c.human_length-h.result ≡ length (human_part k name) = c.human_length-h.ensures ∙ sym (human_size k name) in
    simp length-set (omega (arith, c.put_human.auto.out, c.requires.payload_in_bounds))

pub put_characters-requires : goal.put_characters-requires
put_characters-requires c = let k = form_of c.args.kind in
    let name = c.args.name.now in
    let n : c.human_length-h.result ≡ length (human_part k name) = c.human_length-h.ensures ∙ sym (human_size k name) in
    let b = set c.put_human.new.out c.human_length-h.result 49 in
    record {
      payload_len_bound = c.requires.payload_len_bound;
      payload_in_bounds = rw (part_rest (c.human_length-h.result + 1) b) (simp (length-drop, length-set) (omega (arith, c.put_human.auto.out, c.requires.payload_in_bounds)));
    }

pub shape_of-out : goal.shape_of-out
shape_of-out c = let k = form_of c.args.kind in
    let name = c.args.name.now in
    let n : c.human_length-h.result ≡ length (human_part k name) = c.human_length-h.ensures ∙ sym (human_size k name) in
    let a = c.put_human.new.out in
    let m = c.human_length-h.result in
    same_len_mid (m + 1) (length (set a m 49) - (m + 1)) (set a m 49) c.put_characters.new.out c.put_characters.auto.out ∙ length-set a m 49 ∙ c.put_human.auto.out

pub returns : goal.returns
returns c = let k = form_of c.args.kind in
    let name = c.args.name.now in
    let n : c.human_length-h.result ≡ length (human_part k name) = c.human_length-h.ensures ∙ sym (human_size k name) in
    assembled k (form_plain c.args.kind) name c.args.payload.now c.put_human.new.out c.args.out.now
    c.put_characters.new.out (length (human_part k name)) c.human_length-h.result c.fold_human-state.result c.requires.name_value c.put_human.ensures refl n
    (omega (arith, c.requires.payload_in_bounds)) c.fold_human-state.ensures c.put_characters.ensures
