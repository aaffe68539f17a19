-- Invariant: the first i lines stand at the front of `out`, 65 bytes each, and behind them `out` is as it was.
use Prim.Native.Nat.{◌-◌, ◌*◌, ◌/◌}
use mathlib.Core.Path.{◌≡◌, ◌∙◌}
use lib.ListN.{length, length-set}
use native.Mathlib.Omega.{arith}
use borrow.Rule.Slice.PartMut.{same_len_mid}
use Rattle.strict_base64.proofs.Laws.Lines.{lines_length, lines_turn, lines_end}
use Rattle.strict_base64.proofs.lines.lines_into.Goals as goal

pub loop-i-preserved : goal.loop-i-preserved
loop-i-preserved c = let b = c.args.body.now in
    let out = c.loop-i.out in
    let i = c.loop-i.i in (
      simp length-set (same_len_mid (65 * i) (length out - 65 * i) out c.encode_into.new.out c.encode_into.auto.out ∙ c.loop-i.invariant.0),
      lines_turn b out c.args.out.now c.encode_into.new.out i (omega arith) (rw (lines_length b) c.requires) c.loop-i.invariant.1 c.encode_into.ensures,
    )

pub returns : goal.returns
returns c = let b = c.args.body.now in
    let n : c.loop-i.i ≡ length b / 48 = omega arith in
    lines_end b c.loop-i.out c.args.out.now c.last_line.new.out (length b / 48) (omega arith) (omega arith) (rw n at c.loop-i.invariant.1) c.last_line.ensures
