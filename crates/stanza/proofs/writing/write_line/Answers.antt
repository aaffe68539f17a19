-- The three bytes, the arguments and the LF, one behind the other, are the first line.
use Prim.Native.Nat.{◌-◌, ◌≤◌}
use lib.ListN.{length, take, drop, length-drop}
use native.Mathlib.Omega.{arith}
use borrow.Author.Tests.{le-ltb}
use Rattle.refusal.proofs.Laws.Lists.{part_rest}
use Rattle.stanza.proofs.Laws.Writing.{line_done}
use Rattle.stanza.proofs.writing.write_line.Goals as goal

pub returns : goal.returns
returns c = let l = c.args.line.now in
    let o = c.args.out.now in
    let a = c.copy.new.out in
    let f : 3 ≤ length o = omega (arith, c.requires) in
    let h : length l ≤ length (take (length a - 3) (drop 3 a)) = rw (part_rest 3 a, length-drop 3 a) (omega (arith, c.copy.auto.out, c.requires)) in
    line_done l o a c.copy-2.new.out c.requires (rw (le-ltb _ _ f) at c.copy.ensures) (rw (le-ltb _ _ h) at c.copy-2.ensures)
