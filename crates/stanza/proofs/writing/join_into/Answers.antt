-- Command, space and arguments, one behind the other, are the text.
use Prim.Native.Nat.{◌+◌, ◌-◌, ◌≤◌}
use lib.ListN.{length, take, drop, set, length-set, length-drop}
use native.Mathlib.Omega.{arith}
use borrow.Author.Tests.{le-ltb}
use Rattle.refusal.proofs.Laws.Lists.{part_rest, parts_joined}
use Rattle.stanza.proofs.writing.join_into.Goals as goal

pub returns : goal.returns
returns c = let command = c.args.command.now in
    let arguments = c.args.arguments.now in
    let o = c.args.out.now in
    let a = c.copy.new.out in
    let b = set a (length command) 32 in
    let f : length command ≤ length o = omega (arith, c.requires) in
    let h : length arguments ≤ length (take (length b - (length command + 1)) (drop (length command + 1) b)) =
    rw (part_rest (length command + 1) b) (simp (length-drop, length-set) (omega (arith, c.copy.auto.out, c.requires))) in
    parts_joined command arguments a o c.copy-2.new.out 32 (rw (le-ltb _ _ f) at c.copy.ensures) (omega (arith, c.requires)) (rw (le-ltb _ _ h) at c.copy-2.ensures)
