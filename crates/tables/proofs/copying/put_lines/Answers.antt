-- The line, the LF behind it, and the body behind both; the rest of the buffer stays.
use Prim.Native.Nat.{◌≤◌}
use lib.ListN.{length}
use native.Mathlib.Omega.{arith}
use borrow.Author.Tests.{le-ltb}
use Rattle.refusal.proofs.Laws.Lists.{parts_joined}
use Rattle.tables.specs.Bodies.{body_from}
use Rattle.tables.proofs.copying.put_lines.Goals as goal

pub returns : goal.returns
returns c = let f : length c.args.line.now ≤ length c.args.out.now = omega (arith, c.requires) in
    parts_joined c.args.line.now (body_from c.args.body) c.copy.new.out c.args.out.now c.put_body.new.out 10 (rw (le-ltb _ _ f) at c.copy.ensures) (omega (arith, c.requires)) c.put_body.ensures
