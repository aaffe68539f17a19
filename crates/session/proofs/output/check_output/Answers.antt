-- The test is the definition's.
use borrow.Author.Tests.{lt-ltb, le-ltb}
use Rattle.session.proofs.output.check_output.Goals as goal

pub returns-then-capacity-n : goal.returns-then-capacity-n
returns-then-capacity-n c = rw (lt-ltb _ _ c.if-capacity-n.true)

pub returns : goal.returns
returns c = rw (le-ltb _ _ c.if-capacity-n.false)
