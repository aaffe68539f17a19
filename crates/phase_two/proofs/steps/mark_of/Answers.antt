-- Each kind has its mark; a header stanza's is 3 and its file.
use mathlib.Core.Path.{ap}
use Prim.Native.Nat.{◌+◌}
use Rattle.phase_two.proofs.steps.mark_of.Goals as goal

pub returns-in-Header : goal.returns-in-Header
returns-in-Header c = rw c.in-Header.is (ap (λ n. 3 + n) c.wide.ensures)
