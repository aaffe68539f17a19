-- The quotient is rounded down.
use Prim.Native.Nat.{◌*◌, ◌/◌}
use mathlib.Core.Bool.{false≢true}
use native.Mathlib.Omega.{arith}
use borrow.Author.Tests.{leb-true}
use Rattle.client_room.proofs.fitting.is_ample.Goals as goal

pub returns-then-bytes-gt-MOST_AMPLE : goal.returns-then-bytes-gt-MOST_AMPLE
returns-then-bytes-gt-MOST_AMPLE c = λ e. absurd (false≢true e)

pub returns : goal.returns
returns c = λ e. let a = c.args in omega (arith, leb-true (16 * a.bytes / 6) a.room e)
