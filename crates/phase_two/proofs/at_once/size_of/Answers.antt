-- By the response: its text is a closed list.
use mathlib.Core.Path.{refl}
use Rattle.strict_base64.specs.Code.{encoded}
use Rattle.strict_base64.specs.Lines.{wrapped}
use Rattle.phase_two.proofs.at_once.size_of.Goals as goal

pub returns-in-Ok : goal.returns-in-Ok
unfolding wrapped encoded
returns-in-Ok c = rw c.in-Ok.is refl

pub returns-in-Yes : goal.returns-in-Yes
unfolding wrapped encoded
returns-in-Yes c = rw c.in-Yes.is refl

pub returns-in-No : goal.returns-in-No
unfolding wrapped encoded
returns-in-No c = rw c.in-No.is refl

pub returns-in-Fail : goal.returns-in-Fail
unfolding wrapped encoded
returns-in-Fail c = rw c.in-Fail.is refl

pub returns-in-Unsupported : goal.returns-in-Unsupported
unfolding wrapped encoded
returns-in-Unsupported c = rw c.in-Unsupported.is refl
