-- By the answer: silence has no bytes.
use Rattle.phase_two.proofs.at_once.at_once_size.Goals as goal

pub returns-in-Some : goal.returns-in-Some
returns-in-Some c = rw c.in-Some.is c.size_of.ensures
