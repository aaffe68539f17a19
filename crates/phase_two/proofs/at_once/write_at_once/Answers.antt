-- By the answer: silence is the empty text, which fits any buffer.
use Rattle.phase_two.proofs.Laws.AtOnce.{silent_is}
use Rattle.phase_two.proofs.at_once.write_at_once.Goals as goal

pub returns-in-Some : goal.returns-in-Some
returns-in-Some c = rw c.in-Some.is c.write_bare.ensures

pub returns-in-None : goal.returns-in-None
returns-in-None c = rw c.in-None.is (silent_is c.args.out.now)
