-- Only a key is asked whether its file has one.
use Rattle.phase_two_decision.proofs.decision.is_second_key.Goals as goal

pub returns-in-Key : goal.returns-in-Key
returns-in-Key c = λ hs. rw c.in-Key.is (rw c.wide.ensures at (c.has_key.ensures hs))
