-- A stanza, a key and an error are asked for what they name; no other command names anything.
use Rattle.phase_two_decision.proofs.decision.is_missing.Goals as goal

pub returns-in-Error : goal.returns-in-Error
returns-in-Error c = λ xs. rw c.in-Error.is (c.is_nameless.ensures xs)
