-- A stanza is asked for errors, a key for errors of its file, an error for work; no other command clashes.
use Rattle.phase_two_decision.proofs.decision.is_clashing.Goals as goal

pub returns-in-Error : goal.returns-in-Error
returns-in-Error c = λ hs. rw c.in-Error.is (c.is_against_work.ensures hs)
