-- A stanza contradicts every error; else the key is asked.
use borrow.Author.Tests.{le-ltb}
use Rattle.phase_two_decision.proofs.decision.is_against_work.Goals as goal

pub returns-else-tables-gt0 : goal.returns-else-tables-gt0
returns-else-tables-gt0 c = λ hs. rw (le-ltb _ _ c.if-tables-gt0.false) (c.is_against_key.ensures hs)
