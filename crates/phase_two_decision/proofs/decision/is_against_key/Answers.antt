-- Only an error that names a header stanza is asked for its file's key.
use Rattle.phase_two_decision.proofs.decision.is_against_key.Goals as goal

pub returns-in-Header : goal.returns-in-Header
returns-in-Header c = λ hs. rw c.in-Header.is (rw c.wide.ensures at (c.has_key.ensures hs))
