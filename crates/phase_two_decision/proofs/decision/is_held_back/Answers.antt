-- Each command is asked its own question; one that is neither work, an error nor done is never held back.
use Rattle.phase_two_decision.proofs.decision.is_held_back.Goals as goal

pub returns-in-Stanza : goal.returns-in-Stanza
returns-in-Stanza c = rw c.in-Stanza.is (c.has_invalid.ensures c.args.header_slots.now)

pub returns-in-Error : goal.returns-in-Error
returns-in-Error c = rw c.in-Error.is (c.is_for_unknown.ensures c.args.slots.now)
