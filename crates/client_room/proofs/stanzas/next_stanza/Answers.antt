-- By the phase.
use Rattle.client_room.proofs.stanzas.next_stanza.Goals as goal

pub returns-in-One : goal.returns-in-One
returns-in-One c = rw c.in-One.is

pub returns-in-Two : goal.returns-in-Two
returns-in-Two c = rw c.in-Two.is c.read.ensures

pub returns-in-Awaiting : goal.returns-in-Awaiting
returns-in-Awaiting c = rw c.in-Awaiting.is

pub returns-in-Ended : goal.returns-in-Ended
returns-in-Ended c = rw c.in-Ended.is

pub returns-in-Closed : goal.returns-in-Closed
returns-in-Closed c = rw c.in-Closed.is
