-- By the phase.
use Rattle.client_room.proofs.fitting.is_keepable.Goals as goal

pub returns-in-Awaiting : goal.returns-in-Awaiting
returns-in-Awaiting c = rw c.in-Awaiting.is
