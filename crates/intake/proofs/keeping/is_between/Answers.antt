-- Each place; only at the start can there be no byte of a stanza.
use Rattle.intake.proofs.keeping.is_between.Goals as goal

pub returns-in-Start : goal.returns-in-Start
returns-in-Start c = rw c.in-Start.is
