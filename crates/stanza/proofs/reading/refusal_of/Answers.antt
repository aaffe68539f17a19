use Rattle.std.specs.Prelude.{ltb}
use Rattle.stanza.specs.Reading.{found}
use Rattle.stanza.proofs.Laws.Reading.{pick_refused}
use Rattle.stanza.proofs.reading.refusal_of.Goals as goal

pub returns-in-Bad : goal.returns-in-Bad
unfolding found
returns-in-Bad c w = rw c.in-Bad.is

pub returns-in-Short : goal.returns-in-Short
unfolding found
returns-in-Short c w = rw (c.in-Short.is, c.unfinished.ensures) (pick_refused (ltb c.args.n 8192))
