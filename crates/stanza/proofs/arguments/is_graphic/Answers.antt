-- The test is the definition.
use Rattle.refusal.specs.Run.{is_graphic}
use Rattle.stanza.proofs.arguments.is_graphic.Goals as goal

pub returns : goal.returns
unfolding is_graphic
returns c = c.is_ascii_graphic.ensures.value
