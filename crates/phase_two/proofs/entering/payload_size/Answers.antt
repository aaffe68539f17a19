-- By the command: a line, an LF and the body; the body; or nothing.
use Rattle.tables.specs.Bodies.{body_from}
use Rattle.tables.proofs.Laws.Copying.{lines_length}
use Rattle.phase_one.specs.Commands.{rest_of}
use Rattle.phase_two.proofs.entering.payload_size.Goals as goal

pub returns-in-Ok-Stanza : goal.returns-in-Ok-Stanza
returns-in-Ok-Stanza c = let a = c.args in
    rw (c.in-Ok-Stanza.is, rw c.in-Ok-Stanza.is at c.in-Ok-Stanza.field-0-is, c.rest_of-rest.ensures, c.body_size.ensures.0) (lines_length (rest_of a.line.now) (body_from a.body))

pub returns-in-Ok-Key : goal.returns-in-Ok-Key
returns-in-Ok-Key c = rw (c.in-Ok-Key.is, rw c.in-Ok-Key.is at c.in-Ok-Key.field-0-is) c.body_size-in-Ok-Key.ensures.0

pub returns-in-Ok-Error : goal.returns-in-Ok-Error
returns-in-Ok-Error c = rw (c.in-Ok-Error.is, rw c.in-Ok-Error.is at c.in-Ok-Error.field-0-is) c.body_size-in-Ok-Error.ensures.0
