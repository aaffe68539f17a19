-- The lines are stored in the span of the returned stanzas, with the file as index.
use Rattle.phase_two.proofs.steps.keep_stanza.Goals as goal

pub returns : goal.returns
returns c = let z = rw (c.span_of.ensures, c.wide.ensures, c.rest_of.ensures) at c.store_lines.ensures in
    record {
      number = z.number;
      table = rw z.number z.table;
      others = z.others;
      buffer = rw z.number z.buffer;
    }
