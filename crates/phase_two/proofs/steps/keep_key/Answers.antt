-- The body is stored in the span of the returned keys, with the file as index.
use Rattle.phase_two.proofs.steps.keep_key.Goals as goal

pub returns : goal.returns
returns c = let z = rw (c.span_of.ensures, c.wide.ensures) at c.store.ensures in
    record {
      number = z.number;
      table = rw z.number z.table;
      others = z.others;
      buffer = rw z.number z.buffer;
    }
