-- The body is stored in the span of the errors, with the index and the mark of what is named.
use Rattle.phase_two.proofs.steps.keep_error.Goals as goal

pub returns : goal.returns
returns c = let z = rw (c.span_of.ensures, c.index_of.ensures, c.mark_of.ensures) at c.store.ensures in
    record {
      number = z.number;
      table = rw z.number z.table;
      others = z.others;
      buffer = rw z.number z.buffer;
    }
