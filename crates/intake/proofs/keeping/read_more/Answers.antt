-- By what reading on gives.
use Rattle.std.specs.Prelude.{Ok}
use mathlib.Core.Path.{sym, ap, ◌∙◌}
use Rattle.stanza.specs.Resuming.{continued_said}
use Rattle.intake.specs.Fronts.{input_behind}
use Rattle.intake.proofs.keeping.read_more.Goals as goal

pub returns-in-Ok-Whole : goal.returns-in-Ok-Whole
returns-in-Ok-Whole c = let a = c.args in
    record {
      front = c.read_on-continued.ensures;
      input = ap (λ q. input_behind (continued_said q) a.at a.chunk.now a.input.now) (sym (c.in-Ok-Whole.is ∙ ap Ok (rw c.in-Ok-Whole.is at c.in-Ok-Whole.field-0-is)));
    }

pub returns-in-Ok-Unfinished : goal.returns-in-Ok-Unfinished
returns-in-Ok-Unfinished c = let a = c.args in
    record {
      front = c.read_on-continued.ensures;
      input = c.copy_behind.ensures ∙ ap (λ q. input_behind (continued_said q) a.at a.chunk.now a.input.now) (sym (c.in-Ok-Unfinished.is ∙ ap Ok (rw c.in-Ok-Unfinished.is at c.in-Ok-Unfinished.field-0-is)));
    }

pub returns-in-Err : goal.returns-in-Err
returns-in-Err c = let a = c.args in
    record {
      front = c.read_on-continued.ensures;
      input = ap (λ q. input_behind (continued_said q) a.at a.chunk.now a.input.now) (sym c.in-Err.is);
    }
