-- The session's part is its contract.
use mathlib.Core.Path.{ap, ◌∙◌}
use Rattle.std.specs.Prelude.{Err}
use Rattle.intake.proofs.answers.stop.Goals as goal

pub returns : goal.returns
returns c = c.settled.ensures ∙ ap (λ s. record { verdict = Err c.args.refusal; count = c.args.so_far.count; last = c.args.so_far.last; written = c.args.so_far.written; session = s }) c.keeping.ensures
