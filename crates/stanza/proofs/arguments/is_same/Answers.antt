-- `==` of slices is the definition.
use Rattle.std.proofs.Common.{◌∙◌}
use Rattle.refusal.proofs.Laws.Same.{pointwise_same}
use Rattle.stanza.proofs.arguments.is_same.Goals as goal

pub returns : goal.returns
returns c = c.eq.ensures ∙ pointwise_same c.args.a.now c.args.b.now
