-- 12 closes the session.
use mathlib.Core.Path.{ap}
use Rattle.session.specs.Session.{carried_by}
use Rattle.plugin_receiving.proofs.responding.unfit.Goals as goal

pub returns : goal.returns
returns c = record {
  outcome = λ xs hs out. rw c.moved.ensures;
  carried = ap carried_by c.moved.ensures;
}
