-- A session of recipient-v1 just opened is where judging starts.
use Prim.Native.Nat.{min}
use mathlib.Core.Path.{ap, ap₂, ◌∙◌}
use mathlib.Core.List.{[]}
use lib.ListN.{take}
use Rattle.stanza.specs.Resuming.{place_said}
use Rattle.session.specs.Opening.{held}
use Rattle.session.specs.Session.{Session, Opening, Carried, carried_first}
use Rattle.judging.specs.Judging.{going}
use Rattle.judging.proofs.Laws.Steps.{opened_start}
use Rattle.judging.proofs.Judging.open.Goals as goal

pub returns : goal.returns
returns c = let e = c.open_plugin-opening.ensures in
    let p = ap (λ (o : Opening). o.session) e.opening ∙ opened_start in
    let q = e.carried ∙ ap (λ (s : Session). carried_first (held s.name)) opened_start in
    record {
      start = (λ input. ap₂ (λ (s : Session) (k : Carried). going (record { session = s; reading = place_said k.reading; kept = take (min k.kept 8191) input; awaited = [] })) p q);
      carried = q;
    }
