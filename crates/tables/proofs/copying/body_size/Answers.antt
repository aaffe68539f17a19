-- What the lines decode to is fewer bytes than they are.
use Prim.Native.Nat.{◌≤◌}
use mathlib.Core.Path.{sym, subst, ◌∙◌}
use lib.ListN.{length}
use Rattle.strict_base64.proofs.Laws.Lines.{body_length}
use Rattle.tables.proofs.Laws.Copying.{body_less}
use Rattle.tables.proofs.copying.body_size.Goals as goal

pub returns-in-Lines : goal.returns-in-Lines
returns-in-Lines c = let e = c.body_length.ensures in
    let s = c.in-Lines.source.now in
    rw c.in-Lines.is (e ∙ sym (body_length s), subst (λ k. k ≤ length s) (sym e) (body_less (length s)))
