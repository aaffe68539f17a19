-- Composing follows what putting and sizing came to.
use mathlib.Core.Path.{sym, ap, ◌∙◌}
use Rattle.std.proofs.lemmas.Result.{err_from_is_err_and}
use Rattle.stanza.specs.Writing.{sized}
use Rattle.session.proofs.output.compose.Goals as goal

pub returns : goal.returns
returns c = let e = ap (λ x. sized x c.args.body.now) (sym c.front.ensures) ∙ sym c.in_ok-stanza.ensures in
    rw (c.in-Ok.is, e)

pub returns-in_err-stanza : goal.returns-in_err-stanza
returns-in_err-stanza c = let e = ap (λ x. sized x c.args.body.now) (sym c.front.ensures) ∙ sym c.in_err-stanza.ensures in
    let p = err_from_is_err_and c.from_residual.result c.from_residual.ensures.1 in
    rw (c.in-Ok.is, e, p.1, p.2)
