-- Where no name is given the text is none.
use mathlib.Core.Path.{◌≡◌, sym, ◌∙◌}
use Rattle.std.proofs.lemmas.Result.{err_from_is_err_and}
use Rattle.session.specs.Opening.{machine_named, named}
use Rattle.session.proofs.Laws.Opening.{machine_of, unnamed}
use Rattle.session.proofs.opening.read_settings.Goals as goal

pub returns-in_err-name-clause-settings : goal.returns-in_err-name-clause-settings
returns-in_err-name-clause-settings c =
    let m : machine_named c.args.machine.now ≡ named c.in_ok-machine.machine = sym c.machine_named.ensures ∙ machine_of c.machine_named.result c.in_ok-machine.machine (sym c.ok_or.ensures.value ∙ c.in_ok-machine.was) in
    let n = unnamed c.name_of.result c.args.name.now c.in_err-name.field-0.0 c.name_of.ensures (sym c.ok_or-2.ensures.value ∙ c.in_err-name.was) in
    let p = err_from_is_err_and c.from_residual-in_err-name.result c.from_residual-in_err-name.ensures.1 in
    rw (p.1, p.2, n.1, m, n.0)
