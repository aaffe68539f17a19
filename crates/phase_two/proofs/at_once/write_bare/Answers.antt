-- By the response: its text is the one that is copied (`bare_text_lem`).
use mathlib.Core.Path.{sym, ap, ◌∙◌}
use Rattle.refusal.specs.Output.{filled}
use Rattle.phase_two.proofs.Laws.AtOnce.{bare_text, bare_text_lem}
use Rattle.phase_two.proofs.at_once.write_bare.Goals as goal

pub returns-in-Ok : goal.returns-in-Ok
returns-in-Ok c = let a = c.args in
    let o = a.out.now in
    c.copy.ensures ∙ ap (λ r. filled (bare_text r) o) (sym c.in-Ok.is) ∙ ap (λ t. filled t o) (bare_text_lem a.response)

pub returns-in-Yes : goal.returns-in-Yes
returns-in-Yes c = let a = c.args in
    let o = a.out.now in
    c.copy-in-Yes.ensures ∙ ap (λ r. filled (bare_text r) o) (sym c.in-Yes.is) ∙ ap (λ t. filled t o) (bare_text_lem a.response)

pub returns-in-No : goal.returns-in-No
returns-in-No c = let a = c.args in
    let o = a.out.now in
    c.copy-in-No.ensures ∙ ap (λ r. filled (bare_text r) o) (sym c.in-No.is) ∙ ap (λ t. filled t o) (bare_text_lem a.response)

pub returns-in-Fail : goal.returns-in-Fail
returns-in-Fail c = let a = c.args in
    let o = a.out.now in
    c.copy-in-Fail.ensures ∙ ap (λ r. filled (bare_text r) o) (sym c.in-Fail.is) ∙ ap (λ t. filled t o) (bare_text_lem a.response)

pub returns-in-Unsupported : goal.returns-in-Unsupported
returns-in-Unsupported c = let a = c.args in
    let o = a.out.now in
    c.copy-in-Unsupported.ensures ∙ ap (λ r. filled (bare_text r) o) (sym c.in-Unsupported.is) ∙ ap (λ t. filled t o) (bare_text_lem a.response)
