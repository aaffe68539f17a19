-- By what the text is read as.
use mathlib.Core.Path.{sym, ap, ◌∙◌}
use Rattle.stanza.specs.Reading.{read_said}
use Rattle.conversation.specs.Calls.{line_read}
use Rattle.awaited.specs.Awaited.{line_in}
use Rattle.awaited.proofs.line.Goals as goal

pub returns-in-Ok : goal.returns-in-Ok
returns-in-Ok c = let t = c.awaited_text-waiting.result.now in
    c.arguments_of.ensures ∙ ap (λ r. line_read r t) (sym (ap read_said c.in-Ok.is) ∙ c.read-first.ensures) ∙ ap line_in c.awaited_text-waiting.ensures

pub returns-in-Err : goal.returns-in-Err
returns-in-Err c = let t = c.awaited_text-waiting.result.now in
    ap (λ r. line_read r t) (sym (ap read_said c.in-Err.is) ∙ c.read-first.ensures) ∙ ap line_in c.awaited_text-waiting.ensures
