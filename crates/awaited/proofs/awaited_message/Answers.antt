-- By what the text is read as.
use mathlib.Core.Path.{◌≡◌, sym, ap, ◌∙◌}
use mathlib.Core.List.{[]}
use Rattle.stanza.specs.Parts.{body_in}
use Rattle.stanza.specs.Reading.{read_said}
use Rattle.conversation.specs.Calls.{body_read}
use Rattle.awaited.specs.Awaited.{awaited_text, message_in}
use Rattle.awaited.proofs.Laws.Awaited.{nothing_written}
use Rattle.awaited.proofs.awaited_message.Goals as goal

pub returns-in-Ok : goal.returns-in-Ok
returns-in-Ok c = let t = c.awaited_text-waiting.result.now in
    let s = c.in-Ok.s in
    let z : body_in t s ≡ message_in (awaited_text c.args.session c.args.input.now) =
    ap (λ r. body_read r t) (sym (ap read_said c.in-Ok.is) ∙ c.read-first.ensures) ∙ ap message_in c.awaited_text-waiting.ensures in
    record {
      answer = rw (← z) c.body_of.ensures.answer;
      buffer = rw (← z) c.body_of.ensures.buffer;
    }

pub returns-in-Err : goal.returns-in-Err
returns-in-Err c = let a = c.args in
    let t = c.awaited_text-waiting.result.now in
    let z : [] ≡ message_in (awaited_text a.session a.input.now) =
    ap (λ r. body_read r t) (sym (ap read_said c.in-Err.is) ∙ c.read-first.ensures) ∙ ap message_in c.awaited_text-waiting.ensures in
    let n = nothing_written a.out.now in
    record { answer = rw (← z) n.0; buffer = rw (← z) n.1 }
