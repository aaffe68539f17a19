-- A text that is one chunk, judged from the start with fresh slots.
use mathlib.Core.Path.{◌≡◌, ap, ap₂, ◌∙◌}
use Rattle.conversation.specs.PhaseTwo.{BuffersTwo}
use Rattle.judging.specs.Judging.{State, Standing, numbers_of, judged_from, judged_text}
use Rattle.judging.specs.Said.{standing_of, buffers_in, state_said}
use Rattle.judging.proofs.judge.Goals as goal

pub returns : goal.returns
returns c = let a = c.args in
    let j = c.judge_chunk-judging in
    let begun = c.open-begun in
    let xs = c.open_slots-slots in
    let hs = c.open_header_slots-header_slots in
    let e : (d : BuffersTwo) → state_said j.result j.new.slots j.new.header_slots j.new.input (buffers_in j.new.recipients j.new.identities j.new.keys d) ≡ judged_text (buffers_in a.recipients.now a.identities.now a.keys.now d) a.text.now =
    λ d. j.ensures.state d ∙ ap (λ (s : Standing). judged_from s (buffers_in a.recipients.now a.identities.now a.keys.now d) a.text.now) (ap₂ (λ xs hs. standing_of begun.result xs hs _) xs.ensures hs.ensures ∙ begun.ensures.start _) in
    record {
      numbers = (λ d. c.numbers.ensures j.new.slots j.new.header_slots j.new.input ∙ ap (λ (s : State). numbers_of s.standing) (e d));
      buffers = (λ d. ap (λ (s : State). s.buffers) (e d));
    }
