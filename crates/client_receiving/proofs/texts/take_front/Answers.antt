-- The stanza is refused, or it waits, or the text behind it is received.
use mathlib.Core.Path.{◌≡◌, sym, ap, ◌∙◌}
use lib.ListN.{take}
use native.Mathlib.Omega.{arith}
use Rattle.refusal.specs.Number.{number_of}
use Rattle.stanza.specs.Reading.{read_said}
use Rattle.session.specs.Opening.{name_of}
use Rattle.session.specs.Tables.{tables_in}
use Rattle.conversation.specs.PhaseTwo as two
use Rattle.conversation.proofs.Laws.ReceivingTwo.{refusal_is}
use Rattle.chunks.specs.Taking.{client, ample}
use Rattle.chunks.specs.Uncut.{is_waiting}
use Rattle.client_room.specs.Stanzas.{taking_said}
use Rattle.client_receiving.specs.Texts.{lent}
use Rattle.client_receiving.proofs.Laws.Front.{stopped_at, front_fault, front_refused, front_fits, front_settles, front_settled, front_takes, front_taken}
use Rattle.client_receiving.proofs.texts.take_front.Goals as goal

pub go_on-done-requires : goal.go_on-done-requires
go_on-done-requires c = let a = c.args in
    let pre = c.requires in
    let h = sym c.read-first.ensures ∙ ap read_said c.in-Ok.is in
    let begun = c.begin-begun.ensures in
    let y = c.receive_stanza-step in
    let w = front_fits a.session a.slots.now a.header_slots.now a.errors.now a.stanzas.now a.returned.now a.front.now a.text.now a.out.now pre.phase_value.0 c.in-Ok.s.line c.in-Ok.s.body c.in-Ok.s.taken h y.result y.new.slots y.new.errors y.new.stanzas y.new.returned y.new.out y.ensures.outcome pre.out_value _ _ _ (ap taking_said c.in-Ok-answer.is) in
    (omega (arith, ap (λ r. r.count) begun), omega (arith, w, ap (λ r. r.written) begun, c.well_formed))

pub shape_of-errors-then-is_waiting : goal.shape_of-errors-then-is_waiting
shape_of-errors-then-is_waiting c = c.receive_stanza-step.auto.errors

pub shape_of-stanzas-then-is_waiting : goal.shape_of-stanzas-then-is_waiting
shape_of-stanzas-then-is_waiting c = c.receive_stanza-step.auto.stanzas

pub shape_of-returned-then-is_waiting : goal.shape_of-returned-then-is_waiting
shape_of-returned-then-is_waiting c = c.receive_stanza-step.auto.returned

pub returns-then-is_waiting : goal.returns-then-is_waiting
returns-then-is_waiting c = let a = c.args in
    let pre = c.requires in
    let h = sym c.read-first.ensures ∙ ap read_said c.in-Ok.is in
    let begun = c.begin-begun.ensures in
    let y = c.receive_stanza-step in
    let g = c.go_on-done in
    let count : g.result.count ≡ 1 = omega (arith, ap (λ r. r.count) g.ensures, ap (λ r. r.count) begun) in
    let last = ap (λ r. r.last) g.ensures in
    let written : g.result.written ≡ c.in-Ok-answer.taken.written = omega (arith, ap (λ r. r.written) g.ensures, ap (λ r. r.written) begun) in
    let session = ap (λ r. r.session) g.ensures in
    let v = ap (λ s. is_waiting client s.phase) session ∙ sym c.is_waiting.ensures ∙ c.if-is_waiting.true in
    let r = c.settle in
    record {
      outcome = (λ b.
          let may = front_settles a.session a.slots.now a.header_slots.now a.errors.now a.stanzas.now a.returned.now a.front.now a.text.now a.out.now pre.phase_value.0 c.in-Ok.s.line c.in-Ok.s.body c.in-Ok.s.taken h y.result y.new.slots y.new.errors y.new.stanzas y.new.returned y.new.out y.ensures.outcome pre.out_value _ _ _ (ap taking_said c.in-Ok-answer.is) g.result count last written session b a.input.now v pre.phase_value.1 pre.phase_value.2 in
          front_settled a.session a.slots.now a.header_slots.now a.errors.now a.stanzas.now a.returned.now a.front.now a.text.now a.out.now pre.phase_value.0 c.in-Ok.s.line c.in-Ok.s.body c.in-Ok.s.taken h y.result y.new.slots y.new.errors y.new.stanzas y.new.returned y.new.out y.ensures.outcome pre.out_value _ _ _ (ap taking_said c.in-Ok-answer.is) g.result count last written session b r.result a.input.now r.new.input v
          (r.ensures.outcome client y.new.slots a.header_slots.now (take g.result.written y.new.out) (lent b y.new.errors y.new.stanzas y.new.returned) may) r.ensures.rest.0);
      name = r.ensures.rest.1 ∙ ap (λ s. s.name) session ∙ ap (λ s. s.name) y.ensures.carried;
    }

pub take_text-requires : goal.take_text-requires
take_text-requires c = let a = c.args in
    let pre = c.requires in
    let h = sym c.read-first.ensures ∙ ap read_said c.in-Ok.is in
    let begun = c.begin-begun.ensures in
    let y = c.receive_stanza-step in
    let g = c.go_on-done in
    let count : g.result.count ≡ 1 = omega (arith, ap (λ r. r.count) g.ensures, ap (λ r. r.count) begun) in
    let last = ap (λ r. r.last) g.ensures in
    let written : g.result.written ≡ c.in-Ok-answer.taken.written = omega (arith, ap (λ r. r.written) g.ensures, ap (λ r. r.written) begun) in
    let session = ap (λ r. r.session) g.ensures in
    let v = ap (λ s. is_waiting client s.phase) session ∙ sym c.is_waiting.ensures ∙ c.if-is_waiting.false in
    front_takes a.session a.slots.now a.header_slots.now a.errors.now a.stanzas.now a.returned.now a.front.now a.text.now a.out.now pre.phase_value.0 c.in-Ok.s.line c.in-Ok.s.body c.in-Ok.s.taken h y.result y.new.slots y.new.errors y.new.stanzas y.new.returned y.new.out y.ensures.outcome pre.out_value _ _ _ (ap taking_said c.in-Ok-answer.is) g.result count last written session a.input.now v pre.phase_value.2

pub returns-in-Err : goal.returns-in-Err
returns-in-Err c = let a = c.args in
    let s = a.session in
    record {
      outcome = (λ b. front_fault a.session a.slots.now a.header_slots.now a.errors.now a.stanzas.now a.returned.now a.front.now a.text.now a.out.now c.requires.phase_value.0 b c.in-Err.r c.moved.result c.stop.result a.input.now
          (sym c.read-first.ensures ∙ ap read_said c.in-Err.is)
          (rw (c.moved.ensures, c.phase_refused.ensures) (ap (λ r. r.session) (refusal_is s.machine (name_of s.name) s.screen s.phase (tables_in s.tables a.slots.now a.header_slots.now) (two.buffers_of a.errors.now a.stanzas.now a.returned.now) ample (number_of c.in-Err.r))))
          (c.stop.ensures ∙ ap (stopped_at c.in-Err.r c.moved.result) c.begin-begun.ensures));
      name = ap (λ r. r.session.name) c.stop.ensures ∙ ap (λ s. s.name) c.moved.ensures;
    }

pub returns-in-Err-answer : goal.returns-in-Err-answer
returns-in-Err-answer c = let a = c.args in
    let pre = c.requires in
    let h = sym c.read-first.ensures ∙ ap read_said c.in-Ok.is in
    let begun = c.begin-begun.ensures in
    let y = c.receive_stanza-step in
    record {
      outcome = (λ b. front_refused a.session a.slots.now a.header_slots.now a.errors.now a.stanzas.now a.returned.now a.front.now a.text.now a.out.now pre.phase_value.0 c.in-Ok.s.line c.in-Ok.s.body c.in-Ok.s.taken h y.result y.new.slots y.new.errors y.new.stanzas y.new.returned y.new.out y.ensures.outcome pre.out_value b c.in-Err-answer.r c.stop-in-Err-answer.result a.input.now (ap taking_said c.in-Err-answer.is) (c.stop-in-Err-answer.ensures ∙ ap (stopped_at c.in-Err-answer.r y.result.session) begun));
      name = ap (λ r. r.session.name) c.stop-in-Err-answer.ensures ∙ ap (λ s. s.name) y.ensures.carried;
    }

pub shape_of-errors-else-is_waiting : goal.shape_of-errors-else-is_waiting
shape_of-errors-else-is_waiting c = c.take_text.auto.errors ∙ c.receive_stanza-step.auto.errors

pub shape_of-stanzas-else-is_waiting : goal.shape_of-stanzas-else-is_waiting
shape_of-stanzas-else-is_waiting c = c.take_text.auto.stanzas ∙ c.receive_stanza-step.auto.stanzas

pub shape_of-returned-else-is_waiting : goal.shape_of-returned-else-is_waiting
shape_of-returned-else-is_waiting c = c.take_text.auto.returned ∙ c.receive_stanza-step.auto.returned

pub shape_of-out-else-is_waiting : goal.shape_of-out-else-is_waiting
shape_of-out-else-is_waiting c = c.take_text.auto.out ∙ c.receive_stanza-step.auto.out

pub returns-else-is_waiting : goal.returns-else-is_waiting
returns-else-is_waiting c = let a = c.args in
    let pre = c.requires in
    let h = sym c.read-first.ensures ∙ ap read_said c.in-Ok.is in
    let begun = c.begin-begun.ensures in
    let y = c.receive_stanza-step in
    let g = c.go_on-done in
    let count : g.result.count ≡ 1 = omega (arith, ap (λ r. r.count) g.ensures, ap (λ r. r.count) begun) in
    let last = ap (λ r. r.last) g.ensures in
    let written : g.result.written ≡ c.in-Ok-answer.taken.written = omega (arith, ap (λ r. r.written) g.ensures, ap (λ r. r.written) begun) in
    let session = ap (λ r. r.session) g.ensures in
    let v = ap (λ s. is_waiting client s.phase) session ∙ sym c.is_waiting.ensures ∙ c.if-is_waiting.false in
    let r = c.take_text in
    record {
      outcome = (λ b. front_taken a.session a.slots.now a.header_slots.now a.errors.now a.stanzas.now a.returned.now a.front.now a.text.now a.out.now pre.phase_value.0 c.in-Ok.s.line c.in-Ok.s.body c.in-Ok.s.taken h y.result y.new.slots y.new.errors y.new.stanzas y.new.returned y.new.out y.ensures.outcome pre.out_value _ _ _ (ap taking_said c.in-Ok-answer.is) g.result count last written session b r.result r.new.slots a.input.now r.new.input r.new.errors r.new.stanzas r.new.returned r.new.out v (r.ensures.outcome b));
      name = r.ensures.name ∙ ap (λ s. s.name) session ∙ ap (λ s. s.name) y.ensures.carried;
    }
