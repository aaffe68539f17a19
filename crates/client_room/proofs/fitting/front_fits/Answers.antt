-- The stanza's answer fits, and so does the text behind it.
use mathlib.Core.Path.{sym, ap, ◌∙◌}
use Rattle.stanza.specs.Reading.{read_said}
use Rattle.session.specs.Session.{session_of}
use Rattle.conversation.proofs.Laws.ReceivingTwo.{turn_second}
use Rattle.chunks.specs.Taking.{client, turn_at, awaited_behind}
use Rattle.client_room.specs.Stanzas.{taking_said}
use Rattle.client_room.proofs.Laws.Room.{ahead_fault_room, ahead_refused_room, ahead_short_room, ahead_buffers, ahead_long, ahead_on_room}
use borrow.Author.Rules.{rules}
use Rattle.client_room.proofs.fitting.front_fits.Goals as goal

pub returns-then-room-size : goal.returns-then-room-size
returns-then-room-size c = λ b long two.
    let a = c.args in
    let hs = a.header_slots.now in
    let s = session_of a.session a.slots.now hs in
    let x = c.in-Ok.s in
    let y = c.try_stanza-step.result in
    let h = sym c.read-first.ensures ∙ ap read_said c.in-Ok.is in
    let tried = c.try_stanza-step.ensures.outcome b.second long in
    let turn = ap (turn_at client) (turn_second a.session.phase two) in
    let after = session_of y.session c.try_stanza-step.new.slots hs in
    ahead_short_room s b a.front.now a.text.now x.line x.body x.taken (taking_said y.answer) after a.room turn h tried _ _ _ (ap taking_said c.in-Ok-answer.is) c.if-room-size.true

pub returns-in-Err : goal.returns-in-Err
returns-in-Err c = λ b long two.
    let a = c.args in
    ahead_fault_room (session_of a.session a.slots.now a.header_slots.now) b a.front.now a.text.now _ a.room (ap (turn_at client) (turn_second a.session.phase two))
    (sym (ap read_said c.in-Err.is) ∙ c.read-first.ensures)

pub returns-in-Err-answer : goal.returns-in-Err-answer
returns-in-Err-answer c = λ b long two.
    let a = c.args in
    let hs = a.header_slots.now in
    let s = session_of a.session a.slots.now hs in
    let x = c.in-Ok.s in
    let y = c.try_stanza-step.result in
    let h = sym c.read-first.ensures ∙ ap read_said c.in-Ok.is in
    let tried = c.try_stanza-step.ensures.outcome b.second long in
    let turn = ap (turn_at client) (turn_second a.session.phase two) in
    let after = session_of y.session c.try_stanza-step.new.slots hs in
    ahead_refused_room s b a.front.now a.text.now x.line x.body x.taken (taking_said y.answer) after a.room turn h tried _ (ap taking_said c.in-Err-answer.is)

pub returns-else-room-size : goal.returns-else-room-size
returns-else-room-size c = λ b long two.
    let a = c.args in
    let hs = a.header_slots.now in
    let s = session_of a.session a.slots.now hs in
    let x = c.in-Ok.s in
    let y = c.try_stanza-step.result in
    let h = sym c.read-first.ensures ∙ ap read_said c.in-Ok.is in
    let tried = c.try_stanza-step.ensures.outcome b.second long in
    let turn = ap (turn_at client) (turn_second a.session.phase two) in
    let after = session_of y.session c.try_stanza-step.new.slots hs in
    c.fits.ensures (awaited_behind client after.phase a.front.now) (ahead_buffers s b a.front.now a.text.now x.line x.body x.taken (taking_said y.answer) after a.room turn h tried) (ahead_long s b a.front.now a.text.now x.line x.body x.taken (taking_said y.answer) after a.room turn h tried a.errors a.stanzas a.returned long)
    ∙ ahead_on_room s b a.front.now a.text.now x.line x.body x.taken (taking_said y.answer) after a.room turn h tried _ _ _ (ap taking_said c.in-Ok-answer.is) (search rules)
