-- Without room everything stays; else the text is received behind the response (`reply-takes`, `reply-taken`).
use mathlib.Core.Path.{◌≡◌, refl, sym, ap, ◌∙◌}
use mathlib.Core.Bool.{true, false}
use mathlib.Core.List.{[]}
use borrow.Author.Tests.{not-true, not-false}
use Rattle.stanza.specs.Grammar.{stanza_text}
use Rattle.responses.specs.Responses.{response_line}
use Rattle.session.specs.Session.{session_of}
use Rattle.phase_one.specs.PhaseOne.{BuffersOne}
use Rattle.chunks.specs.Taking.{client}
use Rattle.chunks.specs.Chunks.{is_held}
use Rattle.intake.specs.Intake.{intake_of}
use Rattle.client_receiving.specs.Replying.{answered_with}
use Rattle.client_receiving.specs.Texts.{lent}
use Rattle.client_receiving.proofs.Laws.Texts.{none_lent}
use Rattle.client_receiving.proofs.Laws.Receiving.{judged_short, judged_held, untaken_input}
use Rattle.client_receiving.proofs.Laws.Replying.{begun_with, given_room, reply_takes, reply_taken}
use Rattle.client_receiving.proofs.replying.reply_ahead.Goals as goal

pub returns-then-not-reply_has_room : goal.returns-then-not-reply_has_room
returns-then-not-reply_has_room c = let a = c.args in
    let p = c.requires in
    let y = c.reply_has_room in
    let xs = a.slots.now in
    let hs = a.header_slots.now in
    let f = c.leave.ensures.outcome client xs hs a.input.now in
    record {
      outcome = (λ b. let l = lent b a.errors.now a.stanzas.now a.returned.now in
          f l a.out.now
          ∙ judged_short (intake_of client a.session xs hs a.input.now) l a.out.now (answered_with (session_of a.session xs hs) l a.response a.body.now a.back.now)
          (given_room a.session c.moved-answered.result xs hs l a.response a.body.now a.back.now a.out.now y.result false c.moved-answered.ensures
          (y.ensures (stanza_text (response_line a.response) a.body.now) [] l (sym p.1) (record { errors = refl; stanzas = refl; returned = refl })) (not-true y.result c.if-not-reply_has_room.true-raw)));
      input = untaken_input a.session xs hs a.input.now 15 _ a.out.now c.leave.result (f (lent none_lent [] [] []) a.out.now);
      name = c.leave.ensures.name;
    }

pub take_text-requires : goal.take_text-requires
take_text-requires c = let a = c.args in
    let p = c.requires in
    let y = c.reply_has_room in
    let xs = a.slots.now in
    let hs = a.header_slots.now in
    let held : (b : BuffersOne) → is_held (answered_with (session_of a.session xs hs) (lent b a.errors.now a.stanzas.now a.returned.now) a.response a.body.now a.back.now) a.out.now ≡ true = λ b.
    let l = lent b a.errors.now a.stanzas.now a.returned.now in
    given_room a.session c.moved-answered.result xs hs l a.response a.body.now a.back.now a.out.now y.result true c.moved-answered.ensures
    (y.ensures (stanza_text (response_line a.response) a.body.now) [] l (sym p.1) (record { errors = refl; stanzas = refl; returned = refl })) (not-false y.result c.if-not-reply_has_room.false-raw) in
    reply_takes a.session xs hs a.response a.body.now a.back.now a.out.now _ a.size p.0 p.1 c.begin-begun.result
    (c.begin-begun.ensures ∙ ap (begun_with a.size) c.moved-answered.ensures) c.write.ensures.buffer a.errors.now a.stanzas.now a.returned.now held a.input.now p.2

pub returns : goal.returns
returns c = let a = c.args in
    let p = c.requires in
    let y = c.reply_has_room in
    let xs = a.slots.now in
    let hs = a.header_slots.now in
    let held : (b : BuffersOne) → is_held (answered_with (session_of a.session xs hs) (lent b a.errors.now a.stanzas.now a.returned.now) a.response a.body.now a.back.now) a.out.now ≡ true = λ b.
    let l = lent b a.errors.now a.stanzas.now a.returned.now in
    given_room a.session c.moved-answered.result xs hs l a.response a.body.now a.back.now a.out.now y.result true c.moved-answered.ensures
    (y.ensures (stanza_text (response_line a.response) a.body.now) [] l (sym p.1) (record { errors = refl; stanzas = refl; returned = refl })) (not-false y.result c.if-not-reply_has_room.false-raw) in
    let begun = c.begin-begun.ensures ∙ ap (begun_with a.size) c.moved-answered.ensures in
    let f = c.take_text in
    record {
      outcome = (λ b. let l = lent b a.errors.now a.stanzas.now a.returned.now in
          judged_held (intake_of client a.session xs hs a.input.now) l a.out.now (answered_with (session_of a.session xs hs) l a.response a.body.now a.back.now) (held b)
          f.result f.new.slots hs a.input.now f.new.input _ f.new.out
          (reply_taken a.session xs hs a.response a.body.now a.back.now a.out.now _ a.size p.0 p.1 c.begin-begun.result begun c.write.ensures.buffer
          a.errors.now a.stanzas.now a.returned.now held b f.result f.new.slots a.input.now f.new.input _ _ _ f.new.out (f.ensures.outcome b)));
      input = (f.ensures.outcome none_lent).says.input;
      name = f.ensures.name ∙ ap (λ r. r.session.name) begun;
    }
