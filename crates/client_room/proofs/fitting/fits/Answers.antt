-- The invariant: what is left has room in what is left of the output exactly where the whole text has.
use Rattle.refusal.specs.Number.{number_of}
use Rattle.stanza.specs.Reading.{read_said}
use Rattle.client_room.specs.Stanzas.{taking_said}
use Rattle.client_room.proofs.Laws.Room.{turn_rest, turn_refused, turn_short, turn_long, turn_on, next_within, on_turn}
use mathlib.Core.Path.{refl, sym, ap, ◌∙◌}
use native.Mathlib.Omega.{arith}
use borrow.Author.Rules.{rules}
use Rattle.session.specs.Session.{session_of}
use Rattle.chunks.specs.Taking.{client, turn_at}
use Rattle.client_room.proofs.fitting.fits.Goals as goal

pub loop-s-init : goal.loop-s-init
loop-s-init c = (omega arith, λ aw b l. record { awaited = aw; buffers = b; long = l; same = refl })

pub returns : goal.returns
returns c = λ aw b long.
    let a = c.args in
    let q = c.loop-s in
    let z = q.invariant.1 aw b long in
    c.is_keepable.ensures
    ∙ turn_rest (session_of q.so_far q.slots a.header_slots.now) z.buffers z.awaited a.text.now q.at q.left (number_of c.in_default.field-0)
    (sym (ap read_said c.in_default.is) ∙ c.next_stanza.ensures) ∙ sym z.same

pub returns-in-Err : goal.returns-in-Err
returns-in-Err c = λ aw b long.
    let a = c.args in
    let q = c.loop-s in
    let hs = a.header_slots.now in
    let z = q.invariant.1 aw b long in
    let x = c.in-Ok.s in
    let y = c.try_stanza-step.result in
    let h = sym (ap read_said c.in-Ok.is) ∙ c.next_stanza.ensures in
    let tried = c.try_stanza-step.ensures.outcome z.buffers.second z.long in
    turn_refused (session_of q.so_far q.slots hs) z.buffers z.awaited a.text.now q.at x.line x.body x.taken (taking_said y.answer) (session_of y.session c.try_stanza-step.new.slots hs) q.left h tried (number_of c.in-Err.field-0) (ap taking_said c.in-Err.is) ∙ sym z.same

pub returns-then-left-size : goal.returns-then-left-size
returns-then-left-size c = λ aw b long.
    let a = c.args in
    let q = c.loop-s in
    let hs = a.header_slots.now in
    let z = q.invariant.1 aw b long in
    let x = c.in-Ok.s in
    let y = c.try_stanza-step.result in
    let h = sym (ap read_said c.in-Ok.is) ∙ c.next_stanza.ensures in
    let tried = c.try_stanza-step.ensures.outcome z.buffers.second z.long in
    turn_short (session_of q.so_far q.slots hs) z.buffers z.awaited a.text.now q.at x.line x.body x.taken (taking_said y.answer) (session_of y.session c.try_stanza-step.new.slots hs) q.left h tried _ _ _ (ap taking_said c.in-Ok-answer.is) c.if-left-size.true ∙ sym z.same

pub overflow_add-at : goal.overflow_add-at
overflow_add-at c = let a = c.args in
    let q = c.loop-s in
    let x = c.in-Ok.s in
    let h = sym (ap read_said c.in-Ok.is) ∙ c.next_stanza.ensures in
    let w = next_within (turn_at client q.so_far.phase) a.text.now q.at x.line x.body x.taken h q.invariant.0 in
    omega (arith, c.well_formed)

pub loop-s-smaller : goal.loop-s-smaller
loop-s-smaller c = let a = c.args in
    let q = c.loop-s in
    let x = c.in-Ok.s in
    let h = sym (ap read_said c.in-Ok.is) ∙ c.next_stanza.ensures in
    let w = next_within (turn_at client q.so_far.phase) a.text.now q.at x.line x.body x.taken h q.invariant.0 in
    omega arith

pub loop-s-preserved : goal.loop-s-preserved
loop-s-preserved c = let a = c.args in
    let q = c.loop-s in
    let x = c.in-Ok.s in
    let h = sym (ap read_said c.in-Ok.is) ∙ c.next_stanza.ensures in
    let w = next_within (turn_at client q.so_far.phase) a.text.now q.at x.line x.body x.taken h q.invariant.0 in
    let hs = a.header_slots.now in
    let y = c.try_stanza-step.result in (
      w.2,
      λ aw b long.
          let z = q.invariant.1 aw b long in
          let s = session_of q.so_far q.slots hs in
          let after = session_of y.session c.try_stanza-step.new.slots hs in
          let tried = c.try_stanza-step.ensures.outcome z.buffers.second z.long in
          record {
            awaited = _;
            buffers = on_turn s z.buffers z.awaited a.text.now q.at x.line x.body x.taken (taking_said y.answer) after q.left h tried;
            long = turn_long s z.buffers z.awaited a.text.now q.at x.line x.body x.taken (taking_said y.answer) after q.left h tried a.errors a.stanzas a.returned z.long;
            same = z.same ∙ turn_on s z.buffers z.awaited a.text.now q.at x.line x.body x.taken (taking_said y.answer) after q.left h tried _ _ _ (ap taking_said c.in-Ok-answer.is) (search rules);
          },
    )
