-- A number is that of the tests before anything is written; else 15 of the whole is left, with what was kept back or with nothing.
use mathlib.Core.Path.{sym, ap, ◌∙◌}
use mathlib.Core.List.{[]}
use native.Mathlib.Omega.{arith}
use Rattle.refusal.specs.Number.{number_of}
use Rattle.refusal.specs.Output.{said}
use Rattle.session.specs.Session.{session_of}
use Rattle.chunks.specs.Taking.{client}
use Rattle.chunks.specs.Chunks.{judged}
use Rattle.intake.specs.Intake.{intake_of}
use Rattle.client_receiving.specs.Replying.{answered_with}
use Rattle.client_receiving.specs.Texts.{lent}
use Rattle.client_receiving.proofs.Laws.Texts.{none_lent}
use Rattle.client_receiving.proofs.Laws.Receiving.{untaken_input}
use Rattle.client_receiving.proofs.Laws.Replying.{reply_refused, reply_fits, back_none}
use borrow.Author.Rules.{rules}
use Rattle.client_receiving.proofs.replying.reply.Goals as goal

pub reply_ahead-requires : goal.reply_ahead-requires
reply_ahead-requires c = let a = c.args in
    let n = c.in-Ok.size in
    let z = reply_fits (intake_of client a.session a.slots.now a.header_slots.now a.input.now) (lent none_lent [] [] []) a.response a.body.now a.out.now n
    (sym (ap said c.in-Ok.is) ∙ c.reply_size-sized.ensures) in
    (z.writable, z.size, search rules)

pub returns-then-session-eq0 : goal.returns-then-session-eq0
returns-then-session-eq0 c = let a = c.args in
    let n = c.in-Ok.size in
    let xs = a.slots.now in
    let hs = a.header_slots.now in
    let i = intake_of client a.session xs hs a.input.now in
    let h = sym (ap said c.in-Ok.is) ∙ c.reply_size-sized.ensures in
    let f = c.reply_ahead in
    record {
      outcome = (λ b. let l = lent b a.errors.now a.stanzas.now a.returned.now in
          let z = reply_fits i l a.response a.body.now a.out.now n h in
          f.ensures.outcome b
          ∙ ap (λ x. judged i l a.out.now (answered_with (session_of a.session xs hs) l a.response a.body.now x)) (sym (back_none a.session xs hs a.input.now z.waits (omega (arith, c.if-session-eq0.true))))
          ∙ z.same);
      input = f.ensures.input;
      name = f.ensures.name;
    }

pub reply_back-requires : goal.reply_back-requires
reply_back-requires c = let a = c.args in
    let n = c.in-Ok.size in
    let z = reply_fits (intake_of client a.session a.slots.now a.header_slots.now a.input.now) (lent none_lent [] [] []) a.response a.body.now a.out.now n
    (sym (ap said c.in-Ok.is) ∙ c.reply_size-sized.ensures) in
    (z.writable, z.size, search rules, z.waits)

pub returns-in-Err : goal.returns-in-Err
returns-in-Err c = let a = c.args in
    let xs = a.slots.now in
    let hs = a.header_slots.now in
    let f = c.leave.ensures.outcome client xs hs a.input.now in
    record {
      outcome = (λ b. let l = lent b a.errors.now a.stanzas.now a.returned.now in
          f l a.out.now
          ∙ reply_refused (intake_of client a.session xs hs a.input.now) l a.response a.body.now a.out.now (number_of c.in-Err.r) (sym (ap said c.in-Err.is) ∙ c.reply_size-sized.ensures));
      input = untaken_input a.session xs hs a.input.now (number_of c.in-Err.r) _ a.out.now c.leave.result (f (lent none_lent [] [] []) a.out.now);
      name = c.leave.ensures.name;
    }

pub returns-else-session-eq0 : goal.returns-else-session-eq0
returns-else-session-eq0 c = let a = c.args in
    let n = c.in-Ok.size in
    let i = intake_of client a.session a.slots.now a.header_slots.now a.input.now in
    let h = sym (ap said c.in-Ok.is) ∙ c.reply_size-sized.ensures in
    let f = c.reply_back in
    record {
      outcome = (λ b. f.ensures.outcome b ∙ (reply_fits i (lent b a.errors.now a.stanzas.now a.returned.now) a.response a.body.now a.out.now n h).same);
      input = f.ensures.input;
      name = f.ensures.name;
    }
