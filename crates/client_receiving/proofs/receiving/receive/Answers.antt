-- Out of turn and without room everything stays; a chunk that does not end its stanza is kept or closes; else what was received is what the chunk came to.
use Prim.Native.Nat.{◌≤◌, min}
use mathlib.Core.Path.{refl, sym, ap, subst, ◌∙◌}
use mathlib.Core.List.{[]}
use Rattle.std.specs.Prelude.{Ok}
use lib.ListN.{length}
use native.Mathlib.Omega.{arith}
use borrow.Author.Tests.{not-true, not-false}
use Rattle.refusal.specs.Verdict.{verdict_said}
use Rattle.refusal.specs.Number.{number_of}
use Rattle.refusal.proofs.Laws.Number.{number_not_zero}
use Rattle.stanza.specs.Resuming.{place_said, continued_said, unfinished}
use Rattle.phase_one.specs.PhaseOne.{BuffersOne}
use Rattle.conversation.proofs.Laws.ReceivingTwo.{turn_second}
use Rattle.chunks.specs.Taking.{client, turn_at, reads}
use Rattle.chunks.specs.Chunks.{is_held, untaken, taken}
use Rattle.intake.specs.Fronts.{input_behind, OneByteSays, Answered}
use Rattle.intake.specs.Intake.{intake_of, stored_in}
use Rattle.client_receiving.specs.Texts.{lent, Answers}
use Rattle.client_receiving.proofs.Laws.Texts.{none_lent}
use Rattle.client_receiving.proofs.Laws.Receiving.{out_of_turn, no_room, with_room, untaken_input}
use Rattle.client_receiving.proofs.receiving.receive.Goals as goal

pub returns-in-Err : goal.returns-in-Err
returns-in-Err c = let a = c.args in
    let n = sym (ap verdict_said c.in-Err.is) ∙ c.turn_two-turn.ensures in
    let i = intake_of client a.session a.slots.now a.header_slots.now a.input.now in
    let f = c.leave.ensures.outcome client a.slots.now a.header_slots.now a.input.now in
    record {
      outcome = (λ b. let l = lent b a.errors.now a.stanzas.now a.returned.now in f l a.out.now ∙ out_of_turn i l a.chunk.now a.out.now (number_of c.in-Err.r) n (number_not_zero c.in-Err.r));
      input = untaken_input a.session a.slots.now a.header_slots.now a.input.now (number_of c.in-Err.r) _ a.out.now c.leave.result (f (lent none_lent [] [] []) a.out.now);
      name = c.leave.ensures.name;
    }

pub returns-in-Some : goal.returns-in-Some
returns-in-Some c = let a = c.args in
    let x = a.chunk.now in
    let o = a.input.now in
    let xs = a.slots.now in
    let hs = a.header_slots.now in
    let out = a.out.now in
    let k = min a.session.kept 8191 in
    let n = sym (ap verdict_said c.in_default.is) ∙ c.turn_two-turn.ensures in
    let second = turn_second a.session.phase (sym n) in
    let g = c.read_one-one in
    let s = subst (OneByteSays reads a.session.reading k x o g.new.input) c.in-Some.is g.ensures in
    let long : 8192 ≤ length o = omega (arith, c.read_one-arg-1.given) in
    let answered : (b : BuffersOne) → Answered client a.session x c.keep_on.result xs hs o g.new.input (lent b a.errors.now a.stanzas.now a.returned.now) out = λ b. subst (λ i. Answered client a.session x c.keep_on.result xs hs o i (lent b a.errors.now a.stanzas.now a.returned.now) out) (sym s.2) (c.keep_on.ensures.outcome client xs hs o (lent b a.errors.now a.stanzas.now a.returned.now) out (ap (turn_at client) second) long s.1) in
    record {
      outcome = λ b. (answered b).outcome;
      input = (answered none_lent).input;
      name = c.keep_on.ensures.name;
    }

pub returns-in-Ok-Unfinished : goal.returns-in-Ok-Unfinished
returns-in-Ok-Unfinished c = let a = c.args in
    let x = a.chunk.now in
    let o = a.input.now in
    let xs = a.slots.now in
    let hs = a.header_slots.now in
    let out = a.out.now in
    let k = min a.session.kept 8191 in
    let n = sym (ap verdict_said c.in_default.is) ∙ c.turn_two-turn.ensures in
    let second = turn_second a.session.phase (sym n) in
    let g = c.read_one-one in
    let f = c.read_front-front in
    let same = subst (OneByteSays reads a.session.reading k x o g.new.input) c.in_default-one.is g.ensures in
    let front = sym f.ensures.front ∙ ap continued_said (c.in-Ok-Unfinished.is ∙ ap Ok (rw c.in-Ok-Unfinished.is at c.in-Ok-Unfinished.field-0-is)) in
    let input = f.ensures.input ∙ ap (λ r. input_behind (continued_said r) k x g.new.input) (c.in-Ok-Unfinished.is ∙ ap Ok (rw c.in-Ok-Unfinished.is at c.in-Ok-Unfinished.field-0-is)) in
    let i = f.new.input in
    let long : 8192 ≤ length o = omega (arith, c.read_one-arg-1.given) in
    let answered : (b : BuffersOne) → Answered client a.session x c.keep_on-in-Ok-Unfinished.result xs hs o (i) (lent b a.errors.now a.stanzas.now a.returned.now) out = λ b. subst (λ i. Answered client a.session x c.keep_on-in-Ok-Unfinished.result xs hs o i (lent b a.errors.now a.stanzas.now a.returned.now) out) (sym (input ∙ ap (input_behind (unfinished (place_said c.in-Ok-Unfinished.place)) k x) same)) (c.keep_on-in-Ok-Unfinished.ensures.outcome client xs hs o (lent b a.errors.now a.stanzas.now a.returned.now) out (ap (turn_at client) second) long front) in
    record {
      outcome = λ b. (answered b).outcome;
      input = (answered none_lent).input;
      name = c.keep_on-in-Ok-Unfinished.ensures.name;
    }

pub returns-in-Err-front : goal.returns-in-Err-front
returns-in-Err-front c = let a = c.args in
    let x = a.chunk.now in
    let o = a.input.now in
    let xs = a.slots.now in
    let hs = a.header_slots.now in
    let out = a.out.now in
    let k = min a.session.kept 8191 in
    let n = sym (ap verdict_said c.in_default.is) ∙ c.turn_two-turn.ensures in
    let second = turn_second a.session.phase (sym n) in
    let g = c.read_one-one in
    let f = c.read_front-front in
    let same = subst (OneByteSays reads a.session.reading k x o g.new.input) c.in_default-one.is g.ensures in
    let front = sym f.ensures.front ∙ ap continued_said c.in-Err-front.is in
    let input = f.ensures.input ∙ ap (λ r. input_behind (continued_said r) k x g.new.input) c.in-Err-front.is in
    let i = f.new.input in
    let long : 8192 ≤ length o = omega (arith, c.read_one-arg-1.given) in
    let answered : (b : BuffersOne) → Answered client a.session x c.close.result xs hs o (i) (lent b a.errors.now a.stanzas.now a.returned.now) out = λ b. subst (λ i. Answered client a.session x c.close.result xs hs o i (lent b a.errors.now a.stanzas.now a.returned.now) out) (sym (input ∙ same)) (c.close.ensures.outcome client xs hs o x (lent b a.errors.now a.stanzas.now a.returned.now) out (ap (turn_at client) second) long front) in
    record {
      outcome = λ b. (answered b).outcome;
      input = (answered none_lent).input;
      name = c.close.ensures.name;
    }

pub has_room-requires : goal.has_room-requires
has_room-requires c = let a = c.args in
    let x = a.chunk.now in
    let o = a.input.now in
    let k = min a.session.kept 8191 in
    let g = c.read_one-one in
    let f = c.read_front-front in
    let same = subst (OneByteSays reads a.session.reading k x o g.new.input) c.in_default-one.is g.ensures in
    let front = sym f.ensures.front ∙ ap continued_said (c.in-Ok-Whole.is ∙ ap Ok (rw c.in-Ok-Whole.is at c.in-Ok-Whole.field-0-is)) in
    let input = f.ensures.input ∙ ap (λ r. input_behind (continued_said r) k x g.new.input) (c.in-Ok-Whole.is ∙ ap Ok (rw c.in-Ok-Whole.is at c.in-Ok-Whole.field-0-is)) in
    let i = f.new.input in
    let long : 8192 ≤ length o = omega (arith, c.read_one-arg-1.given) in
    (front, subst (λ i. 8192 ≤ length i) (sym (input ∙ same)) long)

pub returns-then-not-has_room : goal.returns-then-not-has_room
returns-then-not-has_room c = let a = c.args in
    let x = a.chunk.now in
    let o = a.input.now in
    let xs = a.slots.now in
    let hs = a.header_slots.now in
    let out = a.out.now in
    let k = min a.session.kept 8191 in
    let n = sym (ap verdict_said c.in_default.is) ∙ c.turn_two-turn.ensures in
    let g = c.read_one-one in
    let f = c.read_front-front in
    let same = subst (OneByteSays reads a.session.reading k x o g.new.input) c.in_default-one.is g.ensures in
    let input = f.ensures.input ∙ ap (λ r. input_behind (continued_said r) k x g.new.input) (c.in-Ok-Whole.is ∙ ap Ok (rw c.in-Ok-Whole.is at c.in-Ok-Whole.field-0-is)) in
    let i = f.new.input in
    let e = c.leave-then-not-has_room.ensures.outcome client xs hs i in
    record {
      outcome = λ b. let l = lent b a.errors.now a.stanzas.now a.returned.now in
          e l out
          ∙ ap (λ i. untaken 15 (intake_of client a.session xs hs i) l out) (input ∙ same)
          ∙ no_room (intake_of client a.session xs hs o) l x out n (ap (λ i. is_held (taken client (intake_of client a.session xs hs i) l x) out) (sym (input ∙ same)) ∙ sym (c.has_room.ensures l (record { errors = refl; stanzas = refl; returned = refl }) (sym n)) ∙ not-true c.has_room.result c.if-not-has_room.true-raw);
      input = untaken_input a.session xs hs i 15 _ out c.leave-then-not-has_room.result (e (lent none_lent [] [] []) out)
          ∙ ap (stored_in (intake_of client c.leave-then-not-has_room.result.session xs hs i)) (input ∙ same);
      name = c.leave-then-not-has_room.ensures.name;
    }

pub receive_held-requires : goal.receive_held-requires
receive_held-requires c = let a = c.args in
    let x = a.chunk.now in
    let o = a.input.now in
    let k = min a.session.kept 8191 in
    let n = sym (ap verdict_said c.in_default.is) ∙ c.turn_two-turn.ensures in
    let second = turn_second a.session.phase (sym n) in
    let g = c.read_one-one in
    let f = c.read_front-front in
    let same = subst (OneByteSays reads a.session.reading k x o g.new.input) c.in_default-one.is g.ensures in
    let front = sym f.ensures.front ∙ ap continued_said (c.in-Ok-Whole.is ∙ ap Ok (rw c.in-Ok-Whole.is at c.in-Ok-Whole.field-0-is)) in
    let input = f.ensures.input ∙ ap (λ r. input_behind (continued_said r) k x g.new.input) (c.in-Ok-Whole.is ∙ ap Ok (rw c.in-Ok-Whole.is at c.in-Ok-Whole.field-0-is)) in
    let i = f.new.input in
    let long : 16384 ≤ length o = omega (arith, c.read_one-arg-1.given) in
    record {
      phase_value = (second, subst (λ i. 16384 ≤ length i) (sym (input ∙ same)) long, front);
      out_value = λ b. let l = lent b a.errors.now a.stanzas.now a.returned.now in sym (c.has_room.ensures l (record { errors = refl; stanzas = refl; returned = refl }) (sym n)) ∙ not-false c.has_room.result c.if-not-has_room.false-raw;
    }

pub returns : goal.returns
returns c = let a = c.args in
    let x = a.chunk.now in
    let o = a.input.now in
    let xs = a.slots.now in
    let hs = a.header_slots.now in
    let out = a.out.now in
    let k = min a.session.kept 8191 in
    let n = sym (ap verdict_said c.in_default.is) ∙ c.turn_two-turn.ensures in
    let g = c.read_one-one in
    let f = c.read_front-front in
    let same = subst (OneByteSays reads a.session.reading k x o g.new.input) c.in_default-one.is g.ensures in
    let input = f.ensures.input ∙ ap (λ r. input_behind (continued_said r) k x g.new.input) (c.in-Ok-Whole.is ∙ ap Ok (rw c.in-Ok-Whole.is at c.in-Ok-Whole.field-0-is)) in
    let i = f.new.input in
    let h = c.receive_held in
    let m = h.new in
    let answers : (b : BuffersOne) → Answers h.result m.slots hs o m.input (lent b m.errors m.stanzas m.returned) out m.out (taken client (intake_of client a.session xs hs o) (lent b a.errors.now a.stanzas.now a.returned.now) x) = λ b. subst (λ i. Answers h.result m.slots hs i m.input (lent b m.errors m.stanzas m.returned) out m.out (taken client (intake_of client a.session xs hs i) (lent b a.errors.now a.stanzas.now a.returned.now) x)) (input ∙ same) (h.ensures.outcome b) in
    record {
      outcome = λ b. let l = lent b a.errors.now a.stanzas.now a.returned.now in
          with_room (intake_of client a.session xs hs o) l x out n (ap (λ i. is_held (taken client (intake_of client a.session xs hs i) l x) out) (sym (input ∙ same)) ∙ sym (c.has_room.ensures l (record { errors = refl; stanzas = refl; returned = refl }) (sym n)) ∙ not-false c.has_room.result c.if-not-has_room.false-raw) h.result m.slots hs o m.input (lent b m.errors m.stanzas m.returned) m.out (answers b);
      input = (answers none_lent).says.input;
      name = h.ensures.name;
    }
