-- The chunk's front first: one byte, or any number; then the five phases.
use Prim.Native.Nat.{◌≤◌, min}
use mathlib.Core.Path.{refl, sym, ap, subst, ◌∙◌}
use mathlib.Core.List.{[]}
use Rattle.std.specs.Prelude.{Ok}
use lib.ListN.{length}
use native.Mathlib.Omega.{arith}
use Rattle.refusal.specs.Number.{number_of}
use Rattle.stanza.specs.Resuming.{place_said, continued_said, unfinished}
use Rattle.stanza.specs.Resuming as resuming
use Rattle.phase_one.specs.PhaseOne as one
use Rattle.conversation.specs.Kinds.{buffers_of}
use Rattle.conversation.specs.PhaseTwo as two
use Rattle.chunks.specs.Taking.{plugin, turn_at}
use Rattle.chunks.specs.Chunks.{Outcome, untaken, judged, taken, turn_of}
use Rattle.chunks.proofs.Laws.Cut.{chunk_refused}
use Rattle.chunks.proofs.Laws.Taking.{chunked_read}
use Rattle.intake.specs.Fronts.{front_in, input_behind, OneByteSays, Answered}
use Rattle.intake.specs.Intake.{intake_of, stored_in}
use Rattle.intake.specs.Settling.{Says}
use Rattle.intake.specs.Turns.{turn_said}
use Rattle.intake.proofs.Laws.Fronts.{reading_on, not_unfinished, not_refused, silent_answer}
use Rattle.intake.proofs.Laws.Keeping.{stored_own}
use borrow.Author.Rules.{rules}
use Rattle.plugin_receiving.proofs.phases.receive.Goals as goal

none : two.BuffersTwo
none = two.buffers_of [] [] []

pub returns-in-Some : goal.returns-in-Some
returns-in-Some c = let a = c.args in
    let x = a.chunk.now in
    let o = a.input.now in
    let k = min a.session.kept 8191 in
    let g = c.read_one-one in
    let u = c.turn_plugin-turn in
    let long : 8192 ≤ length o = omega (arith, c.read_one-arg-1.given) in
    let s = subst (OneByteSays (turn_said u.result) a.session.reading k x o g.new.input) c.in-Some.is g.ensures in
    let answered : (d : two.BuffersTwo) → Answered plugin a.session x c.keep_on.result a.slots.now a.header_slots.now o g.new.input (buffers_of (one.buffers_of a.recipients.now a.identities.now a.keys.now a.headers.now) d) a.out.now = λ d. subst (λ i. Answered plugin a.session x c.keep_on.result a.slots.now a.header_slots.now o i (buffers_of (one.buffers_of a.recipients.now a.identities.now a.keys.now a.headers.now) d) a.out.now) (sym s.2) (c.keep_on.ensures.outcome plugin a.slots.now a.header_slots.now o (buffers_of (one.buffers_of a.recipients.now a.identities.now a.keys.now a.headers.now) d) a.out.now (sym u.ensures ∙ s.0) long s.1) in
    record {
      outcome = λ d. (answered d).outcome;
      stored = (answered none).input;
      name = c.keep_on.ensures.name;
    }

pub returns-in-Ok-Unfinished : goal.returns-in-Ok-Unfinished
returns-in-Ok-Unfinished c = let a = c.args in
    let x = a.chunk.now in
    let o = a.input.now in
    let k = min a.session.kept 8191 in
    let g = c.read_one-one in
    let u = c.turn_plugin-turn in
    let f = c.read_front-front in
    let same = subst (OneByteSays (turn_said u.result) a.session.reading k x o g.new.input) c.in_default.is g.ensures in
    let front = sym f.ensures.front ∙ ap continued_said (c.in-Ok-Unfinished.is ∙ ap Ok (rw c.in-Ok-Unfinished.is at c.in-Ok-Unfinished.field-0-is)) in
    let input = f.ensures.input ∙ ap (λ r. input_behind (continued_said r) k x g.new.input) (c.in-Ok-Unfinished.is ∙ ap Ok (rw c.in-Ok-Unfinished.is at c.in-Ok-Unfinished.field-0-is)) in
    let long : 8192 ≤ length o = omega (arith, c.read_one-arg-1.given) in
    let r = reading_on a.session.reading k x (turn_said u.result) (unfinished (place_said c.in-Ok-Unfinished.place)) front (not_unfinished a.session.reading k x (place_said c.in-Ok-Unfinished.place)) in
    let after = input ∙ ap (input_behind (unfinished (place_said c.in-Ok-Unfinished.place)) k x) same in
    let answered : (d : two.BuffersTwo) → Answered plugin a.session x c.keep_on-in-Ok-Unfinished.result a.slots.now a.header_slots.now o f.new.input (buffers_of (one.buffers_of a.recipients.now a.identities.now a.keys.now a.headers.now) d) a.out.now = λ d. subst (λ i. Answered plugin a.session x c.keep_on-in-Ok-Unfinished.result a.slots.now a.header_slots.now o i (buffers_of (one.buffers_of a.recipients.now a.identities.now a.keys.now a.headers.now) d) a.out.now) (sym after) (c.keep_on-in-Ok-Unfinished.ensures.outcome plugin a.slots.now a.header_slots.now o (buffers_of (one.buffers_of a.recipients.now a.identities.now a.keys.now a.headers.now) d) a.out.now (sym u.ensures ∙ r.0) long r.1) in
    record {
      outcome = λ d. (answered d).outcome;
      stored = (answered none).input;
      name = c.keep_on-in-Ok-Unfinished.ensures.name;
    }

pub returns-in-Err : goal.returns-in-Err
returns-in-Err c = let a = c.args in
    let x = a.chunk.now in
    let o = a.input.now in
    let k = min a.session.kept 8191 in
    let g = c.read_one-one in
    let u = c.turn_plugin-turn in
    let f = c.read_front-front in
    let same = subst (OneByteSays (turn_said u.result) a.session.reading k x o g.new.input) c.in_default.is g.ensures in
    let front = sym f.ensures.front ∙ ap continued_said c.in-Err.is in
    let input = f.ensures.input ∙ ap (λ r. input_behind (continued_said r) k x g.new.input) c.in-Err.is in
    let long : 8192 ≤ length o = omega (arith, c.read_one-arg-1.given) in
    let r = reading_on a.session.reading k x (turn_said u.result) (resuming.refused (number_of c.in-Err.r)) front (not_refused a.session.reading k x (number_of c.in-Err.r)) in
    let after = input ∙ same in
    let answered : (d : two.BuffersTwo) → Answered plugin a.session x c.close.result a.slots.now a.header_slots.now o f.new.input (buffers_of (one.buffers_of a.recipients.now a.identities.now a.keys.now a.headers.now) d) a.out.now = λ d. subst (λ i. Answered plugin a.session x c.close.result a.slots.now a.header_slots.now o i (buffers_of (one.buffers_of a.recipients.now a.identities.now a.keys.now a.headers.now) d) a.out.now) (sym after) (c.close.ensures.outcome plugin a.slots.now a.header_slots.now o x (buffers_of (one.buffers_of a.recipients.now a.identities.now a.keys.now a.headers.now) d) a.out.now (sym u.ensures ∙ r.0) long r.1) in
    record {
      outcome = λ d. (answered d).outcome;
      stored = (answered none).input;
      name = c.close.ensures.name;
    }

pub receive_commands-requires : goal.receive_commands-requires
receive_commands-requires c = let a = c.args in
    let x = a.chunk.now in
    let k = min a.session.kept 8191 in
    let u = c.turn_plugin-turn in
    let f = c.read_front-front in
    let front = sym f.ensures.front ∙ ap continued_said (c.in-Ok-Whole.is ∙ ap Ok (rw c.in-Ok-Whole.is at c.in-Ok-Whole.field-0-is)) in
    let one = c.in-One.is in
    record {
      phase_value = one;
      chunk_value = ap (λ t. front_in t a.session.reading k x) (sym (u.ensures ∙ ap (turn_at plugin) one)) ∙ front;
    }

pub receive_due-requires : goal.receive_due-requires
receive_due-requires c = let a = c.args in
    let x = a.chunk.now in
    let k = min a.session.kept 8191 in
    let u = c.turn_plugin-turn in
    let f = c.read_front-front in
    let front = sym f.ensures.front ∙ ap continued_said (c.in-Ok-Whole.is ∙ ap Ok (rw c.in-Ok-Whole.is at c.in-Ok-Whole.field-0-is)) in
    let due = c.in-Awaiting.is in
    record {
      phase_value = due;
      in_bounds = search rules;
      chunk_value = ap (λ t. front_in t a.session.reading k x) (sym (u.ensures ∙ ap (turn_at plugin) due)) ∙ front;
    }

pub returns-in-One : goal.returns-in-One
returns-in-One c = let a = c.args in
    let x = a.chunk.now in
    let o = a.input.now in
    let k = min a.session.kept 8191 in
    let g = c.read_one-one in
    let u = c.turn_plugin-turn in
    let f = c.read_front-front in
    let same = subst (OneByteSays (turn_said u.result) a.session.reading k x o g.new.input) c.in_default.is g.ensures in
    let input = f.ensures.input ∙ ap (λ r. input_behind (continued_said r) k x g.new.input) (c.in-Ok-Whole.is ∙ ap Ok (rw c.in-Ok-Whole.is at c.in-Ok-Whole.field-0-is)) in
    let e = c.receive_commands.ensures in
    let r = c.receive_commands.result in
    let m = c.receive_commands.new in
    let says : (d : two.BuffersTwo) → Says plugin r m.slots m.header_slots o m.input [] (buffers_of (one.buffers_of m.recipients m.identities m.keys m.headers) d) (taken plugin (intake_of plugin a.session a.slots.now a.header_slots.now o) (buffers_of (one.buffers_of a.recipients.now a.identities.now a.keys.now a.headers.now) d) x) = λ d. subst (λ i. Says plugin r m.slots m.header_slots i m.input [] (buffers_of (one.buffers_of m.recipients m.identities m.keys m.headers) d) (taken plugin (intake_of plugin a.session a.slots.now a.header_slots.now i) (buffers_of (one.buffers_of a.recipients.now a.identities.now a.keys.now a.headers.now) d) x)) (input ∙ same) (e.outcome d) in
    record {
      outcome = λ d. silent_answer plugin r _ _ _ _ (buffers_of (one.buffers_of a.recipients.now a.identities.now a.keys.now a.headers.now) d) _ (intake_of plugin a.session a.slots.now a.header_slots.now o) x a.out.now (ap (turn_of plugin) c.in-One.is) e.rest.0 (says d);
      stored = (says none).input;
      name = e.rest.1;
    }

pub returns-in-Two : goal.returns-in-Two
returns-in-Two c = let a = c.args in
    let x = a.chunk.now in
    let o = a.input.now in
    let k = min a.session.kept 8191 in
    let g = c.read_one-one in
    let u = c.turn_plugin-turn in
    let f = c.read_front-front in
    let same = subst (OneByteSays (turn_said u.result) a.session.reading k x o g.new.input) c.in_default.is g.ensures in
    let input = f.ensures.input ∙ ap (λ r. input_behind (continued_said r) k x g.new.input) (c.in-Ok-Whole.is ∙ ap Ok (rw c.in-Ok-Whole.is at c.in-Ok-Whole.field-0-is)) in
    let e = c.drop_chunk.ensures in
    let r = c.drop_chunk.result in
    let says : (d : two.BuffersTwo) → Says plugin r a.slots.now a.header_slots.now o f.new.input [] (buffers_of (one.buffers_of a.recipients.now a.identities.now a.keys.now a.headers.now) d) (taken plugin (intake_of plugin a.session a.slots.now a.header_slots.now o) (buffers_of (one.buffers_of a.recipients.now a.identities.now a.keys.now a.headers.now) d) x) = λ d. subst (λ i. Says plugin r a.slots.now a.header_slots.now i f.new.input [] (buffers_of (one.buffers_of a.recipients.now a.identities.now a.keys.now a.headers.now) d) (taken plugin (intake_of plugin a.session a.slots.now a.header_slots.now i) (buffers_of (one.buffers_of a.recipients.now a.identities.now a.keys.now a.headers.now) d) x)) (input ∙ same) (e.outcome a.slots.now a.header_slots.now (buffers_of (one.buffers_of a.recipients.now a.identities.now a.keys.now a.headers.now) d)) in
    record {
      outcome = λ d. silent_answer plugin r _ _ _ _ (buffers_of (one.buffers_of a.recipients.now a.identities.now a.keys.now a.headers.now) d) _ (intake_of plugin a.session a.slots.now a.header_slots.now o) x a.out.now (ap (turn_of plugin) c.in-Two.is) e.rest.0 (says d);
      stored = (says none).input;
      name = e.rest.1;
    }

pub returns-in-Awaiting : goal.returns-in-Awaiting
returns-in-Awaiting c = let a = c.args in
    let x = a.chunk.now in
    let o = a.input.now in
    let k = min a.session.kept 8191 in
    let g = c.read_one-one in
    let u = c.turn_plugin-turn in
    let f = c.read_front-front in
    let same = subst (OneByteSays (turn_said u.result) a.session.reading k x o g.new.input) c.in_default.is g.ensures in
    let input = f.ensures.input ∙ ap (λ r. input_behind (continued_said r) k x g.new.input) (c.in-Ok-Whole.is ∙ ap Ok (rw c.in-Ok-Whole.is at c.in-Ok-Whole.field-0-is)) in
    let e = c.receive_due.ensures in
    let r = c.receive_due.result in
    let xs = a.slots.now in
    let hs = a.header_slots.now in
    record {
      outcome = λ d. e.outcome xs hs (buffers_of (one.buffers_of a.recipients.now a.identities.now a.keys.now a.headers.now) d)
          ∙ ap (λ i. judged (intake_of plugin a.session xs hs i) (buffers_of (one.buffers_of a.recipients.now a.identities.now a.keys.now a.headers.now) d) a.out.now (taken plugin (intake_of plugin a.session xs hs i) (buffers_of (one.buffers_of a.recipients.now a.identities.now a.keys.now a.headers.now) d) x)) (input ∙ same)
          ∙ sym (chunked_read plugin (intake_of plugin a.session xs hs o) (buffers_of (one.buffers_of a.recipients.now a.identities.now a.keys.now a.headers.now) d) x a.out.now (ap (turn_of plugin) c.in-Awaiting.is));
      stored = e.stored xs hs ∙ ap (stored_in (intake_of plugin r.session xs hs c.receive_due.new.input)) (input ∙ same);
      name = e.name;
    }

pub returns-in-Ended : goal.returns-in-Ended
returns-in-Ended c = let a = c.args in
    let x = a.chunk.now in
    let o = a.input.now in
    let k = min a.session.kept 8191 in
    let g = c.read_one-one in
    let u = c.turn_plugin-turn in
    let f = c.read_front-front in
    let same = subst (OneByteSays (turn_said u.result) a.session.reading k x o g.new.input) c.in_default.is g.ensures in
    let input = f.ensures.input ∙ ap (λ r. input_behind (continued_said r) k x g.new.input) (c.in-Ok-Whole.is ∙ ap Ok (rw c.in-Ok-Whole.is at c.in-Ok-Whole.field-0-is)) in
    let e = c.leave.ensures in
    let xs = a.slots.now in
    let hs = a.header_slots.now in
    let i = f.new.input in
    record {
      outcome = λ d. e.outcome plugin xs hs i (buffers_of (one.buffers_of a.recipients.now a.identities.now a.keys.now a.headers.now) d) a.out.now
          ∙ ap (λ i. untaken 13 (intake_of plugin a.session xs hs i) (buffers_of (one.buffers_of a.recipients.now a.identities.now a.keys.now a.headers.now) d) a.out.now) (input ∙ same)
          ∙ sym (chunk_refused plugin (intake_of plugin a.session xs hs o) (buffers_of (one.buffers_of a.recipients.now a.identities.now a.keys.now a.headers.now) d) 13 x a.out.now (ap (turn_of plugin) c.in-Ended.is) refl);
      stored = sym (stored_own plugin a.session xs hs i)
          ∙ sym (ap (λ (o : Outcome). stored_in o.intake i) (e.outcome plugin xs hs i (buffers_of (one.buffers_of [] [] [] []) none) a.out.now))
          ∙ ap (stored_in (intake_of plugin c.leave.result.session xs hs i)) (input ∙ same);
      name = e.name;
    }

pub returns-in-Closed : goal.returns-in-Closed
returns-in-Closed c = let a = c.args in
    let x = a.chunk.now in
    let o = a.input.now in
    let k = min a.session.kept 8191 in
    let g = c.read_one-one in
    let u = c.turn_plugin-turn in
    let f = c.read_front-front in
    let same = subst (OneByteSays (turn_said u.result) a.session.reading k x o g.new.input) c.in_default.is g.ensures in
    let input = f.ensures.input ∙ ap (λ r. input_behind (continued_said r) k x g.new.input) (c.in-Ok-Whole.is ∙ ap Ok (rw c.in-Ok-Whole.is at c.in-Ok-Whole.field-0-is)) in
    let e = c.leave-in-Closed.ensures in
    let xs = a.slots.now in
    let hs = a.header_slots.now in
    let i = f.new.input in
    record {
      outcome = λ d. e.outcome plugin xs hs i (buffers_of (one.buffers_of a.recipients.now a.identities.now a.keys.now a.headers.now) d) a.out.now
          ∙ ap (λ i. untaken 13 (intake_of plugin a.session xs hs i) (buffers_of (one.buffers_of a.recipients.now a.identities.now a.keys.now a.headers.now) d) a.out.now) (input ∙ same)
          ∙ sym (chunk_refused plugin (intake_of plugin a.session xs hs o) (buffers_of (one.buffers_of a.recipients.now a.identities.now a.keys.now a.headers.now) d) 13 x a.out.now (ap (turn_of plugin) c.in-Closed.is) refl);
      stored = sym (stored_own plugin a.session xs hs i)
          ∙ sym (ap (λ (o : Outcome). stored_in o.intake i) (e.outcome plugin xs hs i (buffers_of (one.buffers_of [] [] [] []) none) a.out.now))
          ∙ ap (stored_in (intake_of plugin c.leave-in-Closed.result.session xs hs i)) (input ∙ same);
      name = e.name;
    }
