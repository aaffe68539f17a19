-- Invariant: the text comes to what is left of it comes to behind the answer so far.
use borrow.Author.Rules.{rules}
use mathlib.Core.Path.{refl, sym, ap, ◌∙◌}
use native.Mathlib.Omega.{arith}
use Rattle.refusal.specs.Number.{number_of}
use Rattle.stanza.specs.Reading.{read_said}
use Rattle.session.specs.Session.{Carried}
use Rattle.phase_one.specs.PhaseOne as one
use Rattle.conversation.specs.Kinds.{buffers_of}
use Rattle.plugin_receiving.specs.Commands.{comes_to}
use Rattle.plugin_receiving.proofs.Laws.Commands.{says_same, stanza_not_refused, part_is, stanza_within, advanced}
use Rattle.plugin_receiving.proofs.commands.receive_text.Goals as goal

pub loop-s-init : goal.loop-s-init
loop-s-init c = let p = c.requires in
    (omega arith, omega (arith, p.so_far_bound), p.none_due, λ d. refl, refl, refl, refl, refl, refl, refl)

pub slice_bounds-next_command-count : goal.slice_bounds-next_command-count
slice_bounds-next_command-count c = omega (arith, c.loop-s.invariant.0)

pub slice_bounds-next_command-start : goal.slice_bounds-next_command-start
slice_bounds-next_command-start c = omega (arith, c.loop-s.invariant.0)

pub slice_bounds-next_command-end : goal.slice_bounds-next_command-end
slice_bounds-next_command-end c = omega (arith, c.loop-s.invariant.0)

pub slice_bounds-settle_commands-count : goal.slice_bounds-settle_commands-count
slice_bounds-settle_commands-count c = omega (arith, c.loop-s.invariant.0)

pub slice_bounds-settle_commands-start : goal.slice_bounds-settle_commands-start
slice_bounds-settle_commands-start c = omega (arith, c.loop-s.invariant.0)

pub slice_bounds-settle_commands-end : goal.slice_bounds-settle_commands-end
slice_bounds-settle_commands-end c = omega (arith, c.loop-s.invariant.0)

pub settle_commands-requires : goal.settle_commands-requires
settle_commands-requires c = record {
  none_due = c.loop-s.invariant.2;
  in_bounds = search rules;
  by_index = λ l m k e. stanza_not_refused (number_of c.in_default.field-0) l m k (sym (ap read_said c.in_default.is) ∙ c.next_command.ensures ∙ e);
}

pub shape_of-recipients : goal.shape_of-recipients
shape_of-recipients c = c.loop-s.invariant.4

pub shape_of-identities : goal.shape_of-identities
shape_of-identities c = c.loop-s.invariant.5

pub shape_of-keys : goal.shape_of-keys
shape_of-keys c = c.loop-s.invariant.6

pub shape_of-headers : goal.shape_of-headers
shape_of-headers c = c.loop-s.invariant.7

pub returns : goal.returns
returns c = let a = c.args in
    let l = c.loop-s in
    let n = c.settle_commands in
    record {
      outcome = λ d. says_same n.result l.slots l.header_slots a.input.now a.input.now n.new.input (buffers_of (one.buffers_of l.recipients l.identities l.keys l.headers) d) _ _ refl (ap (comes_to l.answer l.slots l.header_slots (buffers_of (one.buffers_of l.recipients l.identities l.keys l.headers) d)) (part_is a.text.now l.at) ∙ sym (l.invariant.3 d)) (n.ensures.outcome l.slots l.header_slots (buffers_of (one.buffers_of l.recipients l.identities l.keys l.headers) d));
      rest = (n.ensures.rest.0 ∙ l.invariant.8, n.ensures.rest.1 ∙ l.invariant.9);
    }

pub slice_bounds-receive_stanza-count : goal.slice_bounds-receive_stanza-count
slice_bounds-receive_stanza-count c = omega (arith, c.loop-s.invariant.0)

pub slice_bounds-receive_stanza-start : goal.slice_bounds-receive_stanza-start
slice_bounds-receive_stanza-start c = omega (arith, c.loop-s.invariant.0)

pub slice_bounds-receive_stanza-end : goal.slice_bounds-receive_stanza-end
slice_bounds-receive_stanza-end c = omega (arith, c.loop-s.invariant.0)

pub answer_behind-answer-requires : goal.answer_behind-answer-requires
answer_behind-answer-requires c = omega (arith, c.well_formed, c.loop-s.invariant.0, c.loop-s.invariant.1)

pub overflow_add-at : goal.overflow_add-at
overflow_add-at c = let a = c.args in
    let l = c.loop-s in
    omega (arith, c.well_formed, stanza_within l.answer a.text.now l.at l.invariant.0 c.in-Ok.s (sym (ap read_said c.in-Ok.is) ∙ c.next_command.ensures))

pub loop-s-smaller : goal.loop-s-smaller
loop-s-smaller c = let a = c.args in
    let l = c.loop-s in
    let n = c.receive_stanza-receipt in
    let v = advanced l.answer a.text.now l.at l.invariant.0 c.in-Ok.s (sym (ap read_said c.in-Ok.is) ∙ c.next_command.ensures) c.answer_behind-answer.result l.slots l.header_slots n.new.slots n.new.header_slots (one.buffers_of l.recipients l.identities l.keys l.headers) (one.buffers_of n.new.recipients n.new.identities n.new.keys n.new.headers) n.result.answer n.result.session n.ensures.outcome c.answer_behind-answer.ensures in
    omega (arith, v.within, v.long)

pub loop-s-preserved : goal.loop-s-preserved
loop-s-preserved c = let a = c.args in
    let l = c.loop-s in
    let n = c.receive_stanza-receipt in
    let v = advanced l.answer a.text.now l.at l.invariant.0 c.in-Ok.s (sym (ap read_said c.in-Ok.is) ∙ c.next_command.ensures) c.answer_behind-answer.result l.slots l.header_slots n.new.slots n.new.header_slots (one.buffers_of l.recipients l.identities l.keys l.headers) (one.buffers_of n.new.recipients n.new.identities n.new.keys n.new.headers) n.result.answer n.result.session n.ensures.outcome c.answer_behind-answer.ensures in
    (v.within, omega (arith, v.count, v.long, l.invariant.1), v.none_due, λ d. l.invariant.3 d ∙ v.comes d, n.auto.recipients ∙ l.invariant.4, n.auto.identities ∙ l.invariant.5, n.auto.keys ∙ l.invariant.6, n.auto.headers ∙ l.invariant.7, v.written ∙ l.invariant.8, ap (λ s. s.name) v.session ∙ ap (λ (x : Carried). x.name) n.ensures.carried ∙ l.invariant.9)
