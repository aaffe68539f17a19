-- By whether a stanza is unfinished: the chunk is a text from its start on, or one whole stanza and the text behind it.
use Prim.Native.Nat.{min}
use mathlib.Core.Path.{sym, ap, ◌∙◌, subst}
use mathlib.Core.List.{◌++◌}
use lib.ListN.{take, drop}
use native.Mathlib.Omega.{arith}
use Rattle.stanza.specs.Resuming.{whole}
use Rattle.session.specs.Session.{session_of}
use Rattle.chunks.specs.Chunks.{is_held}
use Rattle.intake.proofs.Laws.Fronts.{front_within}
use Rattle.client_room.specs.Room.{stanza_ahead}
use Rattle.client_receiving.specs.Texts.{lent, Answers}
use Rattle.client_receiving.proofs.Laws.Receiving.{start_is, whole_is}
use Rattle.client_receiving.proofs.receiving.receive_held.Goals as goal

pub take_text-requires : goal.take_text-requires
take_text-requires c = let a = c.args in
    let p = c.requires in
    let g = c.begin in
    record {
      few = omega (arith, ap (λ r. r.count) g.ensures);
      within = omega (arith, ap (λ r. r.written) g.ensures);
      long = p.phase_value.1;
      held = λ b. ap (λ t. is_held t a.out.now) (start_is a.session a.slots.now a.header_slots.now a.input.now a.chunk.now (lent b a.errors.now a.stanzas.now a.returned.now) p.phase_value.0 (omega (arith, p.phase_value.1)) g.result a.out.now (p.phase_value.2 ∙ ap whole c.if-k-eq0.true) (ap (λ r. r.count) g.ensures) (ap (λ r. r.last) g.ensures) (ap (λ r. r.written) g.ensures) (ap (λ r. r.session) g.ensures)) ∙ p.out_value b;
    }

pub returns-then-k-eq0 : goal.returns-then-k-eq0
returns-then-k-eq0 c = let a = c.args in
    let p = c.requires in
    let g = c.begin in
    let f = c.take_text in
    record {
      outcome = (λ b. subst (λ t. Answers f.result f.new.slots a.header_slots.now a.input.now f.new.input (lent b f.new.errors f.new.stanzas f.new.returned) a.out.now f.new.out t) (start_is a.session a.slots.now a.header_slots.now a.input.now a.chunk.now (lent b a.errors.now a.stanzas.now a.returned.now) p.phase_value.0 (omega (arith, p.phase_value.1)) g.result a.out.now (p.phase_value.2 ∙ ap whole c.if-k-eq0.true) (ap (λ r. r.count) g.ensures) (ap (λ r. r.last) g.ensures) (ap (λ r. r.written) g.ensures) (ap (λ r. r.session) g.ensures)) (f.ensures.outcome b));
      name = f.ensures.name ∙ ap (λ r. r.session.name) g.ensures;
    }

pub take_joined-requires : goal.take_joined-requires
take_joined-requires c = let a = c.args in
    let p = c.requires in
    let k = c.kept_of-kept.ensures in
    let w = front_within a.session.reading (min a.session.kept 8191) a.chunk.now a.k p.phase_value.2 (omega arith) in
    record {
      phase_value = (p.phase_value.0, w.0, omega (arith, w.1, k), p.phase_value.1);
      out_value = λ b. ap (λ t. is_held t a.out.now) (ap (λ n. stanza_ahead (session_of a.session a.slots.now a.header_slots.now) (lent b a.errors.now a.stanzas.now a.returned.now) (take n a.input.now ++ take a.k a.chunk.now) (drop a.k a.chunk.now)) (k) ∙ sym (whole_is a.session a.slots.now a.header_slots.now a.input.now a.chunk.now (lent b a.errors.now a.stanzas.now a.returned.now) p.phase_value.0 (omega (arith, p.phase_value.1)) a.k p.phase_value.2 c.if-k-eq0.false)) ∙ p.out_value b;
    }

pub returns : goal.returns
returns c = let a = c.args in
    let p = c.requires in
    let k = c.kept_of-kept.ensures in
    let f = c.take_joined in
    record {
      outcome = (λ b. subst (λ t. Answers f.result f.new.slots a.header_slots.now a.input.now f.new.input (lent b f.new.errors f.new.stanzas f.new.returned) a.out.now f.new.out t) (ap (λ n. stanza_ahead (session_of a.session a.slots.now a.header_slots.now) (lent b a.errors.now a.stanzas.now a.returned.now) (take n a.input.now ++ take a.k a.chunk.now) (drop a.k a.chunk.now)) (k) ∙ sym (whole_is a.session a.slots.now a.header_slots.now a.input.now a.chunk.now (lent b a.errors.now a.stanzas.now a.returned.now) p.phase_value.0 (omega (arith, p.phase_value.1)) a.k p.phase_value.2 c.if-k-eq0.false)) (f.ensures.outcome b));
      name = f.ensures.name;
    }
