-- Nothing is left; or by what reading on gives: no whole stanza stands there.
use mathlib.Core.Path.{◌≡◌, refl, sym, ap, ◌∙◌}
use mathlib.Core.List.{[]}
use native.Mathlib.Omega.{arith}
use Rattle.std.specs.Prelude.{Ok}
use Rattle.session.specs.Session.{session_of}
use Rattle.refusal.specs.Number.{number_of}
use Rattle.stanza.specs.Automaton.{start}
use Rattle.stanza.specs.Resuming.{place_said, continued_said}
use Rattle.stanza.proofs.Laws.Resuming.{whole_iff, unfinished_is}
use Rattle.chunks.proofs.Laws.Taking.{closed_waits}
use Rattle.chunks.specs.Taking.{emptied, keeping, behind}
use Rattle.session.specs.Session.{closed}
use Rattle.intake.specs.Fronts.{input_behind}
use Rattle.intake.specs.Intake.{last_said}
use Rattle.intake.proofs.Laws.Keeping.{front_back, filled_empty}
use Rattle.intake.proofs.Laws.Settling.{reads_waits, behind_last, rest_kept, rest_over, rest_closes}
use Rattle.refusal.specs.Output.{filled}
use Rattle.intake.proofs.keeping.settle_read.Goals as goal

pub returns-then-rest-eq0 : goal.returns-then-rest-eq0
returns-then-rest-eq0 c = let a = c.args in
    let f = a.so_far in
    record {
      outcome = (λ e xs hs w b m.
          let s = session_of f.session xs hs in
          record {
            taken = rw (c.settled.ensures, c.keeping.ensures, reads_waits e f.session.phase m.turn) (sym (ap (behind f.count (last_said f.last) w) (rest_over e s b a.rest.now m.turn c.if-rest-eq0.true) ∙ behind_last f.count (last_said f.last) w 0 (emptied s []) b));
            input = rw (c.settled.ensures, c.keeping.ensures, reads_waits e f.session.phase m.turn) (filled_empty a.input.now);
          });
      rest = (ap (λ r. r.written) c.settled.ensures, ap (λ r. r.session.name) c.settled.ensures ∙ ap (λ s. s.name) c.keeping.ensures);
    }

pub returns-in-Ok-Whole : goal.returns-in-Ok-Whole
returns-in-Ok-Whole c = let a = c.args in
    record {
      outcome = (λ e xs hs w b m. let h = (whole_iff a.rest.now _).0 (sym c.read_more-continued.ensures.front ∙ ap continued_said (c.in-Ok-Whole.is ∙ ap Ok (rw c.in-Ok-Whole.is at c.in-Ok-Whole.field-0-is))) in absurd (m.no_stanza refl h.0 h.1 _ h.2));
      rest = (ap (λ r. r.written) c.settled-in-Ok-Whole.ensures, ap (λ r. r.session.name) c.settled-in-Ok-Whole.ensures ∙ ap (λ s. s.name) c.keeping-in-Ok-Whole.ensures);
    }

pub returns-in-Ok-Unfinished : goal.returns-in-Ok-Unfinished
returns-in-Ok-Unfinished c = let a = c.args in
    let f = a.so_far in
    let rest = a.rest.now in
    let o = a.input.now in
    let q = c.in-Ok-Unfinished.place in
    let g = sym c.read_more-continued.ensures.front ∙ ap continued_said (c.in-Ok-Unfinished.is ∙ ap Ok (rw c.in-Ok-Unfinished.is at c.in-Ok-Unfinished.field-0-is)) in
    let x : c.read_more-continued.new.input ≡ filled rest o = c.read_more-continued.ensures.input ∙ ap (λ q. input_behind (continued_said q) 0 rest o) (c.in-Ok-Unfinished.is ∙ ap Ok (rw c.in-Ok-Unfinished.is at c.in-Ok-Unfinished.field-0-is)) in
    record {
      outcome = (λ e xs hs w b m.
          let s = session_of f.session xs hs in
          let z = front_back rest o (omega (arith, (unfinished_is rest start (place_said q) 0 g).1)) m.long in
          record {
            taken = rw (c.settled-in-Ok-Unfinished.ensures, c.keeping-in-Ok-Unfinished.ensures, reads_waits e f.session.phase m.turn, x, z) (sym (ap (behind f.count (last_said f.last) w) (rest_kept e s b rest m.turn (place_said q) g) ∙ behind_last f.count (last_said f.last) w 0 (keeping s (place_said q) rest []) b));
            input = rw (c.settled-in-Ok-Unfinished.ensures, c.keeping-in-Ok-Unfinished.ensures, reads_waits e f.session.phase m.turn, x, z);
          });
      rest = (ap (λ r. r.written) c.settled-in-Ok-Unfinished.ensures, ap (λ r. r.session.name) c.settled-in-Ok-Unfinished.ensures ∙ ap (λ s. s.name) c.keeping-in-Ok-Unfinished.ensures);
    }

pub returns-in-Err : goal.returns-in-Err
returns-in-Err c = let a = c.args in
    let f = a.so_far in
    let rest = a.rest.now in
    let o = a.input.now in
    let r = c.in-Err.r in
    let g = sym c.read_more-continued.ensures.front ∙ ap continued_said c.in-Err.is in
    let x : c.read_more-continued.new.input ≡ o = c.read_more-continued.ensures.input ∙ ap (λ q. input_behind (continued_said q) 0 rest o) c.in-Err.is in
    record {
      outcome = (λ e xs hs w b m.
          let s = session_of f.session xs hs in
          record {
            taken = rw (c.settled-in-Err.ensures, c.keeping-in-Err.ensures, c.moved-shut.ensures, closed_waits e) (sym (ap (behind f.count (last_said f.last) w) (rest_closes e s b rest m.turn (number_of r) g) ∙ behind_last f.count (last_said f.last) w (number_of r) (emptied (closed s) []) b));
            input = rw (c.settled-in-Err.ensures, c.keeping-in-Err.ensures, c.moved-shut.ensures, closed_waits e) (x ∙ filled_empty o);
          });
      rest = (ap (λ r. r.written) c.settled-in-Err.ensures, ap (λ r. r.session.name) c.settled-in-Err.ensures ∙ ap (λ s. s.name) c.keeping-in-Err.ensures ∙ ap (λ s. s.name) c.moved-shut.ensures);
    }
