-- Nothing is kept; no byte is no fault.
use mathlib.Core.Path.{◌≡◌, sym, ap, ◌∙◌}
use mathlib.Core.Bool.{true, false}
use mathlib.Core.List.{[]}
use lib.ListN.{length}
use Rattle.session.specs.Session.{session_of}
use lib.Dec.{eqb}
use borrow.Author.Tests.{ne_eqb}
use Rattle.refusal.specs.Number.{number_of}
use Rattle.chunks.specs.Taking.{emptied, behind}
use Rattle.intake.specs.Intake.{last_said}
use Rattle.intake.proofs.Laws.Keeping.{filled_empty}
use Rattle.intake.proofs.Laws.Settling.{drops_waits, behind_last, rest_none, rest_some}
use Rattle.intake.proofs.keeping.settle_dropped.Goals as goal

pub returns-then-left-eq0 : goal.returns-then-left-eq0
returns-then-left-eq0 c = let a = c.args in
    let f = a.so_far in
    record {
      outcome = (λ e xs hs w b rest input l m.
          let s = session_of f.session xs hs in
          let n = number_of a.refusal in
          let z : eqb (length rest) 0 ≡ true = ap (λ k. eqb k 0) (l ∙ c.if-left-eq0.true) in
          record {
            taken = rw (c.settled.ensures, c.keeping-emptied.ensures, drops_waits e f.session.phase n m.turn) (sym (ap (behind f.count (last_said f.last) w) (rest_none e s b rest n m.turn z) ∙ behind_last f.count (last_said f.last) w 0 (emptied s []) b));
            input = rw (c.settled.ensures, c.keeping-emptied.ensures, drops_waits e f.session.phase n m.turn) (filled_empty input);
          });
      rest = (ap (λ r. r.written) c.settled.ensures, ap (λ r. r.session.name) c.settled.ensures ∙ ap (λ s. s.name) c.keeping-emptied.ensures);
    }

pub returns : goal.returns
returns c = let a = c.args in
    let f = a.so_far in
    record {
      outcome = (λ e xs hs w b rest input l m.
          let s = session_of f.session xs hs in
          let n = number_of a.refusal in
          let z : eqb (length rest) 0 ≡ false = ne_eqb (length rest) 0 (λ h. c.if-left-eq0.false (sym l ∙ h)) in
          record {
            taken = rw (c.settled-2.ensures, c.keeping-emptied.ensures, drops_waits e f.session.phase n m.turn) (sym (ap (behind f.count (last_said f.last) w) (rest_some e s b rest n m.turn z) ∙ behind_last f.count (last_said f.last) w n (emptied s []) b));
            input = rw (c.settled-2.ensures, c.keeping-emptied.ensures, drops_waits e f.session.phase n m.turn) (filled_empty input);
          });
      rest = (ap (λ r. r.written) c.settled-2.ensures, ap (λ r. r.session.name) c.settled-2.ensures ∙ ap (λ s. s.name) c.keeping-emptied.ensures);
    }
