-- The text that waits and the bytes behind it are copied, and are read back from there.
use mathlib.Core.Path.{◌≡◌, refl, sym, ap, ◌∙◌}
use mathlib.Core.List.{◌++◌}
use native.Mathlib.Omega.{arith}
use Rattle.refusal.specs.Output.{filled}
use Rattle.stanza.specs.Automaton.{start}
use Rattle.session.specs.Session.{session_of}
use Rattle.chunks.specs.Taking.{keeping, behind}
use Rattle.chunks.proofs.Laws.Texts.{text_kept_back}
use Rattle.intake.specs.Intake.{last_said}
use Rattle.intake.proofs.Laws.Keeping.{both, awaited_back, kept_back}
use Rattle.intake.proofs.Laws.Settling.{behind_last}
use Rattle.chunks.proofs.Laws.Taking.{turn_waits}
use Rattle.intake.proofs.keeping.settle_back.Goals as goal

pub returns : goal.returns
returns c = let a = c.args in
    let f = a.so_far in
    let t = a.awaited.now in
    let rest = a.rest.now in
    let o = a.input.now in
    let x = c.copy_behind.new.out in
    record {
      outcome = (λ e xs hs w b m.
          let s = session_of f.session xs hs in
          let l = m.short refl in
          let y : x ≡ filled (t ++ rest) o = c.copy_behind.ensures ∙ rw c.copy.ensures (both t rest o (omega (arith, l.0, l.1, l.2))) in
          let v = awaited_back t rest o l.0 l.1 l.2 in
          let z = kept_back t rest o l.0 l.1 l.2 in
          record {
            taken = rw (c.settled.ensures, c.keeping.ensures, turn_waits e f.session.phase m.turn, y, v, z) (sym (ap (behind f.count (last_said f.last) w) (text_kept_back e s b t m.turn rest) ∙ behind_last f.count (last_said f.last) w 0 (keeping s start rest t) b));
            input = rw (c.settled.ensures, c.keeping.ensures, turn_waits e f.session.phase m.turn, y, v, z);
          });
      rest = (ap (λ r. r.written) c.settled.ensures, ap (λ r. r.session.name) c.settled.ensures ∙ ap (λ s. s.name) c.keeping.ensures);
    }
