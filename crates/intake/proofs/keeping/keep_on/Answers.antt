-- The chunk stands behind the bytes that are kept, and is read back from there: what it comes to is `chunk-goes-on`.
use Prim.Native.Nat.{◌+◌, min}
use mathlib.Core.Path.{◌≡◌, refl, sym, ap, ◌∙◌}
use mathlib.Core.List.{[], ◌++◌}
use lib.ListN.{length, take, drop, length-append}
use lib.Seq.{length-take-le}
use native.Mathlib.Omega.{arith}
use Rattle.refusal.specs.Output.{filled}
use Rattle.std.specs.Prelude.{None, Ok}
use Rattle.stanza.specs.Resuming.{place_said}
use Rattle.session.specs.Session.{session_of}
use Rattle.chunks.specs.Chunks.{taken}
use Rattle.chunks.specs.Taking.{no_more, keeping}
use Rattle.chunks.proofs.Laws.Taking.{turn_reads}
use Rattle.intake.specs.Intake.{intake_of}
use Rattle.intake.specs.Settling.{Says}
use Rattle.intake.specs.declared.answers.Received.{Received as CodeReceived}
use Rattle.intake.proofs.Laws.Fronts.{chunk_goes_on, silent_answer}
use Rattle.intake.proofs.Laws.Keeping.{part_behind, front_back}
use Rattle.intake.proofs.Laws.Settling.{reads_waits}
use Rattle.intake.proofs.keeping.keep_on.Goals as goal

pub returns : goal.returns
returns c = let a = c.args in
    let k = min a.session.kept 8191 in
    let p = a.chunk.now in
    let n = c.kept_of-kept.result in
    let r : CodeReceived = record { verdict = Ok tt; count = 0; last = None; written = 0; session = c.keeping.result } in
    let kept : n ≡ k = c.kept_of-kept.ensures in
    record {
      outcome = (λ e xs hs o b out t m h.
          let g = chunk_goes_on e a.session xs hs o t m p b (place_said a.place) h in
          let l = g.1 in
          let size : length (take k o ++ p) ≡ k + length p = length-append (take k o) p ∙ ap (λ n. n + length p) (length-take-le k o (omega arith)) in
          let y : take k o ++ filled p (drop k o) ≡ filled (take k o ++ p) o = part_behind p o k (omega arith) in
          let z : take (min (n + length p) 8191) (take k o ++ filled p (drop k o)) ≡ take k o ++ p = rw (y, kept, ← size) (front_back (take k o ++ p) o (rw size l) m) in
          let w = reads_waits e a.session.phase t in
          let says : Says e r xs hs o (take k o ++ filled p (drop k o)) [] b (taken e (intake_of e a.session xs hs o) b p) = record {
            taken = rw (c.keeping.ensures, w) (ap (λ q. no_more 0 (keeping (session_of a.session xs hs) (place_said a.place) q []) b) z) ∙ sym g.0;
            input = rw (c.keeping.ensures, w) (y ∙ ap (λ q. filled q o) (sym z));
          } in
          record { outcome = silent_answer e r xs hs o _ b b _ p out (turn_reads e a.session.phase t) refl says; input = says.input });
      name = ap (λ s. s.name) c.keeping.ensures;
    }
