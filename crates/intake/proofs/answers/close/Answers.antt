-- A closed session keeps nothing, and nothing waits in it: what the chunk comes to is `chunk-fault`.
use mathlib.Core.Path.{refl, sym, ap, ◌∙◌}
use mathlib.Core.List.{[]}
use Rattle.refusal.specs.Number.{number_of}
use Rattle.std.specs.Prelude.{None, Err}
use Rattle.chunks.specs.Chunks.{taken}
use Rattle.chunks.proofs.Laws.Taking.{closed_waits, turn_reads}
use Rattle.intake.specs.Intake.{intake_of}
use Rattle.intake.specs.Settling.{Says}
use Rattle.intake.specs.declared.answers.Received.{Received as CodeReceived}
use Rattle.intake.proofs.Laws.Fronts.{chunk_fault, silent_answer}
use Rattle.intake.proofs.Laws.Keeping.{filled_empty}
use Rattle.intake.proofs.answers.close.Goals as goal

pub returns : goal.returns
returns c = let a = c.args in
    let r : CodeReceived = record { verdict = Err a.refusal; count = 0; last = None; written = 0; session = c.keeping.result } in
    record {
      outcome = (λ e xs hs o chunk b out t m h.
          let says : Says e r xs hs o o [] b (taken e (intake_of e a.session xs hs o) b chunk) = record {
            taken = rw (c.keeping.ensures, c.moved-shut.ensures, closed_waits e) (sym (chunk_fault e a.session xs hs o t m chunk b (number_of a.refusal) h));
            input = rw (c.keeping.ensures, c.moved-shut.ensures, closed_waits e) (filled_empty o);
          } in
          record { outcome = silent_answer e r xs hs o o b b _ chunk out (turn_reads e a.session.phase t) refl says; input = says.input });
      name = ap (λ s. s.name) c.keeping.ensures ∙ ap (λ s. s.name) c.moved-shut.ensures;
    }
