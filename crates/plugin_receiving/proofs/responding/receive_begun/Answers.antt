-- By what the chunk reads as: it is settled where no whole stanza stands in it, else the first is the response.
use mathlib.Core.Path.{◌≡◌, refl, sym, ap, subst, ◌∙◌}
use mathlib.Core.List.{[]}
use native.Mathlib.Omega.{arith}
use Rattle.refusal.specs.Number.{number_of}
use Rattle.stanza.specs.Reading.{read_said, read_first, stanza, refused}
use Rattle.stanza.proofs.Laws.Exact.{taken_iff}
use Rattle.session.specs.Session.{Carried, session_of}
use Rattle.chunks.specs.Taking.{plugin, reads, turn_at, behind, taken_text}
use Rattle.chunks.specs.Chunks.{taken}
use Rattle.intake.specs.Intake.{intake_of, last_said}
use Rattle.intake.specs.Settling.{MaySettle}
use Rattle.intake.specs.declared.answers.Received.{Received}
use Rattle.intake.proofs.Laws.Keeping.{stored_own}
use Rattle.intake.proofs.Laws.Fronts.{says_judged}
use Rattle.plugin_receiving.proofs.Laws.Commands.{says_same, chunk_begun}
use Rattle.plugin_receiving.proofs.Laws.Responses.{no_buffers, may_settle_due, begun_settled}
use Rattle.plugin_receiving.proofs.responding.receive_begun.Goals as goal

pub receive_stanza-responded-requires : goal.receive_stanza-responded-requires
receive_stanza-responded-requires c = sym c.read-first.ensures ∙ ap read_said c.in-Ok.is

pub overflow_sub-left : goal.overflow_sub-left
overflow_sub-left c = let a = c.args in
    let v = c.in-Ok.s in
    omega (arith, ((taken_iff a.chunk.now v.taken).0 (v.line, v.body, sym c.read-first.ensures ∙ ap read_said c.in-Ok.is)).within)

pub settle_response-requires : goal.settle_response-requires
settle_response-requires c = ap (λ (x : Carried). x.name) c.receive_stanza-responded.ensures.carried

pub returns-in-Err : goal.returns-in-Err
returns-in-Err c = let a = c.args in
    let p = c.requires in
    let n = c.settle in
    let e = c.begin.ensures in
    let reading : read_first a.chunk.now ≡ refused (number_of c.in-Err.field-0) = sym c.read-first.ensures ∙ ap read_said c.in-Err.is in
    let may = subst (λ (r : Received). MaySettle plugin r.session.phase reads [] a.chunk.now a.input.now) (sym e) (may_settle_due a.session a.word p.phase_value a.input.now p.in_bounds a.chunk.now _ reading) in
    record {
      outcome = λ xs hs b.
          let i = intake_of plugin a.session xs hs a.input.now in
          says_judged plugin n.result xs hs a.input.now n.new.input a.out.now b i b (taken plugin i b a.chunk.now)
          (says_same n.result xs hs a.input.now a.input.now n.new.input b _ _ refl
          (ap (λ (r : Received). behind r.count (last_said r.last) [] (taken_text plugin (session_of r.session xs hs) b [] a.chunk.now)) e ∙ chunk_begun a.session xs hs a.input.now (ap (turn_at plugin) p.phase_value) a.chunk.now b p.chunk_value)
          (n.ensures.outcome plugin xs hs [] b may))
          (n.ensures.rest.0 ∙ ap (λ (r : Received). r.written) e);
      stored = λ xs hs. (n.ensures.outcome plugin xs hs [] no_buffers may).input;
      name = n.ensures.rest.1 ∙ ap (λ (r : Received). r.session.name) e;
    }

pub returns-in-Ok : goal.returns-in-Ok
returns-in-Ok c = let a = c.args in
    let p = c.requires in
    let v = c.in-Ok.s in
    let n = c.receive_stanza-responded in
    let reading : read_first a.chunk.now ≡ stanza v.line v.body v.taken = sym c.read-first.ensures ∙ ap read_said c.in-Ok.is in
    record {
      outcome = λ xs hs b. c.settle_response.ensures.outcome xs hs a.input.now b _ ∙ begun_settled a.session a.word p.phase_value a.input.now p.in_bounds a.chunk.now xs hs b n.result a.out.now _ p.chunk_value v.line v.body v.taken reading (n.ensures.outcome xs hs);
      stored = λ xs hs. sym (stored_own plugin c.settle_response.result.session xs hs a.input.now);
      name = c.settle_response.ensures.name;
    }
