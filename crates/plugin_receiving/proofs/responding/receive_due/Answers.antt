-- By whether a stanza is unfinished: a response begins in the chunk, or one ends.
use mathlib.Core.Path.{sym, ap, ◌∙◌}
use native.Mathlib.Omega.{arith}
use Rattle.stanza.specs.Resuming.{whole}
use Rattle.chunks.specs.Taking.{plugin}
use Rattle.intake.proofs.Laws.Keeping.{stored_own}
use Rattle.plugin_receiving.proofs.responding.receive_due.Goals as goal

pub receive_begun-requires : goal.receive_begun-requires
receive_begun-requires c = let p = c.requires in
    record {
      phase_value = p.phase_value;
      in_bounds = p.in_bounds;
      chunk_value = p.chunk_value ∙ ap whole c.if-k-eq0.true;
    }

pub receive_ended-requires : goal.receive_ended-requires
receive_ended-requires c = let p = c.requires in
    record {
      phase_value = p.phase_value;
      in_bounds = p.in_bounds;
      chunk_value = p.chunk_value;
      le_k = omega (arith, c.if-k-eq0.false);
    }

pub returns : goal.returns
returns c = let a = c.args in
    let n = c.receive_ended in
    record {
      outcome = n.ensures.outcome;
      stored = λ xs hs. sym (stored_own plugin n.result.session xs hs a.input.now);
      name = n.ensures.name;
    }
