-- By the turn. Where nothing is kept back no text waits.
use mathlib.Core.Path.{refl, sym, ap, subst}
use Rattle.refusal.specs.Number.{number_of}
use Rattle.chunks.specs.Taking.{reads, drops}
use Rattle.chunks.proofs.Laws.Cases.{keeps_not_reads, keeps_not_drops}
use Rattle.intake.specs.Turns.{turn_said}
use Rattle.intake.specs.Settling.{MaySettle}
use Rattle.intake.proofs.Laws.Settling.{may_settle}
use Rattle.intake.proofs.keeping.settle.Goals as goal

pub returns-in-Reads : goal.returns-in-Reads
returns-in-Reads c = record {
  outcome = (λ e xs hs w b m.
      let z = may_settle e _ _ reads _ _ _ (ap turn_said c.in-Reads.is) (λ h. keeps_not_reads (sym h)) m in
      rw z.0 (c.settle_read.ensures.outcome e xs hs w b z.1));
  rest = c.settle_read.ensures.rest;
}

pub returns-in-Drops : goal.returns-in-Drops
returns-in-Drops c = record {
  outcome = (λ e xs hs w b m.
      let r = c.in-Drops.r in
      let z = may_settle e _ _ (drops (number_of r)) _ _ _ (ap turn_said c.in-Drops.is) (λ h. keeps_not_drops (number_of r) (sym h)) m in
      rw z.0 (c.settle_dropped.ensures.outcome e xs hs w b c.args.rest.now c.args.input.now refl z.1));
  rest = c.settle_dropped.ensures.rest;
}

pub returns-in-KeepsBack : goal.returns-in-KeepsBack
returns-in-KeepsBack c = let a = c.args in
    record {
      outcome = (λ e xs hs w b m. c.settle_back.ensures.outcome e xs hs w b (subst (λ t. MaySettle e a.so_far.session.phase t a.awaited.now a.rest.now a.input.now) (ap turn_said c.in-KeepsBack.is) m));
      rest = c.settle_back.ensures.rest;
    }
