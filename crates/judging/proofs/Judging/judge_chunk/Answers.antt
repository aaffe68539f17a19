-- Stopped, or the chunk is received and the phase looked at.
use mathlib.Core.Path.{refl}
use Rattle.phase_one.specs.PhaseOne as one
use Rattle.conversation.specs.Kinds.{buffers_of}
use Rattle.chunks.specs.Taking.{plugin}
use Rattle.intake.specs.Intake.{intake_of, received_said}
use Rattle.judging.specs.Said.{buffers_in}
use Rattle.judging.proofs.Laws.Steps.{received_judged}
use Rattle.judging.proofs.Judging.judge_chunk.Goals as goal

pub returns-in-Some : goal.returns-in-Some
returns-in-Some c = record {
  state = (λ d. rw c.in-Some.is);
  name = refl;
}

pub returns-in-None : goal.returns-in-None
returns-in-None c = let a = c.args in
    let r = c.receive-received in
    let xs = r.new.slots in
    let hs = r.new.header_slots in
    let input = r.new.input in
    let k1 = r.new.recipients in
    let k2 = r.new.identities in
    let k3 = r.new.keys in
    let k4 = r.new.headers in
    record {
      state = (λ d. rw c.in-None.is
          (received_judged (received_said plugin r.result xs hs input (buffers_of (one.buffers_of k1 k2 k3 k4) d) r.new.out) (intake_of plugin a.self.session a.slots.now a.header_slots.now a.input.now) k1 k2 k3 k4 d _
          (buffers_in a.recipients.now a.identities.now a.keys.now d) a.chunk.now r.auto.headers (r.ensures.outcome d) refl (c.behind_chunk.ensures xs hs input)));
      name = r.ensures.name;
    }
