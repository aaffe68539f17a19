-- The stanza that ends, if one does, and the commands of the text behind it.
use Prim.Native.Nat.{min}
use mathlib.Core.Path.{refl, ap, ◌∙◌}
use native.Mathlib.Omega.{arith}
use Rattle.phase_one.specs.PhaseOne as one
use Rattle.conversation.specs.Kinds.{buffers_of}
use Rattle.intake.proofs.Laws.Fronts.{front_within}
use Rattle.plugin_receiving.specs.Commands.{comes_to}
use Rattle.plugin_receiving.proofs.Laws.Commands.{says_same, part_is}
use Rattle.plugin_receiving.proofs.commands.receive_commands.Goals as goal

pub slice_bounds-receive_text-count : goal.slice_bounds-receive_text-count
slice_bounds-receive_text-count c = let a = c.args in omega (arith, (front_within a.session.reading (min a.session.kept 8191) a.chunk.now a.k c.requires.chunk_value (omega arith)).0)

pub slice_bounds-receive_text-start : goal.slice_bounds-receive_text-start
slice_bounds-receive_text-start c = let a = c.args in omega (arith, (front_within a.session.reading (min a.session.kept 8191) a.chunk.now a.k c.requires.chunk_value (omega arith)).0)

pub shape_of-recipients : goal.shape_of-recipients
shape_of-recipients c = c.receive_text.auto.recipients ∙ c.receive_front-so_far.auto.recipients

pub returns : goal.returns
returns c = let a = c.args in
    let m = c.receive_front-so_far in
    let n = c.receive_text in
    record {
      outcome = λ d.
          let b' = buffers_of (one.buffers_of m.new.recipients m.new.identities m.new.keys m.new.headers) d in
          says_same n.result n.new.slots n.new.header_slots a.input.now a.input.now n.new.input (buffers_of (one.buffers_of n.new.recipients n.new.identities n.new.keys n.new.headers) d) _ _ refl (ap (comes_to m.result m.new.slots m.new.header_slots b') (part_is a.chunk.now a.k) ∙ m.ensures.outcome d) (n.ensures.outcome d);
      rest = (n.ensures.rest.0 ∙ m.ensures.rest.2, n.ensures.rest.1 ∙ m.ensures.rest.3);
    }
