-- Invariant: the text comes to what is left of it comes to behind the answer so far.
use Prim.Native.Nat.{◌≤◌, ◌+◌, ◌*◌, ◌-◌}
use mathlib.Core.Path.{◌≡◌}
use lib.ListN.{length, drop}
use Rattle.phase_one.specs.PhaseOne as one
use Rattle.conversation.specs.Kinds.{buffers_of}
use Rattle.conversation.specs.PhaseTwo.{BuffersTwo}
use Rattle.plugin_receiving.specs.Commands.{comes_to, NoneDue}
use Rattle.plugin_receiving.proofs.commands.receive_text.Given as goal

abbrev pub invariant-loop-s : goal.invariant-loop-s
invariant-loop-s l = (l.at ≤ length l.text) × (6 * l.answer.count ≤ 6 + l.at) × NoneDue l.answer × ((c : BuffersTwo) → comes_to l.initial.answer l.initial.slots l.initial.header_slots (buffers_of (one.buffers_of l.initial.recipients l.initial.identities l.initial.keys l.initial.headers) c) l.text ≡ comes_to l.answer l.slots l.header_slots (buffers_of (one.buffers_of l.recipients l.identities l.keys l.headers) c) (drop l.at l.text)) × (length l.recipients ≡ length l.initial.recipients) × (length l.identities ≡ length l.initial.identities) × (length l.keys ≡ length l.initial.keys) × (length l.headers ≡ length l.initial.headers) × (l.answer.written ≡ l.initial.answer.written) × (l.answer.session.name ≡ l.initial.answer.session.name)

abbrev pub decreases-loop-s : goal.decreases-loop-s
decreases-loop-s l = length l.text - l.at
