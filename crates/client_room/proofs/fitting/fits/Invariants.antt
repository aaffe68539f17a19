-- The invariant: what is left has room in what is left of the output exactly where the whole text has.
use Prim.Native.Nat.{ℕ, ◌≤◌, ◌-◌}
use mathlib.Core.List.{List}
use lib.ListN.{length, drop}
use Rattle.session.specs.Session.{session_of}
use Rattle.conversation.specs.Kinds.{Buffers}
use Rattle.chunks.specs.Taking.{client, taken_text}
use Rattle.phase_two.specs.Entering.{AreLong}
use Rattle.client_room.specs.Room.{has_room}
use Rattle.client_room.proofs.Laws.Room.{Onward}
use Rattle.client_room.proofs.fitting.fits.Given as goal

abbrev pub invariant-loop-s : goal.invariant-loop-s
invariant-loop-s l = (l.at ≤ length l.text) × ((a : List ℕ) (b : Buffers) → AreLong b.second l.errors l.stanzas l.returned →
    Onward l.errors l.stanzas l.returned (has_room (taken_text client (session_of l.initial.so_far l.initial.slots l.header_slots) b a l.text) l.room) (session_of l.so_far l.slots l.header_slots) (drop l.at l.text) l.left)

abbrev pub decreases-loop-s : goal.decreases-loop-s
decreases-loop-s l = length l.text - l.at
