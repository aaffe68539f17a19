-- A short chunk has room by its length alone; else by whether a stanza is unfinished.
use Prim.Native.Nat.{min}
use mathlib.Core.Path.{◌≡◌, sym, ap, ◌∙◌}
use mathlib.Core.List.{[], ◌++◌}
use lib.ListN.{length, take, drop}
use lib.Seq.{length-take-le}
use native.Mathlib.Omega.{arith}
use Rattle.stanza.specs.Resuming.{place_said, whole}
use Rattle.session.specs.Session.{session_of}
use Rattle.conversation.proofs.Laws.ReceivingTwo.{turn_second}
use Rattle.chunks.specs.Taking.{client, turn_at, keeping}
use Rattle.chunks.specs.Chunks.{taken}
use Rattle.intake.proofs.Laws.Fronts.{intake_reads, chunk_begins, chunk_ends, front_within}
use Rattle.client_room.specs.Room.{has_room, stanza_ahead}
use Rattle.client_room.proofs.Laws.Room.{front_ample}
use Rattle.client_room.proofs.fitting.has_room.Goals as goal

pub returns-then-is_ample : goal.returns-then-is_ample
returns-then-is_ample c = λ b long two.
    let a = c.args in
    let p = c.requires in
    let i = keeping (session_of a.session a.slots.now a.header_slots.now) (place_said a.session.reading) (take (min a.session.kept 8191) a.input.now) [] in
    let turn = ap (turn_at client) (turn_second a.session.phase two) in
    let z = ap (λ i. has_room (taken client i b a.chunk.now) a.room) (sym (intake_reads client a.session a.slots.now a.header_slots.now a.input.now turn)) in
    let l : length (take (min a.session.kept 8191) a.input.now) ≡ min a.session.kept 8191 = length-take-le (min a.session.kept 8191) a.input.now (omega (arith, p.1)) in
    front_ample i b a.chunk.now a.room turn (omega arith) (omega arith) (omega (arith, c.is_ample.ensures c.if-is_ample.true, c.kept_of-kept.ensures)) ∙ z

pub returns-then-k-eq0 : goal.returns-then-k-eq0
returns-then-k-eq0 c = λ b long two.
    let a = c.args in
    let p = c.requires in
    let turn = ap (turn_at client) (turn_second a.session.phase two) in
    c.text_has_room.ensures [] b long
    ∙ sym (ap (λ t. has_room t a.room) (chunk_begins client a.session a.slots.now a.header_slots.now a.input.now turn p.1 a.chunk.now b (p.0 ∙ ap whole c.if-k-eq0.true)))

pub joined_fits-requires : goal.joined_fits-requires
joined_fits-requires c = let a = c.args in
    let p = c.requires in
    let w = front_within a.session.reading (min a.session.kept 8191) a.chunk.now a.k p.0 (omega arith) in
    (omega (arith, p.1, c.kept_of-kept.ensures), w.0, omega (arith, w.1, c.kept_of-kept.ensures))

pub returns : goal.returns
returns c = λ b long two.
    let a = c.args in
    let p = c.requires in
    let s = session_of a.session a.slots.now a.header_slots.now in
    let turn = ap (turn_at client) (turn_second a.session.phase two) in
    c.joined_fits.ensures b long two
    ∙ ap (λ n. has_room (stanza_ahead s b (take n a.input.now ++ take a.k a.chunk.now) (drop a.k a.chunk.now)) a.room) c.kept_of-kept.ensures
    ∙ ap (λ t. has_room t a.room) (sym (chunk_ends client a.session a.slots.now a.header_slots.now a.input.now turn p.1 a.chunk.now b a.k p.0 c.if-k-eq0.false))
