-- By its length alone, or by the first pass over a copy of the slots.
use native.Mathlib.Omega.{arith}
use Rattle.session.specs.Session.{session_of}
use Rattle.client_room.proofs.Laws.Room.{text_ample}
use Rattle.client_room.proofs.fitting.text_has_room.Goals as goal

pub returns-then-is_ample : goal.returns-then-is_ample
returns-then-is_ample c = λ aw b long.
    let a = c.args in
    text_ample (session_of a.session a.slots.now a.header_slots.now) b aw a.text.now a.room (omega arith) (omega (arith, c.is_ample.ensures c.if-is_ample.true))
