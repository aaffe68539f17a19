-- What the response leaves of the output buffer is for what stands behind it.
use mathlib.Core.Path.{◌∙◌}
use native.Mathlib.Omega.{arith}
use Rattle.session.specs.Session.{session_of}
use Rattle.chunks.specs.Taking.{client, taken_text}
use Rattle.client_receiving.proofs.Laws.Replying.{reply_short, reply_room}
use Rattle.client_receiving.proofs.replying.reply_has_room.Goals as goal

pub returns-then-room-size : goal.returns-then-room-size
returns-then-room-size c = λ w a b l h.
    let g = c.args in
    reply_short w (taken_text client (session_of g.session g.slots.now g.header_slots.now) b a g.back.now) g.room g.size l (omega arith)

pub returns : goal.returns
returns c = λ w a b l h.
    let g = c.args in
    c.text_has_room.ensures a b h
    ∙ reply_room w (taken_text client (session_of g.session g.slots.now g.header_slots.now) b a g.back.now) g.room g.size l (omega arith)
