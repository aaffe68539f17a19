-- Demand 3, whole: order between strangers means nothing. One theorem about two lists of calls, for both phases and both machines.
use Rattle.conversation.specs.Calls.{State}
use Rattle.conversation.specs.Phases.{Part, one_part, two_part, Phase, blocks_of, IsPhase, Supply, calls_of, LongEnough, Starts, SameStart, Rearranged, SameOutcome}
use Rattle.conversation.proofs.Laws.OrderOne.{order_one}
use Rattle.conversation.proofs.Laws.OrderTwo.{order_reached}
use Rattle.conversation.proofs.Laws.Reached.{just_done}

-- Two sessions that may receive the phase, equal in settings, in what their tables show and in the lengths of their buffers, receive two rearrangements of it. Every
-- call is made, refused or not, with its own output buffer, no shorter than the response that it has to write. Then both lists are accepted or both refused; and
-- where they are accepted the tables are equal, all seven, and equal blocks are answered alike.
pub order : (part : Part) (x y : State) → Starts part x.session → Starts part y.session → SameStart part x y → (p q : Phase) → IsPhase part p → IsPhase part q →
    Rearranged part x.session.machine x.session.name p q → (outs outs' : Supply) →
    LongEnough x.session x.buffers (calls_of part outs (blocks_of p)) → LongEnough y.session y.buffers (calls_of part outs' (blocks_of q)) →
    SameOutcome part x y p q outs outs'
order one_part x y sx sy e p q hp hq r outs outs' lx ly = order_one x y sx sy e p q hp hq r outs outs'
order two_part x y sx sy e p q hp hq r outs outs' lx ly = order_reached x y (just_done x.session sx) (just_done y.session sy) e p q hp hq r outs outs' lx ly
