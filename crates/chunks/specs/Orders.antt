-- Demand 3 with cuts (document 02, No. 1: "Demand 3 is for any cut of either order whose last piece holds done's last byte, where each command that waits gets its
-- host answers while it waits, at least one, and no call is refused with 14 or 15").
use Rattle.std.specs.Prelude.{ℕ, ◌≡◌, ◌&&◌, List, [], ◌∷◌, ◌++◌, map, ◌↔◌}
use Rattle.refusal.specs.Pick.{pick}
use Rattle.session.specs.Session.{Session}
use Rattle.conversation.specs.Calls as one_call
use Rattle.conversation.specs.Calls.{AllZero}
use Rattle.conversation.specs.Kinds.{Buffers}
use Rattle.conversation.specs.Phases.{Reply, Block, Supply, Part, one_part, two_part, Phase, blocks_of, calls_of, responses_to, SameTables}
use Rattle.chunks.specs.Taking.{End, client, plugin, ample, Intake, emptied, joined}
use Rattle.chunks.specs.Uncut.{Piece, reply, outcome_of, after, numbers, written, is_closed, NoneHeldUp, NoneBehind, alone, uncut, is_reply}

-- ---- cuts of a phase

-- an output buffer of `ample` for each call
abbrev pub amples : Supply
amples = λ n. ample

-- a reply in a call of its own
abbrev pub reply_alone : Reply → Piece
reply_alone r = reply r.response r.body ample

-- a phase's blocks, a stanza to a call, each reply directly behind its command
unfoldable pub uncut_calls : List Block → List Piece
uncut_calls [] = []
uncut_calls (x ∷ xs) = (alone x.text ∷ map reply_alone x.replies) ++ uncut_calls xs

-- a list without the replies that are made when the session is closed: no command waits for them any more
unfoldable pub in_time : End → Intake → Buffers → List Piece → List Piece
in_time e i b [] = []
in_time e i b (c ∷ cs) =
    let o = outcome_of e i b c in
    pick (is_reply c && is_closed i.session.phase) [] (c ∷ []) ++ in_time e o.intake o.buffers cs

-- a list of chunks and replies is a cut of blocks: the list that it amounts to has a stanza of theirs to a call, and each command's replies, made while it waits,
-- directly behind it
pub record IsCut (e : End) (s : Session) (b : Buffers) (cs : List Piece) (xs : List Block) : Type 0 where
  pub uncut_is : uncut e (emptied s []) b [] cs ≡ in_time e (emptied s []) b (uncut_calls xs)
  pub none_held_up : NoneHeldUp (numbers e (emptied s []) b cs)
  pub none_behind : NoneBehind e (emptied s []) b cs

-- ---- what two cuts come to

-- the end that receives a phase
abbrev pub end_of : Part → End
end_of one_part = plugin
end_of two_part = client

-- a phase that is received with a stanza to a call, where no call is refused with 14 or 15 and none is made in a session that has ended
pub record OneByOne (part : Part) (x : one_call.State) (p : Phase) : Type 0 where
  pub none_held_up : NoneHeldUp (one_call.numbers x.session x.buffers (calls_of part amples (blocks_of p)))
  pub none_behind : NoneBehind (end_of part) (emptied x.session []) x.buffers (uncut_calls (blocks_of p))

-- every call of a list is accepted, from a session with nothing kept
abbrev pub AllTaken : End → one_call.State → List Piece → Type 0
AllTaken e x cs = AllZero (numbers e (emptied x.session []) x.buffers cs)

-- the session and the buffers behind it
abbrev pub state_behind : End → one_call.State → List Piece → one_call.State
state_behind e x cs = let z = after e (emptied x.session []) x.buffers cs in one_call.state_of z.intake.session z.buffers

-- all that it writes
abbrev pub written_all : End → one_call.State → List Piece → List ℕ
written_all e x cs = written e (emptied x.session []) x.buffers cs

-- the responses of blocks, one behind the other
unfoldable pub all_joined : List (List (List ℕ)) → List ℕ
all_joined [] = []
all_joined (ts ∷ tss) = joined ts (all_joined tss)

-- what cuts of two rearrangements come to: both are accepted or both refused; and where they are accepted their tables are equal, and what each writes are the
-- responses to its blocks, one function of settings and block, so equal blocks are answered alike wherever they stand and however they are cut
pub record SameCuts (part : Part) (x y : one_call.State) (p q : Phase) (cs ds : List Piece) : Type 0 where
  pub accepted : AllTaken (end_of part) x cs ↔ AllTaken (end_of part) y ds
  pub tables : AllTaken (end_of part) x cs → SameTables (state_behind (end_of part) x cs) (state_behind (end_of part) y ds)
  pub responses : AllTaken (end_of part) x cs →
      (written_all (end_of part) x cs ≡ all_joined (map (responses_to part x.session.machine x.session.screen) (blocks_of p)))
      × (written_all (end_of part) y ds ≡ all_joined (map (responses_to part x.session.machine x.session.screen) (blocks_of q)))
