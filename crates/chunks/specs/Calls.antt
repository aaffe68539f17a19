-- The calls of one stanza that a list of chunks and replies comes to (document 02, No. 1): what is shown of lists of such calls is shown of lists of chunks through it.
use Rattle.std.specs.Prelude.{◌≡◌, List, [], ◌∷◌}
use Rattle.session.specs.Session.{Session}
use Rattle.session.specs.declared.phases.Phase.{Phase}
use Rattle.conversation.specs.Calls as one_call
use Rattle.conversation.specs.Calls.{Call, outcome}
use Rattle.conversation.specs.Kinds.{Buffers}
use Rattle.chunks.specs.Taking.{End, stanza_call, Last, last_in, emptied, joined}
use Rattle.chunks.specs.Uncut.{Piece, chunk, reply, after, written, uncut}

-- the call of one stanza for a chunk of one, or for a reply
abbrev pub call_of : End → Phase → Piece → Call
call_of e p (chunk t out) = stanza_call e p t
call_of e p (reply r body out) = one_call.reply r body out

-- one behind the other
unfoldable pub calls_of : End → Session → Buffers → List Piece → List Call
calls_of e s b [] = []
calls_of e s b (c ∷ cs) = let x = call_of e s.phase c in let o = outcome s b x in x ∷ calls_of e o.session o.buffers cs

-- those of the uncut list that chunks and replies come to
abbrev pub calls_for : End → Session → Buffers → List Piece → List Call
calls_for e s b cs = calls_of e s b (uncut e (emptied s []) b [] cs)

-- the last of the stanzas that a list of calls takes; `l` where it takes none
unfoldable pub last_from : Last → Session → Buffers → List Call → Last
last_from l s b [] = l
last_from l s b (c ∷ cs) = let o = outcome s b c in last_from (last_in o.given) o.session o.buffers cs

-- a list of chunks and replies leaves the session and the buffers that these calls leave, and writes what they write, one behind the other
pub record AsCalls (e : End) (s : Session) (b : Buffers) (ps : List Piece) (cs : List Call) : Type 0 where
  pub session : (after e (emptied s []) b ps).intake.session ≡ (one_call.after s b cs).session
  pub buffers : (after e (emptied s []) b ps).buffers ≡ (one_call.after s b cs).buffers
  pub output : written e (emptied s []) b ps ≡ joined (one_call.written s b cs) []
