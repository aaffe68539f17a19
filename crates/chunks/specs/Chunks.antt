-- A chunk received, a reply, the end of the input (document 02, No. 1).
use Rattle.std.specs.Prelude.{ℕ, ◌≡◌, Bool, ◌&&◌, List, [], ◌++◌, eqb, leb, length, take, drop}
use Rattle.refusal.specs.Output.{filled}
use Rattle.refusal.specs.Pick.{pick}
use Rattle.stanza.specs.Grammar.{stanza_text}
use Rattle.responses.specs.Responses.{response_line}
use Rattle.responses.specs.declared.Response.{Response}
use Rattle.session.specs.declared.words.WordTwo.{WordTwo}
use Rattle.session.specs.declared.phases.Phase.{Phase}
use Rattle.session.specs.declared.phases.Phase.TheVariants.{One, Two, Awaiting, Ended, Closed}
use Rattle.conversation.specs.Kinds.{Buffers}
use Rattle.conversation.specs.Replying.{number_replied}
use Rattle.conversation.specs.TurnsTwo.{turn_two, Due, due, undue, due_in, answered}
use Rattle.chunks.specs.Cutting.{cut}
use Rattle.chunks.specs.Taking.{End, client, plugin, Intake, Last, no_stanza, Taken, taken_all, taken_text}

-- the number of a call, 0 where nothing was refused; how many stanzas were taken, which was the last and how many bytes were written; what the end keeps, the
-- buffers and the output buffer afterwards
pub record Outcome : Type 0 where
  pub number : ℕ
  pub count : ℕ
  pub last : Last
  pub size : ℕ
  pub intake : Intake
  pub buffers : Buffers
  pub output : List ℕ

-- what was written stands at the front of the output buffer, and the bytes behind it stay
abbrev pub RestStays : Outcome → List ℕ → Type 0
RestStays o out = o.output ≡ take o.size o.output ++ drop o.size out

-- nothing is taken: everything stays
abbrev pub untaken : ℕ → Intake → Buffers → List ℕ → Outcome
untaken n i b out = record { number = n; count = 0; last = no_stanza; size = 0; intake = i; buffers = b; output = out }

-- what is written has room in the output buffer, and what is kept back is at most 8,192 bytes
abbrev pub is_held : Taken → List ℕ → Bool
is_held r out = leb (length r.written) (length out) && leb (length r.intake.kept) 8192

-- "a call refused with 15 takes nothing"
abbrev pub judged : Intake → Buffers → List ℕ → Taken → Outcome
judged i b out r =
    pick (is_held r out)
    (record { number = r.number; count = r.count; last = r.last; size = length r.written; intake = r.intake; buffers = r.buffers; output = filled r.written out })
    (untaken 15 i b out)

-- the bytes kept and those of the chunk as one text
abbrev pub taken : End → Intake → Buffers → List ℕ → Taken
taken e i b bytes = let c = cut i.reading i.kept bytes in taken_all e i.session b i.awaited c.texts c.rest

-- the number of a call by the phase alone, for an empty chunk too: No. 13, the session is closed or has ended; No. 14, the client's phase one, or its host's reply is due
abbrev pub turn_of : End → Phase → ℕ
turn_of client p = turn_two p
turn_of plugin One = 0
turn_of plugin Two = 0
turn_of plugin (Awaiting w) = 0
turn_of plugin Ended = 13
turn_of plugin Closed = 13

-- a chunk
unfoldable pub chunked : End → Intake → Buffers → List ℕ → List ℕ → Outcome
chunked e i b bytes out = let n = turn_of e i.session.phase in pick (eqb n 0) (judged i b out (taken e i b bytes)) (untaken n i b out)

-- ---- the host's reply

-- the response ahead of what is written behind it
abbrev pub reply_ahead : List ℕ → Taken → Taken
reply_ahead text r = record { number = r.number; count = r.count; last = r.last; written = text ++ r.written; intake = r.intake; buffers = r.buffers }

-- what was kept back, received behind the reply
abbrev pub taken_back : Intake → Buffers → Taken
taken_back i b = taken_text client (answered i.session) b [] i.kept

-- to the command that waits: 12, 17, then 15 of the whole
unfoldable pub replied_to : WordTwo → Intake → Buffers → Response → List ℕ → List ℕ → Outcome
replied_to w i b r body out =
    let n = number_replied w r body in pick (eqb n 0) (judged i b out (reply_ahead (stanza_text (response_line r) body) (taken_back i b))) (untaken n i b out)

-- 13, 14
abbrev pub replied_by : Due → Intake → Buffers → Response → List ℕ → List ℕ → Outcome
replied_by (due w) i b r body out = replied_to w i b r body out
replied_by (undue n) i b r body out = untaken n i b out

-- a reply
abbrev pub replied : Intake → Buffers → Response → List ℕ → List ℕ → Outcome
replied i b r body out = replied_by (due_in i.session.phase) i b r body out

-- ---- the end of the input

-- "A session then gives 2 only when the input is declared ended before the conversation has"; it changes nothing
abbrev pub finished : Phase → ℕ
finished One = 2
finished Two = 2
finished (Awaiting w) = 2
finished Ended = 0
finished Closed = 13
