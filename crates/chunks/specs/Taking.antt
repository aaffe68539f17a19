-- The stanzas of a text, received one by one, from the left (document 02, No. 1: "Commands before a fault in one piece stand, with their responses"). The output
-- buffer is of any length here: what is written stands one behind the other.
use Rattle.std.specs.Prelude.{ℕ, ◌+◌, List, [], ◌∷◌, ◌++◌, eqb, length, replicate}
use Rattle.refusal.specs.Pick.{pick}
use Rattle.stanza.specs.Automaton.{State, start}
use Rattle.responses.specs.Responses.{response_line}
use Rattle.session.specs.Session.{Session, closed}
use Rattle.session.specs.declared.phases.Phase.{Phase}
use Rattle.session.specs.declared.phases.Phase.TheVariants.{One, Two, Awaiting, Ended, Closed}
use Rattle.phase_one.specs.Commands as one
use Rattle.conversation.specs.Calls as one_call
use Rattle.conversation.specs.Calls.{Call, receive, receive_two, respond, outcome, written_by, Given}
use Rattle.conversation.specs.CommandsTwo as two
use Rattle.conversation.specs.Kinds.{Buffers}
use Rattle.chunks.specs.Cutting.{Rest, unfinished, impossible, bytes_of, cut}

-- the client's end and the plugin's
pub data End : Type 0 where
  client : End
  plugin : End

-- what becomes of bytes that are left, by the phase: they are read; they are dropped and a number given; or the client waits for its host, and they are kept back
pub data Turn : Type 0 where
  reads : Turn
  drops : ℕ → Turn
  keeps_back : Turn

-- "Bytes of a response that none awaits give 14, any behind the last done 13"
abbrev pub turn_at : End → Phase → Turn
turn_at client One = drops 14
turn_at client Two = reads
turn_at client (Awaiting w) = keeps_back
turn_at client Ended = drops 13
turn_at client Closed = drops 13
turn_at plugin One = reads
turn_at plugin Two = drops 14
turn_at plugin (Awaiting w) = reads
turn_at plugin Ended = drops 13
turn_at plugin Closed = drops 13

-- an output buffer that is long enough for what one stanza is answered with, or for its body
unfoldable pub ample : List ℕ
ample = replicate 8192 0

-- the call that takes one whole stanza: the client's commands come in phase two; the plugin's commands in phase one, its responses in phase two
abbrev pub stanza_call : End → Phase → List ℕ → Call
stanza_call client p t = receive_two t ample
stanza_call plugin One t = receive t
stanza_call plugin Two t = respond t ample
stanza_call plugin (Awaiting w) t = respond t ample
stanza_call plugin Ended t = respond t ample
stanza_call plugin Closed t = respond t ample

-- the text that waits for the host's reply behind a stanza
abbrev pub awaited_behind : End → Phase → List ℕ → List ℕ
awaited_behind client One t = []
awaited_behind client Two t = []
awaited_behind client (Awaiting w) t = t
awaited_behind client Ended t = []
awaited_behind client Closed t = []
awaited_behind plugin p t = []

-- what an end keeps between calls: the session; the front of an unfinished stanza with where reading stands behind it, or, while a reply is due at the client, what
-- was kept back; and the whole text of the stanza that waits for the reply
pub record Intake : Type 0 where
  pub session : Session
  pub reading : State
  pub kept : List ℕ
  pub awaited : List ℕ

-- the last stanza that was taken: a command, by its word's text, which an unknown one has none of; or a response, by its line; or none was. A chunk hands back no
-- count of bytes
pub data Last : Type 0 where
  no_stanza : Last
  command : List ℕ → Last
  response : List ℕ → Last

-- by what the call of one stanza gives back
abbrev pub last_in : Given → Last
last_in (one_call.command_one w n) = command (one.text_of_word w)
last_in (one_call.given_command_two w n m) = command (two.text_of_word w)
last_in (one_call.response r n m) = response (response_line r)
last_in (one_call.wrote n) = no_stanza
last_in one_call.nothing = no_stanza

-- what a text came to: the number, 0 where nothing was refused; how many stanzas were taken, and which was the last; what was written; and what the end keeps
pub record Taken : Type 0 where
  pub number : ℕ
  pub count : ℕ
  pub last : Last
  pub written : List ℕ
  pub intake : Intake
  pub buffers : Buffers

-- no more stanzas
abbrev pub no_more : ℕ → Intake → Buffers → Taken
no_more n i b = record { number = n; count = 0; last = no_stanza; written = []; intake = i; buffers = b }

-- an end that keeps no bytes
abbrev pub emptied : Session → List ℕ → Intake
emptied s a = record { session = s; reading = start; kept = []; awaited = a }

-- .. that keeps these
abbrev pub keeping : Session → State → List ℕ → List ℕ → Intake
keeping s q bytes a = record { session = s; reading = q; kept = bytes; awaited = a }

-- the last stanza that was taken, where there is one behind the first
abbrev pub last_of : ℕ → Last → Last → Last
last_of n g h = pick (eqb n 0) g h

-- what stands behind n stanzas, of which g was the last and for which w was written
abbrev pub behind : ℕ → Last → List ℕ → Taken → Taken
behind n g w r = record { number = r.number; count = n + r.count; last = last_of r.count g r.last; written = w ++ r.written; intake = r.intake; buffers = r.buffers }

-- one stanza more, ahead of those behind it
abbrev pub one_more : Last → List ℕ → Taken → Taken
one_more g w r = behind 1 g w r

-- what stands behind the whole stanzas
abbrev pub taken_rest : Turn → Session → Buffers → List ℕ → Rest → Taken
taken_rest reads s b a (unfinished q front) = no_more 0 (keeping s q front a) b
taken_rest reads s b a (impossible n text) = no_more n (emptied (closed s) []) b
taken_rest (drops n) s b a r = pick (eqb (length (bytes_of r)) 0) (no_more 0 (emptied s a) b) (no_more n (emptied s a) b)
taken_rest keeps_back s b a r = no_more 0 (keeping s start (bytes_of r) a) b

-- these bytes and those behind them
unfoldable pub joined : List (List ℕ) → List ℕ → List ℕ
joined [] bytes = bytes
joined (t ∷ ts) bytes = t ++ joined ts bytes

-- a stanza and what stands behind it, by whose turn it is; `taken` is what they come to where they are read
abbrev pub taken_by : Turn → Session → Buffers → List ℕ → List ℕ → Taken → Taken
taken_by reads s b a bytes taken = taken
taken_by (drops n) s b a bytes taken = no_more n (emptied s a) b
taken_by keeps_back s b a bytes taken = no_more 0 (keeping s start bytes a) b

-- stanzas and what stands behind them; `a` is the text that waits
unfoldable pub taken_all : End → Session → Buffers → List ℕ → List (List ℕ) → Rest → Taken
taken_all e s b a [] r = taken_rest (turn_at e s.phase) s b a r
taken_all e s b a (t ∷ ts) r =
    let c = stanza_call e s.phase t in
    let o = outcome s b c in
    taken_by (turn_at e s.phase) s b a (t ++ joined ts (bytes_of r))
    (pick (eqb o.number 0)
    (one_more (last_in o.given) (written_by s b c) (taken_all e o.session o.buffers (awaited_behind e o.session.phase t) ts r))
    (no_more o.number (emptied o.session []) b))

-- a text from the start of a stanza on: its stanzas, and what stands behind them
abbrev pub taken_text : End → Session → Buffers → List ℕ → List ℕ → Taken
taken_text e s b a bytes = let c = cut start [] bytes in taken_all e s b a c.texts c.rest
