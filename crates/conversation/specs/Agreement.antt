-- The two ends in phase one (document 01, "Phase one": "Both ends open with a machine's and a plugin's name and keep these tables alike").
use Rattle.std.specs.Prelude.{ℕ, ◌≡◌, List, take}
use Rattle.stanza.specs.Grammar.{stanza_text}
use Rattle.phase_one.specs.Commands.{word_of}
use Rattle.phase_one.specs.PhaseOne.{BuffersOne, command_in}
use Rattle.phase_one.specs.Views.{KindOne, view_of}
use Rattle.session.specs.Session.{Session}
use Rattle.conversation.specs.Receiving.{took, Received}
use Rattle.conversation.specs.Sending.{Sent}

-- the two ends' sessions, but for the screen
pub record Alike (s s' : Session) : Type 0 where
  pub machine : s.machine ≡ s'.machine
  pub name : s.name ≡ s'.name
  pub phase : s.phase ≡ s'.phase
  pub tables : s.tables ≡ s'.tables

-- the two ends' tables of phase one show the same rows
abbrev pub SameViews : Session → BuffersOne → Session → BuffersOne → Type 0
SameViews s b s' b' = (k : KindOne) → view_of k s.tables b ≡ view_of k s'.tables b'

-- a sending r by the client's session s, and a receipt r' by the plugin's: n bytes are written, the stanza's text; all of them are taken, as the same command; the
-- sessions are alike again
pub record Agreed (s : Session) (line body : List ℕ) (n : ℕ) (r : Sent) (r' : Received) : Type 0 where
  pub written : take n r.output ≡ stanza_text line body
  pub answer : r'.answer ≡ took (word_of (command_in s.machine s.name line body)) n
  pub alike : Alike r.session r'.session
