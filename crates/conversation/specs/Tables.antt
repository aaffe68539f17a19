-- What an accepted command does to the tables (document 01, "Phase one": "Each kind has its own numbering from 0", "Any other command is ignored"; "Phase two":
-- "Returned stanzas are numbered from 0 within their file").
use Rattle.std.specs.Prelude.{ℕ, ◌+◌, ◌≡◌, [], ◌∷◌, ◌++◌, length, get_or}
use Rattle.tables.specs.Tables.{Row}
use Rattle.phase_one.specs.Commands.{other}
use Rattle.phase_one.specs.PhaseOne.{command_in}
use Rattle.session.specs.Session.{Session}
use Rattle.session.specs.declared.phases.Phase.{Phase}
use Rattle.session.specs.declared.phases.Phase.TheVariants.{Awaiting}
use Rattle.session.specs.declared.words.WordTwo.TheVariants.{Other}
use Rattle.conversation.specs.Calls.{Call, receive, send, receive_two, reply, send_two, respond, outcome, Brought, in_one, in_two, no_command}
use Rattle.conversation.specs.CommandsTwo as two_command
use Rattle.conversation.specs.CommandsTwo.{command_two}
use Rattle.conversation.specs.Kinds.{AnyKind, Buffers, table_of, view_of, of_file}

-- an accepted command of a kind: its number is the count before, and its row stands there
pub record Numbered (s : Session) (b : Buffers) (c : Call) (k : AnyKind) (row : Row) : Type 0 where
  pub count : (table_of k (outcome s b c).session.tables).count ≡ (table_of k s.tables).count + 1
  pub entry : (d : Row) → get_or (view_of k (outcome s b c).session.tables (outcome s b c).buffers) (table_of k s.tables).count d ≡ row
  pub rows : view_of k (outcome s b c).session.tables (outcome s b c).buffers ≡ view_of k s.tables b ++ (row ∷ [])

-- an accepted command for the file f, a stanza or a key: its number there is the count of that file's before it, and its row stands there
pub record NumberedInFile (s : Session) (b : Buffers) (c : Call) (k : AnyKind) (f : ℕ) (row : Row) : Type 0 where
  pub rows : of_file f (view_of k (outcome s b c).session.tables (outcome s b c).buffers) ≡ of_file f (view_of k s.tables b) ++ (row ∷ [])
  pub entry : (d : Row) → get_or (of_file f (view_of k (outcome s b c).session.tables (outcome s b c).buffers)) (length (of_file f (view_of k s.tables b))) d ≡ row

-- a call brings an ignored command, one that is not named for the machine in its phase's table
abbrev pub Ignored : Session → Brought → Type 0
Ignored s (in_one line body) = command_in s.machine s.name line body ≡ other
Ignored s (in_two line body) = command_two s.machine line body ≡ two_command.other
Ignored s no_command = ⊥

-- the phase behind it: the same, but at the plugin's sending it awaits its response
abbrev pub phase_ignored : Session → Call → Phase
phase_ignored s (receive text) = s.phase
phase_ignored s (send word arguments body out) = s.phase
phase_ignored s (receive_two text out) = s.phase
phase_ignored s (reply r body out) = s.phase
phase_ignored s (send_two word arguments body out) = Awaiting Other
phase_ignored s (respond text out) = s.phase
