-- A client without a screen (document 02, No. 5: "A client session now opens without a screen, so msg, confirm and both requests are answered fail at once").
use Rattle.std.specs.Prelude.{ℕ, ◌≡◌, Bool, false, List, [], map, take}
use Rattle.session.specs.declared.opening.Machine.{Machine}
use Rattle.conversation.specs.Kinds.{Buffers}
use Rattle.conversation.specs.Phases.{command_in}
use Rattle.conversation.specs.ReceivingTwo.{at_once, text_of}
use Rattle.chunks.specs.Taking.{client, Intake, joined}
use Rattle.chunks.specs.Chunks.{Outcome}
use Rattle.chunks.specs.Uncut.{is_waiting, parted_chunk}

-- what the client writes at once to a stanza that it accepts
abbrev pub answer_to : Machine → Bool → List ℕ → List ℕ
answer_to machine screen t = text_of (at_once screen (command_in machine t))

-- a chunk's answers, in the same call: those to the stanzas that it took, one behind the other
abbrev pub AnsweredAtOnce : Intake → Buffers → List ℕ → Outcome → Type 0
AnsweredAtOnce i b bytes o =
    take o.size o.output ≡ joined (map (answer_to i.session.machine i.session.screen) (take o.count (parted_chunk client i b bytes).received)) []

-- no host's reply is due, and no text waits for one
pub record NothingWaits (i : Intake) : Type 0 where
  pub due : is_waiting client i.session.phase ≡ false
  pub awaited : i.awaited ≡ []
