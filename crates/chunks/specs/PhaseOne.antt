-- The plugin's phase one (document 02, No. 10: "Nothing is ever due there. Show that for every reachable session. In phase one at that end, 14 is then only for a call
-- of the other phase").
use Rattle.std.specs.Prelude.{ℕ, ◌≡◌, Bool, true, false, ◌||◌, ◌⊎◌, List, [], ◌∷◌, ◌++◌, map, take}
use Rattle.session.specs.Phases.{is_due}
use Rattle.session.specs.Session.{Session}
use Rattle.session.specs.declared.phases.Phase.TheVariants.{One, Two, Closed}
use Rattle.conversation.specs.Calls.{receive, Accepted}
use Rattle.conversation.specs.Kinds.{Buffers}
use Rattle.conversation.specs.Phases.{All, Whole, is_done}
use Rattle.chunks.specs.Taking.{plugin, Intake, joined}
use Rattle.chunks.specs.Chunks.{Outcome, chunked}
use Rattle.chunks.specs.Uncut.{chunk, reply, parted_chunk}
use Rattle.chunks.specs.Reached.{AnyCall, piece, sends_one, sends_two, finishes, intake_after, AnyWith}

-- ---- phase one lasts until done is taken

-- one of these stanzas is done
unfoldable pub any_done : List (List ℕ) → Bool
any_done [] = false
any_done (t ∷ ts) = is_done t || any_done ts

-- the stanzas that a chunk took
abbrev pub taken_of : Intake → Buffers → List ℕ → Outcome → List (List ℕ)
taken_of i b bytes o = take o.count (parted_chunk plugin i b bytes).received

-- a call takes done
abbrev pub takes_done : Intake → Buffers → AnyCall → Bool
takes_done i b (piece (chunk bytes out)) = any_done (taken_of i b bytes (chunked plugin i b bytes out))
takes_done i b (piece (reply r body out)) = false
takes_done i b (sends_one word arguments body out) = false
takes_done i b (sends_two word arguments body out) = false
takes_done i b finishes = false

-- none of a list of calls does, each lent buffers of its own
unfoldable pub Lasts : Intake → List (AnyWith plugin) → Type 0
Lasts i [] = Unit
Lasts i (c ∷ cs) = (takes_done i c.buffers c.call ≡ false) × Lasts (intake_after plugin i c.buffers c.call) cs

-- ---- what holds there

-- no answer is due and no text waits for one: the session is in phase one, or a refusal has closed it
pub record NothingDue (i : Intake) : Type 0 where
  pub due : is_due i.session.phase ≡ false
  pub awaited : i.awaited ≡ []
  pub phase : (i.session.phase ≡ One) ⊎ (i.session.phase ≡ Closed)

-- a chunk in phase one that gives 14 has taken done: the bytes behind it are phase two's
pub record BehindDone (i : Intake) (b : Buffers) (bytes : List ℕ) (o : Outcome) : Type 0 where
  pub done : any_done (taken_of i b bytes o) ≡ true
  pub phase : o.intake.session.phase ≡ Two

-- a text is whole stanzas, each of them accepted and done the last, with at least one byte behind them
pub record MoreBehindDone (s : Session) (b : Buffers) (text : List ℕ) : Type 0 where
  pub ahead : List (List ℕ)
  pub last : List ℕ
  pub more : List ℕ
  pub place : joined (ahead ++ (last ∷ [])) more ≡ text
  pub whole : All Whole (ahead ++ (last ∷ []))
  pub accepted : Accepted s b (map receive (ahead ++ (last ∷ [])))
  pub done : is_done last ≡ true
  pub some : more ≡ [] → ⊥

-- a call of the other phase, made in phase one: a command of phase two; a chunk with bytes behind done, those kept before it ahead; a reply, which
-- this end has none of. The end of the input is of either phase
abbrev pub IsOther : Intake → Buffers → AnyCall → Type 0
IsOther i b (piece (chunk bytes out)) = MoreBehindDone i.session b (i.kept ++ bytes)
IsOther i b (piece (reply r body out)) = Unit
IsOther i b (sends_one word arguments body out) = ⊥
IsOther i b (sends_two word arguments body out) = Unit
IsOther i b finishes = ⊥
