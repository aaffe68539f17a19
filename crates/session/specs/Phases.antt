-- The phases of a conversation, and what a refusal does to a session (document 01, "Numbers given back"; document 02, No. 7).
use Rattle.std.specs.Prelude.{ℕ, Bool, true, false, ◌&&◌, ◌||◌, not, leb, eqb}
use Rattle.refusal.specs.Pick.{pick}
use Rattle.session.specs.declared.phases.Phase.{Phase}
use Rattle.session.specs.declared.phases.Phase.TheVariants.{One, Two, Awaiting, Ended, Closed}

-- the column "Session after", for what is received: 1, 3 to 12 and 20 close the session, 2 and the others above 12 leave it as it was
abbrev pub closes : ℕ → Bool
closes n = (leb n 12 && not (eqb n 2)) || eqb n 20

-- behind a refusal n of what was received in a phase
abbrev pub phase_refused : Phase → ℕ → Phase
phase_refused p n = pick (closes n) Closed p

-- an answer is due: a command of phase two awaits its response
abbrev pub is_due : Phase → Bool
is_due One = false
is_due Two = false
is_due (Awaiting w) = true
is_due Ended = false
is_due Closed = false

-- behind an opening with the number n
abbrev pub phase_opened : ℕ → Phase
phase_opened n = pick (eqb n 0) One Closed
