-- Whose turn it is in phase one, and the phase behind a command (document 01, "Numbers given back": 13, 14).
use Rattle.std.specs.Prelude.{ℕ, eqb}
use Rattle.refusal.specs.Pick.{pick}
use Rattle.session.specs.Phases.{phase_refused}
use Rattle.session.specs.declared.phases.Phase.{Phase}
use Rattle.session.specs.declared.phases.Phase.TheVariants.{One, Two, Awaiting, Ended, Closed}
use Rattle.phase_one.specs.Commands.{CommandOne, recipient, identity, key, header, done, other, bad}

-- a call of phase one: No. 13, the session is closed or has ended; No. 14, a call of the other phase
abbrev pub turn_one : Phase → ℕ
turn_one One = 0
turn_one Two = 14
turn_one (Awaiting w) = 14
turn_one Ended = 13
turn_one Closed = 13

-- an accepted done ends phase one; any other command leaves it
abbrev pub phase_after : CommandOne → Phase
phase_after (recipient m) = One
phase_after (identity m) = One
phase_after key = One
phase_after (header i m) = One
phase_after done = Two
phase_after other = One
phase_after (bad n) = One

-- behind a command with the number n that was received in a phase, where a refusal may close the session
abbrev pub phase_received : Phase → ℕ → CommandOne → Phase
phase_received p n c = pick (eqb n 0) (phase_after c) (phase_refused p n)

-- the same of one that was sent, where none does
abbrev pub phase_sent : Phase → ℕ → CommandOne → Phase
phase_sent p n c = pick (eqb n 0) (phase_after c) p
