-- What the code's values stand for.
use Rattle.std.specs.Prelude.{ℕ, List, [], Option, Some, None}
use Rattle.phase_one.specs.PhaseOne as one
use Rattle.conversation.specs.Kinds.{Buffers}
use Rattle.conversation.specs.PhaseTwo.{BuffersTwo}
use Rattle.chunks.specs.Taking.{plugin, Intake}
use Rattle.intake.specs.Intake.{intake_of}
use Rattle.judging.specs.Judging.{Judged, Standing, going, stopped, State}
use Rattle.judging.specs.declared.Judged.{Judged as CodeJudged}
use Rattle.judging.specs.declared.Judging.{Judging}

-- the five numbers
abbrev pub judged_said : CodeJudged → Judged
judged_said x = record { recipients = x.recipients; identities = x.identities; keys = x.keys; headers = x.headers; answer = x.answer }

-- where judging stands, by its progress and what its session keeps
abbrev pub standing_in : Option CodeJudged → Intake → Standing
standing_in None i = going i
standing_in (Some x) i = stopped (judged_said x)

-- the same of the code's value, with the slots of six kinds, those of the header stanzas and the lent input
abbrev pub standing_of : Judging → List (List ℕ) → List (List ℕ) → List ℕ → Standing
standing_of j xs hs input = standing_in j.progress (intake_of plugin j.session xs hs input)

-- the buffers of recipients, identities and file keys; none for header stanzas, which recipient-v1 does not have; those of phase two are not lent
abbrev pub buffers_in : List ℕ → List ℕ → List ℕ → BuffersTwo → Buffers
buffers_in r i k c = record { first = one.buffers_of r i k []; second = c }

-- where judging stands, with the buffers
abbrev pub state_said : Judging → List (List ℕ) → List (List ℕ) → List ℕ → Buffers → State
state_said j xs hs input b = record { standing = standing_of j xs hs input; buffers = b }
