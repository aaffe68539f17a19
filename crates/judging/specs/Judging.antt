-- Judging a recorded phase one (document 01, "The judging program"; document 02, No. 1: its input comes in pieces).
use Rattle.std.specs.Prelude.{ℕ, false, List, [], ◌∷◌, replicate}
use Rattle.session.specs.Tables.{Tables}
use Rattle.session.specs.Session.{opened_session}
use Rattle.session.specs.declared.opening.Machine.TheVariants.{RecipientV1}
use Rattle.session.specs.declared.phases.Phase.{Phase}
use Rattle.session.specs.declared.phases.Phase.TheVariants.{One, Two, Awaiting, Ended, Closed}
use Rattle.phase_one.specs.PhaseOne as one
use Rattle.conversation.specs.Kinds.{Buffers}
use Rattle.conversation.specs.PhaseTwo as two
use Rattle.chunks.specs.Taking.{plugin, Intake, emptied}
use Rattle.chunks.specs.Chunks.{Outcome, chunked, finished}

-- what the program writes: four counts and the answer, 0 behind done, else the number of the refusal
pub record Judged : Type 0 where
  pub recipients : ℕ
  pub identities : ℕ
  pub keys : ℕ
  pub headers : ℕ
  pub answer : ℕ

-- the counts of tables, and an answer
abbrev pub counted : Tables → ℕ → Judged
counted t n = record { recipients = t.recipients.count; identities = t.identities.count; keys = t.keys.count; headers = t.headers.count; answer = n }

-- judging goes on with what a plugin session keeps, or has stopped
pub data Standing : Type 0 where
  going : Intake → Standing
  stopped : Judged → Standing

-- where judging stands, and the buffers
pub record State : Type 0 where
  pub standing : Standing
  pub buffers : Buffers

-- ---- one chunk

-- behind a chunk, by the phase: phase one goes on; it "stops at done", whatever stands behind it; or a refusal has closed the session, and "the counts are those
-- before it"
abbrev pub behind_phase : Phase → ℕ → Intake → Standing
behind_phase One n i = going i
behind_phase Two n i = stopped (counted i.session.tables 0)
behind_phase (Awaiting w) n i = stopped (counted i.session.tables 0)
behind_phase Ended n i = stopped (counted i.session.tables 0)
behind_phase Closed n i = stopped (counted i.session.tables n)

abbrev pub behind_chunk : Outcome → Standing
behind_chunk o = behind_phase o.intake.session.phase o.number o.intake

-- a chunk, where judging stands. Phase one writes nothing
abbrev pub judged_from : Standing → Buffers → List ℕ → State
judged_from (going i) b bytes = let o = chunked plugin i b bytes [] in record { standing = behind_chunk o; buffers = o.buffers }
judged_from (stopped x) b bytes = record { standing = stopped x; buffers = b }

-- ---- a text

-- the plugin's name is not given and does not show in the counts: "judge"
abbrev pub judge_name : List ℕ
judge_name = 106 ∷ 117 ∷ 100 ∷ 103 ∷ 101 ∷ []

-- "a recipient-v1 phase one": a plugin session just opened, which keeps nothing
abbrev pub start : Intake
start = emptied (opened_session RecipientV1 judge_name false) []

-- a text in chunks
unfoldable pub judged_all : Standing → Buffers → List (List ℕ) → State
judged_all d b [] = record { standing = d; buffers = b }
judged_all d b (t ∷ ts) = let r = judged_from d b t in judged_all r.standing r.buffers ts

-- the five numbers behind the input's end: where judging goes on it has ended before done, No. 2
abbrev pub numbers_of : Standing → Judged
numbers_of (going i) = counted i.session.tables (finished i.session.phase)
numbers_of (stopped x) = x

-- a whole text, with these buffers
abbrev pub judged_text : Buffers → List ℕ → State
judged_text b text = judged_from (going start) b text

-- "with rooms of 16,384, 16,384 and 1,024 bytes", and none for header stanzas, of which recipient-v1 has none, nor for phase two
abbrev pub buffers_given : Buffers
buffers_given = record { first = one.buffers_of (replicate 16384 0) (replicate 16384 0) (replicate 1024 0) []; second = two.buffers_of [] [] [] }

-- what the program writes for an input
abbrev pub judged : List ℕ → Judged
judged text = numbers_of (judged_text buffers_given text).standing
