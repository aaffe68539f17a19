-- The number of a command behind what the tables decide of it. Nobody has to believe this: the ends show that it is the decision's.
use Rattle.std.specs.Prelude.{ℕ, List, length}
use Rattle.refusal.specs.Verdict.{first_of}
use Rattle.session.specs.Tables.{Tables}
use Rattle.conversation.specs.CommandsTwo.{CommandTwo}
use Rattle.conversation.specs.PhaseTwo.{BuffersTwo, when, is_spaceless}

-- what is ruled, then 8, then a late fault; p is the payload
abbrev pub number_stepped : ℕ → Tables → BuffersTwo → CommandTwo → List ℕ → ℕ → ℕ
number_stepped ruled t b c p late = first_of (first_of ruled (when (is_spaceless t b c (length p)) 8)) late
