-- The loop's invariant: what is counted and noted, with the lines from `at` on, comes to what all lines do.
use Rattle.std.proofs.Common.{◌≡◌, ◌-◌, ◌≤◌, length, drop}
use Rattle.identity_file.specs.Lines.{lines}
use Rattle.identity_file.specs.Steps.{survey_of, nothing, surveyed}
use Rattle.identity_file.proofs.survey.survey.Given as goal

abbrev pub invariant-loop-at : goal.invariant-loop-at
invariant-loop-at l = (l.at ≤ length l.text) × (l.number ≤ l.at) × (l.t.keys ≤ l.number) × (l.t.invalid ≤ l.number) × (l.t.valid ≤ l.number) × (surveyed 0 0 (lines l.text) nothing ≡ surveyed l.number l.at (lines (drop l.at l.text)) (survey_of l.t))

abbrev pub decreases-loop-at : goal.decreases-loop-at
decreases-loop-at l = length l.text - l.at
