-- The loop's invariant: what is counted and noted, with the lines from `at` on, comes to what all lines do.
use Rattle.std.proofs.Common.{◌≡◌, ◌+◌, ◌-◌, sym, ap, ◌∙◌, take, drop, arith}
use mathlib.Core.Path.{ap₂}
use Rattle.identity_file.specs.Lines.{lines}
use Rattle.identity_file.specs.Kinds.{kind_of}
use Rattle.identity_file.specs.Steps.{survey_of, surveyed, line_end, next_line, noted, kind_said}
use Rattle.identity_file.proofs.Laws.Lines.{end_le}
use Rattle.identity_file.proofs.Laws.Survey.{survey_step, survey_end, next_bounds, noted_bounds}
use Rattle.identity_file.proofs.survey.survey.Goals as goal

pub slice_bounds-judge_line-end : goal.slice_bounds-judge_line-end
slice_bounds-judge_line-end c = rw c.line_end-end.ensures (end_le c.args.text.now c.loop-at.at (omega arith))

pub loop-at-preserved : goal.loop-at-preserved
loop-at-preserved c = let text = c.args.text.now in
    let at = c.loop-at.at in
    let number = c.loop-at.number in
    let s = survey_of c.loop-at.t in
    let end = c.line_end-end.result in
    let le = c.line_end-end.ensures in
    let jl = c.judge_line-kind.ensures in
    let b = next_bounds text at c.loop-at-test.true in
    let n : c.next_line-at.result ≡ next_line text (line_end text at) = c.next_line-at.ensures ∙ ap (next_line text) le in
    let m = noted_bounds (kind_said c.judge_line-kind.result) number at end s in
    let q = ap (λ e. noted (kind_of (take (e - at) (drop at text))) number at e s) (sym le) ∙ ap (λ k. noted k number at end s) (sym jl) ∙ sym c.note.ensures in (
      omega (arith, b.1, n),
      omega (arith, b.0, n, c.loop-at.invariant.1),
      omega (arith, ap (λ r. r.keys) c.note.ensures, m.keys, c.loop-at.invariant.2),
      omega (arith, ap (λ r. r.invalid) c.note.ensures, m.invalid, c.loop-at.invariant.3),
      omega (arith, ap (λ r. r.valid) c.note.ensures, m.valid, c.loop-at.invariant.4),
      c.loop-at.invariant.5 ∙ survey_step text at number s c.loop-at-test.true ∙ ap₂ (λ a r. surveyed (number + 1) a (lines (drop a text)) r) (sym n) q,
    )

pub returns : goal.returns
returns c = sym (c.loop-at.invariant.5 ∙ survey_end c.args.text.now c.loop-at.at c.loop-at.number _ c.loop-at-test.false)
