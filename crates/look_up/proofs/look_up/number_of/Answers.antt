-- The entries before i have been passed, and the k-th of the file is looked for among the rest.
use borrow.Author.Tests.{eq-eqb, ne_eqb}
use mathlib.Core.Path.{◌≡◌, sym, ap, ◌∙◌}
use Prim.Native.Nat.{◌+◌}
use lib.ListN.{length}
use native.Mathlib.Omega.{arith}
use Rattle.conversation.specs.PhaseTwo.{is_file, label_of}
use Rattle.look_up.specs.LookUp.{number_of}
use Rattle.look_up.proofs.Laws.Labels.{labels_are}
use Rattle.look_up.proofs.Laws.LookUp.{onward, onward_here, onward_one, onward_none, onward_end}
use Rattle.look_up.proofs.look_up.number_of.Goals as goal
use Rattle.look_up.proofs.look_up.number_of.Goals.{then-from-file+else-left-eq0, else-from-file}

pub loop-i-init : goal.loop-i-init
loop-i-init c = omega arith

pub returns-then-left-eq0 : goal.returns-then-left-eq0
returns-then-left-eq0 c =
    let a = c.args in
    let f = is_file a.file in
    let es = c.entries-entries.result.now in
    let e = ap (λ x. f (label_of x)) (sym c.from.ensures) ∙ eq-eqb _ _ c.if-from-file.true in
    sym (onward_here f es c.loop-i.i c.loop-i.left (omega arith) e c.if-left-eq0.true) ∙ c.loop-i.invariant
    ∙ ap (λ ls. number_of f ls a.k) (labels_are a.span a.table a.slots.now es c.entries-entries.ensures)

pub loop-i-preserved : goal.loop-i-preserved
loop-i-preserved c =
    let f = is_file c.args.file in
    let es = c.entries-entries.result.now in
    let i = c.loop-i.i in
    let l = c.loop-i.left in
    let e = ap (λ x. f (label_of x)) (sym c.from.ensures) in
    elim c.if-from-file.branch [
      | then-from-file+else-left-eq0 v ↦ sym (onward_one f es i l c.if-from-file.left (omega arith) (e ∙ eq-eqb _ _ v.if-from-file.true) (omega arith)) ∙ c.loop-i.invariant
      | else-from-file v ↦ ap (onward f es (i + 1)) v.left-is ∙ sym (onward_none f es i l (omega arith) (e ∙ ne_eqb _ _ v.if-from-file.false)) ∙ c.loop-i.invariant
    ]

pub returns : goal.returns
returns c =
    let a = c.args in
    let f = is_file a.file in
    let es = c.entries-entries.result.now in
    let i : c.loop-i.i ≡ length es = omega arith in
    sym (onward_end f es c.loop-i.left) ∙ ap (λ n. onward f es n c.loop-i.left) (sym i) ∙ c.loop-i.invariant
    ∙ ap (λ ls. number_of f ls a.k) (labels_are a.span a.table a.slots.now es c.entries-entries.ensures)
