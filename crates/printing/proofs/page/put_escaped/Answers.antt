-- `put_escaped` meets its contract: too many bytes in use, no room, or room.
use Prim.Native.Nat.{◌+◌}
use mathlib.Core.Path.{sym, ap, ◌∙◌}
use mathlib.Core.List.{◌++◌}
use lib.ListN.{take, drop, length-drop}
use Rattle.refusal.specs.Output.{said, answered, filled}
use Rattle.refusal.proofs.Laws.Lists.{part_rest, put_rest}
use Rattle.refusal.proofs.Laws.Output.{written_front, refused_over}
use Rattle.script.specs.Escape.{escaped}
use Rattle.printing.proofs.Laws.Page.{put_none, put_over, put_whole}
use Rattle.printing.proofs.page.put_escaped.Goals as goal

pub returns-then-out-at : goal.returns-then-out-at
returns-then-out-at c = put_none (escaped c.args.bytes.now) c.args.out.now c.args.at c.if-out-at.true

pub returns-in-Ok : goal.returns-in-Ok
returns-in-Ok c = let o = c.args.out.now in
    let t = escaped c.args.bytes.now in
    let n = c.args.at in
    let f = c.escape-w.ensures.buffer ∙ ap (λ x. filled t x) (part_rest n o) in
    let w = written_front t (drop n o) c.in-Ok.n _ (sym (ap said c.in-Ok.is) ∙ c.escape-w.ensures.answer ∙ ap (λ x. answered t x) (part_rest n o)) f in
    put_whole t o n _ _ (put_rest n o _ ∙ ap (λ p. take n o ++ p) f) (ap (λ k. n + k) w.size) (simp length-drop at w.fits)

pub returns-in-Err : goal.returns-in-Err
returns-in-Err c = let o = c.args.out.now in
    let t = escaped c.args.bytes.now in
    let n = c.args.at in
    put_over t o n _ (put_rest n o _ ∙ ap (λ p. take n o ++ p) (c.escape-w.ensures.buffer ∙ ap (λ x. filled t x) (part_rest n o))) (simp length-drop at (refused_over t (drop n o) _ (sym (ap said c.in-Err.is) ∙ c.escape-w.ensures.answer ∙ ap (λ x. answered t x) (part_rest n o))))
