-- `read_word` is safe: what `unescape` wrote fits behind `from`, so the sum does not wrap.
use native.Mathlib.Omega.{arith}
use Prim.Native.Nat.{◌-◌}
use lib.ListN.{length, take, drop, length-take, length-drop}
use Rattle.script.specs.Escape.{unescaped}
use Rattle.replay_lines.proofs.Laws.{unescaped_fits}
use Rattle.replay_lines.proofs.words.read_word.Goals as goal

pub overflow_add-result : goal.overflow_add-result
overflow_add-result c = let from = c.min-from.result in
    let text = c.args.text.now in
    let h = unescaped_fits (unescaped c.args.word.now) (take (length text - from) (drop from text)) c.unescape-u.result c.in-Some.written c.in-Ok.n c.in-Some.is c.in-Ok.is c.unescape-u.ensures.answer in
    omega (arith, simp (length-take, length-drop) at h)
