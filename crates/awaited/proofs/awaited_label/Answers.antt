-- No such label, or the word behind the first.
use mathlib.Core.Path.{◌≡◌, ap, ◌∙◌}
use mathlib.Core.Bool.{true, false}
use Prim.Native.Nat.{◌+◌}
use lib.Dec.{ltb}
use borrow.Author.Tests.{lt-ltb, le-ltb}
use native.Mathlib.Omega.{arith}
use Rattle.stanza.specs.Arguments.{argument_of}
use Rattle.awaited.specs.Awaited.{awaited_text, label_count}
use Rattle.awaited.proofs.Laws.Awaited.{nothing_written}
use Rattle.awaited.proofs.awaited_label.Goals as goal

pub returns-then-awaited_labels-n : goal.returns-then-awaited_labels-n
returns-then-awaited_labels-n c = let a = c.args in
    let t = awaited_text a.session a.input.now in
    let z : ltb a.n (label_count t) ≡ false = le-ltb a.n (label_count t) (omega (arith, c.if-awaited_labels-n.true, c.awaited_labels.ensures)) in
    let n = nothing_written a.out.now in
    record { answer = rw z n.0; buffer = rw z n.1 }

pub returns : goal.returns
returns c = let a = c.args in
    let t = awaited_text a.session a.input.now in
    let z : ltb a.n (label_count t) ≡ true = lt-ltb a.n (label_count t) (omega (arith, c.if-awaited_labels-n.false, c.awaited_labels.ensures)) in
    let y = c.argument.ensures ∙ ap (λ l. argument_of l (a.n + 1)) c.line.ensures in
    record {
      answer = rw (z, ← y) c.decode.ensures.answer;
      buffer = rw (z, ← y) c.decode.ensures.buffer;
    }
