-- The body's length decides between 15 and writing; what is written is what `body_into` ensures.
use mathlib.Core.Path.{refl, sym, ◌∙◌}
use borrow.Author.Tests.{lt-ltb, le-ltb}
use Rattle.strict_base64.proofs.Laws.Lines.{body_length}
use Rattle.strict_base64.proofs.lines.decode_lines.Goals as goal

pub returns-then-out-n : goal.returns-then-out-n
returns-then-out-n c = let e = c.body_length-n.ensures ∙ sym (body_length c.args.lines.now) in
    record {
      answer = rw (lt-ltb _ _ (rw e at c.if-out-n.true)) refl;
      buffer = rw (lt-ltb _ _ (rw e at c.if-out-n.true)) refl;
    }

pub returns-clause-answer : goal.returns-clause-answer
returns-clause-answer c = let e = c.body_length-n.ensures ∙ sym (body_length c.args.lines.now) in
    rw (e, le-ltb _ _ (rw e at c.if-out-n.false)) refl
