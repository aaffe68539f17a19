-- The length decides between 15 and writing; what is written is what `decode_into` ensures.
use mathlib.Core.Path.{refl, sym, ◌∙◌}
use borrow.Author.Tests.{lt-ltb, le-ltb}
use Rattle.strict_base64.proofs.Laws.Code.{decoded_length}
use Rattle.strict_base64.proofs.decoding.decode.Goals as goal

pub returns-then-out-n : goal.returns-then-out-n
returns-then-out-n c = let e = c.decoded_length-n.ensures ∙ sym (decoded_length c.args.text.now) in
    record {
      answer = rw (lt-ltb _ _ (rw e at c.if-out-n.true)) refl;
      buffer = rw (lt-ltb _ _ (rw e at c.if-out-n.true)) refl;
    }

pub returns-clause-answer : goal.returns-clause-answer
returns-clause-answer c = let e = c.decoded_length-n.ensures ∙ sym (decoded_length c.args.text.now) in
    rw (e, le-ltb _ _ (rw e at c.if-out-n.false)) refl
