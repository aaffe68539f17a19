-- The window is all that the definition looks at; in it the first line decides, then the body.
use Prim.Native.Nat.{min}
use mathlib.Core.Path.{◌≡◌, ◌∙◌}
use lib.ListN.{length}
use borrow.Author.Rules.{rules}
use Rattle.stanza.specs.Reading.{found}
use Rattle.stanza.proofs.Laws.Reading.{window_is, short_is, found_window}
use Rattle.stanza.proofs.reading.read.Goals as goal

pub returns-in-Err : goal.returns-in-Err
returns-in-Err c = let w : c.min-n.result ≡ min 8192 (length c.args.text.now) = search rules in
    rw (window_is c.args.text.now c.min-n.result w, rw c.in-Err.is at c.first_line-l.ensures.text_value) (c.refusal_of.ensures _ ∙ found_window c.args.text.now c.min-n.result w _)

pub returns-in-Ok : goal.returns-in-Ok
returns-in-Ok c = let w : c.min-n.result ≡ min 8192 (length c.args.text.now) = search rules in
    rw (window_is c.args.text.now c.min-n.result w, rw c.in-Ok.is at c.first_line-l.ensures.text_value) (c.read_body.ensures ∙ found_window c.args.text.now c.min-n.result w _)
