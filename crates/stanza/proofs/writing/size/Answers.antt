-- By arguments and length: a line or body of more than 8,192 bytes makes too long a stanza, and any other no sum that wraps.
use mathlib.Core.Path.{sym, ◌∙◌}
use lib.ListN.{length}
use native.Mathlib.Omega.{arith}
use borrow.Author.Tests.{lt-leb, not-false}
use Rattle.strict_base64.proofs.Laws.Lines.{lines_length}
use Rattle.stanza.specs.Grammar.{stanza_text}
use Rattle.stanza.proofs.Laws.Writing.{text_length}
use Rattle.stanza.proofs.writing.size.Goals as goal

pub returns-then-body-gt-LONGEST : goal.returns-then-body-gt-LONGEST
returns-then-body-gt-LONGEST c = rw ((sym c.is_line.ensures ∙ not-false _ c.if-not-is_line.false-raw), lt-leb (length (stanza_text c.args.line.now c.args.body.now)) 8192 (omega (arith, text_length c.args.line.now c.args.body.now, lines_length c.args.body.now)))

pub overflow_add-n-2 : goal.overflow_add-n-2
overflow_add-n-2 c = omega (arith, c.lines_length.ensures, lines_length c.args.body.now)
