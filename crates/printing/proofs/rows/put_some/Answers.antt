-- `put_some` meets its contract: an empty word, or another.
use mathlib.Core.Path.{◌∙◌}
use Rattle.printing.specs.Page.{page}
use Rattle.printing.proofs.Laws.Page.{some_empty, some_word}
use Rattle.printing.proofs.rows.put_some.Goals as goal

pub returns-then-bytes-eq0 : goal.returns-then-bytes-eq0
returns-then-bytes-eq0 c = some_empty c.args.bytes.now (page c.args.at c.args.out.now) c.if-bytes-eq0.true

pub returns : goal.returns
returns c = c.put_word.ensures ∙ some_word c.args.bytes.now (page c.args.at c.args.out.now) c.if-bytes-eq0.false
