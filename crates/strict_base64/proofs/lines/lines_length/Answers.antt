-- The characters, an LF for every 64 of them and the last LF; the sum does not wrap.
use mathlib.Core.Path.{sym}
use native.Mathlib.Omega.{arith}
use Rattle.strict_base64.proofs.Laws.Code.{encoded_length}
use Rattle.strict_base64.proofs.Laws.Lines.{lines_length}
use Rattle.strict_base64.proofs.lines.lines_length.Goals as goal

pub overflow_add-result : goal.overflow_add-result
overflow_add-result c = omega (arith, c.encoded_length-c.ensures, encoded_length c.args.body.now)

pub overflow_add-result-2 : goal.overflow_add-result-2
overflow_add-result-2 c = omega (arith, c.encoded_length-c.ensures, encoded_length c.args.body.now)

pub returns : goal.returns
returns c = rw (c.encoded_length-c.ensures, encoded_length c.args.body.now) (sym (lines_length c.args.body.now))
