-- The lines' length decides between 15 and writing; what is written is what `lines_into` ensures.
use native.Mathlib.Omega.{arith}
use Rattle.strict_base64.proofs.Laws.Lines.{lines_length}
use Rattle.strict_base64.proofs.lines.encode_lines.Goals as goal

pub lines_into-requires : goal.lines_into-requires
lines_into-requires c = omega (arith, c.lines_length-n.ensures, lines_length c.args.body.now)
