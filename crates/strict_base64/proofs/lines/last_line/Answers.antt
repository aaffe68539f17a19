-- Fewer than 48 bytes make less than a line of characters, so the LF stands behind all of them.
use native.Mathlib.Omega.{arith}
use Rattle.strict_base64.proofs.Laws.Code.{encoded_length}
use Rattle.strict_base64.proofs.Laws.Lines.{lines_short}
use Rattle.strict_base64.proofs.lines.last_line.Goals as goal

pub bounds-out-n : goal.bounds-out-n
bounds-out-n c = omega (arith, c.encode_into.auto.out, c.encoded_length-n.ensures, encoded_length c.args.body.now, c.requires.body_in_bounds)

pub returns : goal.returns
returns c = let b = c.args.body.now in
    let o = c.args.out.now in
    rw c.encoded_length-n.ensures (lines_short b c.encode_into.new.out o c.requires.body_len_bound (rw (encoded_length b) c.requires.body_in_bounds) c.encode_into.ensures)
