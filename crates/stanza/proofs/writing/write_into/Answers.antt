-- The first line and the body's lines, one behind the other, are the stanza, and there is space for both.
use Rattle.stanza.proofs.Laws.Writing.{text_done}
use Rattle.stanza.proofs.writing.write_into.Goals as goal

pub returns : goal.returns
returns c = text_done c.args.line.now c.args.body.now c.write_line.new.out c.args.out.now c.encode_lines.new.out c.requires c.write_line.ensures c.encode_lines.ensures.buffer
