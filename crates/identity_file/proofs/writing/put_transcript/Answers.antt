-- The commands, and done behind them.
use Rattle.std.proofs.Common.{arith}
use Rattle.identity_file.specs.Steps.{texts_at}
use Rattle.identity_file.proofs.Laws.Writing.{transcript_length, done_placed}
use Rattle.strict_base64.specs.Code.{encoded}
use Rattle.strict_base64.specs.Lines.{wrapped}
use Rattle.identity_file.proofs.writing.put_transcript.Goals as goal

pub slice_bounds-copy_from_slice-end : goal.slice_bounds-copy_from_slice-end
slice_bounds-copy_from_slice-end c = omega (arith, c.put_commands-end.ensures.end, c.put_commands-end.auto.out, transcript_length (texts_at c.args.text.now c.args.places.now), c.requires.places_in_bounds)

pub returns : goal.returns
unfolding wrapped encoded
returns c =
    rw c.copy_from_slice.ensures.after (done_placed (texts_at c.args.text.now c.args.places.now) c.put_commands-end.new.out c.args.out.now c.put_commands-end.result c.put_commands-end.ensures.end c.put_commands-end.ensures.buffer)
