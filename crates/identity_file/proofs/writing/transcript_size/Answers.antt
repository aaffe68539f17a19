-- The loop's invariant: the size is that of the first commands and done, and at most 1,042 a command.
use Rattle.std.proofs.Common.{◌+◌, length, sym, ap, ◌∙◌, arith}
use lib.Seq.{take_all}
use Rattle.identity_file.specs.Files.{commands_of}
use Rattle.identity_file.specs.Steps.{texts_at}
use Rattle.identity_file.proofs.Laws.Writing.{transcript_length, size_more, commands_none}
use Rattle.identity_file.proofs.writing.transcript_size.Goals as goal

pub loop-start-init : goal.loop-start-init
loop-start-init c = (omega arith, ap (λ x. length x + 9) (sym (commands_none c.args.text.now c.args.places.now)))

pub loop-start-preserved : goal.loop-start-preserved
loop-start-preserved c =
    let i = c.loop-start.start-index in
    let h = c.requires.places i c.loop-start-test.true in
    let m = size_more c.args.text.now c.args.places.now i c.loop-start-test.true h in
    (omega (arith, h.short), omega (arith, m, c.loop-start.invariant.1))

pub returns : goal.returns
returns c =
    let t = c.args.text.now in
    let ps = c.args.places.now in
    c.loop-start.invariant.1 ∙ ap (λ qs. length (commands_of (texts_at t qs)) + 9) (take_all c.loop-start.start-index ps c.loop-start-test.false) ∙ sym (transcript_length (texts_at t ps))
