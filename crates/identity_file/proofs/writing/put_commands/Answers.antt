-- The loop's invariant: the commands of the first places stand at the front, and behind them the buffer is as it was.
use Rattle.std.proofs.Common.{◌+◌, ◌-◌, length, refl, sym, ap, ◌∙◌, arith}
use lib.ListN.{length-take, length-drop}
use borrow.Rule.Slice.PartMut.{same_len_mid}
use Rattle.identity_file.proofs.Laws.Writing.{size_more, commands_none, commands_le, commands_placed}
use Rattle.identity_file.proofs.writing.put_commands.Goals as goal

pub loop-start-init : goal.loop-start-init
loop-start-init c = (ap length (sym (commands_none c.args.text.now c.args.places.now)), refl, rw commands_none)

pub put_command-requires : goal.put_command-requires
put_command-requires c =
    let t = c.args.text.now in
    let ps = c.args.places.now in
    let i = c.loop-start.start-index in
    let h = c.requires.places i c.loop-start-test.true in
    simp (length-take, length-drop) (omega (arith, h.order, h.inside, size_more t ps i c.loop-start-test.true h, commands_le t ps (i + 1), c.requires.places_in_bounds, c.loop-start.invariant.0, c.loop-start.invariant.1))

pub loop-start-preserved : goal.loop-start-preserved
loop-start-preserved c =
    let t = c.args.text.now in
    let ps = c.args.places.now in
    let i = c.loop-start.start-index in
    let out = c.loop-start.out in
    let from = c.loop-start.from in
    let part = c.put_command.new.out in
    let h = c.requires.places i c.loop-start-test.true in
    let m = size_more t ps i c.loop-start-test.true h in (
      omega (arith, m, c.loop-start.invariant.0),
      same_len_mid from (length out - from) out part c.put_command.auto.out ∙ c.loop-start.invariant.1,
      commands_placed t ps i out c.args.out.now part from c.loop-start-test.true h c.loop-start.invariant.0 c.loop-start.invariant.2 c.put_command.ensures,
    )
