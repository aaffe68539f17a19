-- Three copies, one behind the other.
use Rattle.std.proofs.Common.{arith, ap, ◌∙◌}
use lib.ListN.{length, length-take, length-drop, length-append}
use Rattle.identity_file.proofs.Laws.Writing.{command_placed, filled_exact}
use Rattle.identity_file.proofs.writing.put_command.Goals as goal

pub copy_from_slice-requires : goal.copy_from_slice-requires
copy_from_slice-requires c = omega (arith, length-take 16 c.args.out.now)

pub returns : goal.returns
returns c = rw (c.copy_from_slice.ensures.after, c.copy.ensures ∙ filled_exact c.args.line.now _ (simp (length-take, length-drop, length-append) (omega (arith, c.requires, ap length c.copy_from_slice.ensures.after))), c.copy_from_slice-2.ensures.after) (command_placed c.args.line.now c.args.out.now)
