-- The loop's invariant: the commands of the first places stand at the front, and behind them the buffer is as it was.
use Rattle.std.proofs.Common.{◌≡◌, ◌++◌, length, take, drop}
use Rattle.identity_file.specs.Files.{commands_of}
use Rattle.identity_file.specs.Steps.{texts_at}
use Rattle.identity_file.proofs.writing.put_commands.Given as goal

abbrev pub invariant-loop-start : goal.invariant-loop-start
invariant-loop-start l = (l.from ≡ length (commands_of (texts_at l.text (take l.start-index l.places))))
    × (length l.out ≡ length l.initial.out)
    × (l.out ≡ commands_of (texts_at l.text (take l.start-index l.places)) ++ drop l.from l.initial.out)
