-- The loop's invariant: the size is that of the first commands and done, and at most 1,042 a command.
use Rattle.std.proofs.Common.{◌≡◌, ◌+◌, ◌*◌, ◌≤◌, length, take}
use Rattle.identity_file.specs.Files.{commands_of}
use Rattle.identity_file.specs.Steps.{texts_at}
use Rattle.identity_file.proofs.writing.transcript_size.Given as goal

abbrev pub invariant-loop-start : goal.invariant-loop-start
invariant-loop-start l = (l.size ≤ 9 + l.start-index * 1042) × (l.size ≡ length (commands_of (texts_at l.text (take l.start-index l.places))) + 9)
