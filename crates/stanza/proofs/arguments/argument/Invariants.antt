-- Invariant: the word that is looked for is, of what stands from `at` on, the one whose number is what `k` exceeds the turns by.
use Prim.Native.Nat.{◌-◌, ◌≤◌}
use mathlib.Core.Path.{◌≡◌}
use lib.ListN.{length, drop}
use Rattle.stanza.specs.Arguments.{argument_of}
use Rattle.stanza.proofs.arguments.argument.Given as goal

abbrev pub invariant-loop : goal.invariant-loop
invariant-loop l = (l.at ≤ length l.line) × (argument_of l.line l.k ≡ argument_of (drop l.at l.line) (l.k - l.counter))
