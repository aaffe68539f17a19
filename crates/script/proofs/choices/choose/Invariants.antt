-- `choose` meets its contract. Invariant: the word names what it names among the choices that are left.
use Rattle.std.proofs.Common.{◌≡◌, drop}
use Rattle.script.specs.Choice.{chosen}
use Rattle.script.proofs.choices.choose.Given as goal

abbrev pub invariant-loop-name : goal.invariant-loop-name
invariant-loop-name g l = chosen l.word l.choices ≡ chosen l.word (drop l.name-index l.choices)
