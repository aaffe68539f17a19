-- Invariant: the symbols so far are translated, and the others stand as they were.
use mathlib.Core.Path.{◌≡◌}
use mathlib.Core.List.{◌++◌, map}
use lib.ListN.{take, drop}
use Rattle.symbols.specs.Charset.{character_of}
use Rattle.bech32.specs.Text.{in_case}
use Rattle.bech32.specs.Calls.{form_of}
use Rattle.bech32.proofs.writing.translate.Given as goal

abbrev pub invariant-loop-v : goal.invariant-loop-v
invariant-loop-v l = l.v-items ≡ take l.v-index (in_case (form_of l.fn.kind) (map character_of l.initial.v-items)) ++ drop l.v-index l.initial.v-items
