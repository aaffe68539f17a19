-- Invariant: the first i bytes in the kind's case stand at the front, what was there behind them.
use mathlib.Core.Path.{sym, ap, ◌∙◌}
use mathlib.Core.List.{◌++◌}
use lib.ListN.{length, drop}
use native.Mathlib.Omega.{arith}
use Rattle.bech32.specs.Calls.{form_of}
use Rattle.bech32.specs.Steps.{cased_byte}
use Rattle.bech32.proofs.Laws.Human.{map_store, map_whole, case_map}
use Rattle.bech32.proofs.human.put_word.Goals as goal

pub loop-i-preserved : goal.loop-i-preserved
loop-i-preserved c = map_store (cased_byte (form_of c.args.kind)) c.args.word.now c.loop-i.out c.args.out.now c.loop-i.i c.cased.result c.loop-i.invariant c.loop-i-test.true c.requires c.cased.ensures

pub returns : goal.returns
returns c = let k = form_of c.args.kind in
    let w = c.args.word.now in
    let o₀ = c.args.out.now in
    map_whole (cased_byte k) w c.loop-i.out o₀ c.loop-i.i c.loop-i.invariant (omega arith) ∙ ap (λ x. x ++ drop (length w) o₀) (sym (case_map k w))
