-- The least of the two ends; the second lies behind the separator, which the first does not reach.
use Prim.Native.Nat.{◌+◌, min}
use mathlib.Core.Path.{◌≡◌, sym, ap, ◌∙◌}
use mathlib.Core.List.{map}
use lib.ListN.{drop, length-map, length-drop}
use native.Mathlib.Omega.{arith}
use lib.Dec.{ltb}
use Rattle.refusal.specs.Run.{run, is_graphic}
use Rattle.symbols.specs.Calls.{value_at}
use Rattle.symbols.specs.Steps.{value_in}
use Rattle.bech32.specs.Text.{separator, place_in}
use Rattle.refusal.proofs.Laws.Run.{run_le}
use Rattle.bech32.proofs.Laws.Parsing.{place_graphic, place_least, data_values}
use Rattle.bech32.proofs.parsing.Separated.place.Goals as goal

pub returns-then-graphic-self : goal.returns-then-graphic-self
returns-then-graphic-self c = let t = c.args.self.now.text.now in
    let s : c.args.self.now.at ≡ separator t = c.args.self.now.at_separator in
    c.graphic_run-graphic.ensures ∙ place_graphic t (omega (arith, c.graphic_run-graphic.ensures, c.if-graphic-self.true))

pub data-requires : goal.data-requires
data-requires c = let t = c.args.self.now.text.now in
    let s : c.args.self.now.at ≡ separator t = c.args.self.now.at_separator in
    omega (arith, c.graphic_run-graphic.ensures, run_le is_graphic t, c.if-graphic-self.false)

pub overflow_add-self-2 : goal.overflow_add-self-2
overflow_add-self-2 c = let t = c.args.self.now.text.now in
    let s : c.args.self.now.at ≡ separator t = c.args.self.now.at_separator in
    let r : c.character_run.result ≡ run (λ v. ltb v 32) (map value_at (drop (separator t + 1) t)) =
    c.character_run.ensures ∙ ap (run (λ v. ltb v 32)) (ap (map (value_in c.values.result)) c.data.ensures ∙ data_values c.values.result c.values.ensures t c.args.self.now.bytes) in
    omega (arith, r, run_le (λ v. ltb v 32) (map value_at (drop (separator t + 1) t)), length-map (drop (separator t + 1) t) value_at, length-drop (separator t + 1) t, c.graphic_run-graphic.ensures, run_le is_graphic t, c.if-graphic-self.false)

pub returns : goal.returns
returns c = let t = c.args.self.now.text.now in
    let s : c.args.self.now.at ≡ separator t = c.args.self.now.at_separator in
    let r : c.character_run.result ≡ run (λ v. ltb v 32) (map value_at (drop (separator t + 1) t)) =
    c.character_run.ensures ∙ ap (run (λ v. ltb v 32)) (ap (map (value_in c.values.result)) c.data.ensures ∙ data_values c.values.result c.values.ensures t c.args.self.now.bytes) in
    let p : place_in t ≡ min (run is_graphic t) (c.args.self.now.at + 1 + c.character_run.result) = rw s (place_least t (separator t + 1 + c.character_run.result) (ap (λ x. separator t + 1 + x) r)) in
    c.min.ensures ∙ ap (λ n. min n (c.args.self.now.at + 1 + c.character_run.result)) c.graphic_run-graphic.ensures ∙ sym p
