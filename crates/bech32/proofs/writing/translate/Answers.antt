-- Invariant: the symbols so far are translated, and the others stand as they were.
use Prim.Native.Nat.{◌<◌}
use mathlib.Core.Path.{◌≡◌, refl, ap, ap₂, ◌∙◌}
use mathlib.Core.List.{◌++◌, map}
use lib.ListN.{length, get_or, length-map, drop_of_length-le}
use native.Mathlib.Omega.{arith}
use lib.Seq.{take_all}
use mathlib.Core.List.{append-nil}
use Rattle.symbols.specs.Charset.{character_of}
use Rattle.bech32.specs.Text.{in_case}
use Rattle.bech32.specs.Calls.{form_of}
use Rattle.bech32.proofs.Laws.Writing.{front_next, translated}
use Rattle.bech32.proofs.Laws.Human.{case_length}
use Rattle.symbols.proofs.Laws.Groups.{symbol_at}
use Rattle.symbols.proofs.Laws.Maps.{map_id}
use Rattle.symbols.specs.Checksum.{are_symbols}
use Rattle.bech32.proofs.writing.translate.Goals as goal

pub loop-v-init : goal.loop-v-init
loop-v-init c = refl

pub bounds-table-from : goal.bounds-table-from
bounds-table-from c = let out₀ = c.args.out.now in
    let k = form_of c.args.kind in
    let e = front_next (in_case k (map character_of out₀)) c.loop-v.v-items out₀ c.loop-v.v-index c.loop-v.invariant (omega (arith, case_length k (map character_of out₀), length-map out₀ character_of)) in
    let b : get_or c.loop-v.v-items c.loop-v.v-index 0 < 32 = rw e (symbol_at (λ v. v) out₀ c.loop-v.v-index (ap are_symbols (map_id out₀) ∙ c.requires) (omega arith)) in
    omega (arith, c.from.ensures)

pub loop-v-preserved : goal.loop-v-preserved
loop-v-preserved c = let out₀ = c.args.out.now in
    let k = form_of c.args.kind in
    let e = front_next (in_case k (map character_of out₀)) c.loop-v.v-items out₀ c.loop-v.v-index c.loop-v.invariant (omega (arith, case_length k (map character_of out₀), length-map out₀ character_of)) in
    let b : get_or c.loop-v.v-items c.loop-v.v-index 0 < 32 = rw e (symbol_at (λ v. v) out₀ c.loop-v.v-index (ap are_symbols (map_id out₀) ∙ c.requires) (omega arith)) in
    translated k c.loop-v.v-items out₀ c.loop-v.v-index _ c.loop-v.invariant (omega arith) (rw c.from.ensures (c.characters-table.ensures (get_or c.loop-v.v-items c.loop-v.v-index 0) b))

pub returns : goal.returns
returns c = let out₀ = c.args.out.now in
    let w = in_case (form_of c.args.kind) (map character_of out₀) in
    let n : length w ≡ length out₀ = case_length (form_of c.args.kind) (map character_of out₀) ∙ length-map out₀ character_of in
    let i = c.loop-v.v-index in
    c.loop-v.invariant ∙ ap₂ (λ a b. a ++ b) (take_all i w (omega arith)) (drop_of_length-le out₀ {i = i} (omega arith)) ∙ append-nil w
