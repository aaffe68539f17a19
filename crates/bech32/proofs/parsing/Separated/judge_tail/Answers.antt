-- The checksum, and then the bits left over or the alphabet.
use Prim.Native.Nat.{◌+◌}
use mathlib.Core.Path.{◌≡◌, sym, ap, ◌∙◌}
use mathlib.Core.List.{map}
use lib.ListN.{drop}
use native.Mathlib.Omega.{arith}
use Rattle.refusal.specs.Pick.{pick}
use Rattle.symbols.specs.Charset.{lower}
use Rattle.symbols.specs.Calls.{value_at}
use Rattle.symbols.specs.Checksum.{are_symbols}
use Rattle.symbols.specs.Regroup.{is_whole}
use Rattle.symbols.specs.Steps.{value_in}
use Rattle.bech32.specs.Text.{separator, payload_in}
use Rattle.bech32.proofs.Laws.Parsing.{payload_lower, tail_closed, tail_open, data_values, payload_values}
use Rattle.bech32.proofs.parsing.Separated.judge_tail.Goals as goal

pub returns-then-is_whole : goal.returns-then-is_whole
returns-then-is_whole c = let t = c.args.self.now.text.now in
    let w : is_whole (payload_in (map lower t)) ≡ c.is_whole.result =
    ap is_whole (payload_lower t ∙ sym (ap (map (value_in c.args.table.now)) c.payload.ensures ∙ payload_values c.args.table.now c.requires.values t c.args.self.now.bytes)) ∙ sym c.is_whole.ensures in
    sym (tail_closed t (sym c.is_checked.ensures ∙ c.if-is_checked.true) ∙ ap (λ b. pick b 0 22) (w ∙ c.if-is_whole.true))

pub returns-then-is_checked : goal.returns-then-is_checked
returns-then-is_checked c = let t = c.args.self.now.text.now in
    let w : is_whole (payload_in (map lower t)) ≡ c.is_whole.result =
    ap is_whole (payload_lower t ∙ sym (ap (map (value_in c.args.table.now)) c.payload.ensures ∙ payload_values c.args.table.now c.requires.values t c.args.self.now.bytes)) ∙ sym c.is_whole.ensures in
    sym (tail_closed t (sym c.is_checked.ensures ∙ c.if-is_checked.true) ∙ ap (λ b. pick b 0 22) (w ∙ c.if-is_whole.false))

pub returns-then-are_characters : goal.returns-then-are_characters
returns-then-are_characters c = let t = c.args.self.now.text.now in
    let a : are_symbols (map value_at (drop (separator t + 1) t)) ≡ c.are_characters.result =
    ap are_symbols (sym (ap (map (value_in c.args.table.now)) c.data.ensures ∙ data_values c.args.table.now c.requires.values t c.args.self.now.bytes)) ∙ sym c.are_characters.ensures in
    sym (tail_open t (omega (arith, c.requires.in_bounds)) (sym c.is_checked.ensures ∙ c.if-is_checked.false) ∙ ap (λ b. pick b 21 16) (a ∙ c.if-are_characters.true))

pub returns : goal.returns
returns c = let t = c.args.self.now.text.now in
    let a : are_symbols (map value_at (drop (separator t + 1) t)) ≡ c.are_characters.result =
    ap are_symbols (sym (ap (map (value_in c.args.table.now)) c.data.ensures ∙ data_values c.args.table.now c.requires.values t c.args.self.now.bytes)) ∙ sym c.are_characters.ensures in
    sym (tail_open t (omega (arith, c.requires.in_bounds)) (sym c.is_checked.ensures ∙ c.if-is_checked.false) ∙ ap (λ b. pick b 21 16) (a ∙ c.if-are_characters.false))
