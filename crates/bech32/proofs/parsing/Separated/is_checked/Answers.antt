-- Seven bytes from the separator on, and the values behind it close from the state of the human part.
use Prim.Native.Nat.{◌+◌, ◌-◌}
use mathlib.Core.Path.{◌≡◌, sym, ap, ap₂, ◌∙◌}
use mathlib.Core.Bool.{◌&&◌}
use mathlib.Core.List.{map}
use lib.ListN.{length, take, drop}
use native.Mathlib.Omega.{arith}
use borrow.Author.Tests.{lt-leb, le-leb}
use Rattle.symbols.specs.Charset.{lower}
use Rattle.symbols.specs.Calls.{closes, value_at}
use Rattle.symbols.specs.Checksum.{polymod, expanded}
use Rattle.symbols.specs.Steps.{value_in}
use Rattle.bech32.specs.Text.{separator, has_tail, is_closed}
use Rattle.bech32.proofs.Laws.Parsing.{checked_is, data_values}
use Rattle.bech32.proofs.parsing.Separated.is_checked.Goals as goal

pub returns-then-self-lt-TAIL : goal.returns-then-self-lt-TAIL
returns-then-self-lt-TAIL c = let t = c.args.self.now.text.now in
    let s : c.args.self.now.at ≡ separator t = c.args.self.now.at_separator in
    sym (checked_is t ∙ rw (lt-leb 7 (length t - separator t) (omega arith)))

pub returns : goal.returns
returns c = let t = c.args.self.now.text.now in
    let s : c.args.self.now.at ≡ separator t = c.args.self.now.at_separator in
    let q : (has_tail (map lower t) && is_closed (map lower t)) ≡ closes (polymod 1 (expanded (map lower (take (separator t) t)))) (map value_at (drop (separator t + 1) t)) =
    checked_is t ∙ rw (le-leb 7 (length t - separator t) (omega arith)) in
    c.is_closed.ensures ∙ ap₂ closes (c.fold_human.ensures ∙ ap (λ l. polymod 1 (expanded (map lower l))) c.head.ensures) (ap (map (value_in c.args.table.now)) c.data.ensures ∙ data_values c.args.table.now c.requires t c.args.self.now.bytes) ∙ sym q
