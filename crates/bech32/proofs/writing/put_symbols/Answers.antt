-- The payload's symbols, and behind them the checksum of the state folded from just those.
use Prim.Native.Nat.{◌+◌}
use mathlib.Core.Path.{◌≡◌, refl, sym, ap, ap₂, ◌∙◌}
use mathlib.Core.List.{◌++◌}
use lib.ListN.{length, take, drop}
use native.Mathlib.Omega.{arith}
use borrow.Author.Tests.{le-ltb}
use Rattle.refusal.specs.Output.{filled}
use lib.Seq.{take_at}
use Rattle.symbols.specs.Checksum.{polymod, checksum}
use Rattle.symbols.specs.Regroup.{symbols}
use Rattle.symbols.proofs.Laws.Groups.{symbols_length}
use Rattle.bech32.proofs.Laws.Writing.{put_behind}
use Rattle.bech32.proofs.writing.put_symbols.Goals as goal

pub returns : goal.returns
returns c = let a = c.encode.new.out in
    let p = c.args.payload.now in
    let o₀ = c.args.out.now in
    let n = c.symbols_length-n.result in
    let w : length (symbols p) ≡ n = symbols_length p ∙ sym c.symbols_length-n.ensures in
    let g : filled (symbols p) o₀ ≡ symbols p ++ drop (length (symbols p)) o₀ = rw (le-ltb (length o₀) (length (symbols p)) (omega (arith, symbols_length p, c.requires.payload_in_bounds))) in
    let e : a ≡ symbols p ++ drop n o₀ = c.encode.ensures ∙ g ∙ ap (λ k. symbols p ++ drop k o₀) w in
    let f : c.fold_symbols-state.result ≡ polymod c.args.from (symbols p) =
    c.fold_symbols-state.ensures ∙ ap (polymod c.args.from) (ap (take n) e ∙ take_at (symbols p) (drop n o₀) n w) in
    put_behind a o₀ (symbols p) (checksum c.fold_symbols-state.result) c.put_checksum.new.out n 6 e w refl c.put_checksum.ensures
    ∙ ap₂ (λ s k. (symbols p ++ checksum s) ++ drop (k + 6) o₀) f c.symbols_length-n.ensures
