-- `put_words` meets its contract.
use Prim.Native.Nat.{◌+◌, ◌-◌}
use mathlib.Core.Path.{refl, sym}
use mathlib.Core.List.{◌++◌}
use lib.ListN.{length, take, drop, length-append}
use Rattle.bech32.specs.Calls.{form_of}
use Rattle.bech32.proofs.Laws.Human.{word_behind}
use Rattle.bech32.proofs.human.put_words.Goals as goal

pub returns : goal.returns
returns c = let k = form_of c.args.kind in
    let f = c.args.front.now in
    let n = c.args.name.now in
    let b = c.args.back.now in
    let o₀ = c.args.out.now in
    let o₁ = c.put_word.new.out in
    let part = c.put_word-2.new.out in
    let o₂ = take (length f) o₁ ++ (part ++ drop (length o₁ - length f) (drop (length f) o₁)) in
    word_behind k (f ++ n) b o₂ o₀ c.put_word-3.new.out (length f + length n) (word_behind k f n o₁ o₀ part (length f) c.put_word.ensures refl c.put_word-2.ensures) (sym (length-append f n)) c.put_word-3.ensures
