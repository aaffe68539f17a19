-- Invariant: the first i groups' bytes stand at the front of `out`, 3 of each, and behind them `out` is as it was.
use Rattle.strict_base64.specs.Alphabet.{value_of}
use Prim.Native.Nat.{ℕ, ◌+◌, ◌*◌, ◌/◌, ◌%◌, ◌≤◌}
use mathlib.Core.Path.{◌≡◌, refl}
use mathlib.Core.List.{List, [], ◌∷◌, ◌++◌}
use lib.ListN.{length, take, drop, get_or, set, length-set}
use native.Mathlib.Omega.{arith}
use Rattle.strict_base64.specs.Code.{decoded}
use Rattle.strict_base64.proofs.Laws.Code.{decoded_end, decoded_turn, decoded_groups}
use Rattle.refusal.proofs.Laws.Lists.{store_three, overwrite}
use Rattle.strict_base64.proofs.decoding.decode_into.Goals as goal

-- a turn: one group more
turn : (t o o₀ : List ℕ) (i a b c d : ℕ) → 4 * i + 4 ≤ length t → 3 * i + 3 ≤ length o → o ≡ decoded (take (4 * i) t) ++ drop (3 * i) o₀ →
    a ≡ value_of (get_or t (4 * i) 0) → b ≡ value_of (get_or t (4 * i + 1) 0) → c ≡ value_of (get_or t (4 * i + 2) 0) → d ≡ value_of (get_or t (4 * i + 3) 0) →
    set (set (set o (3 * i) (a * 4 + b / 16)) (3 * i + 1) (b % 16 * 16 + c / 4)) (3 * i + 2) (c % 4 * 64 + d) ≡
    decoded (take (4 * (i + 1)) t) ++ drop (3 * (i + 1)) o₀
turn t o o₀ i a b c d ht ho e ea eb ec ed =
    let g : 3 * (i + 1) ≡ 3 * i + 3 = omega arith in
    rw (store_three o (3 * i) (a * 4 + b / 16) (b % 16 * 16 + c / 4) (c % 4 * 64 + d) ho, decoded_turn t i {a = a} {b = b} {c = c} {d = d} ht ea eb ec ed, g)
    (overwrite o o₀ (decoded (take (4 * i) t)) ((a * 4 + b / 16) ∷ (b % 16 * 16 + c / 4) ∷ (c % 4 * 64 + d) ∷ []) (3 * i) 3 e (decoded_groups t i (omega arith)) refl)

pub loop-i-init : goal.loop-i-init
unfolding decoded
loop-i-init c = (refl, refl)

pub loop-i-preserved : goal.loop-i-preserved
loop-i-preserved c = let i = c.loop-i.i in
    let out = c.loop-i.out in
    let out₀ = c.args.out.now in
    let text = c.args.text.now in
    let a = c.value-a.result in
    let b = c.value-b.result in
    let d = c.value-c.result in
    let e = c.value-d.result in
    (simp length-set c.loop-i.invariant.0, turn text out out₀ i a b d e (omega arith) (omega arith) c.loop-i.invariant.1 c.value-a.ensures.value c.value-b.ensures.value c.value-c.ensures.value c.value-d.ensures.value)

pub returns : goal.returns
returns c = let n : c.loop-i.i ≡ length c.args.text.now / 4 = omega arith in
    decoded_end c.args.text.now c.loop-i.out c.args.out.now c.decode_rest.new.out (length c.args.text.now / 4) (omega arith) (rw n at c.loop-i.invariant.1) c.decode_rest.ensures
