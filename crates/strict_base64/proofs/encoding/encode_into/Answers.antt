-- Invariant: the first i groups' characters stand at the front of `out`, 4 of each, and behind them `out` is as it was.
use Prim.Native.Nat.{ℕ, ◌+◌, ◌*◌, ◌/◌, ◌%◌, ◌≤◌}
use mathlib.Core.Path.{◌≡◌, refl}
use mathlib.Core.List.{List, [], ◌∷◌, ◌++◌}
use lib.ListN.{length, take, drop, get_or, set, length-set}
use native.Mathlib.Omega.{arith}
use Rattle.strict_base64.specs.Alphabet.{character_of}
use Rattle.strict_base64.specs.Code.{encoded}
use Rattle.strict_base64.proofs.Laws.Code.{encoded_end, encoded_turn, encoded_groups}
use Rattle.refusal.proofs.Laws.Lists.{store_four, overwrite}
use Rattle.strict_base64.proofs.encoding.encode_into.Goals as goal

-- a turn: one group more
turn : (t o o₀ : List ℕ) (i : ℕ) → 3 * i + 3 ≤ length t → 4 * i + 4 ≤ length o → o ≡ encoded (take (3 * i) t) ++ drop (4 * i) o₀ →
    set (set (set (set o (4 * i) (character_of (get_or t (3 * i) 0 / 4))) (4 * i + 1) (character_of (get_or t (3 * i) 0 % 4 * 16 + get_or t (3 * i + 1) 0 / 16)))
    (4 * i + 2) (character_of (get_or t (3 * i + 1) 0 % 16 * 4 + get_or t (3 * i + 2) 0 / 64))) (4 * i + 3) (character_of (get_or t (3 * i + 2) 0 % 64)) ≡
    encoded (take (3 * (i + 1)) t) ++ drop (4 * (i + 1)) o₀
turn t o o₀ i ht ho e =
    let g : 4 * (i + 1) ≡ 4 * i + 4 = omega arith in
    rw (store_four o (4 * i) (character_of (get_or t (3 * i) 0 / 4)) (character_of (get_or t (3 * i) 0 % 4 * 16 + get_or t (3 * i + 1) 0 / 16)) (character_of (get_or t (3 * i + 1) 0 % 16 * 4 + get_or t (3 * i + 2) 0 / 64)) (character_of (get_or t (3 * i + 2) 0 % 64)) ho, encoded_turn t i ht, g)
    (overwrite o o₀ (encoded (take (3 * i) t)) (_ ∷ _ ∷ _ ∷ _ ∷ []) (4 * i) 4 e (encoded_groups t i (omega arith)) refl)

pub loop-i-init : goal.loop-i-init
unfolding encoded
loop-i-init c = (refl, refl)

pub loop-i-preserved : goal.loop-i-preserved
loop-i-preserved c = let i = c.loop-i.i in
    let out = c.loop-i.out in
    let out₀ = c.args.out.now in
    let bytes = c.args.bytes.now in
    (simp length-set c.loop-i.invariant.0, rw (c.character.ensures, c.character-in-loop-i.ensures, c.character-in-loop-i-2.ensures, c.character-in-loop-i-3.ensures) (turn bytes out out₀ i (omega arith) (omega arith) c.loop-i.invariant.1))

pub returns : goal.returns
returns c = let n : c.loop-i.i ≡ length c.args.bytes.now / 3 = omega arith in
    encoded_end c.args.bytes.now c.loop-i.out c.args.out.now c.encode_rest.new.out (length c.args.bytes.now / 3) (omega arith) (rw n at c.loop-i.invariant.1) c.encode_rest.ensures
