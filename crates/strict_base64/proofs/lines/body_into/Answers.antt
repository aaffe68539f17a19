-- Invariant: the first i lines' bytes stand at the front of `out`, 48 of each, and behind them `out` is as it was.
use Prim.Native.Nat.{ℕ, ◌-◌, ◌*◌, ◌/◌}
use mathlib.Core.Path.{◌≡◌, refl, ◌∙◌}
use mathlib.Core.List.{List, [], ◌∷◌}
use lib.ListN.{length}
use native.Mathlib.Omega.{arith}
use borrow.Rule.Slice.PartMut.{same_len_mid}
use Rattle.strict_base64.specs.Code.{decoded}
use Rattle.strict_base64.specs.Lines.{unwrapped, body_of}
use Rattle.strict_base64.proofs.Laws.Lines.{body_turn, body_end}
use Rattle.strict_base64.proofs.lines.body_into.Goals as goal

empty : (l : List ℕ) → length l ≡ 0 → body_of l ≡ []
unfolding unwrapped decoded
empty [] h = refl
empty (c ∷ l) h = absurd (omega arith)

pub returns-then-n-eq0 : goal.returns-then-n-eq0
returns-then-n-eq0 c = rw (empty c.args.lines.now c.if-n-eq0.true)

pub loop-i-preserved : goal.loop-i-preserved
loop-i-preserved c = let l = c.args.lines.now in
    let out = c.loop-i.out in
    let i = c.loop-i.i in (
      same_len_mid (48 * i) (length out - 48 * i) out c.decode_into.new.out c.decode_into.auto.out ∙ c.loop-i.invariant.0,
      body_turn l out c.args.out.now c.decode_into.new.out i (omega arith) c.loop-i.invariant.1 c.decode_into.ensures,
    )

pub returns : goal.returns
returns c = let l = c.args.lines.now in
    let n : c.loop-i.i ≡ (length l - 1) / 65 = omega arith in
    body_end l c.loop-i.out c.args.out.now c.decode_into-2.new.out ((length l - 1) / 65) (omega arith) (omega arith) (rw n at c.loop-i.invariant.1) c.decode_into-2.ensures
