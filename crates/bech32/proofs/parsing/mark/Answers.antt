-- Without a name, or with another, 16; else the tail decides.
use mathlib.Core.Path.{◌≡◌, sym, ap, ◌∙◌}
use mathlib.Core.List.{map}
use lib.ListN.{length}
use native.Mathlib.Omega.{arith}
use Rattle.refusal.specs.Pick.{pick}
use Rattle.refusal.specs.Same.{same}
use Rattle.symbols.specs.Charset.{lower}
use Rattle.bech32.specs.Calls.{form_of}
use Rattle.bech32.specs.Steps.{name_at, tail_number}
use Rattle.bech32.proofs.Laws.Human.{padded_front}
use Rattle.bech32.proofs.Laws.Parsing.{is_head, no_head, head_long, mark_none, mark_is}
use Rattle.bech32.proofs.parsing.mark.Goals as goal

pub returns-in_default : goal.returns-in_default
returns-in_default c = let t = c.of-text.result.text.now in
    let k = form_of c.args.kind in
    rw (← c.of-text.ensures) (sym (mark_none k t c.args.plugin.now (no_head k t (ap length c.in_default.ensures))))

pub returns-then-not-is_lowered : goal.returns-then-not-is_lowered
returns-then-not-is_lowered c = let t = c.of-text.result.text.now in
    let k = form_of c.args.kind in
    let g = c.args.plugin.now in
    let e = is_head k t c.in-Some.ensures.1 in
    let n = padded_front (name_at k t) c.in-Some.name.bytes c.in-Some.name.length c.in-Some.ensures.0.0 c.in-Some.ensures.0.1 in
    let m : same (map lower g) (name_at k t) ≡ c.is_lowered.result = ap (same (map lower g)) (sym n) ∙ sym c.is_lowered.ensures in
    rw (← c.of-text.ensures) (sym (mark_is k t e g ∙ ap (λ b. pick b (tail_number (map lower t)) 16) (m ∙ c.if-not-is_lowered.true)))

pub judge_tail-requires : goal.judge_tail-requires
judge_tail-requires c = let t = c.of-text.result.text.now in
    let k = form_of c.args.kind in
    let e = is_head k t c.in-Some.ensures.1 in
    record { values = c.values-table.ensures; in_bounds = omega (arith, head_long k t e) }

pub returns : goal.returns
returns c = let t = c.of-text.result.text.now in
    let k = form_of c.args.kind in
    let g = c.args.plugin.now in
    let e = is_head k t c.in-Some.ensures.1 in
    let n = padded_front (name_at k t) c.in-Some.name.bytes c.in-Some.name.length c.in-Some.ensures.0.0 c.in-Some.ensures.0.1 in
    let m : same (map lower g) (name_at k t) ≡ c.is_lowered.result = ap (same (map lower g)) (sym n) ∙ sym c.is_lowered.ensures in
    rw (← c.of-text.ensures) (c.judge_tail.ensures ∙ sym (mark_is k t e g ∙ ap (λ b. pick b (tail_number (map lower t)) 16) (m ∙ c.if-not-is_lowered.false)))
