-- Without a name the text has not the form; with one the tail decides.
use mathlib.Core.Path.{sym, ap, ◌∙◌}
use lib.ListN.{length}
use native.Mathlib.Omega.{arith}
use Rattle.bech32.specs.Calls.{form_of}
use Rattle.bech32.specs.Steps.{name_at}
use Rattle.bech32.proofs.Laws.Human.{given_none, given_some}
use Rattle.bech32.proofs.Laws.Parsing.{is_head, no_head, head_long, number_none, number_is}
use Rattle.bech32.proofs.parsing.judge.Goals as goal

pub returns-then-is_none : goal.returns-then-is_none
returns-then-is_none c = let t = c.of-text.result.text.now in
    let k = form_of c.args.kind in
    let n = given_none _ (name_at k t) c.name.ensures c.if-is_none.ensures in
    rw (← c.of-text.ensures) (sym (number_none k t (no_head k t (ap length n))))

pub judge_tail-requires : goal.judge_tail-requires
judge_tail-requires c = let t = c.of-text.result.text.now in
    let k = form_of c.args.kind in
    let e = is_head k t (given_some _ (name_at k t) c.name.ensures c.if-is_none.ensures) in
    record { values = c.values-table.ensures; in_bounds = omega (arith, head_long k t e) }

pub returns : goal.returns
returns c = let t = c.of-text.result.text.now in
    let k = form_of c.args.kind in
    let e = is_head k t (given_some _ (name_at k t) c.name.ensures c.if-is_none.ensures) in
    rw (← c.of-text.ensures) (c.judge_tail.ensures ∙ sym (number_is k t e))
