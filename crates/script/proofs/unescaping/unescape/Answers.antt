-- `unescape` meets its contract: by what was measured.
use Rattle.std.proofs.Common.{ap, ◌∙◌}
use Rattle.script.specs.Escape.{unescaped, unescaped_said}
use Rattle.script.proofs.Laws.Escape.{answered_short, answered_whole, answered_bad}
use Rattle.script.proofs.unescaping.unescape.Goals as goal

pub returns-in_err-n : goal.returns-in_err-n
returns-in_err-n c =
    let none = answered_bad (unescaped c.args.word.now) c.args.out.now c.in_err-n.ensures.size in
    record { answer = ap unescaped_said c.from_residual.ensures ∙ none.0; buffer = none.1 }

pub returns-then-out-n : goal.returns-then-out-n
returns-then-out-n c =
    let short = answered_short (unescaped c.args.word.now) c.args.out.now c.in_ok-n.n c.in_ok-n.ensures.size c.if-out-n.true in
    record { answer = short.0; buffer = short.1 }

pub returns : goal.returns
returns c =
    let whole = answered_whole (unescaped c.args.word.now) c.args.out.now c.in_ok-n.n c.in_ok-n.ensures.size c.if-out-n.false in
    record { answer = whole.0; buffer = c.unescape_into-2.ensures.buffer whole.1 }
