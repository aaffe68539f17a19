-- `put_decimal` meets its contract: the digits that `io::decimal` gives are those of the number.
use mathlib.Core.Path.{ap, ◌∙◌}
use native.Mathlib.Omega.{arith}
use Rattle.printing.specs.Page.{page, put}
use Rattle.printing.proofs.Laws.Page.{decimal_is}
use Rattle.printing.proofs.page.put_decimal.Goals as goal

pub returns : goal.returns
returns c = let d = c.decimal-k in
    c.put.ensures ∙ ap (λ t. put t (page c.args.at c.args.out.now)) (decimal_is c.args.n d.result _ (omega arith) d.ensures.len d.ensures.digits)
