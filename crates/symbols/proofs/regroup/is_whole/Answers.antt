-- By how many symbols there are and the last.
use Prim.Native.Nat.{◌-◌}
use mathlib.Core.Path.{◌≡◌, sym, ◌∙◌}
use lib.ListN.{length, get_or}
use borrow.Author.Rules.{rules}
use Rattle.symbols.specs.Steps.{value_in}
use Rattle.symbols.proofs.Laws.Groups.{whole_none, whole_last}
use Rattle.symbols.proofs.regroup.is_whole.Goals as goal

pub returns-in_default : goal.returns-in_default
returns-in_default c = let e : length c.args.text.now ≡ 0 = search rules in sym (whole_none (value_in c.args.table.now) c.args.text.now e)

pub returns : goal.returns
returns c = let e : c.in-Some.b.now ≡ get_or c.args.text.now (length c.args.text.now - 1) 0 = search rules in
    c.is_clear.ensures ∙ rw (c.look_up.ensures, e) (whole_last (value_in c.args.table.now) c.args.text.now (search rules))
