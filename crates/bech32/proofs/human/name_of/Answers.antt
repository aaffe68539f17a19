-- A name is short enough.
use mathlib.Core.Path.{sym, ◌∙◌}
use Rattle.bech32.proofs.Laws.Human.{given_copied}
use Rattle.bech32.proofs.human.name_of.Goals as goal

pub returns-then-not-is_name : goal.returns-then-not-is_name
returns-then-not-is_name c = rw (sym c.is_name.ensures ∙ c.if-not-is_name.true)

pub returns : goal.returns
returns c = given_copied c.copied.result c.args.text.now (sym c.is_name.ensures ∙ c.if-not-is_name.false) c.copied.ensures
