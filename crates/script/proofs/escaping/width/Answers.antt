-- `width` meets its contract.
use Rattle.std.proofs.Common.{sym, ◌∙◌}
use Rattle.script.proofs.Laws.Escape.{letter_some, letter_none, printed_self, printed_hex}
use Rattle.script.proofs.escaping.width.Goals as goal

pub returns-in-Some : goal.returns-in-Some
returns-in-Some c = rw (letter_some c.args.b c.in-Some.field-0 c.in-Some.ensures)

pub returns-in-None : goal.returns-in-None
returns-in-None c = rw (printed_self c.args.b (letter_none c.args.b c.in-None.ensures) (sym c.is_graphic.ensures ∙ c.if-is_graphic.true))

pub returns-in-None-2 : goal.returns-in-None-2
returns-in-None-2 c = rw (printed_hex c.args.b (letter_none c.args.b c.in-None.ensures) (sym c.is_graphic.ensures ∙ c.if-is_graphic.false))
