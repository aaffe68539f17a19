-- A form's name is the one between its front and its back.
use mathlib.Core.List.{map}
use Rattle.symbols.specs.Charset.{lower}
use Rattle.bech32.specs.Calls.{form_of}
use Rattle.bech32.proofs.Laws.Human.{name_form}
use Rattle.bech32.proofs.human.name_in.Goals as goal

pub returns : goal.returns
returns c = rw (name_form (form_of c.args.kind) (map lower c.args.human.now), ← c.front.ensures, ← c.back.ensures) c.name_between.ensures
