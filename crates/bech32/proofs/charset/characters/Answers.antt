-- The kind's table is the definition tabulated at the 32 values, in its case.
use Rattle.refusal.proofs.Laws.Below.{tabulated_at}
use Rattle.symbols.specs.Charset.{character_of, upper, is_lower}
use Rattle.bech32.proofs.charset.characters.Goals as goal

pub returns-in-Identity : goal.returns-in-Identity
unfolding upper is_lower
returns-in-Identity c = rw c.in-Identity.is (tabulated_at (λ v. upper (character_of v)) 32)
