-- An entry's mark (document 02, No. 4: "Unsound entries keep this number (16 for another plugin's name, whatever else fails)"), at both ends.
use Rattle.std.specs.Prelude.{ℕ, List}
use Rattle.tables.specs.Tables.{Row}
use Rattle.bech32.specs.Text.{recipient, identity}
use Rattle.bech32.specs.Faults.{Marked}
use Rattle.conversation.specs.Phases.{All}

-- each recipient and each identity has the mark of its text for the session's name
pub record MarkedRows (name : List ℕ) (recipients identities : List Row) : Type 0 where
  pub of_recipients : All (λ r. Marked recipient r.payload name r.mark) recipients
  pub of_identities : All (λ r. Marked identity r.payload name r.mark) identities
