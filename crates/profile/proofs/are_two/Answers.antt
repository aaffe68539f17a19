-- The first argument decides before the second.
use mathlib.Core.Path.{sym, ◌∙◌}
use borrow.Author.Tests.{not-true, not-false}
use Rattle.profile.proofs.are_two.Goals as goal

pub returns-then-not-is_bytes : goal.returns-then-not-is_bytes
returns-then-not-is_bytes c = rw (← c.argument-salt.ensures, sym c.is_bytes.ensures ∙ not-true c.is_bytes.result c.if-not-is_bytes.true-raw)

pub returns : goal.returns
returns c = rw (← c.argument-salt.ensures, sym c.is_bytes.ensures ∙ not-false c.is_bytes.result c.if-not-is_bytes.false-raw, ← c.argument-nonce.ensures) c.is_bytes-2.ensures
