-- Only a stanza is asked how many its file has got.
use Prim.Native.Nat.{◌+◌}
use lib.Dec.{leb}
use mathlib.Core.Path.{ap, ◌∙◌}
use Rattle.phase_two_decision.proofs.decision.is_too_many.Goals as goal

pub returns-in-Stanza : goal.returns-in-Stanza
returns-in-Stanza c = let t = c.args.tables in
    λ hs. rw c.in-Stanza.is (c.is_full.ensures ∙ ap (leb (t.recipients.count + t.identities.count)) (rw c.wide.ensures at (c.count_stanzas.ensures hs)))
