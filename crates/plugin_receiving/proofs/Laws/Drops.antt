-- Bytes that are dropped with 14, if there are any.
use Prim.Native.Nat.{ℕ}
use mathlib.Core.Path.{◌≡◌, refl}
use mathlib.Core.Bool.{Bool, true, false}
use mathlib.Core.List.{List, []}
use lib.Dec.{eqb}
use lib.ListN.{length}
use Rattle.refusal.specs.Pick.{pick}
use Rattle.session.specs.Session.{Session}
use Rattle.conversation.specs.Kinds.{Buffers}
use Rattle.chunks.specs.Taking.{plugin, no_more, emptied}
use Rattle.chunks.proofs.Laws.Texts.{dropped}

-- the number by the bytes
pub dropped_is : (s : Session) (b : Buffers) (x : List ℕ) → no_more (pick (eqb (length x) 0) 0 14) (emptied s []) b ≡ dropped plugin s b [] 14 x
dropped_is s b x = by (eqb (length x) 0)
  where
    by : (d : Bool) → no_more (pick d 0 14) (emptied s []) b ≡ pick d (no_more 0 (emptied s []) b) (no_more 14 (emptied s []) b)
    by true = refl
    by false = refl
