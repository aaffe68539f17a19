-- Cut to the text, the part from 3 up to the line's end is what the definition leaves; it is empty where the end comes first.
use Prim.Native.Nat.{ℕ, ◌-◌, min}
use mathlib.Core.Path.{◌≡◌, sym}
use mathlib.Core.List.{List}
use lib.ListN.{length, take, drop}
use native.Mathlib.Nat.{sub_self}
use native.Mathlib.Decide.{dec_le}
use native.Mathlib.Omega.{arith}
use borrow.Author.Rules.{rules}
use Rattle.refusal.proofs.Laws.Lists.{part_of, part_none}
use Rattle.stanza.proofs.parts.arguments_of.Goals as goal

-- the part behind "-> ", if there is so much
args_part : (t : List ℕ) (l m f : ℕ) → m ≡ min l (length t) → f ≡ min 3 m → take (m - f) (drop f t) ≡ drop 3 (take l t)
args_part t l m f p q =
    elim (dec_le 3 m) [
      | yes h ↦ (let e : f ≡ 3 = omega arith in rw e (part_of 3 l m t p))
      | no h ↦ (let e : f ≡ m = omega arith in rw (e, sub_self) (sym (part_none 3 l m t p (omega arith))))
    ]

pub returns : goal.returns
returns c = args_part c.args.text.now c.args.s.line c.min-end.result c.min-from.result (search rules) (search rules)
