-- A table's labels, by the slots of its entries.
use Prim.Native.Nat.{ℕ, ◌+◌}
use mathlib.Core.Path.{◌≡◌, refl, ap, ◌∙◌}
use mathlib.Core.Bool.{Bool, true, false, ◌||◌}
use mathlib.Core.List.{List, [], ◌∷◌, map}
use lib.Dec.{ltb}
use lib.ListN.{take}
use native.Mathlib.Omega.{arith}
use Rattle.std.proofs.Common.{cond, count_by}
use Rattle.std.proofs.lemmas.List.Recursion.{is_count_by}
use Rattle.std.specs.List.{list_any}
use Rattle.refusal.specs.Pick.{pick}
use Rattle.tables.specs.Slots.{entry_of, slots_of}
use Rattle.tables.specs.Tables.{table_in}
use Rattle.tables.specs.declared.slots.Span.{Span}
use Rattle.tables.specs.declared.tables.Table.{Table}
use Rattle.conversation.specs.PhaseTwo.{Label, label_of, labels, how_many, is_any}

-- the label of a slot
abbrev pub slot_label : List ℕ → Label
slot_label slot = label_of (entry_of slot)

slots_labels : (es : List (List ℕ)) → map slot_label es ≡ map label_of (map entry_of es)
slots_labels [] = refl
slots_labels (e ∷ es) = ap (λ ls. slot_label e ∷ ls) (slots_labels es)

pub labels_are : (h : Span) (t : Table) (xs es : List (List ℕ)) → map entry_of es ≡ take t.count (slots_of h xs) → map slot_label es ≡ labels (table_in h t xs)
labels_are h t xs es e = slots_labels es ∙ ap (map label_of) e

-- ---- those that pass a test

module _ (q : Label → Bool) where
  counted : (b : Bool) (n : ℕ) → pick b 1 0 + n ≡ cond b (1 + n) n
  counted true n = refl
  counted false n = omega arith

  pub many_slots : (es : List (List ℕ)) → how_many q (map slot_label es) ≡ count_by (λ slot. q (slot_label slot)) es
  unfolding how_many
  many_slots = is_count_by (λ es. how_many q (map slot_label es)) (λ slot. q (slot_label slot)) refl (λ e es. counted (q (slot_label e)) (how_many q (map slot_label es)))

  some : (b r : Bool) (n : ℕ) → r ≡ ltb 0 n → (b || r) ≡ ltb 0 (pick b 1 0 + n)
  some true r n e = grind arith
  some false r n e = grind arith

  pub any_slots : (es : List (List ℕ)) → list_any (λ slot. q (slot_label slot)) es ≡ is_any q (map slot_label es)
  unfolding how_many
  any_slots [] = refl
  any_slots (e ∷ es) = some (q (slot_label e)) (list_any (λ slot. q (slot_label slot)) es) (how_many q (map slot_label es)) (any_slots es)
