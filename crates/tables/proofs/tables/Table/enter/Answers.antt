-- The slot behind the entries is set, and no other span's.
use Prim.Native.Nat.{◌+◌}
use mathlib.Core.List.{[], ◌∷◌}
use mathlib.Core.Path.{◌≡◌, sym, ap, ◌∙◌}
use mathlib.Core.Bool.{true}
use lib.Dec.{ltb, leb}
use borrow.Author.Tests.{ltb-true}
use Rattle.refusal.proofs.Laws.Booleans.{and_true}
use Rattle.tables.specs.Slots.{slots_of}
use Rattle.tables.specs.Tables.{table_in, fits}
use Rattle.tables.proofs.Laws.Slots.{slot_set, slot_other}
use Rattle.tables.proofs.tables.Table.enter.Goals as goal

pub returns-in-Ok-clause-table : goal.returns-in-Ok-clause-table
returns-in-Ok-clause-table c =
    let h = c.args.span in
    let s = c.args.self in
    let n = c.args.n in
    let v = s.used ∷ n ∷ c.args.index ∷ c.args.mark ∷ [] in
    let f : fits (table_in h s c.args.slots.now) n c.args.capacity ≡ true = sym c.has_space.ensures ∙ c.if-not-has_space.false in
    let l = ltb-true s.count h.width (and_true (ltb s.count h.width) (leb (s.used + n) c.args.capacity) f).0 in
    rw (f, c.in-Ok.is) (ap (λ x. record { width = h.width; slots = x; count = s.count + 1; used = s.used + n }) (ap (slots_of h) c.put_entry.ensures ∙ slot_set h c.args.slots.now s.count v l))

pub returns-in-Ok-clause-others : goal.returns-in-Ok-clause-others
returns-in-Ok-clause-others c = λ k a.
    let h = c.args.span in
    let s = c.args.self in
    let n = c.args.n in
    let f : fits (table_in h s c.args.slots.now) n c.args.capacity ≡ true = sym c.has_space.ensures ∙ c.if-not-has_space.false in
    let l = ltb-true s.count h.width (and_true (ltb s.count h.width) (leb (s.used + n) c.args.capacity) f).0 in
    ap (slots_of k) c.put_entry.ensures ∙ slot_other h k c.args.slots.now s.count (s.used ∷ n ∷ c.args.index ∷ c.args.mark ∷ []) l a
