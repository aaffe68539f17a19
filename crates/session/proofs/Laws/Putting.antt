-- One kind's table changed: the others stay, since no two kinds have a slot in common.
use Prim.Native.Nat.{ℕ}
use mathlib.Core.Path.{◌≡◌, refl, ap}
use mathlib.Core.Bool.{true}
use mathlib.Core.List.{List}
use Rattle.tables.specs.Slots.{are_apart, slots_of}
use Rattle.tables.specs.Tables.{Table, table_in}
use Rattle.tables.specs.declared.slots.Span.{Span}
use Rattle.tables.specs.declared.tables.Table.{Table as CodeTable}
use Rattle.session.specs.declared.kinds.Kind.TheVariants as the
use Rattle.session.specs.declared.kinds.Tables.{Tables as CodeTables}
use Rattle.session.specs.Tables.{span_of, Tables, tables_in, with_table}

-- the slots of every kind that is apart from one stay
abbrev pub Others : Span → List (List ℕ) → List (List ℕ) → Type 0
Others h xs ys = (k : Span) → are_apart h k ≡ true → slots_of k ys ≡ slots_of k xs

abbrev seven : Table → Table → Table → Table → Table → Table → Table → Tables
seven r i k h e s t = record { recipients = r; identities = i; keys = k; headers = h; errors = e; stanzas = s; returned = t }

seven_eq : {r r' i i' k k' h h' e e' s s' t t' : Table} → r ≡ r' → i ≡ i' → k ≡ k' → h ≡ h' → e ≡ e' → s ≡ s' → t ≡ t' → seven r i k h e s t ≡ seven r' i' k' h' e' s' t'
seven_eq p q u v w x y = rw (p, q, u, v, w, x, y) refl

module _ (t : CodeTables) (xs ys hs : List (List ℕ)) where
  same : (h : Span) (c : CodeTable) → slots_of h ys ≡ slots_of h xs → table_in h c ys ≡ table_in h c xs
  same h c e = ap (λ s. record { width = h.width; slots = s; count = c.count; used = c.used }) e

  pub put_recipients : (c : CodeTable) (w : Table) → table_in (span_of the.Recipients) c ys ≡ w → Others (span_of the.Recipients) xs ys →
      tables_in (with_table t the.Recipients c) ys hs
      ≡ record { recipients = w; identities = (tables_in t xs hs).identities; keys = (tables_in t xs hs).keys; headers = (tables_in t xs hs).headers; errors = (tables_in t xs hs).errors; stanzas = (tables_in t xs hs).stanzas; returned = (tables_in t xs hs).returned }
  put_recipients c w e o =
      seven_eq e (same (span_of the.Identities) t.identities (o (span_of the.Identities) refl)) (same (span_of the.Keys) t.keys (o (span_of the.Keys) refl)) refl
      (same (span_of the.Errors) t.errors (o (span_of the.Errors) refl)) (same (span_of the.Stanzas) t.stanzas (o (span_of the.Stanzas) refl)) (same (span_of the.Returned) t.returned (o (span_of the.Returned) refl))

  pub put_identities : (c : CodeTable) (w : Table) → table_in (span_of the.Identities) c ys ≡ w → Others (span_of the.Identities) xs ys →
      tables_in (with_table t the.Identities c) ys hs
      ≡ record { recipients = (tables_in t xs hs).recipients; identities = w; keys = (tables_in t xs hs).keys; headers = (tables_in t xs hs).headers; errors = (tables_in t xs hs).errors; stanzas = (tables_in t xs hs).stanzas; returned = (tables_in t xs hs).returned }
  put_identities c w e o =
      seven_eq (same (span_of the.Recipients) t.recipients (o (span_of the.Recipients) refl)) e (same (span_of the.Keys) t.keys (o (span_of the.Keys) refl)) refl
      (same (span_of the.Errors) t.errors (o (span_of the.Errors) refl)) (same (span_of the.Stanzas) t.stanzas (o (span_of the.Stanzas) refl)) (same (span_of the.Returned) t.returned (o (span_of the.Returned) refl))

  pub put_keys : (c : CodeTable) (w : Table) → table_in (span_of the.Keys) c ys ≡ w → Others (span_of the.Keys) xs ys →
      tables_in (with_table t the.Keys c) ys hs
      ≡ record { recipients = (tables_in t xs hs).recipients; identities = (tables_in t xs hs).identities; keys = w; headers = (tables_in t xs hs).headers; errors = (tables_in t xs hs).errors; stanzas = (tables_in t xs hs).stanzas; returned = (tables_in t xs hs).returned }
  put_keys c w e o =
      seven_eq (same (span_of the.Recipients) t.recipients (o (span_of the.Recipients) refl)) (same (span_of the.Identities) t.identities (o (span_of the.Identities) refl)) e refl
      (same (span_of the.Errors) t.errors (o (span_of the.Errors) refl)) (same (span_of the.Stanzas) t.stanzas (o (span_of the.Stanzas) refl)) (same (span_of the.Returned) t.returned (o (span_of the.Returned) refl))

  pub put_errors : (c : CodeTable) (w : Table) → table_in (span_of the.Errors) c ys ≡ w → Others (span_of the.Errors) xs ys →
      tables_in (with_table t the.Errors c) ys hs
      ≡ record { recipients = (tables_in t xs hs).recipients; identities = (tables_in t xs hs).identities; keys = (tables_in t xs hs).keys; headers = (tables_in t xs hs).headers; errors = w; stanzas = (tables_in t xs hs).stanzas; returned = (tables_in t xs hs).returned }
  put_errors c w e o =
      seven_eq (same (span_of the.Recipients) t.recipients (o (span_of the.Recipients) refl)) (same (span_of the.Identities) t.identities (o (span_of the.Identities) refl)) (same (span_of the.Keys) t.keys (o (span_of the.Keys) refl)) refl e (same (span_of the.Stanzas) t.stanzas (o (span_of the.Stanzas) refl)) (same (span_of the.Returned) t.returned (o (span_of the.Returned) refl))

  pub put_stanzas : (c : CodeTable) (w : Table) → table_in (span_of the.Stanzas) c ys ≡ w → Others (span_of the.Stanzas) xs ys →
      tables_in (with_table t the.Stanzas c) ys hs
      ≡ record { recipients = (tables_in t xs hs).recipients; identities = (tables_in t xs hs).identities; keys = (tables_in t xs hs).keys; headers = (tables_in t xs hs).headers; errors = (tables_in t xs hs).errors; stanzas = w; returned = (tables_in t xs hs).returned }
  put_stanzas c w e o =
      seven_eq (same (span_of the.Recipients) t.recipients (o (span_of the.Recipients) refl)) (same (span_of the.Identities) t.identities (o (span_of the.Identities) refl)) (same (span_of the.Keys) t.keys (o (span_of the.Keys) refl)) refl (same (span_of the.Errors) t.errors (o (span_of the.Errors) refl)) e (same (span_of the.Returned) t.returned (o (span_of the.Returned) refl))

  pub put_returned : (c : CodeTable) (w : Table) → table_in (span_of the.Returned) c ys ≡ w → Others (span_of the.Returned) xs ys →
      tables_in (with_table t the.Returned c) ys hs
      ≡ record { recipients = (tables_in t xs hs).recipients; identities = (tables_in t xs hs).identities; keys = (tables_in t xs hs).keys; headers = (tables_in t xs hs).headers; errors = (tables_in t xs hs).errors; stanzas = (tables_in t xs hs).stanzas; returned = w }
  put_returned c w e o =
      seven_eq (same (span_of the.Recipients) t.recipients (o (span_of the.Recipients) refl)) (same (span_of the.Identities) t.identities (o (span_of the.Identities) refl)) (same (span_of the.Keys) t.keys (o (span_of the.Keys) refl)) refl (same (span_of the.Errors) t.errors (o (span_of the.Errors) refl)) (same (span_of the.Stanzas) t.stanzas (o (span_of the.Stanzas) refl)) e

-- the header stanzas' table, whose slots are an array of their own
pub put_headers : (t : CodeTables) (xs hs : List (List ℕ)) (c : CodeTable) (w : Table) → table_in (span_of the.Headers) c hs ≡ w → (gs : List (List ℕ)) →
    tables_in (with_table t the.Headers c) xs hs
    ≡ record { recipients = (tables_in t xs gs).recipients; identities = (tables_in t xs gs).identities; keys = (tables_in t xs gs).keys; headers = w; errors = (tables_in t xs gs).errors; stanzas = (tables_in t xs gs).stanzas; returned = (tables_in t xs gs).returned }
put_headers t xs hs c w e gs = ap (λ h. seven (tables_in t xs gs).recipients (tables_in t xs gs).identities (tables_in t xs gs).keys h (tables_in t xs gs).errors (tables_in t xs gs).stanzas (tables_in t xs gs).returned) e
