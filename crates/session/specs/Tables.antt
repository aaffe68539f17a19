-- The tables of all kinds, made of the code's counts and the lent slots (document 01, "Phase one" and "Phase two": how many places each kind has).
use Rattle.std.specs.Prelude.{ℕ, List, [], ◌∷◌, replicate}
use Rattle.tables.specs.Tables.{Table, table_in, opened}
use Rattle.tables.specs.declared.slots.Span.{Span}
use Rattle.tables.specs.declared.tables.Table.{Table as CodeTable}
use Rattle.session.specs.declared.kinds.Kind.{Kind}
use Rattle.session.specs.declared.kinds.Kind.TheVariants as the
use Rattle.session.specs.declared.kinds.Tables.{Tables as CodeTables}

-- ---- slots

-- the spans of six kinds lie one behind the other in one array; the header stanzas have an array of their own
abbrev pub span_of : Kind → Span
span_of the.Recipients = record { first = 0; width = 64 }
span_of the.Identities = record { first = 64; width = 64 }
span_of the.Keys = record { first = 128; width = 64 }
span_of the.Headers = record { first = 0; width = 256 }
span_of the.Errors = record { first = 192; width = 384 }
span_of the.Stanzas = record { first = 576; width = 256 }
span_of the.Returned = record { first = 832; width = 256 }

-- slots with no entry
abbrev pub opened_header_slots : List (List ℕ)
opened_header_slots = replicate 256 (0 ∷ 0 ∷ 0 ∷ 0 ∷ [])

abbrev pub opened_slots : List (List ℕ)
opened_slots = replicate 1088 (0 ∷ 0 ∷ 0 ∷ 0 ∷ [])

-- ---- tables

-- a table for each kind: phase one's four, and for phase two errors, returned stanzas and returned keys
pub record Tables : Type 0 where
  pub recipients : Table
  pub identities : Table
  pub keys : Table
  pub headers : Table
  pub errors : Table
  pub stanzas : Table
  pub returned : Table

-- the code's tables with the slots of six kinds and those of the header stanzas
abbrev pub tables_in : CodeTables → List (List ℕ) → List (List ℕ) → Tables
tables_in t xs hs = record {
  recipients = table_in (span_of the.Recipients) t.recipients xs;
  identities = table_in (span_of the.Identities) t.identities xs;
  keys = table_in (span_of the.Keys) t.keys xs;
  headers = table_in (span_of the.Headers) t.headers hs;
  errors = table_in (span_of the.Errors) t.errors xs;
  stanzas = table_in (span_of the.Stanzas) t.stanzas xs;
  returned = table_in (span_of the.Returned) t.returned xs;
}

-- 64 slots each for recipients, identities and file keys, 256 for header stanzas; 384, 256 and 256 for phase two
abbrev pub opened_tables : Tables
opened_tables = record {
  recipients = opened 64;
  identities = opened 64;
  keys = opened 64;
  headers = opened 256;
  errors = opened 384;
  stanzas = opened 256;
  returned = opened 256;
}

-- the code's tables with another one of a kind
abbrev pub with_table : CodeTables → Kind → CodeTable → CodeTables
with_table t the.Recipients c = record { recipients = c; identities = t.identities; keys = t.keys; headers = t.headers; errors = t.errors; stanzas = t.stanzas; returned = t.returned }
with_table t the.Identities c = record { recipients = t.recipients; identities = c; keys = t.keys; headers = t.headers; errors = t.errors; stanzas = t.stanzas; returned = t.returned }
with_table t the.Keys c = record { recipients = t.recipients; identities = t.identities; keys = c; headers = t.headers; errors = t.errors; stanzas = t.stanzas; returned = t.returned }
with_table t the.Headers c = record { recipients = t.recipients; identities = t.identities; keys = t.keys; headers = c; errors = t.errors; stanzas = t.stanzas; returned = t.returned }
with_table t the.Errors c = record { recipients = t.recipients; identities = t.identities; keys = t.keys; headers = t.headers; errors = c; stanzas = t.stanzas; returned = t.returned }
with_table t the.Stanzas c = record { recipients = t.recipients; identities = t.identities; keys = t.keys; headers = t.headers; errors = t.errors; stanzas = c; returned = t.returned }
with_table t the.Returned c = record { recipients = t.recipients; identities = t.identities; keys = t.keys; headers = t.headers; errors = t.errors; stanzas = t.stanzas; returned = c }
