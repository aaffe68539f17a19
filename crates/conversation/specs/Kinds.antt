-- The seven kinds, and their buffers (document 01: "A kind's table is its accepted commands in order (returned stanzas and keys: file by file), each with payload,
-- index, unsound mark and what an error names").
use Rattle.std.specs.Prelude.{ℕ, List, [], ◌∷◌, ◌++◌, eqb}
use Rattle.refusal.specs.Pick.{pick}
use Rattle.tables.specs.Tables.{Table, Row}
use Rattle.phase_one.specs.PhaseOne as one
use Rattle.session.specs.Tables.{Tables}
use Rattle.phase_one.specs.Views as one_kind
use Rattle.conversation.specs.PhaseTwo as two

-- the kinds of phase one, and those of phase two
pub data AnyKind : Type 0 where
  first : one_kind.KindOne → AnyKind
  second : two.KindTwo → AnyKind

-- the seven buffers
pub record Buffers : Type 0 where
  pub first : one.BuffersOne
  pub second : two.BuffersTwo

-- the two parts together
abbrev pub buffers_of : one.BuffersOne → two.BuffersTwo → Buffers
buffers_of b c = record { first = b; second = c }

-- a kind's table
abbrev pub table_of : AnyKind → Tables → Table
table_of (first k) t = one_kind.table_of k t
table_of (second k) t = two.table_of k t

-- what a kind's table shows
abbrev pub view_of : AnyKind → Tables → Buffers → List Row
view_of (first k) t b = one_kind.view_of k t b.first
view_of (second k) t b = two.view_of k t b.second

-- the rows of one file
unfoldable pub of_file : ℕ → List Row → List Row
of_file f [] = []
of_file f (r ∷ rs) = pick (eqb r.index f) (r ∷ []) [] ++ of_file f rs
