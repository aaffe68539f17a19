-- The tables of phase one kind by kind (document 01: "A kind's table is its accepted commands in order, each with payload, index, unsound mark").
use Rattle.std.specs.Prelude.{ℕ, List, [], ◌∷◌}
use Rattle.phase_one.specs.Commands.{CommandOne, recipient, identity, key, header, done, other, bad}
use Rattle.tables.specs.Tables.{Table, Row, view}
use Rattle.session.specs.Tables.{Tables}
use Rattle.phase_one.specs.PhaseOne.{BuffersOne}

-- the kinds of phase one
pub data KindOne : Type 0 where
  recipients : KindOne
  identities : KindOne
  keys : KindOne
  headers : KindOne

-- a kind's table
abbrev pub table_of : KindOne → Tables → Table
table_of recipients t = t.recipients
table_of identities t = t.identities
table_of keys t = t.keys
table_of headers t = t.headers

-- a kind's buffer
abbrev pub buffer_of : KindOne → BuffersOne → List ℕ
buffer_of recipients b = b.recipients
buffer_of identities b = b.identities
buffer_of keys b = b.keys
buffer_of headers b = b.headers

-- what a kind's table shows
abbrev pub view_of : KindOne → Tables → BuffersOne → List Row
view_of k t b = view (table_of k t) (buffer_of k b)

-- the row that an accepted command adds to a kind's table: one in its own, none in another's
abbrev pub rows_of : CommandOne → KindOne → List ℕ → List Row
rows_of (recipient m) recipients p = record { payload = p; index = 0; mark = m } ∷ []
rows_of (recipient m) identities p = []
rows_of (recipient m) keys p = []
rows_of (recipient m) headers p = []
rows_of (identity m) recipients p = []
rows_of (identity m) identities p = record { payload = p; index = 0; mark = m } ∷ []
rows_of (identity m) keys p = []
rows_of (identity m) headers p = []
rows_of key recipients p = []
rows_of key identities p = []
rows_of key keys p = record { payload = p; index = 0; mark = 0 } ∷ []
rows_of key headers p = []
rows_of (header i m) recipients p = []
rows_of (header i m) identities p = []
rows_of (header i m) keys p = []
rows_of (header i m) headers p = record { payload = p; index = i; mark = m } ∷ []
rows_of done k p = []
rows_of other k p = []
rows_of (bad n) k p = []
