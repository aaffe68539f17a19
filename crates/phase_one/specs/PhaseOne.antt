-- Phase one: what is decided of a command, and what it does (document 01, "Phase one" and "Numbers given back"; document 02, No. 7).
use Rattle.std.specs.Prelude.{ℕ, ◌-◌, Bool, ◌&&◌, List, ltb, leb, eqb, length, get_or}
use Rattle.refusal.specs.Pick.{pick}
use Rattle.refusal.specs.Verdict.{first_of}
use Rattle.phase_one.specs.Commands.{command, payload_of, CommandOne, recipient, identity, key, header, done, other, bad}
use Rattle.tables.specs.Repeats.{repeats}
use Rattle.tables.specs.Tables.{Table, empty, fits, entered, kept}
use Rattle.session.specs.Tables.{Tables}
use Rattle.session.specs.declared.opening.Machine.{Machine}

-- header stanza indices never fall: an index is not less than that of the last one accepted
abbrev pub falls : Table → ℕ → Bool
falls t index = ltb 0 t.count && leb t.count t.width && ltb index (get_or t.slots (t.count - 1) empty).index

-- the four buffers of phase one
pub record BuffersOne : Type 0 where
  pub recipients : List ℕ
  pub identities : List ℕ
  pub keys : List ℕ
  pub headers : List ℕ

-- the four together
abbrev pub buffers_of : List ℕ → List ℕ → List ℕ → List ℕ → BuffersOne
buffers_of r i k h = record { recipients = r; identities = i; keys = k; headers = h }

-- No. 8, no slot or the buffer is too short; before it, for a header stanza No. 7, and for a recipient No. 20, "a second recipient whose text equals an earlier
-- one". done and an ignored command need no space
abbrev pub decided : Tables → BuffersOne → CommandOne → List ℕ → ℕ
decided t b (recipient m) p = pick (repeats t.recipients b.recipients p) 20 (pick (fits t.recipients (length p) (length b.recipients)) 0 8)
decided t b (identity m) p = pick (fits t.identities (length p) (length b.identities)) 0 8
decided t b key p = pick (fits t.keys (length p) (length b.keys)) 0 8
decided t b (header i m) p = pick (falls t.headers i) 7 (pick (fits t.headers (length p) (length b.headers)) 0 8)
decided t b done p = 0
decided t b other p = 0
decided t b (bad n) p = n

-- what an accepted command does: one entry more in its kind's table, with its index and its mark; no other table changes
abbrev pub applied : Tables → BuffersOne → CommandOne → List ℕ → Tables
applied t b (recipient m) p = record {
  recipients = entered t.recipients (length p) 0 m (length b.recipients);
  identities = t.identities;
  keys = t.keys;
  headers = t.headers;
  errors = t.errors;
  stanzas = t.stanzas;
  returned = t.returned;
}
applied t b (identity m) p = record {
  recipients = t.recipients;
  identities = entered t.identities (length p) 0 m (length b.identities);
  keys = t.keys;
  headers = t.headers;
  errors = t.errors;
  stanzas = t.stanzas;
  returned = t.returned;
}
applied t b key p = record {
  recipients = t.recipients;
  identities = t.identities;
  keys = entered t.keys (length p) 0 0 (length b.keys);
  headers = t.headers;
  errors = t.errors;
  stanzas = t.stanzas;
  returned = t.returned;
}
applied t b (header i m) p = record {
  recipients = t.recipients;
  identities = t.identities;
  keys = t.keys;
  headers = entered t.headers (length p) i m (length b.headers);
  errors = t.errors;
  stanzas = t.stanzas;
  returned = t.returned;
}
applied t b done p = t
applied t b other p = t
applied t b (bad n) p = t

-- and its payload in its kind's buffer; no other buffer changes
abbrev pub filled_by : Tables → BuffersOne → CommandOne → List ℕ → BuffersOne
filled_by t b (recipient m) p = buffers_of (kept t.recipients p b.recipients) b.identities b.keys b.headers
filled_by t b (identity m) p = buffers_of b.recipients (kept t.identities p b.identities) b.keys b.headers
filled_by t b key p = buffers_of b.recipients b.identities (kept t.keys p b.keys) b.headers
filled_by t b (header i m) p = buffers_of b.recipients b.identities b.keys (kept t.headers p b.headers)
filled_by t b done p = b
filled_by t b other p = b
filled_by t b (bad n) p = b

-- ---- one command of phase one, by its arguments' text and its body: its number, 0 where it is accepted; the tables and the buffers afterwards, as they
-- were where it is refused. `late` is a fault that is looked for last: No. 15 where the end that sends has too short an output buffer, else 0

-- the command of a stanza
abbrev pub command_in : Machine → List ℕ → List ℕ → List ℕ → CommandOne
command_in machine plugin line body = command machine plugin line (length body)

-- its payload
abbrev pub payload_in : Machine → List ℕ → List ℕ → List ℕ → List ℕ
payload_in machine plugin line body = payload_of (command_in machine plugin line body) line body

-- its number
abbrev pub number_one : Machine → List ℕ → Tables → BuffersOne → ℕ → List ℕ → List ℕ → ℕ
number_one machine plugin t b late line body = first_of (decided t b (command_in machine plugin line body) (payload_in machine plugin line body)) late

-- the tables afterwards
abbrev pub tables_one : Machine → List ℕ → Tables → BuffersOne → ℕ → List ℕ → List ℕ → Tables
tables_one machine plugin t b late line body =
    pick (eqb (number_one machine plugin t b late line body) 0) (applied t b (command_in machine plugin line body) (payload_in machine plugin line body)) t

-- the buffers afterwards
abbrev pub buffers_one : Machine → List ℕ → Tables → BuffersOne → ℕ → List ℕ → List ℕ → BuffersOne
buffers_one machine plugin t b late line body =
    pick (eqb (number_one machine plugin t b late line body) 0) (filled_by t b (command_in machine plugin line body) (payload_in machine plugin line body)) b
