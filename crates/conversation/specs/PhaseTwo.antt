-- Phase two: what is decided of a command, and what it does (document 01, "Phase two": "Rules between commands", and "Numbers given back"). The decision asks the
-- tables only through the questions below.
use Rattle.std.specs.Prelude.{ℕ, zero, suc, ◌+◌, Bool, true, false, not, ◌&&◌, ◌||◌, List, [], ◌∷◌, ◌++◌, map, ltb, leb, eqb, length, take}
use Rattle.refusal.specs.Pick.{pick}
use Rattle.tables.specs.declared.slots.Entry.{Entry}
use Rattle.tables.specs.Tables.{Table, Row, fits, entered, kept, view}
use Rattle.session.specs.Tables.{Tables}
use Rattle.refusal.specs.Verdict.{first_of}
use Rattle.conversation.specs.CommandsTwo.{Named, internal, identity, recipient, header, CommandTwo, ask, stanza, key, error, done, other, bad}

-- ---- kinds

-- the kinds of phase two
pub data KindTwo : Type 0 where
  errors : KindTwo
  stanzas : KindTwo
  returned : KindTwo

-- their buffers
pub record BuffersTwo : Type 0 where
  pub errors : List ℕ
  pub stanzas : List ℕ
  pub returned : List ℕ

-- the three together
abbrev pub buffers_of : List ℕ → List ℕ → List ℕ → BuffersTwo
buffers_of e s r = record { errors = e; stanzas = s; returned = r }

-- a kind's table
abbrev pub table_of : KindTwo → Tables → Table
table_of errors t = t.errors
table_of stanzas t = t.stanzas
table_of returned t = t.returned

-- a kind's buffer
abbrev pub buffer_of : KindTwo → BuffersTwo → List ℕ
buffer_of errors b = b.errors
buffer_of stanzas b = b.stanzas
buffer_of returned b = b.returned

-- what a kind's table shows, in the order of acceptance
abbrev pub view_of : KindTwo → Tables → BuffersTwo → List Row
view_of k t b = view (table_of k t) (buffer_of k b)

-- ---- what is kept of an entry beside its payload

pub record Label : Type 0 where
  pub index : ℕ
  pub mark : ℕ

-- of an entry
abbrev pub label_of : Entry → Label
label_of e = record { index = e.index; mark = e.mark }

-- of a table's entries, in order
abbrev pub labels : Table → List Label
labels t = map label_of (take t.count t.slots)

-- how many of them pass a test
unfoldable pub how_many : (Label → Bool) → List Label → ℕ
how_many test [] = 0
how_many test (l ∷ ls) = pick (test l) 1 0 + how_many test ls

-- one of them does
abbrev pub is_any : (Label → Bool) → List Label → Bool
is_any test ls = ltb 0 (how_many test ls)

-- the one of a number passes a test
unfoldable pub passes : (Label → Bool) → List Label → ℕ → Bool
passes test [] n = false
passes test (l ∷ ls) zero = test l
passes test (l ∷ ls) (suc n) = passes test ls n

-- those of them that do, in order
unfoldable pub among : (Label → Bool) → List Label → List Label
among test [] = []
among test (l ∷ ls) = pick (test l) (l ∷ []) [] ++ among test ls

-- ---- the questions

-- a header stanza, a returned stanza or a returned key of the file f
abbrev pub is_file : ℕ → Label → Bool
is_file f l = eqb l.index f

-- phase one named the file f: a header stanza belongs to it
abbrev pub names_file : Tables → ℕ → Bool
names_file t f = is_any (is_file f) (labels t.headers)

-- the header stanzas of the file f, in the order received
abbrev pub headers_of : Tables → ℕ → List Label
headers_of t f = among (is_file f) (labels t.headers)

-- "i counts the header stanzas of file f from 0 in the order received": the file has more than i
abbrev pub has_header : Tables → ℕ → ℕ → Bool
has_header t f i = ltb i (how_many (is_file f) (labels t.headers))

-- how many stanzas the file f has got
abbrev pub stanzas_for : Tables → ℕ → ℕ
stanzas_for t f = how_many (is_file f) (labels t.stanzas)

-- "at most as many stanzas as there are recipients and identities together"
abbrev pub most_stanzas : Tables → ℕ
most_stanzas t = t.recipients.count + t.identities.count

-- the file f has a key
abbrev pub has_key : Tables → ℕ → Bool
has_key t f = is_any (is_file f) (labels t.returned)

-- an error's mark: what it names; of a header stanza also the file, from 3 on
abbrev pub mark_of : Named → ℕ
mark_of internal = 0
mark_of (identity i) = 1
mark_of (recipient i) = 2
mark_of (header f i) = 3 + f

-- an error's index: the number that it names; of a header stanza the one within its file
abbrev pub index_of : Named → ℕ
index_of internal = 0
index_of (identity i) = i
index_of (recipient i) = i
index_of (header f i) = i

-- an error with a mark names the number n
abbrev pub is_naming : ℕ → ℕ → Label → Bool
is_naming mark n l = eqb l.mark mark && eqb l.index n

-- an error names a header stanza of the file f
abbrev pub is_about : ℕ → Label → Bool
is_about f l = eqb l.mark (3 + f)

-- there is an error stanza f
abbrev pub has_error_for : Tables → ℕ → Bool
has_error_for t f = is_any (is_about f) (labels t.errors)

-- ---- the decision: each fault by its number

-- No. 6, index names nothing
abbrev pub is_missing : Tables → CommandTwo → Bool
is_missing t (ask w) = false
is_missing t (stanza f) = not (ltb f t.keys.count)
is_missing t (key f) = not (names_file t f)
is_missing t (error internal) = false
is_missing t (error (identity i)) = not (ltb i t.identities.count)
is_missing t (error (recipient i)) = not (ltb i t.recipients.count)
is_missing t (error (header f i)) = not (has_header t f i)
is_missing t done = false
is_missing t other = false
is_missing t (bad n) = false

-- No. 9, second key for a file
abbrev pub is_second_key : Tables → CommandTwo → Bool
is_second_key t (ask w) = false
is_second_key t (stanza f) = false
is_second_key t (key f) = has_key t f
is_second_key t (error n) = false
is_second_key t done = false
is_second_key t other = false
is_second_key t (bad n) = false

-- No. 10, too many stanzas for a file
abbrev pub is_too_many : Tables → CommandTwo → Bool
is_too_many t (ask w) = false
is_too_many t (stanza f) = leb (most_stanzas t) (stanzas_for t f)
is_too_many t (key f) = false
is_too_many t (error n) = false
is_too_many t done = false
is_too_many t other = false
is_too_many t (bad n) = false

-- an error against a key: "error stanza f and file-key f don't both occur"
abbrev pub is_against_key : Tables → Named → Bool
is_against_key t internal = false
is_against_key t (identity i) = false
is_against_key t (recipient i) = false
is_against_key t (header f i) = has_key t f

-- No. 11, work and error together; "errors and stanzas don't both occur": identity-v1 has no returned stanzas
abbrev pub is_clashing : Tables → CommandTwo → Bool
is_clashing t (ask w) = false
is_clashing t (stanza f) = ltb 0 t.errors.count
is_clashing t (key f) = has_error_for t f
is_clashing t (error n) = ltb 0 t.stanzas.count || is_against_key t n
is_clashing t done = false
is_clashing t other = false
is_clashing t (bad n) = false

-- No. 8, no slot, or the buffer is too short
abbrev pub is_spaceless : Tables → BuffersTwo → CommandTwo → ℕ → Bool
is_spaceless t b (ask w) n = false
is_spaceless t b (stanza f) n = not (fits t.stanzas n (length b.stanzas))
is_spaceless t b (key f) n = not (fits t.returned n (length b.returned))
is_spaceless t b (error e) n = not (fits t.errors n (length b.errors))
is_spaceless t b done n = false
is_spaceless t b other n = false
is_spaceless t b (bad k) n = false

-- ---- "Plugin end only"

-- a recipient or an identity is invalid
abbrev pub is_invalid : Label → Bool
is_invalid l = not (eqb l.mark 0)

-- "while any recipient or identity is unsound"
abbrev pub any_invalid : Tables → Bool
any_invalid t = is_any is_invalid (labels t.recipients) || is_any is_invalid (labels t.identities)

-- a header stanza is nonconforming
abbrev pub is_nonconforming : Label → Bool
is_nonconforming l = eqb l.mark 1

-- a header stanza is unknown
abbrev pub is_unknown : Label → Bool
is_unknown l = eqb l.mark 2

-- "a file with a faulty fido2-hmac stanza"
abbrev pub has_nonconforming : Tables → ℕ → Bool
has_nonconforming t f = is_any (λ l. is_nonconforming l && is_file f l) (labels t.headers)

-- each entry that passes a test has had its error, the one of its own kind and number; the first of them has the number n
unfoldable pub are_reported : (Label → Bool) → ℕ → ℕ → List Label → List Label → Bool
are_reported test mark n [] es = true
are_reported test mark n (l ∷ ls) es = (not (test l) || is_any (is_naming mark n) es) && are_reported test mark (n + 1) ls es

-- each nonconforming header stanza has had its error, the one of its file and its number there; `before` are the header stanzas before these
unfoldable pub are_stanzas_reported : List Label → List Label → List Label → Bool
are_stanzas_reported before [] es = true
are_stanzas_reported before (l ∷ ls) es =
    (not (is_nonconforming l) || is_any (is_naming (3 + l.index) (how_many (is_file l.index) before)) es) && are_stanzas_reported (before ++ (l ∷ [])) ls es

-- "each unsound entry and each faulty stanza has had its error"
abbrev pub all_reported : Tables → Bool
all_reported t =
    are_reported is_invalid 2 0 (labels t.recipients) (labels t.errors) && are_reported is_invalid 1 0 (labels t.identities) (labels t.errors)
    && are_stanzas_reported [] (labels t.headers) (labels t.errors)

-- an error for an unknown stanza
abbrev pub is_for_unknown : Tables → Named → Bool
is_for_unknown t internal = false
is_for_unknown t (identity i) = false
is_for_unknown t (recipient i) = false
is_for_unknown t (header f i) = passes is_unknown (headers_of t f) i

-- No. 19, held back by an invalid entry or nonconforming stanza, or error for an unknown stanza
abbrev pub is_held_back : Tables → CommandTwo → Bool
is_held_back t (ask w) = false
is_held_back t (stanza f) = any_invalid t
is_held_back t (key f) = any_invalid t || has_nonconforming t f
is_held_back t (error n) = is_for_unknown t n
is_held_back t done = not (all_reported t)
is_held_back t other = false
is_held_back t (bad n) = false

-- ---- the first fault

-- a number where a test holds, else 0
abbrev pub when : Bool → ℕ → ℕ
when test n = pick test n 0

-- No. 4 or 5, where the command was read so
abbrev pub fault_of : CommandTwo → ℕ
fault_of (ask w) = 0
fault_of (stanza f) = 0
fault_of (key f) = 0
fault_of (error n) = 0
fault_of done = 0
fault_of other = 0
fault_of (bad n) = n

-- 4, 5, 6, 9, 10, 11, at the plugin's own sending 19: all that the tables alone decide; 0 where there is none
abbrev pub ruled : Bool → Tables → CommandTwo → ℕ
ruled own t c =
    first_of (fault_of c)
    (first_of (when (is_missing t c) 6)
    (first_of (when (is_second_key t c) 9) (first_of (when (is_too_many t c) 10) (first_of (when (is_clashing t c) 11) (when (own && is_held_back t c) 19)))))

-- then 8. n is the payload's length
unfoldable pub decided : Bool → Tables → BuffersTwo → CommandTwo → ℕ → ℕ
decided own t b c n = first_of (ruled own t c) (when (is_spaceless t b c n) 8)

-- ---- what an accepted command does

-- one entry more in its kind's table: a stanza or a key with its file, an error with what it names; no other table changes
abbrev pub applied : Tables → BuffersTwo → CommandTwo → List ℕ → Tables
applied t b (ask w) p = t
applied t b (stanza f) p = record {
  recipients = t.recipients;
  identities = t.identities;
  keys = t.keys;
  headers = t.headers;
  errors = t.errors;
  stanzas = entered t.stanzas (length p) f 0 (length b.stanzas);
  returned = t.returned;
}
applied t b (key f) p = record {
  recipients = t.recipients;
  identities = t.identities;
  keys = t.keys;
  headers = t.headers;
  errors = t.errors;
  stanzas = t.stanzas;
  returned = entered t.returned (length p) f 0 (length b.returned);
}
applied t b (error n) p = record {
  recipients = t.recipients;
  identities = t.identities;
  keys = t.keys;
  headers = t.headers;
  errors = entered t.errors (length p) (index_of n) (mark_of n) (length b.errors);
  stanzas = t.stanzas;
  returned = t.returned;
}
applied t b done p = t
applied t b other p = t
applied t b (bad n) p = t

-- and its payload in its kind's buffer; no other buffer changes
abbrev pub filled_by : Tables → BuffersTwo → CommandTwo → List ℕ → BuffersTwo
filled_by t b (ask w) p = b
filled_by t b (stanza f) p = buffers_of b.errors (kept t.stanzas p b.stanzas) b.returned
filled_by t b (key f) p = buffers_of b.errors b.stanzas (kept t.returned p b.returned)
filled_by t b (error n) p = buffers_of (kept t.errors p b.errors) b.stanzas b.returned
filled_by t b done p = b
filled_by t b other p = b
filled_by t b (bad n) p = b

-- the row that an accepted command adds to a kind's table: one in its own, none in another's
abbrev pub rows_of : CommandTwo → KindTwo → List ℕ → List Row
rows_of (ask w) k p = []
rows_of (stanza f) errors p = []
rows_of (stanza f) stanzas p = record { payload = p; index = f; mark = 0 } ∷ []
rows_of (stanza f) returned p = []
rows_of (key f) errors p = []
rows_of (key f) stanzas p = []
rows_of (key f) returned p = record { payload = p; index = f; mark = 0 } ∷ []
rows_of (error n) errors p = record { payload = p; index = index_of n; mark = mark_of n } ∷ []
rows_of (error n) stanzas p = []
rows_of (error n) returned p = []
rows_of done k p = []
rows_of other k p = []
rows_of (bad n) k p = []
