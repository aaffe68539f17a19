-- Look-up for a host: an entry by kind and number (document 01, "Phase one": "Any caller may ask for an entry by kind (recipient or identity) and number"); which
-- command awaits an answer; and, where its conversation has ended, what phase two brought: errors by number; "Returned stanzas are numbered from 0 within their
-- file and keys go by file" (document 01, "Phase two").
use Rattle.std.specs.Prelude.{ℕ, zero, suc, ◌-◌, ◌<◌, ◌≤◌, ◌≡◌, Bool, List, [], ◌∷◌, ◌⊎◌, ◌↔◌, eqb, length, Option, Some, None}
use Rattle.refusal.specs.Pick.{pick}
use Rattle.bech32.specs.declared.TextKind.{TextKind}
use Rattle.bech32.specs.declared.TextKind.TheVariants as the_text
use Rattle.tables.specs.declared.slots.Entry.{Entry}
use Rattle.tables.specs.Tables.{Table, view, Found, entry, nothing, found, shown, end_of, payload_at}
use Rattle.session.specs.Tables.{Tables}
use Rattle.session.specs.declared.kinds.Kind.{Kind}
use Rattle.session.specs.declared.kinds.Kind.TheVariants as the_kind
use Rattle.session.specs.declared.phases.Phase.{Phase}
use Rattle.session.specs.declared.phases.Phase.TheVariants.{One, Two, Awaiting, Ended, Closed}
use Rattle.conversation.specs.CommandsTwo.{Named, internal, identity, recipient, header, text_of_word}
use Rattle.conversation.specs.Kinds.{of_file}
use Rattle.conversation.specs.PhaseTwo.{Label, labels, is_file}
use Rattle.session.specs.declared.words.WordTwo.{WordTwo}
use Rattle.look_up.specs.declared.look_up.ErrorNamed.{ErrorNamed}
use Rattle.look_up.specs.declared.look_up.ErrorNamed.TheVariants as the

-- ---- by kind and number

-- a kind's table
abbrev pub table_of : Kind → Tables → Table
table_of the_kind.Recipients t = t.recipients
table_of the_kind.Identities t = t.identities
table_of the_kind.Keys t = t.keys
table_of the_kind.Headers t = t.headers
table_of the_kind.Errors t = t.errors
table_of the_kind.Stanzas t = t.stanzas
table_of the_kind.Returned t = t.returned

-- an entry's text, as a part of the recipients' buffer or the identities' buffer
abbrev pub entry_text : Tables → TextKind → ℕ → List ℕ → List ℕ → List ℕ
entry_text t the_text.Recipient n recipients identities = shown (found t.recipients n) recipients
entry_text t the_text.Identity n recipients identities = shown (found t.identities n) identities

-- ---- the command that awaits an answer, if any

-- what the code's answer stands for: the text of the command's word, or none
abbrev pub awaited_said : Option WordTwo → List (List ℕ)
awaited_said (Some w) = text_of_word w ∷ []
awaited_said None = []

-- in a phase
abbrev pub awaited_in : Phase → List (List ℕ)
awaited_in One = []
awaited_in Two = []
awaited_in (Awaiting w) = text_of_word w ∷ []
awaited_in Ended = []
awaited_in Closed = []

-- ---- "what the k-th error names, by value": the entry's mark says which kind, its index which number

-- what the code's answer stands for: what the error names, "internal; identity i; recipient i; stanza f i", or no such error
abbrev pub name_said : Option ErrorNamed → List Named
name_said (Some the.Internal) = internal ∷ []
name_said (Some (the.Identity i)) = identity i ∷ []
name_said (Some (the.Recipient i)) = recipient i ∷ []
name_said (Some (the.Header f i)) = header f i ∷ []
name_said None = []

-- by the marks that an error is stored with: from 3 on, a header stanza's, with its file
abbrev pub named_by : Entry → List Named
named_by e =
    pick (eqb e.mark 0) (internal ∷ [])
    (pick (eqb e.mark 1) (identity e.index ∷ []) (pick (eqb e.mark 2) (recipient e.index ∷ []) (header (e.mark - 3) e.index ∷ [])))

-- what was found, if anything
abbrev pub named_in : Found → List Named
named_in nothing = []
named_in (entry e) = named_by e

-- error k
abbrev pub error_named : Tables → ℕ → List Named
error_named t k = named_in (found t.errors k)

-- ---- "its message, the k-th stanza of a file, the key of a file, each as a part of its buffer .., and empty where there is none or the buffer is too short"

-- the number of the k-th that passes a test, among all; as many as there are where there is none
unfoldable pub number_of : (Label → Bool) → List Label → ℕ → ℕ
number_of test [] k = 0
number_of test (l ∷ ls) zero = pick (test l) 0 (suc (number_of test ls 0))
number_of test (l ∷ ls) (suc k) = suc (number_of test ls (pick (test l) k (suc k)))

-- the k-th entry of the file f, in the order of acceptance
abbrev pub found_of : Table → ℕ → ℕ → Found
found_of t f k = found t (number_of (is_file f) (labels t) k)

-- the message of error k
abbrev pub message_of : Tables → ℕ → List ℕ → List ℕ
message_of t k errors = shown (found t.errors k) errors

-- stanza k of the file f
abbrev pub stanza_of : Tables → ℕ → ℕ → List ℕ → List ℕ
stanza_of t f k stanzas = shown (found_of t.stanzas f k) stanzas

-- the key of the file f, its first: there is no second
abbrev pub key_of : Tables → ℕ → List ℕ → List ℕ
key_of t f returned = shown (found_of t.returned f 0) returned

-- ---- what is shown, by the rows

-- `part` shown for the k-th entry of the file f: the payload of the file's row k where the buffer is long enough for it; empty exactly if the file has no row k or the
-- buffer is too short for it
pub record LookedOf (part : List ℕ) (t : Table) (b : List ℕ) (f k : ℕ) : Type 0 where
  pub there : k < length (of_file f (view t b)) → end_of t (number_of (is_file f) (labels t) k) ≤ length b → part ≡ payload_at (of_file f (view t b)) k
  pub empty_iff : (part ≡ []) ↔ ((length (of_file f (view t b)) ≤ k) ⊎ (length b < end_of t (number_of (is_file f) (labels t) k)))

-- `part` shown for error k, whose message may be empty
pub record Told (part : List ℕ) (t : Table) (b : List ℕ) (k : ℕ) : Type 0 where
  pub there : k < length (view t b) → end_of t k ≤ length b → part ≡ payload_at (view t b) k
  pub none : (length (view t b) ≤ k) ⊎ (length b < end_of t k) → part ≡ []
