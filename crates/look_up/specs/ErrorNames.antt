-- What the accepted errors of a list of calls name (document 01, "Phase two": "internal; identity i; recipient i (recipient-v1); stanza f i (identity-v1)"; "A kind's
-- table is its accepted commands in order .., each with .. what an error names").
use Rattle.std.specs.Prelude.{ℕ, zero, suc, List, [], ◌∷◌, ◌++◌, eqb}
use Rattle.refusal.specs.Pick.{pick}
use Rattle.refusal.specs.Same.{same}
use Rattle.stanza.specs.Arguments.{argument_of}
use Rattle.stanza.specs.Index.{ReadIndex, number, refused, read_index}
use Rattle.session.specs.Session.{Session}
use Rattle.conversation.specs.Calls.{Call, Brought, in_one, in_two, no_command, brought_by, outcome}
use Rattle.conversation.specs.CommandsTwo.{Named, internal, identity, recipient, header, error_word, internal_word, identity_word, recipient_word, stanza_word}
use Rattle.conversation.specs.Kinds.{Buffers}

-- what its last argument says: the index that is written there
abbrev pub name_read : (ℕ → Named) → ReadIndex → List Named
name_read name (number i) = name i ∷ []
name_read name (refused n) = []

-- .. its last two
abbrev pub header_read : ReadIndex → ReadIndex → List Named
header_read (number f) (number i) = header f i ∷ []
header_read (number f) (refused n) = []
header_read (refused n) i = []

-- "internal; identity i; recipient i; stanza f i", by the arguments' text of an error
abbrev pub error_read : List ℕ → List Named
error_read line =
    pick (same (argument_of line 1) internal_word) (internal ∷ [])
    (pick (same (argument_of line 1) identity_word) (name_read identity (read_index (argument_of line 2)))
    (pick (same (argument_of line 1) recipient_word) (name_read recipient (read_index (argument_of line 2)))
    (pick (same (argument_of line 1) stanza_word) (header_read (read_index (argument_of line 2)) (read_index (argument_of line 3))) [])))

-- what a call's command names: an error one thing, any other nothing
abbrev pub names_brought : Brought → List Named
names_brought (in_one line body) = []
names_brought (in_two line body) = pick (same (argument_of line 0) error_word) (error_read line) []
names_brought no_command = []

-- what the accepted errors of a list of calls name, in order
unfoldable pub names_in : Session → Buffers → List Call → List Named
names_in s b [] = []
names_in s b (c ∷ cs) =
    let o = outcome s b c in
    pick (eqb o.number 0) (names_brought (brought_by c)) [] ++ names_in o.session o.buffers cs

-- the one of a number; none beyond
unfoldable pub name_at : List Named → ℕ → List Named
name_at [] k = []
name_at (n ∷ ns) zero = n ∷ []
name_at (n ∷ ns) (suc k) = name_at ns k
