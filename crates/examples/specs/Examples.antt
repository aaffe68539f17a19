-- The worked examples of document 01 marked * (the paper's classroom pieces), and two of document 02, No. 7: one table, and what it is for a row to hold.
-- Texts are lists of bytes: 45 62 32 is "-> ", 10 is LF, 48 to 57 are the digits.
use Rattle.std.specs.Prelude.{ℕ, ◌≡◌, false, List, [], ◌∷◌, ◌++◌, map, length, replicate}
use Rattle.strict_base64.specs.Lines.{lines_of}
use Rattle.stanza.specs.Grammar.{stanza_text}
use Rattle.stanza.specs.Index as index
use Rattle.stanza.specs.Reading.{Reading, stanza, refused, read_first}
use Rattle.responses.specs.Responses.{response, response_of}
use Rattle.responses.specs.declared.Response.{Response}
use Rattle.responses.specs.declared.Response.TheVariants.{No}
use Rattle.session.specs.declared.words.WordTwo.{WordTwo}
use Rattle.session.specs.declared.words.WordTwo.TheVariants.{Confirm}
use Rattle.phase_one.specs.Commands.{add_recipient_text, recipient_stanza_text}
use Rattle.phase_one.specs.PhaseOne as one
use Rattle.session.specs.Tables.{opened_tables}
use Rattle.session.specs.declared.opening.Machine.TheVariants.{RecipientV1, IdentityV1}
use Rattle.session.specs.declared.phases.Phase.TheVariants.{Awaiting}
use Rattle.conversation.specs.Calls.{Call, receive, numbers}
use Rattle.conversation.specs.Kinds.{Buffers, buffers_of}
use Rattle.conversation.specs.PhaseTwo as two
use Rattle.conversation.specs.Phases.{line_in}
use Rattle.conversation.specs.Responding.{took_response, responded}
use Rattle.session.specs.Session.{Session, moved, opened_session}

-- an example: a text is read so; arguments and a body make so many bytes; so many body bytes make a line of so many characters and then these
-- bytes; a text is read as an index so; header stanzas of these files, received one behind the other, give these numbers, and so do recipients of these
-- texts; a text is this response, and the plugin end takes it as that to a command that awaits one
pub data Row : Type 0 where
  reads : List ℕ → Reading → Row
  writes : List ℕ → List ℕ → ℕ → Row
  makes : ℕ → ℕ → List ℕ → Row
  counts : List ℕ → index.ReadIndex → Row
  files : List ℕ → List ℕ → Row
  recipients : List (List ℕ) → List ℕ → Row
  answers : List ℕ → WordTwo → Response → Row

-- a header stanza of a file: "recipient-stanza", the index, the tag "x"
abbrev pub header_of : ℕ → Call
header_of file = receive (stanza_text (recipient_stanza_text ++ 32 ∷ index.decimal file ++ 32 ∷ 120 ∷ []) [])

-- a recipient of a text
abbrev pub recipient_of : List ℕ → Call
recipient_of text = receive (stanza_text (add_recipient_text ++ 32 ∷ text) [])

-- space for header stanzas alone
abbrev pub buffers : Buffers
buffers = buffers_of (one.buffers_of [] [] [] (replicate 16 0)) (two.buffers_of [] [] [])

-- .. for recipients alone
abbrev pub recipient_buffers : Buffers
recipient_buffers = buffers_of (one.buffers_of (replicate 4 0) [] [] []) (two.buffers_of [] [] [])

-- a plugin session that awaits the response to a command
abbrev pub awaiting : WordTwo → Session
awaiting w = moved (opened_session IdentityV1 (120 ∷ []) false) (Awaiting w) opened_tables

-- what the definitions say of it
abbrev pub Holds : Row → Type 0
Holds (reads text r) = read_first text ≡ r
Holds (writes line body n) = length (stanza_text line body) ≡ n
Holds (makes n k ending) = lines_of (replicate n 0) ≡ replicate k 65 ++ ending
Holds (counts text r) = index.read_index text ≡ r
Holds (files indices ns) = numbers (opened_session IdentityV1 (120 ∷ []) false) buffers (map header_of indices) ≡ ns
Holds (recipients texts ns) = numbers (opened_session RecipientV1 (120 ∷ []) false) recipient_buffers (map recipient_of texts) ≡ ns
Holds (answers text w r) = (response_of (line_in text) ≡ response r) × ((responded (awaiting w) text []).answer ≡ took_response r (length text) 0)

abbrev pub AllHold : List Row → Type 0
AllHold [] = Unit {0}
AllHold (r ∷ rs) = Holds r × AllHold rs

-- "-> done"
abbrev pub done : List ℕ
done = 45 ∷ 62 ∷ 32 ∷ 100 ∷ 111 ∷ 110 ∷ 101 ∷ []

-- "wrap-file-key"
abbrev pub wrap_file_key_text : List ℕ
wrap_file_key_text = 119 ∷ 114 ∷ 97 ∷ 112 ∷ 45 ∷ 102 ∷ 105 ∷ 108 ∷ 101 ∷ 45 ∷ 107 ∷ 101 ∷ 121 ∷ []

abbrev pub rows : List Row
rows =
    -- "-> done", LF, LF: 9 bytes, a whole stanza, its first line ending at 7, with no body
    reads (done ++ (10 ∷ 10 ∷ [])) (stanza 7 0 9) ∷
    -- the same less its last LF: 2
    reads (done ++ (10 ∷ [])) (refused 2) ∷
    -- two spaces between arguments, "-> a  b", LF, LF: 1
    reads (45 ∷ 62 ∷ 32 ∷ 97 ∷ 32 ∷ 32 ∷ 98 ∷ 10 ∷ 10 ∷ []) (refused 1) ∷
    -- 16 zero bytes as a wrap-file-key stanza: 40 bytes
    writes wrap_file_key_text (replicate 16 0) 40 ∷
    -- 47 body bytes: 63 characters, one LF; 48: 64 characters, two LFs (zero bytes are the character "A", 65)
    makes 47 63 (10 ∷ []) ∷
    makes 48 64 (10 ∷ 10 ∷ []) ∷
    -- index "0" good, "01" gives 5, "4294967295" good, "4294967296" gives 5
    counts (48 ∷ []) (index.number 0) ∷
    counts (48 ∷ 49 ∷ []) (index.refused 5) ∷
    counts (52 ∷ 50 ∷ 57 ∷ 52 ∷ 57 ∷ 54 ∷ 55 ∷ 50 ∷ 57 ∷ 53 ∷ []) (index.number 4294967295) ∷
    counts (52 ∷ 50 ∷ 57 ∷ 52 ∷ 57 ∷ 54 ∷ 55 ∷ 50 ∷ 57 ∷ 54 ∷ []) (index.refused 5) ∷
    -- file indices 3, 3, 7 pass; 3, 2 gives 7
    files (3 ∷ 3 ∷ 7 ∷ []) (0 ∷ 0 ∷ 0 ∷ []) ∷
    files (3 ∷ 2 ∷ []) (0 ∷ 7 ∷ []) ∷
    -- recipients "a", "ab" pass, a second "ab" gives 20; so does a second "a" with no space left
    recipients ((97 ∷ []) ∷ (97 ∷ 98 ∷ []) ∷ (97 ∷ 98 ∷ []) ∷ []) (0 ∷ 0 ∷ 20 ∷ []) ∷
    recipients ((97 ∷ []) ∷ (98 ∷ 98 ∷ 98 ∷ []) ∷ (97 ∷ []) ∷ []) (0 ∷ 0 ∷ 20 ∷ []) ∷
    -- "-> ok no", LF, LF to confirm means no
    answers (45 ∷ 62 ∷ 32 ∷ 111 ∷ 107 ∷ 32 ∷ 110 ∷ 111 ∷ 10 ∷ 10 ∷ []) Confirm No ∷
    []
