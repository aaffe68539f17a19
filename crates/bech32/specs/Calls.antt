-- What the calls answer (document 01, "Recipients and identities" and "Numbers given back").
use Rattle.std.specs.Prelude.{ℕ, ◌-◌, ◌≡◌, Bool, ◌&&◌, ◌||◌, List, [], ◌++◌, map, leb, eqb, length, replicate, Option, Some, None, MatchOption, Result, Ok, Err, MatchResult}
use Rattle.std.specs.Option.{unwrap_or}
use Rattle.refusal.specs.Number.{number_of}
use Rattle.refusal.specs.Pick.{pick}
use Rattle.refusal.specs.Same.{same}
use Rattle.refusal.specs.Output.{Answer, bytes, refused, overflows, answered, filled}
use Rattle.symbols.specs.Charset.{lower}
use Rattle.bech32.specs.Text.{Form, recipient, identity, is_name, text_of, no_lower, no_upper, Parsed, parsed, malformed, bad_checksum, leftover_bits, has_tail, is_closed}
use Rattle.bech32.specs.declared.human.Name.{Name}
use Rattle.bech32.specs.declared.parsing.ReadFault.{ReadFault}
use Rattle.bech32.specs.declared.parsing.ReadText.{ReadText}
use Rattle.bech32.specs.declared.TextKind.{TextKind}
use Rattle.bech32.specs.declared.TextKind.TheVariants.{Recipient, Identity}

-- the form of a kind
abbrev pub form_of : TextKind → Form
form_of Recipient = recipient
form_of Identity = identity

-- the checksum alone: no letters of both cases, and it holds over the lower-case form
abbrev pub is_sound : List ℕ → Bool
is_sound t = (no_lower t || no_upper t) && has_tail (map lower t) && is_closed (map lower t)

-- ---- reading: No. 16, the text has not the form of a recipient (or identity); No. 21, its checksum fails; No. 22, bits are left over; then No. 15, the payload is
-- longer than the buffer

-- the reader's number for a text of any plugin: 0, or 16, 21, 22
abbrev pub text_number : Parsed → ℕ
text_number (parsed name payload) = 0
text_number (malformed place) = 16
text_number (bad_checksum name) = 21
text_number (leftover_bits name) = 22

-- the place that comes with 16, and with no other
abbrev pub place_given : Parsed → Option ℕ
place_given (parsed name payload) = None
place_given (malformed place) = Some place
place_given (bad_checksum name) = None
place_given (leftover_bits name) = None

-- the same as a number: else 0
abbrev pub read_place : Parsed → ℕ
read_place p = unwrap_or (place_given p) 0

-- what is to be written to the buffer
abbrev pub payload_of : Parsed → List ℕ
payload_of (parsed name payload) = payload
payload_of (malformed place) = []
payload_of (bad_checksum name) = []
payload_of (leftover_bits name) = []

-- the name of the text, empty where it has not the form
abbrev pub name_of : Parsed → List ℕ
name_of (parsed name payload) = name
name_of (malformed place) = []
name_of (bad_checksum name) = name
name_of (leftover_bits name) = name

-- how many bytes the payload has, or the number
abbrev pub read_answer : Parsed → List ℕ → Answer
read_answer p buffer = pick (eqb (text_number p) 0) (answered (payload_of p) buffer) (refused (text_number p))

-- the buffer afterwards: the payload at its front, or as it was
abbrev pub read_buffer : Parsed → List ℕ → List ℕ
read_buffer p buffer = pick (eqb (text_number p) 0) (filled (payload_of p) buffer) buffer

-- the name handed back, empty where the call is refused
abbrev pub read_name : Parsed → List ℕ → List ℕ
read_name p buffer = pick (eqb (text_number p) 0) (pick (overflows (payload_of p) buffer) [] (name_of p)) []

-- a name by value: its bytes, and zeros up to 32
abbrev pub padded : List ℕ → List ℕ
padded name = name ++ replicate (32 - length name) 0

-- the code's value that holds a text: its bytes, and zeros behind them
abbrev pub IsText : Name → List ℕ → Type 0
IsText v t = (v.bytes ≡ padded t) × (v.length ≡ length t)

-- .. a name, and none where it is empty
abbrev pub IsGiven : Option Name → List ℕ → Type 0
IsGiven o name = MatchOption o (name ≡ []) (λ v. IsText v name × (length name ≡ 0 → ⊥))

-- what the code's answer stands for: how many bytes were written, or the number
abbrev pub read_said : Result ReadText ReadFault → Answer
read_said (Ok r) = bytes r.length
read_said (Err f) = refused (number_of f.refusal)

-- .. the place
abbrev pub place_said : Result ReadText ReadFault → Option ℕ
place_said (Ok r) = None
place_said (Err f) = f.place

-- .. the name, and none where it is refused
abbrev pub IsNamed : Result ReadText ReadFault → List ℕ → Type 0
IsNamed o name = MatchResult o (λ r. IsText r.name name) (λ f. name ≡ [])

-- a name that is given must be one in lower case: else it is taken as empty
abbrev pub given_name : List ℕ → List ℕ
given_name t = pick (is_name t) t []

-- ---- writing: No. 17, a name that is none, or a text of more than 1,024 characters; then No. 15

abbrev pub is_writable : Form → List ℕ → List ℕ → Bool
is_writable k name payload = is_name name && leb (length (text_of k name payload)) 1024

abbrev pub write_answer : Form → List ℕ → List ℕ → List ℕ → Answer
write_answer k name payload buffer = pick (is_writable k name payload) (answered (text_of k name payload) buffer) (refused 17)

abbrev pub write_buffer : Form → List ℕ → List ℕ → List ℕ → List ℕ
write_buffer k name payload buffer = pick (is_writable k name payload) (filled (text_of k name payload) buffer) buffer

-- ---- the mark of a text for a given plugin's name, compared without case: 16 where it has no human part of this name, whatever else fails; else the reader's number

abbrev pub mark_of : Parsed → List ℕ → ℕ
mark_of p plugin = pick (same (map lower plugin) (name_of p)) (text_number p) 16
