-- The library's answers as an exported function gives them: the paper's number, 0 where nothing was refused, and for each number that the
-- caller lends what it holds afterwards: the result, or what it held (old) where the call was refused.
use Rattle.std.specs.Prelude.{ℕ, ◌+◌, List, eqb, length, take, drop}
use Rattle.refusal.specs.Pick.{pick}
use Rattle.refusal.specs.Output.{Answer, bytes, refused, overflows}
use Rattle.strict_base64.specs.Lines.{body_of}
use Rattle.stanza.specs.Index as index
use Rattle.stanza.specs.Reading as reading
use Rattle.bech32.specs.Text.{Parsed}
use Rattle.bech32.specs.Calls.{text_number, payload_of, name_of, padded}

-- writing to a lent buffer: the number given back, and how many bytes
abbrev pub number_in : Answer → ℕ
number_in (bytes n) = 0
number_in (refused k) = k

-- .. how many bytes were written
abbrev pub length_or : ℕ → Answer → ℕ
length_or old (bytes n) = n
length_or old (refused k) = old

-- .. a count that goes with it
abbrev pub count_or : ℕ → ℕ → Answer → ℕ
count_or old count (bytes n) = count
count_or old count (refused k) = old

-- reading a stanza: the number given back
abbrev pub read_number : reading.Reading → ℕ
read_number (reading.stanza line body taken) = 0
read_number (reading.refused k) = k

-- .. where its first line ends
abbrev pub line_or : ℕ → reading.Reading → ℕ
line_or old (reading.stanza line body taken) = line
line_or old (reading.refused k) = old

-- .. how many bytes its body has
abbrev pub body_or : ℕ → reading.Reading → ℕ
body_or old (reading.stanza line body taken) = body
body_or old (reading.refused k) = old

-- .. how many bytes were taken
abbrev pub taken_or : ℕ → reading.Reading → ℕ
taken_or old (reading.stanza line body taken) = taken
taken_or old (reading.refused k) = old

-- reading an index: the number given back
abbrev pub index_number : index.ReadIndex → ℕ
index_number (index.number n) = 0
index_number (index.refused k) = k

-- .. its value
abbrev pub value_or : ℕ → index.ReadIndex → ℕ
value_or old (index.number n) = n
value_or old (index.refused k) = old

-- the body of a stanza that was read at the front of a text: of the lines behind the first LF, up to where the stanza ends
abbrev pub body_at : List ℕ → ℕ → ℕ → List ℕ
body_at t line taken = body_of (drop (line + 1) (take taken t))

-- reading a recipient or an identity: what is made of its name
abbrev pub made_or : {X : Type 0} → (List ℕ → X) → X → Parsed → List ℕ → X
made_or made old p buffer = pick (eqb (text_number p) 0) (pick (overflows (payload_of p) buffer) old (made (name_of p))) old

-- .. its name at the front of 32 bytes, with zeros behind it
abbrev pub name_or : List ℕ → Parsed → List ℕ → List ℕ
name_or old p buffer = made_or padded old p buffer

-- .. how many bytes its name has
abbrev pub named_or : ℕ → Parsed → List ℕ → ℕ
named_or old p buffer = made_or length old p buffer
