-- The tables (document 01, "Phase one": "Each kind has its own numbering from 0 and its own lent room", there called places and rooms).
use Rattle.std.specs.Prelude.{ℕ, ◌+◌, ◌<◌, ◌≤◌, ◌≡◌, ◌⊎◌, ◌↔◌, Bool, ◌&&◌, List, [], ◌++◌, map, ltb, leb, length, take, drop, set, get_or, replicate, Option, Some, None}
use Rattle.refusal.specs.Pick.{pick}
use Rattle.refusal.specs.Verdict.{first_of}
use Rattle.tables.specs.declared.slots.Entry.{Entry}
use Rattle.tables.specs.Slots.{slots_of}
use Rattle.tables.specs.declared.slots.Span.{Span}
use Rattle.tables.specs.declared.tables.Table.{Table as CodeTable}

-- `width` slots, of which the first `count` are entries; their payloads take the first `used` bytes of the kind's buffer
pub record Table : Type 0 where
  pub width : ℕ
  pub slots : List Entry
  pub count : ℕ
  pub used : ℕ

-- the code's table, with the slots of its span
abbrev pub table_in : Span → CodeTable → List (List ℕ) → Table
table_in h t xs = record { width = h.width; slots = slots_of h xs; count = t.count; used = t.used }

-- an empty slot
abbrev pub empty : Entry
empty = record { start = 0; length = 0; index = 0; mark = 0 }

-- a table of n slots that has just been opened
abbrev pub opened : ℕ → Table
opened n = record { width = n; slots = replicate n empty; count = 0; used = 0 }

-- a command fits if its kind has a slot and the payload bytes so far plus its own are at most the buffer's length
abbrev pub fits : Table → ℕ → ℕ → Bool
fits t n capacity = ltb t.count t.width && leb (t.used + n) capacity

-- one entry more: its number is the count before, its payload stands behind the others
abbrev pub appended : Table → ℕ → ℕ → ℕ → Table
appended t n index mark = record {
  width = t.width;
  slots = set t.slots t.count (record { start = t.used; length = n; index = index; mark = mark });
  count = t.count + 1;
  used = t.used + n;
}

-- the same where it fits; else the table stays as it was
abbrev pub entered : Table → ℕ → ℕ → ℕ → ℕ → Table
entered t n index mark capacity = pick (fits t n capacity) (appended t n index mark) t

-- No. 8 where it does not fit; then a late fault, of the call that stores
abbrev pub storing : Table → ℕ → ℕ → ℕ → ℕ
storing t n capacity late = first_of (pick (fits t n capacity) 0 8) late

-- ---- what a table shows

-- a row: payload, index and mark
pub record Row : Type 0 where
  pub payload : List ℕ
  pub index : ℕ
  pub mark : ℕ

-- the row of an entry, its payload read out of the buffer
abbrev pub row_of : List ℕ → Entry → Row
row_of buffer e = record { payload = take e.length (drop e.start buffer); index = e.index; mark = e.mark }

-- a kind's table: its accepted commands in order
abbrev pub view : Table → List ℕ → List Row
view t buffer = map (row_of buffer) (take t.count t.slots)

-- the buffer with a payload behind those that are there
abbrev pub placed : Table → List ℕ → List ℕ → List ℕ
placed t payload buffer = take t.used buffer ++ payload ++ drop (t.used + length payload) buffer

-- the buffer after a command: with its payload where it fits, else as it was
abbrev pub kept : Table → List ℕ → List ℕ → List ℕ
kept t payload buffer = pick (fits t (length payload) (length buffer)) (placed t payload buffer) buffer

-- ---- look-up: "If there is none, or the room lent is too short for it, the part is empty"

-- an entry's start, length, index and mark, or nothing
pub data Found : Type 0 where
  entry : Entry → Found
  nothing : Found

-- what the code's answer stands for
abbrev pub found_said : Option Entry → Found
found_said (Some e) = entry e
found_said None = nothing

-- the entry of a number
abbrev pub found : Table → ℕ → Found
found t n = pick (ltb n t.count && ltb n t.width) (entry (get_or t.slots n empty)) nothing

-- `n` bytes of the buffer from `start` on, none where it is too short for them
abbrev pub part_of : ℕ → ℕ → List ℕ → List ℕ
part_of start n buffer = pick (leb (start + n) (length buffer)) (take n (drop start buffer)) []

-- the same, or nothing
abbrev pub part_in : ℕ → ℕ → List ℕ → Option (List ℕ)
part_in start n buffer = pick (leb (start + n) (length buffer)) (Some (take n (drop start buffer))) None

-- the entry's payload as a part of the buffer
abbrev pub shown : Found → List ℕ → List ℕ
shown nothing buffer = []
shown (entry e) buffer = part_of e.start e.length buffer

-- where the payload of the entry of a number ends in the buffer
abbrev pub end_of : Table → ℕ → ℕ
end_of t n = let e = get_or t.slots n empty in e.start + e.length

-- the payload of a row, empty where there is none of that number
abbrev pub payload_at : List Row → ℕ → List ℕ
payload_at rows n = (get_or rows n (record { payload = []; index = 0; mark = 0 })).payload

-- a look-up that shows `part` of a buffer for number n: the payload of row n where the buffer is long enough for it; empty exactly if there is no row n or the buffer
-- is too short for it
pub record Looked (part : List ℕ) (t : Table) (buffer : List ℕ) (n : ℕ) : Type 0 where
  pub there : n < length (view t buffer) → end_of t n ≤ length buffer → part ≡ payload_at (view t buffer) n
  pub empty_iff : (part ≡ []) ↔ ((length (view t buffer) ≤ n) ⊎ (length buffer < end_of t n))
