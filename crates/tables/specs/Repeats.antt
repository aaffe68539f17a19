-- A text that an entry already shows (document 02, No. 7: "Texts are compared as the lent room shows them").
use Rattle.std.specs.Prelude.{ℕ, ◌+◌, Bool, false, ◌&&◌, ◌||◌, List, [], ◌∷◌, leb, length, take, drop}
use Rattle.refusal.specs.Same.{same}
use Rattle.tables.specs.declared.slots.Entry.{Entry}
use Rattle.tables.specs.Tables.{Table}

-- an entry shows a text: the buffer is long enough for it, and its part of the buffer is the text, byte for byte
abbrev pub shows : Entry → List ℕ → List ℕ → Bool
shows e buffer text = leb (e.start + e.length) (length buffer) && same (take e.length (drop e.start buffer)) text

-- one of these entries does
unfoldable pub any_shows : List Entry → List ℕ → List ℕ → Bool
any_shows [] buffer text = false
any_shows (e ∷ es) buffer text = shows e buffer text || any_shows es buffer text

-- an entry of the table does
abbrev pub repeats : Table → List ℕ → List ℕ → Bool
repeats t buffer text = any_shows (take t.count t.slots) buffer text
