-- Slots: arrays of four numbers each, lent beside the buffers. A kind has its own among them.
use Rattle.std.specs.Prelude.{ℕ, ◌+◌, Bool, ◌||◌, List, map, leb, take, drop, get_or}
use Rattle.tables.specs.declared.slots.Entry.{Entry}
use Rattle.tables.specs.declared.slots.Span.{Span}

-- the entry of four numbers
abbrev pub entry_of : List ℕ → Entry
entry_of w = record { start = get_or w 0 0; length = get_or w 1 0; index = get_or w 2 0; mark = get_or w 3 0 }

-- the slots of a span
abbrev pub slots_of : Span → List (List ℕ) → List Entry
slots_of h xs = map entry_of (take h.width (drop h.first xs))

-- two spans have no slot in common
abbrev pub are_apart : Span → Span → Bool
are_apart h k = leb (h.first + h.width) k.first || leb (k.first + k.width) h.first
