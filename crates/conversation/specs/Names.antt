-- Which header stanza an error names (document 02, No. 2: "in error stanza f i, i counts the header stanzas of file f from 0 in the order received").
use Rattle.std.specs.Prelude.{ℕ, ◌<◌, ◌≡◌, ◌↔◌, List, length, take, get_or}
use Rattle.tables.specs.Tables.{Row}
use Rattle.conversation.specs.Kinds.{of_file}
use Rattle.conversation.specs.Allowed.{RowAt}

-- f i names the n-th of the header stanzas: its index is f, and exactly i of those before it have index f
pub record Names (rows : List Row) (f i n : ℕ) : Type 0 where
  pub file : RowAt (λ r. r.index ≡ f) rows n
  pub before : length (of_file f (take n rows)) ≡ i

-- naming is one to one
pub record NamedOnce (rows : List Row) : Type 0 where
  -- each header stanza has a pair f i that names it, and no other
  pub pair : (n : ℕ) → n < length rows → (f : ℕ) × (i : ℕ) × Names rows f i n
  pub one_pair : (f i g j n : ℕ) → Names rows f i n → Names rows g j n → (f ≡ g) × (i ≡ j)
  -- f i names one exactly if file f has more than i, and no other
  pub stanza : (f i : ℕ) → (i < length (of_file f rows)) ↔ ((n : ℕ) × Names rows f i n)
  pub one_stanza : (f i n m : ℕ) → Names rows f i n → Names rows f i m → n ≡ m
  -- it is the i-th of the file's
  pub same : (f i n : ℕ) → Names rows f i n → (d : Row) → get_or rows n d ≡ get_or (of_file f rows) i d
