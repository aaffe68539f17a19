-- A call that writes to a lent buffer (the paper's output room): what it answers, and what the buffer then holds.
use Rattle.std.specs.Prelude.{ℕ, ◌<◌, ◌≤◌, ◌≡◌, List, ◌++◌, ◌↔◌, Bool, ltb, length, drop, Result, Ok, Err}
use Rattle.refusal.specs.Number.{number_of}
use Rattle.refusal.specs.Pick.{pick}
use Rattle.refusal.specs.declared.Refusal.{Refusal}

-- how many bytes were written, or the paper's number
pub data Answer : Type 0 where
  bytes : ℕ → Answer
  refused : ℕ → Answer

-- what the code's answer stands for
abbrev pub said : Result ℕ Refusal → Answer
said (Ok n) = bytes n
said (Err r) = refused (number_of r)

-- the content is longer than the buffer
abbrev pub overflows : List ℕ → List ℕ → Bool
overflows content buffer = ltb (length buffer) (length content)

-- No. 15, output longer than the lent buffer; else all of the content is written
abbrev pub answered : List ℕ → List ℕ → Answer
answered content buffer = pick (overflows content buffer) (refused 15) (bytes (length content))

-- the buffer afterwards: the content at its front, or as it was where the content does not fit
abbrev pub filled : List ℕ → List ℕ → List ℕ
filled content buffer = pick (overflows content buffer) buffer (content ++ drop (length content) buffer)

-- "Outside a session: .. 16 or 17, then 15": `number` exactly where the call is bad; else 15 exactly where the content is longer than the buffer; else all of it is
-- written. "A refusal writes nothing"; else the content stands at the buffer's front
pub record WritingJudged (number : ℕ) (IsBad : Type 0) (content buffer : List ℕ) (answer : Answer) (after : List ℕ) : Type 0 where
  pub bad : (answer ≡ refused number) ↔ IsBad
  pub short : (answer ≡ refused 15) ↔ ((IsBad → ⊥) × (length buffer < length content))
  pub whole : (n : ℕ) → (answer ≡ bytes n) ↔ ((IsBad → ⊥) × (length content ≤ length buffer) × (n ≡ length content))
  pub kept : (n : ℕ) → answer ≡ refused n → after ≡ buffer
  pub front : (n : ℕ) → answer ≡ bytes n → after ≡ content ++ drop (length content) buffer
