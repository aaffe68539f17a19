-- The bytes that a word was read into fit the buffer.
use Prim.Native.Nat.{ℕ, ◌≤◌}
use mathlib.Core.Path.{◌≡◌, sym, ap, ◌∙◌}
use mathlib.Core.List.{List}
use Rattle.std.specs.Prelude.{Option, Some, Result, Ok}
use lib.Dec.{ltb}
use lib.ListN.{length}
use native.Mathlib.Omega.{arith}
use borrow.Author.Tests.{ltb-false}
use Rattle.refusal.specs.Output.{bytes, answered}
use Rattle.refusal.specs.declared.Refusal.{Refusal}
use Rattle.refusal.proofs.Laws.Booleans.{cases}
use Rattle.script.specs.Escape.{Meaning, word, bad, answered_by, unescaped_said}

bytes_fit : (t buffer : List ℕ) (n : ℕ) → bytes n ≡ answered t buffer → n ≤ length buffer
bytes_fit t buffer n h =
    cases (ltb (length buffer) (length t))
    (λ e. let k = rw e at h in let z : ◌≡◌ {A = ℕ} 0 1 = cc in absurd (omega arith))
    (λ e. let k = rw e at h in let z : n ≡ length t = cc in omega (arith, ltb-false))

word_fits : (m : Meaning (List ℕ)) (buffer : List ℕ) (n : ℕ) → word (bytes n) ≡ answered_by m buffer → n ≤ length buffer
word_fits (word t) buffer n h = bytes_fit t buffer n (cc)
word_fits bad buffer n h = let z : ◌≡◌ {A = ℕ} 0 1 = cc in absurd (omega arith)

pub unescaped_fits : (m : Meaning (List ℕ)) (buffer : List ℕ) (u : Option (Result ℕ Refusal)) (w : Result ℕ Refusal) (n : ℕ) → u ≡ Some w → w ≡ Ok n →
    unescaped_said u ≡ answered_by m buffer → n ≤ length buffer
unescaped_fits m buffer u w n e f h = word_fits m buffer n (sym (ap unescaped_said (e ∙ ap Some f)) ∙ h)
