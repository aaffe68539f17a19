-- Writing: the first line, and the whole text, piece by piece behind each other.
use Prim.Native.Nat.{ℕ, ◌+◌, ◌-◌, ◌<◌, ◌≤◌}
use mathlib.Core.Path.{◌≡◌, refl, sym, ap, ◌∙◌}
use mathlib.Core.List.{List, [], ◌∷◌, ◌++◌}
use lib.ListN.{length, take, drop, set, get_or, length-append, length-drop}
use lib.Seq.{get_or_at}
use native.Mathlib.Omega.{arith}
use borrow.Author.Tests.{le-ltb, lt-leb}
use mathlib.Core.Bool.{Bool, true, false, ◌&&◌}
use Rattle.refusal.specs.Pick.{pick}
use Rattle.refusal.specs.Output.{bytes, refused, filled, WritingJudged}
use Rattle.refusal.proofs.Laws.Booleans.{and_false_right}
use Rattle.refusal.proofs.Laws.Output.{test_judged}
use Rattle.refusal.proofs.Laws.Lists.{part_rest, put_rest, overwrite_part, front_part, front_store, front_whole}
use Rattle.strict_base64.specs.Lines.{lines_of}
use Rattle.stanza.specs.Arguments.{is_line}
use Rattle.stanza.specs.Grammar.{first_line, stanza_text}
use Rattle.stanza.specs.Writing.{is_writable, sized, written, buffer_after}

pub first_length : (l : List ℕ) → length (first_line l) ≡ length l + 4
first_length l = simp length-append (omega arith)

pub text_length : (l b : List ℕ) → length (stanza_text l b) ≡ length l + 4 + length (lines_of b)
text_length l b = length-append (first_line l) (lines_of b) ∙ rw (first_length l)

-- the arguments, copied to the part behind "-> ", and LF
pub line_done : (l o₀ o part : List ℕ) → length l + 4 ≤ length o₀ → o ≡ (45 ∷ 62 ∷ 32 ∷ []) ++ drop 3 o₀ →
    part ≡ l ++ drop (length l) (take (length o - 3) (drop 3 o)) →
    set (take 3 o ++ (part ++ drop (length o - 3) (drop 3 o))) (length l + 3) 10 ≡ first_line l ++ drop (length l + 4) o₀
line_done l o₀ o part h e p =
    let w : List ℕ = first_line l in
    let n = first_length l in
    let f : take 3 o ++ (part ++ drop (length o - 3) (drop 3 o)) ≡ take (3 + length l) w ++ drop (3 + length l) o₀ =
    put_rest 3 o part ∙ rw (p, part_rest 3 o) (front_part w o o₀ l (10 ∷ []) 3 e refl (omega arith)) in
    let k : length l + 3 ≡ 3 + length l = omega arith in
    let x : get_or w (3 + length l) 0 ≡ 10 = get_or_at (45 ∷ 62 ∷ 32 ∷ l) 10 [] 0 (3 + length l) (omega arith) in
    rw k (ap (set (take 3 o ++ (part ++ drop (length o - 3) (drop 3 o))) (3 + length l)) (sym x) ∙ front_store w (take 3 o ++ (part ++ drop (length o - 3) (drop 3 o))) o₀ (3 + length l) 0 f (omega arith) (omega arith))
    ∙ front_end w o₀ (3 + length l + 1) (length l + 4) (omega arith) (omega arith)
  where
    front_end : (w o₀ : List ℕ) (k m : ℕ) → k ≡ m → m ≡ length w → take k w ++ drop k o₀ ≡ w ++ drop m o₀
    front_end w o₀ k m p q = front_whole w (take k w ++ drop k o₀) o₀ k refl (p ∙ q) ∙ rw (← q)

-- the body's lines, written to the part behind the first line
pub text_done : (l b o o₀ part : List ℕ) → length (stanza_text l b) ≤ length o₀ → o ≡ first_line l ++ drop (length l + 4) o₀ →
    part ≡ filled (lines_of b) (take (length o - (length l + 4)) (drop (length l + 4) o)) →
    take (length l + 4) o ++ (part ++ drop (length o - (length l + 4)) (drop (length l + 4) o)) ≡ stanza_text l b ++ drop (length (stanza_text l b)) o₀
text_done l b o o₀ part h e p =
    let k = length l + 4 in
    let n : length o ≡ length o₀ = ap length e ∙ simp (length-append (first_line l), first_length l, length-drop) (omega (arith, text_length l b)) in
    let f : length (lines_of b) ≤ length (drop k o) = simp length-drop (omega (arith, text_length l b)) in
    put_rest k o part ∙ rw (p, part_rest k o, le-ltb (length (drop k o)) (length (lines_of b)) f) (overwrite_part o o₀ (first_line l) (lines_of b) k e (first_length l))

-- ---- by the size that was worked out first

bytes_only : (w : Bool) (n m : ℕ) → bytes n ≡ pick w (bytes m) (refused 17) → (w ≡ true) × (n ≡ m)
bytes_only true n m e = (refl, cc)
bytes_only false n m e = let z : ◌≡◌ {A = ℕ} 0 1 = cc in absurd (omega arith)

refused_only : (w : Bool) (r m : ℕ) → refused r ≡ pick w (bytes m) (refused 17) → (w ≡ false) × (r ≡ 17)
refused_only true r m e = let z : ◌≡◌ {A = ℕ} 0 1 = cc in absurd (omega arith)
refused_only false r m e = (refl, cc)

-- no line of more than 8,192 bytes
pub line_over : (l b : List ℕ) → 8192 < length l → is_writable l b ≡ false
line_over l b h = ap (λ f. is_line l && f) (lt-leb (length (stanza_text l b)) 8192 (omega (arith, text_length l b))) ∙ and_false_right (is_line l)

pub size_none : (l b : List ℕ) (r : ℕ) → refused r ≡ sized l b → (is_writable l b ≡ false) × (r ≡ 17)
size_none l b r e = refused_only (is_writable l b) r (length (stanza_text l b)) e

module _ (l b o : List ℕ) where
  pub size_bytes : (n : ℕ) → bytes n ≡ sized l b → (is_writable l b ≡ true) × (n ≡ length (stanza_text l b))
  size_bytes n e = bytes_only (is_writable l b) n (length (stanza_text l b)) e

-- 17 exactly where the text can't be written, then 15, and nothing is written then
pub written_judged : (l b buffer : List ℕ) → WritingJudged 17 (is_writable l b ≡ false) (stanza_text l b) buffer (written l b buffer) (buffer_after l b buffer)
written_judged l b buffer = test_judged 17 (stanza_text l b) buffer (λ e. omega arith) (is_writable l b)
