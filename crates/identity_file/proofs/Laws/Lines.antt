-- The lines partition a text; and a text's lines, one at a time.
use Prim.Native.Nat.{ℕ, suc, ◌+◌, ◌-◌, ◌<◌, ◌≤◌}
use mathlib.Core.Path.{◌≡◌, refl, sym, ap, ap₂, ◌∙◌}
use mathlib.Core.Bool.{Bool, true, false}
use mathlib.Core.List.{List, [], ◌∷◌, ◌++◌}
use lib.Dec.{eqb, ltb}
use lib.ListN.{length, take, drop, length-drop, drop_of_length-le}
use lib.Seq.{drop-drop, drop-length}
use native.Mathlib.Omega.{arith}
use borrow.Author.Tests.{eqb-true, ltb-true, ltb-false, lt-ltb, le-ltb}
use Rattle.refusal.specs.Pick.{pick}
use Rattle.refusal.specs.Run.{all, run}
use Rattle.refusal.proofs.Laws.Booleans.{cases}
use Rattle.refusal.proofs.Laws.Run.{run_le}
use Rattle.stanza.specs.Arguments.{before}
use Rattle.identity_file.specs.Lines.{lines, is_line_byte, is_ended, ended, text_of_lines, are_lines, Partition}
use Rattle.identity_file.specs.Steps.{line_end, next_line}

-- ---- the lines partition the text

-- a byte before the first line of some lines, of which there is one
text_before : (b : ℕ) (ls : List (List ℕ)) (c : ℕ) (t : List ℕ) → text_of_lines ls ≡ c ∷ t → text_of_lines (before b ls) ≡ b ∷ c ∷ t
unfolding text_of_lines before
text_before b [] c t h = let z : ◌≡◌ {A = ℕ} 0 1 = cc in absurd (omega arith)
text_before b (l ∷ ls) c t h = ap (λ x. b ∷ x) h

apart_before : (b : ℕ) (ls : List (List ℕ)) → eqb b 10 ≡ false → are_lines ls → are_lines (before b ls)
unfolding are_lines before all
apart_before b [] e h = (rw e, tt)
apart_before b (l ∷ ls) e h = (rw e h.0, h.1)

-- a byte before a text, behind whose lines there is an LF or is none
text_more : (b c : ℕ) (t : List ℕ) (f : Bool) → text_of_lines (lines (c ∷ t)) ≡ pick f (c ∷ t) (c ∷ t ++ 10 ∷ []) →
    (b ≡ 10 → 10 ∷ text_of_lines (lines (c ∷ t)) ≡ pick f (b ∷ c ∷ t) (b ∷ c ∷ t ++ 10 ∷ [])) × (text_of_lines (before b (lines (c ∷ t))) ≡ pick f (b ∷ c ∷ t) (b ∷ c ∷ t ++ 10 ∷ []))
text_more b c t true h = (λ e. ap₂ (λ x y. x ∷ y) (sym e) h, text_before b (lines (c ∷ t)) c t h)
text_more b c t false h = (λ e. ap₂ (λ x y. x ∷ y) (sym e) h, text_before b (lines (c ∷ t)) c (t ++ 10 ∷ []) h)

text_lines : (t : List ℕ) → text_of_lines (lines t) ≡ ended t
unfolding text_of_lines lines is_ended before
text_lines [] = refl
text_lines (b ∷ []) = cases (eqb b 10) (λ e. rw e (ap (λ x. x ∷ []) (sym (eqb-true b 10 e)))) (λ e. rw e)
text_lines (b ∷ c ∷ t) =
    let m = text_more b c t (is_ended (c ∷ t)) (text_lines (c ∷ t)) in
    cases (eqb b 10) (λ e. rw e (m.0 (eqb-true b 10 e))) (λ e. rw e m.1)

apart_lines : (t : List ℕ) → are_lines (lines t)
unfolding lines are_lines all
apart_lines [] = tt
apart_lines (b ∷ t) = cases (eqb b 10) (λ e. rw e (refl, apart_lines t)) (λ e. rw e (apart_before b (lines t) e (apart_lines t)))

pub partition : (t : List ℕ) → Partition t (lines t)
partition t = record { whole = text_lines t; apart = apart_lines t }

-- ---- one line at a time

-- the first line of a text
first_line_same : (u : List ℕ) → 0 < length u → lines u ≡ take (run is_line_byte u) u ∷ lines (drop (suc (run is_line_byte u)) u)
unfolding lines run before
first_line_same [] h = absurd (omega arith)
first_line_same (b ∷ []) h = cases (eqb b 10) (λ e. rw e) (λ e. rw e)
first_line_same (b ∷ c ∷ t) h = cases (eqb b 10) (λ e. rw e) (λ e. rw (e, first_line_same (c ∷ t) (omega arith)))

-- where the line that begins at a ends, and the next begins
pub end_le : (t : List ℕ) (a : ℕ) → a ≤ length t → line_end t a ≤ length t
end_le t a h = omega (arith, run_le is_line_byte (drop a t), length-drop a t)

pub next_is : (t : List ℕ) (e : ℕ) → e < length t → next_line t e ≡ e + 1
next_is t e h = rw (lt-ltb e (length t) h)

pub next_end : (t : List ℕ) (e : ℕ) → length t ≤ e → next_line t e ≡ length t
next_end t e h = rw (le-ltb e (length t) h)

-- the first line of the rest of a text from a on
pub lines_at : (t : List ℕ) (a : ℕ) → a < length t → lines (drop a t) ≡ take (line_end t a - a) (drop a t) ∷ lines (drop (next_line t (line_end t a)) t)
lines_at t a h =
    let u : List ℕ = drop a t in
    let r : ℕ = run is_line_byte u in
    let d : a + r - a ≡ r = omega arith in
    let g : drop (suc r) u ≡ drop (a + suc r) t = drop-drop (suc r) a t in
    first_line_same u (simp length-drop (omega arith))
    ∙ ap₂ (λ n x. take n u ∷ lines x) (sym d) (g ∙ rest r)
  where
    rest : (r : ℕ) → drop (a + suc r) t ≡ drop (next_line t (a + r)) t
    rest r =
        cases (ltb (a + r) (length t))
        (λ e. ap (λ k. drop k t) (let q : a + suc r ≡ a + r + 1 = omega arith in q ∙ sym (next_is t (a + r) (ltb-true (a + r) (length t) e))))
        (λ e.
        let l = ltb-false (a + r) (length t) e in
        let m : length t ≤ a + suc r = omega arith in
        drop_of_length-le t m ∙ sym (ap (λ k. drop k t) (next_end t (a + r) l) ∙ drop-length t))
