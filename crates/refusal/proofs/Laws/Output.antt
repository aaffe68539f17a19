-- What was written to a buffer, by the answer.
use Prim.Native.Nat.{ℕ, ◌<◌, ◌≤◌}
use mathlib.Core.Path.{◌≡◌, refl, sym, ap, ◌∙◌}
use mathlib.Core.Bool.{Bool, true, false, false≢true}
use mathlib.Core.List.{List, ◌++◌}
use mathlib.Core.Logic.{◌↔◌}
use lib.Dec.{ltb}
use lib.ListN.{length, take, drop}
use lib.Seq.{take-append_seam}
use native.Mathlib.Omega.{arith}
use borrow.Author.Tests.{lt-ltb, ltb-true, ltb-false}
use Rattle.refusal.specs.Output.{bytes, refused, answered, filled, WritingJudged}
use Rattle.refusal.specs.Pick.{pick}

pub whole : (f : Bool) (n m : ℕ) → bytes n ≡ pick f (refused 15) (bytes m) → (f ≡ false) × (n ≡ m)
whole true n m e = let z : ◌≡◌ {A = ℕ} 0 1 = cc in absurd (omega arith)
whole false n m e = (refl, cc)

over : (f : Bool) (r m : ℕ) → refused r ≡ pick f (refused 15) (bytes m) → f ≡ true
over true r m e = refl
over false r m e = let z : ◌≡◌ {A = ℕ} 0 1 = cc in absurd (omega arith)

module _ (content buffer : List ℕ) where
  -- all of it stands at the front
  pub record Front (n : ℕ) (after : List ℕ) : Type 0 where
    pub size : n ≡ length content
    pub fits : length content ≤ length buffer
    pub front : take n after ≡ content

  pub written_front : (n : ℕ) (after : List ℕ) → bytes n ≡ answered content buffer → after ≡ filled content buffer → Front n after
  written_front n after e q =
      let w = whole (ltb (length buffer) (length content)) n (length content) e in
      let s : after ≡ content ++ drop (length content) buffer = q ∙ ap (λ f. pick f buffer (content ++ drop (length content) buffer)) w.0 in
      record { size = w.1; fits = ltb-false (length buffer) (length content) w.0; front = rw (w.1, s) (take-append_seam content (drop (length content) buffer)) }

  -- or it is longer than the buffer
  pub refused_over : (r : ℕ) → refused r ≡ answered content buffer → length buffer < length content
  refused_over r e = ltb-true (length buffer) (length content) (over (ltb (length buffer) (length content)) r (length content) e)

-- 15 exactly where the content is longer than the buffer, which then stays
pub short_iff : (content buffer : List ℕ) → (answered content buffer ≡ refused 15) ↔ (length buffer < length content)
short_iff content buffer = (λ e. refused_over content buffer 15 (sym e), λ l. rw (lt-ltb (length buffer) (length content) l))

pub short_kept : (content buffer : List ℕ) (n : ℕ) → answered content buffer ≡ refused n → filled content buffer ≡ buffer
short_kept content buffer n e = rw (lt-ltb (length buffer) (length content) (refused_over content buffer n (sym e)))

-- a call that is refused with a number exactly where a test fails; with no other than 15 behind it
module _ (number : ℕ) (content buffer : List ℕ) (other : number ≡ 15 → ⊥) (IsBad : Type 0) where
  bad_judged : IsBad → WritingJudged number IsBad content buffer (refused number) buffer
  bad_judged b = record {
    bad = (λ _. b, λ _. refl);
    short = (λ e. let z : number ≡ 15 = cc in absurd (other z), λ w. absurd (w.0 b));
    whole = λ n. (λ e. let z : ◌≡◌ {A = ℕ} 0 1 = cc in absurd (omega arith), λ w. absurd (w.0 b));
    kept = λ n e. refl;
    front = λ n e. let z : ◌≡◌ {A = ℕ} 0 1 = cc in absurd (omega arith);
  }

  good_judged : (IsBad → ⊥) → (over : Bool) → ltb (length buffer) (length content) ≡ over →
      WritingJudged number IsBad content buffer (pick over (refused 15) (bytes (length content))) (pick over buffer (content ++ drop (length content) buffer))
  good_judged g true o =
      let l = ltb-true (length buffer) (length content) o in
      record {
        bad = (λ e. let z : 15 ≡ number = cc in absurd (other (sym z)), λ b. absurd (g b));
        short = (λ e. (g, l), λ w. refl);
        whole = λ n. (λ e. let z : ◌≡◌ {A = ℕ} 0 1 = cc in absurd (omega arith), λ w. absurd (omega (arith, w.1)));
        kept = λ n e. refl;
        front = λ n e. let z : ◌≡◌ {A = ℕ} 0 1 = cc in absurd (omega arith);
      }
  good_judged g false o =
      let l = ltb-false (length buffer) (length content) o in
      record {
        bad = (λ e. let z : ◌≡◌ {A = ℕ} 0 1 = cc in absurd (omega arith), λ b. absurd (g b));
        short = (λ e. let z : ◌≡◌ {A = ℕ} 0 1 = cc in absurd (omega arith), λ w. absurd (omega (arith, w.1)));
        whole = λ n. (λ e. (g, l, cc), λ w. ap bytes (sym w.2));
        kept = λ n e. let z : ◌≡◌ {A = ℕ} 0 1 = cc in absurd (omega arith);
        front = λ n e. refl;
      }

  pub judged : (good : Bool) → (good ≡ true → IsBad → ⊥) → (good ≡ false → IsBad) →
      WritingJudged number IsBad content buffer (pick good (answered content buffer) (refused number)) (pick good (filled content buffer) buffer)
  judged true g b = good_judged (g refl) (ltb (length buffer) (length content)) refl
  judged false g b = bad_judged (b refl)

-- where it is bad exactly if a test fails
pub test_judged : (number : ℕ) (content buffer : List ℕ) → (number ≡ 15 → ⊥) → (good : Bool) →
    WritingJudged number (good ≡ false) content buffer (pick good (answered content buffer) (refused number)) (pick good (filled content buffer) buffer)
test_judged number content buffer other good = judged number content buffer other (good ≡ false) good (λ t f. false≢true (sym f ∙ t)) (λ f. f)
