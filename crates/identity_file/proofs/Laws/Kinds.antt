-- A line is exactly one of the four kinds, each exactly if its condition holds.
use Prim.Native.Nat.{ℕ, ◌<◌, ◌≤◌}
use mathlib.Core.Path.{◌≡◌, refl, sym, ap₂, ◌∙◌}
use mathlib.Core.Bool.{true, false, ◌&&◌}
use lib.Pointwise.{pointwise}
use Rattle.refusal.specs.Same.{same}
use mathlib.Core.List.{List, [], ◌∷◌}
use mathlib.Core.Logic.{◌⊎◌, inl, inr}
use lib.Dec.{ltb, eqb}
use lib.ListN.{length, take, get_or}
use native.Mathlib.Omega.{arith}
use borrow.Author.Tests.{ltb-true, ltb-false, lt-ltb, le-ltb, eqb-true, eqb-false, eq-eqb, ne_eqb}
use Rattle.refusal.proofs.Laws.Booleans.{cases}
use Rattle.refusal.proofs.Laws.Same.{same_refl, same_eq}
use Rattle.bech32.specs.Text.{identity, parse}
use Rattle.bech32.specs.Calls.{text_number}
use Rattle.identity_file.specs.Kinds.{Kind, skipped, secret_key, invalid, valid, secret_key_text, is_skipped, is_secret_key, judged, kind_of, Skipped, Unskipped, SecretKey, Judged, Invalid, Judgement}

-- `starts_with` compares the other way round
eqb_swapped : (x y : ℕ) → eqb x y ≡ eqb y x
eqb_swapped x y = cases (eqb x y) (λ e. e ∙ sym (eq-eqb y x (sym (eqb-true x y e)))) (λ e. e ∙ sym (ne_eqb y x (λ h. eqb-false x y e (sym h))))

pub same_swapped : (a b : List ℕ) → pointwise eqb b a ≡ same a b
unfolding same
same_swapped [] [] = refl
same_swapped [] (y ∷ b) = refl
same_swapped (x ∷ a) [] = refl
same_swapped (x ∷ a) (y ∷ b) = ap₂ (λ p q. p && q) (eqb_swapped y x) (same_swapped a b)

-- the four tests of a line, and what each way through them gives
by_tests : (P : Kind → Type 0) (l : List ℕ) → (1024 < length l → P (invalid 16)) → (length l ≤ 1024 → is_skipped l ≡ true → P skipped) →
    (length l ≤ 1024 → is_skipped l ≡ false → is_secret_key l ≡ true → P secret_key) → (length l ≤ 1024 → is_skipped l ≡ false → is_secret_key l ≡ false → P (judged (text_number (parse identity l)))) → P (kind_of l)
unfolding kind_of
by_tests P l long skip key rest =
    cases (ltb 1024 (length l)) (λ e. rw e (long (ltb-true 1024 (length l) e)))
    (λ e. rw e
    (let s = ltb-false 1024 (length l) e in
    cases (is_skipped l) (λ f. rw f (skip s f)) (λ f. rw f (cases (is_secret_key l) (λ g. rw g (key s f g)) (λ g. rw g (rest s f g))))))

skip_mark : (l : List ℕ) → is_skipped l ≡ true → (l ≡ []) ⊎ (get_or l 0 0 ≡ 35)
skip_mark [] h = inl refl
skip_mark (b ∷ l) h = inr (eqb-true b 35 h)

mark_skip : (l : List ℕ) → (l ≡ []) ⊎ (get_or l 0 0 ≡ 35) → is_skipped l ≡ true
mark_skip [] h = refl
mark_skip (b ∷ l) (inl e) = let z : ◌≡◌ {A = ℕ} 0 1 = cc in absurd (omega arith)
mark_skip (b ∷ l) (inr e) = eq-eqb b 35 e

-- as the code tests it
pub skip_empty : (l : List ℕ) → length l ≡ 0 → is_skipped l ≡ true
skip_empty [] h = refl
skip_empty (b ∷ l) h = absurd (omega arith)

pub skip_first : (l : List ℕ) → 0 < length l → eqb (get_or l 0 0) 35 ≡ is_skipped l
skip_first [] h = absurd (omega arith)
skip_first (b ∷ l) h = refl

unskipped : (l : List ℕ) → length l ≤ 1024 → is_skipped l ≡ false → Unskipped l
unskipped l s f = record {
  short = s;
  some = λ e. let z : true ≡ false = sym (mark_skip l (inl e)) ∙ f in let y : ◌≡◌ {A = ℕ} 0 1 = cc in omega arith;
  unmarked = λ e. let z : true ≡ false = sym (mark_skip l (inr e)) ∙ f in let y : ◌≡◌ {A = ℕ} 0 1 = cc in omega arith;
}

skip_false : (l : List ℕ) → Unskipped l → is_skipped l ≡ false
skip_false l u = cases (is_skipped l) (λ e. absurd (neither (skip_mark l e))) (λ e. e)
  where
    neither : (l ≡ []) ⊎ (get_or l 0 0 ≡ 35) → ⊥
    neither (inl e) = u.some e
    neither (inr e) = u.unmarked e

key_true : (l : List ℕ) → is_secret_key l ≡ true → take 16 l ≡ secret_key_text
key_true l e = same_eq (take 16 l) secret_key_text e

true_key : (l : List ℕ) → take 16 l ≡ secret_key_text → is_secret_key l ≡ true
true_key l e = rw e (same_refl secret_key_text)

no_key_false : (l : List ℕ) → (take 16 l ≡ secret_key_text → ⊥) → is_secret_key l ≡ false
no_key_false l n = cases (is_secret_key l) (λ e. absurd (n (key_true l e))) (λ e. e)

false_no_key : (l : List ℕ) → is_secret_key l ≡ false → take 16 l ≡ secret_key_text → ⊥
false_no_key l f e = let z : true ≡ false = sym (true_key l e) ∙ f in let y : ◌≡◌ {A = ℕ} 0 1 = cc in omega arith

-- what the kinds are by the tests
is_skipped_lem : (l : List ℕ) → Skipped l → kind_of l ≡ skipped
unfolding kind_of
is_skipped_lem l h = rw (le-ltb 1024 (length l) h.short, mark_skip l h.mark)

is_key : (l : List ℕ) → SecretKey l → kind_of l ≡ secret_key
unfolding kind_of
is_key l h = rw (le-ltb 1024 (length l) h.unskipped.short, skip_false l h.unskipped, true_key l h.key)

is_judged : (l : List ℕ) (n : ℕ) → Judged l n → kind_of l ≡ judged n
unfolding kind_of
is_judged l n h = rw (le-ltb 1024 (length l) h.unskipped.short, skip_false l h.unskipped, no_key_false l h.no_key, h.number)

is_invalid_lem : (l : List ℕ) (n : ℕ) → Invalid l n → kind_of l ≡ invalid n
unfolding kind_of
is_invalid_lem l n (inl h) = rw (lt-ltb 1024 (length l) h.0, h.1)
is_invalid_lem l n (inr h) = is_judged l n h.0 ∙ rw (ne_eqb n 0 h.1)

-- and back

-- the reader's number makes a line valid or invalid
judged_cases : {X : Type 0} (n : ℕ) (k : Kind) → judged n ≡ k → (n ≡ 0 → k ≡ valid → X) → ((n ≡ 0 → ⊥) → k ≡ invalid n → X) → X
judged_cases n k e f g = cases (eqb n 0) (λ p. f (eqb-true n 0 p) (sym (rw p at e))) (λ p. g (eqb-false n 0 p) (sym (rw p at e)))

of_skipped : (l : List ℕ) → kind_of l ≡ skipped → Skipped l
of_skipped l =
    by_tests (λ k. k ≡ skipped → Skipped l) l
    (λ h e. let z : ◌≡◌ {A = ℕ} 0 1 = cc in absurd (omega arith))
    (λ s f e. record { short = s; mark = skip_mark l f })
    (λ s f g e. let z : ◌≡◌ {A = ℕ} 0 1 = cc in absurd (omega arith))
    (λ s f g e.
    judged_cases (text_number (parse identity l)) skipped e
    (λ p q. let z : ◌≡◌ {A = ℕ} 0 1 = cc in absurd (omega arith))
    (λ p q. let z : ◌≡◌ {A = ℕ} 0 1 = cc in absurd (omega arith)))

of_key : (l : List ℕ) → kind_of l ≡ secret_key → SecretKey l
of_key l =
    by_tests (λ k. k ≡ secret_key → SecretKey l) l
    (λ h e. let z : ◌≡◌ {A = ℕ} 0 1 = cc in absurd (omega arith))
    (λ s f e. let z : ◌≡◌ {A = ℕ} 0 1 = cc in absurd (omega arith))
    (λ s f g e. record { unskipped = unskipped l s f; key = key_true l g })
    (λ s f g e.
    judged_cases (text_number (parse identity l)) secret_key e
    (λ p q. let z : ◌≡◌ {A = ℕ} 0 1 = cc in absurd (omega arith))
    (λ p q. let z : ◌≡◌ {A = ℕ} 0 1 = cc in absurd (omega arith)))

of_invalid : (l : List ℕ) (n : ℕ) → kind_of l ≡ invalid n → Invalid l n
of_invalid l n =
    by_tests (λ k. k ≡ invalid n → Invalid l n) l
    (λ h e. inl (h, (cc)))
    (λ s f e. let z : ◌≡◌ {A = ℕ} 0 1 = cc in absurd (omega arith))
    (λ s f g e. let z : ◌≡◌ {A = ℕ} 0 1 = cc in absurd (omega arith))
    (λ s f g e.
    judged_cases (text_number (parse identity l)) (invalid n) e
    (λ p q. let z : ◌≡◌ {A = ℕ} 0 1 = cc in absurd (omega arith))
    (λ p q.
    let z : n ≡ text_number (parse identity l) = cc in
    inr (record { unskipped = unskipped l s f; no_key = false_no_key l g; number = sym z }, λ y. p (sym z ∙ y))))

of_valid : (l : List ℕ) → kind_of l ≡ valid → Judged l 0
of_valid l =
    by_tests (λ k. k ≡ valid → Judged l 0) l
    (λ h e. let z : ◌≡◌ {A = ℕ} 0 1 = cc in absurd (omega arith))
    (λ s f e. let z : ◌≡◌ {A = ℕ} 0 1 = cc in absurd (omega arith))
    (λ s f g e. let z : ◌≡◌ {A = ℕ} 0 1 = cc in absurd (omega arith))
    (λ s f g e.
    judged_cases (text_number (parse identity l)) valid e
    (λ p q. record { unskipped = unskipped l s f; no_key = false_no_key l g; number = p })
    (λ p q. let z : ◌≡◌ {A = ℕ} 0 1 = cc in absurd (omega arith)))

pub judgement : (l : List ℕ) → Judgement l
judgement l = record {
  skipped_iff = (of_skipped l, is_skipped_lem l);
  key_iff = (of_key l, is_key l);
  invalid_iff = λ n. (of_invalid l n, is_invalid_lem l n);
  valid_iff = (of_valid l, is_judged l 0);
}

-- a valid line is not too long
pub valid_short : (l : List ℕ) → kind_of l ≡ valid → length l ≤ 1024
valid_short l e = (of_valid l e).unskipped.short
