-- A piece behind the bytes in use, as the code writes it; and how many digits a number has.
use Prim.Native.Nat.{ℕ, zero, suc, ◌+◌, ◌-◌, ◌*◌, ◌/◌, ◌^◌, ◌<◌, ◌≤◌}
use mathlib.Core.Path.{◌≡◌, refl, ap, ◌∙◌}
use mathlib.Core.Bool.{true, false}
use mathlib.Core.List.{List, [], ◌∷◌, ◌++◌, append-nil}
use lib.Dec.{ltb}
use lib.ListN.{length, take, drop, length-drop, drop_of_length-le}
use lib.Seq.{take_all}
use native.Mathlib.Nat.{one-le-pow, pow-le-pow_right, pow-suc, zero-lt-suc}
use native.Mathlib.Omega.{arith}
use borrow.Author.Tests.{lt-ltb, le-ltb, ltb-true, ltb-false}
use Rattle.io.specs.Digits.{IsDigitCount, last_digits}
use Rattle.refusal.specs.Output.{overflows, filled}
use Rattle.refusal.specs.Pick.{pick}
use Rattle.refusal.proofs.Laws.Booleans.{cases}
use Rattle.printing.specs.Page.{Page, page, put, places, decimal, put_word}
use Rattle.printing.specs.Rows.{put_some}

-- an empty buffer
filled_none : (p : List ℕ) → filled p [] ≡ []
filled_none [] = refl
filled_none (x ∷ p) = rw (lt-ltb 0 (length (x ∷ p)) (omega arith))

none_added : (p : List ℕ) → pick (overflows p []) 0 (length p) ≡ 0
none_added [] = refl
none_added (x ∷ p) = rw (lt-ltb 0 (length (x ∷ p)) (omega arith))

module _ (piece o : List ℕ) (n : ℕ) where
  -- the buffer and how many bytes are in use, each by itself
  put_parts : (m : ℕ) (after : List ℕ) → after ≡ take n o ++ filled piece (drop n o) → m ≡ n + pick (overflows piece (drop n o)) 0 (length piece) →
      page m after ≡ put piece (page n o)
  unfolding put
  put_parts m after e f = rw (e, f)

  -- it does not fit
  pub put_over : (after : List ℕ) → after ≡ take n o ++ filled piece (drop n o) → length o - n < length piece → page n after ≡ put piece (page n o)
  put_over after e l =
      let t : overflows piece (drop n o) ≡ true = lt-ltb (length (drop n o)) (length piece) (simp length-drop l) in
      put_parts n after e (rw t (omega arith))

  -- it fits
  pub put_whole : (m : ℕ) (after : List ℕ) → after ≡ take n o ++ filled piece (drop n o) → m ≡ n + length piece → length piece ≤ length o - n →
      page m after ≡ put piece (page n o)
  put_whole m after e f l =
      let t : overflows piece (drop n o) ≡ false = le-ltb (length (drop n o)) (length piece) (simp length-drop l) in
      put_parts m after e (rw t f)

  -- more bytes are in use than there are
  pub put_none : length o < n → page n o ≡ put piece (page n o)
  put_none h =
      let d : drop n o ≡ [] = drop_of_length-le o {i = n} (omega arith) in
      put_parts n o (rw (take_all n o (omega arith), d, filled_none piece, append-nil)) (rw (d, none_added piece) (omega arith))

-- the fewest digits that hold a number are its places
fewest_places : (most k n : ℕ) → k ≤ suc most → IsDigitCount 10 1 n k → k ≡ places most n
unfolding places
fewest_places zero k n h f = omega (arith, h, f.0)
fewest_places (suc most) zero n h f = absurd (omega (arith, f.0))
fewest_places (suc most) (suc zero) n h f = rw (lt-ltb n 10 f.1)
fewest_places (suc most) (suc (suc j)) n h f =
    let e : 10 ^ suc (suc j) ≡ 10 ^ suc j * 10 = pow-suc 10 (suc j) in
    let d : 10 ^ suc j ≡ 10 ^ j * 10 = pow-suc 10 j in
    let s : suc (suc j) - 1 ≡ suc j = omega arith in
    let q : suc j - 1 ≡ j = omega arith in
    let p : 10 ^ suc j ≤ n = rw s at (f.2 (omega arith)) in
    rw (le-ltb n 10 (omega (arith, p, d, one-le-pow j 10 (zero-lt-suc 9))))
    (ap suc (fewest_places most (suc j) (n / 10) (omega (arith, h)) (omega arith, omega (arith, e, f.1), λ _. rw q (omega (arith, p, d)))))

-- a number below 2^64 has at most 20
few_places : (n k : ℕ) → n < 18446744073709551616 → IsDigitCount 10 1 n k → k ≤ 20
few_places n k b f =
    cases (ltb 20 k)
    (λ t. let h = ltb-true 20 k t in
    let m : 100000000000000000000 ≤ 10 ^ (k - 1) = let l : 20 ≤ k - 1 = omega arith in pow-le-pow_right (zero-lt-suc 9) l in
    absurd (omega (arith, m, b, f.2 (omega arith))))
    (λ t. ltb-false 20 k t)

pub decimal_is : (n k : ℕ) (text : List ℕ) → n < 18446744073709551616 → IsDigitCount 10 1 n k → take k text ≡ last_digits 10 k n → take k text ≡ decimal n
decimal_is n k text b f e = e ∙ ap (λ j. last_digits 10 j n) (fewest_places 19 k n (few_places n k b f) f)

-- a word, unless it is empty
pub some_empty : (bytes : List ℕ) (p : Page) → length bytes ≡ 0 → p ≡ put_some bytes p
unfolding put_some
some_empty [] p h = refl
some_empty (b ∷ bytes) p h = absurd (omega (arith, h))

pub some_word : (bytes : List ℕ) (p : Page) → (length bytes ≡ 0 → ⊥) → put_word bytes p ≡ put_some bytes p
unfolding put_some
some_word [] p h = absurd (h refl)
some_word (b ∷ bytes) p h = refl
