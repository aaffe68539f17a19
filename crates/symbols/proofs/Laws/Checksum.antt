-- The checksum is linear, and six symbols can be chosen, in one way only, so that its final value is 1.
use Prim.Native.Nat.{ℕ, zero, suc, ◌+◌, ◌*◌, ◌/◌, ◌%◌, ◌<◌, ◌≤◌}
use mathlib.Core.Path.{◌≡◌, refl, sym, ap, ap₂, ◌∙◌}
use mathlib.Core.Bool.{true}
use mathlib.Core.List.{List, [], ◌∷◌, ◌++◌}
use lib.Bits.{bit_xor, differ, xor_zero_l, xor_zero_r, xor_self, xor_comm, xor_shr, xor_mod, xor_block, xor_shifted, xor_lt}
use lib.Dec.{eqb, ltb}
use lib.ListN.{length, get_or}
use native.Mathlib.Nat.{add-zero, div-div-eq-div-mul}
use native.Mathlib.Omega.{arith}
use borrow.Author.Tests.{ltb-true, lt-ltb}
use Rattle.refusal.specs.Run.{all}
use Rattle.refusal.proofs.Laws.Booleans.{and_true, cases}
use Rattle.symbols.specs.Checksum.{are_symbols, constants, taken, folded, stepped, polymod, six_symbols, checksum}
use Rattle.symbols.specs.Steps.{Folds}
use Rattle.symbols.proofs.Laws.Xor.{xor_assoc, xor_exchange, xor_right_comm, xor_cancel, xor_half, xor_odd}

-- ---- one step

-- what is folded in beside the constants stays beside them
folded_xor : (gs : List ℕ) (a b t : ℕ) → folded (bit_xor a b) gs t ≡ bit_xor (folded a gs t) b
unfolding folded
folded_xor [] a b t = refl
folded_xor (g ∷ gs) a b t = ap (λ x. folded x gs (t / 2)) (xor_right_comm a b (taken (t % 2) g)) ∙ folded_xor gs (bit_xor a (taken (t % 2) g)) b (t / 2)

-- no bit, no constant
folded_zero : (gs : List ℕ) (a : ℕ) → folded a gs 0 ≡ a
unfolding folded taken
folded_zero [] a = refl
folded_zero (g ∷ gs) a = ap (λ x. folded x gs 0) (xor_zero_r a) ∙ folded_zero gs a

taken_xor : (s t g : ℕ) → taken (bit_xor s t % 2) g ≡ bit_xor (taken (s % 2) g) (taken (t % 2) g)
unfolding taken
taken_xor s t g = ap (λ x. taken x g) (xor_odd s t) ∙ of_digits (s % 2) (t % 2) (omega arith) (omega arith)
  where
    of_digits : (x y : ℕ) → x < 2 → y < 2 → taken (differ x y) g ≡ bit_xor (taken x g) (taken y g)
    of_digits zero y hx hy = sym (xor_zero_l (taken y g))
    of_digits (suc zero) zero hx hy = sym (xor_zero_r g)
    of_digits (suc zero) (suc zero) hx hy = sym (xor_self g)
    of_digits (suc zero) (suc (suc y)) hx hy = absurd (omega arith)
    of_digits (suc (suc x)) y hx hy = absurd (omega arith)

folded_linear : (gs : List ℕ) (a b s t : ℕ) → folded (bit_xor a b) gs (bit_xor s t) ≡ bit_xor (folded a gs s) (folded b gs t)
unfolding folded
folded_linear [] a b s t = refl
folded_linear (g ∷ gs) a b s t =
    ap₂ (λ x y. folded x gs y) (ap (bit_xor (bit_xor a b)) (taken_xor s t g) ∙ xor_exchange a b (taken (s % 2) g) (taken (t % 2) g)) (xor_half s t)
    ∙ folded_linear gs (bit_xor a (taken (s % 2) g)) (bit_xor b (taken (t % 2) g)) (s / 2) (t / 2)

pub step_symbol : (c v : ℕ) → stepped c v ≡ bit_xor (stepped c 0) v
unfolding stepped
step_symbol c v = folded_xor constants (c % 33554432 * 32) v (c / 33554432) ∙ ap (λ x. bit_xor (folded x constants (c / 33554432)) v) (sym (xor_zero_r (c % 33554432 * 32)))

pub step_linear : (a b : ℕ) → stepped (bit_xor a b) 0 ≡ bit_xor (stepped a 0) (stepped b 0)
unfolding stepped
step_linear a b =
    ap₂ (λ x y. folded x constants y)
    (xor_zero_r (bit_xor a b % 33554432 * 32) ∙ ap (λ x. x * 32) (xor_mod a b 25) ∙ shifted (a % 33554432) (b % 33554432) ∙ ap₂ bit_xor (sym (xor_zero_r (a % 33554432 * 32))) (sym (xor_zero_r (b % 33554432 * 32))))
    (xor_shr a b 25)
    ∙ folded_linear constants (bit_xor (a % 33554432 * 32) 0) (bit_xor (b % 33554432 * 32) 0) (a / 33554432) (b / 33554432)
  where
    shifted : (x y : ℕ) → bit_xor x y * 32 ≡ bit_xor (x * 32) (y * 32)
    shifted x y =
        sym (ap₂ bit_xor (sym (add-zero (x * 32))) (sym (add-zero (y * 32))) ∙ xor_block 5 x y 0 0 (omega arith) (omega arith) ∙ ap (λ z. bit_xor x y * 32 + z) (xor_zero_l 0) ∙ add-zero (bit_xor x y * 32))

-- a small state only moves up
pub step_small : (x v : ℕ) → x < 33554432 → v < 32 → stepped x v ≡ x * 32 + v
unfolding stepped
step_small x v hx hv =
    let m : x % 33554432 ≡ x = omega arith in
    let d : x / 33554432 ≡ 0 = omega arith in
    rw (m, d, folded_zero constants (bit_xor (x * 32) v)) (xor_shifted x 5 v hv)

-- the five low bits choose
chosen_low : (a n : ℕ) → folded a constants (n % 32) ≡ folded a constants n
unfolding folded
chosen_low a n =
    let d1 : n % 32 % 2 ≡ n % 2 = omega arith in
    let h1 : n % 32 / 2 ≡ n / 2 % 16 = omega (arith, div-div-eq-div-mul n 2 16) in
    let d2 : n / 2 % 16 % 2 ≡ n / 2 % 2 = omega arith in
    let h2 : n / 2 % 16 / 2 ≡ n / 2 / 2 % 8 = omega (arith, div-div-eq-div-mul (n / 2) 2 8) in
    let d3 : n / 2 / 2 % 8 % 2 ≡ n / 2 / 2 % 2 = omega arith in
    let h3 : n / 2 / 2 % 8 / 2 ≡ n / 2 / 2 / 2 % 4 = omega (arith, div-div-eq-div-mul (n / 2 / 2) 2 4) in
    let d4 : n / 2 / 2 / 2 % 4 % 2 ≡ n / 2 / 2 / 2 % 2 = omega arith in
    let h4 : n / 2 / 2 / 2 % 4 / 2 ≡ n / 2 / 2 / 2 / 2 % 2 = omega (arith, div-div-eq-div-mul (n / 2 / 2 / 2) 2 2) in
    let d5 : n / 2 / 2 / 2 / 2 % 2 % 2 ≡ n / 2 / 2 / 2 / 2 % 2 = omega arith in
    rw (d1, h1, d2, h2, d3, h3, d4, h4, d5)

-- the step by the table of folds is the step by the constants, for every state and value
pub step_table : (t : List ℕ) → Folds t → (c v : ℕ) → bit_xor (bit_xor (c % 33554432 * 32) v) (get_or t (c / 33554432 % 32) 0) ≡ stepped c v
unfolding stepped
step_table t f c v =
    let a : ℕ = bit_xor (c % 33554432 * 32) v in
    ap (bit_xor a) (f (c / 33554432 % 32) (omega arith) ∙ chosen_low 0 (c / 33554432))
    ∙ xor_comm a (folded 0 constants (c / 33554432))
    ∙ sym (folded_xor constants 0 a (c / 33554432))
    ∙ ap (λ x. folded x constants (c / 33554432)) (xor_zero_l a)

-- ---- six symbols

pub polymod_append : (s t : List ℕ) (c : ℕ) → polymod c (s ++ t) ≡ polymod (polymod c s) t
unfolding polymod
polymod_append [] t c = refl
polymod_append (v ∷ s) t c = polymod_append s t (stepped c v)

-- symbols packed into a number, behind x
pub packed : ℕ → List ℕ → ℕ
packed x [] = x
packed x (d ∷ ds) = packed (x * 32 + d) ds

packed_le : (ds : List ℕ) (x : ℕ) → x ≤ packed x ds
unfolding packed
packed_le [] x = omega arith
packed_le (d ∷ ds) x = omega (arith, packed_le ds (x * 32 + d))

-- the first symbol's bound, and the rest of the symbols
pub symbol_lt : (d : ℕ) (t : List ℕ) → are_symbols (d ∷ t) ≡ true → (d < 32) × (are_symbols t ≡ true)
unfolding all
symbol_lt d t h = let a = and_true (ltb d 32) (are_symbols t) h in (ltb-true d 32 a.0, a.1)

-- as many zeros
pub zeros : List ℕ → List ℕ
zeros [] = []
zeros (d ∷ ds) = 0 ∷ zeros ds

-- few symbols move a state as zeros do, and come in packed
polymod_packed : (ds : List ℕ) (c x : ℕ) → are_symbols ds ≡ true → packed x ds < 1073741824 → polymod (bit_xor c x) ds ≡ bit_xor (polymod c (zeros ds)) (packed x ds)
unfolding polymod packed zeros all
polymod_packed [] c x a h = refl
polymod_packed (d ∷ ds) c x a h =
    let b = and_true (ltb d 32) (are_symbols ds) a in
    let hd = ltb-true d 32 b.0 in
    let hx : x < 33554432 = omega (arith, packed_le ds (x * 32 + d)) in
    let e : stepped (bit_xor c x) d ≡ bit_xor (stepped c 0) (x * 32 + d) =
    step_symbol (bit_xor c x) d ∙ ap (λ y. bit_xor y d) (step_linear c x) ∙ xor_assoc (stepped c 0) (stepped x 0) d ∙ ap (bit_xor (stepped c 0)) (sym (step_symbol x d) ∙ step_small x d hx hd) in
    ap (λ y. polymod y ds) e ∙ polymod_packed ds (stepped c 0) (x * 32 + d) b.1 h

pub polymod_symbols : (ds : List ℕ) (c : ℕ) → are_symbols ds ≡ true → packed 0 ds < 1073741824 → polymod c ds ≡ bit_xor (polymod c (zeros ds)) (packed 0 ds)
polymod_symbols ds c a h = ap (λ y. polymod y ds) (sym (xor_zero_r c)) ∙ polymod_packed ds c 0 a h

-- a state has 30 bits
folded_lt : (gs : List ℕ) (a t : ℕ) → all (λ g. ltb g 1073741824) gs ≡ true → a < 1073741824 → folded a gs t < 1073741824
unfolding folded all
folded_lt [] a t h l = l
folded_lt (g ∷ gs) a t h l =
    let b = and_true (ltb g 1073741824) (all (λ g. ltb g 1073741824) gs) h in
    folded_lt gs (bit_xor a (taken (t % 2) g)) (t / 2) b.1 (xor_lt 30 a (taken (t % 2) g) l (taken_lt (t % 2) g (ltb-true g 1073741824 b.0)))
  where
    taken_lt : (x g : ℕ) → g < 1073741824 → taken x g < 1073741824
    taken_lt x g l = unfold taken in cases (eqb x 1) (λ e. rw e l) (λ e. rw e (omega arith))

pub step_lt : (c v : ℕ) → v < 32 → stepped c v < 1073741824
unfolding stepped all
step_lt c v h = folded_lt constants (bit_xor (c % 33554432 * 32) v) (c / 33554432) refl (xor_lt 30 (c % 33554432 * 32) v (omega arith) (omega arith))

-- six symbols and the number that they are
packed_six : (p : ℕ) → p < 1073741824 → packed 0 (six_symbols p) ≡ p
unfolding packed
packed_six p h =
    let a : p / 32 / 32 ≡ p / 1024 = div-div-eq-div-mul p 32 32 in
    let b : p / 1024 / 32 ≡ p / 32768 = div-div-eq-div-mul p 1024 32 in
    let c : p / 32768 / 32 ≡ p / 1048576 = div-div-eq-div-mul p 32768 32 in
    let d : p / 1048576 / 32 ≡ p / 33554432 = div-div-eq-div-mul p 1048576 32 in
    let e1 : 0 * 32 + p / 33554432 % 32 ≡ p / 33554432 = omega arith in
    let e2 : p / 33554432 * 32 + p / 1048576 % 32 ≡ p / 1048576 = rw (← d) (omega arith) in
    let e3 : p / 1048576 * 32 + p / 32768 % 32 ≡ p / 32768 = rw (← c) (omega arith) in
    let e4 : p / 32768 * 32 + p / 1024 % 32 ≡ p / 1024 = rw (← b) (omega arith) in
    let e5 : p / 1024 * 32 + p / 32 % 32 ≡ p / 32 = rw (← a) (omega arith) in
    let e6 : p / 32 * 32 + p % 32 ≡ p = omega arith in
    rw (e1, e2, e3, e4, e5, e6)

-- one symbol taken off again
unpack : (x d : ℕ) → d < 32 → ((x * 32 + d) / 32 ≡ x) × ((x * 32 + d) % 32 ≡ d)
unpack x d h = (omega arith, omega arith)

pub six_lt : (p : ℕ) → are_symbols (six_symbols p) ≡ true
unfolding all
six_lt p =
    rw (lt-ltb (p / 33554432 % 32) 32 (omega arith), lt-ltb (p / 1048576 % 32) 32 (omega arith), lt-ltb (p / 32768 % 32) 32 (omega arith), lt-ltb (p / 1024 % 32) 32 (omega arith), lt-ltb (p / 32 % 32) 32 (omega arith), lt-ltb (p % 32) 32 (omega arith))

-- with its checksum a text's final value is 1
pub checksum_closes : (c : ℕ) → polymod c (checksum c) ≡ 1
unfolding polymod zeros
checksum_closes c =
    let z = polymod c (0 ∷ 0 ∷ 0 ∷ 0 ∷ 0 ∷ 0 ∷ []) in
    let h : bit_xor z 1 < 1073741824 = xor_lt 30 z 1 (step_lt _ 0 (omega arith)) (omega arith) in
    polymod_symbols (checksum c) c (six_lt (bit_xor z 1)) (rw (packed_six (bit_xor z 1) h) h) ∙ ap (bit_xor z) (packed_six (bit_xor z 1) h) ∙ xor_cancel z 1

-- and no other six symbols have it
six_packed : (a b c d e f : ℕ) → a < 32 → b < 32 → c < 32 → d < 32 → e < 32 → f < 32 →
    (packed 0 (a ∷ b ∷ c ∷ d ∷ e ∷ f ∷ []) < 1073741824) × (six_symbols (packed 0 (a ∷ b ∷ c ∷ d ∷ e ∷ f ∷ [])) ≡ a ∷ b ∷ c ∷ d ∷ e ∷ f ∷ [])
unfolding packed
six_packed a b c d e f ha hb hc hd he hf =
    let x1 : ℕ = 0 * 32 + a in
    let x2 : ℕ = x1 * 32 + b in
    let x3 : ℕ = x2 * 32 + c in
    let x4 : ℕ = x3 * 32 + d in
    let x5 : ℕ = x4 * 32 + e in
    let x6 : ℕ = x5 * 32 + f in
    let q5 : x6 / 32 ≡ x5 = (unpack x5 f hf).0 in
    let q4 : x6 / 1024 ≡ x4 = sym (div-div-eq-div-mul x6 32 32) ∙ ap (λ y. y / 32) q5 ∙ (unpack x4 e he).0 in
    let q3 : x6 / 32768 ≡ x3 = sym (div-div-eq-div-mul x6 1024 32) ∙ ap (λ y. y / 32) q4 ∙ (unpack x3 d hd).0 in
    let q2 : x6 / 1048576 ≡ x2 = sym (div-div-eq-div-mul x6 32768 32) ∙ ap (λ y. y / 32) q3 ∙ (unpack x2 c hc).0 in
    let q1 : x6 / 33554432 ≡ x1 = sym (div-div-eq-div-mul x6 1048576 32) ∙ ap (λ y. y / 32) q2 ∙ (unpack x1 b hb).0 in
    let l : x1 < 32 = omega arith in (
      omega arith,
      rows (ap (λ y. y % 32) q1 ∙ omega arith) (ap (λ y. y % 32) q2 ∙ (unpack x1 b hb).1) (ap (λ y. y % 32) q3 ∙ (unpack x2 c hc).1) (ap (λ y. y % 32) q4 ∙ (unpack x3 d hd).1) (ap (λ y. y % 32) q5 ∙ (unpack x4 e he).1) (unpack x5 f hf).1,
    )
  where
    rows : {a b c d e f a' b' c' d' e' f' : ℕ} → a ≡ a' → b ≡ b' → c ≡ c' → d ≡ d' → e ≡ e' → f ≡ f' → ◌≡◌ {A = List ℕ} (a ∷ b ∷ c ∷ d ∷ e ∷ f ∷ []) (a' ∷ b' ∷ c' ∷ d' ∷ e' ∷ f' ∷ [])
    rows p q r s t u = cc

pub checksum_unique : (c : ℕ) (ds : List ℕ) → are_symbols ds ≡ true → length ds ≡ 6 → polymod c ds ≡ 1 → ds ≡ checksum c
unfolding zeros
checksum_unique c [] a l h = absurd (omega arith)
checksum_unique c (d1 ∷ []) a l h = absurd (omega arith)
checksum_unique c (d1 ∷ d2 ∷ []) a l h = absurd (omega arith)
checksum_unique c (d1 ∷ d2 ∷ d3 ∷ []) a l h = absurd (omega arith)
checksum_unique c (d1 ∷ d2 ∷ d3 ∷ d4 ∷ []) a l h = absurd (omega arith)
checksum_unique c (d1 ∷ d2 ∷ d3 ∷ d4 ∷ d5 ∷ []) a l h = absurd (omega arith)
checksum_unique c (d1 ∷ d2 ∷ d3 ∷ d4 ∷ d5 ∷ d6 ∷ x ∷ t) a l h = absurd (omega arith)
checksum_unique c (d1 ∷ d2 ∷ d3 ∷ d4 ∷ d5 ∷ d6 ∷ []) a l h =
    let ds : List ℕ = d1 ∷ d2 ∷ d3 ∷ d4 ∷ d5 ∷ d6 ∷ [] in
    let z = polymod c (0 ∷ 0 ∷ 0 ∷ 0 ∷ 0 ∷ 0 ∷ []) in
    let h1 = symbol_lt d1 (d2 ∷ d3 ∷ d4 ∷ d5 ∷ d6 ∷ []) a in
    let h2 = symbol_lt d2 (d3 ∷ d4 ∷ d5 ∷ d6 ∷ []) h1.1 in
    let h3 = symbol_lt d3 (d4 ∷ d5 ∷ d6 ∷ []) h2.1 in
    let h4 = symbol_lt d4 (d5 ∷ d6 ∷ []) h3.1 in
    let h5 = symbol_lt d5 (d6 ∷ []) h4.1 in
    let h6 = symbol_lt d6 [] h5.1 in
    let s = six_packed d1 d2 d3 d4 d5 d6 h1.0 h2.0 h3.0 h4.0 h5.0 h6.0 in
    let e : bit_xor z (packed 0 ds) ≡ 1 = sym (polymod_symbols ds c a s.0) ∙ h in
    let q : packed 0 ds ≡ bit_xor z 1 = sym (xor_cancel z (packed 0 ds)) ∙ ap (bit_xor z) e in
    sym s.1 ∙ ap six_symbols q
