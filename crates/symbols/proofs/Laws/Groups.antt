-- Bits regrouped group by group: eight symbols or five bytes at a time, and then what is left.
use Prim.Native.Nat.{ℕ, zero, suc, ◌+◌, ◌-◌, ◌*◌, ◌/◌, ◌%◌, ◌<◌, ◌≤◌}
use mathlib.Core.Path.{◌≡◌, refl, sym, ap, ap₂, ◌∙◌}
use mathlib.Core.Bool.{true}
use mathlib.Core.List.{List, [], ◌∷◌, ◌++◌, map, map-append}
use lib.ListN.{length, replicate, take, drop, get_or, length-map, length-take, length-drop, drop_of_length-le}
use lib.Seq.{drop-cons, drop-drop, take-add, take_all, length-take-le}
use native.Mathlib.Nat.{add-zero, add-mul-mod_self_left}
use native.Mathlib.Omega.{arith}
use Rattle.std.specs.Simd.{first_chunks}
use Rattle.refusal.proofs.Laws.Below.{tabulate}
use Rattle.refusal.proofs.Laws.Lists.{part_rest, put_rest, overwrite_part}
use Rattle.symbols.specs.Checksum.{are_symbols}
use Rattle.symbols.specs.Regroup.{symbols, bytes, is_whole}
use Rattle.symbols.specs.Calls.{bytes_size, symbols_size}
use Rattle.symbols.specs.Steps.{is_clear}
use Rattle.symbols.proofs.Laws.Maps.{map_at}
use Rattle.symbols.proofs.Laws.Checksum.{symbol_lt as symbol}

-- characters whose values are all symbols have them as their symbols
pub symbols_same : (f : ℕ → ℕ) (t : List ℕ) → are_symbols (map f t) ≡ true → map (λ b. f b % 32) t ≡ map f t
symbols_same f [] a = refl
symbols_same f (b ∷ t) a =
    let s = symbol (f b) (map f t) a in
    let h = s.0 in
    let e : f b % 32 ≡ f b = omega arith in
    ap₂ (λ x l. x ∷ l) e (symbols_same f t s.1)

-- ---- lengths, and whole groups

-- how many bytes some symbols make, and how many symbols some bytes
pub bytes_length : (l : List ℕ) → length (bytes l) ≡ bytes_size (length l)
unfolding bytes
bytes_length [] = refl
bytes_length (p ∷ []) = refl
bytes_length (p ∷ q ∷ []) = refl
bytes_length (p ∷ q ∷ r ∷ []) = refl
bytes_length (p ∷ q ∷ r ∷ s ∷ []) = refl
bytes_length (p ∷ q ∷ r ∷ s ∷ t ∷ []) = refl
bytes_length (p ∷ q ∷ r ∷ s ∷ t ∷ u ∷ []) = refl
bytes_length (p ∷ q ∷ r ∷ s ∷ t ∷ u ∷ v ∷ []) = refl
bytes_length (p ∷ q ∷ r ∷ s ∷ t ∷ u ∷ v ∷ w ∷ l) = omega (arith, bytes_length l)

pub symbols_length : (t : List ℕ) → length (symbols t) ≡ symbols_size (length t)
unfolding symbols
symbols_length [] = refl
symbols_length (a ∷ []) = refl
symbols_length (a ∷ b ∷ []) = refl
symbols_length (a ∷ b ∷ c ∷ []) = refl
symbols_length (a ∷ b ∷ c ∷ d ∷ []) = refl
symbols_length (a ∷ b ∷ c ∷ d ∷ e ∷ t) = omega (arith, symbols_length t)

-- whole groups, and something behind them
pub bytes_append : (n : ℕ) (s t : List ℕ) → length s ≡ 8 * n → bytes (s ++ t) ≡ bytes s ++ bytes t
unfolding bytes
bytes_append n [] t h = refl
bytes_append n (p ∷ []) t h = absurd (omega arith)
bytes_append n (p ∷ q ∷ []) t h = absurd (omega arith)
bytes_append n (p ∷ q ∷ r ∷ []) t h = absurd (omega arith)
bytes_append n (p ∷ q ∷ r ∷ s ∷ []) t h = absurd (omega arith)
bytes_append n (p ∷ q ∷ r ∷ s ∷ x ∷ []) t h = absurd (omega arith)
bytes_append n (p ∷ q ∷ r ∷ s ∷ x ∷ u ∷ []) t h = absurd (omega arith)
bytes_append n (p ∷ q ∷ r ∷ s ∷ x ∷ u ∷ v ∷ []) t h = absurd (omega arith)
bytes_append n (p ∷ q ∷ r ∷ s ∷ x ∷ u ∷ v ∷ w ∷ l) t h = rw (bytes_append (n - 1) l t (omega arith))

pub symbols_append : (n : ℕ) (s t : List ℕ) → length s ≡ 5 * n → symbols (s ++ t) ≡ symbols s ++ symbols t
unfolding symbols
symbols_append n [] t h = refl
symbols_append n (a ∷ []) t h = absurd (omega arith)
symbols_append n (a ∷ b ∷ []) t h = absurd (omega arith)
symbols_append n (a ∷ b ∷ c ∷ []) t h = absurd (omega arith)
symbols_append n (a ∷ b ∷ c ∷ d ∷ []) t h = absurd (omega arith)
symbols_append n (a ∷ b ∷ c ∷ d ∷ e ∷ s) t h = rw (symbols_append (n - 1) s t (omega arith))

-- the bytes of fewer than eight symbols are the first of a group that they begin, and the symbols of fewer than five bytes those of one with zeros behind
pub bytes_front : (f : ℕ → ℕ) (t : List ℕ) → length t < 8 →
    take (bytes_size (length t)) (bytes (map f (t ++ drop (length t) (replicate 8 0)))) ≡ bytes (map f t)
unfolding bytes
bytes_front f [] h = refl
bytes_front f (p ∷ []) h = refl
bytes_front f (p ∷ q ∷ []) h = refl
bytes_front f (p ∷ q ∷ r ∷ []) h = refl
bytes_front f (p ∷ q ∷ r ∷ s ∷ []) h = refl
bytes_front f (p ∷ q ∷ r ∷ s ∷ t ∷ []) h = refl
bytes_front f (p ∷ q ∷ r ∷ s ∷ t ∷ u ∷ []) h = refl
bytes_front f (p ∷ q ∷ r ∷ s ∷ t ∷ u ∷ v ∷ []) h = refl
bytes_front f (p ∷ q ∷ r ∷ s ∷ t ∷ u ∷ v ∷ w ∷ l) h = absurd (omega arith)

pub symbols_front : (t : List ℕ) → length t < 5 → take (symbols_size (length t)) (symbols (t ++ drop (length t) (replicate 5 0))) ≡ symbols t
unfolding symbols
symbols_front [] h = refl
symbols_front (a ∷ []) h = rw add-zero
symbols_front (a ∷ b ∷ []) h = rw add-zero
symbols_front (a ∷ b ∷ c ∷ []) h = rw add-zero
symbols_front (a ∷ b ∷ c ∷ d ∷ []) h = rw add-zero
symbols_front (a ∷ b ∷ c ∷ d ∷ e ∷ t) h = absurd (omega arith)

-- the group at i of a list that is cut into groups of g
pub group_at : (g k i : ℕ) (t d : List ℕ) → i < k → get_or (first_chunks g k t) i d ≡ take g (drop (g * i) t)
group_at g zero i t d h = absurd (omega arith)
group_at g (suc k) zero t d h = let z : g * 0 ≡ 0 = omega arith in rw z
group_at g (suc k) (suc i) t d h = group_at g k i (drop g t) d (omega arith) ∙ rw drop-drop (ap (λ n. take g (drop n t)) (omega arith))

-- ---- lists by their elements

-- the rest of a list from i on, element by element
elements : (n i : ℕ) (t : List ℕ) → length t ≡ i + n → drop i t ≡ tabulate (λ k. get_or t k 0) i n
elements zero i t h = drop_of_length-le t {i = i} (omega arith)
elements (suc n) i t h = drop-cons t i 0 (omega arith) ∙ ap (λ l. get_or t i 0 ∷ l) (elements n (suc i) t (omega arith))

-- a list of n elements
whole : (n : ℕ) (t : List ℕ) → length t ≡ n → t ≡ tabulate (λ k. get_or t k 0) 0 n
whole n t h = elements n 0 t (omega arith)

module _ (f : ℕ → ℕ) where
  -- the symbol of each character is below 32
  pub symbol_at : (t : List ℕ) (i : ℕ) → are_symbols (map f t) ≡ true → i < length t → f (get_or t i 0) < 32
  symbol_at [] i a h = absurd (omega arith)
  symbol_at (b ∷ t) zero a h = (symbol (f b) (map f t) a).0
  symbol_at (b ∷ t) (suc i) a h = symbol_at t i (symbol (f b) (map f t) a).1 (omega arith)

  -- no symbols are whole; others by how many there are and the last
  pub whole_none : (t : List ℕ) → length t ≡ 0 → is_whole (map f t) ≡ true
  unfolding is_whole
  whole_none [] h = refl
  whole_none (b ∷ t) h = absurd (omega arith)

  pub whole_last : (t : List ℕ) → 0 < length t → is_clear (length t % 8 * 5 % 8) (f (get_or t (length t - 1) 0)) ≡ is_whole (map f t)
  unfolding is_whole
  whole_last t h =
      let s : length t * 5 ≡ length t % 8 * 5 + 8 * (length t / 8 * 5) = omega arith in
      let e : length t * 5 % 8 ≡ length t % 8 * 5 % 8 = ap (λ n. n % 8) s ∙ add-mul-mod_self_left (length t % 8 * 5) 8 (length t / 8 * 5) in
      rw (length-map t f, map_at f t (length t - 1) (omega arith), e)

  -- the bytes of eight characters
  pub bytes_eight : (t : List ℕ) → length t ≡ 8 →
      bytes (map f t) ≡
      (f (get_or t 0 0) * 8 + f (get_or t 1 0) / 4) ∷ (f (get_or t 1 0) % 4 * 64 + f (get_or t 2 0) * 2 + f (get_or t 3 0) / 16) ∷
      (f (get_or t 3 0) % 16 * 16 + f (get_or t 4 0) / 2) ∷ (f (get_or t 4 0) % 2 * 128 + f (get_or t 5 0) * 4 + f (get_or t 6 0) / 8) ∷
      (f (get_or t 6 0) % 8 * 32 + f (get_or t 7 0)) ∷ []
  unfolding bytes
  bytes_eight t h = ap (λ l. bytes (map f l)) (whole 8 t h)

-- the symbols of five bytes
pub symbols_five : (t : List ℕ) → length t ≡ 5 →
    symbols t ≡
    (get_or t 0 0 / 8) ∷ (get_or t 0 0 % 8 * 4 + get_or t 1 0 / 64) ∷ (get_or t 1 0 / 2 % 32) ∷ (get_or t 1 0 % 2 * 16 + get_or t 2 0 / 16) ∷
    (get_or t 2 0 % 16 * 2 + get_or t 3 0 / 128) ∷ (get_or t 3 0 / 4 % 32) ∷ (get_or t 3 0 % 4 * 8 + get_or t 4 0 / 32) ∷ (get_or t 4 0 % 32) ∷ []
unfolding symbols
symbols_five t h = ap symbols (whole 5 t h)

-- ---- group by group into a buffer: g elements of the text make j of the output

module _ (g j : ℕ) (F : List ℕ → List ℕ) (append : (n : ℕ) (s t : List ℕ) → length s ≡ g * n → F (s ++ t) ≡ F s ++ F t)
    (size : (n : ℕ) (s : List ℕ) → length s ≡ g * n → length (F s) ≡ j * n) where
  -- behind i groups the output's part was lent, and came back with what n elements more make at its front
  more : (t o o₀ part : List ℕ) (i n : ℕ) → g * i ≤ length t → o ≡ F (take (g * i) t) ++ drop (j * i) o₀ →
      part ≡ F (take n (drop (g * i) t)) ++ drop (length (F (take n (drop (g * i) t)))) (take (length o - j * i) (drop (j * i) o)) →
      take (j * i) o ++ (part ++ drop (length o - j * i) (drop (j * i) o)) ≡ F (take (g * i + n) t) ++ drop (length (F (take (g * i + n) t))) o₀
  more t o o₀ part i n h e p =
      let k = g * i in
      let a : length (take k t) ≡ k = length-take-le k t h in
      let d : F (take (k + n) t) ≡ F (take k t) ++ F (take n (drop k t)) = ap F (take-add k n t) ∙ append i (take k t) (take n (drop k t)) a in
      put_rest (j * i) o part ∙ rw (p, part_rest (j * i) o) (overwrite_part o o₀ (F (take k t)) (F (take n (drop k t))) (j * i) e (size i (take k t) a) ∙ rw d)

  -- one group more
  turn : (t o o₀ part group : List ℕ) (i : ℕ) → group ≡ take g (drop (g * i) t) → g * i + g ≤ length t → o ≡ F (take (g * i) t) ++ drop (j * i) o₀ →
      part ≡ F group ++ drop j (take (length o - j * i) (drop (j * i) o)) →
      take (j * i) o ++ (part ++ drop (length o - j * i) (drop (j * i) o)) ≡ F (take (g * (i + 1)) t) ++ drop (j * (i + 1)) o₀
  turn t o o₀ part group i q h e p =
      let m : g * (i + 1) ≡ g * i + g = omega arith in
      let a : length (take g (drop (g * i) t)) ≡ g * 1 = simp (length-take, length-drop) (omega arith) in
      let b : length (F (take g (drop (g * i) t))) ≡ j = size 1 (take g (drop (g * i) t)) a ∙ omega arith in
      let c : length (take (g * i + g) t) ≡ g * (i + 1) = length-take-le (g * i + g) t h ∙ sym m in
      more t o o₀ part i g (omega arith) e (p ∙ rw (q, b)) ∙ rw (size (i + 1) (take (g * i + g) t) c, m)

  -- the whole, where what is left was written behind n groups
  ended : (t o o₀ part rest : List ℕ) (n : ℕ) → rest ≡ drop (g * n) t → g * n ≤ length t → o ≡ F (take (g * n) t) ++ drop (j * n) o₀ →
      part ≡ F rest ++ drop (length (F rest)) (take (length o - j * n) (drop (j * n) o)) →
      take (j * n) o ++ (part ++ drop (length o - j * n) (drop (j * n) o)) ≡ F t ++ drop (length (F t)) o₀
  ended t o o₀ part rest n q h e p =
      let r : rest ≡ take (length t - g * n) (drop (g * n) t) = rw (take_all (length t - g * n) (drop (g * n) t) (simp length-drop (omega arith))) q in
      more t o o₀ part n (length t - g * n) h e (rw r at p) ∙ rw (take_all (g * n + (length t - g * n)) t (omega arith))

-- eight characters make five bytes: a group more, and what is left
module _ (f : ℕ → ℕ) where
  -- the laws of bytes, of the characters' symbols
  mapped_append : (n : ℕ) (s t : List ℕ) → length s ≡ 8 * n → bytes (map f (s ++ t)) ≡ bytes (map f s) ++ bytes (map f t)
  mapped_append n s t h = ap bytes (map-append f s t) ∙ bytes_append n (map f s) (map f t) (length-map s f ∙ h)

  mapped_size : (n : ℕ) (s : List ℕ) → length s ≡ 8 * n → length (bytes (map f s)) ≡ 5 * n
  mapped_size n s h = bytes_length (map f s) ∙ rw (length-map s f, h) (omega arith)

  pub bytes_turn : (t o o₀ part group : List ℕ) (i : ℕ) → group ≡ take 8 (drop (8 * i) t) → 8 * i + 8 ≤ length t → o ≡ bytes (map f (take (8 * i) t)) ++ drop (5 * i) o₀ →
      part ≡ bytes (map f group) ++ drop 5 (take (length o - 5 * i) (drop (5 * i) o)) →
      take (5 * i) o ++ (part ++ drop (length o - 5 * i) (drop (5 * i) o)) ≡ bytes (map f (take (8 * (i + 1)) t)) ++ drop (5 * (i + 1)) o₀
  bytes_turn = turn 8 5 (λ t. bytes (map f t)) mapped_append mapped_size

  pub bytes_ended : (t o o₀ part rest : List ℕ) (n : ℕ) → rest ≡ drop (8 * n) t → 8 * n ≤ length t → o ≡ bytes (map f (take (8 * n) t)) ++ drop (5 * n) o₀ →
      part ≡ bytes (map f rest) ++ drop (length (bytes (map f rest))) (take (length o - 5 * n) (drop (5 * n) o)) →
      take (5 * n) o ++ (part ++ drop (length o - 5 * n) (drop (5 * n) o)) ≡ bytes (map f t) ++ drop (length (bytes (map f t))) o₀
  bytes_ended = ended 8 5 (λ t. bytes (map f t)) mapped_append mapped_size

-- five bytes make eight symbols: the same
symbols_size_lem : (n : ℕ) (s : List ℕ) → length s ≡ 5 * n → length (symbols s) ≡ 8 * n
symbols_size_lem n s h = symbols_length s ∙ rw h (omega arith)

pub symbols_turn : (t o o₀ part group : List ℕ) (i : ℕ) → group ≡ take 5 (drop (5 * i) t) → 5 * i + 5 ≤ length t → o ≡ symbols (take (5 * i) t) ++ drop (8 * i) o₀ →
    part ≡ symbols group ++ drop 8 (take (length o - 8 * i) (drop (8 * i) o)) →
    take (8 * i) o ++ (part ++ drop (length o - 8 * i) (drop (8 * i) o)) ≡ symbols (take (5 * (i + 1)) t) ++ drop (8 * (i + 1)) o₀
symbols_turn = turn 5 8 symbols symbols_append symbols_size_lem

pub symbols_ended : (t o o₀ part rest : List ℕ) (n : ℕ) → rest ≡ drop (5 * n) t → 5 * n ≤ length t → o ≡ symbols (take (5 * n) t) ++ drop (8 * n) o₀ →
    part ≡ symbols rest ++ drop (length (symbols rest)) (take (length o - 8 * n) (drop (8 * n) o)) →
    take (8 * n) o ++ (part ++ drop (length o - 8 * n) (drop (8 * n) o)) ≡ symbols t ++ drop (length (symbols t)) o₀
symbols_ended = ended 5 8 symbols symbols_append symbols_size_lem
