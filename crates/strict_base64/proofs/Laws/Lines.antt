-- Laws of base64 in lines: line by line, lengths, and the way back.
use Prim.Native.Nat.{ℕ, zero, suc, ◌+◌, ◌-◌, ◌*◌, ◌/◌, ◌%◌, ◌<◌, ◌≤◌}
use mathlib.Core.Path.{◌≡◌, refl, sym, ap, ◌∙◌}
use mathlib.Core.List.{List, [], ◌∷◌, ◌++◌}
use lib.Dec.{eqb}
use lib.ListN.{length, take, drop, set, get_or, length-append, length-drop, take-append-drop}
use lib.Seq.{length-take-le, drop-drop, take_at, drop_at, append_snoc, get_or-drop, get_or_at, take-length}
use native.Mathlib.Omega.{arith}
use borrow.Author.Tests.{eq-eqb, ne_eqb, eqb-true, eqb-false}
use Rattle.refusal.specs.Pick.{pick}
use Rattle.refusal.proofs.Laws.Booleans.{cases}
use Rattle.refusal.proofs.Laws.Lists.{part_rest, put_rest, front_part, front_store, front_last}
use Rattle.strict_base64.specs.Code.{encoded, decoded}
use Rattle.strict_base64.specs.Lines.{wrapped, unwrapped, lines_of, body_of}
use Rattle.strict_base64.specs.Tables.{decoded_size, encoded_size, body_size}
use Rattle.strict_base64.proofs.Laws.Code.{decoded_length, encoded_length, decoded_append, encoded_append}

-- what is left of a full line, and the next line
unwrapped_line : (j k : ℕ) (l : List ℕ) → k + j ≡ 64 → suc j < length l → unwrapped k l ≡ take j l ++ unwrapped 0 (drop (suc j) l)
unfolding unwrapped
unwrapped_line j k [] e h = absurd (omega arith)
unwrapped_line j k (c ∷ []) e h = absurd (omega arith)
unwrapped_line zero k (c ∷ d ∷ t) e h = rw (eq-eqb k 64 (omega arith))
unwrapped_line (suc j) k (c ∷ d ∷ t) e h = rw (ne_eqb k 64 (omega arith), unwrapped_line j (k + 1) (d ∷ t) (omega arith) (omega arith))

-- the last line
unwrapped_last : (k : ℕ) (l : List ℕ) → k + length l ≤ 65 → unwrapped k l ≡ take (length l - 1) l
unfolding unwrapped
unwrapped_last k [] h = refl
unwrapped_last k (c ∷ []) h = refl
unwrapped_last k (c ∷ d ∷ t) h =
    let e : suc (suc (length t)) - 1 ≡ suc (length (d ∷ t) - 1) = omega arith in
    rw (ne_eqb k 64 (omega arith), e, unwrapped_last (k + 1) (d ∷ t) (omega arith))

unwrapped_length : (k : ℕ) (l : List ℕ) → k ≤ 64 → length (unwrapped k l) ≡ (length l - 1) - (length l - 1 + k) / 65
unfolding unwrapped
unwrapped_length k [] h = omega arith
unwrapped_length k (c ∷ []) h = omega arith
unwrapped_length k (c ∷ d ∷ t) h =
    cases (eqb k 64)
    (λ e. let f = eqb-true k 64 e in rw e (unwrapped_length 0 (d ∷ t) (omega arith) ∙ omega arith))
    (λ e. let f = eqb-false k 64 e in rw e (ap suc (unwrapped_length (k + 1) (d ∷ t) (omega arith)) ∙ omega arith))

pub body_length : (l : List ℕ) → length (body_of l) ≡ body_size (length l)
body_length l = decoded_length (unwrapped 0 l) ∙ rw (unwrapped_length 0 l (omega arith)) (ap decoded_size (omega arith))

-- the body of a full line and what follows it
pub body_line : (l : List ℕ) → 65 < length l → body_of l ≡ decoded (take 64 l) ++ body_of (drop 65 l)
body_line l h = ap decoded (unwrapped_line 64 0 l refl h) ∙ decoded_append 16 (take 64 l) (unwrapped 0 (drop 65 l)) (length-take-le 64 l (omega arith))

-- the body of the lines behind i full ones
pub body_drop : (i : ℕ) (l : List ℕ) → 65 * i < length l → drop (48 * i) (body_of l) ≡ body_of (drop (65 * i) l)
body_drop zero l h = refl
body_drop (suc i) l h =
    let e : 48 * suc i ≡ 48 * i + 48 = omega arith in
    let f : 65 * suc i ≡ 65 * i + 65 = omega arith in
    let g : length (decoded (take 64 (drop (65 * i) l))) ≡ 48 = decoded_length (take 64 (drop (65 * i) l)) ∙ rw (length-take-le 64 (drop (65 * i) l) (simp length-drop (omega arith))) in
    rw (e, f, ← drop-drop 48 (48 * i) (body_of l), body_drop i l (omega arith), body_line (drop (65 * i) l) (simp length-drop (omega arith)), drop_at (decoded (take 64 (drop (65 * i) l))) (body_of (drop 65 (drop (65 * i) l))) 48 g, drop-drop 65 (65 * i) l)

pub body_last : (l : List ℕ) → length l ≤ 65 → body_of l ≡ decoded (take (length l - 1) l)
body_last l h = ap decoded (unwrapped_last 0 l (omega arith))

-- characters that fill the line, and the next line
wrapped_line : (j k : ℕ) (s : List ℕ) → k + suc j ≡ 64 → suc j ≤ length s → wrapped k s ≡ take (suc j) s ++ 10 ∷ wrapped 0 (drop (suc j) s)
unfolding wrapped
wrapped_line j k [] e h = absurd (omega arith)
wrapped_line zero k (c ∷ t) e h = rw (eq-eqb k 63 (omega arith))
wrapped_line (suc j) k (c ∷ t) e h = rw (ne_eqb k 63 (omega arith), wrapped_line j (k + 1) t (omega arith) (omega arith))

wrapped_last : (k : ℕ) (s : List ℕ) → k + length s ≤ 63 → wrapped k s ≡ s ++ (10 ∷ [])
unfolding wrapped
wrapped_last k [] h = refl
wrapped_last k (c ∷ t) h = rw (ne_eqb k 63 (omega arith), wrapped_last (k + 1) t (omega arith))

wrapped_length : (k : ℕ) (s : List ℕ) → k ≤ 63 → length (wrapped k s) ≡ length s + (length s + k) / 64 + 1
unfolding wrapped
wrapped_length k [] h = omega arith
wrapped_length k (c ∷ t) h =
    cases (eqb k 63)
    (λ e. let f = eqb-true k 63 e in rw e (ap (λ n. suc (suc n)) (wrapped_length 0 t (omega arith)) ∙ omega arith))
    (λ e. let f = eqb-false k 63 e in rw e (ap suc (wrapped_length (k + 1) t (omega arith)) ∙ omega arith))

pub lines_length : (b : List ℕ) → length (lines_of b) ≡ encoded_size (length b) + encoded_size (length b) / 64 + 1
lines_length b = wrapped_length 0 (encoded b) (omega arith) ∙ rw (encoded_length b) (omega arith)

pub lines_line : (b : List ℕ) → 48 ≤ length b → lines_of b ≡ encoded (take 48 b) ++ 10 ∷ lines_of (drop 48 b)
lines_line b h =
    let e : encoded b ≡ encoded (take 48 b) ++ encoded (drop 48 b) = sym (ap encoded (take-append-drop 48 b)) ∙ encoded_append 16 (take 48 b) (drop 48 b) (length-take-le 48 b h) in
    let g : length (encoded (take 48 b)) ≡ 64 = encoded_length (take 48 b) ∙ rw (length-take-le 48 b h) in
    ap (wrapped 0) e ∙ wrapped_line 63 0 (encoded (take 48 b) ++ encoded (drop 48 b)) refl (simp length-append (omega arith))
    ∙ rw (take_at (encoded (take 48 b)) (encoded (drop 48 b)) 64 g, drop_at (encoded (take 48 b)) (encoded (drop 48 b)) 64 g)

pub lines_drop : (i : ℕ) (b : List ℕ) → 48 * i ≤ length b → drop (65 * i) (lines_of b) ≡ lines_of (drop (48 * i) b)
lines_drop zero b h = refl
lines_drop (suc i) b h =
    let e : 48 * suc i ≡ 48 * i + 48 = omega arith in
    let f : 65 * suc i ≡ 65 * i + 65 = omega arith in
    let b' = drop (48 * i) b in
    let g : length (encoded (take 48 b') ++ (10 ∷ [])) ≡ 65 = simp (length-append, encoded_length (take 48 b'), length-take-le 48 b' (simp length-drop (omega arith))) in
    rw (e, f, ← drop-drop 65 (65 * i) (lines_of b), lines_drop i b (omega arith), lines_line b' (simp length-drop (omega arith)), ← append_snoc (encoded (take 48 b')) 10 (lines_of (drop 48 b')), drop_at (encoded (take 48 b') ++ (10 ∷ [])) (lines_of (drop 48 b')) 65 g, drop-drop 48 (48 * i) b)

pub lines_last : (b : List ℕ) → length b < 48 → lines_of b ≡ encoded b ++ (10 ∷ [])
lines_last b h = wrapped_last 0 (encoded b) (omega (arith, encoded_length b))

-- a full line has 64 characters, the last fewer
pub full_length : (b : List ℕ) → 48 ≤ length b → length (encoded (take 48 b)) ≡ 64
full_length b h = simp (encoded_length (take 48 b), length-take-le 48 b h)

pub last_length : (b : List ℕ) → length b < 48 → length (encoded b) < 64
last_length b h = omega (arith, encoded_length b)

-- the buffer behind i full lines has space for the next, and for the last
decoded_size_lem : (i r : ℕ) → decoded_size (64 * i + r) ≡ 48 * i + decoded_size r
decoded_size_lem i r =
    let q : (64 * i + r) / 4 ≡ 16 * i + r / 4 = omega arith in
    let m : (64 * i + r) % 4 ≡ r % 4 = omega arith in
    rw (q, m) (omega arith)

encoded_size_lem : (i r : ℕ) → encoded_size (48 * i + r) ≡ 64 * i + encoded_size r
encoded_size_lem i r =
    let q : (48 * i + r) / 3 ≡ 16 * i + r / 3 = omega arith in
    let m : (48 * i + r) % 3 ≡ r % 3 = omega arith in
    rw (q, m) (omega arith)

-- reading, line by line: a full line is written to the part of the buffer behind those before it
pub body_turn : (l o o₀ part : List ℕ) (i : ℕ) → 65 * i + 65 < length l → o ≡ take (48 * i) (body_of l) ++ drop (48 * i) o₀ →
    part ≡ decoded (take (65 * i + 64 - 65 * i) (drop (65 * i) l)) ++ drop (length (decoded (take (65 * i + 64 - 65 * i) (drop (65 * i) l)))) (take (length o - 48 * i) (drop (48 * i) o)) →
    take (48 * i) o ++ (part ++ drop (length o - 48 * i) (drop (48 * i) o)) ≡ take (48 * (i + 1)) (body_of l) ++ drop (48 * (i + 1)) o₀
body_turn l o o₀ part i h e p =
    let s : 65 * i + 64 - 65 * i ≡ 64 = omega arith in
    let l' = drop (65 * i) l in
    let r : 65 < length l' = simp length-drop (omega arith) in
    let g : length (decoded (take 64 l')) ≡ 48 = decoded_length (take 64 l') ∙ rw (length-take-le 64 l' (omega arith)) in
    let n : 48 * i + 48 ≡ 48 * (i + 1) = omega arith in
    put_rest (48 * i) o part ∙ rw (p, s, part_rest (48 * i) o)
    (front_part (body_of l) o o₀ (decoded (take 64 l')) (body_of (drop 65 l')) (48 * i) e (body_drop i l (omega arith) ∙ body_line l' r) (rw (body_length l) (omega arith)) ∙ rw (g, n))

pub body_end : (l o o₀ part : List ℕ) (i : ℕ) → 65 * i < length l → length l ≤ 65 * i + 65 → o ≡ take (48 * i) (body_of l) ++ drop (48 * i) o₀ →
    part ≡ decoded (take (length l - 1 - 65 * i) (drop (65 * i) l)) ++ drop (length (decoded (take (length l - 1 - 65 * i) (drop (65 * i) l)))) (take (length o - 48 * i) (drop (48 * i) o)) →
    take (48 * i) o ++ (part ++ drop (length o - 48 * i) (drop (48 * i) o)) ≡ body_of l ++ drop (length (body_of l)) o₀
body_end l o o₀ part i h m e p =
    let l' = drop (65 * i) l in
    let s : length l - 1 - 65 * i ≡ length l' - 1 = simp length-drop (omega arith) in
    let q : drop (48 * i) (body_of l) ≡ decoded (take (length l' - 1) l') = body_drop i l h ∙ body_last l' (simp length-drop (omega arith)) in
    put_rest (48 * i) o part ∙ rw (p, s, part_rest (48 * i) o)
    (front_last (body_of l) o o₀ (decoded (take (length l' - 1) l')) (48 * i) e q (rw (body_length l) (omega arith)))

-- writing, line by line: 48 bytes, and then the LF
pub lines_turn : (b o o₀ part : List ℕ) (i : ℕ) → 48 * i + 48 ≤ length b → length (lines_of b) ≤ length o₀ → o ≡ take (65 * i) (lines_of b) ++ drop (65 * i) o₀ →
    part ≡ encoded (take (48 * i + 48 - 48 * i) (drop (48 * i) b)) ++ drop (length (encoded (take (48 * i + 48 - 48 * i) (drop (48 * i) b)))) (take (length o - 65 * i) (drop (65 * i) o)) →
    set (take (65 * i) o ++ (part ++ drop (length o - 65 * i) (drop (65 * i) o))) (65 * i + 64) 10 ≡ take (65 * (i + 1)) (lines_of b) ++ drop (65 * (i + 1)) o₀
lines_turn b o o₀ part i h m e p =
    let s : 48 * i + 48 - 48 * i ≡ 48 = omega arith in
    let b' = drop (48 * i) b in
    let r : 48 ≤ length b' = simp length-drop (omega arith) in
    let block = encoded (take 48 b') in
    let g : length block ≡ 64 = encoded_length (take 48 b') ∙ rw (length-take-le 48 b' r) in
    let q : drop (65 * i) (lines_of b) ≡ block ++ 10 ∷ lines_of (drop 48 b') = lines_drop i b (omega arith) ∙ lines_line b' r in
    let n : 65 * i + 64 + 1 ≡ 65 * (i + 1) = omega arith in
    let k : 65 * i + 65 ≤ length (lines_of b) = rw (lines_length b) (omega arith) in
    let x : get_or (lines_of b) (65 * i + 64) 0 ≡ 10 = sym (get_or-drop (65 * i) (lines_of b) 64 0) ∙ rw q (get_or_at block 10 (lines_of (drop 48 b')) 0 64 g) in
    let f : take (65 * i) o ++ (part ++ drop (length o - 65 * i) (drop (65 * i) o)) ≡ take (65 * i + 64) (lines_of b) ++ drop (65 * i + 64) o₀ =
    put_rest (65 * i) o part ∙ rw (p, s, part_rest (65 * i) o) (front_part (lines_of b) o o₀ block (10 ∷ lines_of (drop 48 b')) (65 * i) e q (omega arith) ∙ rw g) in
    ap (set (take (65 * i) o ++ (part ++ drop (length o - 65 * i) (drop (65 * i) o))) (65 * i + 64)) (sym x)
    ∙ front_store (lines_of b) (take (65 * i) o ++ (part ++ drop (length o - 65 * i) (drop (65 * i) o))) o₀ (65 * i + 64) 0 f (omega arith) m ∙ rw n

pub lines_end : (b o o₀ part : List ℕ) (i : ℕ) → 48 * i ≤ length b → length b < 48 * i + 48 → o ≡ take (65 * i) (lines_of b) ++ drop (65 * i) o₀ →
    part ≡ lines_of (take (length b - 48 * i) (drop (48 * i) b)) ++ drop (length (lines_of (take (length b - 48 * i) (drop (48 * i) b)))) (take (length o - 65 * i) (drop (65 * i) o)) →
    take (65 * i) o ++ (part ++ drop (length o - 65 * i) (drop (65 * i) o)) ≡ lines_of b ++ drop (length (lines_of b)) o₀
lines_end b o o₀ part i h m e p =
    put_rest (65 * i) o part ∙ rw (p, part_rest (48 * i) b, part_rest (65 * i) o)
    (front_last (lines_of b) o o₀ (lines_of (drop (48 * i) b)) (65 * i) e (lines_drop i b h) (rw (lines_length b) (omega arith)))

-- a line of fewer than 48 bytes: its characters, and then the LF
pub lines_short : (b o o₀ : List ℕ) → length b < 48 → length (encoded b) + 1 ≤ length o₀ → o ≡ encoded b ++ drop (length (encoded b)) o₀ →
    set o (length (encoded b)) 10 ≡ lines_of b ++ drop (length (lines_of b)) o₀
lines_short b o o₀ h f e =
    let n = length (encoded b) in
    let w : List ℕ = encoded b ++ (10 ∷ []) in
    let l : length w ≡ n + 1 = length-append (encoded b) (10 ∷ []) in
    let e' : o ≡ take n w ++ drop n o₀ = e ∙ rw (take_at (encoded b) (10 ∷ []) n refl) in
    ap (set o n) (sym (get_or_at (encoded b) 10 [] 0 n refl)) ∙ front_store w o o₀ n 0 e' (omega arith) (omega arith)
    ∙ rw (← l, take-length w, lines_last b h)

-- there and back: what was laid out in lines is what the lines hold
unwrapped_cons : (k c : ℕ) (r : List ℕ) → 0 < length r → unwrapped k (c ∷ r) ≡ pick (eqb k 64) (unwrapped 0 r) (c ∷ unwrapped (k + 1) r)
unfolding unwrapped
unwrapped_cons k c [] h = absurd (omega arith)
unwrapped_cons k c (d ∷ t) h = refl

wrapped_pos : (k : ℕ) (s : List ℕ) → k ≤ 63 → 0 < length (wrapped k s)
wrapped_pos k s h = omega (arith, wrapped_length k s h)

pub unwrapped_wrapped : (k : ℕ) (s : List ℕ) → k ≤ 63 → unwrapped k (wrapped k s) ≡ s
unfolding wrapped unwrapped
unwrapped_wrapped k [] h = refl
unwrapped_wrapped k (c ∷ t) h =
    cases (eqb k 63)
    (λ e. let f = eqb-true k 63 e in rw (e, ne_eqb k 64 (omega arith), f, unwrapped_cons 64 10 (wrapped 0 t) (wrapped_pos 0 t (omega arith)), unwrapped_wrapped 0 t (omega arith)))
    (λ e. let f = eqb-false k 63 e in rw (e, unwrapped_cons k c (wrapped (k + 1) t) (wrapped_pos (k + 1) t (omega arith)), ne_eqb k 64 (omega arith), unwrapped_wrapped (k + 1) t (omega arith)))
