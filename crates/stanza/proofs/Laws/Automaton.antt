-- The automaton, run over a text: what several bytes of one class do to it.
use Prim.Native.Nat.{ℕ, zero, suc, ◌+◌, ◌-◌, ◌<◌, ◌≤◌}
use mathlib.Core.Path.{◌≡◌, refl, sym, ap, ◌∙◌}
use mathlib.Core.Bool.{true, false, ◌&&◌, false≢true}
use mathlib.Core.List.{List, [], ◌∷◌}
use lib.Dec.{ltb, leb, eqb}
use lib.ListN.{length, take, drop, get_or, length-drop, drop_of_length-le}
use lib.Seq.{drop-drop, get_or-drop, get_or-take, length-take-le}
use native.Mathlib.Nat.{add-zero}
use native.Mathlib.Omega.{arith}
use borrow.Author.Tests.{lt-ltb, ne_eqb, leb-true, ltb-true, eqb-true}
use Rattle.refusal.specs.Pick.{pick}
use Rattle.refusal.specs.Run.{all, run, is_graphic}
use Rattle.refusal.proofs.Laws.Booleans.{and_true, cases}
use Rattle.refusal.proofs.Laws.Lists.{drop_one}
use Rattle.refusal.proofs.Laws.Run.{run_stop, run_in_class, run_take, run_le, run_more, run_in, all_wider}
use Rattle.strict_base64.specs.Alphabet.{is_character, value_of}
use Rattle.strict_base64.specs.Code.{ends_well}
use Rattle.strict_base64.specs.Lines.{is_full}
use Rattle.stanza.specs.Automaton.{State, start, hyphen, arrow, gap, word, line, ended, dead, next, bad, short, whole, verdict, scan}
use Rattle.stanza.specs.Reading.{is_not_lf, line_end}

-- one byte on, and the text's end
pub scan_at : (s : State) (t : List ℕ) (i : ℕ) → i < length t →
    scan s i (drop i t) ≡ verdict (next s (get_or t i 0)) (i + 1) (scan (next s (get_or t i 0)) (i + 1) (drop (i + 1) t))
unfolding scan
scan_at s t i h = rw (drop_one t i 0 h)

pub scan_end : (s : State) (t : List ℕ) (i : ℕ) → length t ≤ i → scan s i (drop i t) ≡ short
unfolding scan
scan_end s t i h = rw (drop_of_length-le t h)

-- a stanza that has ended took at least one byte, and no more than there are
pub scan_whole : (u : List ℕ) (s : State) (i n : ℕ) → scan s i u ≡ whole n → (i < n) × (n ≤ i + length u)
unfolding scan verdict
scan_whole [] s i n e = let z : ◌≡◌ {A = ℕ} 0 1 = cc in absurd (omega arith)
scan_whole (b ∷ u) s i n e = go (next s b) (λ s' q. let w = scan_whole u s' (i + 1) n q in (omega arith, omega arith)) e
  where
    go : (s' : State) → ((s'' : State) → scan s'' (i + 1) u ≡ whole n → (i < n) × (n ≤ i + suc (length u))) →
        verdict s' (i + 1) (scan s' (i + 1) u) ≡ whole n → (i < n) × (n ≤ i + suc (length u))
    go dead f q = let z : ◌≡◌ {A = ℕ} 0 1 = cc in absurd (omega arith)
    go ended f q = let z : i + 1 ≡ n = cc in (omega arith, omega arith)
    go start f q = f start q
    go hyphen f q = f hyphen q
    go arrow f q = f arrow q
    go gap f q = f gap q
    go word f q = f word q
    go (line k v) f q = f (line k v) q

-- "-> "
module _ (t : List ℕ) where
  pub head1 : 0 < length t → get_or t 0 0 ≡ 45 → scan start 0 t ≡ scan hyphen 1 (drop 1 t)
  unfolding next verdict
  head1 h a = scan_at start t 0 h ∙ rw a

  pub head2 : 1 < length t → get_or t 0 0 ≡ 45 → get_or t 1 0 ≡ 62 → scan start 0 t ≡ scan arrow 2 (drop 2 t)
  unfolding next verdict
  head2 h a b = head1 (omega arith) a ∙ scan_at hyphen t 1 h ∙ rw b

  pub head3 : 2 < length t → get_or t 0 0 ≡ 45 → get_or t 1 0 ≡ 62 → get_or t 2 0 ≡ 32 → scan start 0 t ≡ scan gap 3 (drop 3 t)
  unfolding next verdict
  head3 h a b c = head2 (omega arith) a b ∙ scan_at arrow t 2 h ∙ rw c

  pub line3 : 2 < length t → get_or t 0 0 ≡ 45 → get_or t 1 0 ≡ 62 → get_or t 2 0 ≡ 32 → line_end t ≡ 3 + line_end (drop 3 t)
  line3 h a b c =
      let f : line_end t ≡ 0 + line_end (drop 0 t) = omega arith in
      f ∙ run_in is_not_lf t 0 (omega arith) (rw a) ∙ run_in is_not_lf t 1 (omega arith) (rw b) ∙ run_in is_not_lf t 2 h (rw c)

-- the arguments: a run of bytes from 33 to 126 in a word
word_run_from : (u : List ℕ) (i : ℕ) → scan word i u ≡ scan word (i + run is_graphic u) (drop (run is_graphic u) u)
unfolding scan run next verdict
word_run_from [] i = refl
word_run_from (b ∷ u) i =
    cases (is_graphic b)
    (λ e. let n : i + suc (run is_graphic u) ≡ i + 1 + run is_graphic u = omega arith in rw (e, n) (word_run_from u (i + 1)))
    (λ e. let z : run is_graphic (b ∷ u) ≡ 0 = rw e in rw (z, add-zero))

pub word_run : (t : List ℕ) (i e : ℕ) → e ≡ i + run is_graphic (drop i t) → scan word i (drop i t) ≡ scan word e (drop e t)
word_run t i e p = rw (word_run_from (drop i t) i, drop-drop, ← p)

-- an argument begins
pub gap_word : (t : List ℕ) (i : ℕ) → i < length t → is_graphic (get_or t i 0) ≡ true → scan gap i (drop i t) ≡ scan word i (drop i t)
unfolding next
gap_word t i h e = rw (scan_at gap t i h, scan_at word t i h, e)

pub gap_bad : (t : List ℕ) (i : ℕ) → i < length t → is_graphic (get_or t i 0) ≡ false → scan gap i (drop i t) ≡ bad
unfolding next verdict
gap_bad t i h e = rw (scan_at gap t i h, e)

-- behind an argument: LF, a space, or nothing else
pub word_lf : (t : List ℕ) (i : ℕ) → i < length t → get_or t i 0 ≡ 10 → scan word i (drop i t) ≡ scan (line 0 0) (i + 1) (drop (i + 1) t)
unfolding next verdict is_graphic
word_lf t i h e = rw (scan_at word t i h, e)

pub word_space : (t : List ℕ) (i : ℕ) → i < length t → get_or t i 0 ≡ 32 → scan word i (drop i t) ≡ scan gap (i + 1) (drop (i + 1) t)
unfolding next verdict is_graphic
word_space t i h e = rw (scan_at word t i h, e)

pub word_bad : (t : List ℕ) (i : ℕ) → i < length t → is_graphic (get_or t i 0) ≡ false → (get_or t i 0 ≡ 32 → ⊥) → (get_or t i 0 ≡ 10 → ⊥) → scan word i (drop i t) ≡ bad
unfolding next verdict
word_bad t i h e f g = rw (scan_at word t i h, e, ne_eqb (get_or t i 0) 32 f, ne_eqb (get_or t i 0) 10 g)

-- no LF is a byte from 33 to 126
pub graphic_not_lf : (b : ℕ) → is_graphic b ≡ true → is_not_lf b ≡ true
unfolding is_graphic
graphic_not_lf b h = let a = leb-true 33 b (and_true (leb 33 b) (leb b 126) h).0 in rw (ne_eqb b 10 (omega arith))

pub graphic_line_end : (t : List ℕ) (i e : ℕ) → i ≤ length t → e ≡ i + run is_graphic (drop i t) → i + line_end (drop i t) ≡ e + line_end (drop e t)
graphic_line_end t i e h p =
    let n : run is_graphic (drop i t) ≤ length (drop i t) = run_le is_graphic (drop i t) in
    rw p (run_more is_not_lf (run is_graphic (drop i t)) t i (omega (arith, length-drop i t))
    (all_wider is_graphic is_not_lf graphic_not_lf (take (run is_graphic (drop i t)) (drop i t)) (run_take is_graphic (run is_graphic (drop i t)) (drop i t) (omega arith))))

-- the value of the last character, v where there is none
unfoldable pub last_value : ℕ → List ℕ → ℕ
last_value v [] = v
last_value v (b ∷ t) = last_value (value_of b) t

pub last_value_lem : (v : ℕ) (t : List ℕ) → 0 < length t → last_value v t ≡ value_of (get_or t (length t - 1) 0)
unfolding last_value
last_value_lem v [] h = absurd (omega arith)
last_value_lem v (b ∷ []) h = refl
last_value_lem v (b ∷ c ∷ t) h =
    let e : suc (suc (length t)) - 1 ≡ suc (length (c ∷ t) - 1) = omega arith in
    rw e (last_value_lem (value_of b) (c ∷ t) (omega arith))

-- the body: characters on a line
pub line_run : (n k v i : ℕ) (u : List ℕ) → n ≤ length u → all is_character (take n u) ≡ true → k + n ≤ 64 →
    scan (line k v) i u ≡ scan (line (k + n) (last_value v (take n u))) (i + n) (drop n u)
unfolding scan next verdict all last_value
line_run zero k v i u h a f = simp add-zero
line_run (suc n) k v i [] h a f = absurd (omega arith)
line_run (suc n) k v i (b ∷ u) h a f =
    let c = and_true (is_character b) (all is_character (take n u)) a in
    let p : k + suc n ≡ k + 1 + n = omega arith in
    let q : i + suc n ≡ i + 1 + n = omega arith in
    rw (c.0, lt-ltb k 64 (omega arith), p, q) (line_run n (k + 1) (value_of b) (i + 1) u (omega arith) c.1 (omega arith))

-- a full line, and the next
pub line_full : (t : List ℕ) (i : ℕ) → is_full (drop i t) ≡ true → (i + 65 ≤ length t) × (scan (line 0 0) i (drop i t) ≡ scan (line 0 0) (i + 65) (drop (i + 65) t))
unfolding is_full next verdict is_character
line_full t i h =
    let a = and_true (ltb 64 (length (drop i t)) && all is_character (take 64 (drop i t))) (eqb (get_or (drop i t) 64 0) 10) h in
    let b = and_true (ltb 64 (length (drop i t))) (all is_character (take 64 (drop i t))) a.0 in
    let n = ltb-true 64 (length (drop i t)) b.0 in
    let l : i + 64 < length t = omega (arith, length-drop i t) in
    let x : get_or t (i + 64) 0 ≡ 10 = rw get_or-drop at (eqb-true (get_or (drop i t) 64 0) 10 a.1) in
    let p : i + 64 + 1 ≡ i + 65 = omega arith in
    (omega arith, line_run 64 0 0 i (drop i t) (omega arith) b.1 (omega arith) ∙ rw (drop-drop 64 i t, scan_at (line 64 (last_value 0 (take 64 (drop i t)))) t (i + 64) l, x, p))

-- the line that ends at e, k characters behind i
module _ (t : List ℕ) (i e : ℕ) (p : e ≡ i + run is_character (drop i t)) (h : i ≤ length t) where
  -- the characters up to n of them
  pub line_to : (n : ℕ) → n ≤ 64 → i + n ≤ e → scan (line 0 0) i (drop i t) ≡ scan (line n (last_value 0 (take n (drop i t)))) (i + n) (drop (i + n) t)
  line_to n f g =
      let r : n ≤ run is_character (drop i t) = omega arith in
      line_run n 0 0 i (drop i t) (omega (arith, run_le is_character (drop i t))) (run_take is_character n (drop i t) r) (omega arith)
      ∙ rw drop-drop (ap (λ m. scan (line m (last_value 0 (take n (drop i t)))) (i + n) (drop (i + n) t)) (omega arith))

  -- a 65th character
  pub line_long : i + 64 < e → scan (line 0 0) i (drop i t) ≡ bad
  unfolding next verdict
  line_long g =
      let n : i + 64 < length t = omega (arith, run_le is_character (drop i t), length-drop i t) in
      let c : is_character (get_or t (i + 64) 0) ≡ true = rw get_or-drop at (run_in_class is_character 64 (drop i t) (omega arith)) in
      line_to 64 (omega arith) (omega arith) ∙ rw (scan_at (line 64 (last_value 0 (take 64 (drop i t)))) t (i + 64) n, c)

  -- the text's end, a byte that is neither a character nor LF, and LF
  pub line_short : e ≤ i + 64 → e ≡ length t → scan (line 0 0) i (drop i t) ≡ short
  line_short f g =
      let q : i + (e - i) ≡ e = omega arith in
      line_to (e - i) (omega arith) (omega arith) ∙ rw q (scan_end _ t e (omega arith))

  pub line_bad : e ≤ i + 64 → e < length t → (get_or t e 0 ≡ 10 → ⊥) → scan (line 0 0) i (drop i t) ≡ bad
  unfolding next verdict
  line_bad f g x =
      let q : i + (e - i) ≡ e = omega arith in
      line_to (e - i) (omega arith) (omega arith) ∙ rw (q, scan_at (line (e - i) (last_value 0 (take (e - i) (drop i t)))) t e g, run_stop is_character t i e p g, ne_eqb (get_or t e 0) 10 x)

  pub line_lf : e < i + 64 → e < length t → get_or t e 0 ≡ 10 →
      scan (line 0 0) i (drop i t) ≡ pick (ends_well (e - i) (last_value 0 (take (e - i) (drop i t)))) (whole (e + 1)) bad
  unfolding next verdict is_character
  line_lf f g x =
      let q : i + (e - i) ≡ e = omega arith in
      line_to (e - i) (omega arith) (omega arith)
      ∙ rw (q, scan_at (line (e - i) (last_value 0 (take (e - i) (drop i t)))) t e g, x, ne_eqb (e - i) 64 (omega arith))
      (cases (ends_well (e - i) (last_value 0 (take (e - i) (drop i t)))) (λ w. rw w) (λ w. rw w))

  -- the value of the last character on the line
  pub line_last : i < e → last_value 0 (take (e - i) (drop i t)) ≡ value_of (get_or t (e - 1) 0)
  line_last f =
      let l : length (take (e - i) (drop i t)) ≡ e - i = length-take-le (e - i) (drop i t) (omega (arith, run_le is_character (drop i t))) in
      let q : i + (e - i - 1) ≡ e - 1 = omega arith in
      last_value_lem 0 (take (e - i) (drop i t)) (omega arith) ∙ rw (l, get_or-take (e - i) (drop i t) (e - i - 1) 0 (omega arith), get_or-drop, q)

  -- no full line: not 64 characters and LF
  pub line_not_full : is_full (drop i t) ≡ false → e < length t → get_or t e 0 ≡ 10 → e ≡ i + 64 → ⊥
  unfolding is_full
  line_not_full n g x q =
      let l : 64 < length (drop i t) = simp length-drop (omega arith) in
      let y : get_or (drop i t) 64 0 ≡ 10 = rw (get_or-drop, ← q) x in
      false≢true (sym n ∙ rw (lt-ltb 64 (length (drop i t)) l, run_take is_character 64 (drop i t) (omega arith), y))
