-- Words: what the code's loops pass over, and that what is printed is read back.
use Prim.Native.Nat.{ℕ, ◌+◌, ◌-◌, ◌*◌, ◌/◌, ◌%◌, ◌<◌, ◌≤◌}
use mathlib.Core.Path.{◌≡◌, refl, sym, ap, ◌∙◌}
use mathlib.Core.Bool.{Bool, true, false, false≢true}
use mathlib.Core.List.{List, [], ◌∷◌, ◌++◌, append_assoc, append-nil}
use Rattle.std.specs.Prelude.{Some, None}
use lib.Dec.{ltb, eqb, eqb→eq}
use lib.ListN.{length, length-set, take, drop, set, get_or, drop_of_length-le, length-append, take-append-drop}
use lib.Seq.{sets, sets-eq, length-take-le, take_at, drop_at, drop-drop, drop-set-lt}
use native.Mathlib.Omega.{arith}
use borrow.Author.Tests.{lt-ltb, le-ltb, le-leb, ne_eqb, leb-true, ltb-true, ltb-false, eqb-true}
use Rattle.refusal.specs.Output.{bytes, refused, filled}
use Rattle.refusal.specs.Pick.{pick}
use Rattle.refusal.specs.Run.{all, is_graphic}
use Rattle.refusal.proofs.Laws.Below.{below}
use Rattle.refusal.proofs.Laws.Booleans.{cases, and_true, T_true}
use Rattle.refusal.proofs.Laws.Lists.{drop_one, store_one}
use Rattle.refusal.proofs.Laws.Run.{all_append}
use Rattle.script.specs.declared.unescaping.State.{State}
use Rattle.script.specs.declared.unescaping.State.TheVariants.{Plain, Escape, Hex}
use Rattle.script.specs.Escape.{state_said, hex_value, moves, gives, stops, plain, letter, digit, effect, Meaning, word, bad, behind, rest, unescaped, measured, fits, answered_by, filled_by, hex_digit, letter_of, some_letter, printed, spelled, escaped, sized}

-- ---- reading, one byte on

module _ (s b : ℕ) (t : List ℕ) where
  cons_moves : (r : ℕ) → moves r ≡ effect s b → rest s (b ∷ t) ≡ rest r t
  unfolding rest
  cons_moves r e = rw (rest, ← e)

  cons_gives : (v : ℕ) → gives v ≡ effect s b → rest s (b ∷ t) ≡ behind (v ∷ []) (rest 0 t)
  unfolding rest
  cons_gives v e = rw (rest, ← e)

  cons_stops : stops ≡ effect s b → rest s (b ∷ t) ≡ bad
  unfolding rest
  cons_stops e = rw (rest, ← e)

module _ (t : List ℕ) (s i : ℕ) where
  pub rest_ends : length t ≤ i → rest s (drop i t) ≡ pick (eqb s 0) (word []) bad
  unfolding rest
  rest_ends h = rw (drop_of_length-le t h)

  pub rest_moves : (r : ℕ) → i < length t → moves r ≡ effect s (get_or t i 0) → rest s (drop i t) ≡ rest r (drop (i + 1) t)
  rest_moves r h e = rw (drop_one t i 0 h) (cons_moves s (get_or t i 0) (drop (i + 1) t) r e)

  pub rest_gives : (v : ℕ) → i < length t → gives v ≡ effect s (get_or t i 0) →
      rest s (drop i t) ≡ behind (v ∷ []) (rest 0 (drop (i + 1) t))
  rest_gives v h e = rw (drop_one t i 0 h) (cons_gives s (get_or t i 0) (drop (i + 1) t) v e)

  pub rest_stops : i < length t → stops ≡ effect s (get_or t i 0) → rest s (drop i t) ≡ bad
  rest_stops h e = rw (drop_one t i 0 h) (cons_stops s (get_or t i 0) (drop (i + 1) t) e)

-- the code's states: 0 is the one between two escapes
pub state_plain : (s : State) → ((s ≡ Plain) → ⊥) → eqb (state_said s) 0 ≡ false
state_plain Plain h = absurd (h refl)
state_plain Escape h = refl
state_plain (Hex None) h = refl
state_plain (Hex (Some v)) h = ne_eqb (16 + v) 0 (λ z. omega arith)

-- ---- measuring

-- n more bytes
abbrev pub plus : ℕ → Meaning ℕ → Meaning ℕ
plus n (word k) = word (n + k)
plus n bad = bad

pub plus_zero : (m : Meaning ℕ) → m ≡ plus 0 m
plus_zero (word k) = ap word (omega arith)
plus_zero bad = refl

pub plus_one : (n v : ℕ) (m : Meaning (List ℕ)) → plus n (measured (behind (v ∷ []) m)) ≡ plus (n + 1) (measured m)
plus_one n v (word t) = ap word (omega arith)
plus_one n v bad = refl

-- a word that has been measured, and a buffer that is shorter or is long enough
pub answered_short : (m : Meaning (List ℕ)) (o : List ℕ) (n : ℕ) → word n ≡ measured m → length o < n →
    (word (refused 15) ≡ answered_by m o) × (o ≡ filled_by m o)
answered_short (word t) o n e h =
    let k : n ≡ length t = cc in
    rw (lt-ltb (length o) (length t) (omega arith)) (refl, refl)
answered_short bad o n e h = let z : ◌≡◌ {A = ℕ} 0 1 = cc in absurd (omega arith)

pub answered_whole : (m : Meaning (List ℕ)) (o : List ℕ) (n : ℕ) → word n ≡ measured m → n ≤ length o →
    (word (bytes n) ≡ answered_by m o) × (fits m o ≡ true)
answered_whole (word t) o n e h =
    let k : n ≡ length t = cc in
    (rw (le-ltb (length o) (length t) (omega arith), k), le-leb (length t) (length o) (omega arith))
answered_whole bad o n e h = let z : ◌≡◌ {A = ℕ} 0 1 = cc in absurd (omega arith)

-- a text that is no word
pub answered_bad : (m : Meaning (List ℕ)) (o : List ℕ) → bad ≡ measured m → (bad ≡ answered_by m o) × (o ≡ filled_by m o)
answered_bad (word t) o e = let z : ◌≡◌ {A = ℕ} 0 1 = cc in absurd (omega arith)
answered_bad bad o e = (refl, refl)

-- ---- writing what a word stands for

behind_behind : (r s : List ℕ) (m : Meaning (List ℕ)) → behind r (behind s m) ≡ behind (r ++ s) m
behind_behind r s (word t) = ap word (sym (append_assoc r s t))
behind_behind r s bad = refl

pub behind_none : (m : Meaning (List ℕ)) → m ≡ behind [] m
behind_none (word t) = refl
behind_none bad = refl

-- the rest of a word that fits is a word
pub fits_rest : (u : Meaning (List ℕ)) (o s : List ℕ) → fits u o ≡ true → u ≡ behind s bad → ⊥
fits_rest u o s f e = false≢true (rw e at f)

-- and where it has one more byte, there is space for it
pub fits_one : (u : Meaning (List ℕ)) (o s : List ℕ) (v : ℕ) (m : Meaning (List ℕ)) →
    fits u o ≡ true → u ≡ behind s (behind (v ∷ []) m) → length s < length o
fits_one u o s v (word t) f e = omega (arith, leb-true (length (s ++ (v ∷ t))) (length o) (rw e at f), length-append s (v ∷ t))
fits_one u o s v bad f e = absurd (fits_rest u o s f e)

-- one byte stored behind those that are kept
pub more : (u : Meaning (List ℕ)) (o : List ℕ) (n v : ℕ) (m : Meaning (List ℕ)) → n < length o →
    u ≡ behind (take n o) (behind (v ∷ []) m) → u ≡ behind (take (n + 1) (set o n v)) m
more u o n v m h e = e ∙ behind_behind (take n o) (v ∷ []) m ∙ rw (store_one o n v h)

pub kept : (o p : List ℕ) (n v : ℕ) → drop n o ≡ drop n p → drop (n + 1) (set o n v) ≡ drop (n + 1) p
kept o p n v e = rw (drop-set-lt (n + 1) o n v (omega arith), ← drop-drop 1 n o, ← drop-drop 1 n p, e)

-- n bytes at the front of a buffer, and the rest as it was
pub front : (o p : List ℕ) (n : ℕ) → length o ≡ length p → n ≤ length o → drop n o ≡ drop n p → o ≡ filled (take n o) p
front o p n l h e =
    let k = length-take-le n o h in
    rw (k, le-ltb (length p) n (omega arith), ← e) (sym (take-append-drop n o))

-- o is p with n bytes stored at its front, which a word stands for before its rest m
pub record Stored (u : Meaning (List ℕ)) (o p : List ℕ) (n : ℕ) (m : Meaning (List ℕ)) : Type 0 where
  pub within : n ≤ length o
  pub long : length o ≡ length p
  pub as_it_was : drop n o ≡ drop n p
  pub front : u ≡ behind (take n o) m

module _ (u : Meaning (List ℕ)) (o p : List ℕ) (n : ℕ) (f : fits u p ≡ true) where
  -- one byte more
  pub stored_space : (v : ℕ) (m : Meaning (List ℕ)) → Stored u o p n (behind (v ∷ []) m) → n < length o
  stored_space v m r = omega (arith, fits_one u p (take n o) v m f r.front, length-take-le n o r.within, r.long)

  pub stored_one : (v : ℕ) (m : Meaning (List ℕ)) → Stored u o p n (behind (v ∷ []) m) → Stored u (set o n v) p (n + 1) m
  stored_one v m r =
      let h = stored_space v m r in
      record {
        within = simp length-set (omega (arith, h));
        long = simp length-set r.long;
        as_it_was = kept o p n v r.as_it_was;
        front = more u o n v m h r.front;
      }

  -- the rest of a word that fits is a word
  pub stored_bad : Stored u o p n bad → ⊥
  stored_bad r = fits_rest u p (take n o) f r.front

  -- a whole word
  pub stored_whole : Stored u o p n (word []) → o ≡ filled_by u p
  stored_whole r = rw (r.front, append-nil (take n o)) (front o p n r.long r.within r.as_it_was)

-- ---- printing

pub printed_letter : (b : ℕ) → 0 < letter_of b → printed b ≡ 92 ∷ letter_of b ∷ []
unfolding printed
printed_letter b h = rw (lt-ltb 0 (letter_of b) h)

pub printed_self : (b : ℕ) → letter_of b ≤ 0 → is_graphic b ≡ true → printed b ≡ b ∷ []
unfolding printed
printed_self b h e = rw (le-ltb 0 (letter_of b) h, e)

pub printed_hex : (b : ℕ) → letter_of b ≤ 0 → is_graphic b ≡ false → printed b ≡ 92 ∷ 120 ∷ hex_digit (b / 16) ∷ hex_digit (b % 16) ∷ []
unfolding printed
printed_hex b h e = rw (le-ltb 0 (letter_of b) h, e)

-- what the code answers of a byte's letter
pub letter_some : (b l : ℕ) → Some l ≡ some_letter (letter_of b) → printed b ≡ 92 ∷ l ∷ []
letter_some b l e =
    cases (ltb 0 (letter_of b))
    (λ h. let f = rw h at e in let k : l ≡ letter_of b = cc in rw k (printed_letter b (ltb-true 0 (letter_of b) h)))
    (λ h. let f = rw h at e in let z : ◌≡◌ {A = ℕ} 0 1 = cc in absurd (omega arith))

pub letter_none : (b : ℕ) → None ≡ some_letter (letter_of b) → letter_of b ≤ 0
letter_none b e =
    cases (ltb 0 (letter_of b))
    (λ h. let f = rw h at e in let z : ◌≡◌ {A = ℕ} 0 1 = cc in absurd (omega arith))
    (λ h. ltb-false 0 (letter_of b) h)

module _ (t : List ℕ) (i : ℕ) where
  pub spelled_ends : length t ≤ i → spelled (drop i t) ≡ []
  unfolding spelled
  spelled_ends h = rw (drop_of_length-le t h)

  pub spelled_one : i < length t → spelled (drop i t) ≡ printed (get_or t i 0) ++ spelled (drop (i + 1) t)
  unfolding spelled
  spelled_one h = rw (drop_one t i 0 h)

  pub spelled_length_lem : i < length t → length (spelled (drop i t)) ≡ length (printed (get_or t i 0)) + length (spelled (drop (i + 1) t))
  spelled_length_lem h = rw (spelled_one h) (length-append (printed (get_or t i 0)) (spelled (drop (i + 1) t)))

pub escaped_some : (t : List ℕ) → 0 < length t → escaped t ≡ spelled t
unfolding escaped
escaped_some [] h = absurd (omega arith)
escaped_some (b ∷ t) h = refl

pub escaped_none : (t : List ℕ) → length t ≡ 0 → escaped t ≡ 92 ∷ 101 ∷ []
unfolding escaped
escaped_none [] h = refl
escaped_none (b ∷ t) h = absurd (omega arith)

-- n bytes copied to a buffer, from k on
pub copied : (o s : List ℕ) (k n : ℕ) → length s ≡ n → k + n ≤ length o → take k o ++ (s ++ drop (k + n - k) (drop k o)) ≡ sets o k s
copied o s k n e h =
    let d : k + n - k ≡ n = omega arith in
    rw (sets-eq s o k (omega arith), e, d, drop-drop n k o) (sym (append_assoc (take k o) s (drop (k + n) o)))

-- after a run of stores: the part up to its end, and the part behind it
sets_front : (o : List ℕ) (k : ℕ) (s : List ℕ) → k ≤ length o → length (take k o ++ s) ≡ k + length s
sets_front o k s h = rw (length-append (take k o) s, length-take-le k o h)

pub take_sets : (o : List ℕ) (k : ℕ) (s : List ℕ) → k + length s ≤ length o → take (k + length s) (sets o k s) ≡ take k o ++ s
take_sets o k s h =
    rw (sets-eq s o k h) (take_at (take k o ++ s) (drop (k + length s) o) (k + length s) (sets_front o k s (omega arith)))

pub drop_sets : (o : List ℕ) (k : ℕ) (s : List ℕ) → k + length s ≤ length o →
    drop (k + length s) (sets o k s) ≡ drop (k + length s) o
drop_sets o k s h =
    rw (sets-eq s o k h) (drop_at (take k o ++ s) (drop (k + length s) o) (k + length s) (sets_front o k s (omega arith)))

-- one byte printed at n: what is kept, what is printed so far, and what is still to be printed
module _ (t o p : List ℕ) (n i : ℕ) (h : i < length t) (f : n + length (spelled (drop i t)) ≤ length o) where
  printed_fits : n + length (printed (get_or t i 0)) ≤ length o
  printed_fits = omega (arith, spelled_length_lem t i h)

  pub spell_space : n + length (printed (get_or t i 0)) + length (spelled (drop (i + 1) t)) ≤ length o
  spell_space = omega (arith, spelled_length_lem t i h)

  pub spell_kept : drop n o ≡ drop n p →
      drop (n + length (printed (get_or t i 0))) (sets o n (printed (get_or t i 0))) ≡ drop (n + length (printed (get_or t i 0))) p
  spell_kept e =
      drop_sets o n (printed (get_or t i 0)) printed_fits ∙
      rw (← drop-drop (length (printed (get_or t i 0))) n o, ← drop-drop (length (printed (get_or t i 0))) n p, e)

  pub spell_more : spelled t ≡ take n o ++ spelled (drop i t) →
      spelled t ≡ take (n + length (printed (get_or t i 0))) (sets o n (printed (get_or t i 0))) ++ spelled (drop (i + 1) t)
  spell_more e =
      e ∙
      rw (take_sets o n (printed (get_or t i 0)) printed_fits, spelled_one t i h)
      (sym (append_assoc (take n o) (printed (get_or t i 0)) (spelled (drop (i + 1) t))))

-- all bytes printed
pub spell_whole : (t o p : List ℕ) (n i : ℕ) → length t ≤ i → n ≤ length o → drop n o ≡ drop n p →
    spelled t ≡ take n o ++ spelled (drop i t) → o ≡ spelled t ++ drop (length (spelled t)) p
spell_whole t o p n i h k d e =
    let w : spelled t ≡ take n o = e ∙ rw (spelled_ends t i h) (append-nil (take n o)) in
    rw (w, length-take-le n o k, ← d) (sym (take-append-drop n o))

-- a length that was measured against a limit
pub sized_refused : (n limit k : ℕ) → refused k ≡ sized n limit → ltb limit n ≡ true
sized_refused n limit k e =
    cases (ltb limit n) (λ b. b) (λ b. let f = rw b at e in let z : ◌≡◌ {A = ℕ} 0 1 = cc in absurd (omega arith))

pub sized_bytes : (n limit k : ℕ) → bytes k ≡ sized n limit → ltb limit n ≡ false
sized_bytes n limit k e =
    cases (ltb limit n) (λ b. let f = rw b at e in let z : ◌≡◌ {A = ℕ} 0 1 = cc in absurd (omega arith)) (λ b. b)

-- ---- what is printed is read back

-- a byte
abbrev pub is_byte : ℕ → Bool
is_byte b = ltb b 256

hex_digit_lem : (v : ℕ) → v < 16 → hex_value (hex_digit v) ≡ v
unfolding hex_value hex_digit
hex_digit_lem v h = eqb→eq _ _ (below (λ k. eqb (hex_value (hex_digit k)) k) 16 tt v h)

second : (q r : ℕ) → q < 16 → r < 16 → gives (q * 16 + r) ≡ effect (16 + q) (hex_digit r)
unfolding effect digit
second q r hq hr =
    let e : (16 + q) % 16 ≡ q = omega arith in
    rw (
      ne_eqb (16 + q) 0 (λ z. omega arith),
      ne_eqb (16 + q) 1 (λ z. omega arith),
      ne_eqb (16 + q) 2 (λ z. omega arith),
      hex_digit_lem r hr,
      lt-ltb r 16 hr,
      e,
    )

read_hex : (q r : ℕ) (t : List ℕ) → q < 16 → r < 16 →
    unescaped (92 ∷ 120 ∷ hex_digit q ∷ hex_digit r ∷ t) ≡ behind ((q * 16 + r) ∷ []) (unescaped t)
read_hex q r t hq hr =
    cons_moves 0 92 (120 ∷ hex_digit q ∷ hex_digit r ∷ t) 1 (unfold effect plain in refl) ∙
    cons_moves 1 120 (hex_digit q ∷ hex_digit r ∷ t) 2 (unfold effect letter in refl) ∙
    cons_moves 2 (hex_digit q) (hex_digit r ∷ t) (16 + q) (unfold effect digit in rw (hex_digit_lem q hq, lt-ltb q 16 hq)) ∙
    cons_gives (16 + q) (hex_digit r) t (q * 16 + r) (second q r hq hr)

no_letter : (b : ℕ) → eqb b 32 ≡ false → eqb b 10 ≡ false → eqb b 92 ≡ false → letter_of b ≤ 0
unfolding letter_of
no_letter b s n k = rw (s, n, k) (omega arith)

itself : (b : ℕ) → eqb b 92 ≡ false → is_graphic b ≡ true → gives b ≡ effect 0 b
unfolding effect plain
itself b k g = rw (k, g)

-- a byte without a letter
read_other : (b : ℕ) (t : List ℕ) → b < 256 → letter_of b ≤ 0 → eqb b 92 ≡ false →
    unescaped (printed b ++ t) ≡ behind (b ∷ []) (unescaped t)
read_other b t h l k =
    cases (is_graphic b) (λ g. rw (printed_self b l g) (cons_gives 0 b t b (itself b k g)))
    (λ g. let e : b / 16 * 16 + b % 16 ≡ b = omega arith in
    rw (printed_hex b l g) (read_hex (b / 16) (b % 16) t (omega arith) (omega arith) ∙ rw e))

read_printed : (b : ℕ) (t : List ℕ) → b < 256 → unescaped (printed b ++ t) ≡ behind (b ∷ []) (unescaped t)
unfolding rest effect plain letter printed letter_of
read_printed b t h =
    cases (eqb b 32) (λ e. rw (eqb-true b 32 e))
    (λ s. cases (eqb b 10) (λ e. rw (eqb-true b 10 e))
    (λ n. cases (eqb b 92) (λ e. rw (eqb-true b 92 e)) (λ k. read_other b t h (no_letter b s n k) k)))

read_spelled : (t : List ℕ) → all is_byte t ≡ true → unescaped (spelled t) ≡ word t
unfolding spelled all
read_spelled [] e = unfold rest in refl
read_spelled (b ∷ t) e =
    let a = and_true (is_byte b) (all is_byte t) e in
    read_printed b (spelled t) (ltb-true b 256 a.0) ∙ rw (read_spelled t a.1)

-- the word that is printed for some bytes stands for them
pub unescaped_escaped : (t : List ℕ) → all is_byte t ≡ true → unescaped (escaped t) ≡ word t
unfolding escaped
unescaped_escaped [] e = unfold rest effect plain letter in refl
unescaped_escaped (b ∷ t) e = read_spelled (b ∷ t) e

-- ---- a printed word has bytes from 33 to 126 only, so it can stand in a line

graphic_digit : (v : ℕ) → v < 16 → is_graphic (hex_digit v) ≡ true
unfolding is_graphic hex_digit
graphic_digit v h = T_true _ (below (λ k. is_graphic (hex_digit k)) 16 tt v h)

printed_other : (b : ℕ) → b < 256 → letter_of b ≤ 0 → all is_graphic (printed b) ≡ true
unfolding all
printed_other b h l =
    cases (is_graphic b) (λ g. rw (printed_self b l g, g))
    (λ g. rw (printed_hex b l g, graphic_digit (b / 16) (omega arith), graphic_digit (b % 16) (omega arith)) (unfold is_graphic in refl))

printed_graphic : (b : ℕ) → b < 256 → all is_graphic (printed b) ≡ true
unfolding all printed letter_of is_graphic
printed_graphic b h =
    cases (eqb b 32) (λ e. rw (eqb-true b 32 e))
    (λ s. cases (eqb b 10) (λ e. rw (eqb-true b 10 e))
    (λ n. cases (eqb b 92) (λ e. rw (eqb-true b 92 e)) (λ k. printed_other b h (no_letter b s n k))))

spelled_graphic : (t : List ℕ) → all is_byte t ≡ true → all is_graphic (spelled t) ≡ true
unfolding spelled
spelled_graphic [] e = unfold all in refl
spelled_graphic (b ∷ t) e =
    let a = and_true (is_byte b) (all is_byte t) (unfold all in e) in
    all_append is_graphic (printed b) (spelled t) ∙
    rw (printed_graphic b (ltb-true b 256 a.0), spelled_graphic t a.1)

pub escaped_graphic : (t : List ℕ) → all is_byte t ≡ true → all is_graphic (escaped t) ≡ true
unfolding escaped
escaped_graphic [] e = unfold all is_graphic in refl
escaped_graphic (b ∷ t) e = spelled_graphic (b ∷ t) e
