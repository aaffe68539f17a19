-- Reading a text as the code does: the separator from the right, the checksum over the lower-case form.
use Prim.Native.Nat.{ℕ, zero, suc, ◌+◌, ◌-◌, ◌<◌, ◌≤◌, min}
use mathlib.Core.Path.{◌≡◌, refl, sym, ap, ap₂, ◌∙◌}
use mathlib.Core.Bool.{Bool, true, false, ◌&&◌, not, false≢true}
use mathlib.Core.List.{List, [], ◌∷◌, ◌++◌, map}
use lib.Dec.{eqb, ltb, leb}
use lib.ListN.{length, take, drop, get_or, length-map, length-drop}
use native.Mathlib.Nat.{min-eq_left}
use native.Mathlib.Omega.{arith}
use borrow.Author.Tests.{leb-true, leb-false, lt-ltb, le-ltb, le-leb, lt-leb, eq-eqb, ne_eqb}
use Rattle.std.specs.List.{fold}
use Rattle.std.specs.Prelude.{Some, None}
use Rattle.refusal.specs.Pick.{pick}
use Rattle.refusal.specs.Run.{all, run, is_graphic}
use Rattle.refusal.specs.Same.{same}
use Rattle.refusal.proofs.Laws.Booleans.{cases, and_true, and_assoc, and_true_right, and_false_right}
use Rattle.refusal.proofs.Laws.Pick.{pick_same}
use Rattle.refusal.proofs.Laws.Lists.{part_rest}
use Rattle.symbols.specs.Charset.{value_of, is_upper, lower}
use Rattle.symbols.specs.Checksum.{are_symbols, polymod, expanded}
use Rattle.symbols.specs.Regroup.{is_whole, bytes}
use Rattle.bech32.specs.Calls.{text_number, name_of, read_answer, place_given, read_name, read_buffer, mark_of}
use Rattle.refusal.specs.Output.{refused, bytes as accepted}
use Rattle.bech32.specs.Text.{Form, parsed, parse, human_part, is_name_byte, is_name, is_not_one, is_cased, separator, name_in, human_in, values_in, payload_in, has_tail, is_closed, is_human, is_formed, place_in}
use Rattle.symbols.specs.Calls.{value_at, closes}
use Rattle.bech32.specs.Steps.{name_or, has_head, name_at, tail_number}
use Rattle.symbols.specs.Steps.{Values, value_in}
use Rattle.symbols.proofs.Laws.Charset.{upper_bounds, values_by}
use Rattle.symbols.proofs.Laws.Checksum.{polymod_append}
use Rattle.symbols.proofs.Laws.Folds.{closes_is}
use Rattle.symbols.proofs.Laws.Maps.{map_take, map_drop, map_map, run_map}
use Rattle.bech32.proofs.Laws.Text.{parse_cases}

-- every byte of a class, as a fold with no early exit
all_fold_from : (class : ℕ → Bool) (t : List ℕ) (good : Bool) → fold (λ a b. a && class b) good t ≡ (good && all class t)
unfolding all
all_fold_from class [] good = sym (and_true_right good)
all_fold_from class (b ∷ t) good = all_fold_from class t (good && class b) ∙ sym (and_assoc good (class b) (all class t))

pub all_fold : (class : ℕ → Bool) (t : List ℕ) → fold (λ a b. a && class b) true t ≡ all class t
all_fold class t = all_fold_from class t true

-- ---- the separator

-- none behind, so where one stands it is the last
pub separator_here : (t : List ℕ) (i : ℕ) → i < length t → get_or t i 0 ≡ 49 → all is_not_one (drop (i + 1) t) ≡ true → separator t ≡ i
unfolding separator all
separator_here [] i h e a = absurd (omega arith)
separator_here (b ∷ t) zero h e a = rw (a, eq-eqb b 49 e)
separator_here (b ∷ t) (suc i) h e a =
    let n : suc i + 1 ≡ suc (i + 1) = omega arith in
    rw (has_one t i (omega arith) e) (ap suc (separator_here t i (omega arith) e (rw n at a)))
  where
    has_one : (t : List ℕ) (i : ℕ) → i < length t → get_or t i 0 ≡ 49 → all is_not_one t ≡ false
    has_one [] i h e = absurd (omega arith)
    has_one (b ∷ t) zero h e = rw (eq-eqb b 49 e)
    has_one (b ∷ t) (suc i) h e = cases (is_not_one b) (λ q. rw q (has_one t i (omega arith) e)) (λ q. rw q)

-- none at all
pub separator_none : (t : List ℕ) → all is_not_one t ≡ true → separator t ≡ length t
unfolding separator all
separator_none [] a = refl
separator_none (b ∷ t) a = cases (eqb b 49) (λ e. absurd (false≢true (sym (rw e) ∙ a))) (λ e. let q : all is_not_one t ≡ true = rw e at a in rw (q, e))

pub separator_le : (t : List ℕ) → separator t ≤ length t
unfolding separator
separator_le [] = omega arith
separator_le (b ∷ t) = cases (all is_not_one t) (λ a. cases (eqb b 49) (λ e. rw (a, e) (omega arith)) (λ e. rw (a, e) (omega arith))) (λ a. rw a (omega (arith, separator_le t)))

-- nothing before a text
pub empty_before : (s t : List ℕ) → length s ≡ 0 → s ++ t ≡ t
empty_before [] t h = refl
empty_before (b ∷ s) t h = absurd (omega arith)

-- the separator is no letter: it stands at the same place in lower case
lower_one : (b : ℕ) → eqb (lower b) 49 ≡ eqb b 49
unfolding lower
lower_one b =
    cases (is_upper b)
    (λ e. let w = upper_bounds b e in rw e (ne_eqb (b + 32) 49 (omega arith) ∙ sym (ne_eqb b 49 (omega arith))))
    (λ e. rw e)

lower_ones : (t : List ℕ) → all is_not_one (map lower t) ≡ all is_not_one t
unfolding all
lower_ones [] = refl
lower_ones (b ∷ t) = ap₂ (λ x y. not x && y) (lower_one b) (lower_ones t)

pub separator_lower : (t : List ℕ) → separator (map lower t) ≡ separator t
unfolding separator
separator_lower [] = refl
separator_lower (b ∷ t) = rw (lower_ones t, lower_one b, separator_lower t, length-map t lower)

-- ---- the parts of the lower-case form

pub human_lower : (t : List ℕ) → human_in (map lower t) ≡ map lower (take (separator t) t)
human_lower t = ap (λ n. take n (map lower t)) (separator_lower t) ∙ map_take lower (separator t) t

values_part : (n : ℕ) (t : List ℕ) → map value_of (drop n (map lower t)) ≡ map value_at (drop n t)
values_part n t = ap (map value_of) (map_drop lower n t) ∙ map_map value_of lower (drop n t)

pub values_lower : (t : List ℕ) → values_in (map lower t) ≡ map value_at (drop (separator t + 1) t)
values_lower t = ap (λ n. map value_of (drop (n + 1) (map lower t))) (separator_lower t) ∙ values_part (separator t + 1) t

-- seven bytes from the separator on: it, and six characters
seven : (s n m : ℕ) → m ≡ n - (s + 1) → (ltb s n && leb 6 m) ≡ leb 7 (n - s)
seven s n m e =
    cases (leb 7 (n - s))
    (λ q. let h = leb-true 7 (n - s) q in rw (q, lt-ltb s n (omega arith), le-leb 6 m (omega arith)))
    (λ q. let h = leb-false 7 (n - s) q in rw (q, lt-leb 6 m (omega arith)) (and_false_right (ltb s n)))

-- the tail of the lower-case form, with the separator at hand
pub tail_lower : (t : List ℕ) → has_tail (map lower t) ≡ (leb 7 (length t - separator t) && are_symbols (values_in (map lower t)))
unfolding has_tail
tail_lower t =
    ap (λ b. b && are_symbols (values_in (map lower t)))
    (ap₂ (λ s n. ltb s n && leb 6 (length (values_in (map lower t)))) (separator_lower t) (length-map t lower)
    ∙ seven (separator t) (length t) (length (values_in (map lower t)))
    (ap length (values_lower t) ∙ length-map (drop (separator t + 1) t) value_at ∙ length-drop (separator t + 1) t))

-- the checksum of the lower-case form: the values behind the separator close from the state of the human part
closes_lower : (t : List ℕ) → (are_symbols (values_in (map lower t)) && is_closed (map lower t)) ≡
    closes (polymod 1 (expanded (map lower (take (separator t) t)))) (map value_at (drop (separator t + 1) t))
unfolding is_closed
closes_lower t =
    let vs = map value_at (drop (separator t + 1) t) in
    let h = map lower (take (separator t) t) in
    ap₂ (λ (x y : List ℕ). are_symbols x && eqb (polymod 1 (expanded y ++ x)) 1) (values_lower t) (human_lower t)
    ∙ ap (λ p. are_symbols vs && eqb p 1) (polymod_append (expanded h) vs 1)
    ∙ sym (closes_is vs (polymod 1 (expanded h)))

-- both together
pub checked_is : (t : List ℕ) → (has_tail (map lower t) && is_closed (map lower t)) ≡
    (leb 7 (length t - separator t) && closes (polymod 1 (expanded (map lower (take (separator t) t)))) (map value_at (drop (separator t + 1) t)))
checked_is t =
    ap (λ b. b && is_closed (map lower t)) (tail_lower t)
    ∙ sym (and_assoc (leb 7 (length t - separator t)) (are_symbols (values_in (map lower t))) (is_closed (map lower t)))
    ∙ ap (λ b. leb 7 (length t - separator t) && b) (closes_lower t)

-- the payload's values in the lower-case form, by the part of the text between separator and checksum
pub payload_lower : (t : List ℕ) → payload_in (map lower t) ≡ map value_at (take (length t - 6 - (separator t + 1)) (drop (separator t + 1) t))
payload_lower t =
    let s = separator t in
    let d = drop (s + 1) t in
    let n : length (map value_at d) - 6 ≡ length t - 6 - (s + 1) = omega (arith, length-map d value_at, length-drop (s + 1) t) in
    ap (λ vs. take (length vs - 6) vs) (values_lower t) ∙ ap (λ m. take m (map value_at d)) n ∙ map_take value_at (length t - 6 - (s + 1)) d

-- ---- the tests in the order of the code

-- the form: what stands before the tail, and the tail's characters
formed_is : (k : Form) (t : List ℕ) → is_formed k t ≡ (has_head k t && are_symbols (values_in (map lower t)))
unfolding is_formed has_head
formed_is k t =
    rw (tail_lower t)
    (cases (are_symbols (values_in (map lower t)))
    (λ e. rw (e, and_true_right (leb 7 (length t - separator t)), and_true_right (leb (length t) 1024 && is_cased k t && leb 7 (length t - separator t) && is_human k (human_in (map lower t)))))
    (λ e. rw (e, and_false_right (leb 7 (length t - separator t)), and_false_right (leb (length t) 1024 && is_cased k t), and_false_right (leb (length t) 1024 && is_cased k t && leb 7 (length t - separator t) && is_human k (human_in (map lower t))))))

-- six characters stand behind the separator
pub head_long : (k : Form) (t : List ℕ) → has_head k t ≡ true → separator t + 7 ≤ length t
unfolding has_head
head_long k t e =
    let a = and_true (leb (length t) 1024 && is_cased k t && leb 7 (length t - separator t)) (is_human k (human_in (map lower t))) e in
    let b = leb-true 7 (length t - separator t) (and_true (leb (length t) 1024 && is_cased k t) (leb 7 (length t - separator t)) a.0).1 in
    omega (arith, separator_le t)

-- the name is not empty
head_named : (k : Form) (t : List ℕ) → has_head k t ≡ true → 1 ≤ length (name_in k (human_in (map lower t)))
unfolding has_head is_human is_name
head_named k t e =
    let n = name_in k (human_in (map lower t)) in
    let a = and_true (leb (length t) 1024 && is_cased k t && leb 7 (length t - separator t)) (is_human k (human_in (map lower t))) e in
    let f = and_true (same (human_in (map lower t)) (human_part k n)) (is_name n) a.1 in
    let g = and_true (leb 1 (length n) && leb (length n) 32) (all is_name_byte n) f.1 in
    leb-true 1 (length n) (and_true (leb 1 (length n)) (leb (length n) 32) g.0).0

-- so it tells whether the head is one
pub is_head : (k : Form) (t : List ℕ) → (length (name_at k t) ≡ 0 → ⊥) → has_head k t ≡ true
is_head k t h = cases (has_head k t) (λ e. e) (λ e. absurd (h (rw e)))

pub no_head : (k : Form) (t : List ℕ) → length (name_at k t) ≡ 0 → has_head k t ≡ false
no_head k t h = cases (has_head k t) (λ e. let q : length (name_in k (human_in (map lower t))) ≡ 0 = rw e at h in absurd (omega (arith, head_named k t e))) (λ e. e)

-- where all else holds, the human part decides
pub human_decides : (k : Form) (t : List ℕ) → length t ≤ 1024 → 7 ≤ length t - separator t → is_cased k t ≡ true → name_at k t ≡ name_or k (map lower (take (separator t) t))
unfolding has_head
human_decides k t n m a = rw (le-leb (length t) 1024 n, a, le-leb 7 (length t - separator t) m) (ap (name_or k) (human_lower t))

-- a tail whose checksum holds
pub tail_closed : (t : List ℕ) → (has_tail (map lower t) && is_closed (map lower t)) ≡ true → tail_number (map lower t) ≡ pick (is_whole (payload_in (map lower t))) 0 22
tail_closed t e =
    let a = and_true (has_tail (map lower t)) (is_closed (map lower t)) e in
    let b = and_true (leb 7 (length t - separator t)) (are_symbols (values_in (map lower t))) (sym (tail_lower t) ∙ a.0) in
    rw (b.1, a.1)

-- and one whose checksum does not
pub tail_open : (t : List ℕ) → separator t + 7 ≤ length t → (has_tail (map lower t) && is_closed (map lower t)) ≡ false →
    tail_number (map lower t) ≡ pick (are_symbols (map value_at (drop (separator t + 1) t))) 21 16
tail_open t h e =
    ap (λ vs. pick (are_symbols vs) (pick (is_closed (map lower t)) (pick (is_whole (payload_in (map lower t))) 0 22) 21) 16) (values_lower t)
    ∙ by_tests (are_symbols (map value_at (drop (separator t + 1) t))) (is_closed (map lower t)) (pick (is_whole (payload_in (map lower t))) 0 22) unclosed
  where
    unclosed : are_symbols (map value_at (drop (separator t + 1) t)) ≡ true → is_closed (map lower t) ≡ false
    unclosed a =
        let b : has_tail (map lower t) ≡ true = tail_lower t ∙ ap₂ ◌&&◌ (le-leb 7 (length t - separator t) (omega arith)) (ap are_symbols (values_lower t) ∙ a) in
        sym (ap (λ b. b && is_closed (map lower t)) b) ∙ e

    by_tests : (a c : Bool) (n : ℕ) → (a ≡ true → c ≡ false) → pick a (pick c n 21) 16 ≡ pick a 21 16
    by_tests true c n u = ap (λ c. pick c n 21) (u refl)
    by_tests false c n u = refl

-- a whole tail is one
pub tail_whole : (t : List ℕ) → separator t + 7 ≤ length t → tail_number (map lower t) ≡ 0 → has_tail (map lower t) ≡ true
tail_whole t h e =
    tail_lower t
    ∙ ap₂ ◌&&◌ (le-leb 7 (length t - separator t) (omega arith))
    (by_test (are_symbols (values_in (map lower t))) (pick (is_closed (map lower t)) (pick (is_whole (payload_in (map lower t))) 0 22) 21) e)
  where
    by_test : (a : Bool) (n : ℕ) → pick a n 16 ≡ 0 → a ≡ true
    by_test true n e = refl
    by_test false n e = absurd (omega arith)

-- ---- the answers

-- without a head the text has not the form
pub number_none : (k : Form) (t : List ℕ) → has_head k t ≡ false → text_number (parse k t) ≡ 16
number_none k t e =
    let n : is_formed k t ≡ false = formed_is k t ∙ rw e in
    parse_cases (λ p. text_number p ≡ 16) k t
    (λ f g h. absurd (false≢true (sym n ∙ f))) (λ f g h. absurd (false≢true (sym n ∙ f))) (λ f g. absurd (false≢true (sym n ∙ f))) (λ f. refl)

-- with one, the tail decides
module _ (k : Form) (t : List ℕ) (e : has_head k t ≡ true) where
  characters : is_formed k t ≡ are_symbols (values_in (map lower t))
  characters = formed_is k t ∙ rw e

  pub number_is : text_number (parse k t) ≡ tail_number (map lower t)
  number_is =
      parse_cases (λ p. text_number p ≡ tail_number (map lower t)) k t
      (λ f g h. rw (sym characters ∙ f, g, h))
      (λ f g h. rw (sym characters ∙ f, g, h))
      (λ f g. rw (sym characters ∙ f, g))
      (λ f. rw (sym characters ∙ f))

  pub mark_is : (plugin : List ℕ) → mark_of (parse k t) plugin ≡ pick (same (map lower plugin) (name_at k t)) (tail_number (map lower t)) 16
  mark_is plugin =
      parse_cases (λ p. mark_of p plugin ≡ pick (same (map lower plugin) (name_at k t)) (tail_number (map lower t)) 16) k t
      (λ f g h. rw (e, sym characters ∙ f, g, h))
      (λ f g h. rw (e, sym characters ∙ f, g, h))
      (λ f g. rw (e, sym characters ∙ f, g))
      (λ f. rw (sym characters ∙ f) (pick_same (same (map lower plugin) []) 16 ∙ sym (pick_same (same (map lower plugin) (name_at k t)) 16)))

  -- a tail that is whole
  pub text_is : tail_number (map lower t) ≡ 0 → parse k t ≡ parsed (name_at k t) (bytes (payload_in (map lower t)))
  text_is z =
      parse_cases (λ p. text_number p ≡ 0 → p ≡ parsed (name_at k t) (bytes (payload_in (map lower t)))) k t
      (λ f g h y. rw e)
      (λ f g h y. absurd (omega arith)) (λ f g y. absurd (omega arith)) (λ f y. absurd (omega arith)) (number_is ∙ z)

-- another plugin's name
pub mark_none : (k : Form) (t plugin : List ℕ) → has_head k t ≡ false → mark_of (parse k t) plugin ≡ 16
mark_none k t plugin e = ap (λ n. pick (same (map lower plugin) (name_of (parse k t))) n 16) (number_none k t e) ∙ pick_same (same (map lower plugin) (name_of (parse k t))) 16

-- a refusal, with the place where it is 16
pub refuses : (k : Form) (t o : List ℕ) (n : ℕ) → text_number (parse k t) ≡ n → eqb n 0 ≡ false →
    (refused n ≡ read_answer (parse k t) o) × (pick (eqb n 16) (Some (place_in t)) None ≡ place_given (parse k t)) × ([] ≡ read_name (parse k t) o) × (o ≡ read_buffer (parse k t) o)
refuses k t o n e z =
    let y : eqb (text_number (parse k t)) 0 ≡ false = ap (λ n. eqb n 0) e ∙ z in
    (rw y (ap refused (sym e)), ap (λ n. pick (eqb n 16) (Some (place_in t)) None) (sym e) ∙ place, rw y, rw y)
  where
    place : pick (eqb (text_number (parse k t)) 16) (Some (place_in t)) None ≡ place_given (parse k t)
    place = parse_cases (λ p. pick (eqb (text_number p) 16) (Some (place_in t)) None ≡ place_given p) k t (λ f g h. refl) (λ f g h. refl) (λ f g. refl) (λ f. refl)

module _ (k : Form) (t o name payload : List ℕ) (e : parse k t ≡ parsed name payload) where
  pub reads_short : length o < length payload →
      (refused 15 ≡ read_answer (parse k t) o) × (None ≡ place_given (parse k t)) × ([] ≡ read_name (parse k t) o) × (o ≡ read_buffer (parse k t) o)
  reads_short h = rw (e, lt-ltb (length o) (length payload) h) (refl, refl, refl, refl)

  pub reads : length payload ≤ length o →
      (accepted (length payload) ≡ read_answer (parse k t) o) × (None ≡ place_given (parse k t)) × (name ≡ read_name (parse k t) o) × (payload ++ drop (length payload) o ≡ read_buffer (parse k t) o)
  reads h = rw (e, le-ltb (length o) (length payload) h) (refl, refl, refl, refl)

-- ---- the place

-- a byte outside 33 to 126 before the separator, or there
pub place_graphic : (t : List ℕ) → run is_graphic t ≤ separator t → run is_graphic t ≡ place_in t
unfolding place_in
place_graphic t h = sym (min-eq_left (omega arith))

-- else the least of two
pub place_least : (t : List ℕ) (b : ℕ) → b ≡ separator t + 1 + run (λ v. ltb v 32) (map value_at (drop (separator t + 1) t)) → place_in t ≡ min (run is_graphic t) b
unfolding place_in
place_least t b e = ap (λ n. min (run is_graphic t) (separator t + 1 + n)) (sym (run_map value_at (λ v. ltb v 32) (drop (separator t + 1) t))) ∙ ap (min (run is_graphic t)) (sym e)

-- the values behind the separator by the table, and those of the payload
module _ (f : List ℕ) (v : Values f) (t : List ℕ) (b : (i : ℕ) → get_or t i 0 < 256) where
  pub data_values : map (value_in f) (drop (separator t + 1) t) ≡ map value_at (drop (separator t + 1) t)
  data_values =
      ap (map (value_in f)) (sym (part_rest (separator t + 1) t))
      ∙ values_by f v (length t - (separator t + 1)) (separator t + 1) t b
      ∙ ap (map value_at) (part_rest (separator t + 1) t)

  pub payload_values :
      map (value_in f) (take (length t - 6 - (separator t + 1)) (drop (separator t + 1) t)) ≡ map value_at (take (length t - 6 - (separator t + 1)) (drop (separator t + 1) t))
  payload_values = values_by f v (length t - 6 - (separator t + 1)) (separator t + 1) t b
