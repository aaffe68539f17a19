-- What is wrong with a text: each number exactly where the paper's sentence says, the place, and an entry's mark.
use Prim.Native.Nat.{ℕ, suc, ◌+◌, ◌-◌, ◌<◌, ◌≤◌, min}
use mathlib.Core.Path.{◌≡◌, refl, sym, ap, ap₂, ◌∙◌, subst}
use mathlib.Core.Bool.{Bool, true, false, ◌&&◌, not, false≢true}
use mathlib.Core.List.{List, [], ◌∷◌, ◌++◌, map, append_assoc}
use lib.Dec.{eqb, ltb, leb}
use lib.ListN.{length, take, drop, get_or, length-map, length-append, drop_of_length-le}
use lib.Seq.{drop_at, take-append_seam, get_or-drop}
use native.Mathlib.Nat.{min-eq_left, min-eq_right}
use native.Mathlib.Omega.{arith}
use borrow.Author.Tests.{leb-true, leb-false, le-leb, lt-ltb, eqb-true, eq-eqb, ltb-true, ltb-false}
use Rattle.refusal.specs.Pick.{pick}
use Rattle.refusal.specs.Run.{all, run, is_graphic}
use Rattle.refusal.specs.Same.{same}
use Rattle.refusal.proofs.Laws.Pick.{pick_same}
use Rattle.refusal.proofs.Laws.Booleans.{cases, and_true, true_and}
use Rattle.refusal.proofs.Laws.Run.{run_le, run_stop, run_in_class}
use Rattle.refusal.proofs.Laws.Same.{same_refl, same_eq}
use Rattle.symbols.specs.Charset.{place_of, value_of, lower}
use Rattle.symbols.specs.Checksum.{are_symbols, polymod, expanded}
use Rattle.symbols.specs.Regroup.{bytes, is_whole}
use Rattle.symbols.proofs.Laws.Maps.{map_take}
use Rattle.bech32.specs.Text.{Form, human_part, is_cased, is_not_one, separator, name_in, parsed, malformed, bad_checksum, leftover_bits, human_in, values_in, payload_in, has_tail, is_closed, is_human, is_formed, is_in_alphabet, place_in, parse, Read}
use Rattle.bech32.specs.Calls.{mark_of}
use Rattle.bech32.specs.Faults.{Formed, Closed, payload_part, Whole, Foreign, not_graphic, not_in_alphabet, Place, Judged, Marked}
use Rattle.bech32.proofs.Laws.Text.{separator_is, separator_split, name_in_lem, human_ok, has_form, Plain, parse_cases, parse_iff, text_parse}
use Rattle.bech32.proofs.Laws.Parsing.{separator_here}

-- ---- the form

-- what stands behind the separator
tail_in : List ℕ → List ℕ
tail_in l = drop (separator l + 1) l

-- a text that passes the tests has the form
formed_from : (k : Form) (t : List ℕ) → is_formed k t ≡ true → Formed k t (name_in k (human_in (map lower t))) (tail_in (map lower t))
unfolding tail_in has_tail
formed_from k t e =
    let p = has_form k t e in
    let l = map lower t in
    let b = and_true (ltb (separator l) (length l) && leb 6 (length (values_in l))) (are_symbols (values_in l)) p.tail in
    let c = and_true (ltb (separator l) (length l)) (leb 6 (length (values_in l))) b.0 in
    record {
      limit = p.limit;
      cased = p.cased;
      text = separator_split l (ltb-true (separator l) (length l) c.0) ∙ ap (λ h. h ++ 49 ∷ drop (separator l + 1) l) p.human;
      named = p.named;
      six = omega (arith, leb-true 6 (length (values_in l)) c.1, length-map (drop (separator l + 1) l) value_of);
      characters = b.1;
    }

-- "1" is no character of the alphabet
one_outside : value_of 49 ≡ 32
unfolding place_of
one_outside = refl

no_ones : (d : List ℕ) → are_symbols (map value_of d) ≡ true → all is_not_one d ≡ true
unfolding all
no_ones [] a = refl
no_ones (b ∷ d) a =
    let c = and_true (ltb (value_of b) 32) (are_symbols (map value_of d)) a in
    true_and (is_not_one b) (all is_not_one d)
    (cases (eqb b 49) (λ e. absurd (omega (arith, ap value_of (eqb-true b 49 e), one_outside, ltb-true (value_of b) 32 c.0))) (λ e. ap not e))
    (no_ones d c.1)

behind_one : (h d : List ℕ) → drop (length h + 1) (h ++ 49 ∷ d) ≡ d
behind_one h d = ap (drop (length h + 1)) (sym (append_assoc h (49 ∷ []) d)) ∙ drop_at (h ++ (49 ∷ [])) d (length h + 1) (length-append h (49 ∷ []))

-- the parts of a text of the form
module _ (k : Form) (t name tail : List ℕ) (f : Formed k t name tail) where
  cut_at : separator (map lower t) ≡ length (human_part k name)
  cut_at = ap separator f.text ∙ separator_is (human_part k name) tail (no_ones tail f.characters)

  human_part_lem : human_in (map lower t) ≡ human_part k name
  human_part_lem = ap₂ take cut_at f.text ∙ take-append_seam (human_part k name) (49 ∷ tail)

  tail_part : tail_in (map lower t) ≡ tail
  unfolding tail_in
  tail_part = ap₂ (λ n l. drop (n + 1) l) cut_at f.text ∙ behind_one (human_part k name) tail

  values_part : values_in (map lower t) ≡ map value_of tail
  unfolding tail_in
  values_part = ap (map value_of) tail_part

  name_part : name_in k (human_in (map lower t)) ≡ name
  name_part = ap (name_in k) human_part_lem ∙ name_in_lem k name

  has_tail_lem : has_tail (map lower t) ≡ true
  unfolding has_tail
  has_tail_lem =
      let l = map lower t in
      true_and (ltb (separator l) (length l) && leb 6 (length (values_in l))) (are_symbols (values_in l))
      (true_and (ltb (separator l) (length l)) (leb 6 (length (values_in l)))
      (lt-ltb (separator l) (length l) (omega (arith, cut_at, ap length f.text, length-append (human_part k name) (49 ∷ tail))))
      (le-leb 6 (length (values_in l)) (omega (arith, ap length values_part, length-map tail value_of, f.six))))
      (ap are_symbols values_part ∙ f.characters)

  formed_to : is_formed k t ≡ true
  unfolding is_formed
  formed_to =
      let l = map lower t in
      true_and (leb (length t) 1024 && is_cased k t && has_tail l) (is_human k (human_in l))
      (true_and (leb (length t) 1024 && is_cased k t) (has_tail l) (true_and (leb (length t) 1024) (is_cased k t) (le-leb (length t) 1024 f.limit) f.cased) has_tail_lem)
      (ap (is_human k) human_part_lem ∙ human_ok k name f.named)

  -- its checksum
  closed_is : is_closed (map lower t) ≡ eqb (polymod 1 (expanded (human_part k name) ++ map value_of tail)) 1
  unfolding is_closed
  closed_is = ap₂ (λ h vs. eqb (polymod 1 (expanded h ++ vs)) 1) human_part_lem values_part

  closed_from : is_closed (map lower t) ≡ true → Closed k name tail
  closed_from e = eqb-true _ 1 (sym closed_is ∙ e)

  closed_to : Closed k name tail → is_closed (map lower t) ≡ true
  closed_to c = closed_is ∙ eq-eqb _ 1 c

  -- its payload
  whole_is : is_whole (payload_in (map lower t)) ≡ is_whole (map value_of (payload_part tail))
  whole_is =
      ap (λ vs. is_whole (take (length vs - 6) vs)) values_part
      ∙ ap (λ n. is_whole (take (n - 6) (map value_of tail))) (length-map tail value_of) ∙ ap is_whole (map_take value_of (length tail - 6) tail)

-- ---- the place

-- where the separator stands, and what stands behind it
separator_one : (t : List ℕ) → separator t < length t → get_or t (separator t) 0 ≡ 49
unfolding separator
separator_one [] h = absurd (omega arith)
separator_one (b ∷ t) h =
    cases (all is_not_one t)
    (λ a. cases (eqb b 49) (λ e. rw (a, e) (eqb-true b 49 e)) (λ e. absurd (omega (arith, rw (a, e) at h))))
    (λ a. rw a (separator_one t (omega (arith, rw a at h))))

separator_last : (t : List ℕ) → all is_not_one (drop (separator t + 1) t) ≡ true
unfolding separator all
separator_last [] = refl
separator_last (b ∷ t) =
    cases (all is_not_one t)
    (λ a. cases (eqb b 49)
    (λ e. rw (a, e) a)
    (λ e. rw (a, e) (ap (all is_not_one) (drop_of_length-le (b ∷ t) {i = suc (length t) + 1} (omega arith)))))
    (λ a. let n : suc (separator t) + 1 ≡ suc (separator t + 1) = omega arith in rw (a, n) (separator_last t))

-- the least of the two ends of runs
module _ (t : List ℕ) (a b : ℕ) (e : a ≡ run is_graphic t) (f : b ≡ separator t + 1 + run is_in_alphabet (drop (separator t + 1) t)) where
  place_foreign : min a b < length t → Foreign t (min a b)
  place_foreign h =
      cases (leb a b)
      (λ l. subst (Foreign t) (sym (min-eq_left (leb-true a b l)))
      (not_graphic (run_stop is_graphic t 0 a (omega arith) (omega (arith, leb-true a b l)))))
      (λ l. subst (Foreign t) (sym (min-eq_right (omega (arith, leb-false a b l))))
      (not_in_alphabet
      (separator t, omega arith, separator_one t (omega (arith, leb-false a b l)), separator_last t)
      (run_stop is_in_alphabet t (separator t + 1) b f (omega (arith, leb-false a b l)))))

  place_first : (i : ℕ) → i < min a b → i < length t → Foreign t i → ⊥
  place_first i h n (not_graphic g) = false≢true (sym g ∙ run_in_class is_graphic i t (omega arith))
  place_first i h n (not_in_alphabet (j, l, o, r) g) =
      let q = separator_here t j (omega arith) o r in
      let d : (separator t + 1) + (i - (separator t + 1)) ≡ i = omega arith in
      false≢true
      (sym g ∙ ap (λ x. is_in_alphabet (get_or t x 0)) (sym d) ∙ ap is_in_alphabet (sym (get_or-drop (separator t + 1) t (i - (separator t + 1)) 0))
      ∙ run_in_class is_in_alphabet (i - (separator t + 1)) (drop (separator t + 1) t) (omega arith))

pub place_is : (t : List ℕ) → Place t (place_in t)
unfolding place_in
place_is t =
    let n : min (run is_graphic t) (separator t + 1 + run is_in_alphabet (drop (separator t + 1) t)) ≤ length t = omega (arith, run_le is_graphic t) in
    record { within = n; foreign = place_foreign t _ _ refl refl; first = λ i h. place_first t _ _ refl refl i h (omega arith) }

place_once : (t : List ℕ) (n m : ℕ) → Place t n → Place t m → n ≡ m
place_once t n m p q =
    cases (ltb n m)
    (λ e. let h = ltb-true n m e in absurd (q.first n h (p.foreign (omega (arith, q.within)))))
    (λ e. cases (ltb m n)
    (λ f. let h = ltb-true m n f in absurd (p.first m h (q.foreign (omega (arith, p.within)))))
    (λ f. omega (arith, ltb-false n m e, ltb-false m n f)))

-- ---- what a text is read as

pub judged : (k : Form) → Plain k → (t : List ℕ) → Judged k t (parse k t)
judged k pl t = record {
  form = λ n. (
    parse_cases (λ p. p ≡ malformed n → ((name tail : List ℕ) → Formed k t name tail → ⊥) × Place t n) k t
        (λ e c w q. let z : ◌≡◌ {A = ℕ} 0 1 = cc in absurd (omega arith)) (λ e c w q. let z : ◌≡◌ {A = ℕ} 0 1 = cc in absurd (omega arith)) (λ e c q. let z : ◌≡◌ {A = ℕ} 0 1 = cc in absurd (omega arith))
        (λ e q. let z : place_in t ≡ n = cc in (λ name tail f. false≢true (sym e ∙ formed_to k t name tail f), subst (Place t) z (place_is t))),
    λ r. parse_cases (λ p. p ≡ malformed n) k t (λ e c w. none r e) (λ e c w. none r e) (λ e c. none r e) (λ e. ap malformed (place_once t (place_in t) n (place_is t) r.1)),
  );
  checksum = λ name. (
    parse_cases (λ p. p ≡ bad_checksum name → (tail : List ℕ) × Formed k t name tail × (Closed k name tail → ⊥)) k t
        (λ e c w q. let z : ◌≡◌ {A = ℕ} 0 1 = cc in absurd (omega arith)) (λ e c w q. let z : ◌≡◌ {A = ℕ} 0 1 = cc in absurd (omega arith))
        (λ e c q. let z : name_in k (human_in (map lower t)) ≡ name = cc in let f = subst (λ n. Formed k t n (tail_in (map lower t))) z (formed_from k t e) in (tail_in (map lower t), f, λ x. false≢true (sym c ∙ closed_to k t name (tail_in (map lower t)) f x)))
        (λ e q. let z : ◌≡◌ {A = ℕ} 0 1 = cc in absurd (omega arith)),
    λ r. let f = formed_to k t name r.0 r.1 in
        parse_cases (λ p. p ≡ bad_checksum name) k t
        (λ e c w. absurd (r.2 (closed_from k t name r.0 r.1 c))) (λ e c w. absurd (r.2 (closed_from k t name r.0 r.1 c)))
        (λ e c. ap bad_checksum (name_part k t name r.0 r.1)) (λ e. absurd (false≢true (sym e ∙ f))),
  );
  bits = λ name. (
    parse_cases (λ p. p ≡ leftover_bits name → (tail : List ℕ) × Formed k t name tail × Closed k name tail × (Whole tail → ⊥)) k t
        (λ e c w q. let z : ◌≡◌ {A = ℕ} 0 1 = cc in absurd (omega arith))
        (λ e c w q. let z : name_in k (human_in (map lower t)) ≡ name = cc in let tail = tail_in (map lower t) in let f = subst (λ n. Formed k t n tail) z (formed_from k t e) in (tail, f, closed_from k t name tail f c, λ x. false≢true (sym w ∙ whole_is k t name tail f ∙ x)))
        (λ e c q. let z : ◌≡◌ {A = ℕ} 0 1 = cc in absurd (omega arith)) (λ e q. let z : ◌≡◌ {A = ℕ} 0 1 = cc in absurd (omega arith)),
    λ r. let f = formed_to k t name r.0 r.1 in
        parse_cases (λ p. p ≡ leftover_bits name) k t
        (λ e c w. absurd (r.3 (sym (whole_is k t name r.0 r.1) ∙ w))) (λ e c w. ap leftover_bits (name_part k t name r.0 r.1))
        (λ e c. absurd (false≢true (sym c ∙ closed_to k t name r.0 r.1 r.2))) (λ e. absurd (false≢true (sym e ∙ f))),
  );
  whole = λ name payload. parse_iff k pl t name payload;
}
  where
    none : {X : Type 0} {n : ℕ} → ((name tail : List ℕ) → Formed k t name tail → ⊥) × Place t n → is_formed k t ≡ true → X
    none r e = absurd (r.0 _ _ (formed_from k t e))

-- ---- an entry's mark

module _ (k : Form) (pl : Plain k) (t plugin : List ℕ) where
  -- the text has the form with this name, or not
  by_name : {X : Type 0} → ((tail : List ℕ) → Formed k t (map lower plugin) tail → X) → (((tail : List ℕ) → Formed k t (map lower plugin) tail → ⊥) → X) → X
  by_name has lacks =
      let name = name_in k (human_in (map lower t)) in
      cases (is_formed k t)
      (λ e. cases (same (map lower plugin) name)
      (λ f. has (tail_in (map lower t)) (subst (λ n. Formed k t n (tail_in (map lower t))) (sym (same_eq (map lower plugin) name f)) (formed_from k t e)))
      (λ f. lacks (λ tail g. false≢true (sym f ∙ ap (same (map lower plugin)) (name_part k t (map lower plugin) tail g) ∙ same_refl (map lower plugin)))))
      (λ e. lacks (λ tail g. false≢true (sym e ∙ formed_to k t (map lower plugin) tail g)))

  -- then the mark is the reader's number
  mark_formed : (tail : List ℕ) → Formed k t (map lower plugin) tail → mark_of (parse k t) plugin ≡ pick (is_closed (map lower t)) (pick (is_whole (payload_in (map lower t))) 0 22) 21
  mark_formed tail f =
      let n : same (map lower plugin) (name_in k (human_in (map lower t))) ≡ true = ap (same (map lower plugin)) (name_part k t (map lower plugin) tail f) ∙ same_refl (map lower plugin) in
      parse_cases (λ p. mark_of p plugin ≡ pick (is_closed (map lower t)) (pick (is_whole (payload_in (map lower t))) 0 22) 21) k t
      (λ e c w. rw (n, c, w)) (λ e c w. rw (n, c, w)) (λ e c. rw (n, c)) (λ e. absurd (false≢true (sym e ∙ formed_to k t (map lower plugin) tail f)))

  -- else 16
  mark_other : ((tail : List ℕ) → Formed k t (map lower plugin) tail → ⊥) → mark_of (parse k t) plugin ≡ 16
  mark_other lacks =
      parse_cases (λ p. mark_of p plugin ≡ 16) k t
      (λ e c w. other 0 e) (λ e c w. other 22 e) (λ e c. other 21 e) (λ e. pick_same (same (map lower plugin) []) 16)
    where
      other : (n : ℕ) → is_formed k t ≡ true → pick (same (map lower plugin) (name_in k (human_in (map lower t)))) n 16 ≡ 16
      other n e =
          cases (same (map lower plugin) (name_in k (human_in (map lower t))))
          (λ f. absurd (lacks (tail_in (map lower t)) (subst (λ n. Formed k t n (tail_in (map lower t))) (sym (same_eq (map lower plugin) _ f)) (formed_from k t e))))
          (λ f. rw f)

  pub marked : Marked k t plugin (mark_of (parse k t) plugin)
  marked = record {
    form = (λ m tail f. by_tests (is_closed (map lower t)) (is_whole (payload_in (map lower t))) (sym (mark_formed tail f) ∙ m), mark_other);
    checksum = (
      λ m. by_name
          (λ tail f. (tail, f, λ x. let c = closed_to k t (map lower plugin) tail f x in let y : mark_of (parse k t) plugin ≡ pick (is_whole (payload_in (map lower t))) 0 22 = mark_formed tail f ∙ rw c in closed_other (is_whole (payload_in (map lower t))) (sym y ∙ m)))
          (λ lacks. absurd (omega (arith, mark_other lacks, m))),
      λ r. mark_formed r.0 r.1 ∙ cases (is_closed (map lower t)) (λ c. absurd (r.2 (closed_from k t (map lower plugin) r.0 r.1 c))) (λ c. rw c),
    );
    bits = (
      λ m. by_name
          (λ tail f. cases (is_closed (map lower t))
          (λ c. (tail, f, closed_from k t (map lower plugin) tail f c, λ x. let w = whole_is k t (map lower plugin) tail f ∙ x in let y : mark_of (parse k t) plugin ≡ 0 = mark_formed tail f ∙ rw (c, w) in absurd (omega (arith, y, m))))
          (λ c. let y : mark_of (parse k t) plugin ≡ 21 = mark_formed tail f ∙ rw c in absurd (omega (arith, y, m))))
          (λ lacks. absurd (omega (arith, mark_other lacks, m))),
      λ r. mark_formed r.0 r.1
          ∙ rw (closed_to k t (map lower plugin) r.0 r.1 r.2)
          (cases (is_whole (payload_in (map lower t))) (λ w. absurd (r.3 (sym (whole_is k t (map lower plugin) r.0 r.1) ∙ w))) (λ w. rw w)),
    );
    valid = (
      parse_cases (λ p. parse k t ≡ p → mark_of p plugin ≡ 0 → (payload : List ℕ) × Read k t (map lower plugin) payload) k t
          (λ e c w q m. cases (same (map lower plugin) (name_in k (human_in (map lower t))))
          (λ f. (bytes (payload_in (map lower t)), text_parse k t (map lower plugin) (bytes (payload_in (map lower t))) (q ∙ ap (λ n. parsed n (bytes (payload_in (map lower t)))) (sym (same_eq (map lower plugin) (name_in k (human_in (map lower t))) f)))))
          (λ f. absurd (omega (arith, rw f at m))))
          (λ e c w q m. absurd (refused (same (map lower plugin) (name_in k (human_in (map lower t)))) 22 (omega arith) m))
          (λ e c q m. absurd (refused (same (map lower plugin) (name_in k (human_in (map lower t)))) 21 (omega arith) m))
          (λ e q m. absurd (refused (same (map lower plugin) []) 16 (omega arith) m)) refl,
      λ r. ap (λ p. mark_of p plugin) ((parse_iff k pl t (map lower plugin) r.0).1 r.1) ∙ ap (λ b. pick b 0 16) (same_refl (map lower plugin)),
    );
  }
    where
      by_tests : (c w : Bool) → ◌≡◌ {A = ℕ} (pick c (pick w 0 22) 21) 16 → ⊥
      by_tests true true e = omega arith
      by_tests true false e = omega arith
      by_tests false w e = omega arith

      closed_other : (w : Bool) → ◌≡◌ {A = ℕ} (pick w 0 22) 21 → ⊥
      closed_other true e = omega arith
      closed_other false e = omega arith

      refused : (b : Bool) (n : ℕ) → (n ≡ 0 → ⊥) → pick b n 16 ≡ 0 → ⊥
      refused true n h e = h e
      refused false n h e = omega arith
