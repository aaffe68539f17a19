-- Runs: what stands behind the bytes of a class at a text's front.
use Prim.Native.Nat.{ℕ, zero, suc, ◌+◌, ◌<◌, ◌≤◌}
use mathlib.Core.Path.{◌≡◌, refl, ap}
use mathlib.Core.Bool.{Bool, true, false, ◌&&◌}
use mathlib.Core.List.{List, [], ◌∷◌, ◌++◌}
use lib.ListN.{length, take, drop, get_or, length-drop, drop_of_length-le}
use lib.Seq.{drop-drop, get_or-drop}
use native.Mathlib.Omega.{arith}
use native.Mathlib.Nat.{add-zero, not-suc-le-zero, le_of_suc-le-suc}
use Rattle.refusal.proofs.Laws.Booleans.{and_true, true_and, cases, and_assoc, and_true_right}
use Rattle.refusal.proofs.Laws.Lists.{drop_one, take_one}
use Rattle.refusal.specs.Run.{all, run}

module _ (class : ℕ → Bool) where
  pub all_append : (s t : List ℕ) → all class (s ++ t) ≡ (all class s && all class t)
  unfolding all
  all_append [] t = refl
  all_append (b ∷ s) t = rw (all_append s t) (and_assoc (class b) (all class s) (all class t))

  -- one byte more, in a loop that tests them all
  pub all_more : (text : List ℕ) (at j : ℕ) {good r : Bool} → at + j < length text → good ≡ all class (take j (drop at text)) → r ≡ class (get_or text (at + j) 0) →
      (good && r) ≡ all class (take (j + 1) (drop at text))
  unfolding all
  all_more text at j h p q =
      rw (p, q, take_one (drop at text) j 0 (simp length-drop (omega arith)), all_append (take j (drop at text)), get_or-drop at text j 0, and_true_right)

  -- the bytes of a run are in the class, and those of a wider class
  pub run_take : (n : ℕ) (t : List ℕ) → n ≤ run class t → all class (take n t) ≡ true
  unfolding run all
  run_take zero t h = refl
  run_take (suc n) [] h = refl
  run_take (suc n) (b ∷ t) h = cases (class b) (λ e. rw e (run_take n t (omega (arith, rw e at h)))) (λ e. absurd (omega (arith, rw e at h)))

  pub all_wider : (wider : ℕ → Bool) → ((b : ℕ) → class b ≡ true → wider b ≡ true) → (t : List ℕ) → all class t ≡ true → all wider t ≡ true
  unfolding all
  all_wider wider f [] h = refl
  all_wider wider f (b ∷ t) h = let a = and_true (class b) (all class t) h in true_and (wider b) (all wider t) (f b a.0) (all_wider wider f t a.1)

  -- one byte of the class at i
  pub run_in : (t : List ℕ) (i : ℕ) → i < length t → class (get_or t i 0) ≡ true → i + run class (drop i t) ≡ i + 1 + run class (drop (i + 1) t)
  unfolding run
  run_in t i h e = rw (drop_one t i 0 h, e) (omega arith)

  -- a byte outside the class at i
  pub run_out : (t : List ℕ) (i : ℕ) → i < length t → class (get_or t i 0) ≡ false → i + run class (drop i t) ≡ i
  unfolding run
  run_out t i h e = rw (drop_one t i 0 h, e) (omega arith)

  -- several bytes of the class
  pub run_all : (n : ℕ) (t : List ℕ) → n ≤ length t → all class (take n t) ≡ true → run class t ≡ n + run class (drop n t)
  unfolding run all
  run_all zero t h e = omega arith
  run_all (suc n) [] h e = absurd (not-suc-le-zero h)
  run_all (suc n) (b ∷ t) h e =
      let a = and_true (class b) (all class (take n t)) e in
      rw (a.0, run_all n t (le_of_suc-le-suc h) a.1) (omega arith)

  -- several bytes of the class from i on
  pub run_more : (n : ℕ) (t : List ℕ) (i : ℕ) → i + n ≤ length t → all class (take n (drop i t)) ≡ true → i + run class (drop i t) ≡ i + n + run class (drop (i + n) t)
  run_more n t i h e = rw (run_all n (drop i t) (simp length-drop (omega arith)) e, drop-drop) (omega arith)

  -- the end of the text
  pub run_end : (t : List ℕ) (i : ℕ) → length t ≤ i → i + run class (drop i t) ≡ i
  unfolding run
  run_end t i h = rw (drop_of_length-le t h) (omega arith)

  pub run_le : (t : List ℕ) → run class t ≤ length t
  unfolding run
  run_le [] = omega arith
  run_le (b ∷ t) = cases (class b) (λ e. rw e (omega (arith, run_le t))) (λ e. rw e (omega arith))

  pub run_whole : (t : List ℕ) → length t ≤ run class t → all class t ≡ true
  unfolding run all
  run_whole [] h = refl
  run_whole (b ∷ t) h = cases (class b) (λ e. rw e (run_whole t (omega (arith, rw e at h)))) (λ e. absurd (omega (arith, rw e at h)))

  pub run_part : (t : List ℕ) → run class t < length t → all class t ≡ false
  unfolding run all
  run_part [] h = absurd (not-suc-le-zero h)
  run_part (b ∷ t) h = cases (class b) (λ e. rw e (run_part t (omega (arith, rw e at h)))) (λ e. rw e)

  -- the byte behind a run is not in the class
  run_stop_at : (t : List ℕ) → run class t < length t → class (get_or t (run class t) 0) ≡ false
  unfolding run
  run_stop_at [] h = absurd (omega arith)
  run_stop_at (b ∷ t) h = cases (class b) (λ e. rw e (run_stop_at t (omega (arith, rw e at h)))) (λ e. rw e e)

  pub run_stop : (t : List ℕ) (i e : ℕ) → e ≡ i + run class (drop i t) → e < length t → class (get_or t e 0) ≡ false
  run_stop t i e p h =
      let q : run class (drop i t) < length (drop i t) = simp length-drop (omega arith) in
      rw p (rw get_or-drop at (run_stop_at (drop i t) q))

  -- each byte of a run is in the class
  pub run_in_class : (n : ℕ) (t : List ℕ) → n < run class t → class (get_or t n 0) ≡ true
  unfolding run
  run_in_class n [] h = absurd (omega arith)
  run_in_class zero (b ∷ t) h = cases (class b) (λ e. e) (λ e. absurd (omega (arith, rw e at h)))
  run_in_class (suc n) (b ∷ t) h = cases (class b) (λ e. run_in_class n t (omega (arith, rw e at h))) (λ e. absurd (omega (arith, rw e at h)))

  -- the first byte of a run that is not empty is in the class
  run_first_at : (t : List ℕ) → (run class t ≡ 0 → ⊥) → class (get_or t 0 0) ≡ true
  unfolding run
  run_first_at [] h = absurd (h refl)
  run_first_at (b ∷ t) h = cases (class b) (λ e. e) (λ e. absurd (h (rw e)))

  pub run_first : (t : List ℕ) (i e : ℕ) → e ≡ i + run class (drop i t) → (e ≡ i → ⊥) → class (get_or t i 0) ≡ true
  run_first t i e p h =
      let n : run class (drop i t) ≡ 0 → ⊥ = λ z. h (omega arith) in
      rw (get_or-drop, add-zero) at (run_first_at (drop i t) n)

  -- where a run ends that begins inside a text
  pub end_le : (t : List ℕ) (i : ℕ) → i ≤ length t → i + run class (drop i t) ≤ length t
  end_le t i h = omega (arith, run_le (drop i t), length-drop i t)

  -- a run that ends within the front is that of the front
  pub run_front : (k : ℕ) (t : List ℕ) → run class t < k → run class (take k t) ≡ run class t
  unfolding run
  run_front zero t h = absurd (omega arith)
  run_front (suc k) [] h = refl
  run_front (suc k) (b ∷ t) h = cases (class b) (λ e. rw e (ap suc (run_front k t (omega (arith, rw e at h))))) (λ e. rw e)

  -- a run up to a byte outside the class
  pub run_stop_append : (s : List ℕ) (b : ℕ) (t : List ℕ) → all class s ≡ true → class b ≡ false → run class (s ++ b ∷ t) ≡ length s
  unfolding run all
  run_stop_append [] b t h e = rw e
  run_stop_append (a ∷ s) b t h e = let g = and_true (class a) (all class s) h in rw g.0 (ap suc (run_stop_append s b t g.1 e))

  -- a run that ends within the front of a text is that of the text
  pub run_back : (k : ℕ) (t : List ℕ) → run class (take k t) < length (take k t) → run class t ≡ run class (take k t)
  unfolding run
  run_back zero t h = absurd (omega arith)
  run_back (suc k) [] h = refl
  run_back (suc k) (b ∷ t) h = cases (class b) (λ e. rw e (ap suc (run_back k t (omega (arith, rw e at h))))) (λ e. rw e)
