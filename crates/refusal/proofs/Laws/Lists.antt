-- Lists by position, where the code counts i, i + 1, ..
use Prim.Native.Nat.{ℕ, zero, suc, ◌+◌, ◌-◌, ◌<◌, ◌≤◌, min}
use mathlib.Core.Path.{◌≡◌, refl, sym, ap, ap₂, ◌∙◌}
use mathlib.Core.List.{List, [], ◌∷◌, ◌++◌, append_assoc, append-nil}
use lib.ListN.{length, take, drop, set, get_or, length-append, length-take, length-drop, drop_of_length-le}
use lib.Seq.{drop-cons, take-suc, take-suc-set, drop-drop, sets-eq, take_at, drop_at, take_all, take-nil, take-add, take-append_seam, take-length, set_at, append_snoc, length-take-le}
use native.Mathlib.Numerals.{add-one, add-two, add-three}
use native.Mathlib.Nat.{sub-zero, zero-sub, suc-sub-suc}
use native.Mathlib.Decide.{dec_le}
use native.Mathlib.Omega.{arith}

module _ {A : Type 0} where
  -- one element on
  pub drop_one : (t : List A) (k : ℕ) (d : A) → k < length t → drop k t ≡ get_or t k d ∷ drop (k + 1) t
  drop_one t k d h = rw (add-one, drop-cons t k d h)

  pub take_one : (t : List A) (k : ℕ) (d : A) → k < length t → take (k + 1) t ≡ take k t ++ (get_or t k d ∷ [])
  take_one t k d h = rw (add-one, take-suc t k d h)

  -- one store behind the part that is kept
  pub store_one : (o : List A) (k : ℕ) (x : A) → k < length o → take (k + 1) (set o k x) ≡ take k o ++ (x ∷ [])
  store_one o k x h = rw (add-one, take-suc-set o k x h)

  -- stores one behind the other
  pub store_two : (o : List A) (k : ℕ) (x y : A) → k + 2 ≤ length o → set (set o k x) (k + 1) y ≡ take k o ++ (x ∷ y ∷ []) ++ drop (k + 2) o
  store_two o k x y h = rw add-one (sets-eq (x ∷ y ∷ []) o k h)

  pub store_three : (o : List A) (k : ℕ) (x y z : A) → k + 3 ≤ length o →
      set (set (set o k x) (k + 1) y) (k + 2) z ≡ take k o ++ (x ∷ y ∷ z ∷ []) ++ drop (k + 3) o
  store_three o k x y z h = rw (add-one, add-two) (sets-eq (x ∷ y ∷ z ∷ []) o k h)

  pub store_four : (o : List A) (k : ℕ) (w x y z : A) → k + 4 ≤ length o →
      set (set (set (set o k w) (k + 1) x) (k + 2) y) (k + 3) z ≡ take k o ++ (w ∷ x ∷ y ∷ z ∷ []) ++ drop (k + 4) o
  store_four o k w x y z h = rw (add-one, add-two, add-three) (sets-eq (w ∷ x ∷ y ∷ z ∷ []) o k h)

  -- a buffer whose front is written: a block behind it
  pub overwrite : (o o₀ front block : List A) (k n : ℕ) → o ≡ front ++ drop k o₀ → length front ≡ k → length block ≡ n →
      take k o ++ block ++ drop (k + n) o ≡ front ++ block ++ drop (k + n) o₀
  overwrite o o₀ front block k n e h l =
      rw (← drop-drop n k o, e, take_at front (drop k o₀) k h, drop_at front (drop k o₀) k h, drop-drop n k o₀)

  -- the same, where a part from k on was lent and came back with the content at its front
  pub overwrite_part : (o o₀ front content : List A) (k : ℕ) → o ≡ front ++ drop k o₀ → length front ≡ k →
      take k o ++ (content ++ drop (length content) (drop k o)) ≡ front ++ content ++ drop (length (front ++ content)) o₀
  overwrite_part o o₀ front content k e h =
      rw (e, take_at front (drop k o₀) k h, drop_at front (drop k o₀) k h, drop-drop, length-append, h) (sym (append_assoc front content _))

  -- a part from k to the end, lent and come back
  pub part_rest : (k : ℕ) (o : List A) → take (length o - k) (drop k o) ≡ drop k o
  part_rest k o = take_all (length o - k) (drop k o) (simp length-drop (omega arith))

  pub put_rest : (k : ℕ) (o part : List A) → take k o ++ (part ++ drop (length o - k) (drop k o)) ≡ take k o ++ part
  put_rest k o part = rw (drop_of_length-le (drop k o) {i = length o - k} (simp length-drop (omega arith)), append-nil)

  -- a buffer that holds the first k elements of w at its front, and is else as it was: a block more, written to the part from k on
  pub front_part : (w o o₀ b r : List A) (k : ℕ) → o ≡ take k w ++ drop k o₀ → drop k w ≡ b ++ r → k ≤ length w →
      take k o ++ (b ++ drop (length b) (drop k o)) ≡ take (k + length b) w ++ drop (k + length b) o₀
  front_part w o o₀ b r k e q h =
      rw (e, take_at (take k w) (drop k o₀) k (length-take-le k w h), drop_at (take k w) (drop k o₀) k (length-take-le k w h), drop-drop (length b) k o₀, take-add k (length b) w, q, take-append_seam b r)
      (sym (append_assoc (take k w) b (drop (k + length b) o₀)))

  -- and one element more
  pub front_store : (w o o₀ : List A) (k : ℕ) (d : A) → o ≡ take k w ++ drop k o₀ → k < length w → length w ≤ length o₀ →
      set o k (get_or w k d) ≡ take (k + 1) w ++ drop (k + 1) o₀
  front_store w o o₀ k d e h l =
      rw (e, drop_one o₀ k d (omega arith), set_at (take k w) (get_or o₀ k d) (drop (k + 1) o₀) (get_or w k d) k (length-take-le k w (omega arith)), take_one w k d h)
      (sym (append_snoc (take k w) (get_or w k d) (drop (k + 1) o₀)))

  -- all of it
  pub front_whole : (w o o₀ : List A) (k : ℕ) → o ≡ take k w ++ drop k o₀ → k ≡ length w → o ≡ w ++ drop (length w) o₀
  front_whole w o o₀ k e h = e ∙ rw (h, take-length w)

  pub front_length : (w o o₀ : List A) (k : ℕ) → o ≡ take k w ++ drop k o₀ → k ≤ length w → length w ≤ length o₀ → length o ≡ length o₀
  front_length w o o₀ k e h l = ap length e ∙ simp (length-append, length-take, length-drop) (omega arith)

  -- the last block
  pub front_last : (w o o₀ b : List A) (k : ℕ) → o ≡ take k w ++ drop k o₀ → drop k w ≡ b → k ≤ length w →
      take k o ++ (b ++ drop (length b) (drop k o)) ≡ w ++ drop (length w) o₀
  front_last w o o₀ b k e q h =
      let l : k + length b ≡ length w = omega (arith, sym (length-drop k w) ∙ ap length q) in
      front_part w o o₀ b [] k e (q ∙ sym (append-nil b)) h ∙ rw (l, take-length w)

  -- a part by its start and its end
  pub drop_take : (a e : ℕ) (t : List A) → drop a (take e t) ≡ take (e - a) (drop a t)
  drop_take zero e t = rw sub-zero
  drop_take (suc a) zero t = rw zero-sub
  drop_take (suc a) (suc e) [] = sym (take-nil (suc e - suc a))
  drop_take (suc a) (suc e) (x ∷ t) = rw suc-sub-suc (drop_take a e t)

  -- the same, where the end is held to the list's length
  pub part_of : (a e m : ℕ) (t : List A) → m ≡ min e (length t) → take (m - a) (drop a t) ≡ drop a (take e t)
  part_of a e m t p =
      sym (drop_take a m t) ∙ ap (drop a)
      (elim (dec_le e (length t)) [ yes h ↦ (let q : m ≡ e = omega arith in rw q) | no h ↦ take_all m t (omega arith) ∙ sym (take_all e t (omega arith)) ])

  pub part_none : (a e m : ℕ) (t : List A) → m ≡ min e (length t) → m ≤ a → drop a (take e t) ≡ []
  part_none a e m t p h = drop_of_length-le (take e t) {i = a} (rw length-take (omega arith))

  -- one element behind the first of two parts, and then the second: what copying the first, a store and copying the second leave
  pub parts_joined : (first second a o₀ part' : List A) (x : A) → a ≡ first ++ drop (length first) o₀ → length first < length o₀ →
      part' ≡ second ++ drop (length second) (take (length (set a (length first) x) - (length first + 1)) (drop (length first + 1) (set a (length first) x))) →
      take (length first + 1) (set a (length first) x) ++ (part' ++ drop (length (set a (length first) x) - (length first + 1)) (drop (length first + 1) (set a (length first) x))) ≡
      (first ++ x ∷ second) ++ drop (length first + 1 + length second) o₀
  parts_joined first second a o₀ part' x e h p =
      let n = length first in
      let b = set a n x in
      let s : b ≡ (first ++ (x ∷ [])) ++ drop (n + 1) o₀ =
      ap (λ w. set w n x) (e ∙ ap (λ w. first ++ w) (drop_one o₀ n x h)) ∙ set_at first (get_or o₀ n x) (drop (n + 1) o₀) x n refl ∙ sym (append_snoc first x (drop (n + 1) o₀)) in
      let l : length (first ++ (x ∷ [])) ≡ n + 1 = length-append first (x ∷ []) in
      let m : length ((first ++ (x ∷ [])) ++ second) ≡ n + 1 + length second = length-append (first ++ (x ∷ [])) second ∙ ap (λ k. k + length second) l in
      put_rest (n + 1) b part'
      ∙ ap (λ w. take (n + 1) b ++ w) (p ∙ ap (λ d. second ++ drop (length second) d) (part_rest (n + 1) b))
      ∙ overwrite_part b o₀ (first ++ (x ∷ [])) second (n + 1) s l
      ∙ ap₂ (λ w k. w ++ drop k o₀) (append_assoc first (x ∷ []) second) m
