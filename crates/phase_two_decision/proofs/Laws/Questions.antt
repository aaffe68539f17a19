-- The questions, by the slots of the entries.
use Prim.Native.Nat.{ℕ, zero, suc, ◌+◌, ◌<◌, ◌≤◌}
use mathlib.Core.Path.{◌≡◌, refl, ap, ◌∙◌}
use mathlib.Core.Bool.{Bool, true, false, not, ◌&&◌, ◌||◌}
use mathlib.Core.List.{List, [], ◌∷◌, ◌++◌, map}
use lib.ListN.{length, take, drop, get_or}
use native.Mathlib.Numerals.{add-one}
use native.Mathlib.Omega.{arith}
use Rattle.std.specs.List.{list_all, enumerate_from}
use Rattle.refusal.specs.Pick.{pick}
use Rattle.conversation.specs.PhaseTwo.{Label, how_many, is_any, passes, among, is_file, is_nonconforming, are_reported, are_stanzas_reported, is_naming}
use Rattle.look_up.specs.LookUp.{number_of}
use Rattle.look_up.proofs.Laws.Labels.{slot_label}

-- ---- a label that passes

module _ (q : Label → Bool) where
  pub passes_there : (es : List (List ℕ)) (n : ℕ) → n < length es → q (slot_label (get_or es n [])) ≡ passes q (map slot_label es) n
  unfolding passes
  passes_there [] n h = absurd (omega arith)
  passes_there (e ∷ es) zero h = refl
  passes_there (e ∷ es) (suc n) h = passes_there es n (omega arith)

  pub passes_out : (es : List (List ℕ)) (n : ℕ) → length es ≤ n → false ≡ passes q (map slot_label es) n
  unfolding passes
  passes_out [] n h = refl
  passes_out (e ∷ es) zero h = absurd (omega arith)
  passes_out (e ∷ es) (suc n) h = passes_out es n (omega arith)

-- ---- each that fails a test has had its error

module _ (q : Label → Bool) (mark : ℕ) (errors : List Label) where
  pub all_reported : (n : ℕ) (es : List (List ℕ)) →
      list_all (λ (p : ℕ × List ℕ). not (q (slot_label p.1)) || is_any (is_naming mark p.0) errors) (enumerate_from n es) ≡ are_reported q mark n (map slot_label es) errors
  unfolding are_reported
  all_reported n [] = refl
  all_reported n (e ∷ es) = ap (λ r. (not (q (slot_label e)) || is_any (is_naming mark n) errors) && r) (all_reported (n + 1) es)

-- ---- each nonconforming header stanza has had its error

module _ (all errors : List Label) where
  -- the n-th label owes no error, or has had it
  abbrev pub is_settled : ℕ → Label → Bool
  is_settled n l = not (is_nonconforming l) || is_any (is_naming (3 + l.index) (how_many (is_file l.index) (take n all))) errors

  one_on : (n : ℕ) (ls : List Label) (x : Label) (xs : List Label) → drop n ls ≡ x ∷ xs → (take (suc n) ls ≡ take n ls ++ (x ∷ [])) × (drop (suc n) ls ≡ xs)
  one_on zero [] x xs e = cc
  one_on (suc n) [] x xs e = cc
  one_on zero (l ∷ ls) x xs e = (cc, cc)
  one_on (suc n) (l ∷ ls) x xs e = let r = one_on n ls x xs e in (ap (λ t. l ∷ t) r.0, r.1)

  pub stanzas_reported : (n : ℕ) (es : List (List ℕ)) → drop n all ≡ map slot_label es →
      list_all (λ (p : ℕ × List ℕ). is_settled p.0 (slot_label p.1)) (enumerate_from n es) ≡ are_stanzas_reported (take n all) (map slot_label es) errors
  unfolding are_stanzas_reported
  stanzas_reported n [] h = refl
  stanzas_reported n (e ∷ es) h =
      let r = one_on n all (slot_label e) (map slot_label es) h in
      let s = stanzas_reported (n + 1) es (ap (λ k. drop k all) (add-one n) ∙ r.1) in
      ap (λ b. is_settled n (slot_label e) && b) (s ∙ ap (λ before. are_stanzas_reported before (map slot_label es) errors) (ap (λ k. take k all) (add-one n) ∙ r.0))

-- ---- an error for a file's header stanza, by its mark

-- ---- the i-th of those that pass a test

pub passes_among : (q test : Label → Bool) (ls : List Label) (i : ℕ) → passes q ls (number_of test ls i) ≡ passes q (among test ls) i
unfolding passes among number_of
passes_among q test [] i = refl
passes_among q test (l ∷ ls) zero = go (test l) (passes_among q test ls zero)
  where
    go : (f : Bool) → passes q ls (number_of test ls 0) ≡ passes q (among test ls) 0 → passes q (l ∷ ls) (pick f 0 (suc (number_of test ls 0))) ≡ passes q (pick f (l ∷ []) [] ++ among test ls) 0
    go true e = refl
    go false e = e
passes_among q test (l ∷ ls) (suc i) = go (test l) (passes_among q test ls i) (passes_among q test ls (suc i))
  where
    go : (f : Bool) → passes q ls (number_of test ls i) ≡ passes q (among test ls) i → passes q ls (number_of test ls (suc i)) ≡ passes q (among test ls) (suc i) →
        passes q ls (number_of test ls (pick f i (suc i))) ≡ passes q (pick f (l ∷ []) [] ++ among test ls) (suc i)
    go true e z = e
    go false e z = z
