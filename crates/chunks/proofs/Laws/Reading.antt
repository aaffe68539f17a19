-- Cutting and reading agree: a text is cut into what its first stanzas are read as, one behind the other, since both go by one automaton.
use Prim.Native.Nat.{ℕ, zero, suc, ◌+◌, ◌≤◌, ◌<◌}
use mathlib.Core.Path.{◌≡◌, refl, sym, ap, ap₂, subst, ◌∙◌}
use mathlib.Core.Bool.{Bool, true, false}
use mathlib.Core.List.{List, [], ◌∷◌, ◌++◌, append_assoc, append-nil}
use lib.Dec.{ltb}
use lib.ListN.{length, take, drop, length-append}
use lib.Seq.{take-length, drop-length}
use native.Mathlib.Omega.{arith}
use borrow.Author.Tests.{ltb-true, ltb-false, lt-ltb, le-ltb}
use Rattle.refusal.specs.Pick.{pick}
use Rattle.refusal.proofs.Laws.Booleans.{cases}
use Rattle.stanza.specs.Automaton.{State, start, hyphen, arrow, gap, word, line, ended, dead, next, after, Scan, bad, short, whole, verdict, scan}
use Rattle.stanza.specs.Reading.{stanza, refused, read_first, found}
use Rattle.stanza.proofs.Laws.Exact.{found_whole, found_bad}
use Rattle.conversation.specs.Phases.{Whole}
use Rattle.chunks.specs.Cutting.{Rest, unfinished, impossible, Cut, onward, front_onward, cut_at, cut}
use Rattle.chunks.proofs.Laws.Cutting.{by_place}

-- a stanza ahead of what the rest is cut into
abbrev pub ahead : List ℕ → Cut → Cut
ahead t c = record { texts = t ∷ c.texts; rest = c.rest }

-- no stanza, and what is left
abbrev pub none : Rest → Cut
none r = record { texts = []; rest = r }

-- ---- one byte

-- behind a byte the stanza ends, or nothing goes on so, or reading goes on
data Place (v : State) : Type 0 where
  at_end : v ≡ ended → Place v
  at_fault : v ≡ dead → Place v
  inside : (v ≡ ended → ⊥) → (v ≡ dead → ⊥) →
      ((f t : List ℕ) → cut_at v f t (cut (onward v) (front_onward v f) t) ≡ pick (ltb (length f) 8192) (cut v f t) (none (impossible 3 (f ++ t)))) → Place v

place : (v : State) → Place v
unfolding cut_at
place =
    by_place Place (at_end refl) (at_fault refl)
    (λ v l. inside
    (λ e. let z : start ≡ ended = ap onward (sym e) ∙ l.on ∙ e in let y : ◌≡◌ {A = ℕ} 0 1 = cc in omega arith)
    (λ e. let z : impossible 1 [] ≡ unfinished start [] = ap (λ (c : Cut). c.rest) (ap (λ v. cut_at v [] [] (none (unfinished start []))) (sym e) ∙ l.at [] [] (none (unfinished start []))) in let y : ◌≡◌ {A = ℕ} 0 1 = cc in omega arith)
    (λ f t. l.at f t (cut (onward v) (front_onward v f) t) ∙ ap₂ (λ q g. pick (ltb (length f) 8192) (cut q g t) (none (impossible 3 (f ++ t)))) l.on (l.front f)))

-- a text cut behind its next byte, whatever follows
pub data Step (q : State) (front : List ℕ) (b : ℕ) : Type 0 where
  ends : next q b ≡ ended → ((t : List ℕ) → cut q front (b ∷ t) ≡ ahead (front ++ (b ∷ [])) (cut start [] t)) → Step q front b
  fails : next q b ≡ dead → ((t : List ℕ) → cut q front (b ∷ t) ≡ none (impossible 1 (front ++ b ∷ t))) → Step q front b
  goes_on : (next q b ≡ ended → ⊥) → (next q b ≡ dead → ⊥) → length front + 1 < 8192 → ((t : List ℕ) → cut q front (b ∷ t) ≡ cut (next q b) (front ++ (b ∷ [])) t) → Step q front b
  overruns : (next q b ≡ ended → ⊥) → (next q b ≡ dead → ⊥) → 8192 ≤ length front + 1 → ((t : List ℕ) → cut q front (b ∷ t) ≡ none (impossible 3 (front ++ b ∷ t))) → Step q front b

pub step : (q : State) (front : List ℕ) (b : ℕ) → Step q front b
unfolding cut cut_at
step q front b = go (next q b) refl (place (next q b))
  where
    f : List ℕ
    f = front ++ (b ∷ [])

    more : length f ≡ length front + 1
    more = length-append front (b ∷ [])

    joins : (t : List ℕ) → f ++ t ≡ front ++ b ∷ t
    joins t = append_assoc front (b ∷ []) t

    at : State → List ℕ → Cut
    at v t = cut_at v f t (cut (onward v) (front_onward v f) t)

    go : (v : State) → next q b ≡ v → Place v → Step q front b
    go v n (at_end e) = ends (n ∙ e) (λ t. ap (λ v. at v t) (n ∙ e))
    go v n (at_fault e) = fails (n ∙ e) (λ t. ap (λ v. at v t) (n ∙ e) ∙ ap (λ x. none (impossible 1 x)) (joins t))
    go v n (inside a d c) =
        let c₂ : (t : List ℕ) → at (next q b) t ≡ pick (ltb (length f) 8192) (cut (next q b) f t) (none (impossible 3 (f ++ t))) =
        λ t. subst (λ v. at v t ≡ pick (ltb (length f) 8192) (cut v f t) (none (impossible 3 (f ++ t)))) (sym n) (c f t) in
        cases (ltb (length f) 8192)
        (λ h. goes_on (λ e. a (sym n ∙ e)) (λ e. d (sym n ∙ e)) (let l = ltb-true (length f) 8192 h in omega (arith, more)) (λ t. c₂ t ∙ rw h))
        (λ h. overruns (λ e. a (sym n ∙ e)) (λ e. d (sym n ∙ e)) (let l = ltb-false (length f) 8192 h in omega (arith, more)) (λ t. c₂ t ∙ rw h (ap (λ x. none (impossible 3 x)) (joins t))))

-- ---- by what the first stanza is read as

module _ (q : State) (front t : List ℕ) where
  abbrev Agrees : Scan → Type 0
  Agrees bad = cut q front t ≡ none (impossible 1 (front ++ t))
  Agrees short = cut q front t ≡ pick (ltb (length front + length t) 8192) (none (unfinished (after q t) (front ++ t))) (none (impossible 3 (front ++ t)))
  Agrees (whole k) = (j : ℕ) × (k ≡ length front + j) × (cut q front t ≡ ahead (front ++ take j t) (cut start [] (drop j t)))

-- a byte that is no end and no fault leaves the verdict to the rest
verdict_on : (v : State) (i : ℕ) (x : Scan) → (v ≡ ended → ⊥) → (v ≡ dead → ⊥) → verdict v i x ≡ x
unfolding verdict
verdict_on start i x a d = refl
verdict_on hyphen i x a d = refl
verdict_on arrow i x a d = refl
verdict_on gap i x a d = refl
verdict_on word i x a d = refl
verdict_on (line k v) i x a d = refl
verdict_on ended i x a d = absurd (a refl)
verdict_on dead i x a d = absurd (d refl)

agrees_on : (q : State) (front : List ℕ) (b : ℕ) (t : List ℕ) → cut q front (b ∷ t) ≡ cut (next q b) (front ++ (b ∷ [])) t → (x : Scan) → Agrees (next q b) (front ++ (b ∷ [])) t x → Agrees q front (b ∷ t) x
unfolding after
agrees_on q front b t c bad h = c ∙ h ∙ ap (λ x. none (impossible 1 x)) (append_assoc front (b ∷ []) t)
agrees_on q front b t c short h =
    let n : length front + 1 + length t ≡ length front + suc (length t) = omega arith in
    c ∙ h ∙ rw (append_assoc front (b ∷ []) t, length-append front (b ∷ []))
    (ap (λ n. pick (ltb n 8192) (none (unfinished (after (next q b) t) (front ++ b ∷ t))) (none (impossible 3 (front ++ b ∷ t)))) n)
agrees_on q front b t c (whole k) h = (suc h.0, omega (arith, h.1, length-append front (b ∷ [])), c ∙ h.2 ∙ ap (λ x. ahead x (cut start [] (drop h.0 t))) (append_assoc front (b ∷ []) (take h.0 t)))

cut_scan : (t : List ℕ) (q : State) (front : List ℕ) (m : ℕ) → length front + suc m ≡ 8192 → Agrees q front t (scan q (length front) (take (suc m) t))
unfolding scan verdict after cut
cut_scan [] q front m l = rw (append-nil front) (sym (ap (λ f. pick f (none (unfinished q front)) (none (impossible 3 front))) (lt-ltb (length front + 0) 8192 (omega arith))))
cut_scan (b ∷ t) q front m l = go m l (cut_scan t) (step q front b)
  where
    go : (m : ℕ) → length front + suc m ≡ 8192 → ((q : State) (front : List ℕ) (m : ℕ) → length front + suc m ≡ 8192 → Agrees q front t (scan q (length front) (take (suc m) t))) →
        Step q front b → Agrees q front (b ∷ t) (verdict (next q b) (length front + 1) (scan (next q b) (length front + 1) (take m t)))
    go m l i (ends e c) = subst (λ v. Agrees q front (b ∷ t) (verdict v (length front + 1) (scan (next q b) (length front + 1) (take m t)))) (sym e) (1, refl, c t)
    go m l i (fails e c) = subst (λ v. Agrees q front (b ∷ t) (verdict v (length front + 1) (scan (next q b) (length front + 1) (take m t)))) (sym e) (c t)
    go zero l i (goes_on x y z c) = absurd (omega arith)
    go (suc m) l i (goes_on x y z c) =
        subst (Agrees q front (b ∷ t)) (sym (verdict_on (next q b) (length front + 1) _ x y))
        (agrees_on q front b t (c t) (scan (next q b) (length front + 1) (take (suc m) t))
        (subst (λ n. Agrees (next q b) (front ++ (b ∷ [])) t (scan (next q b) n (take (suc m) t))) (length-append front (b ∷ []))
        (i (next q b) (front ++ (b ∷ [])) m (omega (arith, length-append front (b ∷ []))))))
    go zero l i (overruns x y z c) =
        subst (Agrees q front (b ∷ t)) (sym (verdict_on (next q b) (length front + 1) short x y))
        (c t ∙ sym (ap (λ f. pick f (none (unfinished (after (next q b) t) (front ++ b ∷ t))) (none (impossible 3 (front ++ b ∷ t)))) (le-ltb (length front + suc (length t)) 8192 (omega arith))))
    go (suc m) l i (overruns x y z c) = absurd (omega arith)

-- what a text is cut into by what a scan of its first 8,192 bytes says
text_scan : (x : List ℕ) → Agrees start [] x (scan start 0 (take 8192 x))
text_scan x = cut_scan x start [] 8191 refl

-- a stanza is cut off, and the rest is cut in turn
pub cut_stanza : (x : List ℕ) (l n k : ℕ) → read_first x ≡ stanza l n k → cut start [] x ≡ ahead (take k x) (cut start [] (drop k x))
cut_stanza x l n k h =
    let a : Agrees start [] x (whole k) = subst (Agrees start [] x) (found_whole (length x) (take 8192 x) (scan start 0 (take 8192 x)) l n k h) (text_scan x) in
    let z : a.0 ≡ k = omega (arith, a.1) in
    a.2 ∙ ap (λ j. ahead (take j x) (cut start [] (drop j x))) z

-- a text that is one whole stanza
pub cut_whole : (t : List ℕ) → Whole t → cut start [] t ≡ record { texts = t ∷ []; rest = unfinished start [] }
unfolding cut
cut_whole t w = cut_stanza t w.line w.body (length t) w.read ∙ rw (take-length t, drop-length t)

-- a text that no stanza begins with
pub cut_fault : (x : List ℕ) → read_first x ≡ refused 1 → cut start [] x ≡ record { texts = []; rest = impossible 1 x }
cut_fault x h = subst (Agrees start [] x) (found_bad (length x) (take 8192 x) (scan start 0 (take 8192 x)) h) (text_scan x)

-- .. one that ends before its stanza does, and one that is too long
found_short : (n : ℕ) (w : List ℕ) (x : Scan) (f : Bool) → found n w x ≡ pick f (refused 2) (refused 3) → (x ≡ short) × (ltb n 8192 ≡ f)
unfolding found
found_short n w bad true h = let z : ◌≡◌ {A = ℕ} 2 1 = cc in absurd (omega arith)
found_short n w bad false h = let z : ◌≡◌ {A = ℕ} 3 1 = cc in absurd (omega arith)
found_short n w short f h = (refl, go (ltb n 8192) f h)
  where
    go : (g f : Bool) → pick g (refused 2) (refused 3) ≡ pick f (refused 2) (refused 3) → g ≡ f
    go true true h = refl
    go true false h = let z : ◌≡◌ {A = ℕ} 2 3 = cc in absurd (omega arith)
    go false true h = let z : ◌≡◌ {A = ℕ} 3 2 = cc in absurd (omega arith)
    go false false h = refl
found_short n w (whole k) true h = let z : ◌≡◌ {A = ℕ} 0 1 = cc in absurd (omega arith)
found_short n w (whole k) false h = let z : ◌≡◌ {A = ℕ} 0 1 = cc in absurd (omega arith)

cut_rest : (x : List ℕ) (f : Bool) → read_first x ≡ pick f (refused 2) (refused 3) → cut start [] x ≡ pick f (none (unfinished (after start x) x)) (none (impossible 3 x))
cut_rest x f h =
    let n : 0 + length x ≡ length x = omega arith in
    let z = found_short (length x) (take 8192 x) (scan start 0 (take 8192 x)) f h in
    subst (Agrees start [] x) z.0 (text_scan x) ∙ ap (λ g. pick g (none (unfinished (after start x) x)) (none (impossible 3 x))) (ap (λ n. ltb n 8192) n ∙ z.1)

pub cut_unfinished : (x : List ℕ) → read_first x ≡ refused 2 → cut start [] x ≡ record { texts = []; rest = unfinished (after start x) x }
cut_unfinished x h = cut_rest x true h

pub cut_overlong : (x : List ℕ) → read_first x ≡ refused 3 → cut start [] x ≡ record { texts = []; rest = impossible 3 x }
cut_overlong x h = cut_rest x false h
