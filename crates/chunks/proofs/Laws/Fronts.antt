-- Reading on is cutting: what the next bytes do to the front of a stanza, and what the two are cut into.
use Prim.Native.Nat.{ℕ, suc, ◌+◌, ◌<◌}
use mathlib.Core.Path.{◌≡◌, refl, sym, ap, subst, ◌∙◌}
use mathlib.Core.List.{List, [], ◌∷◌, ◌++◌, append_assoc, append-nil}
use lib.Dec.{ltb}
use lib.ListN.{length, take, drop, length-append}
use native.Mathlib.Omega.{arith}
use borrow.Author.Tests.{ltb-true, ltb-false, lt-ltb}
use Rattle.refusal.specs.Pick.{pick}
use Rattle.refusal.proofs.Laws.Booleans.{cases}
use Rattle.stanza.specs.Automaton.{State, start, hyphen, arrow, gap, word, line, ended, dead, next}
use Rattle.stanza.specs.Resuming.{Continued, whole, refused, behind, led, continued}
use Rattle.stanza.specs.Resuming as resuming
use Rattle.stanza.proofs.Laws.Resuming.{behind_none, continued_over}
use Rattle.chunks.specs.Cutting.{unfinished, impossible, cut}
use Rattle.chunks.proofs.Laws.Reading.{ahead, none, Step, ends, fails, goes_on, overruns, step}

-- what a front and the bytes behind it are cut into, by what reading on gives of them
module _ (q : State) (front x : List ℕ) where
  abbrev Continues : Continued → Type 0
  Continues (whole k) = cut q front x ≡ ahead (front ++ take k x) (cut start [] (drop k x))
  Continues (resuming.unfinished v) = cut q front x ≡ none (unfinished v (front ++ x))
  Continues (refused m) = cut q front x ≡ none (impossible m (front ++ x))

-- a byte that is no end and no fault leaves it to those behind it
led_on : (v : State) (r : Continued) → (v ≡ ended → ⊥) → (v ≡ dead → ⊥) → led v r ≡ behind 1 r
unfolding led
led_on start r a d = refl
led_on hyphen r a d = refl
led_on arrow r a d = refl
led_on gap r a d = refl
led_on word r a d = refl
led_on (line k v) r a d = refl
led_on ended r a d = absurd (a refl)
led_on dead r a d = absurd (d refl)

continues_on : (q : State) (front : List ℕ) (b : ℕ) (t : List ℕ) → cut q front (b ∷ t) ≡ cut (next q b) (front ++ (b ∷ [])) t → (r : Continued) →
    Continues (next q b) (front ++ (b ∷ [])) t r → Continues q front (b ∷ t) (behind 1 r)
unfolding behind
continues_on q front b t c (whole k) h =
    let z : suc k ≡ 1 + k = omega arith in
    subst (λ n. Continues q front (b ∷ t) (whole n)) z (c ∙ h ∙ ap (λ y. ahead y (cut start [] (drop k t))) (append_assoc front (b ∷ []) (take k t)))
continues_on q front b t c (resuming.unfinished v) h = c ∙ h ∙ ap (λ y. none (unfinished v y)) (append_assoc front (b ∷ []) t)
continues_on q front b t c (refused m) h = c ∙ h ∙ ap (λ y. none (impossible m y)) (append_assoc front (b ∷ []) t)

continues : (x : List ℕ) (q : State) (front : List ℕ) → length front < 8192 → Continues q front x (continued q (length front) x)
unfolding continued cut led
continues [] q front l = rw (lt-ltb (length front) 8192 l, append-nil front)
continues (b ∷ t) q front l =
    subst (λ f. Continues q front (b ∷ t) (pick f (on (next q b)) (refused 3))) (sym (lt-ltb (length front) 8192 l)) (go (continues t) (step q front b))
  where
    on : State → Continued
    on v = led v (continued (next q b) (length front + 1) t)

    go : ((q : State) (front : List ℕ) → length front < 8192 → Continues q front t (continued q (length front) t)) → Step q front b →
        Continues q front (b ∷ t) (on (next q b))
    go i (ends e c) = subst (λ v. Continues q front (b ∷ t) (on v)) (sym e) (c t)
    go i (fails e c) = subst (λ v. Continues q front (b ∷ t) (on v)) (sym e) (c t)
    go i (goes_on a d m c) =
        let n : length (front ++ (b ∷ [])) ≡ length front + 1 = length-append front (b ∷ []) in
        subst (Continues q front (b ∷ t)) (sym (led_on (next q b) (continued (next q b) (length front + 1) t) a d))
        (continues_on q front b t (c t) (continued (next q b) (length front + 1) t)
        (subst (λ n. Continues (next q b) (front ++ (b ∷ [])) t (continued (next q b) n t)) n (i (next q b) (front ++ (b ∷ [])) (omega arith))))
    go i (overruns a d m c) =
        subst (Continues q front (b ∷ t))
        (sym (led_on (next q b) (continued (next q b) (length front + 1) t) a d ∙ continued_over (next q b) (length front + 1) t 1 m)) (c t)

-- behind 8,192 bytes nothing is read on
front_short : (q : State) (front x : List ℕ) → (continued q (length front) x ≡ refused 3 → ⊥) → length front < 8192
front_short q front x h =
    cases (ltb (length front) 8192) (λ f. ltb-true (length front) 8192 f)
    (λ f. absurd (h (sym (behind_none (continued q (length front) x)) ∙ continued_over q (length front) x 0 (ltb-false (length front) 8192 f))))

-- the stanza ends behind k bytes more
pub front_whole : (q : State) (front x : List ℕ) (k : ℕ) → continued q (length front) x ≡ whole k →
    cut q front x ≡ ahead (front ++ take k x) (cut start [] (drop k x))
front_whole q front x k e =
    subst (Continues q front x) e
    (continues x q front (front_short q front x (λ h. let z : whole k ≡ refused 3 = sym e ∙ h in let n : ◌≡◌ {A = ℕ} 0 1 = cc in omega arith)))

-- the bytes are over and it has not ended
pub front_unfinished : (q v : State) (front x : List ℕ) → continued q (length front) x ≡ resuming.unfinished v →
    cut q front x ≡ none (unfinished v (front ++ x))
front_unfinished q v front x e =
    subst (Continues q front x) e
    (continues x q front (front_short q front x (λ h. let z : resuming.unfinished v ≡ refused 3 = sym e ∙ h in let n : ◌≡◌ {A = ℕ} 0 1 = cc in omega arith)))

-- a byte that no stanza can have there, or byte 8,192 without an end
pub front_refused : (q : State) (front x : List ℕ) (m : ℕ) → length front < 8192 → continued q (length front) x ≡ refused m →
    cut q front x ≡ none (impossible m (front ++ x))
front_refused q front x m l e = subst (Continues q front x) e (continues x q front l)
