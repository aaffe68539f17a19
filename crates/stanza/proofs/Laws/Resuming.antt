-- Reading on is reading: from the start it gives what the reader gives, and piece by piece what it gives of the whole.
use Prim.Native.Nat.{ℕ, zero, suc, ◌+◌, ◌<◌, ◌≤◌}
use mathlib.Core.Path.{◌≡◌, refl, sym, ap, ◌∙◌}
use mathlib.Core.Logic.{◌↔◌}
use mathlib.Core.List.{List, [], ◌∷◌, ◌++◌}
use lib.Dec.{ltb, eqb}
use lib.ListN.{length, take, drop, get_or, drop_of_length-le}
use native.Mathlib.Nat.{add-zero}
use native.Mathlib.Omega.{arith}
use borrow.Author.Tests.{lt-ltb, le-ltb, ne_eqb, ltb-true, eqb-true}
use Rattle.refusal.specs.Pick.{pick}
use Rattle.refusal.proofs.Laws.Booleans.{cases}
use Rattle.refusal.proofs.Laws.Lists.{drop_one}
use Rattle.stanza.specs.Automaton.{State, start, hyphen, arrow, gap, word, line, ended, dead, next, after, Scan, bad, short, verdict, scan}
use Rattle.stanza.specs.Automaton as automaton
use Rattle.stanza.specs.Reading.{Reading, stanza, found, read_first}
use Rattle.stanza.specs.Reading as reading
use Rattle.stanza.proofs.Laws.Grammar.{after_append}
use Rattle.stanza.specs.declared.places.Place.{Place}
use Rattle.stanza.specs.declared.places.Place.TheVariants as place
use Rattle.stanza.specs.Resuming.{place_said, Continued, whole, unfinished, refused, behind, led, continued, from_reading}

-- ---- counting

pub behind_none : (x : Continued) → behind 0 x ≡ x
unfolding behind
behind_none (whole k) = ap whole (omega arith)
behind_none (unfinished s) = refl
behind_none (refused n) = refl

pub behind_behind : (m k : ℕ) (x : Continued) → behind m (behind k x) ≡ behind (m + k) x
unfolding behind
behind_behind m k (whole j) = ap whole (omega arith)
behind_behind m k (unfinished s) = refl
behind_behind m k (refused n) = refl

behind_unfinished : (m : ℕ) (x : Continued) (s : State) → behind m x ≡ unfinished s → x ≡ unfinished s
unfolding behind
behind_unfinished m (whole k) s e = let z : ◌≡◌ {A = ℕ} 0 1 = cc in absurd (omega arith)
behind_unfinished m (unfinished q) s e = e
behind_unfinished m (refused n) s e = let z : ◌≡◌ {A = ℕ} 0 1 = cc in absurd (omega arith)

behind_whole : (m : ℕ) (x : Continued) (k : ℕ) → behind m x ≡ whole k → (j : ℕ) × (x ≡ whole j) × (m + j ≡ k)
unfolding behind
behind_whole m (whole j) k e = (j, refl, cc)
behind_whole m (unfinished q) k e = let z : ◌≡◌ {A = ℕ} 0 1 = cc in absurd (omega arith)
behind_whole m (refused n) k e = let z : ◌≡◌ {A = ℕ} 0 1 = cc in absurd (omega arith)

-- ---- one byte

-- 8,192 bytes have passed
pub continued_over : (s : State) (n : ℕ) (t : List ℕ) (i : ℕ) → 8192 ≤ n → behind i (continued s n t) ≡ refused 3
unfolding continued behind
continued_over s n [] i h = rw (le-ltb n 8192 h)
continued_over s n (b ∷ t) i h = rw (le-ltb n 8192 h)

-- the bytes are over
pub continued_end : (s : State) (n : ℕ) (t : List ℕ) (i : ℕ) → n < 8192 → length t ≤ i → behind i (continued s n (drop i t)) ≡ unfinished s
unfolding continued behind
continued_end s n t i h l = rw (drop_of_length-le t l, lt-ltb n 8192 h)

-- one byte on, the i-th of these behind n of the same stanza
pub continued_at : (s q : State) (n : ℕ) (t : List ℕ) (i : ℕ) → n + i < 8192 → i < length t → q ≡ next s (get_or t i 0) →
    behind i (continued s (n + i) (drop i t)) ≡ behind i (led q (continued q (n + (i + 1)) (drop (i + 1) t)))
unfolding continued
continued_at s q n t i h l e =
    let p : n + i + 1 ≡ n + (i + 1) = omega arith in
    rw (drop_one t i 0 l, lt-ltb (n + i) 8192 h, p, ← e)

-- where an answer is unfinished, the byte led on
record LedOn (s : State) (x : Continued) (q : State) : Type 0 where
  rest : x ≡ unfinished q
  on : (y : Continued) → led s y ≡ behind 1 y

led_on : (s : State) (x : Continued) (q : State) → led s x ≡ unfinished q → LedOn s x q
unfolding led
led_on dead x q e = let z : ◌≡◌ {A = ℕ} 0 1 = cc in absurd (omega arith)
led_on ended x q e = let z : ◌≡◌ {A = ℕ} 0 1 = cc in absurd (omega arith)
led_on start x q e = record { rest = behind_unfinished 1 x q e; on = λ y. refl }
led_on hyphen x q e = record { rest = behind_unfinished 1 x q e; on = λ y. refl }
led_on arrow x q e = record { rest = behind_unfinished 1 x q e; on = λ y. refl }
led_on gap x q e = record { rest = behind_unfinished 1 x q e; on = λ y. refl }
led_on word x q e = record { rest = behind_unfinished 1 x q e; on = λ y. refl }
led_on (line k v) x q e = record { rest = behind_unfinished 1 x q e; on = λ y. refl }

-- where it is whole, the byte ended the stanza, or the rest did
data LedWhole (x : Continued) (k : ℕ) : Type 0 where
  here : 1 ≡ k → LedWhole x k
  later : (j : ℕ) → x ≡ whole j → 1 + j ≡ k → LedWhole x k

led_whole : (s : State) (x : Continued) (k : ℕ) → led s x ≡ whole k → LedWhole x k
unfolding led
led_whole dead x k e = let z : ◌≡◌ {A = ℕ} 0 1 = cc in absurd (omega arith)
led_whole ended x k e = here (cc)
led_whole start x k e = let w = behind_whole 1 x k e in later w.0 w.1 w.2
led_whole hyphen x k e = let w = behind_whole 1 x k e in later w.0 w.1 w.2
led_whole arrow x k e = let w = behind_whole 1 x k e in later w.0 w.1 w.2
led_whole gap x k e = let w = behind_whole 1 x k e in later w.0 w.1 w.2
led_whole word x k e = let w = behind_whole 1 x k e in later w.0 w.1 w.2
led_whole (line j v) x k e = let w = behind_whole 1 x k e in later w.0 w.1 w.2

-- ---- several bytes

-- an answer that is no 3 is given below 8,192 bytes
under : (n : ℕ) (x y : Continued) → pick (ltb n 8192) x (refused 3) ≡ y → (y ≡ refused 3 → ⊥) → (n < 8192) × (x ≡ y)
under n x y e h =
    cases (ltb n 8192)
    (λ t. (ltb-true n 8192 t, rw t at e))
    (λ t. let f : refused 3 ≡ y = rw t at e in absurd (h (sym f)))

unfinished_not : (s : State) → unfinished s ≡ refused 3 → ⊥
unfinished_not s e = let z : ◌≡◌ {A = ℕ} 0 1 = cc in omega arith

whole_not : (k : ℕ) → whole k ≡ refused 3 → ⊥
whole_not k e = let z : ◌≡◌ {A = ℕ} 0 1 = cc in omega arith

-- unfinished: the place is the automaton's, and 8,192 bytes have not passed
pub unfinished_is : (t : List ℕ) (s q : State) (n : ℕ) → continued s n t ≡ unfinished q → (q ≡ after s t) × (n + length t < 8192)
unfolding continued after
unfinished_is [] s q n e = let u = under n (unfinished s) (unfinished q) e (unfinished_not q) in (cc, omega arith)
unfinished_is (b ∷ t) s q n e =
    let u = under n (led (next s b) (continued (next s b) (n + 1) t)) (unfinished q) e (unfinished_not q) in
    let l = led_on (next s b) (continued (next s b) (n + 1) t) q u.1 in
    let w = unfinished_is t (next s b) q (n + 1) l.rest in
    (w.0, omega arith)

-- whole: at least one of these bytes is taken, and no more than there are, nor than 8,192 with those before
pub whole_within : (t : List ℕ) (s : State) (n k : ℕ) → continued s n t ≡ whole k → (1 ≤ k) × (k ≤ length t) × (n + k ≤ 8192)
unfolding continued
whole_within [] s n k e =
    let u = under n (unfinished s) (whole k) e (whole_not k) in
    let z : ◌≡◌ {A = ℕ} 0 1 = cc in
    absurd (omega arith)
whole_within (b ∷ t) s n k e =
    let u = under n (led (next s b) (continued (next s b) (n + 1) t)) (whole k) e (whole_not k) in
    go u.0 (λ j p. whole_within t (next s b) (n + 1) j p) (led_whole (next s b) (continued (next s b) (n + 1) t) k u.1)
  where
    go : n < 8192 → ((j : ℕ) → continued (next s b) (n + 1) t ≡ whole j → (1 ≤ j) × (j ≤ length t) × (n + 1 + j ≤ 8192)) →
        LedWhole (continued (next s b) (n + 1) t) k → (1 ≤ k) × (k ≤ suc (length t)) × (n + k ≤ 8192)
    go h f (here p) = (omega arith, omega arith, omega arith)
    go h f (later j p q) = let w = f j p in (omega arith, omega arith, omega arith)

-- reading on from where an unfinished piece ends gives what the two pieces give at once
pub reading_on : (a b : List ℕ) (s q : State) (n : ℕ) → continued s n a ≡ unfinished q →
    continued s n (a ++ b) ≡ behind (length a) (continued q (n + length a) b)
unfolding continued
reading_on [] b s q n e =
    let u = under n (unfinished s) (unfinished q) e (unfinished_not q) in
    let p : s ≡ q = cc in
    rw (p, add-zero, behind_none (continued q n b))
reading_on (x ∷ a) b s q n e =
    let u = under n (led (next s x) (continued (next s x) (n + 1) a)) (unfinished q) e (unfinished_not q) in
    let l = led_on (next s x) (continued (next s x) (n + 1) a) q u.1 in
    let p : n + 1 + length a ≡ n + suc (length a) = omega arith in
    let m : 1 + length a ≡ suc (length a) = omega arith in
    rw (lt-ltb n 8192 u.0, l.on (continued (next s x) (n + 1) (a ++ b)), reading_on a b (next s x) q (n + 1) l.rest)
    (behind_behind 1 (length a) (continued q (n + 1 + length a) b) ∙ rw (p, m))

-- ---- from the start

-- what a scan of the bytes up to byte 8,192 says, where m bytes lead to a state
scanned : ℕ → State → Scan → Continued
scanned m s bad = refused 1
scanned m s short = pick (ltb m 8192) (unfinished s) (refused 3)
scanned m s (automaton.whole k) = whole k

behind_pick : (n m : ℕ) (s : State) → n ≡ m → behind n (pick (ltb n 8192) (unfinished s) (refused 3)) ≡ pick (ltb m 8192) (unfinished s) (refused 3)
unfolding behind
behind_pick n m s e = rw e (cases (ltb m 8192) (λ h. rw h) (λ h. rw h))

continued_scan : (t : List ℕ) (s : State) (n f : ℕ) → n + f ≡ 8192 →
    behind n (continued s n t) ≡ scanned (n + length t) (after s t) (scan s n (take f t))
unfolding continued scanned scan after behind led verdict
continued_scan [] s n zero h = behind_pick n (n + 0) s (omega arith)
continued_scan [] s n (suc f) h = behind_pick n (n + 0) s (omega arith)
continued_scan (b ∷ t) s n zero h = rw (le-ltb n 8192 (omega arith), le-ltb (n + suc (length t)) 8192 (omega arith))
continued_scan (b ∷ t) s n (suc f) h =
    rw (lt-ltb n 8192 (omega arith)) (go (next s b) (λ s'. continued_scan t s' (n + 1) f (omega arith)))
  where
    on : (s' : State) → behind (n + 1) (continued s' (n + 1) t) ≡ scanned (n + 1 + length t) (after s' t) (scan s' (n + 1) (take f t)) →
        behind n (behind 1 (continued s' (n + 1) t)) ≡ scanned (n + suc (length t)) (after s' t) (scan s' (n + 1) (take f t))
    on s' e =
        let p : n + 1 + length t ≡ n + suc (length t) = omega arith in
        behind_behind n 1 (continued s' (n + 1) t) ∙ e ∙ rw p

    go : (s' : State) →
        ((s'' : State) → behind (n + 1) (continued s'' (n + 1) t) ≡ scanned (n + 1 + length t) (after s'' t) (scan s'' (n + 1) (take f t))) →
        behind n (led s' (continued s' (n + 1) t)) ≡ scanned (n + suc (length t)) (after s' t) (verdict s' (n + 1) (scan s' (n + 1) (take f t)))
    go dead i = refl
    go ended i = refl
    go start i = on start (i start)
    go hyphen i = on hyphen (i hyphen)
    go arrow i = on arrow (i arrow)
    go gap i = on gap (i gap)
    go word i = on word (i word)
    go (line k v) i = on (line k v) (i (line k v))

found_scanned : (m : ℕ) (w : List ℕ) (s : State) (x : Scan) → scanned m s x ≡ from_reading (found m w x) s
unfolding scanned found from_reading
found_scanned m w s bad = refl
found_scanned m w s short = cases (ltb m 8192) (λ h. rw h) (λ h. rw h)
found_scanned m w s (automaton.whole k) = refl

-- reading on from the start is reading
pub from_start : (t : List ℕ) → continued start 0 t ≡ from_reading (read_first t) (after start t)
from_start t =
    sym (behind_none (continued start 0 t))
    ∙ continued_scan t start 0 8192 (omega arith)
    ∙ ap (λ m. scanned m (after start t) (scan start 0 (take 8192 t))) (omega arith)
    ∙ found_scanned (length t) (take 8192 t) (after start t) (scan start 0 (take 8192 t))

-- each answer, and exactly when it is given
pub whole_iff : (t : List ℕ) (k : ℕ) → (continued start 0 t ≡ whole k) ↔ ((e : ℕ) × (m : ℕ) × (read_first t ≡ stanza e m k))
unfolding from_reading
whole_iff t k = (λ p. is (read_first t) (sym (from_start t) ∙ p), λ w. from_start t ∙ rw w.2)
  where
    is : (x : Reading) → from_reading x (after start t) ≡ whole k → (e : ℕ) × (m : ℕ) × (x ≡ stanza e m k)
    is (stanza e m j) p = let q : j ≡ k = cc in (e, m, ap (stanza e m) q)
    is (reading.refused r) p =
        cases (eqb r 2)
        (λ h. let q : unfinished (after start t) ≡ whole k = rw h at p in let z : ◌≡◌ {A = ℕ} 0 1 = cc in absurd (omega arith))
        (λ h. let q : refused r ≡ whole k = rw h at p in let z : ◌≡◌ {A = ℕ} 0 1 = cc in absurd (omega arith))

pub unfinished_iff : (t : List ℕ) → (continued start 0 t ≡ unfinished (after start t)) ↔ (read_first t ≡ reading.refused 2)
unfolding from_reading
unfinished_iff t = (λ p. is (read_first t) (sym (from_start t) ∙ p), λ w. from_start t ∙ rw w)
  where
    is : (x : Reading) → from_reading x (after start t) ≡ unfinished (after start t) → x ≡ reading.refused 2
    is (stanza e m j) p = let z : ◌≡◌ {A = ℕ} 0 1 = cc in absurd (omega arith)
    is (reading.refused r) p =
        cases (eqb r 2)
        (λ h. ap reading.refused (eqb-true r 2 h))
        (λ h. let q : refused r ≡ unfinished (after start t) = rw h at p in let z : ◌≡◌ {A = ℕ} 0 1 = cc in absurd (omega arith))

-- 1 and 3 alike, and no other number
pub refused_iff : (t : List ℕ) (n : ℕ) → (n ≡ 2 → ⊥) → (continued start 0 t ≡ refused n) ↔ (read_first t ≡ reading.refused n)
unfolding from_reading
refused_iff t n l = (λ p. is (read_first t) (sym (from_start t) ∙ p), λ w. from_start t ∙ rw (w, ne_eqb n 2 l))
  where
    is : (x : Reading) → from_reading x (after start t) ≡ refused n → x ≡ reading.refused n
    is (stanza e m j) p = let z : ◌≡◌ {A = ℕ} 0 1 = cc in absurd (omega arith)
    is (reading.refused r) p =
        cases (eqb r 2)
        (λ h. let q : unfinished (after start t) ≡ refused n = rw h at p in let z : ◌≡◌ {A = ℕ} 0 1 = cc in absurd (omega arith))
        (λ h. let q : refused r ≡ refused n = rw h at p in let z : r ≡ n = cc in ap reading.refused z)

-- ---- a stanza of which a is kept, read on with b

kept_on : (a b : List ℕ) → read_first a ≡ reading.refused 2 → continued start 0 (a ++ b) ≡ behind (length a) (continued (after start a) (length a) b)
kept_on a b e =
    reading_on a b start (after start a) 0 ((unfinished_iff a).1 e)
    ∙ ap (λ n. behind (length a) (continued (after start a) n b)) (omega arith)

-- it is read as a and b together
pub pieces_read : (a b : List ℕ) → read_first a ≡ reading.refused 2 →
    behind (length a) (continued (after start a) (length a) b) ≡ from_reading (read_first (a ++ b)) (after start (a ++ b))
pieces_read a b e = sym (kept_on a b e) ∙ from_start (a ++ b)

-- and where it is still unfinished, a and b are kept, with the place behind them
pub pieces_kept : (a b : List ℕ) (q : State) → read_first a ≡ reading.refused 2 → continued (after start a) (length a) b ≡ unfinished q →
    (q ≡ after start (a ++ b)) × (read_first (a ++ b) ≡ reading.refused 2)
unfolding behind
pieces_kept a b q e u =
    let p : q ≡ after start (a ++ b) = (unfinished_is b (after start a) q (length a) u).0 ∙ sym (after_append start a b) in
    (p, (unfinished_iff (a ++ b)).0 (kept_on a b e ∙ rw u (ap unfinished p)))

-- one byte that is not byte 8,192
pub one_byte : (s : State) (b n : ℕ) → n < 8191 → continued s n (b ∷ []) ≡ led (next s b) (unfinished (next s b))
unfolding continued
one_byte s b n h = rw (lt-ltb n 8192 (omega arith), lt-ltb (n + 1) 8192 (omega arith))

-- a place that is neither dead nor ended
pub goes_on : (p : Place) (rest : Continued) → (p ≡ place.Dead → ⊥) → (p ≡ place.Ended → ⊥) → led (place_said p) rest ≡ behind 1 rest
unfolding led
goes_on place.Start rest d e = refl
goes_on place.Hyphen rest d e = refl
goes_on place.Arrow rest d e = refl
goes_on place.Gap rest d e = refl
goes_on place.Word rest d e = refl
goes_on (place.Line k last) rest d e = refl
goes_on place.Ended rest d e = absurd (e refl)
goes_on place.Dead rest d e = absurd (d refl)
