-- Reading gives exactly the number that document 01 says: each answer, and when it is given, in terms of stanzas alone.
use Prim.Native.Nat.{ℕ, zero, suc, ◌+◌, ◌<◌, ◌≤◌, min}
use mathlib.Core.Path.{◌≡◌, refl, sym, ap, ◌∙◌, subst}
use mathlib.Core.Logic.{◌↔◌}
use mathlib.Core.List.{List, [], ◌∷◌, ◌++◌}
use lib.Dec.{ltb}
use lib.ListN.{length, take, length-take}
use lib.Seq.{take-take, take_all}
use native.Mathlib.Omega.{arith}
use borrow.Author.Tests.{lt-ltb, le-ltb, ltb-true, ltb-false}
use Rattle.refusal.specs.Pick.{pick}
use Rattle.refusal.proofs.Laws.Booleans.{cases}
use Rattle.stanza.specs.Automaton.{State, start, hyphen, arrow, gap, word, line, ended, dead, next, after, Scan, bad, short, whole, verdict, scan}
use Rattle.stanza.specs.Exact.{Begins, FirstFault, Taken}
use Rattle.stanza.specs.Reading.{stanza, refused, found, read_first}
use Rattle.stanza.proofs.Laws.Grammar.{dead_or, after_append, after_dead, after_dead_not, completion, completes, Fits, after_fits, ended_iff, dead_iff}

-- ---- where a scan stops

-- not dead and not ended
record Alive (s : State) : Type 0 where
  goes : s ≡ dead → ⊥
  on : s ≡ ended → ⊥

alive_if : (s : State) → dead_or s ≡ 1 → Alive s
unfolding dead_or
alive_if s h =
    record {
      goes = λ e. let z : ◌≡◌ {A = ℕ} 1 0 = sym h ∙ ap dead_or e in omega arith;
      on = λ e. let z : ◌≡◌ {A = ℕ} 1 2 = sym h ∙ ap dead_or e in omega arith;
    }

after_ended_not : (t : List ℕ) → Alive (after ended t) → ⊥
unfolding after next
after_ended_not [] a = a.on refl
after_ended_not (b ∷ t) a = a.goes (after_dead t)

-- a state from which an alive one is reached is alive
alive_before : (s : State) (t : List ℕ) → Alive (after s t) → Alive s
alive_before s t a =
    record {
      goes = λ e. a.goes (ap (λ x. after x t) e ∙ after_dead t);
      on = λ e. after_ended_not t (subst (λ x. Alive (after x t)) e a);
    }

-- a state from which an ended one is reached by a byte or more is alive
ended_before : (s : State) (b : ℕ) (t : List ℕ) → after s (b ∷ t) ≡ ended → Alive s
unfolding after next
ended_before s b t e =
    record {
      goes = λ d. after_dead_not (b ∷ t) (sym (ap (λ x. after x (b ∷ t)) d) ∙ e);
      on = λ d. after_dead_not t (sym (ap (λ x. after x (b ∷ t)) d) ∙ e);
    }

verdict_alive : (s : State) (i : ℕ) (rest : Scan) → Alive s → verdict s i rest ≡ rest
unfolding verdict
verdict_alive start i rest a = refl
verdict_alive hyphen i rest a = refl
verdict_alive arrow i rest a = refl
verdict_alive gap i rest a = refl
verdict_alive word i rest a = refl
verdict_alive (line k v) i rest a = refl
verdict_alive ended i rest a = absurd (a.on refl)
verdict_alive dead i rest a = absurd (a.goes refl)

scan_alive : (u : List ℕ) (s : State) (i : ℕ) → Alive (after s u) → scan s i u ≡ short
unfolding scan after
scan_alive [] s i a = refl
scan_alive (b ∷ u) s i a = verdict_alive (next s b) (i + 1) (scan (next s b) (i + 1) u) (alive_before (next s b) u a) ∙ scan_alive u (next s b) (i + 1) a

scan_dead : (k : ℕ) (u : List ℕ) (s : State) (i : ℕ) → k < length u → Alive (after s (take k u)) → after s (take (suc k) u) ≡ dead → scan s i u ≡ bad
unfolding scan after verdict
scan_dead k [] s i h a e = absurd (omega arith)
scan_dead zero (b ∷ u) s i h a e = rw e
scan_dead (suc k) (b ∷ u) s i h a e =
    verdict_alive (next s b) (i + 1) (scan (next s b) (i + 1) u) (alive_before (next s b) (take k u) a) ∙ scan_dead k u (next s b) (i + 1) (omega arith) a e

scan_ended : (k : ℕ) (u : List ℕ) (s : State) (i : ℕ) → k < length u → after s (take (suc k) u) ≡ ended → scan s i u ≡ whole (i + suc k)
unfolding scan after verdict
scan_ended k [] s i h e = absurd (omega arith)
scan_ended zero (b ∷ u) s i h e = rw e
scan_ended (suc k) (b ∷ []) s i h e = absurd (omega arith)
scan_ended (suc k) (b ∷ c ∷ u) s i h e =
    let n : i + suc (suc k) ≡ i + 1 + suc k = omega arith in
    verdict_alive (next s b) (i + 1) (scan (next s b) (i + 1) (c ∷ u)) (ended_before (next s b) c (take k u) e) ∙ scan_ended k (c ∷ u) (next s b) (i + 1) (omega arith) e ∙ rw n

-- and the way back: which of the three it was
data Stops (s : State) (i : ℕ) (u : List ℕ) : Scan → Type 0 where
  at_dead : (k : ℕ) → k < length u → Alive (after s (take k u)) → after s (take (suc k) u) ≡ dead → Stops s i u bad
  at_end : Alive (after s u) → Stops s i u short
  at_ended : (k : ℕ) → k < length u → after s (take (suc k) u) ≡ ended → Stops s i u (whole (i + suc k))

stops_next : (s : State) (i b : ℕ) (u : List ℕ) (x : Scan) → Alive s → Stops (next s b) (i + 1) u x → Stops s i (b ∷ u) x
unfolding after
stops_next s i b u bad a (at_dead k h l d) = at_dead (suc k) (omega arith) l d
stops_next s i b u short a (at_end l) = at_end l
stops_next s i b u _ a (at_ended k h d) =
    let n : i + suc (suc k) ≡ i + 1 + suc k = omega arith in
    subst (λ m. Stops s i (b ∷ u) (whole m)) n (at_ended (suc k) (omega arith) d)

stops : (u : List ℕ) (s : State) (i : ℕ) → Alive s → Stops s i u (scan s i u)
unfolding scan after verdict dead_or
stops [] s i a = at_end a
stops (b ∷ u) s i a = go (next s b) refl (λ l. stops u (next s b) (i + 1) l)
  where
    on : dead_or (next s b) ≡ 1 → (Alive (next s b) → Stops (next s b) (i + 1) u (scan (next s b) (i + 1) u)) →
        Stops s i (b ∷ u) (verdict (next s b) (i + 1) (scan (next s b) (i + 1) u))
    on e f =
        let l = alive_if (next s b) e in
        subst (Stops s i (b ∷ u)) (sym (verdict_alive (next s b) (i + 1) (scan (next s b) (i + 1) u) l)) (stops_next s i b u (scan (next s b) (i + 1) u) a (f l))

    go : (s' : State) → next s b ≡ s' → (Alive (next s b) → Stops (next s b) (i + 1) u (scan (next s b) (i + 1) u)) →
        Stops s i (b ∷ u) (verdict (next s b) (i + 1) (scan (next s b) (i + 1) u))
    go dead e f = subst (λ s''. Stops s i (b ∷ u) (verdict s'' (i + 1) (scan s'' (i + 1) u))) (sym e) (at_dead zero (omega arith) a e)
    go ended e f = subst (λ s''. Stops s i (b ∷ u) (verdict s'' (i + 1) (scan s'' (i + 1) u))) (sym e) (at_ended zero (omega arith) e)
    go start e f = on (ap dead_or e) f
    go hyphen e f = on (ap dead_or e) f
    go arrow e f = on (ap dead_or e) f
    go gap e f = on (ap dead_or e) f
    go word e f = on (ap dead_or e) f
    go (line k v) e f = on (ap dead_or e) f

-- ---- in terms of stanzas

begins_alive : (p : List ℕ) → Begins p → Alive (after start p)
begins_alive p w =
    let e = sym (after_append start p w.rest) ∙ (ended_iff (p ++ w.rest)).1 w.whole in
    rest_alive w.rest w.longer e
  where
    rest_alive : (r : List ℕ) → 0 < length r → after (after start p) r ≡ ended → Alive (after start p)
    rest_alive [] h e = absurd (omega arith)
    rest_alive (b ∷ r) h e = ended_before (after start p) b r e

alive_begins : (p : List ℕ) → Alive (after start p) → Begins p
unfolding Fits after
alive_begins p a =
    let s = after start p in
    let e : after s (completion s) ≡ ended = completes s (after_fits p start tt) a.goes in
    record {
      rest = completion s;
      longer = some (completion s) e;
      whole = (ended_iff (p ++ completion s)).0 (after_append start p (completion s) ∙ e);
    }
  where
    some : (r : List ℕ) → after (after start p) r ≡ ended → 0 < length r
    some [] e = absurd (a.on e)
    some (b ∷ r) e = omega arith

start_alive : Alive start
unfolding dead_or
start_alive = alive_if start refl

-- what the answer tells of the scan
pub found_bad : (n : ℕ) (w : List ℕ) (x : Scan) → found n w x ≡ refused 1 → x ≡ bad
unfolding found
found_bad n w bad e = refl
found_bad n w short e =
    cases (ltb n 8192)
    (λ h. let f : refused 2 ≡ refused 1 = rw h at e in let z : ◌≡◌ {A = ℕ} 2 1 = cc in absurd (omega arith))
    (λ h. let f : refused 3 ≡ refused 1 = rw h at e in let z : ◌≡◌ {A = ℕ} 3 1 = cc in absurd (omega arith))
found_bad n w (whole k) e = let z : ◌≡◌ {A = ℕ} 0 1 = cc in absurd (omega arith)

found_short : (n : ℕ) (w : List ℕ) (x : Scan) (r : ℕ) → found n w x ≡ refused r → (r ≡ 1 → ⊥) → (x ≡ short) × (pick (ltb n 8192) (refused 2) (refused 3) ≡ refused r)
unfolding found
found_short n w bad r e h = let z : 1 ≡ r = cc in absurd (h (sym z))
found_short n w short r e h = (refl, e)
found_short n w (whole k) r e h = let z : ◌≡◌ {A = ℕ} 0 1 = cc in absurd (omega arith)

-- No. 1
pub refused_1 : (t : List ℕ) → (read_first t ≡ refused 1) ↔ FirstFault t
unfolding found
refused_1 t = (λ e. fault (scan start 0 (take 8192 t)) (stops (take 8192 t) start 0 start_alive) (found_bad (length t) (take 8192 t) (scan start 0 (take 8192 t)) e), given)
  where
    l : length (take 8192 t) ≡ min 8192 (length t)
    l = length-take 8192 t

    fault : (x : Scan) → Stops start 0 (take 8192 t) x → x ≡ bad → FirstFault t
    fault bad (at_dead k h a d) e =
        let p : take k (take 8192 t) ≡ take k t = take-take k 8192 t (omega (arith, l)) in
        let q : take (suc k) (take 8192 t) ≡ take (suc k) t = take-take (suc k) 8192 t (omega (arith, l)) in
        record {
          at = k;
          within = omega (arith, l);
          limit = omega (arith, l);
          possible = subst Begins p (alive_begins (take k (take 8192 t)) a);
          impossible = (dead_iff (take (suc k) t)).0 (ap (after start) (sym q) ∙ d);
        }
    fault short (at_end a) e = let z : ◌≡◌ {A = ℕ} 0 1 = cc in absurd (omega arith)
    fault _ (at_ended k h d) e = let z : ◌≡◌ {A = ℕ} 0 1 = cc in absurd (omega arith)

    given : FirstFault t → read_first t ≡ refused 1
    given f =
        let k = f.at in
        let p : take k (take 8192 t) ≡ take k t = take-take k 8192 t (omega (arith, f.limit)) in
        let q : take (suc k) (take 8192 t) ≡ take (suc k) t = take-take (suc k) 8192 t f.limit in
        ap (found (length t) (take 8192 t))
        (scan_dead k (take 8192 t) start 0 (omega (arith, l, f.limit, f.within)) (subst (λ x. Alive (after start x)) (sym p) (begins_alive (take k t) f.possible)) (ap (after start) q ∙ (dead_iff (take (suc k) t)).1 f.impossible))

-- No. 2: the text ends sooner; No. 3: 8,192 bytes pass, and the stanza has not ended
short_iff : (t : List ℕ) (r : ℕ) → (r ≡ 1 → ⊥) → (read_first t ≡ refused r) ↔ (Begins (take 8192 t) × (pick (ltb (length t) 8192) (refused 2) (refused 3) ≡ refused r))
unfolding found
short_iff t r h = (
  λ e. let s = found_short (length t) (take 8192 t) (scan start 0 (take 8192 t)) r e h in (ends (scan start 0 (take 8192 t)) (stops (take 8192 t) start 0 start_alive) s.0, s.1),
  λ w. ap (found (length t) (take 8192 t)) (scan_alive (take 8192 t) start 0 (begins_alive (take 8192 t) w.0)) ∙ w.1,
)
  where
    ends : (x : Scan) → Stops start 0 (take 8192 t) x → x ≡ short → Begins (take 8192 t)
    ends bad (at_dead k h a d) e = let z : ◌≡◌ {A = ℕ} 0 1 = cc in absurd (omega arith)
    ends short (at_end a) e = alive_begins (take 8192 t) a
    ends _ (at_ended k h d) e = let z : ◌≡◌ {A = ℕ} 0 1 = cc in absurd (omega arith)

pub refused_2 : (t : List ℕ) → (read_first t ≡ refused 2) ↔ ((length t < 8192) × Begins t)
refused_2 t = (
  λ e. let s = (short_iff t 2 (omega arith)).0 e in let h = under s.1 in (h, subst Begins (take_all 8192 t (omega arith)) s.0),
  λ w. (short_iff t 2 (omega arith)).1 (subst Begins (sym (take_all 8192 t (omega (arith, w.0)))) w.1, rw (lt-ltb (length t) 8192 w.0)),
)
  where
    under : pick (ltb (length t) 8192) (refused 2) (refused 3) ≡ refused 2 → length t < 8192
    under e = cases (ltb (length t) 8192) (λ h. ltb-true (length t) 8192 h) (λ h. let f : refused 3 ≡ refused 2 = rw h at e in let z : ◌≡◌ {A = ℕ} 3 2 = cc in absurd (omega arith))

pub refused_3 : (t : List ℕ) → (read_first t ≡ refused 3) ↔ ((8192 ≤ length t) × Begins (take 8192 t))
refused_3 t = (
  λ e. let s = (short_iff t 3 (omega arith)).0 e in (over s.1, s.0),
  λ w. (short_iff t 3 (omega arith)).1 (w.1, rw (le-ltb (length t) 8192 w.0)),
)
  where
    over : pick (ltb (length t) 8192) (refused 2) (refused 3) ≡ refused 3 → 8192 ≤ length t
    over e = cases (ltb (length t) 8192) (λ h. let f : refused 2 ≡ refused 3 = rw h at e in let z : ◌≡◌ {A = ℕ} 2 3 = cc in absurd (omega arith)) (λ h. ltb-false (length t) 8192 h)

-- a stanza that is taken
pub found_whole : (n : ℕ) (w : List ℕ) (x : Scan) (e m k : ℕ) → found n w x ≡ stanza e m k → x ≡ whole k
unfolding found
found_whole n w bad e m k p = let z : ◌≡◌ {A = ℕ} 0 1 = cc in absurd (omega arith)
found_whole n w short e m k p =
    cases (ltb n 8192)
    (λ h. let f : refused 2 ≡ stanza e m k = rw h at p in let z : ◌≡◌ {A = ℕ} 0 1 = cc in absurd (omega arith))
    (λ h. let f : refused 3 ≡ stanza e m k = rw h at p in let z : ◌≡◌ {A = ℕ} 0 1 = cc in absurd (omega arith))
found_whole n w (whole j) e m k p = let z : j ≡ k = cc in ap whole z

-- the scan of a text whose first k bytes are a stanza
pub scan_taken : (t : List ℕ) (k : ℕ) → Taken t k → scan start 0 (take 8192 t) ≡ whole k
unfolding after dead_or
scan_taken t zero w = let z : ◌≡◌ {A = ℕ} 1 2 = ap dead_or ((ended_iff []).1 w.whole) in absurd (omega arith)
scan_taken t (suc j) w =
    let q : take (suc j) (take 8192 t) ≡ take (suc j) t = take-take (suc j) 8192 t w.limit in
    scan_ended j (take 8192 t) start 0 (omega (arith, length-take 8192 t, w.limit, w.within)) (ap (after start) q ∙ (ended_iff (take (suc j) t)).1 w.whole) ∙ ap whole (omega arith)

pub taken_iff : (t : List ℕ) (k : ℕ) → ((e : ℕ) × (n : ℕ) × (read_first t ≡ stanza e n k)) ↔ Taken t k
unfolding found
taken_iff t k = (λ w. is (scan start 0 (take 8192 t)) (stops (take 8192 t) start 0 start_alive) (found_whole (length t) (take 8192 t) (scan start 0 (take 8192 t)) w.0 w.1 k w.2), λ w. (_, _, ap (found (length t) (take 8192 t)) (scan_taken t k w)))
  where
    l : length (take 8192 t) ≡ min 8192 (length t)
    l = length-take 8192 t

    is : (x : Scan) → Stops start 0 (take 8192 t) x → x ≡ whole k → Taken t k
    is bad (at_dead j h a d) e = let z : ◌≡◌ {A = ℕ} 0 1 = cc in absurd (omega arith)
    is short (at_end a) e = let z : ◌≡◌ {A = ℕ} 0 1 = cc in absurd (omega arith)
    is _ (at_ended j h d) e =
        let z : 0 + suc j ≡ k = cc in
        let n : suc j ≡ k = omega arith in
        let q : take (suc j) (take 8192 t) ≡ take k t = take-take (suc j) 8192 t (omega (arith, l)) ∙ rw n in
        record { within = omega (arith, l); limit = omega (arith, l); whole = (ended_iff (take k t)).0 (ap (after start) (sym q) ∙ d) }
