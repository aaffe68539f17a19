-- What one pass over the lines comes to: the counts, the places of the valid lines and the faults that Files says.
use Prim.Native.Nat.{ℕ, zero, suc, ◌+◌, ◌-◌, ◌<◌, ◌≤◌}
use mathlib.Core.Path.{◌≡◌, refl, sym, subst, ap, ap₂, ◌∙◌}
use mathlib.Core.List.{List, [], ◌∷◌, ◌++◌, append_assoc, append-nil}
use lib.Dec.{ltb, eqb}
use lib.ListN.{length, take, drop, get_or, set, length-append, length-map, length-take, length-drop, drop_of_length-le}
use lib.Seq.{drop-append_seam, drop-drop, drop-length}
use native.Mathlib.Omega.{arith}
use borrow.Author.Tests.{ltb-true, ltb-false}
use Rattle.refusal.proofs.Laws.Booleans.{cases}
use Rattle.identity_file.specs.Lines.{lines}
use Rattle.identity_file.specs.Kinds.{Kind, skipped, secret_key, invalid, valid, kind_of}
use Rattle.identity_file.specs.Files.{key_by, keys_in, valid_by, valid_in, fault_by, faults_from, first_of}
use Rattle.identity_file.specs.Steps.{line_end, next_line, Survey, started, nothing, noted, surveyed, text_at, texts_at, Place, Places}
use Rattle.stanza.specs.Arguments.{before}
use Rattle.identity_file.proofs.Laws.Kinds.{valid_short}
use Rattle.identity_file.proofs.Laws.Files.{first_put, first_take, first_length}
use Rattle.identity_file.proofs.Laws.Lines.{end_le, next_is, next_end, lines_at}

-- ---- one line more, in the loop over a text

pub survey_step : (t : List ℕ) (a n : ℕ) (s : Survey) → a < length t → (let e = line_end t a in
    surveyed n a (lines (drop a t)) s ≡ surveyed (n + 1) (next_line t e) (lines (drop (next_line t e) t)) (noted (kind_of (take (e - a) (drop a t))) n a e s))
unfolding surveyed lines
survey_step t a n s h =
    let e : ℕ = line_end t a in
    let l : List ℕ = take (e - a) (drop a t) in
    let m = end_le t a (omega arith) in
    let q : a + length l ≡ e = ap (λ x. a + x) (length-take (e - a) (drop a t)) ∙ simp length-drop (omega arith) in
    ap (λ x. surveyed n a x s) (lines_at t a h)
    ∙ ap (λ x. surveyed (n + 1) (x + 1) (lines (drop (next_line t e) t)) (noted (kind_of l) n a x s)) q
    ∙ cases (ltb e (length t))
    (λ p. ap (λ x. surveyed (n + 1) x (lines (drop (next_line t e) t)) (noted (kind_of l) n a e s)) (sym (next_is t e (ltb-true e (length t) p))))
    (λ p.
    let z : drop (next_line t e) t ≡ [] = ap (λ k. drop k t) (next_end t e (ltb-false e (length t) p)) ∙ drop-length t in
    ap (λ x. surveyed (n + 1) (e + 1) (lines x) (noted (kind_of l) n a e s)) z ∙ sym (ap (λ x. surveyed (n + 1) (next_line t e) (lines x) (noted (kind_of l) n a e s)) z))

-- ---- the counts

keys_noted : (k : Kind) (n a e : ℕ) (s : Survey) (m : ℕ) → (noted k n a e s).keys + m ≡ s.keys + key_by k m
keys_noted skipped n a e s m = refl
keys_noted secret_key n a e s m = omega arith
keys_noted (invalid r) n a e s m = refl
keys_noted valid n a e s m = refl

pub keys_surveyed : (ls : List (List ℕ)) (n a : ℕ) (s : Survey) → (surveyed n a ls s).keys ≡ s.keys + keys_in ls
unfolding surveyed keys_in
keys_surveyed [] n a s = omega arith
keys_surveyed (l ∷ ls) n a s =
    keys_surveyed ls (n + 1) (a + length l + 1) (noted (kind_of l) n a (a + length l) s) ∙ keys_noted (kind_of l) n a (a + length l) s (keys_in ls)

-- ---- the faults

-- some faults are noted, in slots as far as there are any
pub record Faults (s : Survey) (fs : List (List ℕ)) : Type 0 where
  pub slots : s.faults ≡ first_of 64 fs
  pub count : s.invalid ≡ length fs

-- one line more, where `more` is of the lines behind it
faults_step : (k : Kind) (n a e : ℕ) (s : Survey) (fs gs : List (List ℕ)) (after : Survey → Survey) → Faults s fs →
    ((s : Survey) (fs : List (List ℕ)) → Faults s fs → Faults (after s) (fs ++ gs)) → Faults (after (noted k n a e s)) (fs ++ fault_by k n gs)
faults_step skipped n a e s fs gs after h more = more s fs h
faults_step secret_key n a e s fs gs after h more = more (noted secret_key n a e s) fs (record { slots = h.slots; count = h.count })
faults_step (invalid r) n a e s fs gs after h more =
    let f : List ℕ = r ∷ n ∷ [] in
    let m = more (noted (invalid r) n a e s) (fs ++ f ∷ []) (record { slots = ap₂ (λ x i. set x i f) h.slots h.count ∙ first_put 64 fs f; count = simp length-append (omega (arith, h.count)) }) in
    rw append_assoc at m
faults_step valid n a e s fs gs after h more = more (noted valid n a e s) fs (record { slots = h.slots; count = h.count })

pub faults_surveyed : (ls : List (List ℕ)) (n a : ℕ) (s : Survey) (fs : List (List ℕ)) → Faults s fs → Faults (surveyed n a ls s) (fs ++ faults_from n ls)
unfolding surveyed faults_from
faults_surveyed [] n a s fs h = rw append-nil h
faults_surveyed (l ∷ ls) n a s fs h =
    faults_step (kind_of l) n a (a + length l) s fs (faults_from (n + 1) ls) (surveyed (n + 1) (a + length l + 1) ls) h (λ s fs h. faults_surveyed ls (n + 1) (a + length l + 1) s fs h)

-- ---- the places

abbrev place_by : Kind → ℕ → ℕ → List (List ℕ) → List (List ℕ)
place_by skipped a e ps = ps
place_by secret_key a e ps = ps
place_by (invalid r) a e ps = ps
place_by valid a e ps = (a ∷ e ∷ []) ∷ ps

-- where the valid ones of some lines stand, the first of which begins at a
pub places_from : ℕ → List (List ℕ) → List (List ℕ)
places_from a [] = []
places_from a (l ∷ ls) = place_by (kind_of l) a (a + length l) (places_from (a + length l + 1) ls)

-- some places are noted, in slots as far as there are any
pub record Noted (s : Survey) (ps : List (List ℕ)) : Type 0 where
  pub slots : s.places ≡ first_of 64 ps
  pub count : s.valid ≡ length ps

places_step : (k : Kind) (n a e : ℕ) (s : Survey) (ps qs : List (List ℕ)) (after : Survey → Survey) → Noted s ps →
    ((s : Survey) (ps : List (List ℕ)) → Noted s ps → Noted (after s) (ps ++ qs)) → Noted (after (noted k n a e s)) (ps ++ place_by k a e qs)
places_step skipped n a e s ps qs after h more = more s ps h
places_step secret_key n a e s ps qs after h more = more (noted secret_key n a e s) ps (record { slots = h.slots; count = h.count })
places_step (invalid r) n a e s ps qs after h more = more (noted (invalid r) n a e s) ps (record { slots = h.slots; count = h.count })
places_step valid n a e s ps qs after h more =
    let p : List ℕ = a ∷ e ∷ [] in
    let m = more (noted valid n a e s) (ps ++ p ∷ []) (record { slots = ap₂ (λ x i. set x i p) h.slots h.count ∙ first_put 64 ps p; count = simp length-append (omega (arith, h.count)) }) in
    rw append_assoc at m

pub places_surveyed : (ls : List (List ℕ)) (n a : ℕ) (s : Survey) (ps : List (List ℕ)) → Noted s ps → Noted (surveyed n a ls s) (ps ++ places_from a ls)
unfolding surveyed places_from
places_surveyed [] n a s ps h = rw append-nil h
places_surveyed (l ∷ ls) n a s ps h =
    places_step (kind_of l) n a (a + length l) s ps (places_from (a + length l + 1) ls) (surveyed (n + 1) (a + length l + 1) ls) h (λ s ps h. places_surveyed ls (n + 1) (a + length l + 1) s ps h)

-- some lines stand in a text from a on
Stand : List ℕ → ℕ → List (List ℕ) → Type 0
Stand t a [] = Unit
Stand t a (l ∷ ls) = (a + length l ≤ length t) × (take (length l) (drop a t) ≡ l) × Stand t (a + length l + 1) ls

-- a byte before the first of them
stand_before : (b : ℕ) (u : List ℕ) (t : List ℕ) (a : ℕ) (ls : List (List ℕ)) → drop a t ≡ b ∷ u → a < length t → Stand t (a + 1) ls → Stand t a (before b ls)
unfolding Stand before
stand_before b u t a [] d z h = (omega arith, rw d, tt)
stand_before b u t a (l ∷ ls) d z h =
    let k : drop (a + 1) t ≡ u = sym (drop-drop 1 a t) ∙ ap (drop 1) d in
    let m : a + suc (length l) + 1 ≡ a + 1 + length l + 1 = omega arith in
    (omega (arith, h.0), rw d (ap (λ x. b ∷ x) (sym (ap (take (length l)) k) ∙ h.1)), rw m h.2)

-- a text's lines do
lines_stand : (u p t : List ℕ) → t ≡ p ++ u → Stand t (length p) (lines u)
unfolding lines Stand
lines_stand [] p t e = tt
lines_stand (b ∷ u) p t e =
    let next : List ℕ = p ++ b ∷ [] in
    let q : t ≡ next ++ u = e ∙ sym (append_assoc p (b ∷ []) u) in
    let n : length next ≡ length p + 1 = simp length-append (omega arith) in
    let h : Stand t (length p + 1) (lines u) = rw n at (lines_stand u next t q) in
    let d : drop (length p) t ≡ b ∷ u = ap (drop (length p)) e ∙ drop-append_seam p (b ∷ u) in
    let z : length t ≡ length p + suc (length u) = ap length e ∙ length-append p (b ∷ u) in
    let m : length p + 0 + 1 ≡ length p + 1 = omega arith in
    cases (eqb b 10) (λ c. rw c (omega arith, refl, rw m h)) (λ c. rw c (stand_before b u t (length p) (lines u) d (omega arith) h))

-- all of some pairs are places in the text
AllPlaces : List ℕ → List (List ℕ) → Type 0
AllPlaces t [] = Unit
AllPlaces t (p ∷ ps) = Place t p × AllPlaces t ps

places_at : (t : List ℕ) (ps : List (List ℕ)) → AllPlaces t ps → (i : ℕ) → i < length ps → Place t (get_or ps i [])
unfolding AllPlaces
places_at t [] h i l = absurd (omega arith)
places_at t (p ∷ ps) h zero l = h.0
places_at t (p ∷ ps) h (suc i) l = places_at t ps h.1 i (omega arith)

-- the places of lines that stand in a text are theirs
record Stood (t : List ℕ) (ps : List (List ℕ)) (vs : List (List ℕ)) : Type 0 where
  pub places : AllPlaces t ps
  pub texts : texts_at t ps ≡ vs

stood_step : (t l : List ℕ) (a : ℕ) (ps vs : List (List ℕ)) (k : Kind) → kind_of l ≡ k → a + length l ≤ length t → take (length l) (drop a t) ≡ l → Stood t ps vs →
    Stood t (place_by k a (a + length l) ps) (valid_by k l vs)
unfolding AllPlaces
stood_step t l a ps vs skipped e i q rest = rest
stood_step t l a ps vs secret_key e i q rest = rest
stood_step t l a ps vs (invalid r) e i q rest = rest
stood_step t l a ps vs valid e i q rest =
    let d : a + length l - a ≡ length l = omega arith in
    record {
      places = (record { order = omega arith; inside = i; short = rw d (valid_short l e) }, rest.places);
      texts = ap₂ (λ x y. x ∷ y) (ap (λ n. take n (drop a t)) d ∙ q) rest.texts;
    }

stood : (t : List ℕ) (ls : List (List ℕ)) (a : ℕ) → Stand t a ls → Stood t (places_from a ls) (valid_in ls)
unfolding Stand places_from valid_in AllPlaces
stood t [] a h = record { places = tt; texts = refl }
stood t (l ∷ ls) a h = stood_step t l a (places_from (a + length l + 1) ls) (valid_in ls) (kind_of l) refl h.0 h.1 (stood t ls (a + length l + 1) h.2)

-- ---- the whole file

pub record Surveyed (t : List ℕ) (s : Survey) : Type 0 where
  pub keys : s.keys ≡ keys_in (lines t)
  pub invalid : s.invalid ≡ length (faults_from 0 (lines t))
  pub faults : s.faults ≡ first_of 64 (faults_from 0 (lines t))
  pub valid : s.valid ≡ length (valid_in (lines t))
  pub slots : length s.places ≡ 64
  pub texts : s.valid ≤ 64 → texts_at t (take s.valid s.places) ≡ valid_in (lines t)
  pub places : s.valid ≤ 64 → Places t (take s.valid s.places) (length (take s.valid s.places))

surveyed_file : (t : List ℕ) → Surveyed t (surveyed 0 0 (lines t) (started (first_of 64 []) (first_of 64 [])))
surveyed_file t =
    let none : Survey = started (first_of 64 []) (first_of 64 []) in
    let s : Survey = surveyed 0 0 (lines t) none in
    let f = faults_surveyed (lines t) 0 0 none [] (record { slots = refl; count = refl }) in
    let ps : List (List ℕ) = places_from 0 (lines t) in
    let p = places_surveyed (lines t) 0 0 none [] (record { slots = refl; count = refl }) in
    let z = stood t (lines t) 0 (lines_stand t [] t refl) in
    let m : length ps ≡ length (valid_in (lines t)) = sym (length-map ps (text_at t)) ∙ ap length z.texts in
    let r : Survey = surveyed 0 0 (lines t) none in
    let noted : r.valid ≤ 64 → take r.valid r.places ≡ ps = λ h. ap₂ take p.count p.slots ∙ first_take 64 ps (omega (arith, p.count)) in
    record {
      keys = keys_surveyed (lines t) 0 0 none ∙ omega arith;
      invalid = f.count;
      faults = f.slots;
      valid = p.count ∙ m;
      slots = ap length p.slots ∙ first_length 64 ps;
      texts = λ h. ap (texts_at t) (noted h) ∙ z.texts;
      places = λ h. subst (λ qs. Places t qs (length qs)) (sym (noted h)) (places_at t ps z.places);
    }

-- ---- in the loop: no line left, and bounds

pub survey_end : (t : List ℕ) (a n : ℕ) (s : Survey) → length t ≤ a → surveyed n a (lines (drop a t)) s ≡ s
unfolding surveyed lines
survey_end t a n s h = rw (drop_of_length-le t h)

pub next_bounds : (t : List ℕ) (a : ℕ) → a < length t → (a < next_line t (line_end t a)) × (next_line t (line_end t a) ≤ length t)
next_bounds t a h =
    cases (ltb (line_end t a) (length t))
    (λ e. let l = ltb-true (line_end t a) (length t) e in rw (next_is t (line_end t a) l) (omega arith, omega arith))
    (λ e. rw (next_end t (line_end t a) (ltb-false (line_end t a) (length t) e)) (h, omega arith))

pub record AtMostOne (s r : Survey) : Type 0 where
  pub keys : r.keys ≤ s.keys + 1
  pub invalid : r.invalid ≤ s.invalid + 1
  pub valid : r.valid ≤ s.valid + 1

pub noted_bounds : (k : Kind) (n a e : ℕ) (s : Survey) → AtMostOne s (noted k n a e s)
noted_bounds skipped n a e s = record { keys = omega arith; invalid = omega arith; valid = omega arith }
noted_bounds secret_key n a e s = record { keys = omega arith; invalid = omega arith; valid = omega arith }
noted_bounds (invalid r) n a e s = record { keys = omega arith; invalid = omega arith; valid = omega arith }
noted_bounds valid n a e s = record { keys = omega arith; invalid = omega arith; valid = omega arith }

-- the pass that begins with slots of zeros
pub found_file : (t : List ℕ) (s : Survey) → s ≡ surveyed 0 0 (lines t) nothing → Surveyed t s
unfolding first_of
found_file t s e = rw e (surveyed_file t)
