-- The automaton is right: it has ended behind exactly the stanzas, and it is dead behind exactly the texts with which no stanza, of any length,
-- begins. So 1 is given at exactly the first byte that no stanza can have there.
use Prim.Native.Nat.{ℕ, suc, ◌+◌, ◌%◌, ◌<◌, ◌≤◌}
use mathlib.Core.Path.{◌≡◌, refl, sym, ap, ◌∙◌, subst}
use mathlib.Core.Bool.{Bool, true, false, false≢true}
use mathlib.Core.Logic.{◌↔◌}
use mathlib.Core.List.{List, [], ◌∷◌, ◌++◌, append_assoc}
use lib.Dec.{ltb, eqb}
use lib.ListN.{length}
use lib.Pow.{are_bytes}
use native.Mathlib.Nat.{add-zero}
use native.Mathlib.Omega.{arith}
use borrow.Author.Tests.{lt-ltb, eq-eqb, ne_eqb, ltb-true, eqb-true, eqb-false}
use Rattle.refusal.specs.Pick.{pick}
use Rattle.refusal.specs.Run.{all, is_graphic}
use Rattle.refusal.proofs.Laws.Booleans.{and_true, true_and, cases}
use Rattle.strict_base64.specs.Alphabet.{is_character, value_of}
use Rattle.strict_base64.specs.Code.{encoded, decoded, ends_well, is_base64, last}
use Rattle.strict_base64.specs.Lines.{wrapped, lines_of}
use Rattle.strict_base64.proofs.Laws.RoundTrip.{decoded_bytes, encoded_decoded, encoded_is}
use Rattle.stanza.specs.Arguments.{is_line}
use Rattle.stanza.specs.Automaton.{State, start, hyphen, arrow, gap, word, line, ended, dead, next, after}
use Rattle.stanza.specs.Grammar.{first_line, stanza_text, IsStanza}
use Rattle.stanza.proofs.Laws.Arguments.{goes_on, graphic_no_space, space_not_graphic, line_cons, line_nil, goes_nil, goes_space, goes_cons}
use Rattle.stanza.proofs.Laws.Automaton.{last_value, last_value_lem}

-- ---- several bytes, in two parts

pub after_append : (s : State) (p t : List ℕ) → after s (p ++ t) ≡ after (after s p) t
unfolding after
after_append s [] t = refl
after_append s (b ∷ p) t = after_append (next s b) p t

pub after_dead : (t : List ℕ) → after dead t ≡ dead
unfolding after next
after_dead [] = refl
after_dead (b ∷ t) = after_dead t

-- dead is none of the others
unfoldable pub dead_or : State → ℕ
dead_or start = 1
dead_or hyphen = 1
dead_or arrow = 1
dead_or gap = 1
dead_or word = 1
dead_or (line k v) = 1
dead_or ended = 2
dead_or dead = 0

pub after_dead_not : (t : List ℕ) → after dead t ≡ ended → ⊥
unfolding dead_or
after_dead_not t e = let z : ◌≡◌ {A = ℕ} 0 2 = ap dead_or (sym (after_dead t) ∙ e) in omega arith

pub after_ended : (t : List ℕ) → after ended t ≡ ended → t ≡ []
unfolding after next
after_ended [] e = refl
after_ended (b ∷ t) e = absurd (after_dead_not t e)

-- ---- the arguments

-- a line leads from before an argument into one, and so does what follows an argument's first byte
goes_after : (t : List ℕ) → goes_on t ≡ true → after word t ≡ word
unfolding after next
goes_after [] h = refl
goes_after (b ∷ []) h =
    cases (eqb b 32)
    (λ e. absurd (false≢true (sym (goes_space b [] e ∙ line_nil) ∙ h)))
    (λ e. let g = and_true (is_graphic b) (goes_on []) (sym (goes_cons b [] e) ∙ h) in rw g.0)
goes_after (b ∷ c ∷ t) h =
    cases (eqb b 32)
    (λ e.
    let l = and_true (is_graphic c) (goes_on t) (sym (goes_space b (c ∷ t) e ∙ line_cons c t) ∙ h) in
    rw (space_not_graphic b e, e, l.0) (goes_after t l.1))
    (λ e. let g = and_true (is_graphic b) (goes_on (c ∷ t)) (sym (goes_cons b (c ∷ t) e) ∙ h) in rw g.0 (goes_after (c ∷ t) g.1))

line_after : (t : List ℕ) → is_line t ≡ true → after gap t ≡ word
unfolding after next
line_after [] h = absurd (false≢true (sym line_nil ∙ h))
line_after (b ∷ t) h = let g = and_true (is_graphic b) (goes_on t) (sym (line_cons b t) ∙ h) in rw g.0 (goes_after t g.1)

-- ---- the body's lines

-- lines where k characters of the line have passed, up to 64
lines_from : ℕ → List ℕ → List ℕ
lines_from k s = pick (eqb k 64) (10 ∷ wrapped 0 s) (wrapped k s)

wrapped_from : (k c : ℕ) (s : List ℕ) → wrapped k (c ∷ s) ≡ c ∷ lines_from (k + 1) s
unfolding wrapped lines_from
wrapped_from k c s =
    cases (eqb k 63)
    (λ e. let f = eqb-true k 63 e in rw (e, eq-eqb (k + 1) 64 (omega arith)))
    (λ e. let f = eqb-false k 63 e in rw (e, ne_eqb (k + 1) 64 (λ q. f (omega arith))))

-- whether a line may end does not depend on a full line before it
ends_full : (s : List ℕ) (v : ℕ) → ends_well (64 + length s) (last_value v s) ≡ ends_well (0 + length s) (last_value 0 s)
unfolding ends_well last_value
ends_full [] v = refl
ends_full (b ∷ s) v =
    let e : (64 + suc (length s)) % 4 ≡ (0 + suc (length s)) % 4 = omega arith in
    rw e

-- characters that may end there
record Lines (k v : ℕ) (u : List ℕ) : Type 0 where
  chars : List ℕ
  text : u ≡ lines_from k chars
  are : all is_character chars ≡ true
  ends : ends_well (k + length chars) (last_value v chars) ≡ true

not_ended : {s : State} → dead_or s < 2 → s ≡ ended → ⊥
unfolding dead_or
not_ended {s} h e = let z : dead_or s ≡ 2 = ap dead_or e in omega arith

lines_char : (b k v : ℕ) (u : List ℕ) → k < 64 → is_character b ≡ true → Lines (k + 1) (value_of b) u → Lines k v (b ∷ u)
unfolding all last_value lines_from
lines_char b k v u h c w =
    let n : k + suc (length w.chars) ≡ k + 1 + length w.chars = omega arith in
    record { chars = b ∷ w.chars; text = rw (ne_eqb k 64 (omega arith)) (ap (λ l. b ∷ l) w.text ∙ sym (wrapped_from k b w.chars)); are = rw c w.are; ends = rw n w.ends }

lines_next : (v : ℕ) (u : List ℕ) → Lines 0 0 u → Lines 64 v (10 ∷ u)
unfolding lines_from
lines_next v u w = record { chars = w.chars; text = ap (λ l. 10 ∷ l) w.text; are = w.are; ends = ends_full w.chars v ∙ w.ends }

lines_end : (k v : ℕ) (u : List ℕ) → eqb k 64 ≡ false → ends_well k v ≡ true → u ≡ [] → Lines k v (10 ∷ u)
unfolding all last_value lines_from wrapped
lines_end k v u h e z = record { chars = []; text = rw (h, z); are = refl; ends = rw add-zero e }

lines_sound : (u : List ℕ) (k v : ℕ) → k ≤ 64 → after (line k v) u ≡ ended → Lines k v u
unfolding after next dead_or
lines_sound [] k v h e = absurd (not_ended (omega arith) e)
lines_sound (b ∷ u) k v h e =
    cases (is_character b)
    (λ c. cases (ltb k 64)
    (λ l. lines_char b k v u (ltb-true k 64 l) c (lines_sound u (k + 1) (value_of b) (omega (arith, ltb-true k 64 l)) (rw (c, l) at e)))
    (λ l. absurd (after_dead_not u (rw (c, l) at e))))
    (λ c. cases (eqb b 10)
    (λ n. subst (λ x. Lines k v (x ∷ u)) (sym (eqb-true b 10 n))
    (cases (eqb k 64)
    (λ q. subst (λ x. Lines x v (10 ∷ u)) (sym (eqb-true k 64 q)) (lines_next v u (lines_sound u 0 0 (omega arith) (rw (c, n, q) at e))))
    (λ q. cases (ends_well k v)
    (λ f. lines_end k v u q f (after_ended u (rw (c, n, q, f) at e)))
    (λ f. absurd (after_dead_not u (rw (c, n, q, f) at e))))))
    (λ n. absurd (after_dead_not u (rw (c, n) at e))))

-- characters that may end are base64, so they are the encoding of their bytes
lines_body : (s : List ℕ) → all is_character s ≡ true → ends_well (0 + length s) (last_value 0 s) ≡ true → is_base64 s ≡ true
unfolding is_base64 ends_well all
lines_body [] a e = refl
lines_body (b ∷ s) a e =
    let n : 0 + suc (length s) ≡ suc (length s) = omega arith in
    true_and (all is_character (b ∷ s)) _ a (rw (n, last_value_lem 0 (b ∷ s) (omega arith)) at e)

lf_not_character : is_character 10 ≡ false
unfolding is_character
lf_not_character = refl

step_char : (b k v : ℕ) (u : List ℕ) → k < 64 → is_character b ≡ true → after (line k v) (b ∷ u) ≡ after (line (k + 1) (value_of b)) u
unfolding after next
step_char b k v u h c = rw (c, lt-ltb k 64 h)

step_full : (k v : ℕ) (u : List ℕ) → k ≡ 64 → after (line k v) (10 ∷ u) ≡ after (line 0 0) u
unfolding after next
step_full k v u h = rw (lf_not_character, eq-eqb k 64 h)

lines_complete : (s : List ℕ) (k v : ℕ) → k ≤ 63 → all is_character s ≡ true → ends_well (k + length s) (last_value v s) ≡ true → after (line k v) (wrapped k s) ≡ ended
unfolding after next all last_value wrapped
lines_complete [] k v h a e = rw (lf_not_character, ne_eqb k 64 (omega arith), rw add-zero at e)
lines_complete (b ∷ s) k v h a e =
    let c = and_true (is_character b) (all is_character s) a in
    cases (eqb k 63)
    (λ q.
    let f = eqb-true k 63 q in
    let n : k + suc (length s) ≡ 64 + length s = omega arith in
    let w : wrapped k (b ∷ s) ≡ b ∷ 10 ∷ wrapped 0 s = rw q in
    ap (after (line k v)) w ∙ step_char b k v (10 ∷ wrapped 0 s) (omega arith) c.0 ∙ step_full (k + 1) (value_of b) (wrapped 0 s) (omega arith)
    ∙ lines_complete s 0 0 (omega arith) c.1 (sym (ends_full s (value_of b)) ∙ rw n at e))
    (λ q.
    let f = eqb-false k 63 q in
    let n : k + suc (length s) ≡ k + 1 + length s = omega arith in
    let w : wrapped k (b ∷ s) ≡ b ∷ wrapped (k + 1) s = rw q in
    ap (after (line k v)) w ∙ step_char b k v (wrapped (k + 1) s) (omega arith) c.0 ∙ lines_complete s (k + 1) (value_of b) (omega arith) c.1 (rw n at e))

-- ---- the whole

-- what is left of a line, LF, and the body's lines
record Rest (line_is : List ℕ → Bool) (u : List ℕ) : Type 0 where
  line : List ℕ
  body : List ℕ
  are : line_is line ≡ true
  bytes : are_bytes body ≡ true
  text : line ++ 10 ∷ lines_of body ≡ u

rest_cons : (b : ℕ) (u : List ℕ) (is is' : List ℕ → Bool) → ((r : List ℕ) → is r ≡ true → is' (b ∷ r) ≡ true) → Rest is u → Rest is' (b ∷ u)
rest_cons b u is is' f w = record { line = b ∷ w.line; body = w.body; are = f w.line w.are; bytes = w.bytes; text = ap (λ l. b ∷ l) w.text }

line_rest : (u : List ℕ) → after (line 0 0) u ≡ ended → Rest goes_on (10 ∷ u)
unfolding lines_from
line_rest u e =
    let w = lines_sound u 0 0 (omega arith) e in
    let i = lines_body w.chars w.are w.ends in
    record { line = []; body = decoded w.chars; are = goes_nil; bytes = decoded_bytes w.chars; text = ap (λ s. 10 ∷ wrapped 0 s) (encoded_decoded w.chars i) ∙ ap (λ l. 10 ∷ l) (sym w.text) }

word_sound : (u : List ℕ) → after word u ≡ ended → Rest goes_on u
unfolding after next dead_or is_graphic
word_sound [] e = absurd (not_ended (omega arith) e)
word_sound (b ∷ []) e =
    absurd (not_ended (cases (is_graphic b) (λ g. rw g (omega arith)) (λ g. cases (eqb b 32) (λ s. rw (g, s) (omega arith)) (λ s. cases (eqb b 10) (λ l. rw (g, s, l) (omega arith)) (λ l. rw (g, s, l) (omega arith))))) e)
word_sound (b ∷ c ∷ u) e =
    cases (is_graphic b)
    (λ g. rest_cons b (c ∷ u) goes_on goes_on (λ r h. goes_cons b r (graphic_no_space b g) ∙ true_and (is_graphic b) (goes_on r) g h) (word_sound (c ∷ u) (rw g at e)))
    (λ g. cases (eqb b 32)
    (λ s. cases (is_graphic c)
    (λ f. rest_cons b (c ∷ u) is_line goes_on (λ r h. goes_space b r s ∙ h) (rest_cons c u goes_on is_line (λ r h. line_cons c r ∙ true_and (is_graphic c) (goes_on r) f h) (word_sound u (rw (g, s, f) at e))))
    (λ f. absurd (after_dead_not u (rw (g, s, f) at e))))
    (λ s. cases (eqb b 10)
    (λ l. rw (eqb-true b 10 l) (line_rest (c ∷ u) (rw (g, s, l) at e)))
    (λ l. absurd (after_dead_not (c ∷ u) (rw (g, s, l) at e)))))

gap_sound : (u : List ℕ) → after gap u ≡ ended → Rest is_line u
unfolding after next dead_or
gap_sound [] e = absurd (not_ended (omega arith) e)
gap_sound (b ∷ u) e =
    cases (is_graphic b)
    (λ g. rest_cons b u goes_on is_line (λ r h. line_cons b r ∙ true_and (is_graphic b) (goes_on r) g h) (word_sound u (rw g at e)))
    (λ g. absurd (after_dead_not u (rw g at e)))

start_sound : (t : List ℕ) → after start t ≡ ended → IsStanza t
unfolding after next dead_or
start_sound [] e = absurd (not_ended (omega arith) e)
start_sound (a ∷ []) e = absurd (not_ended (cases (eqb a 45) (λ h. rw h (omega arith)) (λ h. rw h (omega arith))) e)
start_sound (a ∷ b ∷ []) e =
    absurd (not_ended (cases (eqb a 45) (λ h. cases (eqb b 62) (λ g. rw (h, g) (omega arith)) (λ g. rw (h, g) (omega arith))) (λ h. rw h (omega arith))) e)
start_sound (a ∷ b ∷ c ∷ u) e =
    cases (eqb a 45)
    (λ h. cases (eqb b 62)
    (λ g. cases (eqb c 32)
    (λ f. whole_is (eqb-true a 45 h) (eqb-true b 62 g) (eqb-true c 32 f) (gap_sound u (rw (h, g, f) at e)))
    (λ f. absurd (after_dead_not u (rw (h, g, f) at e))))
    (λ g. absurd (after_dead_not u (rw (h, g) at e))))
    (λ h. absurd (after_dead_not u (rw h at e)))
  where
    whole_is : a ≡ 45 → b ≡ 62 → c ≡ 32 → Rest is_line u → IsStanza (a ∷ b ∷ c ∷ u)
    whole_is p q r w =
        record {
          line = w.line;
          body = w.body;
          arguments = w.are;
          bytes = w.bytes;
          text = ap (λ l. 45 ∷ 62 ∷ 32 ∷ l) (append_assoc w.line (10 ∷ []) (lines_of w.body) ∙ w.text) ∙ rw (p, q, r);
        }

body_lines : (s : List ℕ) → is_base64 s ≡ true → (all is_character s ≡ true) × (ends_well (0 + length s) (last_value 0 s) ≡ true)
unfolding is_base64 ends_well all last_value
body_lines [] e = (refl, refl)
body_lines (b ∷ s) e =
    let a = and_true (all is_character (b ∷ s)) (ends_well (suc (length s)) (value_of (last (b ∷ s)))) e in
    let n : 0 + suc (length s) ≡ suc (length s) = omega arith in
    (a.0, rw (n, last_value_lem 0 (b ∷ s) (omega arith)) a.1)

pub stanza_complete : (l b : List ℕ) → is_line l ≡ true → are_bytes b ≡ true → after start (stanza_text l b) ≡ ended
unfolding after next is_graphic
stanza_complete l b h a =
    let i = body_lines (encoded b) (encoded_is b a) in
    after_append start (first_line l) (lines_of b) ∙ rw (after_append gap l (10 ∷ []), line_after l h) (lines_complete (encoded b) 0 0 (omega arith) i.0 i.1)

-- the automaton has ended behind exactly the stanzas
pub ended_iff : (t : List ℕ) → (after start t ≡ ended) ↔ IsStanza t
ended_iff t = (start_sound t, λ w. ap (after start) (sym w.text) ∙ stanza_complete w.line w.body w.arguments w.bytes)

-- ---- every state that is not dead goes on to a stanza

-- bytes that complete a stanza
unfoldable pub completion : State → List ℕ
completion start = 45 ∷ 62 ∷ 32 ∷ 65 ∷ 10 ∷ 10 ∷ []
completion hyphen = 62 ∷ 32 ∷ 65 ∷ 10 ∷ 10 ∷ []
completion arrow = 32 ∷ 65 ∷ 10 ∷ 10 ∷ []
completion gap = 65 ∷ 10 ∷ 10 ∷ []
completion word = 10 ∷ 10 ∷ []
completion (line k v) = pick (eqb k 64) (10 ∷ 10 ∷ []) (pick (eqb (k % 4) 0) (10 ∷ []) (pick (eqb k 63) (65 ∷ 10 ∷ 10 ∷ []) (65 ∷ 10 ∷ [])))
completion ended = []
completion dead = []

-- a body line has at most 64 characters
unfoldable pub Fits : State → Type 0
Fits start = Unit {0}
Fits hyphen = Unit {0}
Fits arrow = Unit {0}
Fits gap = Unit {0}
Fits word = Unit {0}
Fits (line k v) = k ≤ 64
Fits ended = Unit {0}
Fits dead = Unit {0}

fits_pick : (t : Bool) (s s' : State) → Fits s → Fits s' → Fits (pick t s s')
fits_pick true s s' f g = f
fits_pick false s s' f g = g

next_fits : (s : State) (b : ℕ) → Fits s → Fits (next s b)
unfolding next Fits
next_fits start b f = fits_pick (eqb b 45) hyphen dead tt tt
next_fits hyphen b f = fits_pick (eqb b 62) arrow dead tt tt
next_fits arrow b f = fits_pick (eqb b 32) gap dead tt tt
next_fits gap b f = fits_pick (is_graphic b) word dead tt tt
next_fits word b f = fits_pick (is_graphic b) word _ tt (fits_pick (eqb b 32) gap _ tt (fits_pick (eqb b 10) (line 0 0) dead (omega arith) tt))
next_fits (line k v) b f =
    fits_pick (is_character b) _ _
    (cases (ltb k 64) (λ l. rw l (omega (arith, ltb-true k 64 l))) (λ l. rw l tt))
    (fits_pick (eqb b 10) _ dead (fits_pick (eqb k 64) (line 0 0) _ (omega arith) (fits_pick (ends_well k v) ended dead tt tt)) tt)
next_fits ended b f = tt
next_fits dead b f = tt

pub after_fits : (t : List ℕ) (s : State) → Fits s → Fits (after s t)
unfolding after
after_fits [] s f = f
after_fits (b ∷ t) s f = after_fits t (next s b) (next_fits s b f)

-- a state that is not not dead is dead
pub only_dead : (s : State) → ((s ≡ dead → ⊥) → ⊥) → s ≡ dead
unfolding dead_or
only_dead start f = absurd (f (λ e. let z : ◌≡◌ {A = ℕ} 1 0 = ap dead_or e in omega arith))
only_dead hyphen f = absurd (f (λ e. let z : ◌≡◌ {A = ℕ} 1 0 = ap dead_or e in omega arith))
only_dead arrow f = absurd (f (λ e. let z : ◌≡◌ {A = ℕ} 1 0 = ap dead_or e in omega arith))
only_dead gap f = absurd (f (λ e. let z : ◌≡◌ {A = ℕ} 1 0 = ap dead_or e in omega arith))
only_dead word f = absurd (f (λ e. let z : ◌≡◌ {A = ℕ} 1 0 = ap dead_or e in omega arith))
only_dead (line k v) f = absurd (f (λ e. let z : ◌≡◌ {A = ℕ} 1 0 = ap dead_or e in omega arith))
only_dead ended f = absurd (f (λ e. let z : ◌≡◌ {A = ℕ} 2 0 = ap dead_or e in omega arith))
only_dead dead f = refl

-- a line that k characters have been on
end_now : (k v : ℕ) → k ≤ 63 → ends_well k v ≡ true → after (line k v) (10 ∷ []) ≡ ended
unfolding after next
end_now k v h e = rw (lf_not_character, ne_eqb k 64 (omega arith), e)

ends_zero : (n : ℕ) → (n % 4 ≡ 1 → ⊥) → ends_well n 0 ≡ true
unfolding ends_well
ends_zero n h =
    cases (eqb (n % 4) 0) (λ a. rw a)
    (λ a. cases (eqb (n % 4) 2) (λ b. rw (a, b))
    (λ b. rw (a, b, eq-eqb (n % 4) 3 (omega (arith, eqb-false (n % 4) 0 a, eqb-false (n % 4) 2 b)))))

capital_a : (is_character 65 ≡ true) × (value_of 65 ≡ 0)
unfolding is_character value_of
capital_a = (refl, refl)

complete_line : (k v : ℕ) → k ≤ 64 → after (line k v) (completion (line k v)) ≡ ended
unfolding completion
complete_line k v h =
    cases (eqb k 64)
    (λ a. rw a (step_full k v (10 ∷ []) (eqb-true k 64 a) ∙ end_now 0 0 (omega arith) (ends_zero 0 (omega arith))))
    (λ a. let n = eqb-false k 64 a in
    cases (eqb (k % 4) 0)
    (λ b. rw (a, b) (end_now k v (omega arith) (unfold ends_well in rw b)))
    (λ b. let m = eqb-false (k % 4) 0 b in
    cases (eqb k 63)
    (λ c. let q = eqb-true k 63 c in
    rw (a, b, c) (step_char 65 k v (10 ∷ 10 ∷ []) (omega arith) capital_a.0 ∙ step_full (k + 1) (value_of 65) (10 ∷ []) (omega arith) ∙ end_now 0 0 (omega arith) (ends_zero 0 (omega arith))))
    (λ c. let q = eqb-false k 63 c in
    rw (a, b, c) (step_char 65 k v (10 ∷ []) (omega arith) capital_a.0 ∙ rw capital_a.1 (end_now (k + 1) 0 (omega arith) (ends_zero (k + 1) (λ z. m (omega arith))))))))

pub completes : (s : State) → Fits s → (s ≡ dead → ⊥) → after s (completion s) ≡ ended
unfolding after next completion is_graphic is_character ends_well Fits
completes start f n = refl
completes hyphen f n = refl
completes arrow f n = refl
completes gap f n = refl
completes word f n = refl
completes (line k v) f n = complete_line k v f
completes ended f n = refl
completes dead f n = absurd (n refl)

-- dead behind exactly the texts with which no stanza begins
pub dead_iff : (p : List ℕ) → (after start p ≡ dead) ↔ ((t : List ℕ) → IsStanza (p ++ t) → ⊥)
unfolding Fits
dead_iff p = (
  λ e t w. after_dead_not t (ap (λ s. after s t) (sym e) ∙ sym (after_append start p t) ∙ (ended_iff (p ++ t)).1 w),
  λ n. only_dead (after start p) (λ a. n (completion (after start p)) ((ended_iff (p ++ completion (after start p))).0 (after_append start p (completion (after start p)) ∙ completes (after start p) (after_fits p start tt) a))),
)
