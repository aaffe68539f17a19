-- Words of a text: what the code's loops pass over, and that splitting a text and joining its words undo each other.
use Prim.Native.Nat.{ℕ, zero, suc, ◌+◌, ◌-◌, ◌<◌, ◌≤◌}
use mathlib.Core.Path.{◌≡◌, refl, sym, ap, ◌∙◌}
use mathlib.Core.Bool.{Bool, true, false, ◌&&◌}
use mathlib.Core.List.{List, [], ◌∷◌, ◌++◌}
use lib.Dec.{eqb, ltb, eqb-zero-suc, eqb-suc-zero, eqb-suc-suc, leb-suc-suc}
use lib.ListN.{length, take, drop, get_or, length-drop}
use lib.Seq.{drop-drop, get_or-drop}
use native.Mathlib.Omega.{arith}
use borrow.Author.Tests.{lt-ltb, le-ltb, eq-eqb, ne_eqb, leb-true, eqb-true, not-true}
use Rattle.refusal.specs.Pick.{pick}
use Rattle.refusal.specs.Run.{all, run, is_graphic}
use Rattle.refusal.proofs.Laws.Booleans.{cases, and_true, and_assoc}
use Rattle.stanza.specs.Arguments.{is_word_byte, before, words, is_argument, are_arguments, is_line, count_of, argument_of}

-- ---- runs

-- ---- the words of a text

-- the first word is what stands before the first space, and the others are the words behind it
pub words_split : (t : List ℕ) →
    words t ≡
    take (run is_word_byte t) t ∷ pick (ltb (run is_word_byte t) (length t)) (words (drop (suc (run is_word_byte t)) t)) []
unfolding words before run is_word_byte
words_split [] = refl
words_split (b ∷ t) =
    cases (eqb b 32) (λ e. rw (e, lt-ltb 0 (suc (length t)) (omega arith)))
    (λ e. rw (e, words_split t, leb-suc-suc (suc (run is_word_byte t)) (length t)))

-- there is at least one word
pub words_some : (t : List ℕ) → 0 < count_of t
words_some t = rw (words_split t) (omega arith)

-- the word that begins at i and ends at j: it is the word of number 0 there, and behind it the others are numbered from 1
module _ (t : List ℕ) (i j : ℕ) (e : j ≡ i + run is_word_byte (drop i t)) where
  pub argument_here : argument_of (drop i t) 0 ≡ take (j - i) (drop i t)
  argument_here =
      let d : j - i ≡ run is_word_byte (drop i t) = omega arith in
      rw (words_split (drop i t), d)

  pub argument_none : (k : ℕ) → 0 < k → length t ≤ j → argument_of (drop i t) k ≡ []
  argument_none zero h g = absurd (omega arith)
  argument_none (suc k) h g =
      rw (words_split (drop i t), le-ltb (run is_word_byte (drop i t)) (length (drop i t)) (omega (arith, length-drop i t)))

  pub argument_next : (k : ℕ) → 0 < k → j < length t → argument_of (drop i t) k ≡ argument_of (drop (j + 1) t) (k - 1)
  argument_next zero h g = absurd (omega arith)
  argument_next (suc k) h g =
      let d : i + suc (run is_word_byte (drop i t)) ≡ j + 1 = omega arith in
      let m : suc k - 1 ≡ k = omega arith in
      rw (words_split (drop i t), lt-ltb (run is_word_byte (drop i t)) (length (drop i t)) (omega (arith, length-drop i t)), drop-drop (suc (run is_word_byte (drop i t))) i t, d, m)

  -- it is the last word, or one before the others
  pub count_last : length t ≤ j → count_of (drop i t) ≡ 1
  count_last g =
      rw (words_split (drop i t), le-ltb (run is_word_byte (drop i t)) (length (drop i t)) (omega (arith, length-drop i t)))

  pub count_next : j < length t → count_of (drop i t) ≡ count_of (drop (j + 1) t) + 1
  count_next g =
      let d : i + suc (run is_word_byte (drop i t)) ≡ j + 1 = omega arith in
      rw (words_split (drop i t), lt-ltb (run is_word_byte (drop i t)) (length (drop i t)) (omega (arith, length-drop i t)), drop-drop (suc (run is_word_byte (drop i t))) i t, d) (omega arith)

-- ---- lines

-- the text behind the first byte of an argument: the rest of that argument, and the others
pub goes_on : List ℕ → Bool
goes_on t = all is_graphic (get_or (words t) 0 []) && are_arguments (drop 1 (words t))

pub graphic_no_space : (b : ℕ) → is_graphic b ≡ true → eqb b 32 ≡ false
unfolding is_graphic
graphic_no_space b e = ne_eqb b 32 (λ q. omega (arith, leb-true 33 b (and_true _ _ e).0))

pub space_not_graphic : (b : ℕ) → eqb b 32 ≡ true → is_graphic b ≡ false
unfolding is_graphic
space_not_graphic b e = rw (eqb-true b 32 e)

before_line : (b : ℕ) (ws : List (List ℕ)) → 0 < length ws →
    are_arguments (before b ws) ≡ (is_graphic b && (all is_graphic (get_or ws 0 []) && are_arguments (drop 1 ws)))
unfolding before are_arguments is_argument all
before_line b [] h = absurd (omega arith)
before_line b (w ∷ ws) h = sym (and_assoc (is_graphic b) (all is_graphic w) (are_arguments ws))

before_goes : (b : ℕ) (ws : List (List ℕ)) → 0 < length ws →
    (all is_graphic (get_or (before b ws) 0 []) && are_arguments (drop 1 (before b ws))) ≡
    (is_graphic b && (all is_graphic (get_or ws 0 []) && are_arguments (drop 1 ws)))
unfolding before all
before_goes b [] h = absurd (omega arith)
before_goes b (w ∷ ws) h = sym (and_assoc (is_graphic b) (all is_graphic w) (are_arguments ws))

pub line_cons : (b : ℕ) (t : List ℕ) → is_line (b ∷ t) ≡ (is_graphic b && goes_on t)
unfolding words are_arguments is_argument goes_on
line_cons b t =
    cases (eqb b 32) (λ e. rw (e, space_not_graphic b e)) (λ e. rw e (before_line b (words t) (words_some t)))

pub goes_space : (b : ℕ) (t : List ℕ) → eqb b 32 ≡ true → goes_on (b ∷ t) ≡ is_line t
unfolding words goes_on all
goes_space b t e = rw e

pub goes_cons : (b : ℕ) (t : List ℕ) → eqb b 32 ≡ false → goes_on (b ∷ t) ≡ (is_graphic b && goes_on t)
unfolding words goes_on
goes_cons b t e = rw e (before_goes b (words t) (words_some t))

pub goes_nil : goes_on [] ≡ true
unfolding goes_on words are_arguments all
goes_nil = refl

pub line_nil : is_line [] ≡ false
unfolding words are_arguments is_argument
line_nil = refl

-- by the run of graphic bytes at the front
goes_run : (t : List ℕ) →
    goes_on t ≡
    pick (eqb (run is_graphic t) (length t)) true
    (pick (eqb (get_or t (run is_graphic t) 0) 32) (is_line (drop (suc (run is_graphic t)) t)) false)
unfolding run
goes_run [] = goes_nil
goes_run (b ∷ t) =
    cases (is_graphic b)
    (λ e. rw (goes_cons b t (graphic_no_space b e), e, eqb-suc-suc (run is_graphic t) (length t)) (goes_run t))
    (λ e. cases (eqb b 32) (λ s. rw (goes_space b t s, e, eqb-zero-suc (length t), s)) (λ s. rw (goes_cons b t s, e, eqb-zero-suc (length t), s)))

pub line_run : (t : List ℕ) →
    is_line t ≡
    pick (eqb (run is_graphic t) 0) false
    (pick (eqb (run is_graphic t) (length t)) true
    (pick (eqb (get_or t (run is_graphic t) 0) 32) (is_line (drop (suc (run is_graphic t)) t)) false))
unfolding run
line_run [] = line_nil
line_run (b ∷ t) =
    cases (is_graphic b)
    (λ e. rw (line_cons b t, e, eqb-suc-zero (run is_graphic t), eqb-suc-suc (run is_graphic t) (length t)) (goes_run t))
    (λ e. rw (line_cons b t, e))

-- the run of graphic bytes that begins at i and ends at j
module _ (t : List ℕ) (i j : ℕ) (e : j ≡ i + run is_graphic (drop i t)) where
  -- no byte of an argument
  pub line_empty : j ≡ i → is_line (drop i t) ≡ false
  line_empty h =
      let z : run is_graphic (drop i t) ≡ 0 = omega arith in
      rw (line_run (drop i t), z)

  -- the last argument
  pub line_last : (j ≡ i → ⊥) → j ≡ length t → is_line (drop i t) ≡ true
  line_last h g =
      rw (
        line_run (drop i t),
        ne_eqb (run is_graphic (drop i t)) 0 (λ z. h (omega arith)),
        eq-eqb (run is_graphic (drop i t)) (length (drop i t)) (omega (arith, length-drop i t)),
      )

  -- an argument that something follows
  line_on : (j ≡ i → ⊥) → i ≤ length t → (j ≡ length t → ⊥) →
      is_line (drop i t) ≡ pick (eqb (get_or t j 0) 32) (is_line (drop (j + 1) t)) false
  line_on h g k =
      let d : i + suc (run is_graphic (drop i t)) ≡ j + 1 = omega arith in
      rw (
        line_run (drop i t),
        ne_eqb (run is_graphic (drop i t)) 0 (λ z. h (omega arith)),
        ne_eqb (run is_graphic (drop i t)) (length (drop i t)) (λ z. k (omega (arith, length-drop i t))),
        get_or-drop i t (run is_graphic (drop i t)) 0,
        drop-drop (suc (run is_graphic (drop i t))) i t,
        d,
        ← e,
      )

  pub line_bad : (j ≡ i → ⊥) → i ≤ length t → (j ≡ length t → ⊥) → (get_or t j 0 ≡ 32 → ⊥) → is_line (drop i t) ≡ false
  line_bad h g k n = rw (line_on h g k, ne_eqb (get_or t j 0) 32 n)

  pub line_next : (j ≡ i → ⊥) → i ≤ length t → (j ≡ length t → ⊥) → get_or t j 0 ≡ 32 →
      is_line (drop i t) ≡ is_line (drop (j + 1) t)
  line_next h g k s = rw (line_on h g k, eq-eqb (get_or t j 0) 32 s)

-- ---- joining words

-- words with a single space between them
unfoldable pub joined : List (List ℕ) → List ℕ
joined [] = []
joined (w ∷ []) = w
joined (w ∷ v ∷ ws) = w ++ 32 ∷ joined (v ∷ ws)

-- no word has a space
unfoldable pub are_words : List (List ℕ) → Bool
are_words [] = true
are_words (w ∷ ws) = all is_word_byte w && are_words ws

joined_space : (ws : List (List ℕ)) → 0 < length ws → joined ([] ∷ ws) ≡ 32 ∷ joined ws
unfolding joined
joined_space [] h = absurd (omega arith)
joined_space (w ∷ ws) h = refl

joined_before : (b : ℕ) (ws : List (List ℕ)) → 0 < length ws → joined (before b ws) ≡ b ∷ joined ws
unfolding joined before
joined_before b [] h = absurd (omega arith)
joined_before b (w ∷ []) h = refl
joined_before b (w ∷ v ∷ ws) h = refl

-- splitting loses nothing
pub joined_words : (t : List ℕ) → joined (words t) ≡ t
unfolding words
joined_words [] = unfold joined in refl
joined_words (b ∷ t) =
    cases (eqb b 32)
    (λ e. rw (e, joined_space (words t) (words_some t), joined_words t, eqb-true b 32 e))
    (λ e. rw (e, joined_before b (words t) (words_some t), joined_words t))

word_byte : (b : ℕ) → is_word_byte b ≡ true → eqb b 32 ≡ false
unfolding is_word_byte
word_byte b e = not-true (eqb b 32) e

-- a word without spaces stays whole, alone and before a space
one_word_laws : (w : List ℕ) → all is_word_byte w ≡ true → words w ≡ w ∷ []
unfolding words all before
one_word_laws [] e = refl
one_word_laws (b ∷ w) e =
    let a = and_true (is_word_byte b) (all is_word_byte w) e in
    rw (word_byte b a.0, one_word_laws w a.1)

words_append : (w t : List ℕ) → all is_word_byte w ≡ true → words (w ++ 32 ∷ t) ≡ w ∷ words t
unfolding words all before
words_append [] t e = refl
words_append (b ∷ w) t e =
    let a = and_true (is_word_byte b) (all is_word_byte w) e in
    rw (word_byte b a.0, words_append w t a.1)

-- joining loses nothing of words without spaces, of which there is at least one
pub words_joined : (ws : List (List ℕ)) → 0 < length ws → are_words ws ≡ true → words (joined ws) ≡ ws
unfolding joined are_words
words_joined [] h e = absurd (omega arith)
words_joined (w ∷ []) h e = one_word_laws w (and_true (all is_word_byte w) true e).0
words_joined (w ∷ v ∷ ws) h e =
    let a = and_true (all is_word_byte w) (are_words (v ∷ ws)) e in
    words_append w (joined (v ∷ ws)) a.0 ∙ ap (λ (r : List (List ℕ)). w ∷ r) (words_joined (v ∷ ws) (omega arith) a.1)

-- the words of a text have no space, and there is at least one: so both directions hold of them
before_words : (b : ℕ) (ws : List (List ℕ)) → is_word_byte b ≡ true → are_words ws ≡ true → are_words (before b ws) ≡ true
unfolding before are_words all
before_words b [] e h = rw e
before_words b (w ∷ ws) e h = rw e h

space_words : (ws : List (List ℕ)) → are_words ws ≡ true → are_words ([] ∷ ws) ≡ true
unfolding are_words all
space_words ws e = e

pub words_are : (t : List ℕ) → are_words (words t) ≡ true
unfolding words is_word_byte
words_are [] = unfold are_words all in refl
words_are (b ∷ t) =
    cases (eqb b 32) (λ e. rw e (space_words (words t) (words_are t))) (λ e. rw e (before_words b (words t) (rw e) (words_are t)))

-- no argument is empty
arguments_some : (ws : List (List ℕ)) (k : ℕ) → are_arguments ws ≡ true → k < length ws → 0 < length (get_or ws k [])
unfolding are_arguments is_argument
arguments_some [] k e h = absurd (omega arith)
arguments_some ([] ∷ ws) zero e h = absurd (omega (arith, let z : ◌≡◌ {A = ℕ} 0 1 = cc in z))
arguments_some ((b ∷ w) ∷ ws) zero e h = omega arith
arguments_some (w ∷ ws) (suc k) e h = arguments_some ws k (and_true (is_argument w) (are_arguments ws) e).1 (omega arith)

pub argument_some : (t : List ℕ) (k : ℕ) → is_line t ≡ true → k < count_of t → 0 < length (argument_of t k)
argument_some t k e h = arguments_some (words t) k e h
