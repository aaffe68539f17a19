-- A chunk's front: what the chunk comes to by it.
use Prim.Native.Nat.{ℕ, zero, suc, ◌+◌, ◌≤◌, ◌<◌, min}
use mathlib.Core.Path.{◌≡◌, refl, sym, ap, ap₂, ◌∙◌}
use mathlib.Core.Bool.{Bool, true, false, false≢true}
use mathlib.Core.List.{List, [], ◌∷◌, ◌++◌}
use lib.ListN.{length, take, drop, set, get_or, length-take}
use lib.Seq.{length-take-le}
use native.Mathlib.Omega.{arith}
use borrow.Author.Tests.{eqb-true, lt-ltb}
use Rattle.refusal.specs.Output.{filled}
use Rattle.refusal.specs.Pick.{pick}
use Rattle.refusal.proofs.Laws.Booleans.{cases}
use Rattle.strict_base64.specs.Alphabet.{is_character, value_of}
use Rattle.refusal.specs.Run.{is_graphic}
use Rattle.stanza.specs.Automaton.{State, start, gap, word, line, next}
use Rattle.stanza.specs.Resuming.{Continued, whole, continued, place_said, led, behind}
use Rattle.stanza.specs.Resuming as resuming
use Rattle.stanza.specs.declared.places.Place.{Place}
use Rattle.stanza.specs.declared.places.Place.TheVariants as place
use Rattle.stanza.proofs.Laws.Resuming.{unfinished_is, whole_within, one_byte}
use Rattle.session.specs.Session.{Session, session_of, closed}
use Rattle.session.specs.declared.sessions.Session.{Session as CodeSession}
use Rattle.conversation.specs.Calls.{outcome}
use Rattle.conversation.specs.Kinds.{Buffers}
use Rattle.chunks.specs.Cutting.{cut}
use Rattle.chunks.specs.Taking.{End, Turn, reads, drops, keeps_back, turn_at, stanza_call, Intake, Taken, no_more, emptied, keeping, taken_text}
use Rattle.chunks.specs.Chunks.{Outcome, judged, taken, turn_of, chunked}
use Rattle.chunks.specs.Uncut.{is_waiting}
use Rattle.chunks.proofs.Laws.Runs.{judged_held}
use Rattle.chunks.proofs.Laws.Taking.{chunked_read}
use Rattle.chunks.proofs.Laws.Texts.{stanza_taken, taken_cut, front_left, front_fault, front_stanza}
use Rattle.intake.specs.Intake.{awaited_size, kept_size, intake_of, taken_said, received_said}
use Rattle.intake.specs.Fronts.{is_between, is_reading, front_of, front_in, input_behind}
use Rattle.intake.specs.Settling.{Says}
use Rattle.intake.specs.declared.answers.Received.{Received as CodeReceived}
use Rattle.intake.proofs.Laws.Keeping.{filled_empty, byte_behind, one_of}
use Rattle.intake.proofs.Laws.Settling.{reads_waits}

-- ---- by what the front gives

between_is : (p : Place) (n : ℕ) → is_between p n ≡ true → (place_said p ≡ start) × (n ≡ 0)
between_is place.Start n h = (refl, eqb-true n 0 h)
between_is place.Hyphen n h = absurd (false≢true h)
between_is place.Arrow n h = absurd (false≢true h)
between_is place.Gap n h = absurd (false≢true h)
between_is place.Word n h = absurd (false≢true h)
between_is (place.Line k l) n h = absurd (false≢true h)
between_is place.Ended n h = absurd (false≢true h)
between_is place.Dead n h = absurd (false≢true h)

module _ (p : Place) (n : ℕ) (x : List ℕ) where
  -- a stanza is unfinished where the front is any but none
  pub going_on : (r : Continued) → front_of p n x ≡ r → (whole 0 ≡ r → ⊥) → continued (place_said p) n x ≡ r
  going_on r h z =
      cases (is_between p n) (λ f. absurd (z (sym (ap (λ f. pick f (whole 0) (continued (place_said p) n x)) f) ∙ h)))
      (λ f. sym (ap (λ f. pick f (whole 0) (continued (place_said p) n x)) f) ∙ h)

  pub not_unfinished : (q : State) → whole 0 ≡ resuming.unfinished q → ⊥
  not_unfinished q e = let z : ◌≡◌ {A = ℕ} 0 1 = cc in omega arith

  pub not_refused : (m : ℕ) → whole 0 ≡ resuming.refused m → ⊥
  not_refused m e = let z : ◌≡◌ {A = ℕ} 0 1 = cc in omega arith

  not_some : (k : ℕ) → (k ≡ 0 → ⊥) → whole 0 ≡ whole k → ⊥
  not_some k z e = z (cc)

  -- .. and it is read
  pub reading_on : (t : Turn) (r : Continued) → front_in t p n x ≡ r → (whole 0 ≡ r → ⊥) → (t ≡ reads) × (front_of p n x ≡ r)
  reading_on reads r h z = (refl, h)
  reading_on (drops m) r h z = absurd (z h)
  reading_on keeps_back r h z = absurd (z h)

  -- none is where none of the chunk belongs to one
  pub between : front_of p n x ≡ whole 0 → (place_said p ≡ start) × (n ≡ 0)
  between h =
      cases (is_between p n) (λ f. between_is p n f)
      (λ f. let w = whole_within x (place_said p) n 0 (sym (ap (λ f. pick f (whole 0) (continued (place_said p) n x)) f) ∙ h) in absurd (omega (arith, w.0)))

-- ---- what a chunk comes to

module _ (e : End) (s : CodeSession) (xs hs : List (List ℕ)) (input : List ℕ) (turn : turn_at e s.phase ≡ reads) where
  -- no stanza waits, and what is kept stands at the input's front
  pub intake_reads : intake_of e s xs hs input ≡ keeping (session_of s xs hs) (place_said s.reading) (take (min s.kept 8191) input) []
  intake_reads = rw (reads_waits e s.phase turn)

  module _ (long : 8192 ≤ length input) (chunk : List ℕ) (b : Buffers) where
    abbrev v : Session
    v = session_of s xs hs

    abbrev front : List ℕ
    front = take (min s.kept 8191) input

    front_size : length front ≡ min s.kept 8191
    front_size = length-take-le (min s.kept 8191) input (omega arith)

    abbrev here : Taken
    here = taken e (intake_of e s xs hs input) b chunk

    here_is : here ≡ taken_cut e v b [] (cut (place_said s.reading) front chunk)
    here_is = ap (λ i. taken e i b chunk) intake_reads

    at_front : (r : Continued) → continued (place_said s.reading) (min s.kept 8191) chunk ≡ r → continued (place_said s.reading) (length front) chunk ≡ r
    at_front r h = ap (λ n. continued (place_said s.reading) n chunk) front_size ∙ h

    -- it begins a stanza
    pub chunk_begins : front_of s.reading (min s.kept 8191) chunk ≡ whole 0 → here ≡ taken_text e v b [] chunk
    chunk_begins h =
        let z = between s.reading (min s.kept 8191) chunk h in
        here_is ∙ ap₂ (λ q n. taken_cut e v b [] (cut q (take n input) chunk)) z.0 z.1

    -- the unfinished stanza goes on
    pub chunk_goes_on : (q : State) → front_of s.reading (min s.kept 8191) chunk ≡ resuming.unfinished q →
        (here ≡ no_more 0 (keeping v q (front ++ chunk) []) b) × (min s.kept 8191 + length chunk ≤ 8191)
    chunk_goes_on q h =
        let k = going_on s.reading (min s.kept 8191) chunk (resuming.unfinished q) h (not_unfinished s.reading (min s.kept 8191) chunk q) in
        let u = (unfinished_is chunk (place_said s.reading) q (min s.kept 8191) k).1 in
        (here_is ∙ front_left e v b [] turn (place_said s.reading) q front chunk (at_front (resuming.unfinished q) k), omega arith)

    -- it cannot go on so
    pub chunk_fault : (m : ℕ) → front_of s.reading (min s.kept 8191) chunk ≡ resuming.refused m → here ≡ no_more m (emptied (closed v) []) b
    chunk_fault m h =
        here_is
        ∙ front_fault e v b [] turn (place_said s.reading) front chunk m (omega (arith, front_size))
        (at_front (resuming.refused m) (going_on s.reading (min s.kept 8191) chunk (resuming.refused m) h (not_refused s.reading (min s.kept 8191) chunk m)))

    -- it ends
    module _ (k : ℕ) (h : front_of s.reading (min s.kept 8191) chunk ≡ whole k) (some : k ≡ 0 → ⊥) where
      goes : continued (place_said s.reading) (min s.kept 8191) chunk ≡ whole k
      goes = going_on s.reading (min s.kept 8191) chunk (whole k) h (not_some s.reading (min s.kept 8191) chunk k some)

      pub chunk_ends : here ≡ stanza_taken e b (outcome v b (stanza_call e s.phase (front ++ take k chunk))) (front ++ take k chunk) (drop k chunk)
      chunk_ends = here_is ∙ front_stanza e v b [] turn (place_said s.reading) front chunk k (at_front (whole k) goes)

-- so many bytes of the chunk are there, and no more than a stanza has
pub front_within : (p : Place) (n : ℕ) (x : List ℕ) (k : ℕ) → front_of p n x ≡ whole k → n ≤ 8191 → (k ≤ length x) × (n + k ≤ 8192)
front_within p n x zero h l = (omega arith, omega arith)
front_within p n x (suc k) h l =
    let w = whole_within x (place_said p) n (suc k) (going_on p n x (whole (suc k)) h (not_some p n x (suc k) (λ z. omega arith))) in
    (w.1, w.2)

-- a byte within an argument
pub within_word : (b : ℕ) → is_graphic b ≡ true → (n : ℕ) → n < 8191 → front_of place.Word n (b ∷ []) ≡ resuming.unfinished word
unfolding next led behind
within_word b g n h = one_byte word b n h ∙ rw g

-- the first byte of an argument behind a space
pub within_gap : (b : ℕ) → is_graphic b ≡ true → (n : ℕ) → n < 8191 → front_of place.Gap n (b ∷ []) ≡ resuming.unfinished word
unfolding next led behind
within_gap b g n h = one_byte gap b n h ∙ rw g

-- a space behind an argument
pub within_space : (n : ℕ) → n < 8191 → front_of place.Word n (32 ∷ []) ≡ resuming.unfinished gap
unfolding next led behind is_graphic
within_space n h = one_byte word 32 n h

-- a character of a body line
pub within_line : (k last b : ℕ) → k < 64 → is_character b ≡ true → (n : ℕ) → n < 8191 →
    front_of (place.Line k last) n (b ∷ []) ≡ resuming.unfinished (line (k + 1) (value_of b))
unfolding next led behind
within_line k last b l g n h = one_byte (line k (value_of last)) b n h ∙ rw (g, lt-ltb k 64 l)

-- a byte with which the unfinished stanza goes on, kept behind its front
pub byte_goes_on : (t : Turn) (p q : Place) (kept : ℕ) (x o : List ℕ) → is_reading t ≡ true → length x ≡ 1 → kept < 8191 → kept < length o →
    ((n : ℕ) → n < 8191 → front_of p n (get_or x 0 0 ∷ []) ≡ resuming.unfinished (place_said q)) →
    (t ≡ reads) × (front_of p (min kept 8191) x ≡ resuming.unfinished (place_said q)) ×
    (set o kept (get_or x 0 0) ≡ input_behind (resuming.unfinished (place_said q)) (min kept 8191) x o)
byte_goes_on t p q kept x o read one l i h =
    let m : min kept 8191 ≡ kept = omega arith in (
      is_reads t read,
      ap (λ n. front_of p n x) m ∙ ap (front_of p kept) (one_of x one) ∙ h kept l,
      byte_behind o kept (get_or x 0 0) i
          ∙ ap (λ y. take kept o ++ filled y (drop kept o)) (sym (one_of x one))
          ∙ ap (λ n. take n o ++ filled x (drop n o)) (sym m),
    )
  where
    is_reads : (t : Turn) → is_reading t ≡ true → t ≡ reads
    is_reads reads h = refl
    is_reads (drops m) h = absurd (false≢true h)
    is_reads keeps_back h = absurd (false≢true h)

-- ---- an answer that writes nothing

-- what is kept has a bound, whatever the session says
kept_bound : (e : End) (s : CodeSession) (xs hs : List (List ℕ)) (input : List ℕ) → length (intake_of e s xs hs input).kept ≤ 8192
kept_bound e s xs hs input = omega (arith, length-take (kept_size e s) (drop (awaited_size e s) input), bound (is_waiting e s.phase))
  where
    bound : (w : Bool) → min s.kept (pick w 8192 8191) ≤ 8192
    bound true = omega arith
    bound false = omega arith

-- it is what the bytes come to by the output buffer
pub says_judged : (e : End) (r : CodeReceived) (xs hs : List (List ℕ)) (before after out : List ℕ) (b : Buffers) (i : Intake) (c : Buffers) (t : Taken) →
    Says e r xs hs before after [] b t → r.written ≡ 0 → received_said e r xs hs after b out ≡ judged i c out t
says_judged e r xs hs before after out b i c t h z =
    ap₂ (λ n o. at n o) z (filled_empty out)
    ∙ sym (judged_held i c out (taken_said e r xs hs after [] b) (omega arith) (kept_bound e r.session xs hs after))
    ∙ ap (judged i c out) h.taken
  where
    at : ℕ → List ℕ → Outcome
    at n o =
        let t = taken_said e r xs hs after [] b in
        record { number = t.number; count = t.count; last = t.last; size = n; intake = t.intake; buffers = t.buffers; output = o }

-- where its chunk is in turn it is the call's
pub silent_answer : (e : End) (r : CodeReceived) (xs hs : List (List ℕ)) (before after : List ℕ) (b b' : Buffers) (i : Intake) (bytes out : List ℕ) →
    turn_of e i.session.phase ≡ 0 → r.written ≡ 0 → Says e r xs hs before after [] b' (taken e i b bytes) →
    received_said e r xs hs after b' out ≡ chunked e i b bytes out
silent_answer e r xs hs before after b b' i bytes out turn w h =
    says_judged e r xs hs before after out b' i b (taken e i b bytes) h w ∙ sym (chunked_read e i b bytes out turn)
