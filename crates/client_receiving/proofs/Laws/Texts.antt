-- A text received: behind each of its stanzas what is left comes to what the whole came to.
use Prim.Native.Nat.{ℕ, ◌+◌, ◌-◌, ◌≤◌, min}
use mathlib.Core.Path.{◌≡◌, refl, sym, ap, ap₂, ◌∙◌, subst}
use mathlib.Core.Bool.{Bool, true, false}
use mathlib.Core.List.{List, [], ◌++◌, append-nil}
use lib.Dec.{leb}
use lib.ListN.{length, take, drop, length-append, length-drop, length-take, take-append-drop}
use lib.Seq.{length-take-le, take-append-add, drop-append-add, drop-drop}
use native.Mathlib.Omega.{arith}
use borrow.Author.Tests.{le-ltb, leb-true}
use Rattle.refusal.specs.Output.{filled}
use Rattle.refusal.specs.Pick.{pick}
use Rattle.refusal.specs.Number.{number_of}
use Rattle.refusal.specs.declared.Refusal.{Refusal}
use Rattle.std.specs.Prelude.{Option, Some, Ok, Err}
use Rattle.refusal.proofs.Laws.Booleans.{and_true}
use Rattle.refusal.proofs.Laws.Lists.{part_rest, put_rest}
use Rattle.stanza.specs.Automaton.{start}
use Rattle.stanza.specs.declared.places.Place.TheVariants as place
use Rattle.stanza.specs.Reading.{stanza, refused, read_first}
use Rattle.session.specs.declared.words.WordTwo.{WordTwo}
use Rattle.session.specs.declared.phases.Phase.{Phase}
use Rattle.session.specs.declared.phases.Phase.TheVariants.{One, Two, Awaiting, Ended, Closed}
use Rattle.session.specs.declared.sessions.Session.{Session as CodeSession}
use Rattle.session.specs.Session.{Session, session_of, carried_by}
use Rattle.phase_one.specs.PhaseOne as one
use Rattle.phase_one.specs.PhaseOne.{BuffersOne}
use Rattle.conversation.specs.PhaseTwo as two
use Rattle.conversation.specs.CommandsTwo.{text_of_word}
use Rattle.conversation.specs.ReceivingTwo.{took, declined, received_stanza}
use Rattle.conversation.specs.Kinds.{Buffers}
use Rattle.conversation.specs.Calls.{receive_two, outcome}
use Rattle.chunks.specs.Taking.{client, Turn, reads, keeps_back, turn_at, ample, awaited_behind, Last, command, Taken, no_more, emptied, keeping, one_more, behind, taken_text}
use Rattle.chunks.specs.Chunks.{is_held}
use Rattle.chunks.specs.Uncut.{is_waiting}
use Rattle.chunks.proofs.Laws.Bounds.{stanza_long}
use Rattle.chunks.proofs.Laws.Texts.{stanza_taken, text_kept_back, text_stanza, behind_more}
use Rattle.intake.specs.Intake.{intake_of, last_said, taken_said, stored_in}
use Rattle.intake.specs.Settling.{MaySettle, Says}
use Rattle.intake.specs.declared.answers.Last.{Last as CodeLast}
use Rattle.intake.specs.declared.answers.Last.TheVariants.{CommandTwo}
use Rattle.intake.specs.declared.answers.Received.{Received as CodeReceived}
use Rattle.client_room.specs.Stanzas.{taking_said, next_in}
use Rattle.session.specs.declared.output.Outcome.{Outcome as CodeOutcome}
use Rattle.client_room.specs.declared.stanzas.Taken.{Taken as CodeTaken}
use Rattle.client_room.proofs.Laws.Stanzas.{line_of, body_behind, reads_two}
use Rattle.client_room.proofs.Laws.Room.{next_turn, next_first, next_within}
use Rattle.client_receiving.specs.Stanzas.{step_said}
use Rattle.client_receiving.specs.Texts.{lent, behind_answer, Answers}
use Rattle.client_receiving.proofs.Laws.Stanzas.{TookOn, took_on, declined_is}

-- ---- what waits

-- nothing waits where no text does
pub none_awaited : (p : Phase) → awaited_behind client p [] ≡ []
none_awaited One = refl
none_awaited Two = refl
none_awaited (Awaiting w) = refl
none_awaited Ended = refl
none_awaited Closed = refl

awaited_short : (p : Phase) (a : List ℕ) → length (awaited_behind client p a) ≤ length a
awaited_short One a = omega arith
awaited_short Two a = omega arith
awaited_short (Awaiting w) a = omega arith
awaited_short Ended a = omega arith
awaited_short Closed a = omega arith

pub awaited_none : (p : Phase) (a : List ℕ) → (turn_at client p ≡ keeps_back → ⊥) → awaited_behind client p a ≡ []
awaited_none One a h = refl
awaited_none Two a h = refl
awaited_none (Awaiting w) a h = absurd (h refl)
awaited_none Ended a h = refl
awaited_none Closed a h = refl

-- ---- what is left may be settled

no_stanza_next : (u : Turn) (x : List ℕ) (n : ℕ) → refused n ≡ next_in u x → u ≡ reads → (l m k : ℕ) → read_first x ≡ stanza l m k → ⊥
no_stanza_next u x n h t l m k e =
    let y : refused n ≡ stanza l m k = h ∙ ap (λ u. next_in u x) t ∙ e in
    let z : ◌≡◌ {A = ℕ} 0 1 = cc in
    omega arith

pub may_settle : (p : Phase) (u : Turn) (a rest input : List ℕ) (n : ℕ) → u ≡ turn_at client p → refused n ≡ next_in (turn_at client p) rest → length a ≤ 8192 →
    16384 ≤ length input → (turn_at client p ≡ keeps_back → length rest ≤ 8192) → MaySettle client p u (awaited_behind client p a) rest input
may_settle p u a rest input n t h l i k = record {
  turn = sym t;
  none_waits = λ z. awaited_none p a (λ y. z (t ∙ y));
  no_stanza = λ y. no_stanza_next (turn_at client p) rest n h (sym t ∙ y);
  short = λ y. (omega (arith, awaited_short p a), k (sym t ∙ y), i);
  long = omega arith;
}

-- what is kept back has room
pub back_short : (n : ℕ) (g : Last) (w : List ℕ) (s : Session) (b : Buffers) (a x out : List ℕ) → is_held (behind n g w (taken_text client s b a x)) out ≡ true →
    turn_at client s.phase ≡ keeps_back → length x ≤ 8192
back_short n g w s b a x out h t =
    let u = taken_text client s b a x in
    let v = (and_true (leb (length (w ++ u.written)) (length out)) (leb (length u.intake.kept) 8192) h).1 in
    omega (arith, leb-true (length u.intake.kept) 8192 v, ap (λ u. length u.intake.kept) (text_kept_back client s b a t x))

-- ---- an answer by what settling says

module _ (r : CodeReceived) (xs hs : List (List ℕ)) (before after : List ℕ) (b : Buffers) (out₀ out : List ℕ) (w : ℕ) (t t₀ : Taken) where
  pub answers_says : Says client r xs hs before after (take w out) b t → t₀ ≡ t → r.written ≡ w → w ≤ length out → length out ≡ length out₀ → drop w out ≡ drop w out₀ →
      Answers r xs hs before after b out₀ out t₀
  answers_says h e size within long rest = record {
    says = record { taken = ap (λ v. taken_said client r xs hs after v b) (sym v) ∙ h.taken ∙ sym e; input = h.input };
    size = size ∙ sym l ∙ ap length v;
    output =
        sym (take-append-drop w out)
        ∙ ap₂ ◌++◌ v (rest ∙ ap (λ n. drop n out₀) (sym l ∙ ap length v))
        ∙ sym (ap (λ f. pick f out₀ (t₀.written ++ drop (length t₀.written) out₀)) (le-ltb (length out₀) (length t₀.written) (omega (arith, l, ap length v))));
  }
    where
      v : take w out ≡ t₀.written
      v = ap (λ u. u.written) h.taken ∙ sym (ap (λ u. u.written) e)

      l : length (take w out) ≡ w
      l = length-take-le w out within

-- ---- a refusal

-- a session that keeps nothing
pub emptied_is : (s : CodeSession) (xs hs : List (List ℕ)) (input : List ℕ) →
    intake_of client (record { machine = s.machine; phase = s.phase; screen = s.screen; name = s.name; tables = s.tables; reading = place.Start; kept = 0; awaited = 0 }) xs hs input
    ≡ emptied (session_of s xs hs) []
emptied_is s xs hs input = go (is_waiting client s.phase)
  where
    go : (f : Bool) → keeping (session_of s xs hs) start (take (min 0 (pick f 8192 8191)) (drop (pick f (min 0 8192) 0) input)) (take (pick f (min 0 8192) 0) input) ≡ emptied (session_of s xs hs) []
    go true = refl
    go false = refl

stored_none : (input : List ℕ) → filled [] input ≡ input
stored_none input = ap (λ f. pick f input input) (le-ltb (length input) 0 (omega arith))

-- what a refusal says behind what was taken
pub stop_says : (count : ℕ) (last : Option CodeLast) (written : ℕ) (r : Refusal) (s : CodeSession) (xs hs : List (List ℕ)) (input w : List ℕ) (b : Buffers) →
    Says client
    (record {
      verdict = Err r;
      count = count;
      last = last;
      written = written;
      session = record { machine = s.machine; phase = s.phase; screen = s.screen; name = s.name; tables = s.tables; reading = place.Start; kept = 0; awaited = 0 };
    })
    xs hs input input w b (behind count (last_said last) w (no_more (number_of r) (emptied (session_of s xs hs) []) b))
stop_says count last written r s xs hs input w b = record {
  taken =
      ap₂ (λ i v. record { number = number_of r; count = count; last = last_said last; written = v; intake = i; buffers = b }) (emptied_is s xs hs input) (sym (append-nil w))
      ∙ ap (λ c. record { number = number_of r; count = c; last = last_said last; written = w ++ []; intake = emptied (session_of s xs hs) []; buffers = b }) (omega arith);
  input = sym (ap (λ i. stored_in i input) (emptied_is s xs hs input) ∙ stored_none input);
}

-- ---- one stanza more

module _ (n : ℕ) (g : Last) (wr : ℕ) (out : List ℕ) (fit : wr ≤ length out) where
  abbrev part : List ℕ
  part = take (length out - wr) (drop wr out)

  -- the output buffer behind it
  abbrev put : List ℕ → List ℕ
  put o = take wr out ++ (o ++ drop (length out - wr) (drop wr out))

  part_long : length part ≡ length out - wr
  part_long = ap length (part_rest wr out) ∙ length-drop wr out

  front_long : length (take wr out) ≡ wr
  front_long = length-take-le wr out fit

  pub on_same : (u v : Taken) (g' : Last) (o : List ℕ) (j : ℕ) → u ≡ one_more g' (take j o) v →
      behind n g (take wr out) u ≡ behind (n + 1) g' (take (wr + j) (put o)) v
  on_same u v g' o j e =
      ap (behind n g (take wr out)) e ∙ behind_more n g g' (take wr out) (take j o) v
      ∙ ap (λ w. behind (n + 1) g' w v) (sym (ap (take (wr + j)) (put_rest wr out o) ∙ ap (λ i. take (i + j) (take wr out ++ o)) (sym front_long) ∙ take-append-add (take wr out) o j))

  pub on_size : (o : List ℕ) → length o ≡ length part → length (put o) ≡ length out
  on_size o l = omega (arith, ap length (put_rest wr out o), length-append (take wr out) o, front_long, part_long)

  pub on_rest : (o : List ℕ) (j : ℕ) → drop j o ≡ drop j part → drop (wr + j) (put o) ≡ drop (wr + j) out
  on_rest o j e =
      ap (drop (wr + j)) (put_rest wr out o) ∙ ap (λ i. drop (i + j) (take wr out ++ o)) (sym front_long) ∙ drop-append-add (take wr out) o j
      ∙ e ∙ ap (drop j) (part_rest wr out) ∙ drop-drop j wr out

  pub on_within : (j : ℕ) → j ≤ length part → wr + j ≤ length out
  on_within j l = omega (arith, part_long)

  -- where nothing was written
  pub put_same : (o : List ℕ) → o ≡ part → put o ≡ out
  put_same o e = put_rest wr out o ∙ ap (λ o. take wr out ++ o) (e ∙ part_rest wr out) ∙ take-append-drop wr out

-- ---- the loop's invariant

-- phase one's buffers do not matter
pub none_lent : BuffersOne
none_lent = one.buffers_of [] [] [] []

-- behind the stanzas up to `at`, of which the last begins at `begun`
pub record Going (r₀ r : CodeReceived) (xs₀ xs hs : List (List ℕ)) (e₀ s₀ d₀ e s d text out₀ out : List ℕ) (begun at : ℕ) : Type 0 where
  pub ordered : begun ≤ at
  pub within : at ≤ length text
  pub short : at ≤ begun + 8192
  pub few : r.count ≤ at + 1
  pub room : r.written ≤ length out
  pub size : length out ≡ length out₀
  pub rest : drop r.written out ≡ drop r.written out₀
  pub name : r.session.name ≡ r₀.session.name
  pub errors : length e ≡ length e₀
  pub stanzas : length s ≡ length s₀
  pub returned : length d ≡ length d₀
  pub same : (b : BuffersOne) → behind_answer r₀ xs₀ hs (lent b e₀ s₀ d₀) [] text out₀ ≡
      behind_answer r xs hs (lent b e s d) (awaited_behind client r.session.phase (take (at - begun) (drop begun text))) (drop at text) out

module _ (r₀ : CodeReceived) (xs₀ hs : List (List ℕ)) (e₀ s₀ d₀ text out₀ : List ℕ) where
  pub going_first : r₀.count ≤ 1 → r₀.written ≤ length out₀ → Going r₀ r₀ xs₀ xs₀ hs e₀ s₀ d₀ e₀ s₀ d₀ text out₀ out₀ 0 0
  going_first few within = record {
    ordered = omega arith;
    within = omega arith;
    short = omega arith;
    few = few;
    room = within;
    size = refl;
    rest = refl;
    name = refl;
    errors = refl;
    stanzas = refl;
    returned = refl;
    same = λ b. ap (λ a. behind_answer r₀ xs₀ hs (lent b e₀ s₀ d₀) a text out₀) (sym (none_awaited r₀.session.phase));
  }

  module _ (r : CodeReceived) (xs : List (List ℕ)) (e s d out : List ℕ) (begun at : ℕ) (g : Going r₀ r xs₀ xs hs e₀ s₀ d₀ e s d text out₀ out begun at)
      (held : (b : BuffersOne) → is_held (behind_answer r₀ xs₀ hs (lent b e₀ s₀ d₀) [] text out₀) out₀ ≡ true) where
    abbrev awaited : List ℕ
    awaited = awaited_behind client r.session.phase (take (at - begun) (drop begun text))

    -- what is left is held
    held_on : (b : BuffersOne) → is_held (behind_answer r xs hs (lent b e s d) awaited (drop at text) out) out₀ ≡ true
    held_on b = subst (λ t. is_held t out₀ ≡ true) (g.same b) (held b)

    -- it may be settled
    pub going_settles : (b : BuffersOne) (u : Turn) (input : List ℕ) (n : ℕ) → u ≡ turn_at client r.session.phase →
        refused n ≡ next_in (turn_at client r.session.phase) (take (length text - at) (drop at text)) → 16384 ≤ length input →
        MaySettle client r.session.phase u awaited (take (length text - at) (drop at text)) input
    going_settles b u input n t h i =
        may_settle r.session.phase u (take (at - begun) (drop begun text)) (take (length text - at) (drop at text)) input n t h
        (omega (arith, length-take (at - begun) (drop begun text), g.short, g.ordered)) i
        (λ k. omega (arith, ap length (part_rest at text), back_short r.count (last_said r.last) (take r.written out) (session_of r.session xs hs) (lent b e s d) awaited (drop at text) out₀ (held_on b) k))

    pub going_settled : (b : BuffersOne) (y : CodeReceived) (input after : List ℕ) →
        Says client y xs hs input after (take r.written out) (lent b e s d) (behind r.count (last_said r.last) (take r.written out)
        (taken_text client (session_of r.session xs hs) (lent b e s d) awaited (take (length text - at) (drop at text)))) → y.written ≡ r.written →
        Answers y xs hs input after (lent b e s d) out₀ out (behind_answer r₀ xs₀ hs (lent b e₀ s₀ d₀) [] text out₀)
    going_settled b y input after h w =
        answers_says y xs hs input after (lent b e s d) out₀ out r.written _ _ h
        (g.same b ∙ ap (λ x. behind_answer r xs hs (lent b e s d) awaited x out) (sym (part_rest at text))) w g.room g.size g.rest

    -- one stanza more
    module _ (l m k : ℕ) (h : stanza l m k ≡ next_in (turn_at client r.session.phase) (take (length text - at) (drop at text))) (y : CodeOutcome CodeTaken)
        (xs' : List (List ℕ)) (e' s' d' o' : List ℕ)
        (q : step_said y xs' hs e' s' d' o' ≡ received_stanza (session_of r.session xs hs) (two.buffers_of e s d) (take (length out - r.written) (drop r.written out))
        (line_of (take (length text - at) (drop at text)) l) (body_behind (take (length text - at) (drop at text)) l k) k) where
      abbrev now : Session
      now = session_of r.session xs hs

      abbrev rest : List ℕ
      rest = take (length text - at) (drop at text)

      turn : turn_at client r.session.phase ≡ reads
      turn = next_turn (turn_at client r.session.phase) rest l m k h

      first : read_first rest ≡ stanza l m k
      first = next_first (turn_at client r.session.phase) rest l m k h

      -- the rest of the text is this stanza and what stands behind it
      abbrev ahead : BuffersOne → Taken
      ahead b = stanza_taken client (lent b e s d) (outcome now (lent b e s d) (receive_two rest ample)) (take k rest) (drop k rest)

      ahead_is : (b : BuffersOne) → taken_text client now (lent b e s d) awaited (drop at text) ≡ ahead b
      ahead_is b =
          ap (taken_text client now (lent b e s d) awaited) (sym (part_rest at text)) ∙ text_stanza client now (lent b e s d) awaited turn rest l m k first

      took_here : (b : BuffersOne) (w : WordTwo) (i j : ℕ) → taking_said y.answer ≡ took w i j →
          TookOn (ahead b) w j (step_said y xs' hs e' s' d' o') (lent b e s d) (take (length out - r.written) (drop r.written out)) (take k rest) (drop k rest)
      took_here b w i j z =
          took_on now (lent b e s d) rest l m k (take (length out - r.written) (drop r.written out)) (reads_two r.session.phase turn) first
          (step_said y xs' hs e' s' d' o') q (take k rest) (drop k rest) w i j z

      -- its answer fits, and the counts do not wrap
      pub going_fits : (w : WordTwo) (i j : ℕ) → taking_said y.answer ≡ took w i j → r.written + j ≤ length out
      going_fits w i j z = on_within r.count (last_said r.last) r.written out g.room j (took_here none_lent w i j z).fits

      pub going_few : r.count + 5 ≤ length text
      going_few = omega (arith, g.few, g.within, stanza_long rest l m k first, next_within (turn_at client r.session.phase) text at l m k h g.within)

      pub going_size : length o' ≡ length (take (length out - r.written) (drop r.written out)) →
          length (take r.written out ++ (o' ++ drop (length out - r.written) (drop r.written out))) ≡ length out₀
      going_size z = on_size r.count (last_said r.last) r.written out g.room o' z ∙ g.size

      pub going_on : (w : WordTwo) (i j : ℕ) (x : CodeReceived) → taking_said y.answer ≡ took w i j →
          x ≡ record { verdict = Ok tt; count = r.count + 1; last = Some (CommandTwo w); written = r.written + j; session = y.session } →
          carried_by y.session ≡ carried_by r.session → length e' ≡ length e → length s' ≡ length s → length d' ≡ length d →
          (1 ≤ k) × (k ≤ 8192) × (at + k ≤ length text) →
          Going r₀ x xs₀ xs' hs e₀ s₀ d₀ e' s' d' text out₀ (take r.written out ++ (o' ++ drop (length out - r.written) (drop r.written out))) at (at + k)
      going_on w i j x z xz c le ls ld v =
          let t = took_here none_lent w i j z in
          let kz : k ≡ at + k - at = omega arith in
          subst (λ x. Going r₀ x xs₀ xs' hs e₀ s₀ d₀ e' s' d' text out₀ (take r.written out ++ (o' ++ drop (length out - r.written) (drop r.written out))) at (at + k)) (sym xz)
          (record {
            ordered = omega arith;
            within = v.2;
            short = omega (arith, v.1);
            few = omega (arith, g.few, v.0);
            room = omega (arith, on_within r.count (last_said r.last) r.written out g.room j t.fits, on_size r.count (last_said r.last) r.written out g.room o' t.size);
            size = on_size r.count (last_said r.last) r.written out g.room o' t.size ∙ g.size;
            rest = on_rest r.count (last_said r.last) r.written out g.room o' j t.rest ∙ further;
            name = ap (λ c. c.name) c ∙ g.name;
            errors = le ∙ g.errors;
            stanzas = ls ∙ g.stanzas;
            returned = ld ∙ g.returned;
            same = λ b. g.same b ∙ ap (behind r.count (last_said r.last) (take r.written out)) (ahead_is b)
                ∙ on_same r.count (last_said r.last) r.written out g.room (ahead b) _ (command (text_of_word w)) o' j (took_here b w i j z).same
                ∙ ap₂ (λ a x. behind (r.count + 1) (command (text_of_word w)) (take (r.written + j) (take r.written out ++ (o' ++ drop (length out - r.written) (drop r.written out))))
                (taken_text client (session_of y.session xs' hs) (lent b e' s' d') (awaited_behind client y.session.phase a) x))
                (ap (take k) (part_rest at text) ∙ ap (λ i. take i (drop at text)) kz)
                (ap (drop k) (part_rest at text) ∙ drop-drop k at text);
          })
        where
          further : drop (r.written + j) out ≡ drop (r.written + j) out₀
          further = sym (drop-drop j r.written out) ∙ ap (drop j) g.rest ∙ drop-drop j r.written out₀

      pub going_refused : (b : BuffersOne) (n : Refusal) (x : CodeReceived) (input : List ℕ) → taking_said y.answer ≡ declined (number_of n) →
          x ≡ record {
            verdict = Err n;
            count = r.count;
            last = r.last;
            written = r.written;
            session = record { machine = y.session.machine; phase = y.session.phase; screen = y.session.screen; name = y.session.name; tables = y.session.tables; reading = place.Start; kept = 0; awaited = 0 };
          } →
          Answers x xs' hs input input (lent b e' s' d') out₀ (take r.written out ++ (o' ++ drop (length out - r.written) (drop r.written out)))
          (behind_answer r₀ xs₀ hs (lent b e₀ s₀ d₀) [] text out₀)
      going_refused b n x input z xz =
          let part = take (length out - r.written) (drop r.written out) in
          let u = taken_text client now (lent b e s d) awaited (drop at text) in
          let v = leb-true (length (take r.written out ++ u.written)) (length out₀)
          (and_true (leb (length (take r.written out ++ u.written)) (length out₀)) (leb (length u.intake.kept) 8192) (held_on b)).0 in
          let t = declined_is now (lent b e s d) rest l m k part (reads_two r.session.phase turn) first
          (step_said y xs' hs e' s' d' o') q (take k rest) (drop k rest) (number_of n) z
          (omega (arith, v, length-append (take r.written out) (taken_text client now (lent b e s d) awaited (drop at text)).written, length-take-le r.written out g.room, ap length (part_rest r.written out), length-drop r.written out, ap (λ u. length u.written) (ahead_is b), g.size)) in
          let p : take r.written out ++ (o' ++ drop (length out - r.written) (drop r.written out)) ≡ out = put_same r.count (last_said r.last) r.written out g.room o' t.output in
          subst (λ o. Answers x xs' hs input input (lent b e' s' d') out₀ o (behind_answer r₀ xs₀ hs (lent b e₀ s₀ d₀) [] text out₀)) (sym p)
          (subst (λ x. Answers x xs' hs input input (lent b e' s' d') out₀ out (behind_answer r₀ xs₀ hs (lent b e₀ s₀ d₀) [] text out₀)) (sym xz)
          (answers_says _ xs' hs input input (lent b e' s' d') out₀ out r.written _ _
          (stop_says r.count r.last r.written n y.session xs' hs input (take r.written out) (lent b e' s' d'))
          (g.same b ∙ ap (behind r.count (last_said r.last) (take r.written out)) (ahead_is b ∙ t.same)) refl g.room g.size g.rest))
