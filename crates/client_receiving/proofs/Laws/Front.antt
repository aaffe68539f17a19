-- A text that is taken as one stanza, and the text behind it.
use Prim.Native.Nat.{ℕ, ◌+◌, ◌≤◌}
use mathlib.Core.Path.{◌≡◌, refl, sym, ap, ap₂, ◌∙◌, subst}
use mathlib.Core.Bool.{true, false, false≢true}
use mathlib.Core.List.{List, [], ◌++◌}
use lib.Dec.{leb}
use lib.ListN.{length, take, drop, length-append}
use lib.Seq.{length-take-le, drop-drop}
use native.Mathlib.Omega.{arith}
use borrow.Author.Tests.{leb-true}
use Rattle.refusal.specs.Number.{number_of}
use Rattle.refusal.specs.declared.Refusal.{Refusal}
use Rattle.std.specs.Prelude.{Some, None, Err}
use Rattle.refusal.proofs.Laws.Booleans.{and_true}
use Rattle.stanza.specs.declared.places.Place.TheVariants as place
use Rattle.stanza.specs.Reading.{stanza, refused, read_first}
use Rattle.session.specs.declared.words.WordTwo.{WordTwo}
use Rattle.session.specs.declared.phases.Phase.{Phase}
use Rattle.session.specs.declared.phases.Phase.TheVariants.{One, Two, Awaiting, Ended, Closed}
use Rattle.session.specs.declared.sessions.Session.{Session as CodeSession}
use Rattle.session.specs.Session.{Session, session_of}
use Rattle.phase_one.specs.PhaseOne.{BuffersOne}
use Rattle.conversation.specs.PhaseTwo as two
use Rattle.conversation.specs.CommandsTwo.{text_of_word}
use Rattle.conversation.specs.ReceivingTwo.{took, declined, refused_receipt, received_stanza}
use Rattle.chunks.specs.Taking.{client, keeps_back, turn_at, ample, awaited_behind, command, behind, taken_text, no_stanza, no_more, emptied}
use Rattle.chunks.specs.Chunks.{is_held}
use Rattle.chunks.specs.Uncut.{is_waiting}
use Rattle.chunks.proofs.Laws.Cases.{keeps_not_reads}
use Rattle.intake.specs.Intake.{last_said}
use Rattle.intake.specs.Settling.{MaySettle, Says}
use Rattle.intake.specs.declared.answers.Last.TheVariants.{CommandTwo}
use Rattle.intake.specs.declared.answers.Received.{Received as CodeReceived}
use Rattle.client_room.specs.Stanzas.{taking_said}
use Rattle.client_room.specs.Room.{has_room, stanza_ahead}
use Rattle.session.specs.declared.output.Outcome.{Outcome as CodeOutcome}
use Rattle.client_room.specs.declared.stanzas.Taken.{Taken as CodeTaken}
use Rattle.client_room.proofs.Laws.Stanzas.{line_of, body_behind}
use Rattle.client_receiving.specs.Stanzas.{step_said}
use Rattle.client_receiving.specs.Texts.{lent, behind_answer, MayTake, Answers}
use Rattle.client_receiving.proofs.Laws.Stanzas.{filled_front, TookOn, took_on, declined_is, fault_is}
use Rattle.client_receiving.proofs.Laws.Texts.{none_lent, answers_says, stop_says, back_short}

-- the host's reply is due where bytes are kept back
pub waits_back : (p : Phase) → is_waiting client p ≡ true → keeps_back ≡ turn_at client p
waits_back One h = absurd (false≢true h)
waits_back Two h = absurd (false≢true h)
waits_back (Awaiting w) h = refl
waits_back Ended h = absurd (false≢true h)
waits_back Closed h = absurd (false≢true h)

awaited_front : (p : Phase) (a : List ℕ) → is_waiting client p ≡ true → awaited_behind client p a ≡ a
awaited_front One a h = absurd (false≢true h)
awaited_front Two a h = absurd (false≢true h)
awaited_front (Awaiting w) a h = refl
awaited_front Ended a h = absurd (false≢true h)
awaited_front Closed a h = absurd (false≢true h)

none_front : (p : Phase) (a : List ℕ) → is_waiting client p ≡ false → awaited_behind client p a ≡ []
none_front One a h = refl
none_front Two a h = refl
none_front (Awaiting w) a h = absurd (false≢true (sym h))
none_front Ended a h = refl
none_front Closed a h = refl

-- a refusal behind what was taken
abbrev pub stopped_at : Refusal → CodeSession → CodeReceived → CodeReceived
stopped_at n s g = record {
  verdict = Err n;
  count = g.count;
  last = g.last;
  written = g.written;
  session = record { machine = s.machine; phase = s.phase; screen = s.screen; name = s.name; tables = s.tables; reading = place.Start; kept = 0; awaited = 0 };
}

-- a refusal of the first text
abbrev pub stopped : Refusal → CodeSession → CodeReceived
stopped n s = record {
  verdict = Err n;
  count = 0;
  last = None;
  written = 0;
  session = record { machine = s.machine; phase = s.phase; screen = s.screen; name = s.name; tables = s.tables; reading = place.Start; kept = 0; awaited = 0 };
}

module _ (given : CodeSession) (xs hs : List (List ℕ)) (e s d front text out : List ℕ) (second : given.phase ≡ Two) where
  abbrev now : Session
  now = session_of given xs hs

  -- no stanza begins it
  pub front_fault : (b : BuffersOne) (n : Refusal) (v : CodeSession) (x : CodeReceived) (input : List ℕ) → read_first front ≡ refused (number_of n) →
      session_of v xs hs ≡ (refused_receipt (number_of n) now (two.buffers_of e s d) ample).session → x ≡ stopped n v →
      Answers x xs hs input input (lent b e s d) out out (stanza_ahead now (lent b e s d) front text)
  front_fault b n v x input h sv xz =
      subst (λ x. Answers x xs hs input input (lent b e s d) out out (stanza_ahead now (lent b e s d) front text)) (sym xz)
      (answers_says (stopped n v) xs hs input input (lent b e s d) out out 0 _ _ (stop_says 0 None 0 n v xs hs input [] (lent b e s d))
      (fault_is now (lent b e s d) front text (number_of n) second h ∙ ap (λ q. behind 0 no_stanza [] (no_more (number_of n) (emptied q []) (lent b e s d))) (sym sv)) refl (omega arith) refl refl)

  module _ (l m k : ℕ) (h : read_first front ≡ stanza l m k) (y : CodeOutcome CodeTaken) (xs' : List (List ℕ)) (e' s' d' o' : List ℕ)
      (q : step_said y xs' hs e' s' d' o' ≡ received_stanza now (two.buffers_of e s d) out (line_of front l) (body_behind front l k) k)
      (held : (b : BuffersOne) → is_held (stanza_ahead now (lent b e s d) front text) out ≡ true) where
    -- it is refused
    pub front_refused : (b : BuffersOne) (n : Refusal) (x : CodeReceived) (input : List ℕ) → taking_said y.answer ≡ declined (number_of n) → x ≡ stopped n y.session →
        Answers x xs' hs input input (lent b e' s' d') out o' (stanza_ahead now (lent b e s d) front text)
    front_refused b n x input z xz =
        let u = stanza_ahead now (lent b e s d) front text in
        let t = declined_is now (lent b e s d) front l m k out second h (step_said y xs' hs e' s' d' o') q front text (number_of n) z
        (leb-true (length u.written) (length out) (and_true (leb (length u.written) (length out)) (leb (length u.intake.kept) 8192) (held b)).0) in
        subst (λ x. Answers x xs' hs input input (lent b e' s' d') out o' u) (sym xz)
        (answers_says (stopped n y.session) xs' hs input input (lent b e' s' d') out o' 0 _ _ (stop_says 0 None 0 n y.session xs' hs input [] (lent b e' s' d'))
        t.same refl (omega arith) (ap length t.output) t.output)

    module _ (w : WordTwo) (i j : ℕ) (z : taking_said y.answer ≡ took w i j) where
      took_here : (b : BuffersOne) → TookOn (stanza_ahead now (lent b e s d) front text) w j (step_said y xs' hs e' s' d' o') (lent b e s d) out front text
      took_here b = took_on now (lent b e s d) front l m k out second h (step_said y xs' hs e' s' d' o') q front text w i j z

      pub front_fits : j ≤ length out
      front_fits = (took_here none_lent).fits

      module _ (x : CodeReceived) (count : x.count ≡ 1) (last : x.last ≡ Some (CommandTwo w)) (written : x.written ≡ j) (session : x.session ≡ y.session) where
        same : (b : BuffersOne) → stanza_ahead now (lent b e s d) front text ≡ behind_answer x xs' hs (lent b e' s' d') (awaited_behind client x.session.phase front) text o'
        same b = (took_here b).same ∙ sym (ap₂ (λ n g. behind n g (take x.written o') (taken_text client (session_of x.session xs' hs) (lent b e' s' d') (awaited_behind client x.session.phase front) text)) count (ap last_said last)
            ∙ ap₂ (λ v c. behind 1 (command (text_of_word w)) (take v o') (taken_text client (session_of c xs' hs) (lent b e' s' d') (awaited_behind client c.phase front) text)) written session)

        size : length o' ≡ length out
        size = (took_here none_lent).size

        held_on : (b : BuffersOne) → is_held (behind_answer x xs' hs (lent b e' s' d') (awaited_behind client x.session.phase front) text o') out ≡ true
        held_on b = subst (λ t. is_held t out ≡ true) (same b) (held b)

        -- it waits
        pub front_settles : (b : BuffersOne) (input : List ℕ) → is_waiting client x.session.phase ≡ true → length front ≤ 8192 → 16384 ≤ length input →
            MaySettle client x.session.phase keeps_back front text input
        front_settles b input v f i = record {
          turn = sym (waits_back x.session.phase v);
          none_waits = λ z. absurd (z refl);
          no_stanza = λ z. absurd (keeps_not_reads z);
          short = λ z. (f, back_short x.count (last_said x.last) (take x.written o') (session_of x.session xs' hs) (lent b e' s' d') _ text out (held_on b) (sym (waits_back x.session.phase v)), i);
          long = omega arith;
        }

        pub front_settled : (b : BuffersOne) (r : CodeReceived) (input after : List ℕ) → is_waiting client x.session.phase ≡ true →
            Says client r xs' hs input after (take x.written o') (lent b e' s' d')
            (behind x.count (last_said x.last) (take x.written o') (taken_text client (session_of x.session xs' hs) (lent b e' s' d') front text)) → r.written ≡ x.written →
            Answers r xs' hs input after (lent b e' s' d') out o' (stanza_ahead now (lent b e s d) front text)
        front_settled b r input after v a v' =
            answers_says r xs' hs input after (lent b e' s' d') out o' x.written _ _ a
            (same b ∙ ap (λ a. behind_answer x xs' hs (lent b e' s' d') a text o') (awaited_front x.session.phase front v)) v'
            (omega (arith, written, size, (took_here none_lent).fits)) size (rw written (took_here none_lent).rest)

        -- or the text behind it is received
        pub front_takes : (input : List ℕ) → is_waiting client x.session.phase ≡ false → 16384 ≤ length input → MayTake x xs' hs e' s' d' text input o'
        front_takes input v i = record {
          few = omega arith;
          within = omega (arith, written, size, (took_here none_lent).fits);
          long = i;
          held = λ b. ap (λ n. has_room (behind_answer x xs' hs (lent b e' s' d') [] text o') n) size
              ∙ subst (λ a. is_held (behind_answer x xs' hs (lent b e' s' d') a text o') out ≡ true) (none_front x.session.phase front v) (held_on b);
        }

        pub front_taken : (b : BuffersOne) (r : CodeReceived) (xs'' : List (List ℕ)) (input after e'' s'' d'' o'' : List ℕ) → is_waiting client x.session.phase ≡ false →
            Answers r xs'' hs input after (lent b e'' s'' d'') o' o'' (behind_answer x xs' hs (lent b e' s' d') [] text o') →
            Answers r xs'' hs input after (lent b e'' s'' d'') out o'' (stanza_ahead now (lent b e s d) front text)
        front_taken b r xs'' input after e'' s'' d'' o'' v a =
            let u = taken_text client (session_of x.session xs' hs) (lent b e' s' d') [] text in
            let t = behind_answer x xs' hs (lent b e' s' d') [] text o' in
            let g : stanza_ahead now (lent b e s d) front text ≡ t = same b ∙ ap (λ a. behind_answer x xs' hs (lent b e' s' d') a text o') (none_front x.session.phase front v) in
            let k : length t.written ≤ length out = leb-true (length t.written) (length out) (and_true (leb (length t.written) (length out)) (leb (length t.intake.kept) 8192) (subst (λ t. is_held t out ≡ true) g (held b))).0 in
            let n : length t.written ≡ j + length u.written = length-append (take x.written o') u.written ∙ ap (λ i. i + length u.written) (length-take-le x.written o' (omega (arith, written, size, (took_here none_lent).fits)) ∙ written) in
            let r' : drop (length t.written) o' ≡ drop (length t.written) out = ap (λ i. drop i o') n ∙ sym (drop-drop (length u.written) j o') ∙ ap (drop (length u.written)) (took_here none_lent).rest ∙ drop-drop (length u.written) j out ∙ ap (λ i. drop i out) (sym n) in
            subst (λ t. Answers r xs'' hs input after (lent b e'' s'' d'') out o'' t) (sym g)
            (record {
              says = a.says;
              size = a.size;
              output = a.output ∙ filled_front t.written o' (omega (arith, k, size)) ∙ ap (λ i. t.written ++ i) r' ∙ sym (filled_front t.written out k);
            })
