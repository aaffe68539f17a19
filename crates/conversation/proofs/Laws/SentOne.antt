-- The number of a sending by the number that receiving its text gives at equal tables; and phase one at the client end: exactly the allowed lists are accepted.
use Prim.Native.Nat.{ℕ, ◌+◌, ◌≤◌}
use mathlib.Core.Path.{◌≡◌, refl, sym, ap, ap₂, ◌∙◌, subst}
use mathlib.Core.Bool.{Bool, true, false}
use mathlib.Core.Logic.{⊎_elim, ◌↔◌}
use mathlib.Core.List.{List, [], ◌∷◌, ◌++◌, map, map-append, append-nil}
use lib.Dec.{eqb}
use lib.ListN.{length}
use lib.Pow.{are_bytes}
use native.Mathlib.Omega.{arith}
use borrow.Author.Tests.{eqb-true, eq-eqb, ne_eqb}
use Rattle.refusal.specs.Pick.{pick}
use Rattle.refusal.specs.Verdict.{first_of}
use Rattle.refusal.specs.Output.{overflows}
use Rattle.refusal.proofs.Laws.Booleans.{cases}
use Rattle.refusal.specs.Same.{same}
use Rattle.stanza.specs.Arguments.{argument_of}
use Rattle.stanza.specs.Grammar.{stanza_text}
use Rattle.stanza.specs.Reading.{stanza, read_first}
use Rattle.stanza.specs.Writing.{is_writable}
use Rattle.session.specs.Session.{Session, opened_session, moved}
use Rattle.session.specs.declared.opening.Machine.{Machine}
use Rattle.session.specs.declared.words.WordTwo.{WordTwo}
use Rattle.phase_one.specs.Commands as one_command
use Rattle.phase_one.specs.Commands.{WordOne, done_word}
use Rattle.phase_one.specs.PhaseOne as one
use Rattle.phase_one.specs.PhaseOne.{command_in, payload_in}
use Rattle.phase_one.specs.Turns.{turn_one, phase_after}
use Rattle.conversation.specs.Calls.{Call, receive, send, receive_two, send_two, outcome, written_by, numbers, AllZero, Accepted}
use Rattle.conversation.specs.CommandsTwo.{CommandTwo, ask, key, error, done, other, bad, command_two, payload_of, line_sent}
use Rattle.conversation.specs.CommandsTwo as two_command
use Rattle.conversation.specs.Kinds.{Buffers, buffers_of}
use Rattle.conversation.specs.PhaseTwo.{is_missing, is_second_key, is_too_many, is_clashing, is_held_back, is_spaceless, fault_of, decided}
use Rattle.conversation.specs.Phases.{All, Whole, line_in, body_in, is_done, Supply, skip, LongEnough}
use Rattle.conversation.specs.Sending.{shortness}
use Rattle.conversation.specs.TurnsTwo.{turn_two}
use Rattle.conversation.specs.Allowed.{Allowed}
use Rattle.conversation.specs.SentOne.{sending_number, held_number, SendingOne, line_of, text_of, is_done_sent, send_calls, AllowedSendings}
use Rattle.conversation.proofs.Laws.Accepted.{AppliedOne, accepted}
use Rattle.conversation.proofs.Laws.AllowedOne.{texts_iff}
use Rattle.conversation.proofs.Laws.Firsts.{first_iff}
use Rattle.conversation.proofs.Laws.NumberParts.{as_read, decided_one, decided_two, at_once_text, given_receive, given_send, given_receive_two, given_send_two}
use Rattle.conversation.proofs.Laws.Lists.{all_append}
use Rattle.conversation.proofs.Laws.RowsTwo.{SaidTwo, said_two}
use Rattle.conversation.proofs.Laws.StepsTwo.{long_enough}
use Rattle.conversation.specs.WrittenRead.{ReadsBack}
use Rattle.conversation.proofs.Laws.WrittenRead.{reads_back, front}

-- ---- the first of two faults

-- the later one is asked only where there is no earlier one
later : (n x y : ℕ) → (n ≡ 0 → x ≡ y) → first_of n x ≡ first_of n y
later n x y h = cases (eqb n 0) (λ e. rw e (h (eqb-true n 0 e))) (λ e. rw e)

none_first : (n late : ℕ) → n ≡ 0 → first_of n late ≡ late
none_first n late e = rw (eq-eqb n 0 e)

first_alone : (n : ℕ) → first_of n 0 ≡ n
first_alone n = cases (eqb n 0) (λ e. rw e (sym (eqb-true n 0 e))) (λ e. rw e)

-- ---- a text that can be written, received

module _ (line body : List ℕ) (a : are_bytes body ≡ true) (w : is_writable line body ≡ true) where
  abbrev text : List ℕ
  text = stanza_text line body

  back : ReadsBack line body text
  back = reads_back line body text a w refl

  read_back : read_first text ≡ stanza (length line + 3) (length body) (length text)
  read_back = ap read_first (sym (append-nil text)) ∙ back.is_stanza []

  line_back : line_in text ≡ line
  line_back = ap line_in (sym (append-nil text)) ∙ back.same_line []

  body_back : body_in text ≡ body
  body_back = ap body_in (sym (append-nil text)) ∙ back.same_body []

  whole : Whole text
  whole = record { line = length line + 3; body = length body; read = read_back }

  module _ (s : Session) (b : Buffers) where
    -- its number in phase one is the turn's or the decision's
    received_number : (outcome s b (receive text)).number ≡ first_of (turn_one s.phase) (decided_one s b line body)
    received_number =
        given_receive s b text
        ∙ ap (first_of (turn_one s.phase))
        (ap (λ q. as_read q (first_of (decided_one s b (line_in text) (body_in text)) 0)) read_back ∙ ap₂ (λ l y. first_of (decided_one s b l y) 0) line_back body_back ∙ first_alone (decided_one s b line body))

    -- in phase two too, where the output is long enough
    received_two_number : (big : List ℕ) → (outcome s b (receive_two text big)).number ≡ first_of (turn_two s.phase) (first_of (decided_two s b false line body) (shortness (at_once_text s b line body) big))
    received_two_number big =
        given_receive_two s b text big
        ∙ ap (first_of (turn_two s.phase))
        (ap (λ q. as_read q (first_of (decided_two s b false (line_in text) (body_in text)) (shortness (at_once_text s b (line_in text) (body_in text)) big))) read_back
        ∙ ap₂ (λ l y. first_of (decided_two s b false l y) (shortness (at_once_text s b l y) big)) line_back body_back)

-- ---- phase one

module _ (s : Session) (b : Buffers) (word : WordOne) (arguments body : List ℕ) (a : are_bytes body ≡ true) where
  abbrev sent_line : List ℕ
  sent_line = one_command.line_sent word arguments

  -- a sending has the turn's number, or 17, or the number of receiving its text, or 15
  pub sent_number_one : (out : List ℕ) → (outcome s b (send word arguments body out)).number ≡
      sending_number (turn_one s.phase) (is_writable sent_line body) (outcome s b (receive (stanza_text sent_line body))).number (shortness (stanza_text sent_line body) out)
  sent_number_one out =
      given_send s b word arguments body out
      ∙ later (turn_one s.phase) _ _ (λ z. cases (is_writable sent_line body)
      (λ w. rw w (sym (ap (λ n. first_of n (shortness (stanza_text sent_line body) out)) (received_number sent_line body a w s b ∙ none_first (turn_one s.phase) (decided_one s b sent_line body) z))))
      (λ w. rw w))

-- ---- phase two

-- a fault by itself is 4 or 5
no_eight : (machine : Machine) (line body : List ℕ) (c : CommandTwo) → SaidTwo machine line body c → fault_of c ≡ 8 → ⊥
no_eight machine line body (ask w) h e = omega arith
no_eight machine line body (two_command.stanza f) h e = omega arith
no_eight machine line body (key f) h e = omega arith
no_eight machine line body (error n) h e = omega arith
no_eight machine line body done h e = omega arith
no_eight machine line body other h e = omega arith
no_eight machine line body (bad n) h e = ⊎_elim (λ q. let z = q.0 in omega arith) (λ q. let z = q.0 in omega arith) h

module _ (s : Session) (b : Buffers) (word : WordTwo) (arguments body : List ℕ) (a : are_bytes body ≡ true) where
  abbrev sent_line_two : List ℕ
  sent_line_two = line_sent word arguments

  abbrev command_sent : CommandTwo
  command_sent = command_two s.machine sent_line_two body

  held_decided : decided_two s b true sent_line_two body ≡ held_number (is_held_back s.tables command_sent) (decided_two s b false sent_line_two body)
  unfolding decided
  held_decided =
      let c = command_sent in
      let t = s.tables in
      let n = length (payload_of c sent_line_two body) in
      cases (eqb (fault_of c) 0)
      (λ f. let z = eqb-true (fault_of c) 0 f in
      cases (is_missing t c) (λ m. cases (is_held_back t c) (λ h. rw (z, m, h)) (λ h. rw (z, m, h)))
      (λ m. cases (is_second_key t c) (λ k. cases (is_held_back t c) (λ h. rw (z, m, k, h)) (λ h. rw (z, m, k, h)))
      (λ k. cases (is_too_many t c) (λ y. cases (is_held_back t c) (λ h. rw (z, m, k, y, h)) (λ h. rw (z, m, k, y, h)))
      (λ y. cases (is_clashing t c) (λ l. cases (is_held_back t c) (λ h. rw (z, m, k, y, l, h)) (λ h. rw (z, m, k, y, l, h)))
      (λ l. cases (is_held_back t c) (λ h. cases (is_spaceless t b.second c n) (λ p. rw (z, m, k, y, l, h, p)) (λ p. rw (z, m, k, y, l, h, p)))
      (λ h. cases (is_spaceless t b.second c n) (λ p. rw (z, m, k, y, l, h, p)) (λ p. rw (z, m, k, y, l, h, p))))))))
      (λ f. let e = ne_eqb (fault_of c) 8 (no_eight s.machine sent_line_two body c (said_two s.machine sent_line_two body)) in cases (is_held_back t c) (λ h. rw (f, f, f, e, h)) (λ h. rw (f, f, f, e, h)))

  -- 15 is not given
  long : (n : ℕ) (f : Bool) → (first_of n (pick f 15 0) ≡ 15 → ⊥) → first_of n (pick f 15 0) ≡ n
  long n false h = first_alone n
  long n true h = cases (eqb n 0) (λ e. absurd (h (rw e))) (λ e. rw e)

  -- a sending has the turn's number, or 17, or the number of receiving its text to an output that is long enough, with 19 before 8, or 15
  pub sent_number_two : (out big : List ℕ) → ((outcome s b (receive_two (stanza_text sent_line_two body) big)).number ≡ 15 → ⊥) → (outcome s b (send_two word arguments body out)).number ≡
      sending_number (turn_two s.phase) (is_writable sent_line_two body)
      (held_number (is_held_back s.tables (command_two s.machine sent_line_two body)) (outcome s b (receive_two (stanza_text sent_line_two body) big)).number) (shortness (stanza_text sent_line_two body) out)
  sent_number_two out big h =
      given_send_two s b word arguments body out
      ∙ later (turn_two s.phase) _ _ (λ z. cases (is_writable sent_line_two body)
      (λ w. let n = received_two_number sent_line_two body a w s b big ∙ none_first (turn_two s.phase) _ z in
      let r = n ∙ long (decided_two s b false sent_line_two body) (overflows (at_once_text s b sent_line_two body) big) (λ e. h (n ∙ e)) in
      rw w (ap (λ n. first_of n (shortness (stanza_text sent_line_two body) out)) (held_decided ∙ ap (held_number (is_held_back s.tables command_sent)) (sym r))))
      (λ w. rw w))

-- ---- lists of sendings

module _ (s : Session) (b : Buffers) (x : SendingOne) (a : are_bytes x.body ≡ true) where
  abbrev call : List ℕ → Call
  call out = send x.word x.arguments x.body out

  abbrev Zero : Type 0
  Zero = (outcome s b (receive (text_of x))).number ≡ 0

  -- where the output is long enough it is accepted exactly if its text is
  zero_sent : (out : List ℕ) → is_writable (line_of x) x.body ≡ true → length (text_of x) ≤ length out → Zero → (outcome s b (call out)).number ≡ 0
  zero_sent out w l z =
      let t = ((first_iff (turn_one s.phase) _).0 (sym (received_number (line_of x) x.body a w s b) ∙ z)).0 in
      sent_number_one s b x.word x.arguments x.body a out
      ∙ none_first (turn_one s.phase) _ t ∙ ap (λ f. pick f (first_of (outcome s b (receive (text_of x))).number (shortness (text_of x) out)) 17) w ∙ none_first _ (shortness (text_of x) out) z ∙ long_enough (text_of x) out l

  sent_from : (out : List ℕ) → is_writable (line_of x) x.body ≡ true → ((big : List ℕ) → length (written_by s b (call big)) ≤ length out) → Zero → (outcome s b (call out)).number ≡ 0
  sent_from out w e z =
      let h = accepted s b (call (text_of x)) (zero_sent (text_of x) w (omega arith) z) in
      zero_sent out w (subst (λ k. k ≤ length out) (ap length (front (text_of x) (text_of x) _ h.written)) (e (text_of x))) z

  sent_to : (out : List ℕ) → is_writable (line_of x) x.body ≡ true → (outcome s b (call out)).number ≡ 0 → Zero
  sent_to out w z =
      let h = ((first_iff (turn_one s.phase) _).0 (sym (sent_number_one s b x.word x.arguments x.body a out) ∙ z)).1 in
      ((first_iff (outcome s b (receive (text_of x))).number _).0 (sym (ap (λ f. pick f (first_of (outcome s b (receive (text_of x))).number (shortness (text_of x) out)) 17) w) ∙ h)).0

  -- and leaves what receiving its text leaves
  module _ (out : List ℕ) (w : is_writable (line_of x) x.body ≡ true) (z : (outcome s b (call out)).number ≡ 0) (y : Zero) where
    abbrev sent : AppliedOne s b (line_of x) x.body (text_of x) out (outcome s b (call out))
    sent = accepted s b (call out) z

    same_session : (outcome s b (call out)).session ≡ (outcome s b (receive (text_of x))).session
    same_session =
        let c : List ℕ → List ℕ → Session = λ l y. moved s (phase_after (command_in s.machine s.name l y)) (one.applied s.tables b.first (command_in s.machine s.name l y) (payload_in s.machine s.name l y)) in
        sent.applied.session ∙ sym ((accepted s b (receive (text_of x)) y).applied.session ∙ ap₂ c (line_back (line_of x) x.body a w) (body_back (line_of x) x.body a w))

    same_buffers : (outcome s b (call out)).buffers ≡ (outcome s b (receive (text_of x))).buffers
    same_buffers =
        let r = accepted s b (receive (text_of x)) y in
        let c : List ℕ → List ℕ → one.BuffersOne = λ l y. one.filled_by s.tables b.first (command_in s.machine s.name l y) (payload_in s.machine s.name l y) in
        ap₂ buffers_of (sent.applied.buffers ∙ sym (r.applied.buffers ∙ ap₂ c (line_back (line_of x) x.body a w) (body_back (line_of x) x.body a w))) (sent.second ∙ sym r.second)

abbrev Bytes : SendingOne → Type 0
Bytes x = are_bytes x.body ≡ true

abbrev Writable : SendingOne → Type 0
Writable x = is_writable (line_of x) x.body ≡ true

-- a list is accepted exactly if its texts are
same_accepted : (xs : List SendingOne) (s : Session) (b : Buffers) (outs : Supply) → All Bytes xs → All Writable xs → LongEnough s b (send_calls outs xs) →
    Accepted s b (send_calls outs xs) ↔ Accepted s b (map receive (map text_of xs))
unfolding All AllZero numbers send_calls LongEnough
same_accepted [] s b outs a w l = (λ h. h, λ h. h)
same_accepted (x ∷ xs) s b outs a w l =
    let o = outcome s b (send x.word x.arguments x.body (outs 0)) in
    let i = same_accepted xs o.session o.buffers (skip 1 outs) a.1 w.1 l.1 in
    let cs = map receive (map text_of xs) in
    let follows : (z : o.number ≡ 0) (y : (outcome s b (receive (text_of x))).number ≡ 0) → numbers o.session o.buffers cs ≡ numbers (outcome s b (receive (text_of x))).session (outcome s b (receive (text_of x))).buffers cs =
    λ z y. ap₂ (λ s b. numbers s b cs) (same_session s b x a.0 (outs 0) w.0 z y) (same_buffers s b x a.0 (outs 0) w.0 z y) in (
      λ h. let y = sent_to s b x a.0 (outs 0) w.0 h.0 in (y, subst AllZero (follows h.0 y) (i.0 h.1)),
      λ h. let z = sent_from s b x a.0 (outs 0) w.0 l.0 h.0 in (z, i.1 (subst AllZero (sym (follows z h.0)) h.1)),
    )

-- and each can be written then
accepted_writable : (xs : List SendingOne) (s : Session) (b : Buffers) (outs : Supply) → Accepted s b (send_calls outs xs) → All Writable xs
unfolding All AllZero numbers send_calls
accepted_writable [] s b outs h = tt
accepted_writable (x ∷ xs) s b outs h =
    let o = outcome s b (send x.word x.arguments x.body (outs 0)) in
    ((accepted s b (send x.word x.arguments x.body (outs 0)) h.0).writable, accepted_writable xs o.session o.buffers (skip 1 outs) h.1)

all_whole : (xs : List SendingOne) → All Bytes xs → All Writable xs → All Whole (map text_of xs)
unfolding All
all_whole [] a w = tt
all_whole (x ∷ xs) a w = (whole (line_of x) x.body a.0 w.0, all_whole xs a.1 w.1)

none_done : (xs : List SendingOne) → All Bytes xs → All Writable xs → All (λ x. is_done_sent x ≡ false) xs → All (λ t. is_done t ≡ false) (map text_of xs)
unfolding All
none_done [] a w d = tt
none_done (x ∷ xs) a w d = (ap (λ l. same (argument_of l 0) done_word) (line_back (line_of x) x.body a.0 w.0) ∙ d.0, none_done xs a.1 w.1 d.1)

module _ (machine : Machine) (name : List ℕ) (screen : Bool) (b : Buffers) (outs : Supply) (xs : List SendingOne) (y : SendingOne) where
  abbrev all : List SendingOne
  all = xs ++ (y ∷ [])

  abbrev split : map text_of all ≡ map text_of xs ++ (text_of y ∷ [])
  split = map-append text_of xs (y ∷ [])

  -- a client session just opened accepts exactly the allowed lists, of which only the last may be done
  pub sent_one_iff : All Bytes all → All (λ x. is_done_sent x ≡ false) xs → LongEnough (opened_session machine name screen) b (send_calls outs all) →
      Accepted (opened_session machine name screen) b (send_calls outs all) ↔ AllowedSendings machine name b.first all
  sent_one_iff a d l =
      let s = opened_session machine name screen in
      let i : All Writable all → Accepted s b (map receive (map text_of all)) ↔ Allowed machine name b.first (map text_of all) =
      λ w. subst (λ ts. Accepted s b (map receive ts) ↔ Allowed machine name b.first ts) (sym split)
      (texts_iff machine name screen b (map text_of xs) (text_of y) (subst (All Whole) split (all_whole all a w)) (none_done xs ((all_append Bytes xs (y ∷ [])).0 a).0 ((all_append Writable xs (y ∷ [])).0 w).0 d)) in (
        λ h. let w = accepted_writable all s b outs h in record { writable = w; allowed = (i w).0 ((same_accepted all s b outs a w l).0 h) },
        λ h. (same_accepted all s b outs a h.writable l).1 ((i h.writable).1 h.allowed),
      )
