-- Phase two at the client end: one block, a text with its replies. When its calls are accepted, and what they leave and write.
use Prim.Native.Nat.{ℕ, ◌≤◌}
use mathlib.Core.Path.{◌≡◌, refl, sym, ap, ap₂, ◌∙◌, subst, subst₂}
use mathlib.Core.Bool.{Bool, true, false, false≢true}
use mathlib.Core.Logic.{◌↔◌}
use mathlib.Core.List.{List, [], ◌∷◌, map}
use lib.Dec.{eqb}
use lib.ListN.{length, take, drop}
use lib.Seq.{take-append_seam}
use native.Mathlib.Omega.{arith}
use borrow.Author.Tests.{eqb-true, eq-eqb, le-ltb}
use Rattle.refusal.specs.Output.{bytes, filled}
use Rattle.refusal.specs.Pick.{pick}
use Rattle.stanza.specs.Grammar.{stanza_text}
use Rattle.stanza.specs.Writing.{is_writable}
use Rattle.responses.specs.Responses.{fits_whole, response_line}
use Rattle.responses.specs.declared.Response.{Response}
use Rattle.session.specs.declared.words.WordTwo.{WordTwo}
use Rattle.session.specs.Tables.{Tables}
use Rattle.refusal.specs.Verdict.{first_of}
use Rattle.session.specs.declared.phases.Phase.{Phase}
use Rattle.session.specs.declared.phases.Phase.TheVariants.{One, Two, Awaiting, Ended, Closed}
use Rattle.conversation.specs.Calls.{Call, receive_two, reply, taking_two_number, sent_number, received_two_outcome, replied_outcome, outcome, written_by, state_of, after, numbers, written, line_read, body_read, AllZero, Accepted}
use Rattle.conversation.specs.CommandsTwo.{CommandTwo, ask, stanza, key, error, done, other, bad, word_of}
use Rattle.conversation.specs.Kinds.{Buffers, buffers_of}
use Rattle.conversation.specs.PhaseTwo.{decided, applied, filled_by}
use Rattle.conversation.specs.Phases.{Whole, command_in, payload_in, Reply, Block, Supply, skip, reply_calls, two_part, block_calls, responses_to, LongEnough}
use Rattle.conversation.specs.ReceivingTwo.{at_once, text_of, phase_received, took, Received, refused_receipt, received_stanza, received_as, received}
use Rattle.conversation.specs.Replying.{Replied, refused_reply, number_replied, replied_to}
use Rattle.conversation.specs.Sending.{shortness}
use Rattle.session.specs.Session.{Session, moved}
use Rattle.conversation.specs.Allowed.{AnsweredAsk, Answered}
use Rattle.conversation.proofs.Laws.Firsts.{first_iff}

-- ---- output

-- where the output buffer is no shorter than the text, nothing is late
pub long_enough : (text out : List ℕ) → length text ≤ length out → shortness text out ≡ 0
long_enough text out h = rw (le-ltb (length out) (length text) h)

-- and all of the text is written
pub all_written : (text out : List ℕ) → length text ≤ length out → take (length text) (filled text out) ≡ text
all_written text out h = rw (le-ltb (length out) (length text) h) (take-append_seam text (drop (length text) out))

first_late : (n late : ℕ) → late ≡ 0 → (first_of n late ≡ 0) ↔ (n ≡ 0)
first_late n late e = (λ h. ((first_iff n late).0 h).0, λ h. (first_iff n late).1 (h, e))

-- ---- a text

module _ (s : Session) where
  -- the session in another phase and with other tables
  abbrev pub at : Phase → Tables → Session
  at p t = moved s p t

  module _ (t : Tables) (b : Buffers) (x : List ℕ) (w : Whole x) where
    abbrev c : CommandTwo
    c = command_in s.machine x

    abbrev p : List ℕ
    p = payload_in s.machine x

    -- what it writes at once
    abbrev text : List ℕ
    text = text_of (at_once s.screen c)

    -- its decision; the tables and the buffers behind it where it is accepted
    abbrev pub judged : ℕ
    judged = decided false t b.second c (length p)

    abbrev pub tables_with : Tables
    tables_with = applied t b.second c p

    abbrev pub buffers_with : Buffers
    buffers_with = buffers_of b.first (filled_by t b.second c p)

    module _ (out : List ℕ) where
      abbrev got : Received
      got = record { answer = took (word_of c) (length x) (length text); session = at (phase_received s.screen c) tables_with; buffers = filled_by t b.second c p; output = filled text out }

      abbrev n : ℕ
      n = first_of judged (shortness text out)

      read_as : received (at Two t) x b.second out ≡ pick (eqb n 0) got (refused_receipt n (at Two t) b.second out)
      unfolding received received_stanza
      read_as = subst (λ r. received_as r (at Two t) x b.second out ≡ received_stanza (at Two t) b.second out (line_read r x) (body_read r x) (length x)) (sym w.read) refl

      picked : (f : Bool) → eqb n 0 ≡ f → taking_two_number (pick f got (refused_receipt n (at Two t) b.second out)).answer ≡ n
      picked true e = sym (eqb-true n 0 e)
      picked false e = refl

      number_text : (outcome (at Two t) b (receive_two x out)).number ≡ n
      number_text = ap (λ r. taking_two_number r.answer) read_as ∙ picked (eqb n 0) refl

      leaves : n ≡ 0 → outcome (at Two t) b (receive_two x out) ≡ received_two_outcome b.first got
      leaves z = ap (received_two_outcome b.first) (read_as ∙ ap (λ f. pick f got (refused_receipt n (at Two t) b.second out)) (eq-eqb n 0 z))

    module _ (out : List ℕ) (e : (big : List ℕ) → length (written_by (at Two t) b (receive_two x big)) ≤ length out) where
      -- where it is accepted otherwise, the buffer is no shorter than what it writes
      enough_text : judged ≡ 0 → length text ≤ length out
      enough_text z =
          let h : length text ≤ length text = omega arith in
          let l = leaves text ((first_late judged (shortness text text) (long_enough text text h)).1 z) in
          subst (λ k. k ≤ length out) (ap length (ap (λ o. take o.size o.output) l ∙ all_written text text h)) (e text)

      pub text_iff : ((outcome (at Two t) b (receive_two x out)).number ≡ 0) ↔ (judged ≡ 0)
      text_iff = (λ z. ((first_iff judged (shortness text out)).0 (sym (number_text out) ∙ z)).0, λ z. number_text out ∙ (first_late judged (shortness text out) (long_enough text out (enough_text z))).1 z)

      module _ (z : judged ≡ 0) where
        left : outcome (at Two t) b (receive_two x out) ≡ received_two_outcome b.first (got out)
        left = leaves out ((first_late judged (shortness text out) (long_enough text out (enough_text z))).1 z)

        pub text_session : (outcome (at Two t) b (receive_two x out)).session ≡ at (phase_received s.screen c) tables_with
        text_session = ap (λ o. o.session) left

        pub text_buffers : (outcome (at Two t) b (receive_two x out)).buffers ≡ buffers_with
        text_buffers = ap (λ o. o.buffers) left

        pub text_written : written_by (at Two t) b (receive_two x out) ≡ text
        text_written = ap (λ o. take o.size o.output) left ∙ all_written text out (enough_text z)

-- ---- its replies

-- nothing is awaited
abbrev pub Settled : Phase → Type 0
Settled One = Unit
Settled Two = Unit
Settled (Awaiting w) = ⊥
Settled Ended = Unit
Settled Closed = Unit

-- the phase behind a block
abbrev pub phase_behind : CommandTwo → Phase
phase_behind (ask w) = Two
phase_behind (stanza f) = Two
phase_behind (key f) = Two
phase_behind (error n) = Two
phase_behind done = Ended
phase_behind other = Two
phase_behind (bad n) = Two

-- what a reply writes
abbrev reply_text : Reply → List ℕ
reply_text r = stanza_text (response_line r.response) r.body

replied_iff : (w : WordTwo) (r : Response) (y : List ℕ) → (number_replied w r y ≡ 0) ↔ ((fits_whole w r y ≡ true) × (is_writable (response_line r) y ≡ true))
replied_iff w r y = go (fits_whole w r y) (is_writable (response_line r) y)
  where
    go : (f g : Bool) → (◌≡◌ {A = ℕ} (pick f (pick g 0 17) 12) 0) ↔ ((f ≡ true) × (g ≡ true))
    go true true = (λ e. (refl, refl), λ e. refl)
    go true false = (λ e. absurd (omega arith), λ e. absurd (false≢true e.1))
    go false g = (λ e. absurd (omega arith), λ e. absurd (false≢true e.0))

module _ (s : Session) (t : Tables) (b : Buffers) where
  -- one reply to the command that awaits it
  module _ (w : WordTwo) (r : Reply) where
    abbrev spoken : List ℕ → Replied
    spoken out = record { answer = bytes (length (reply_text r)); session = at s Two t; output = filled (reply_text r) out }

    abbrev m : List ℕ → ℕ
    m out = first_of (number_replied w r.response r.body) (shortness (reply_text r) out)

    number_reply : (out : List ℕ) → (outcome (at s (Awaiting w) t) b (reply r.response r.body out)).number ≡ m out
    unfolding replied_to
    number_reply out = go (eqb (m out) 0) refl
      where
        go : (f : Bool) → eqb (m out) 0 ≡ f → sent_number (pick f (spoken out) (refused_reply (m out) (at s (Awaiting w) t) out)).answer ≡ m out
        go true e = sym (eqb-true (m out) 0 e)
        go false e = refl

    leaves_reply : (out : List ℕ) → m out ≡ 0 → outcome (at s (Awaiting w) t) b (reply r.response r.body out) ≡ replied_outcome b (spoken out)
    unfolding replied_to
    leaves_reply out z = ap (λ f. replied_outcome b (pick f (spoken out) (refused_reply (m out) (at s (Awaiting w) t) out))) (eq-eqb (m out) 0 z)

    module _ (out : List ℕ) (e : (big : List ℕ) → length (written_by (at s (Awaiting w) t) b (reply r.response r.body big)) ≤ length out) where
      enough_reply : number_replied w r.response r.body ≡ 0 → length (reply_text r) ≤ length out
      enough_reply z =
          let y = reply_text r in
          let h : length y ≤ length y = omega arith in
          let l = leaves_reply y ((first_late (number_replied w r.response r.body) (shortness y y) (long_enough y y h)).1 z) in
          subst (λ k. k ≤ length out) (ap length (ap (λ o. take o.size o.output) l ∙ all_written y y h)) (e y)

      reply_zero : number_replied w r.response r.body ≡ 0 → m out ≡ 0
      reply_zero z = (first_late (number_replied w r.response r.body) (shortness (reply_text r) out) (long_enough (reply_text r) out (enough_reply z))).1 z

      reply_iff : ((outcome (at s (Awaiting w) t) b (reply r.response r.body out)).number ≡ 0) ↔ ((fits_whole w r.response r.body ≡ true) × (is_writable (response_line r.response) r.body ≡ true))
      reply_iff =
          let i = replied_iff w r.response r.body in
          (λ z. i.0 ((first_iff (number_replied w r.response r.body) (shortness (reply_text r) out)).0 (sym (number_reply out) ∙ z)).0, λ h. number_reply out ∙ reply_zero (i.1 h))

  -- what replies leave and write, from a phase on
  pub record Replies (c : CommandTwo) (from : Phase) (outs : Supply) (rs : List Reply) : Type 0 where
    pub zeros : Accepted (at s from t) b (reply_calls outs rs)
    pub state : after (at s from t) b (reply_calls outs rs) ≡ state_of (at s (phase_behind c) t) b
    pub texts : written (at s from t) b (reply_calls outs rs) ≡ map reply_text rs

  none_from : (c : CommandTwo) (outs : Supply) (rs : List Reply) → rs ≡ [] → Replies c (phase_behind c) outs rs
  unfolding AllZero numbers after written reply_calls
  none_from c outs [] e = record { zeros = tt; state = refl; texts = refl }
  none_from c outs (r ∷ rs) e = let z : ◌≡◌ {A = ℕ} 1 0 = ap (λ l. eqbit l) e in absurd (omega arith)
    where
      eqbit : List Reply → ℕ
      eqbit [] = 0
      eqbit (r ∷ rs) = 1

  ask_from : (w : WordTwo) (f : Bool) (outs : Supply) (rs : List Reply) → AnsweredAsk f w rs → LongEnough (at s (pick f (Awaiting w) Two) t) b (reply_calls outs rs) → Replies (ask w) (pick f (Awaiting w) Two) outs rs
  unfolding AllZero numbers after written reply_calls LongEnough
  ask_from w false outs rs a l = none_from (ask w) outs rs a
  ask_from w true outs [] a l = absurd a
  ask_from w true outs (r ∷ []) a l =
      let z = (replied_iff w r.response r.body).1 a in
      let o = leaves_reply w r (outs 0) (reply_zero w r (outs 0) l.0 z) in
      record {
        zeros = ((reply_iff w r (outs 0) l.0).1 a, tt);
        state = ap (λ o. state_of o.session o.buffers) o;
        texts = ap (λ y. y ∷ []) (ap (λ o. take o.size o.output) o ∙ all_written (reply_text r) (outs 0) (enough_reply w r (outs 0) l.0 z));
      }
  ask_from w true outs (r ∷ q ∷ rs) a l = absurd a

  -- replies that are as they must be are accepted
  replies_from : (c : CommandTwo) (f : Bool) (outs : Supply) (rs : List Reply) → Answered f c rs → LongEnough (at s (phase_received f c) t) b (reply_calls outs rs) → Replies c (phase_received f c) outs rs
  replies_from (ask w) f outs rs a l = ask_from w f outs rs a l
  replies_from (stanza x) f outs rs a l = none_from (stanza x) outs rs a
  replies_from (key x) f outs rs a l = none_from (key x) outs rs a
  replies_from (error n) f outs rs a l = none_from (error n) outs rs a
  replies_from done f outs rs a l = none_from done outs rs a
  replies_from other f outs rs a l = none_from other outs rs a
  replies_from (bad n) f outs rs a l = none_from (bad n) outs rs a

  -- no reply is accepted in phase two or behind it where nothing is awaited
  none_to : (outs : Supply) (rs : List Reply) → Accepted (at s Two t) b (reply_calls outs rs) → rs ≡ []
  unfolding AllZero numbers reply_calls
  none_to outs [] a = refl
  none_to outs (r ∷ rs) a = absurd (omega (arith, a.0))

  ended_to : (outs : Supply) (rs : List Reply) → Accepted (at s Ended t) b (reply_calls outs rs) → rs ≡ []
  unfolding AllZero numbers reply_calls
  ended_to outs [] a = refl
  ended_to outs (r ∷ rs) a = absurd (omega (arith, a.0))

  ask_to : (w : WordTwo) (f : Bool) (outs : Supply) (rs : List Reply) → Accepted (at s (pick f (Awaiting w) Two) t) b (reply_calls outs rs) → LongEnough (at s (pick f (Awaiting w) Two) t) b (reply_calls outs rs) →
      Settled (after (at s (pick f (Awaiting w) Two) t) b (reply_calls outs rs)).session.phase → AnsweredAsk f w rs
  unfolding AllZero numbers after reply_calls LongEnough
  ask_to w false outs rs a l h = none_to outs rs a
  ask_to w true outs [] a l h = h
  ask_to w true outs (r ∷ []) a l h = (reply_iff w r (outs 0) l.0).0 a.0
  ask_to w true outs (r ∷ q ∷ rs) a l h =
      let z = (reply_iff w r (outs 0) l.0).0 a.0 in
      let o = leaves_reply w r (outs 0) (reply_zero w r (outs 0) l.0 ((replied_iff w r.response r.body).1 z)) in
      let n : ◌≡◌ {A = ℕ} 14 0 = ap (λ o. (outcome o.session o.buffers (reply q.response q.body (skip 1 outs 0))).number) (sym o) ∙ a.1.0 in
      absurd (omega arith)

  -- and only those are
  replies_to : (c : CommandTwo) (f : Bool) (outs : Supply) (rs : List Reply) → Accepted (at s (phase_received f c) t) b (reply_calls outs rs) → LongEnough (at s (phase_received f c) t) b (reply_calls outs rs) →
      ((w : WordTwo) → c ≡ ask w → Settled (after (at s (phase_received f c) t) b (reply_calls outs rs)).session.phase) → Answered f c rs
  replies_to (ask w) f outs rs a l h = ask_to w f outs rs a l (h w refl)
  replies_to (stanza x) f outs rs a l h = none_to outs rs a
  replies_to (key x) f outs rs a l h = none_to outs rs a
  replies_to (error n) f outs rs a l h = none_to outs rs a
  replies_to done f outs rs a l h = ended_to outs rs a
  replies_to other f outs rs a l h = none_to outs rs a
  replies_to (bad n) f outs rs a l h = none_to outs rs a

-- ---- a block

module _ (s : Session) (t : Tables) (b : Buffers) (x : Block) (w : Whole x.text) where
  -- what an accepted block leaves and writes
  pub record BlockDone (outs : Supply) : Type 0 where
    pub zeros : Accepted (at s Two t) b (block_calls two_part outs x)
    pub state : after (at s Two t) b (block_calls two_part outs x) ≡ state_of (at s (phase_behind (command_in s.machine x.text)) (tables_with s t b x.text w)) (buffers_with s t b x.text w)
    pub texts : written (at s Two t) b (block_calls two_part outs x) ≡ responses_to two_part s.machine s.screen x

  module _ (outs : Supply) (l : LongEnough (at s Two t) b (block_calls two_part outs x)) where
    abbrev c' : CommandTwo
    c' = command_in s.machine x.text

    abbrev Rest : (Session → Buffers → List Call → Type 0) → Type 0
    Rest P = P (at s (phase_received s.screen c') (tables_with s t b x.text w)) (buffers_with s t b x.text w) (reply_calls (skip 1 outs) x.replies)

    enough : (big : List ℕ) → length (written_by (at s Two t) b (receive_two x.text big)) ≤ length (outs 0)
    unfolding LongEnough
    enough = l.0

    rest_enough : judged s t b x.text w ≡ 0 → Rest LongEnough
    unfolding LongEnough
    rest_enough z = subst₂ (λ s b. LongEnough s b (reply_calls (skip 1 outs) x.replies)) (text_session s t b x.text w (outs 0) enough z) (text_buffers s t b x.text w (outs 0) enough z) l.1

    -- it is accepted where the decision finds no fault and its replies are as they must be
    pub block_from : judged s t b x.text w ≡ 0 → Answered s.screen c' x.replies → BlockDone outs
    unfolding AllZero numbers after written
    block_from z a =
        let r = replies_from s (tables_with s t b x.text w) (buffers_with s t b x.text w) c' s.screen (skip 1 outs) x.replies a (rest_enough z) in
        let es = text_session s t b x.text w (outs 0) enough z in
        let eb = text_buffers s t b x.text w (outs 0) enough z in
        record {
          zeros = ((text_iff s t b x.text w (outs 0) enough).1 z, subst (λ n. AllZero n) (sym (ap₂ (λ s b. numbers s b (reply_calls (skip 1 outs) x.replies)) es eb)) r.zeros);
          state = ap₂ (λ s b. after s b (reply_calls (skip 1 outs) x.replies)) es eb ∙ r.state;
          texts = ap₂ (λ y ys. y ∷ ys) (text_written s t b x.text w (outs 0) enough z) (ap₂ (λ s b. written s b (reply_calls (skip 1 outs) x.replies)) es eb ∙ r.texts);
        }

    -- and nowhere else, if nothing is awaited behind a command that asks
    pub block_to : Accepted (at s Two t) b (block_calls two_part outs x) → ((v : WordTwo) → c' ≡ ask v → Settled (after (at s Two t) b (block_calls two_part outs x)).session.phase) → (judged s t b x.text w ≡ 0) × Answered s.screen c' x.replies
    unfolding AllZero numbers after
    block_to a h =
        let z = (text_iff s t b x.text w (outs 0) enough).0 a.0 in
        let es = text_session s t b x.text w (outs 0) enough z in
        let eb = text_buffers s t b x.text w (outs 0) enough z in (
          z,
          replies_to s (tables_with s t b x.text w) (buffers_with s t b x.text w) c' s.screen (skip 1 outs) x.replies
              (subst (λ n. AllZero n) (ap₂ (λ s b. numbers s b (reply_calls (skip 1 outs) x.replies)) es eb) a.1) (rest_enough z)
              (λ v e. subst (λ y. Settled y.session.phase) (ap₂ (λ s b. after s b (reply_calls (skip 1 outs) x.replies)) es eb) (h v e)),
        )
