-- What an accepted call does, at either end. A command: it is its phase, its arguments' text is a line, the decision finds no fault, and the command is applied. A
-- host's reply or a response: a command awaited it, it fits, and the session waits no more.
use Prim.Native.Nat.{ℕ}
use mathlib.Core.Path.{◌≡◌, refl, sym, ap, ap₂, ◌∙◌}
use mathlib.Core.Bool.{Bool, true, false}
use mathlib.Core.List.{List, [], ◌++◌}
use lib.Dec.{eqb, leb, ltb}
use lib.ListN.{length, take}
use native.Mathlib.Omega.{arith}
use borrow.Author.Tests.{eqb-true, eqb-false}
use Rattle.refusal.specs.Output.{overflows, filled}
use Rattle.refusal.specs.Pick.{pick}
use Rattle.refusal.proofs.Laws.Booleans.{and_true}
use Rattle.stanza.specs.Arguments.{is_line}
use Rattle.stanza.specs.Automaton.{Scan, bad, short, whole, scan, start}
use Rattle.stanza.specs.Grammar.{stanza_text}
use Rattle.stanza.specs.Reading.{Reading, stanza, refused, found, read_first}
use Rattle.stanza.specs.Writing.{is_writable}
use Rattle.stanza.proofs.Laws.RoundTrip.{written_read}
use Rattle.responses.specs.Responses.{ResponseRead, response, nothing, response_of, response_line, fits_whole}
use Rattle.responses.specs.declared.Response.{Response}
use Rattle.session.specs.declared.words.WordTwo.{WordTwo}
use Rattle.responses.proofs.Laws.Responses.{read_line}
use Rattle.phase_one.specs.Commands as one_command
use Rattle.phase_one.specs.Commands.{WordOne}
use Rattle.phase_one.specs.PhaseOne as one
use Rattle.refusal.specs.Verdict.{first_of}
use Rattle.phase_one.specs.PhaseOne.{command_in, payload_in, number_one, tables_one, buffers_one}
use Rattle.phase_one.specs.Turns.{turn_one, phase_after}
use Rattle.phase_one.specs.Views as one_kind
use Rattle.session.specs.declared.phases.Phase.{Phase}
use Rattle.session.specs.declared.phases.Phase.TheVariants.{One, Two, Awaiting, Ended, Closed}
use Rattle.phase_one.proofs.Laws.PhaseOne.{accepted_one}
use Rattle.phase_one.proofs.Laws.Views.{Reached, applied_view, first_zero}
use Rattle.session.specs.Session.{Session, moved}
use Rattle.conversation.specs.Kinds.{Buffers, buffers_of}
use Rattle.conversation.specs.CommandsTwo as two_command
use Rattle.conversation.specs.CommandsTwo.{CommandTwo, command_two, payload_of}
use Rattle.conversation.specs.PhaseTwo as two
use Rattle.conversation.specs.TurnsTwo.{turn_two, due_in, answered}
use Rattle.conversation.specs.Receiving as receiving
use Rattle.conversation.specs.Sending as sending
use Rattle.conversation.specs.Sending.{shortness}
use Rattle.conversation.specs.ReceivingTwo as receiving_two
use Rattle.conversation.specs.ReceivingTwo.{text_of, at_once, phase_received}
use Rattle.conversation.specs.Replying as replying
use Rattle.conversation.specs.SendingTwo as sending_two
use Rattle.conversation.specs.SendingTwo.{phase_sent}
use Rattle.conversation.specs.Responding as responding
use Rattle.conversation.specs.Calls.{Call, receive, send, receive_two, reply, send_two, respond, Outcome, taking_number, sent_number, taking_two_number, responded_number, received_outcome, sent_outcome, received_two_outcome, replied_outcome, sent_two_outcome, responded_outcome, outcome, line_read, body_read}
use Rattle.conversation.proofs.Laws.Firsts.{first_iff, short_none}
use Rattle.conversation.proofs.Laws.Receiving.{turn_first}
use Rattle.conversation.proofs.Laws.ReceivingTwo.{turn_second}
use Rattle.conversation.proofs.Laws.Sending.{by_writable}

-- ---- what is said of an accepted call

-- a text is written to the output buffer: it fits, and stands at its front
pub record Written (text out : List ℕ) (o : Outcome) : Type 0 where
  pub fits : overflows text out ≡ false
  pub output : o.output ≡ filled text out
  pub size : o.size ≡ length text

-- one command of phase one applied, by its arguments' text and its body: the session and the buffers behind it
pub record Applied (s : Session) (b : one.BuffersOne) (line body : List ℕ) (after : Session) (buffers-after : one.BuffersOne) : Type 0 where
  pub turn : s.phase ≡ One
  pub argued : is_line line ≡ true
  pub faultless : one.decided s.tables b (command_in s.machine s.name line body) (payload_in s.machine s.name line body) ≡ 0
  pub session : after ≡ moved s (phase_after (command_in s.machine s.name line body)) (one.applied s.tables b (command_in s.machine s.name line body) (payload_in s.machine s.name line body))
  pub buffers : buffers-after ≡ one.filled_by s.tables b (command_in s.machine s.name line body) (payload_in s.machine s.name line body)

-- a call of phase one: its command can be written and is applied, phase two's buffers stay, and `text` is written
pub record AppliedOne (s : Session) (b : Buffers) (line body text out : List ℕ) (o : Outcome) : Type 0 where
  pub applied : Applied s b.first line body o.session o.buffers.first
  pub writable : is_writable line body ≡ true
  pub second : o.buffers.second ≡ b.second
  pub written : Written text out o

-- a command of phase two and its payload, by its arguments' text and its body
abbrev pub command_at : Session → List ℕ → List ℕ → CommandTwo
command_at s line body = command_two s.machine line body

abbrev pub payload_at : Session → List ℕ → List ℕ → List ℕ
payload_at s line body = payload_of (command_at s line body) line body

-- a command of phase two: `own` at the plugin's own sending, `phase` behind it, `text` is written
pub record AppliedTwo (own : Bool) (s : Session) (b : Buffers) (line body : List ℕ) (phase : Phase) (text out : List ℕ) (o : Outcome) : Type 0 where
  pub turn : s.phase ≡ Two
  pub argued : is_line line ≡ true
  pub writable : is_writable line body ≡ true
  pub faultless : two.decided own s.tables b.second (command_at s line body) (length (payload_at s line body)) ≡ 0
  pub session : o.session ≡ moved s phase (two.applied s.tables b.second (command_at s line body) (payload_at s line body))
  pub buffers : o.buffers ≡ buffers_of b.first (two.filled_by s.tables b.second (command_at s line body) (payload_at s line body))
  pub written : Written text out o

-- a host's reply, or a response received, with its arguments' text and its body: it fits the command that awaited it, and `text` is written
pub record Answered (s : Session) (b : Buffers) (r : Response) (line body text out : List ℕ) (o : Outcome) : Type 0 where
  pub awaited : WordTwo
  pub turn : s.phase ≡ Awaiting awaited
  pub writable : is_writable line body ≡ true
  pub named : response_of line ≡ response r
  pub fitting : fits_whole awaited r body ≡ true
  pub session : o.session ≡ answered s
  pub buffers : o.buffers ≡ b
  pub written : Written text out o

-- of each call
abbrev pub AcceptedBy : Session → Buffers → Call → Type 0
AcceptedBy s b (receive text) = AppliedOne s b (line_read (read_first text) text) (body_read (read_first text) text) [] [] (outcome s b (receive text))
AcceptedBy s b (send word arguments body out) =
    let line = one_command.line_sent word arguments in
    AppliedOne s b line body (stanza_text line body) out (outcome s b (send word arguments body out))
AcceptedBy s b (receive_two text out) =
    let line = line_read (read_first text) text in
    let body = body_read (read_first text) text in
    let c = command_at s line body in
    AppliedTwo false s b line body (phase_received s.screen c) (text_of (at_once s.screen c)) out (outcome s b (receive_two text out))
AcceptedBy s b (reply r body out) = Answered s b r (response_line r) body (stanza_text (response_line r) body) out (outcome s b (reply r body out))
AcceptedBy s b (send_two word arguments body out) =
    let line = two_command.line_sent word arguments in
    AppliedTwo true s b line body (phase_sent (command_at s line body)) (stanza_text line body) out (outcome s b (send_two word arguments body out))
AcceptedBy s b (respond text out) =
    let line = line_read (read_first text) text in
    let body = body_read (read_first text) text in
    (r : Response) × Answered s b r line body body out (outcome s b (respond text out))

-- ---- tests that give 0

-- reading never refuses with 0
read_number : (m : ℕ) (w : List ℕ) (x : Scan) → found m w x ≡ refused 0 → ⊥
unfolding found
read_number m w bad h = let z : ◌≡◌ {A = ℕ} 0 1 = cc in omega arith
read_number m w short h = number (ltb m 8192) h
  where
    number : (f : Bool) → pick f (refused 2) (refused 3) ≡ refused 0 → ⊥
    number true h = let z : ◌≡◌ {A = ℕ} 0 2 = cc in omega arith
    number false h = let z : ◌≡◌ {A = ℕ} 0 3 = cc in omega arith
read_number m w (whole k) h = let z : ◌≡◌ {A = ℕ} 0 1 = cc in omega arith

pub text_number_lem : (text : List ℕ) (n : ℕ) → read_first text ≡ refused n → n ≡ 0 → ⊥
text_number_lem text n q h = read_number (length text) (take 8192 text) (scan start 0 (take 8192 text)) (q ∙ ap refused h)

-- No. 17 is not given, and then no fault is found
sent_number_lem : (f : Bool) (n : ℕ) → pick f n 17 ≡ 0 → (f ≡ true) × (n ≡ 0)
sent_number_lem true n h = (refl, h)
sent_number_lem false n h = absurd (omega arith)

-- neither No. 12 nor No. 17 is given
reply_number : (f g : Bool) → ◌≡◌ {A = ℕ} (pick f (pick g 0 17) 12) 0 → (f ≡ true) × (g ≡ true)
reply_number true true h = (refl, refl)
reply_number true false h = absurd (omega arith)
reply_number false g h = absurd (omega arith)

-- No. 12 is not given
fit_number : (f : Bool) → ◌≡◌ {A = ℕ} (pick f 0 12) 0 → f ≡ true
fit_number true h = refl
fit_number false h = absurd (omega arith)

line_of : (line body : List ℕ) → is_writable line body ≡ true → is_line line ≡ true
line_of line body w = (and_true (is_line line) (leb (length (stanza_text line body)) 8192) w).0

-- a conditional whose result has the number 0: the branch that may have it
pub branch : {X : Type 0} (P : X → Type 0) (number : X → ℕ) (f : Bool) (x y : X) →
    (f ≡ true → number x ≡ 0 → P x) → (f ≡ false → number y ≡ 0 → ⊥) → number (pick f x y) ≡ 0 → P (pick f x y)
branch P number true x y p q h = p refl h
branch P number false x y p q h = absurd (q refl h)

-- ---- phase one

-- the rows that a command of phase one adds to a kind's table
pub applied_rows : (s : Session) (b : one.BuffersOne) (line body : List ℕ) (after : Session) (buffers-after : one.BuffersOne) → Applied s b line body after buffers-after → Reached s.tables → (k : one_kind.KindOne) →
    one_kind.view_of k after.tables buffers-after ≡ one_kind.view_of k s.tables b ++ one_kind.rows_of (command_in s.machine s.name line body) k (payload_in s.machine s.name line body)
applied_rows s b line body after buffers-after a r k =
    ap₂ (one_kind.view_of k) (ap (λ x. x.tables) a.session) a.buffers
    ∙ applied_view s.tables b (payload_in s.machine s.name line body) r (command_in s.machine s.name line body) a.faultless k

-- what one command's tables and buffers are, where its number is 0; `late` as in `number_one`
pub one_applied : (s : Session) (b : one.BuffersOne) (late : ℕ) (line body : List ℕ) → s.phase ≡ One → is_line line ≡ true → eqb (number_one s.machine s.name s.tables b late line body) 0 ≡ true →
    Applied s b line body (moved s (phase_after (command_in s.machine s.name line body)) (tables_one s.machine s.name s.tables b late line body)) (buffers_one s.machine s.name s.tables b late line body)
one_applied s b late line body o a h =
    let z = eqb-true (number_one s.machine s.name s.tables b late line body) 0 h in
    let c = command_in s.machine s.name line body in
    let w = accepted_one s.machine s.name s.tables b late line body c refl z in
    record {
      turn = o;
      argued = a;
      faultless = first_zero (one.decided s.tables b c (payload_in s.machine s.name line body)) late z;
      session = ap (moved s (phase_after c)) (sym w.0);
      buffers = sym w.1;
    }

module _ (s : Session) (b : Buffers) where
  -- what is received
  abbrev ReceivedOne : List ℕ → List ℕ → receiving.Received → Type 0
  ReceivedOne line body r = AppliedOne s b line body [] [] (received_outcome b.second r)

  abbrev number_received : receiving.Received → ℕ
  number_received r = taking_number r.answer

  stanza_one : (line body : List ℕ) (k : ℕ) → s.phase ≡ One → is_writable line body ≡ true → number_received (receiving.received_stanza s b.first line body k) ≡ 0 →
      ReceivedOne line body (receiving.received_stanza s b.first line body k)
  unfolding receiving.received_stanza
  stanza_one line body k o w =
      let n = number_one s.machine s.name s.tables b.first 0 line body in
      branch (ReceivedOne line body) number_received (eqb n 0) _ _
      (λ f h. record {
        applied = one_applied s b.first 0 line body o (line_of line body w) f;
        writable = w;
        second = refl;
        written = record { fits = refl; output = refl; size = refl };
      })
      (λ f. eqb-false n 0 f)

  as_one : (text : List ℕ) (r : Reading) → s.phase ≡ One → read_first text ≡ r → number_received (receiving.received_as r s text b.first) ≡ 0 →
      ReceivedOne (line_read r text) (body_read r text) (receiving.received_as r s text b.first)
  as_one text (stanza e n k) o q h = stanza_one (line_read (stanza e n k) text) (body_read (stanza e n k) text) k o (written_read text e n k q).writable h
  as_one text (refused n) o q h = absurd (text_number_lem text n q h)

  received_one : (text : List ℕ) → number_received (receiving.received s text b.first) ≡ 0 →
      ReceivedOne (line_read (read_first text) text) (body_read (read_first text) text) (receiving.received s text b.first)
  unfolding receiving.received
  received_one text =
      branch (ReceivedOne (line_read (read_first text) text) (body_read (read_first text) text)) number_received (eqb (turn_one s.phase) 0) _ _
      (λ f. as_one text (read_first text) (turn_first s.phase (eqb-true (turn_one s.phase) 0 f)) refl) (λ f. eqb-false (turn_one s.phase) 0 f)

  -- what is sent
  abbrev SentOne : List ℕ → List ℕ → List ℕ → sending.Sent → Type 0
  SentOne line body out r = AppliedOne s b line body (stanza_text line body) out (sent_outcome b.second r)

  abbrev number_sent : sending.Sent → ℕ
  number_sent r = sent_number r.answer

  line_one : (line body out : List ℕ) → s.phase ≡ One → number_sent (sending.sent_line s b.first line body out) ≡ 0 → SentOne line body out (sending.sent_line s b.first line body out)
  unfolding sending.sent_stanza
  line_one line body out o =
      let text = stanza_text line body in
      let late = shortness text out in
      let n = number_one s.machine s.name s.tables b.first late line body in
      by_writable (λ r. number_sent r ≡ 0 → SentOne line body out r) s b.first line body out
      (λ w. branch (SentOne line body out) number_sent (eqb n 0) _ _
      (λ f h. record {
        applied = one_applied s b.first late line body o (line_of line body w) f;
        writable = w;
        second = refl;
        written = record {
          fits = short_none (overflows text out) ((first_iff (one.decided s.tables b.first (command_in s.machine s.name line body) (payload_in s.machine s.name line body)) late).0 (eqb-true n 0 f)).1;
          output = refl;
          size = refl;
        };
      })
      (λ f. eqb-false n 0 f))
      (λ w h. absurd (omega arith))

  sent_one : (word : WordOne) (arguments body out : List ℕ) → number_sent (sending.sent s word arguments body b.first out) ≡ 0 →
      SentOne (one_command.line_sent word arguments) body out (sending.sent s word arguments body b.first out)
  unfolding sending.sent
  sent_one word arguments body out =
      branch (SentOne (one_command.line_sent word arguments) body out) number_sent (eqb (turn_one s.phase) 0) _ _
      (λ f. line_one (one_command.line_sent word arguments) body out (turn_first s.phase (eqb-true (turn_one s.phase) 0 f))) (λ f. eqb-false (turn_one s.phase) 0 f)

-- ---- phase two: commands

module _ (s : Session) (b : Buffers) where
  -- what is received
  abbrev ReceivedTwo : List ℕ → List ℕ → List ℕ → receiving_two.Received → Type 0
  ReceivedTwo line body out r = AppliedTwo false s b line body (phase_received s.screen (command_at s line body)) (text_of (at_once s.screen (command_at s line body))) out (received_two_outcome b.first r)

  abbrev number_received_two : receiving_two.Received → ℕ
  number_received_two r = taking_two_number r.answer

  stanza_two : (line body out : List ℕ) (k : ℕ) → s.phase ≡ Two → is_writable line body ≡ true → number_received_two (receiving_two.received_stanza s b.second out line body k) ≡ 0 →
      ReceivedTwo line body out (receiving_two.received_stanza s b.second out line body k)
  unfolding receiving_two.received_stanza
  stanza_two line body out k o w =
      let n = receiving_two.number_received s b.second line body in
      let text = text_of (at_once s.screen (command_at s line body)) in
      let z = first_of n (shortness text out) in
      branch (ReceivedTwo line body out) number_received_two (eqb z 0) _ _
      (λ f h. record {
        turn = o;
        argued = line_of line body w;
        writable = w;
        faultless = first_zero n (shortness text out) (eqb-true z 0 f);
        session = refl;
        buffers = refl;
        written = record { fits = short_none (overflows text out) ((first_iff n (shortness text out)).0 (eqb-true z 0 f)).1; output = refl; size = refl };
      })
      (λ f. eqb-false z 0 f)

  as_two : (text out : List ℕ) (r : Reading) → s.phase ≡ Two → read_first text ≡ r → number_received_two (receiving_two.received_as r s text b.second out) ≡ 0 →
      ReceivedTwo (line_read r text) (body_read r text) out (receiving_two.received_as r s text b.second out)
  as_two text out (stanza e n k) o q h = stanza_two (line_read (stanza e n k) text) (body_read (stanza e n k) text) out k o (written_read text e n k q).writable h
  as_two text out (refused n) o q h = absurd (text_number_lem text n q h)

  received_two : (text out : List ℕ) → number_received_two (receiving_two.received s text b.second out) ≡ 0 →
      ReceivedTwo (line_read (read_first text) text) (body_read (read_first text) text) out (receiving_two.received s text b.second out)
  unfolding receiving_two.received
  received_two text out =
      branch (ReceivedTwo (line_read (read_first text) text) (body_read (read_first text) text) out) number_received_two (eqb (turn_two s.phase) 0) _ _
      (λ f. as_two text out (read_first text) (turn_second s.phase (eqb-true (turn_two s.phase) 0 f)) refl) (λ f. eqb-false (turn_two s.phase) 0 f)

  -- what is sent
  abbrev SentTwo : List ℕ → List ℕ → List ℕ → sending_two.Sent → Type 0
  SentTwo line body out r = AppliedTwo true s b line body (phase_sent (command_at s line body)) (stanza_text line body) out (sent_two_outcome b.first r)

  abbrev number_sent_two : sending_two.Sent → ℕ
  number_sent_two r = sent_number r.answer

  line_two : (line body out : List ℕ) → s.phase ≡ Two → number_sent_two (sending_two.sent_line s b.second line body out) ≡ 0 → SentTwo line body out (sending_two.sent_line s b.second line body out)
  unfolding sending_two.sent_line
  line_two line body out o =
      let text = stanza_text line body in
      let n = sending_two.number_sent s b.second line body in
      let z = first_of n (shortness text out) in
      branch (SentTwo line body out) number_sent_two (eqb z 0) _ _
      (λ f h.
      let w = sent_number_lem (is_writable line body) (two.decided true s.tables b.second (command_at s line body) (length (payload_at s line body))) (first_zero n (shortness text out) (eqb-true z 0 f)) in
      record {
        turn = o;
        argued = line_of line body w.0;
        writable = w.0;
        faultless = w.1;
        session = refl;
        buffers = refl;
        written = record { fits = short_none (overflows text out) ((first_iff n (shortness text out)).0 (eqb-true z 0 f)).1; output = refl; size = refl };
      })
      (λ f. eqb-false z 0 f)

  sent_two : (word : WordTwo) (arguments body out : List ℕ) → number_sent_two (sending_two.sent s word arguments body b.second out) ≡ 0 →
      SentTwo (two_command.line_sent word arguments) body out (sending_two.sent s word arguments body b.second out)
  unfolding sending_two.sent
  sent_two word arguments body out =
      branch (SentTwo (two_command.line_sent word arguments) body out) number_sent_two (eqb (turn_two s.phase) 0) _ _
      (λ f. line_two (two_command.line_sent word arguments) body out (turn_second s.phase (eqb-true (turn_two s.phase) 0 f))) (λ f. eqb-false (turn_two s.phase) 0 f)

-- ---- phase two: answers

module _ (s : Session) (b : Buffers) where
  -- a host's reply
  abbrev Replied : Response → List ℕ → List ℕ → replying.Replied → Type 0
  Replied r body out x = Answered s b r (response_line r) body (stanza_text (response_line r) body) out (replied_outcome b x)

  abbrev number_of_reply : replying.Replied → ℕ
  number_of_reply x = sent_number x.answer

  reply_to : (w : WordTwo) (r : Response) (body out : List ℕ) → s.phase ≡ Awaiting w → number_of_reply (replying.replied_to w s r body out) ≡ 0 → Replied r body out (replying.replied_to w s r body out)
  unfolding replying.replied_to
  reply_to w r body out o =
      let text = stanza_text (response_line r) body in
      let n = replying.number_replied w r body in
      let z = first_of n (shortness text out) in
      branch (Replied r body out) number_of_reply (eqb z 0) _ _
      (λ f h.
      let g = reply_number (fits_whole w r body) (is_writable (response_line r) body) (first_zero n (shortness text out) (eqb-true z 0 f)) in
      record {
        awaited = w;
        turn = o;
        writable = g.1;
        named = read_line r;
        fitting = g.0;
        session = refl;
        buffers = refl;
        written = record { fits = short_none (overflows text out) ((first_iff n (shortness text out)).0 (eqb-true z 0 f)).1; output = refl; size = refl };
      })
      (λ f. eqb-false z 0 f)

  replied_in : (p : Phase) (r : Response) (body out : List ℕ) → s.phase ≡ p → number_of_reply (replying.replied_by (due_in p) s r body out) ≡ 0 → Replied r body out (replying.replied_by (due_in p) s r body out)
  replied_in One r body out o h = absurd (omega arith)
  replied_in Two r body out o h = absurd (omega arith)
  replied_in (Awaiting w) r body out o h = reply_to w r body out o h
  replied_in Ended r body out o h = absurd (omega arith)
  replied_in Closed r body out o h = absurd (omega arith)

  -- a response
  abbrev Responded : List ℕ → List ℕ → List ℕ → responding.Responded → Type 0
  Responded line body out x = (r : Response) × Answered s b r line body body out (responded_outcome b x)

  abbrev number_of_response : responding.Responded → ℕ
  number_of_response x = responded_number x.answer

  respond_as : (w : WordTwo) (q : ResponseRead) (line body out : List ℕ) (k : ℕ) → s.phase ≡ Awaiting w → is_writable line body ≡ true → response_of line ≡ q →
      number_of_response (responding.responded_as w s q body k out) ≡ 0 → Responded line body out (responding.responded_as w s q body k out)
  unfolding responding.responded_as
  respond_as w nothing line body out k o l e = λ h. absurd (omega arith)
  respond_as w (response r) line body out k o l e =
      let n : ℕ = pick (fits_whole w r body) 0 12 in
      let z = first_of n (shortness body out) in
      branch (Responded line body out) number_of_response (eqb z 0) _ _
      (λ f h. (
        r,
        record {
          awaited = w;
          turn = o;
          writable = l;
          named = e;
          fitting = fit_number (fits_whole w r body) (first_zero n (shortness body out) (eqb-true z 0 f));
          session = refl;
          buffers = refl;
          written = record { fits = short_none (overflows body out) ((first_iff n (shortness body out)).0 (eqb-true z 0 f)).1; output = refl; size = refl };
        },
      ))
      (λ f. eqb-false z 0 f)

  respond_text : (w : WordTwo) (text out : List ℕ) (q : Reading) → s.phase ≡ Awaiting w → read_first text ≡ q →
      number_of_response (responding.responded_text q w s text out) ≡ 0 → Responded (line_read q text) (body_read q text) out (responding.responded_text q w s text out)
  respond_text w text out (stanza e n k) o q h =
      respond_as w (response_of (line_read (stanza e n k) text)) (line_read (stanza e n k) text) (body_read (stanza e n k) text) out k o (written_read text e n k q).writable refl h
  respond_text w text out (refused n) o q h = absurd (text_number_lem text n q h)

  responded_in : (p : Phase) (text out : List ℕ) → s.phase ≡ p → number_of_response (responding.responded_by (due_in p) s text out) ≡ 0 →
      Responded (line_read (read_first text) text) (body_read (read_first text) text) out (responding.responded_by (due_in p) s text out)
  responded_in One text out o h = absurd (omega arith)
  responded_in Two text out o h = absurd (omega arith)
  responded_in (Awaiting w) text out o h = respond_text w text out (read_first text) o refl h
  responded_in Ended text out o h = absurd (omega arith)
  responded_in Closed text out o h = absurd (omega arith)

-- ---- any call

-- an accepted call does what its record says
pub accepted : (s : Session) (b : Buffers) (c : Call) → (outcome s b c).number ≡ 0 → AcceptedBy s b c
accepted s b (receive text) h = received_one s b text h
accepted s b (send word arguments body out) h = sent_one s b word arguments body out h
accepted s b (receive_two text out) h = received_two s b text out h
accepted s b (reply r body out) h = replied_in s b s.phase r body out refl h
accepted s b (send_two word arguments body out) h = sent_two s b word arguments body out h
accepted s b (respond text out) h = responded_in s b s.phase text out refl h
