-- What a refused call leaves: the session as document 01's column says, and all else as it was. For every session value, also one that no call could have made.
use Prim.Native.Nat.{ℕ}
use mathlib.Core.Path.{◌≡◌, refl, ap, ◌∙◌}
use mathlib.Core.Bool.{Bool, true, false}
use mathlib.Core.List.{List}
use lib.Dec.{eqb}
use Rattle.refusal.specs.Pick.{pick}
use Rattle.stanza.specs.Grammar.{stanza_text}
use Rattle.stanza.specs.Reading.{Reading, stanza, refused, read_first}
use Rattle.responses.specs.Responses.{ResponseRead, response, nothing, response_line, fits_whole}
use Rattle.responses.specs.declared.Response.{Response}
use Rattle.session.specs.declared.words.WordTwo.{WordTwo}
use Rattle.phase_one.specs.Commands as one_command
use Rattle.phase_one.specs.Commands.{WordOne}
use Rattle.phase_one.specs.PhaseOne as one
use Rattle.refusal.specs.Verdict.{first_of}
use Rattle.phase_one.specs.Turns.{turn_one}
use Rattle.session.specs.Phases.{closes}
use Rattle.session.specs.declared.phases.Phase.{Phase}
use Rattle.session.specs.declared.phases.Phase.TheVariants.{One, Two, Awaiting, Ended, Closed}
use Rattle.session.specs.Session.{Session, closed}
use Rattle.conversation.specs.Kinds.{Buffers, buffers_of}
use Rattle.conversation.specs.CommandsTwo as two_command
use Rattle.conversation.specs.PhaseTwo as two
use Rattle.conversation.specs.TurnsTwo.{turn_two, due_in}
use Rattle.conversation.specs.Receiving as receiving
use Rattle.conversation.specs.Sending as sending
use Rattle.conversation.specs.Sending.{shortness}
use Rattle.conversation.specs.ReceivingTwo as receiving_two
use Rattle.conversation.specs.Replying as replying
use Rattle.conversation.specs.SendingTwo as sending_two
use Rattle.conversation.specs.Responding as responding
use Rattle.conversation.specs.Calls.{Call, receive, send, receive_two, reply, send_two, respond, taking_number, sent_number, sent_size, taking_two_number, taking_two_size, responded_number, responded_size, outcome, Refused}
use Rattle.conversation.proofs.Laws.Sending.{by_writable}

-- either branch of a conditional
pub either : {X : Type 0} (P : X → Type 0) (f : Bool) (x y : X) → P x → P y → P (pick f x y)
either P true x y p q = p
either P false x y p q = q

-- a result is accepted, or it is what a refusal with its number leaves
abbrev Left : {X : Type 0} → (X → ℕ) → (ℕ → X) → X → Type 0
Left number left x = (number x ≡ 0 → ⊥) → x ≡ left (number x)

module _ (s : Session) where
  -- phase one, received
  module _ (b : one.BuffersOne) where
    abbrev LeftReceived : receiving.Received → Type 0
    LeftReceived = Left (λ r. taking_number r.answer) (λ n. receiving.refused_receipt n s b)

    stanza_left : (line body : List ℕ) (k : ℕ) → LeftReceived (receiving.received_stanza s b line body k)
    unfolding receiving.received_stanza
    stanza_left line body k = either LeftReceived (eqb (one.number_one s.machine s.name s.tables b 0 line body) 0) _ _ (λ h. absurd (h refl)) (λ h. refl)

    as_left : (r : Reading) (text : List ℕ) → LeftReceived (receiving.received_as r s text b)
    as_left (stanza e n k) text = stanza_left _ _ k
    as_left (refused n) text = λ h. refl

    received_left : (text : List ℕ) → LeftReceived (receiving.received s text b)
    unfolding receiving.received
    received_left text = either LeftReceived (eqb (turn_one s.phase) 0) _ _ (as_left (read_first text) text) (λ h. refl)

    -- .. and sent
    module _ (out : List ℕ) where
      abbrev LeftSent : sending.Sent → Type 0
      LeftSent = Left (λ r. sent_number r.answer) (λ n. sending.refused_sending n s b out)

      sent_stanza_left : (line body : List ℕ) → LeftSent (sending.sent_stanza s b line body out)
      unfolding sending.sent_stanza
      sent_stanza_left line body = either LeftSent (eqb (one.number_one s.machine s.name s.tables b (shortness (stanza_text line body) out) line body) 0) _ _ (λ h. absurd (h refl)) (λ h. refl)

      sent_left : (word : WordOne) (arguments body : List ℕ) → LeftSent (sending.sent s word arguments body b out)
      unfolding sending.sent
      sent_left word arguments body =
          either LeftSent (eqb (turn_one s.phase) 0) _ _
          (by_writable LeftSent s b (one_command.line_sent word arguments) body out (λ w. sent_stanza_left (one_command.line_sent word arguments) body) (λ w h. refl)) (λ h. refl)

  -- phase two, commands: received
  module _ (b : two.BuffersTwo) (out : List ℕ) where
    abbrev LeftReceivedTwo : receiving_two.Received → Type 0
    LeftReceivedTwo = Left (λ r. taking_two_number r.answer) (λ n. receiving_two.refused_receipt n s b out)

    stanza_two_left : (line body : List ℕ) (k : ℕ) → LeftReceivedTwo (receiving_two.received_stanza s b out line body k)
    unfolding receiving_two.received_stanza
    stanza_two_left line body k =
        let text = receiving_two.text_of (receiving_two.at_once s.screen (two_command.command_two s.machine line body)) in
        either LeftReceivedTwo (eqb (first_of (receiving_two.number_received s b line body) (shortness text out)) 0) _ _ (λ h. absurd (h refl)) (λ h. refl)

    as_two_left : (r : Reading) (text : List ℕ) → LeftReceivedTwo (receiving_two.received_as r s text b out)
    as_two_left (stanza e n k) text = stanza_two_left _ _ k
    as_two_left (refused n) text = λ h. refl

    received_two_left : (text : List ℕ) → LeftReceivedTwo (receiving_two.received s text b out)
    unfolding receiving_two.received
    received_two_left text = either LeftReceivedTwo (eqb (turn_two s.phase) 0) _ _ (as_two_left (read_first text) text) (λ h. refl)

    -- .. and sent
    abbrev LeftSentTwo : sending_two.Sent → Type 0
    LeftSentTwo = Left (λ r. sent_number r.answer) (λ n. sending_two.refused_sending n s b out)

    sent_line_left : (line body : List ℕ) → LeftSentTwo (sending_two.sent_line s b line body out)
    unfolding sending_two.sent_line
    sent_line_left line body = either LeftSentTwo (eqb (first_of (sending_two.number_sent s b line body) (shortness (stanza_text line body) out)) 0) _ _ (λ h. absurd (h refl)) (λ h. refl)

    sent_two_left : (word : WordTwo) (arguments body : List ℕ) → LeftSentTwo (sending_two.sent s word arguments body b out)
    unfolding sending_two.sent
    sent_two_left word arguments body = either LeftSentTwo (eqb (turn_two s.phase) 0) _ _ (sent_line_left (two_command.line_sent word arguments) body) (λ h. refl)

  -- phase two, answers: a host's reply
  module _ (out : List ℕ) where
    abbrev LeftReplied : replying.Replied → Type 0
    LeftReplied = Left (λ r. sent_number r.answer) (λ n. replying.refused_reply n s out)

    reply_to_left : (w : WordTwo) (r : Response) (body : List ℕ) → LeftReplied (replying.replied_to w s r body out)
    unfolding replying.replied_to
    reply_to_left w r body = either LeftReplied (eqb (first_of (replying.number_replied w r body) (shortness (stanza_text (response_line r) body) out)) 0) _ _ (λ h. absurd (h refl)) (λ h. refl)

    replied_left : (p : Phase) (r : Response) (body : List ℕ) → LeftReplied (replying.replied_by (due_in p) s r body out)
    replied_left One r body = λ h. refl
    replied_left Two r body = λ h. refl
    replied_left (Awaiting w) r body = reply_to_left w r body
    replied_left Ended r body = λ h. refl
    replied_left Closed r body = λ h. refl

    -- .. and a response received
    abbrev LeftResponded : responding.Responded → Type 0
    LeftResponded = Left (λ r. responded_number r.answer) (λ n. responding.refused_response n s out)

    response_left : (w : WordTwo) (r : ResponseRead) (body : List ℕ) (k : ℕ) → LeftResponded (responding.responded_as w s r body k out)
    unfolding responding.responded_as
    response_left w nothing body k = λ h. refl
    response_left w (response r) body k = either LeftResponded (eqb (first_of (pick (fits_whole w r body) 0 12) (shortness body out)) 0) _ _ (λ h. absurd (h refl)) (λ h. refl)

    response_text_left : (q : Reading) (w : WordTwo) (text : List ℕ) → LeftResponded (responding.responded_text q w s text out)
    response_text_left (stanza e n k) w text = response_left w _ _ k
    response_text_left (refused n) w text = λ h. refl

    responded_left : (p : Phase) (text : List ℕ) → LeftResponded (responding.responded_by (due_in p) s text out)
    responded_left One text = λ h. refl
    responded_left Two text = λ h. refl
    responded_left (Awaiting w) text = response_text_left (read_first text) w text
    responded_left Ended text = λ h. refl
    responded_left Closed text = λ h. refl

  closed_tables : (f : Bool) → (pick f (closed s) s).tables ≡ s.tables
  closed_tables true = refl
  closed_tables false = refl

-- a refused call leaves the session as document 01's column says, and tables, buffers and output buffer as they were
pub refusal : (s : Session) (b : Buffers) (c : Call) → ((outcome s b c).number ≡ 0 → ⊥) → Refused s b c
refusal s b (receive text) h =
    let e = received_left s b.first text h in
    record {
      session = ap (λ r. r.session) e;
      tables = ap (λ r. r.session.tables) e ∙ closed_tables s (closes (outcome s b (receive text)).number);
      buffers = ap (λ r. buffers_of r.buffers b.second) e;
      output = refl;
      size = refl;
    }
refusal s b (send word arguments body out) h =
    let e = sent_left s b.first out word arguments body h in
    record {
      session = ap (λ r. r.session) e;
      tables = ap (λ r. r.session.tables) e;
      buffers = ap (λ r. buffers_of r.buffers b.second) e;
      output = ap (λ r. r.output) e;
      size = ap (λ r. sent_size r.answer) e;
    }
refusal s b (receive_two text out) h =
    let e = received_two_left s b.second out text h in
    record {
      session = ap (λ r. r.session) e;
      tables = ap (λ r. r.session.tables) e ∙ closed_tables s (closes (outcome s b (receive_two text out)).number);
      buffers = ap (λ r. buffers_of b.first r.buffers) e;
      output = ap (λ r. r.output) e;
      size = ap (λ r. taking_two_size r.answer) e;
    }
refusal s b (reply r body out) h =
    let e = replied_left s out s.phase r body h in
    record {
      session = ap (λ r. r.session) e;
      tables = ap (λ r. r.session.tables) e;
      buffers = refl;
      output = ap (λ r. r.output) e;
      size = ap (λ r. sent_size r.answer) e;
    }
refusal s b (send_two word arguments body out) h =
    let e = sent_two_left s b.second out word arguments body h in
    record {
      session = ap (λ r. r.session) e;
      tables = ap (λ r. r.session.tables) e;
      buffers = ap (λ r. buffers_of b.first r.buffers) e;
      output = ap (λ r. r.output) e;
      size = ap (λ r. sent_size r.answer) e;
    }
refusal s b (respond text out) h =
    let e = responded_left s out s.phase text h in
    record {
      session = ap (λ r. r.session) e;
      tables = ap (λ r. r.session.tables) e ∙ closed_tables s (closes (outcome s b (respond text out)).number);
      buffers = refl;
      output = ap (λ r. r.output) e;
      size = ap (λ r. responded_size r.answer) e;
    }
