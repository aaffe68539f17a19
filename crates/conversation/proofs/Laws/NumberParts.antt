-- The number that each call gives, as the first of its parts' faults: turn, reading or writing, decision, output. For every session value.
use Prim.Native.Nat.{ℕ}
use mathlib.Core.Path.{◌≡◌, refl, sym, ap, ◌∙◌}
use mathlib.Core.Bool.{Bool, true, false}
use mathlib.Core.List.{List}
use lib.Dec.{eqb}
use lib.ListN.{length}
use borrow.Author.Tests.{eqb-true}
use Rattle.refusal.specs.Pick.{pick}
use Rattle.refusal.specs.Verdict.{first_of}
use Rattle.refusal.proofs.Laws.Booleans.{cases}
use Rattle.stanza.specs.Grammar.{stanza_text}
use Rattle.stanza.specs.Reading.{Reading, stanza, refused, read_first}
use Rattle.stanza.specs.Writing.{is_writable}
use Rattle.responses.specs.Responses.{ResponseRead, response, nothing, response_of, response_line, fits_whole}
use Rattle.responses.specs.declared.Response.{Response}
use Rattle.session.specs.Session.{Session}
use Rattle.session.specs.declared.words.WordTwo.{WordTwo}
use Rattle.phase_one.specs.Commands as one_command
use Rattle.phase_one.specs.Commands.{WordOne}
use Rattle.phase_one.specs.PhaseOne as one
use Rattle.phase_one.specs.Turns.{turn_one}
use Rattle.conversation.specs.Kinds.{Buffers}
use Rattle.conversation.specs.CommandsTwo.{command_two, payload_of, line_sent}
use Rattle.conversation.specs.PhaseTwo as two
use Rattle.conversation.specs.TurnsTwo.{Due, due, undue, turn_two, due_in}
use Rattle.conversation.specs.Receiving as receiving
use Rattle.conversation.specs.Sending as sending
use Rattle.conversation.specs.Sending.{shortness}
use Rattle.conversation.specs.ReceivingTwo as receiving_two
use Rattle.conversation.specs.ReceivingTwo.{text_of, at_once}
use Rattle.conversation.specs.Replying as replying
use Rattle.conversation.specs.Replying.{number_replied}
use Rattle.conversation.specs.SendingTwo as sending_two
use Rattle.conversation.specs.Responding as responding
use Rattle.conversation.specs.Calls.{receive, send, receive_two, reply, send_two, respond, taking_number, sent_number, taking_two_number, responded_number, outcome, line_read, body_read}
use Rattle.conversation.specs.Phases.{line_in, body_in}
use Rattle.conversation.proofs.Laws.Sending.{by_writable}

-- 1 to 3, or what follows
abbrev pub as_read : Reading → ℕ → ℕ
as_read (stanza e n k) late = late
as_read (refused n) late = n

-- a conditional on a number: what follows, or the number
first_picked : {X : Type 0} (number : X → ℕ) (n : ℕ) (x y : X) → number y ≡ n → number (pick (eqb n 0) x y) ≡ first_of n (number x)
first_picked number n x y h = go (eqb n 0)
  where
    go : (f : Bool) → number (pick f x y) ≡ pick f (number x) n
    go true = refl
    go false = h

-- .. where what follows is accepted
picked : {X : Type 0} (number : X → ℕ) (n : ℕ) (x y : X) → number x ≡ 0 → number y ≡ n → number (pick (eqb n 0) x y) ≡ n
picked number n x y z h = cases (eqb n 0) (λ e. rw e (z ∙ sym (eqb-true n 0 e))) (λ e. rw e h)

module _ (s : Session) (b : Buffers) where
  -- the decision of phase one; of phase two, `own` at the plugin's sending
  abbrev pub decided_one : List ℕ → List ℕ → ℕ
  decided_one line body = one.decided s.tables b.first (one.command_in s.machine s.name line body) (one.payload_in s.machine s.name line body)

  abbrev pub decided_two : Bool → List ℕ → List ℕ → ℕ
  decided_two own line body = let c = command_two s.machine line body in two.decided own s.tables b.second c (length (payload_of c line body))

  -- ---- phase one

  module _ (text : List ℕ) where
    read_one : (q : Reading) → taking_number (receiving.received_as q s text b.first).answer ≡ as_read q (first_of (decided_one (line_read q text) (body_read q text)) 0)
    unfolding receiving.received_stanza
    read_one (stanza e n k) =
        picked (λ (r : receiving.Received). taking_number r.answer) (one.number_one s.machine s.name s.tables b.first 0 (line_read (stanza e n k) text) (body_read (stanza e n k) text)) _ _ refl refl
    read_one (refused n) = refl

    pub given_receive : (outcome s b (receive text)).number ≡ first_of (turn_one s.phase) (as_read (read_first text) (first_of (decided_one (line_in text) (body_in text)) 0))
    unfolding receiving.received
    given_receive = first_picked (λ (r : receiving.Received). taking_number r.answer) (turn_one s.phase) _ _ refl ∙ ap (first_of (turn_one s.phase)) (read_one (read_first text))

  module _ (word : WordOne) (arguments body out : List ℕ) where
    abbrev line : List ℕ
    line = one_command.line_sent word arguments

    line_sent_lem : sent_number (sending.sent_line s b.first line body out).answer ≡ pick (is_writable line body) (first_of (decided_one line body) (shortness (stanza_text line body) out)) 17
    unfolding sending.sent_stanza
    line_sent_lem =
        by_writable (λ r. sent_number r.answer ≡ pick (is_writable line body) (first_of (decided_one line body) (shortness (stanza_text line body) out)) 17) s b.first line body out
        (λ w. rw w (picked (λ (r : sending.Sent). sent_number r.answer) (first_of (decided_one line body) (shortness (stanza_text line body) out)) _ _ refl refl)) (λ w. rw w)

    pub given_send : (outcome s b (send word arguments body out)).number ≡
        first_of (turn_one s.phase) (pick (is_writable line body) (first_of (decided_one line body) (shortness (stanza_text line body) out)) 17)
    unfolding sending.sent
    given_send = first_picked (λ (r : sending.Sent). sent_number r.answer) (turn_one s.phase) _ _ refl ∙ ap (first_of (turn_one s.phase)) line_sent_lem

  -- ---- phase two, commands

  -- what the client writes at once
  abbrev pub at_once_text : List ℕ → List ℕ → List ℕ
  at_once_text line body = text_of (at_once s.screen (command_two s.machine line body))

  module _ (text out : List ℕ) where
    read_two : (q : Reading) → taking_two_number (receiving_two.received_as q s text b.second out).answer ≡
        as_read q (first_of (decided_two false (line_read q text) (body_read q text)) (shortness (at_once_text (line_read q text) (body_read q text)) out))
    unfolding receiving_two.received_stanza
    read_two (stanza e n k) =
        let line = line_read (stanza e n k) text in
        let body = body_read (stanza e n k) text in
        picked (λ (r : receiving_two.Received). taking_two_number r.answer) (first_of (decided_two false line body) (shortness (at_once_text line body) out)) _ _ refl refl
    read_two (refused n) = refl

    pub given_receive_two : (outcome s b (receive_two text out)).number ≡
        first_of (turn_two s.phase) (as_read (read_first text) (first_of (decided_two false (line_in text) (body_in text)) (shortness (at_once_text (line_in text) (body_in text)) out)))
    unfolding receiving_two.received
    given_receive_two = first_picked (λ (r : receiving_two.Received). taking_two_number r.answer) (turn_two s.phase) _ _ refl ∙ ap (first_of (turn_two s.phase)) (read_two (read_first text))

  module _ (word : WordTwo) (arguments body out : List ℕ) where
    pub given_send_two : (outcome s b (send_two word arguments body out)).number ≡
        first_of (turn_two s.phase) (first_of (pick (is_writable (line_sent word arguments) body) (decided_two true (line_sent word arguments) body) 17) (shortness (stanza_text (line_sent word arguments) body) out))
    unfolding sending_two.sent sending_two.sent_line
    given_send_two =
        first_picked (λ (r : sending_two.Sent). sent_number r.answer) (turn_two s.phase) _ _ refl
        ∙ ap (first_of (turn_two s.phase))
        (picked (λ (r : sending_two.Sent). sent_number r.answer) (first_of (pick (is_writable (line_sent word arguments) body) (decided_two true (line_sent word arguments) body) 17) (shortness (stanza_text (line_sent word arguments) body) out)) _ _ refl refl)

  -- ---- answers: by whether one is due

  abbrev pub by_due : Due → (WordTwo → ℕ) → ℕ
  by_due (due w) late = late w
  by_due (undue n) late = n

  module _ (r : Response) (body out : List ℕ) where
    pub given_reply : (outcome s b (reply r body out)).number ≡ by_due (due_in s.phase) (λ w. first_of (number_replied w r body) (shortness (stanza_text (response_line r) body) out))
    given_reply = go (due_in s.phase)
      where
        to : (w : WordTwo) → sent_number (replying.replied_to w s r body out).answer ≡ first_of (number_replied w r body) (shortness (stanza_text (response_line r) body) out)
        to w = unfold replying.replied_to in picked (λ (x : replying.Replied). sent_number x.answer) (first_of (number_replied w r body) (shortness (stanza_text (response_line r) body) out)) _ _ refl refl

        go : (d : Due) → sent_number (replying.replied_by d s r body out).answer ≡ by_due d (λ w. first_of (number_replied w r body) (shortness (stanza_text (response_line r) body) out))
        go (due w) = to w
        go (undue n) = refl

  -- 12, or 0
  abbrev pub unfitness : WordTwo → ResponseRead → List ℕ → ℕ
  unfitness w (response r) body = pick (fits_whole w r body) 0 12
  unfitness w nothing body = 12

  module _ (text out : List ℕ) where
    response_as : (w : WordTwo) (q : ResponseRead) (body : List ℕ) (k : ℕ) → responded_number (responding.responded_as w s q body k out).answer ≡ first_of (unfitness w q body) (shortness body out)
    unfolding responding.responded_as
    response_as w (response r) body k = picked (λ (x : responding.Responded). responded_number x.answer) (first_of (pick (fits_whole w r body) 0 12) (shortness body out)) _ _ refl refl
    response_as w nothing body k = refl

    pub given_respond : (outcome s b (respond text out)).number ≡
        by_due (due_in s.phase) (λ w. as_read (read_first text) (first_of (unfitness w (response_of (line_in text)) (body_in text)) (shortness (body_in text) out)))
    given_respond = go (due_in s.phase)
      where
        read_as : (w : WordTwo) (q : Reading) → responded_number (responding.responded_text q w s text out).answer ≡ as_read q (first_of (unfitness w (response_of (line_read q text)) (body_read q text)) (shortness (body_read q text) out))
        read_as w (stanza e n k) = response_as w (response_of (line_read (stanza e n k) text)) (body_read (stanza e n k) text) k
        read_as w (refused n) = refl

        go : (d : Due) → responded_number (responding.responded_by d s text out).answer ≡ by_due d (λ w. as_read (read_first text) (first_of (unfitness w (response_of (line_in text)) (body_in text)) (shortness (body_in text) out)))
        go (due w) = read_as w (read_first text)
        go (undue n) = refl
