-- What an end gives back: of an accepted call what its text and its arguments say, of a refused one nothing. For every session value.
use Prim.Native.Nat.{ℕ}
use mathlib.Core.Path.{◌≡◌, refl, sym, ap, subst}
use mathlib.Core.Bool.{Bool, true, false, ◌&&◌}
use mathlib.Core.Logic.{⊎_elim}
use mathlib.Core.List.{List}
use lib.Dec.{eqb, leb}
use lib.ListN.{length}
use native.Mathlib.Omega.{arith}
use borrow.Author.Tests.{eqb-true, eqb-false}
use Rattle.refusal.specs.Output.{Answer, bytes, refused}
use Rattle.refusal.specs.Pick.{pick}
use Rattle.refusal.specs.Same.{same}
use Rattle.refusal.specs.Verdict.{first_of}
use Rattle.stanza.specs.Arguments.{count_of, argument_of}
use Rattle.stanza.specs.Grammar.{stanza_text}
use Rattle.stanza.specs.Index as index
use Rattle.stanza.specs.Index.{ReadIndex, read_index}
use Rattle.stanza.specs.Reading as reading
use Rattle.stanza.specs.Reading.{Reading, read_first}
use Rattle.stanza.specs.Writing.{is_writable}
use Rattle.stanza.proofs.Laws.Index.{read_index_lem}
use Rattle.responses.specs.Responses as responses
use Rattle.responses.specs.Responses.{ResponseRead, response_of, response_line, fits_whole}
use Rattle.responses.specs.declared.Response.{Response}
use Rattle.session.specs.declared.words.WordTwo.{WordTwo}
use Rattle.session.specs.declared.words.WordTwo.TheVariants as the_word
use Rattle.session.specs.declared.opening.Machine.{Machine}
use Rattle.session.specs.declared.opening.Machine.TheVariants.{RecipientV1, IdentityV1}
use Rattle.session.specs.declared.phases.Phase.{Phase}
use Rattle.session.specs.declared.phases.Phase.TheVariants.{One, Two, Awaiting, Ended, Closed}
use Rattle.session.specs.Session.{Session}
use Rattle.session.specs.Tables.{Tables}
use Rattle.phase_one.specs.Commands as one_command
use Rattle.phase_one.specs.Commands.{WordOne, CommandOne, is_bare}
use Rattle.phase_one.specs.PhaseOne as one
use Rattle.phase_one.specs.PhaseOne.{command_in, payload_in, number_one}
use Rattle.phase_one.specs.Turns.{turn_one}
use Rattle.phase_one.proofs.Laws.Views.{first_zero}
use Rattle.conversation.specs.Kinds.{Buffers}
use Rattle.conversation.specs.CommandsTwo as two_command
use Rattle.conversation.specs.CommandsTwo.{Named, CommandTwo, bad}
use Rattle.conversation.specs.PhaseTwo as two
use Rattle.conversation.specs.TurnsTwo.{turn_two, due_in}
use Rattle.conversation.specs.Receiving as receiving
use Rattle.conversation.specs.Sending as sending
use Rattle.conversation.specs.Sending.{shortness}
use Rattle.conversation.specs.ReceivingTwo as receiving_two
use Rattle.conversation.specs.Replying as replying
use Rattle.conversation.specs.SendingTwo as sending_two
use Rattle.conversation.specs.Responding as responding
use Rattle.conversation.specs.Calls.{Call, receive, send, receive_two, reply, send_two, respond, command_one, given_command_two, wrote, nothing, taking_number, sent_number, taking_two_number, responded_number, taking_given, sent_given, taking_two_given, responded_given, outcome, line_read, body_read}
use Rattle.conversation.specs.Given.{taken_by, response_given, given_by, GivenBack}
use Rattle.conversation.proofs.Laws.Accepted.{text_number_lem, branch}

-- ---- a command that has no fault is of the word that it was read by

-- an index that is none has the number 5
by_index : (P : ReadIndex → Type 0) (t : List ℕ) → ((i : ℕ) → P (index.number i)) → P (index.refused 5) → P (read_index t)
by_index P t f g = ⊎_elim (λ j. subst P (sym j.1) (f _)) (λ e. subst P (sym e) g) (read_index_lem t)

-- in phase one
module _ (t : Tables) (b : one.BuffersOne) (p : List ℕ) (w : WordOne) where
  abbrev Of : CommandOne → Type 0
  Of c = one.decided t b c p ≡ 0 → one_command.word_of c ≡ w

  of_either : (f : Bool) (c : CommandOne) → Of c → Of (pick f c (one_command.bad 4))
  of_either true c h = h
  of_either false c h = λ e. absurd (omega arith)

word_one : (t : Tables) (b : one.BuffersOne) (p : List ℕ) (plugin line : List ℕ) (size : ℕ) (w : WordOne) → Of t b p w (one_command.row_command w plugin line size)
word_one t b p plugin line size one_command.add_recipient = of_either t b p _ (eqb (count_of line) 2 && eqb size 0) _ (λ e. refl)
word_one t b p plugin line size one_command.add_identity = of_either t b p _ (eqb (count_of line) 2 && eqb size 0) _ (λ e. refl)
word_one t b p plugin line size one_command.wrap_file_key = of_either t b p _ (is_bare line size 16) _ (λ e. refl)
word_one t b p plugin line size one_command.recipient_stanza =
    of_either t b p _ (leb 3 (count_of line)) _
    (by_index (λ x. Of t b p one_command.recipient_stanza (one_command.indexed x (one_command.header_mark plugin line size))) (argument_of line 1) (λ i e. refl) (λ e. absurd (omega arith)))
word_one t b p plugin line size one_command.done_command = of_either t b p _ (is_bare line size 0) _ (λ e. refl)
word_one t b p plugin line size one_command.other_word = λ e. refl

-- in phase two
abbrev OfTwo : WordTwo → CommandTwo → Type 0
OfTwo w c = two.fault_of c ≡ 0 → two_command.word_of c ≡ w

either_two : (w : WordTwo) (f : Bool) (c d : CommandTwo) → OfTwo w c → OfTwo w d → OfTwo w (pick f c d)
either_two w true c d p q = p
either_two w false c d p q = q

four : (w : WordTwo) → OfTwo w (bad 4)
four w e = absurd (omega arith)

five : (w : WordTwo) → OfTwo w (bad 5)
five w e = absurd (omega arith)

module _ (line : List ℕ) where
  error_at_lem : (name : ℕ → Named) (t : List ℕ) → OfTwo the_word.Error (two_command.error_at name (read_index t))
  error_at_lem name t = by_index (λ x. OfTwo the_word.Error (two_command.error_at name x)) t (λ i e. refl) (five _)

  header_at_lem : (q r : List ℕ) → OfTwo the_word.Error (two_command.header_at (read_index q) (read_index r))
  header_at_lem q r =
      by_index (λ x. OfTwo the_word.Error (two_command.header_at x (read_index r))) q (λ f. by_index (λ y. OfTwo the_word.Error (two_command.header_at (index.number f) y)) r (λ i e. refl) (five _)) (five _)

  error_of_lem : (m : Machine) → OfTwo the_word.Error (two_command.error_of m line)
  error_of_lem RecipientV1 = either_two _ (same (argument_of line 1) two_command.recipient_word && eqb (count_of line) 3) _ _ (error_at_lem two_command.recipient (argument_of line 2)) (four _)
  error_of_lem IdentityV1 = either_two _ (same (argument_of line 1) two_command.stanza_word && eqb (count_of line) 4) _ _ (header_at_lem (argument_of line 2) (argument_of line 3)) (four _)

  word_two : (w : WordTwo) (m : Machine) (n : ℕ) → OfTwo w (two_command.row_two w m line n)
  word_two the_word.Msg m n = either_two _ (eqb (count_of line) 1) _ _ (λ e. refl) (four _)
  word_two the_word.Confirm m n = either_two _ (two_command.are_labels line) _ _ (λ e. refl) (four _)
  word_two the_word.RequestPublic m n = either_two _ (eqb (count_of line) 1) _ _ (λ e. refl) (four _)
  word_two the_word.RequestSecret m n = either_two _ (eqb (count_of line) 1) _ _ (λ e. refl) (four _)
  word_two the_word.RecipientStanza m n = either_two _ (leb 3 (count_of line)) _ _ (by_index (λ x. OfTwo the_word.RecipientStanza (two_command.stanza_at x)) (argument_of line 1) (λ i e. refl) (five _)) (four _)
  word_two the_word.FileKey m n = either_two _ (eqb (count_of line) 2 && eqb n 16) _ _ (by_index (λ x. OfTwo the_word.FileKey (two_command.key_at x)) (argument_of line 1) (λ i e. refl) (five _)) (four _)
  word_two the_word.Error m n =
      either_two _ (same (argument_of line 1) two_command.internal_word && eqb (count_of line) 2) _ _ (λ e. refl)
      (either_two _ (same (argument_of line 1) two_command.identity_word && eqb (count_of line) 3) _ _ (error_at_lem two_command.identity (argument_of line 2)) (error_of_lem m))
  word_two the_word.Other m n = λ e. refl
  word_two the_word.Done m n = either_two _ (is_bare line n 0) _ _ (λ e. refl) (four _)

command_word : (m : Machine) (line body : List ℕ) → OfTwo (two_command.word_two m (argument_of line 0)) (two_command.command_two m line body)
unfolding two_command.command_two
command_word m line body = word_two line (two_command.word_two m (argument_of line 0)) m (length body)

-- ---- accepted: commands

module _ (s : Session) (b : Buffers) where
  -- phase one, received
  abbrev number_received : receiving.Received → ℕ
  number_received r = taking_number r.answer

  abbrev GivenOne : Reading → List ℕ → receiving.Received → Type 0
  GivenOne q text r = taking_given r.answer ≡ command_one (one_command.word_in s.machine (argument_of (line_read q text) 0)) (taken_by q)

  as_one : (text : List ℕ) (q : Reading) → read_first text ≡ q → number_received (receiving.received_as q s text b.first) ≡ 0 → GivenOne q text (receiving.received_as q s text b.first)
  unfolding receiving.received_stanza
  as_one text (reading.stanza e n k) o =
      let line = line_read (reading.stanza e n k) text in
      let body = body_read (reading.stanza e n k) text in
      let z = number_one s.machine s.name s.tables b.first 0 line body in
      branch (GivenOne (reading.stanza e n k) text) number_received (eqb z 0) _ _
      (λ f h. ap (λ w. command_one w k)
      (word_one s.tables b.first (payload_in s.machine s.name line body) s.name line (length body) (one_command.word_in s.machine (argument_of line 0))
      (first_zero (one.decided s.tables b.first (command_in s.machine s.name line body) (payload_in s.machine s.name line body)) 0 (eqb-true z 0 f))))
      (λ f. eqb-false z 0 f)
  as_one text (reading.refused n) o = λ h. absurd (text_number_lem text n o h)

  received_one : (text : List ℕ) → number_received (receiving.received s text b.first) ≡ 0 → GivenOne (read_first text) text (receiving.received s text b.first)
  unfolding receiving.received
  received_one text =
      branch (GivenOne (read_first text) text) number_received (eqb (turn_one s.phase) 0) _ _ (λ f. as_one text (read_first text) refl) (λ f. eqb-false (turn_one s.phase) 0 f)

  -- .. and sent
  abbrev number_sent : sending.Sent → ℕ
  number_sent r = sent_number r.answer

  abbrev WroteOne : List ℕ → List ℕ → sending.Sent → Type 0
  WroteOne line body r = sent_given r.answer ≡ wrote (length (stanza_text line body))

  line_one : (line body out : List ℕ) → number_sent (sending.sent_line s b.first line body out) ≡ 0 → WroteOne line body (sending.sent_line s b.first line body out)
  unfolding sending.sent_stanza
  line_one line body out =
      let n = number_one s.machine s.name s.tables b.first (shortness (stanza_text line body) out) line body in
      branch (WroteOne line body) number_sent (is_writable line body) _ _ (λ w. branch (WroteOne line body) number_sent (eqb n 0) _ _ (λ f h. refl) (λ f. eqb-false n 0 f)) (λ w h. omega arith)

  sent_one : (word : WordOne) (arguments body out : List ℕ) → number_sent (sending.sent s word arguments body b.first out) ≡ 0 →
      WroteOne (one_command.line_sent word arguments) body (sending.sent s word arguments body b.first out)
  unfolding sending.sent
  sent_one word arguments body out =
      branch (WroteOne (one_command.line_sent word arguments) body) number_sent (eqb (turn_one s.phase) 0) _ _ (λ f. line_one (one_command.line_sent word arguments) body out) (λ f. eqb-false (turn_one s.phase) 0 f)

  -- phase two, received
  abbrev number_received_two : receiving_two.Received → ℕ
  number_received_two r = taking_two_number r.answer

  abbrev GivenTwo : Reading → List ℕ → receiving_two.Received → Type 0
  GivenTwo q text r =
      taking_two_given r.answer ≡ given_command_two (two_command.word_two s.machine (argument_of (line_read q text) 0)) (taken_by q)
      (length (receiving_two.text_of (receiving_two.at_once s.screen (two_command.command_two s.machine (line_read q text) (body_read q text)))))

  no_fault : (c : CommandTwo) (n m : ℕ) → first_of (two.decided false s.tables b.second c n) m ≡ 0 → two.fault_of c ≡ 0
  unfolding two.decided
  no_fault c n m e =
      first_zero (two.fault_of c) _ (first_zero (two.ruled false s.tables c) _ (first_zero (two.decided false s.tables b.second c n) m e))

  as_two : (text out : List ℕ) (q : Reading) → read_first text ≡ q → number_received_two (receiving_two.received_as q s text b.second out) ≡ 0 →
      GivenTwo q text (receiving_two.received_as q s text b.second out)
  unfolding receiving_two.received_stanza
  as_two text out (reading.stanza e n k) o =
      let line = line_read (reading.stanza e n k) text in
      let body = body_read (reading.stanza e n k) text in
      let c = two_command.command_two s.machine line body in
      let answer = receiving_two.text_of (receiving_two.at_once s.screen c) in
      let z = first_of (receiving_two.number_received s b.second line body) (shortness answer out) in
      branch (GivenTwo (reading.stanza e n k) text) number_received_two (eqb z 0) _ _
      (λ f h. ap (λ w. given_command_two w k (length answer)) (command_word s.machine line body (no_fault c (length (two_command.payload_of c line body)) (shortness answer out) (eqb-true z 0 f))))
      (λ f. eqb-false z 0 f)
  as_two text out (reading.refused n) o = λ h. absurd (text_number_lem text n o h)

  received_two : (text out : List ℕ) → number_received_two (receiving_two.received s text b.second out) ≡ 0 → GivenTwo (read_first text) text (receiving_two.received s text b.second out)
  unfolding receiving_two.received
  received_two text out =
      branch (GivenTwo (read_first text) text) number_received_two (eqb (turn_two s.phase) 0) _ _ (λ f. as_two text out (read_first text) refl) (λ f. eqb-false (turn_two s.phase) 0 f)

  -- .. and sent
  abbrev number_sent_two : sending_two.Sent → ℕ
  number_sent_two r = sent_number r.answer

  abbrev WroteTwo : List ℕ → List ℕ → sending_two.Sent → Type 0
  WroteTwo line body r = sent_given r.answer ≡ wrote (length (stanza_text line body))

  line_two : (line body out : List ℕ) → number_sent_two (sending_two.sent_line s b.second line body out) ≡ 0 → WroteTwo line body (sending_two.sent_line s b.second line body out)
  unfolding sending_two.sent_line
  line_two line body out =
      let z = first_of (sending_two.number_sent s b.second line body) (shortness (stanza_text line body) out) in
      branch (WroteTwo line body) number_sent_two (eqb z 0) _ _ (λ f h. refl) (λ f. eqb-false z 0 f)

  sent_two : (word : WordTwo) (arguments body out : List ℕ) → number_sent_two (sending_two.sent s word arguments body b.second out) ≡ 0 →
      WroteTwo (two_command.line_sent word arguments) body (sending_two.sent s word arguments body b.second out)
  unfolding sending_two.sent
  sent_two word arguments body out =
      branch (WroteTwo (two_command.line_sent word arguments) body) number_sent_two (eqb (turn_two s.phase) 0) _ _ (λ f. line_two (two_command.line_sent word arguments) body out) (λ f. eqb-false (turn_two s.phase) 0 f)

-- ---- accepted: answers

module _ (s : Session) where
  -- a host's reply
  abbrev number_replied : replying.Replied → ℕ
  number_replied r = sent_number r.answer

  abbrev WroteReply : Response → List ℕ → replying.Replied → Type 0
  WroteReply r body x = sent_given x.answer ≡ wrote (length (stanza_text (response_line r) body))

  reply_to : (w : WordTwo) (r : Response) (body out : List ℕ) → number_replied (replying.replied_to w s r body out) ≡ 0 → WroteReply r body (replying.replied_to w s r body out)
  unfolding replying.replied_to
  reply_to w r body out =
      let z = first_of (replying.number_replied w r body) (shortness (stanza_text (response_line r) body) out) in
      branch (WroteReply r body) number_replied (eqb z 0) _ _ (λ f h. refl) (λ f. eqb-false z 0 f)

  replied_in : (p : Phase) (r : Response) (body out : List ℕ) → number_replied (replying.replied_by (due_in p) s r body out) ≡ 0 → WroteReply r body (replying.replied_by (due_in p) s r body out)
  replied_in One r body out h = absurd (omega arith)
  replied_in Two r body out h = absurd (omega arith)
  replied_in (Awaiting w) r body out h = reply_to w r body out h
  replied_in Ended r body out h = absurd (omega arith)
  replied_in Closed r body out h = absurd (omega arith)

  -- a response
  abbrev number_responded : responding.Responded → ℕ
  number_responded r = responded_number r.answer

  abbrev GivenAs : ResponseRead → ℕ → List ℕ → responding.Responded → Type 0
  GivenAs q k body x = responded_given x.answer ≡ response_given q k (length body)

  respond_as : (w : WordTwo) (q : ResponseRead) (body : List ℕ) (k : ℕ) (out : List ℕ) → number_responded (responding.responded_as w s q body k out) ≡ 0 → GivenAs q k body (responding.responded_as w s q body k out)
  unfolding responding.responded_as
  respond_as w responses.nothing body k out = λ h. absurd (omega arith)
  respond_as w (responses.response r) body k out =
      let z : ℕ = first_of (pick (fits_whole w r body) 0 12) (shortness body out) in
      branch (GivenAs (responses.response r) k body) number_responded (eqb z 0) _ _ (λ f h. refl) (λ f. eqb-false z 0 f)

  abbrev GivenResponse : Reading → List ℕ → responding.Responded → Type 0
  GivenResponse q text x = GivenAs (response_of (line_read q text)) (taken_by q) (body_read q text) x

  respond_text : (w : WordTwo) (text out : List ℕ) (q : Reading) → read_first text ≡ q → number_responded (responding.responded_text q w s text out) ≡ 0 → GivenResponse q text (responding.responded_text q w s text out)
  respond_text w text out (reading.stanza e n k) o h = respond_as w (response_of (line_read (reading.stanza e n k) text)) (body_read (reading.stanza e n k) text) k out h
  respond_text w text out (reading.refused n) o h = absurd (text_number_lem text n o h)

  responded_in : (p : Phase) (text out : List ℕ) → number_responded (responding.responded_by (due_in p) s text out) ≡ 0 → GivenResponse (read_first text) text (responding.responded_by (due_in p) s text out)
  responded_in One text out h = absurd (omega arith)
  responded_in Two text out h = absurd (omega arith)
  responded_in (Awaiting w) text out h = respond_text w text out (read_first text) refl h
  responded_in Ended text out h = absurd (omega arith)
  responded_in Closed text out h = absurd (omega arith)

accepted_given : (s : Session) (b : Buffers) (c : Call) → (outcome s b c).number ≡ 0 → (outcome s b c).given ≡ given_by s c
accepted_given s b (receive text) h = received_one s b text h
accepted_given s b (send word arguments body out) h = sent_one s b word arguments body out h
accepted_given s b (receive_two text out) h = received_two s b text out h
accepted_given s b (reply r body out) h = replied_in s s.phase r body out h
accepted_given s b (send_two word arguments body out) h = sent_two s b word arguments body out h
accepted_given s b (respond text out) h = responded_in s s.phase text out h

-- ---- refused

taking_none : (a : receiving.Taking) → (taking_number a ≡ 0 → ⊥) → taking_given a ≡ nothing
taking_none (receiving.took w k) h = absurd (h refl)
taking_none (receiving.declined n) h = refl

sent_none : (a : Answer) → (sent_number a ≡ 0 → ⊥) → sent_given a ≡ nothing
sent_none (bytes n) h = absurd (h refl)
sent_none (refused n) h = refl

taking_two_none : (a : receiving_two.Taking) → (taking_two_number a ≡ 0 → ⊥) → taking_two_given a ≡ nothing
taking_two_none (receiving_two.took w k n) h = absurd (h refl)
taking_two_none (receiving_two.declined n) h = refl

responded_none : (a : responding.Answering) → (responded_number a ≡ 0 → ⊥) → responded_given a ≡ nothing
responded_none (responding.took_response r k n) h = absurd (h refl)
responded_none (responding.declined_response n) h = refl

refused_given : (s : Session) (b : Buffers) (c : Call) → ((outcome s b c).number ≡ 0 → ⊥) → (outcome s b c).given ≡ nothing
refused_given s b (receive text) h = taking_none (receiving.received s text b.first).answer h
refused_given s b (send word arguments body out) h = sent_none (sending.sent s word arguments body b.first out).answer h
refused_given s b (receive_two text out) h = taking_two_none (receiving_two.received s text b.second out).answer h
refused_given s b (reply r body out) h = sent_none (replying.replied s r body out).answer h
refused_given s b (send_two word arguments body out) h = sent_none (sending_two.sent s word arguments body b.second out).answer h
refused_given s b (respond text out) h = responded_none (responding.responded s text out).answer h

-- any call of any session gives back what its text and its arguments say, or nothing
pub given : (s : Session) (b : Buffers) (c : Call) → GivenBack s b c
given s b c = record { accepted = accepted_given s b c; refused = refused_given s b c }
