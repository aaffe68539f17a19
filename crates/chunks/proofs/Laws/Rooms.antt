-- The output buffer that is lent, beside `ample`: a stanza whose answer fits it does there what it does with `ample`, and one whose answer does not gives 15.
use Prim.Native.Nat.{ℕ, ◌≤◌, ◌<◌}
use mathlib.Core.Path.{◌≡◌, refl, sym, ap, ap₂, subst, ◌∙◌}
use mathlib.Core.Bool.{Bool, true, false}
use mathlib.Core.List.{List, []}
use lib.Dec.{eqb}
use lib.ListN.{length, take}
use native.Mathlib.Omega.{arith}
use borrow.Author.Tests.{eqb-true, eqb-false, ne_eqb, lt-ltb}
use Rattle.refusal.specs.Output.{filled}
use Rattle.refusal.specs.Pick.{pick}
use Rattle.refusal.specs.Verdict.{first_of}
use Rattle.refusal.proofs.Laws.Pick.{pick_in}
use Rattle.stanza.specs.Reading.{Reading, stanza, refused, read_first}
use Rattle.responses.specs.Responses.{ResponseRead, response, nothing, response_of, fits_whole}
use Rattle.session.specs.declared.words.WordTwo.{WordTwo}
use Rattle.session.specs.declared.phases.Phase.{Phase}
use Rattle.session.specs.declared.phases.Phase.TheVariants.{One, Two, Awaiting, Ended, Closed}
use Rattle.session.specs.Phases.{closes}
use Rattle.session.specs.Session.{Session, moved, closed}
use Rattle.conversation.specs.Calls as one_call
use Rattle.conversation.specs.Calls.{Given, Outcome, receive_two, respond, outcome, written_by, received_two_outcome, responded_outcome, line_read, body_read}
use Rattle.conversation.specs.CommandsTwo.{command_two, word_of, payload_of}
use Rattle.conversation.specs.Kinds.{Buffers, buffers_of}
use Rattle.conversation.specs.PhaseTwo as two
use Rattle.conversation.specs.ReceivingTwo as receiving_two
use Rattle.conversation.specs.ReceivingTwo.{phase_received}
use Rattle.conversation.specs.Responding as responding
use Rattle.conversation.specs.Sending.{shortness}
use Rattle.conversation.specs.TurnsTwo.{turn_two, due_in, answered}
use Rattle.conversation.proofs.Laws.Accepted.{text_number_lem}
use Rattle.conversation.proofs.Laws.NumberParts.{at_once_text}
use Rattle.conversation.proofs.Laws.StepsTwo.{long_enough, all_written}
use Rattle.chunks.specs.Taking.{ample}
use Rattle.chunks.proofs.Laws.Numbers.{at_once_short, body_short, room_size}

-- ---- what is written, whatever buffer is lent

-- the same outcome with another output buffer
abbrev pub with_output : Outcome → List ℕ → Outcome
with_output o out = record { number = o.number; given = o.given; session = o.session; buffers = o.buffers; output = out; size = o.size }

module _ (s : Session) (b : Buffers) where
  -- a refusal
  abbrev refused_outcome : ℕ → List ℕ → Outcome
  refused_outcome n out = record { number = n; given = one_call.nothing; session = pick (closes n) (closed s) s; buffers = b; output = out; size = 0 }

  -- .. for want of room in the buffer: all is as it was
  abbrev pub unfitting : List ℕ → Outcome
  unfitting out = record { number = 15; given = one_call.nothing; session = s; buffers = b; output = out; size = 0 }

  -- the number but for 15, what is written, and what an accepted call leaves
  record Answer : Type 0 where
    number : ℕ
    text : List ℕ
    given : Given
    session : Session
    buffers : Buffers
    short : length text ≤ 8192

  -- the outcome by the buffer that is lent
  abbrev accepting : Answer → List ℕ → Outcome
  accepting a out = record { number = 0; given = a.given; session = a.session; buffers = a.buffers; output = filled a.text out; size = length a.text }

  abbrev lent : Answer → List ℕ → Outcome
  lent a out = let n = first_of a.number (shortness a.text out) in pick (eqb n 0) (accepting a out) (refused_outcome n out)

  refuses : ℕ → Answer
  refuses n = record { number = n; text = []; given = one_call.nothing; session = s; buffers = b; short = omega arith }

  refusal_lent : (n : ℕ) → (n ≡ 0 → ⊥) → (out : List ℕ) → refused_outcome n out ≡ lent (refuses n) out
  unfolding refuses
  refusal_lent n h out = rw (ne_eqb n 0 h, ne_eqb n 0 h)

  -- a call whose outcome goes by the buffer so
  module _ (f : List ℕ → Outcome) (a : Answer) (is : (out : List ℕ) → f out ≡ lent a out) where
    enough : (out : List ℕ) → length a.text ≤ length out → f out ≡ pick (eqb a.number 0) (accepting a out) (refused_outcome a.number out)
    enough out l = is out ∙ ap at (ap (first_of a.number) (long_enough a.text out l) ∙ first a.number)
      where
        at : ℕ → Outcome
        at n = pick (eqb n 0) (accepting a out) (refused_outcome n out)

        first : (n : ℕ) → first_of n 0 ≡ n
        first n = go (eqb n 0) refl
          where
            go : (d : Bool) → eqb n 0 ≡ d → pick d 0 n ≡ n
            go true h = sym (eqb-true n 0 h)
            go false h = refl

    -- where the answer is accepted, and where it is not
    data Case : Type 0 where
      accepts : a.number ≡ 0 → ((out : List ℕ) → length a.text ≤ length out → f out ≡ accepting a out) → Case
      declines : (a.number ≡ 0 → ⊥) → ((out : List ℕ) → f out ≡ refused_outcome a.number out) → Case

    case : Case
    case = go (eqb a.number 0) refl
      where
        go : (d : Bool) → eqb a.number 0 ≡ d → Case
        go true h = accepts (eqb-true a.number 0 h) (λ out l. enough out l ∙ ap (λ d. pick d (accepting a out) (refused_outcome a.number out)) h)
        go false h =
            declines (eqb-false a.number 0 h)
            (λ out. is out ∙ ap (λ d. let n = pick d (shortness a.text out) a.number in pick (eqb n 0) (accepting a out) (refused_outcome n out)) h
            ∙ ap (λ d. pick d (accepting a out) (refused_outcome a.number out)) h)

    room_long : length a.text ≤ length ample
    room_long = omega (arith, a.short, room_size)

    -- it is accepted, and the buffer is long enough
    fits : (out : List ℕ) → (f ample).number ≡ 0 → (f ample).size ≤ length out → f out ≡ with_output (f ample) (filled (take (f ample).size (f ample).output) out)
    fits out = go case
      where
        go : Case → (f ample).number ≡ 0 → (f ample).size ≤ length out → f out ≡ with_output (f ample) (filled (take (f ample).size (f ample).output) out)
        go (accepts z w) n l =
            let e = w ample room_long in
            w out (subst (λ (o : Outcome). o.size ≤ length out) e l)
            ∙ ap (λ y. with_output (accepting a ample) (filled y out)) (sym (all_written a.text ample room_long))
            ∙ sym (ap (λ o. with_output o (filled (take o.size o.output) out)) e)
        go (declines z w) n l = absurd (z (sym (ap (λ (o : Outcome). o.number) (w ample)) ∙ n))

    -- .. or it is not
    overflowing : (out : List ℕ) → (f ample).number ≡ 0 → length out < (f ample).size → f out ≡ unfitting out
    overflowing out = go case
      where
        go : Case → (f ample).number ≡ 0 → length out < (f ample).size → f out ≡ unfitting out
        go (accepts z w) n l =
            let e : first_of a.number (shortness a.text out) ≡ 15 =
            ap₂ first_of z
            (ap (λ d. pick d 15 0) (lt-ltb (length out) (length a.text) (subst (λ (o : Outcome). length out < o.size) (w ample room_long) l))) in
            is out ∙ ap (λ n. pick (eqb n 0) (accepting a out) (refused_outcome n out)) e
        go (declines z w) n l = absurd (z (sym (ap (λ (o : Outcome). o.number) (w ample)) ∙ n))

    -- it is refused, whatever the buffer
    declined : (out : List ℕ) → ((f ample).number ≡ 0 → ⊥) → f out ≡ with_output (f ample) out
    declined out = go case
      where
        go : Case → ((f ample).number ≡ 0 → ⊥) → f out ≡ with_output (f ample) out
        go (accepts z w) n = absurd (n (ap (λ (o : Outcome). o.number) (w ample room_long)))
        go (declines z w) n = w out ∙ sym (ap (λ o. with_output o out) (w ample))

-- ---- a command that the client receives, and a response that the plugin does

module _ (s : Session) (b : Buffers) (x : List ℕ) where
  -- the answer to a whole stanza of phase two
  answer_two : List ℕ → List ℕ → ℕ → Answer s b
  answer_two line body k =
      let c = command_two s.machine line body in
      let p = payload_of c line body in
      let text = at_once_text s b line body in
      record {
        number = receiving_two.number_received s b.second line body;
        text = text;
        given = one_call.given_command_two (word_of c) k (length text);
        session = moved s (phase_received s.screen c) (two.applied s.tables b.second c p);
        buffers = buffers_of b.first (two.filled_by s.tables b.second c p);
        short = omega (arith, at_once_short (receiving_two.at_once s.screen c));
      }

  stanza_two : (line body : List ℕ) (k : ℕ) (out : List ℕ) →
      received_two_outcome b.first (receiving_two.received_stanza s b.second out line body k) ≡ lent s b (answer_two line body k) out
  unfolding receiving_two.received_stanza answer_two
  stanza_two line body k out =
      pick_in (eqb (first_of (receiving_two.number_received s b.second line body) (shortness (at_once_text s b line body) out)) 0)
      (received_two_outcome b.first) _ _

  -- an answer for every buffer that is lent
  abbrev Lent : (List ℕ → Outcome) → Type 0
  Lent f = (a : Answer s b) × ((out : List ℕ) → f out ≡ lent s b a out)

  refused_lent : (n : ℕ) → (n ≡ 0 → ⊥) → Lent (refused_outcome s b n)
  refused_lent n h = (refuses s b n, refusal_lent s b n h)

  command_lent : Lent (λ out. outcome s b (receive_two x out))
  unfolding receiving_two.received
  command_lent = go (eqb (turn_two s.phase) 0) refl
    where
      as_read_lem : (q : Reading) → read_first x ≡ q → Lent (λ out. received_two_outcome b.first (receiving_two.received_as q s x b.second out))
      as_read_lem (stanza e n k) h = let q = stanza e n k in (answer_two (line_read q x) (body_read q x) k, stanza_two (line_read q x) (body_read q x) k)
      as_read_lem (refused n) h = refused_lent n (text_number_lem x n h)

      go : (d : Bool) → eqb (turn_two s.phase) 0 ≡ d →
          Lent (λ out. received_two_outcome b.first
          (pick d (receiving_two.received_as (read_first x) s x b.second out) (receiving_two.refused_receipt (turn_two s.phase) s b.second out)))
      go true h = as_read_lem (read_first x) refl
      go false h = refused_lent (turn_two s.phase) (eqb-false (turn_two s.phase) 0 h)

  response_lent : Lent (λ out. outcome s b (respond x out))
  response_lent = go s.phase
    where
      as_response : (w : WordTwo) (r : ResponseRead) (body : List ℕ) (k : ℕ) → length body ≤ 8192 →
          Lent (λ out. responded_outcome b (responding.responded_as w s r body k out))
      as_response w nothing body k h = unfold responding.responded_as in refused_lent 12 (λ z. omega arith)
      as_response w (response r) body k h =
          unfold responding.responded_as in (
            record {
              number = pick (fits_whole w r body) 0 12;
              text = body;
              given = one_call.response r k (length body);
              session = answered s;
              buffers = b;
              short = h;
            },
            λ out. pick_in (eqb (first_of (pick (fits_whole w r body) 0 12) (shortness body out)) 0) (responded_outcome b) _ _,
          )

      as_read_lem : (w : WordTwo) (q : Reading) → read_first x ≡ q → Lent (λ out. responded_outcome b (responding.responded_text q w s x out))
      as_read_lem w (stanza e n k) h = let q = stanza e n k in as_response w (response_of (line_read q x)) (body_read q x) k (body_short x q h)
      as_read_lem w (refused n) h = refused_lent n (text_number_lem x n h)

      go : (p : Phase) → Lent (λ out. responded_outcome b (responding.responded_by (due_in p) s x out))
      go One = refused_lent 14 (λ z. omega arith)
      go Two = refused_lent 14 (λ z. omega arith)
      go (Awaiting w) = as_read_lem w (read_first x) refl
      go Ended = refused_lent 13 (λ z. omega arith)
      go Closed = refused_lent 13 (λ z. omega arith)

  -- a command that is answered at once: the answer fits the buffer, or it does not, or the command is refused
  pub command_fits : (out : List ℕ) → (outcome s b (receive_two x ample)).number ≡ 0 → (outcome s b (receive_two x ample)).size ≤ length out →
      outcome s b (receive_two x out) ≡ with_output (outcome s b (receive_two x ample)) (filled (written_by s b (receive_two x ample)) out)
  command_fits = fits s b (λ out. outcome s b (receive_two x out)) command_lent.0 command_lent.1

  pub command_overflows : (out : List ℕ) → (outcome s b (receive_two x ample)).number ≡ 0 → length out < (outcome s b (receive_two x ample)).size →
      outcome s b (receive_two x out) ≡ unfitting s b out
  command_overflows = overflowing s b (λ out. outcome s b (receive_two x out)) command_lent.0 command_lent.1

  pub command_declined : (out : List ℕ) → ((outcome s b (receive_two x ample)).number ≡ 0 → ⊥) →
      outcome s b (receive_two x out) ≡ with_output (outcome s b (receive_two x ample)) out
  command_declined = declined s b (λ out. outcome s b (receive_two x out)) command_lent.0 command_lent.1

  -- a response, of which the body is written
  pub response_fits : (out : List ℕ) → (outcome s b (respond x ample)).number ≡ 0 → (outcome s b (respond x ample)).size ≤ length out →
      outcome s b (respond x out) ≡ with_output (outcome s b (respond x ample)) (filled (written_by s b (respond x ample)) out)
  response_fits = fits s b (λ out. outcome s b (respond x out)) response_lent.0 response_lent.1

  pub response_overflows : (out : List ℕ) → (outcome s b (respond x ample)).number ≡ 0 → length out < (outcome s b (respond x ample)).size →
      outcome s b (respond x out) ≡ unfitting s b out
  response_overflows = overflowing s b (λ out. outcome s b (respond x out)) response_lent.0 response_lent.1

  pub response_declined : (out : List ℕ) → ((outcome s b (respond x ample)).number ≡ 0 → ⊥) →
      outcome s b (respond x out) ≡ with_output (outcome s b (respond x ample)) out
  response_declined = declined s b (λ out. outcome s b (respond x out)) response_lent.0 response_lent.1
