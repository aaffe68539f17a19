-- A whole stanza that the client receives: accepted or refused, with room for its answer.
use Prim.Native.Nat.{ℕ, ◌+◌, ◌≤◌}
use mathlib.Core.Path.{◌≡◌, refl, sym, ap, ◌∙◌}
use mathlib.Core.Bool.{Bool, true, false}
use mathlib.Core.List.{List}
use lib.Dec.{eqb, ltb}
use lib.ListN.{length, take, drop}
use native.Mathlib.Omega.{arith}
use borrow.Author.Tests.{eqb-false, le-ltb}
use Rattle.refusal.specs.Output.{filled}
use Rattle.refusal.specs.Pick.{pick}
use Rattle.refusal.specs.Verdict.{first_of}
use Rattle.strict_base64.specs.Lines.{body_of}
use Rattle.stanza.specs.Reading.{stanza, refused, read_first}
use Rattle.session.specs.declared.opening.Machine.{Machine}
use Rattle.session.specs.Phases.{closes}
use Rattle.session.specs.declared.phases.Phase.{Phase}
use Rattle.session.specs.declared.phases.Phase.TheVariants.{One, Two, Awaiting, Ended, Closed}
use Rattle.session.specs.Tables.{Tables}
use Rattle.session.specs.Session.{Session, moved}
use Rattle.conversation.specs.CommandsTwo.{CommandTwo, command_two, row_two, word_two, word_of, payload_of}
use Rattle.conversation.specs.PhaseTwo.{BuffersTwo, errors, stanzas, returned, applied, filled_by, ruled}
use Rattle.conversation.specs.ReceivingTwo.{AtOnce, at_once, text_of, phase_received, Taking, took, Received, refused_receipt, number_received, received_stanza, received_as}
use Rattle.conversation.specs.Sending.{shortness}
use Rattle.conversation.specs.Kinds.{Buffers}
use Rattle.conversation.specs.Calls.{receive_two, outcome, received_two_outcome}
use Rattle.conversation.specs.TurnsTwo.{turn_two}
use Rattle.conversation.proofs.Laws.AllowedTwo.{filled_length}
use Rattle.conversation.proofs.Laws.ReceivingTwo.{received_from, received_in_turn}
use Rattle.chunks.specs.Taking.{client, ample, turn_at, reads}
use Rattle.chunks.proofs.Laws.Cases.{drops_not_reads, keeps_not_reads}
use Rattle.chunks.proofs.Laws.Numbers.{at_once_short, room_size}
use Rattle.stanza.specs.Arguments.{argument_of}
use Rattle.phase_two.specs.Entering.{AreLong, Entered}
use Rattle.client_room.specs.Stanzas.{answer_of, Tried}

-- every answer at once has room
late_none : (a : AtOnce) → ◌≡◌ {A = ℕ} (pick (ltb (length ample) (length (text_of a))) 15 0) 0
late_none a = rw (le-ltb (length ample) (length (text_of a)) (omega (arith, at_once_short a, room_size)))

abbrev session_in : Machine → List ℕ → Bool → Phase → Tables → Session
session_in m g x p t = record { machine = m; name = g; screen = x; phase = p; tables = t }

-- what each part of the code came to: the command, what is ruled, the answer at once, its length, the number with the tables; then the answer and the phase
pub tried : (m : Machine) (g : List ℕ) (x : Bool) (q : Phase) (t : Tables) (b : BuffersTwo) (l y : List ℕ) (k : ℕ)
    (c : CommandTwo) (r : ℕ) (w : AtOnce) (j n : ℕ) (a : Taking) (p : Phase) (t' : Tables) →
    c ≡ row_two (word_two m (argument_of l 0)) m l (length y) → r ≡ ruled false t c → w ≡ at_once x c → j ≡ length (text_of w) →
    Entered r t b c (payload_of c l y) 0 n t' → a ≡ answer_of n c k j → p ≡ pick (eqb n 0) (phase_received x c) (pick (closes n) Closed q) →
    Tried (session_in m g x q t) b l y k a (session_in m g x p t')
tried m g x q t b l y k c r w j n a p t' ec er ew ej e ea ep =
    let z = received_from m g x q t b ample l y k c r w j 0 n a p t' (pick (eqb n 0) (filled_by t b c (payload_of c l y)) b)
    (pick (eqb n 0) (filled (text_of w) ample) ample) ec er ew ej (sym (ap (λ i. pick (ltb (length ample) i) 15 0) ej ∙ late_none w)) e.number ea ep
    (rw e.number e.tables) refl refl in
    record { answer_is = ap (λ z. z.answer) z; session_is = ap (λ z. z.session) z }

-- ---- accepted or refused

module _ (s : Session) (b : BuffersTwo) (line body : List ℕ) (k : ℕ) where
  abbrev pub command : CommandTwo
  command = command_two s.machine line body

  abbrev pub payload : List ℕ
  payload = payload_of command line body

  -- what is written at once
  abbrev pub answer : List ℕ
  answer = text_of (at_once s.screen command)

  abbrev pub accepted : Received
  accepted = record {
    answer = took (word_of command) k (length answer);
    session = moved s (phase_received s.screen command) (applied s.tables b command payload);
    buffers = filled_by s.tables b command payload;
    output = filled answer ample;
  }

  pub data Judged : Type 0 where
    accepts : received_stanza s b ample line body k ≡ accepted → Judged
    refuses : (n : ℕ) → (n ≡ 0 → ⊥) → received_stanza s b ample line body k ≡ refused_receipt n s b ample → Judged

  pub judged : Judged
  unfolding received_stanza
  judged = go (eqb n 0) refl
    where
      n : ℕ
      n = first_of (number_received s b line body) (shortness answer ample)

      go : (d : Bool) → eqb n 0 ≡ d → Judged
      go true h = accepts (ap (λ d. pick d accepted (refused_receipt n s b ample)) h)
      go false h = refuses n (eqb-false n 0 h) (ap (λ d. pick d accepted (refused_receipt n s b ample)) h)

  -- the answer is short
  pub answer_length : length answer ≤ 16
  answer_length = at_once_short (at_once s.screen command)

  -- buffers keep their lengths
  pub long_still : (e r t : ℕ) → AreLong b e r t → AreLong (filled_by s.tables b command payload) e r t
  long_still e r t l = record {
    errors = sym (filled_length s.tables b command payload errors) ∙ l.errors;
    stanzas = sym (filled_length s.tables b command payload stanzas) ∙ l.stanzas;
    returned = sym (filled_length s.tables b command payload returned) ∙ l.returned;
  }

-- ---- a text that begins with it

abbrev pub line_of : List ℕ → ℕ → List ℕ
line_of x l = drop 3 (take l x)

abbrev pub body_behind : List ℕ → ℕ → ℕ → List ℕ
body_behind x l k = body_of (drop (l + 1) (take k x))

-- its call
pub stanza_call_lem : (s : Session) (b : Buffers) (x out : List ℕ) (l m k : ℕ) → s.phase ≡ Two → read_first x ≡ stanza l m k →
    outcome s b (receive_two x out) ≡ received_two_outcome b.first (received_stanza s b.second out (line_of x l) (body_behind x l k) k)
stanza_call_lem s b x out l m k turn h =
    ap (received_two_outcome b.first) (sym (received_in_turn s x b.second out (sym (ap turn_two turn))) ∙ ap (λ q. received_as q s x b.second out) h)

-- a text that no stanza begins
pub fault_call : (s : Session) (b : Buffers) (x out : List ℕ) (m : ℕ) → s.phase ≡ Two → read_first x ≡ refused m →
    outcome s b (receive_two x out) ≡ received_two_outcome b.first (refused_receipt m s b.second out)
fault_call s b x out m turn h =
    ap (received_two_outcome b.first) (sym (received_in_turn s x b.second out (sym (ap turn_two turn))) ∙ ap (λ q. received_as q s x b.second out) h)

-- commands are read in phase two alone
pub reads_two : (p : Phase) → turn_at client p ≡ reads → p ≡ Two
reads_two One e = absurd (drops_not_reads 14 e)
reads_two Two e = refl
reads_two (Awaiting w) e = absurd (keeps_not_reads e)
reads_two Ended e = absurd (drops_not_reads 13 e)
reads_two Closed e = absurd (drops_not_reads 13 e)
