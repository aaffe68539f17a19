-- Receiving in phase two, by what one step came to: for the code of the client end.
use Prim.Native.Nat.{ℕ}
use mathlib.Core.Path.{◌≡◌, refl, sym, ap, ap₂, ◌∙◌}
use mathlib.Core.Bool.{Bool, true, false, false≢true}
use native.Mathlib.Omega.{arith}
use mathlib.Core.List.{List}
use lib.Dec.{ltb, eqb}
use lib.ListN.{length}
use Rattle.refusal.specs.Output.{filled}
use Rattle.refusal.specs.Pick.{pick}
use Rattle.stanza.specs.Arguments.{argument_of}
use Rattle.stanza.specs.Reading.{read_first}
use Rattle.session.specs.Tables.{Tables}
use Rattle.refusal.specs.Verdict.{first_of}
use Rattle.session.specs.Phases.{closes}
use Rattle.session.specs.declared.opening.Machine.{Machine}
use Rattle.session.specs.declared.phases.Phase.{Phase}
use Rattle.session.specs.declared.phases.Phase.TheVariants.{One, Two, Awaiting, Ended, Closed}
use Rattle.conversation.specs.CommandsTwo.{CommandTwo, command_two, row_two, word_two, word_of, payload_of}
use Rattle.conversation.specs.PhaseTwo.{BuffersTwo, when, is_spaceless, ruled, decided, applied, filled_by}
use Rattle.session.specs.Session.{Session, closed}
use Rattle.conversation.specs.Sending.{shortness}
use Rattle.conversation.specs.TurnsTwo.{turn_two}
use Rattle.conversation.specs.ReceivingTwo.{AtOnce, at_once, text_of, phase_received, Taking, took, declined, Received, refused_receipt, received_stanza, received_as, received}

abbrev session_in : Machine → List ℕ → Bool → Phase → Tables → Session
session_in m g x p t = record { machine = m; name = g; screen = x; phase = p; tables = t }

abbrev receipt : Taking → Session → BuffersTwo → List ℕ → Received
receipt a s b out = record { answer = a; session = s; buffers = b; output = out }

module _ (m : Machine) (g : List ℕ) (x : Bool) (q : Phase) (t : Tables) (b : BuffersTwo) (out : List ℕ) where
  -- a refusal
  pub refusal_is : (n : ℕ) → receipt (declined n) (session_in m g x (pick (closes n) Closed q) t) b out ≡ refused_receipt n (session_in m g x q t) b out
  refusal_is n = go (closes n)
    where
      go : (f : Bool) → receipt (declined n) (session_in m g x (pick f Closed q) t) b out ≡ receipt (declined n) (pick f (session_in m g x Closed t) (session_in m g x q t)) b out
      go true = refl
      go false = refl

  -- a command of number n with a payload, an answer at once and a length
  module _ (l y : List ℕ) (k : ℕ) where
    step_is : (c : CommandTwo) (n : ℕ) → c ≡ command_two m l y → n ≡ first_of (decided false t b c (length (payload_of c l y))) (shortness (text_of (at_once x c)) out) →
        receipt (pick (eqb n 0) (took (word_of c) k (length (text_of (at_once x c)))) (declined n))
        (session_in m g x (pick (eqb n 0) (phase_received x c) (pick (closes n) Closed q)) (pick (eqb n 0) (applied t b c (payload_of c l y)) t))
        (pick (eqb n 0) (filled_by t b c (payload_of c l y)) b)
        (pick (eqb n 0) (filled (text_of (at_once x c)) out) out) ≡ received_stanza (session_in m g x q t) b out l y k
    unfolding received_stanza
    step_is c n ec en = rw (sym ec, sym en) (go (eqb n 0) (closes n))
      where
        go : (f h : Bool) →
            receipt (pick f (took (word_of c) k (length (text_of (at_once x c)))) (declined n))
            (session_in m g x (pick f (phase_received x c) (pick h Closed q)) (pick f (applied t b c (payload_of c l y)) t))
            (pick f (filled_by t b c (payload_of c l y)) b)
            (pick f (filled (text_of (at_once x c)) out) out) ≡ pick f
            (receipt (took (word_of c) k (length (text_of (at_once x c)))) (session_in m g x (phase_received x c) (applied t b c (payload_of c l y))) (filled_by t b c (payload_of c l y)) (filled (text_of (at_once x c)) out))
            (receipt (declined n) (pick h (session_in m g x Closed t) (session_in m g x q t)) b out)
        go true h = refl
        go false true = refl
        go false false = refl

    -- the same by what each part of the code came to: the command, what is ruled, the answer at once, its length, the output's shortness, the number; then the
    -- answer, the phase, the tables, the buffers and the output
    pub received_from : (c : CommandTwo) (r : ℕ) (w : AtOnce) (j late n : ℕ) (a : Taking) (p : Phase) (t' : Tables) (b' : BuffersTwo) (o' : List ℕ) →
        c ≡ row_two (word_two m (argument_of l 0)) m l (length y) → r ≡ ruled false t c → w ≡ at_once x c → j ≡ length (text_of w) → late ≡ pick (ltb (length out) j) 15 0 →
        n ≡ first_of (first_of r (when (is_spaceless t b c (length (payload_of c l y))) 8)) late → a ≡ pick (eqb n 0) (took (word_of c) k j) (declined n) →
        p ≡ pick (eqb n 0) (phase_received x c) (pick (closes n) Closed q) → t' ≡ pick (eqb n 0) (applied t b c (payload_of c l y)) t → b' ≡ pick (eqb n 0) (filled_by t b c (payload_of c l y)) b →
        o' ≡ pick (eqb n 0) (filled (text_of w) out) out → receipt a (session_in m g x p t') b' o' ≡ received_stanza (session_in m g x q t) b out l y k
    unfolding command_two decided
    received_from c r w j late n a p t' b' o' ec er ew ej el en ea ep et eb eo =
        let text : text_of w ≡ text_of (at_once x c) = ap text_of ew in
        let number : n ≡ first_of (decided false t b c (length (payload_of c l y))) (shortness (text_of (at_once x c)) out) =
        en ∙ ap₂ (λ r z. first_of (first_of r (when (is_spaceless t b c (length (payload_of c l y))) 8)) z) er (el ∙ ap (λ j. pick (ltb (length out) j) 15 0) (ej ∙ ap length text)) in
        whole (ea ∙ ap (λ i. pick (eqb n 0) (took (word_of c) k i) (declined n)) (ej ∙ ap length text)) ep et eb (eo ∙ ap (λ i. pick (eqb n 0) (filled i out) out) text) (step_is c n ec number)
      where
        whole : {a a₂ : Taking} {p p₂ : Phase} {t₁ t₂ : Tables} {b₁ b₂ : BuffersTwo} {o o₂ : List ℕ} {z : Received} → a ≡ a₂ → p ≡ p₂ → t₁ ≡ t₂ → b₁ ≡ b₂ → o ≡ o₂ → receipt a₂ (session_in m g x p₂ t₂) b₂ o₂ ≡ z → receipt a (session_in m g x p t₁) b₁ o ≡ z
        whole ea ep et eb eo e = rw (ea, ep, et, eb, eo) e

-- ---- whose turn it is

pub turn_second : (p : Phase) → turn_two p ≡ 0 → p ≡ Two
turn_second One e = absurd (omega arith)
turn_second Two e = refl
turn_second (Awaiting w) e = absurd (omega arith)
turn_second Ended e = absurd (omega arith)
turn_second Closed e = absurd (omega arith)

-- 13 and 14 leave the session as it was
turn_keeps : (p : Phase) → eqb (turn_two p) 0 ≡ false → closes (turn_two p) ≡ false
turn_keeps One e = refl
turn_keeps Two e = absurd (false≢true (sym e))
turn_keeps (Awaiting w) e = refl
turn_keeps Ended e = refl
turn_keeps Closed e = refl

pub received_out_of_turn : (s : Session) (text : List ℕ) (b : BuffersTwo) (out : List ℕ) (n : ℕ) → n ≡ turn_two s.phase → eqb n 0 ≡ false → receipt (declined n) s b out ≡ received s text b out
unfolding received
received_out_of_turn s text b out n e f =
    let z : eqb (turn_two s.phase) 0 ≡ false = ap (λ j. eqb j 0) (sym e) ∙ f in
    ap (λ j. receipt (declined j) s b out) e
    ∙ ap (λ q. receipt (declined (turn_two s.phase)) (pick q (closed s) s) b out) (sym (turn_keeps s.phase z))
    ∙ ap (λ q. pick q (received_as (read_first text) s text b out) (refused_receipt (turn_two s.phase) s b out)) (sym z)

pub received_in_turn : (s : Session) (text : List ℕ) (b : BuffersTwo) (out : List ℕ) → 0 ≡ turn_two s.phase → received_as (read_first text) s text b out ≡ received s text b out
unfolding received
received_in_turn s text b out e = ap (λ n. pick (eqb n 0) (received_as (read_first text) s text b out) (refused_receipt n s b out)) e
