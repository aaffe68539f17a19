-- Receiving, by what one step of phase one came to: for the code of the plugin end.
use Prim.Native.Nat.{ℕ}
use mathlib.Core.Path.{◌≡◌, refl, sym, ap, ◌∙◌}
use mathlib.Core.Bool.{Bool, true, false, false≢true}
use native.Mathlib.Omega.{arith}
use mathlib.Core.List.{List}
use lib.Dec.{eqb}
use Rattle.refusal.specs.Pick.{pick}
use Rattle.stanza.specs.Reading.{read_first}
use Rattle.phase_one.specs.Commands.{CommandOne, word_of}
use Rattle.session.specs.Tables.{Tables}
use Rattle.phase_one.specs.PhaseOne.{BuffersOne, applied, filled_by, command_in, payload_in, number_one, tables_one, buffers_one}
use Rattle.phase_one.specs.Turns.{turn_one, phase_after, phase_received}
use Rattle.session.specs.Phases.{closes, phase_refused}
use Rattle.session.specs.declared.opening.Machine.{Machine}
use Rattle.session.specs.declared.phases.Phase.{Phase}
use Rattle.session.specs.declared.phases.Phase.TheVariants.{One, Two, Awaiting, Ended, Closed}
use Rattle.session.specs.Session.{Session, closed}
use Rattle.conversation.specs.Receiving.{Taking, took, declined, answer_of, Received, received_stanza, received_as, received, refused_receipt}

abbrev session_in : Machine → List ℕ → Bool → Phase → Tables → Session
session_in m g x p t = record { machine = m; name = g; screen = x; phase = p; tables = t }

abbrev receipt : Taking → Session → BuffersOne → Received
receipt a s b = record { answer = a; session = s; buffers = b }

module _ (m : Machine) (g : List ℕ) (x : Bool) (q : Phase) (t : Tables) (b : BuffersOne) where
  -- a refusal
  pub refusal_is : (n : ℕ) → receipt (declined n) (session_in m g x (phase_refused q n) t) b ≡ refused_receipt n (session_in m g x q t) b
  refusal_is n = go (closes n)
    where
      go : (f : Bool) → receipt (declined n) (session_in m g x (pick f Closed q) t) b ≡ receipt (declined n) (pick f (session_in m g x Closed t) (session_in m g x q t)) b
      go true = refl
      go false = refl

  -- a whole stanza
  module _ (l y : List ℕ) (k : ℕ) where
    step_is :
        receipt (answer_of (number_one m g t b 0 l y) (command_in m g l y) k)
        (session_in m g x (phase_received q (number_one m g t b 0 l y) (command_in m g l y)) (tables_one m g t b 0 l y))
        (buffers_one m g t b 0 l y) ≡ received_stanza (session_in m g x q t) b l y k
    unfolding received_stanza
    step_is = go (eqb (number_one m g t b 0 l y) 0) (closes (number_one m g t b 0 l y))
      where
        go : (f h : Bool) →
            receipt (pick f (took (word_of (command_in m g l y)) k) (declined (number_one m g t b 0 l y)))
            (session_in m g x (pick f (phase_after (command_in m g l y)) (pick h Closed q)) (pick f (applied t b (command_in m g l y) (payload_in m g l y)) t))
            (pick f (filled_by t b (command_in m g l y) (payload_in m g l y)) b) ≡ pick f
            (receipt (took (word_of (command_in m g l y)) k)
            (session_in m g x (phase_after (command_in m g l y)) (pick f (applied t b (command_in m g l y) (payload_in m g l y)) t))
            (pick f (filled_by t b (command_in m g l y) (payload_in m g l y)) b))
            (receipt (declined (number_one m g t b 0 l y)) (pick h (session_in m g x Closed t) (session_in m g x q t)) b)
        go true h = refl
        go false true = refl
        go false false = refl

    pub received_by : (n : ℕ) (c : CommandOne) (a : Taking) (p : Phase) (t' : Tables) (b' : BuffersOne) → n ≡ number_one m g t b 0 l y → c ≡ command_in m g l y → a ≡ answer_of n c k → p ≡ phase_received q n c → t' ≡ tables_one m g t b 0 l y → b' ≡ buffers_one m g t b 0 l y →
        receipt a (session_in m g x p t') b' ≡ received_stanza (session_in m g x q t) b l y k
    received_by n c a p t' b' en ec ea ep et eb = rw (ea, ep, et, eb, en, ec) step_is

    -- the same where name, arguments' text and body are said otherwise
    pub received_from : (g' l' y' : List ℕ) (n : ℕ) (c : CommandOne) (a : Taking) (p : Phase) (t' : Tables) (b' : BuffersOne) → g' ≡ g → l' ≡ l → y' ≡ y → n ≡ number_one m g' t b 0 l' y' → c ≡ command_in m g' l' y' → a ≡ answer_of n c k → p ≡ phase_received q n c →
        t' ≡ tables_one m g' t b 0 l' y' → b' ≡ buffers_one m g' t b 0 l' y' → receipt a (session_in m g x p t') b' ≡ received_stanza (session_in m g x q t) b l y k
    received_from g' l' y' n c a p t' b' eg el ey en ec ea ep et eb =
        received_by n c a p t' b' (en ∙ same (λ g l y. number_one m g t b 0 l y)) (ec ∙ same (λ g l y. command_in m g l y)) ea ep (et ∙ same (λ g l y. tables_one m g t b 0 l y)) (eb ∙ same (λ g l y. buffers_one m g t b 0 l y))
      where
        same : {X : Type 0} (f : List ℕ → List ℕ → List ℕ → X) → f g' l' y' ≡ f g l y
        same f = ap (λ g. f g l' y') eg ∙ ap (λ l. f g l y') el ∙ ap (f g l) ey

-- ---- whose turn it is

pub turn_first : (p : Phase) → turn_one p ≡ 0 → p ≡ One
turn_first One e = refl
turn_first Two e = absurd (omega arith)
turn_first (Awaiting w) e = absurd (omega arith)
turn_first Ended e = absurd (omega arith)
turn_first Closed e = absurd (omega arith)

-- 13 and 14 leave the session as it was
turn_keeps : (p : Phase) → eqb (turn_one p) 0 ≡ false → closes (turn_one p) ≡ false
turn_keeps One e = absurd (false≢true (sym e))
turn_keeps Two e = refl
turn_keeps (Awaiting w) e = refl
turn_keeps Ended e = refl
turn_keeps Closed e = refl

pub received_out_of_turn : (s : Session) (text : List ℕ) (b : BuffersOne) (n : ℕ) → n ≡ turn_one s.phase → eqb n 0 ≡ false → receipt (declined n) s b ≡ received s text b
unfolding received
received_out_of_turn s text b n e f =
    let z : eqb (turn_one s.phase) 0 ≡ false = ap (λ j. eqb j 0) (sym e) ∙ f in
    ap (λ j. receipt (declined j) s b) e
    ∙ ap (λ q. receipt (declined (turn_one s.phase)) (pick q (closed s) s) b) (sym (turn_keeps s.phase z))
    ∙ ap (λ q. pick q (received_as (read_first text) s text b) (refused_receipt (turn_one s.phase) s b)) (sym z)

pub received_in_turn : (s : Session) (text : List ℕ) (b : BuffersOne) → 0 ≡ turn_one s.phase → received_as (read_first text) s text b ≡ received s text b
unfolding received
received_in_turn s text b e = ap (λ n. pick (eqb n 0) (received_as (read_first text) s text b) (refused_receipt n s b)) e
