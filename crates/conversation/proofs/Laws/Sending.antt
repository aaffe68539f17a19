-- Sending, by what one step of phase one came to: for the code of the client end.
use Prim.Native.Nat.{ℕ}
use mathlib.Core.Path.{◌≡◌, refl, sym, ap, ap₂, ◌∙◌, subst}
use mathlib.Core.Bool.{Bool, true, false}
use mathlib.Core.List.{List}
use lib.Dec.{eqb}
use lib.ListN.{length}
use borrow.Author.Tests.{eqb-true}
use Rattle.refusal.specs.Output.{Answer, bytes, refused, overflows, answered, filled}
use Rattle.refusal.specs.Pick.{pick}
use Rattle.refusal.proofs.Laws.Booleans.{cases}
use Rattle.stanza.specs.Grammar.{stanza_text}
use Rattle.stanza.specs.Writing.{is_writable, written, buffer_after}
use Rattle.phase_one.specs.Commands.{CommandOne, WordOne, line_sent}
use Rattle.session.specs.Tables.{Tables}
use Rattle.phase_one.specs.PhaseOne.{BuffersOne, decided, applied, filled_by, command_in, payload_in, number_one, tables_one, buffers_one}
use Rattle.phase_one.specs.Turns.{turn_one, phase_after, phase_sent}
use Rattle.session.specs.declared.opening.Machine.{Machine}
use Rattle.session.specs.declared.phases.Phase.{Phase}
use Rattle.session.specs.Session.{Session}
use Rattle.conversation.specs.Sending.{Sent, refused_sending, shortness, sent_stanza, sent_line, sent}
use Rattle.conversation.proofs.Laws.Firsts.{first_iff, short_none}

abbrev session_in : Machine → List ℕ → Bool → Phase → Tables → Session
session_in m g x p t = record { machine = m; name = g; screen = x; phase = p; tables = t }

abbrev sending : Answer → Session → BuffersOne → List ℕ → Sent
sending a s b out = record { answer = a; session = s; buffers = b; output = out }

-- ---- what can be written is sent, what cannot has No. 17

pub sends_writable : (s : Session) (b : BuffersOne) (l y out : List ℕ) → is_writable l y ≡ true → sent_line s b l y out ≡ sent_stanza s b l y out
sends_writable s b l y out w = rw w

pub refuses_unwritable : (s : Session) (b : BuffersOne) (l y out : List ℕ) → is_writable l y ≡ false → sent_line s b l y out ≡ refused_sending 17 s b out
refuses_unwritable s b l y out w = rw w

-- by whether it can be written
pub by_writable : (P : Sent → Type 0) (s : Session) (b : BuffersOne) (l y out : List ℕ) → (is_writable l y ≡ true → P (sent_stanza s b l y out)) → (is_writable l y ≡ false → P (refused_sending 17 s b out)) → P (sent_line s b l y out)
by_writable P s b l y out p q = cases (is_writable l y) (λ w. subst P (sym (sends_writable s b l y out w)) (p w)) (λ w. subst P (sym (refuses_unwritable s b l y out w)) (q w))

-- what is answered and written where the output is long enough
pub answered_whole : (w out : List ℕ) → overflows w out ≡ false → (answered w out ≡ bytes (length w))
answered_whole w out e = ap (λ f. pick f (refused 15) (bytes (length w))) e

module _ (m : Machine) (g : List ℕ) (x : Bool) (q : Phase) (t : Tables) (b : BuffersOne) (l y out : List ℕ) (w : is_writable l y ≡ true) where
  step_is :
      sending (pick (eqb (number_one m g t b (shortness (stanza_text l y) out) l y) 0) (written l y out) (refused (number_one m g t b (shortness (stanza_text l y) out) l y))) (session_in m g x (phase_sent q (number_one m g t b (shortness (stanza_text l y) out) l y) (command_in m g l y)) (tables_one m g t b (shortness (stanza_text l y) out) l y)) (buffers_one m g t b (shortness (stanza_text l y) out) l y)
      (pick (eqb (number_one m g t b (shortness (stanza_text l y) out) l y) 0) (buffer_after l y out) out) ≡ sent_stanza (session_in m g x q t) b l y out
  unfolding sent_stanza
  step_is = go (eqb (number_one m g t b (shortness (stanza_text l y) out) l y) 0) (λ f. short_none (overflows (stanza_text l y) out) ((first_iff (decided t b (command_in m g l y) (payload_in m g l y)) (shortness (stanza_text l y) out)).0 (eqb-true (number_one m g t b (shortness (stanza_text l y) out) l y) 0 f)).1)
    where
      go : (f : Bool) → (f ≡ true → overflows (stanza_text l y) out ≡ false) →
          sending (pick f (written l y out) (refused (number_one m g t b (shortness (stanza_text l y) out) l y))) (session_in m g x (pick f (phase_after (command_in m g l y)) q) (pick f (applied t b (command_in m g l y) (payload_in m g l y)) t)) (pick f (filled_by t b (command_in m g l y) (payload_in m g l y)) b)
          (pick f (buffer_after l y out) out) ≡ pick f
          (sending (bytes (length (stanza_text l y))) (session_in m g x (phase_after (command_in m g l y)) (pick f (applied t b (command_in m g l y) (payload_in m g l y)) t)) (pick f (filled_by t b (command_in m g l y) (payload_in m g l y)) b) (filled (stanza_text l y) out))
          (sending (refused (number_one m g t b (shortness (stanza_text l y) out) l y)) (session_in m g x q t) b out)
      go true h =
          ap₂ (λ a o. sending a (session_in m g x (phase_after (command_in m g l y)) (applied t b (command_in m g l y) (payload_in m g l y))) (filled_by t b (command_in m g l y) (payload_in m g l y)) o)
          (ap (λ z. pick z (answered (stanza_text l y) out) (refused 17)) w ∙ answered_whole (stanza_text l y) out (h refl))
          (ap (λ z. pick z (filled (stanza_text l y) out) out) w)
      go false h = refl

  -- a stanza that can be written, where the name is said otherwise
  pub sent_from : (g' : List ℕ) (late n : ℕ) (c : CommandOne) (a : Answer) (p : Phase) (t' : Tables) (b' : BuffersOne) (o' : List ℕ) → g' ≡ g → late ≡ shortness (stanza_text l y) out →
      n ≡ number_one m g' t b late l y → c ≡ command_in m g' l y → a ≡ pick (eqb n 0) (written l y out) (refused n) → p ≡ phase_sent q n c → t' ≡ tables_one m g' t b late l y → b' ≡ buffers_one m g' t b late l y →
      o' ≡ pick (eqb n 0) (buffer_after l y out) out → sending a (session_in m g x p t') b' o' ≡ sent_line (session_in m g x q t) b l y out
  sent_from g' late n c a p t' b' o' eg el en ec ea ep et eb eo =
      rw (ea, ep, et, eb, eo, en, ec, eg, el) (step_is ∙ sym (sends_writable (session_in m g x q t) b l y out w))

-- a line that cannot be written
pub sent_unwritable : (s : Session) (b : BuffersOne) (l y out : List ℕ) → is_writable l y ≡ false → sending (refused 17) s b out ≡ sent_line s b l y out
sent_unwritable s b l y out w = sym (refuses_unwritable s b l y out w)

-- ---- whose turn it is

pub sent_out_of_turn : (s : Session) (word : WordOne) (arguments body : List ℕ) (b : BuffersOne) (out : List ℕ) (n : ℕ) → n ≡ turn_one s.phase → eqb n 0 ≡ false → sending (refused n) s b out ≡ sent s word arguments body b out
unfolding sent
sent_out_of_turn s word arguments body b out n e f =
    let z : eqb (turn_one s.phase) 0 ≡ false = ap (λ j. eqb j 0) (sym e) ∙ f in
    ap (λ j. sending (refused j) s b out) e ∙ ap (λ q. pick q (sent_line s b (line_sent word arguments) body out) (refused_sending (turn_one s.phase) s b out)) (sym z)

pub sent_in_turn : (s : Session) (word : WordOne) (arguments body : List ℕ) (b : BuffersOne) (out : List ℕ) → 0 ≡ turn_one s.phase →
    sent_line s b (line_sent word arguments) body out ≡ sent s word arguments body b out
unfolding sent
sent_in_turn s word arguments body b out e = ap (λ n. pick (eqb n 0) (sent_line s b (line_sent word arguments) body out) (refused_sending n s b out)) e
