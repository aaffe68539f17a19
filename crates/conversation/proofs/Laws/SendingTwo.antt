-- Sending in phase two, by what one step came to: for the code of the plugin end.
use Prim.Native.Nat.{ℕ}
use mathlib.Core.Path.{◌≡◌, refl, sym, ap, ap₂, ◌∙◌}
use mathlib.Core.Bool.{Bool, true, false}
use mathlib.Core.List.{List}
use lib.Dec.{eqb}
use lib.ListN.{length}
use borrow.Author.Tests.{eqb-true}
use Rattle.refusal.specs.Output.{Answer, bytes, refused, overflows, answered, filled}
use Rattle.refusal.specs.Pick.{pick}
use Rattle.stanza.specs.Arguments.{argument_of}
use Rattle.stanza.specs.Grammar.{stanza_text}
use Rattle.stanza.specs.Writing.{is_writable, written, buffer_after}
use Rattle.session.specs.declared.words.WordTwo.{WordTwo}
use Rattle.session.specs.Tables.{Tables}
use Rattle.refusal.specs.Verdict.{first_of}
use Rattle.session.specs.declared.opening.Machine.{Machine}
use Rattle.session.specs.declared.phases.Phase.{Phase}
use Rattle.session.specs.Session.{Session}
use Rattle.conversation.specs.Sending.{shortness}
use Rattle.conversation.specs.CommandsTwo.{CommandTwo, row_two, word_two, command_two, payload_of, line_sent}
use Rattle.conversation.specs.PhaseTwo.{BuffersTwo, buffers_of, when, is_spaceless, ruled, decided, applied, filled_by}
use Rattle.conversation.specs.TurnsTwo.{turn_two}
use Rattle.conversation.specs.SendingTwo.{phase_sent, Sent, refused_sending, sent_line, sent}
use Rattle.conversation.proofs.Laws.Firsts.{first_iff, short_none}
use Rattle.conversation.proofs.Laws.Sending.{answered_whole}

abbrev session_in : Machine → List ℕ → Bool → Phase → Tables → Session
session_in m g x p t = record { machine = m; name = g; screen = x; phase = p; tables = t }

abbrev sending : Answer → Session → BuffersTwo → List ℕ → Sent
sending a s b out = record { answer = a; session = s; buffers = b; output = out }

-- the three buffers, one by one
pub buffers_two_are : (e s r : List ℕ) (b : BuffersTwo) → e ≡ b.errors → s ≡ b.stanzas → r ≡ b.returned → buffers_of e s r ≡ b
buffers_two_are e s r b h i j = rw (h, i, j)

module _ (m : Machine) (g : List ℕ) (x : Bool) (q : Phase) (t : Tables) (b : BuffersTwo) (l y out : List ℕ) (w : is_writable l y ≡ true) where
  -- what it comes to, by its command, its number and whether it is accepted
  abbrev came : CommandTwo → ℕ → Bool → Sent
  came c n f =
      pick f (sending (bytes (length (stanza_text l y))) (session_in m g x (phase_sent c) (applied t b c (payload_of c l y))) (filled_by t b c (payload_of c l y)) (filled (stanza_text l y) out))
      (refused_sending n (session_in m g x q t) b out)

  came_is : (c : CommandTwo) → c ≡ row_two (word_two m (argument_of l 0)) m l (length y) →
      came c (first_of (decided true t b c (length (payload_of c l y))) (shortness (stanza_text l y) out)) (eqb (first_of (decided true t b c (length (payload_of c l y))) (shortness (stanza_text l y) out)) 0) ≡ sent_line (session_in m g x q t) b l y out
  unfolding sent_line command_two
  came_is c e = rw e (ap (λ v. let n = first_of (pick v (decided true t b (command_two m l y) (length (payload_of (command_two m l y) l y))) 17) (shortness (stanza_text l y) out) in came (command_two m l y) n (eqb n 0)) (sym w))

  -- the parts, by the same
  parts : (c : CommandTwo) (n : ℕ) (f : Bool) → (f ≡ true → overflows (stanza_text l y) out ≡ false) →
      sending (pick f (written l y out) (refused n)) (session_in m g x (pick f (phase_sent c) q) (pick f (applied t b c (payload_of c l y)) t)) (pick f (filled_by t b c (payload_of c l y)) b) (pick f (buffer_after l y out) out) ≡ came c n f
  parts c n true h =
      ap₂ (λ a o. sending a (session_in m g x (phase_sent c) (applied t b c (payload_of c l y))) (filled_by t b c (payload_of c l y)) o)
      (ap (λ z. pick z (answered (stanza_text l y) out) (refused 17)) w ∙ answered_whole (stanza_text l y) out (h refl))
      (ap (λ z. pick z (filled (stanza_text l y) out) out) w)
  parts c n false h = refl

  -- a stanza that can be written, by its command, what is ruled, the output's shortness and the number
  pub sent_from : (c : CommandTwo) (r late n : ℕ) (a : Answer) (p : Phase) (t' : Tables) (b' : BuffersTwo) (o' : List ℕ) →
      c ≡ row_two (word_two m (argument_of l 0)) m l (length y) → r ≡ ruled true t c → late ≡ shortness (stanza_text l y) out →
      n ≡ first_of (first_of r (when (is_spaceless t b c (length (payload_of c l y))) 8)) late → a ≡ pick (eqb n 0) (written l y out) (refused n) → p ≡ pick (eqb n 0) (phase_sent c) q →
      t' ≡ pick (eqb (first_of (first_of r (when (is_spaceless t b c (length (payload_of c l y))) 8)) late) 0) (applied t b c (payload_of c l y)) t →
      b' ≡ pick (eqb (first_of (first_of r (when (is_spaceless t b c (length (payload_of c l y))) 8)) late) 0) (filled_by t b c (payload_of c l y)) b → o' ≡ pick (eqb n 0) (buffer_after l y out) out →
      sending a (session_in m g x p t') b' o' ≡ sent_line (session_in m g x q t) b l y out
  unfolding decided
  sent_from c r late n a p t' b' o' ec er el en ea ep et eb eo =
      let k = first_of (decided true t b c (length (payload_of c l y))) (shortness (stanza_text l y) out) in
      rw (ea, ep, et, eb, eo, en, er, el)
      (parts c k (eqb k 0) (λ f. short_none (overflows (stanza_text l y) out) ((first_iff (decided true t b c (length (payload_of c l y))) (shortness (stanza_text l y) out)).0 (eqb-true k 0 f)).1) ∙ came_is c ec)

-- a line that cannot be written
pub sent_unwritable : (s : Session) (b : BuffersTwo) (l y out : List ℕ) → is_writable l y ≡ false → sending (refused 17) s b out ≡ sent_line s b l y out
unfolding sent_line
sent_unwritable s b l y out w = rw w

-- ---- whose turn it is

pub sent_out_of_turn : (s : Session) (word : WordTwo) (arguments body : List ℕ) (b : BuffersTwo) (out : List ℕ) (n : ℕ) → n ≡ turn_two s.phase → eqb n 0 ≡ false → sending (refused n) s b out ≡ sent s word arguments body b out
unfolding sent
sent_out_of_turn s word arguments body b out n e f =
    let z : eqb (turn_two s.phase) 0 ≡ false = ap (λ j. eqb j 0) (sym e) ∙ f in
    ap (λ j. sending (refused j) s b out) e ∙ ap (λ q. pick q (sent_line s b (line_sent word arguments) body out) (refused_sending (turn_two s.phase) s b out)) (sym z)

pub sent_in_turn : (s : Session) (word : WordTwo) (arguments body : List ℕ) (b : BuffersTwo) (out : List ℕ) → 0 ≡ turn_two s.phase →
    sent_line s b (line_sent word arguments) body out ≡ sent s word arguments body b out
unfolding sent
sent_in_turn s word arguments body b out e = ap (λ n. pick (eqb n 0) (sent_line s b (line_sent word arguments) body out) (refused_sending n s b out)) e
