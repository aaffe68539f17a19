-- The call that takes one whole stanza in its turn: any number that it gives closes the session, an accepted one leaves it open, and what is written fits 8,192 bytes.
use Prim.Native.Nat.{ℕ, ◌≤◌}
use mathlib.Core.Path.{◌≡◌, refl, sym, ap, subst, ◌∙◌}
use mathlib.Core.Bool.{Bool, true, false}
use mathlib.Core.List.{List, []}
use lib.Dec.{T, eqb}
use lib.ListN.{length, take}
use lib.Seq.{take-length}
use native.Mathlib.Omega.{arith}
use borrow.Author.Tests.{eqb-true, eqb-false, ltb-false}
use Rattle.refusal.proofs.Laws.Booleans.{cases}
use Rattle.stanza.specs.Grammar.{IsStanza}
use Rattle.stanza.specs.Reading.{stanza, refused}
use Rattle.stanza.proofs.Laws.Exact.{taken_iff}
use Rattle.stanza.proofs.Laws.Grammar.{ended_iff}
use Rattle.session.specs.declared.phases.Phase.{Phase}
use Rattle.session.specs.declared.phases.Phase.TheVariants.{One, Two, Awaiting, Ended, Closed}
use Rattle.session.specs.Phases.{closes}
use Rattle.session.specs.Session.{Session, closed}
use Rattle.phase_one.specs.Commands as one_command
use Rattle.phase_one.specs.PhaseOne as one
use Rattle.phase_one.specs.Turns.{phase_after}
use Rattle.conversation.specs.Calls.{Call, receive, receive_two, send, send_two, reply, respond, Outcome, outcome, output_in, written_by, session_after}
use Rattle.conversation.specs.CommandsTwo as two_command
use Rattle.conversation.specs.CommandsTwo.{CommandTwo}
use Rattle.conversation.specs.Kinds.{Buffers}
use Rattle.conversation.specs.Phases.{line_in, body_in, command_in, Whole}
use Rattle.conversation.specs.ReceivingTwo.{phase_received}
use Rattle.conversation.proofs.Laws.Accepted.{Written, accepted}
use Rattle.conversation.proofs.Laws.Refusals.{refusal}
use Rattle.conversation.proofs.Laws.WrittenRead.{front}
use Rattle.chunks.specs.Taking.{End, client, plugin, reads, turn_at, ample, stanza_call}
use Rattle.chunks.specs.Uncut.{is_closed, is_waiting}
use Rattle.chunks.proofs.Laws.Cutting.{IsWhole}
use Rattle.chunks.proofs.Laws.Numbers.{room_size, stanza_number}

-- ---- an accepted stanza leaves the session open

abbrev pub Open : Session → Type 0
Open s = is_closed s.phase ≡ false

one_open : (c : one_command.CommandOne) → is_closed (phase_after c) ≡ false
one_open (one_command.recipient m) = refl
one_open (one_command.identity m) = refl
one_open one_command.key = refl
one_open (one_command.header i m) = refl
one_open one_command.done = refl
one_open one_command.other = refl
one_open (one_command.bad n) = refl

two_open : (screen : Bool) (c : CommandTwo) → is_closed (phase_received screen c) ≡ false
two_open true (two_command.ask w) = refl
two_open false (two_command.ask w) = refl
two_open screen (two_command.stanza f) = refl
two_open screen (two_command.key f) = refl
two_open screen (two_command.error n) = refl
two_open screen two_command.done = refl
two_open screen two_command.other = refl
two_open screen (two_command.bad n) = refl

pub stanza_open : (e : End) (p : Phase) (s : Session) (b : Buffers) (t : List ℕ) → (outcome s b (stanza_call e p t)).number ≡ 0 → Open (outcome s b (stanza_call e p t)).session
stanza_open client p s b t h = ap (λ (s : Session). is_closed s.phase) (accepted s b (receive_two t ample) h).session ∙ two_open s.screen (command_in s.machine t)
stanza_open plugin One s b t h = ap (λ (s : Session). is_closed s.phase) (accepted s b (receive t) h).applied.session ∙ one_open (one.command_in s.machine s.name (line_in t) (body_in t))
stanza_open plugin Two s b t h = ap (λ (s : Session). is_closed s.phase) (accepted s b (respond t ample) h).1.session
stanza_open plugin (Awaiting w) s b t h = ap (λ (s : Session). is_closed s.phase) (accepted s b (respond t ample) h).1.session
stanza_open plugin Ended s b t h = ap (λ (s : Session). is_closed s.phase) (accepted s b (respond t ample) h).1.session
stanza_open plugin Closed s b t h = ap (λ (s : Session). is_closed s.phase) (accepted s b (respond t ample) h).1.session

-- ---- behind a command of phase one no reply is due

pub after_undue : (c : one_command.CommandOne) → is_waiting client (phase_after c) ≡ false
after_undue (one_command.recipient m) = refl
after_undue (one_command.identity m) = refl
after_undue one_command.key = refl
after_undue (one_command.header i m) = refl
after_undue one_command.done = refl
after_undue one_command.other = refl
after_undue (one_command.bad n) = refl

-- ---- what a call writes fits its output buffer

written_fits : (text out : List ℕ) (o : Outcome) → Written text out o → length (take o.size o.output) ≤ length out
written_fits text out o w = rw (front text out o w) (ltb-false (length out) (length text) w.fits)

pub call_fits : (s : Session) (b : Buffers) (c : Call) → length (written_by s b c) ≤ length (output_in c)
call_fits s b c =
    cases (eqb (outcome s b c).number 0) (λ f. go c (eqb-true (outcome s b c).number 0 f))
    (λ f. rw (refusal s b c (eqb-false (outcome s b c).number 0 f)).size (omega arith))
  where
    go : (c : Call) → (outcome s b c).number ≡ 0 → length (written_by s b c) ≤ length (output_in c)
    go (receive text) h = written_fits [] [] _ (accepted s b (receive text) h).written
    go (send word arguments body out) h = written_fits _ out _ (accepted s b (send word arguments body out) h).written
    go (receive_two text out) h = written_fits _ out _ (accepted s b (receive_two text out) h).written
    go (reply r body out) h = written_fits _ out _ (accepted s b (reply r body out) h).written
    go (send_two word arguments body out) h = written_fits _ out _ (accepted s b (send_two word arguments body out) h).written
    go (respond text out) h = written_fits _ out _ (accepted s b (respond text out) h).1.written

stanza_room : (e : End) (p : Phase) (t : List ℕ) → length (output_in (stanza_call e p t)) ≤ length ample
stanza_room client p t = omega arith
stanza_room plugin One t = omega arith
stanza_room plugin Two t = omega arith
stanza_room plugin (Awaiting w) t = omega arith
stanza_room plugin Ended t = omega arith
stanza_room plugin Closed t = omega arith

-- ---- a whole stanza

-- it is read as one
pub whole_read : (t : List ℕ) → IsWhole t → Whole t
whole_read t w =
    let r = (taken_iff t (length t)).1 (record { within = omega arith; limit = w.short; whole = subst IsStanza (sym (take-length t)) ((ended_iff t).0 w.at_end) }) in
    record { line = r.0; body = r.1; read = r.2 }

-- an accepted call: the session is open, and what is written fits
pub record Stands (s : Session) (b : Buffers) (c : Call) : Type 0 where
  pub going : is_closed (outcome s b c).session.phase ≡ false
  pub short : length (written_by s b c) ≤ 8192

-- a refused one closes the session and leaves the buffers
pub record Closing (s : Session) (b : Buffers) (c : Call) : Type 0 where
  pub session : (outcome s b c).session ≡ closed s
  pub buffers : (outcome s b c).buffers ≡ b

pub record Stepped (s : Session) (b : Buffers) (c : Call) : Type 0 where
  pub number : closes (outcome s b c).number ≡ true
  pub stands : (outcome s b c).number ≡ 0 → Stands s b c
  pub closing : ((outcome s b c).number ≡ 0 → ⊥) → Closing s b c

-- a refused stanza closes the session
closes_behind : (e : End) (p : Phase) (s : Session) (t : List ℕ) (n : ℕ) → closes n ≡ true → session_after (stanza_call e p t) n s ≡ closed s
closes_behind client p s t n h = rw h
closes_behind plugin One s t n h = rw h
closes_behind plugin Two s t n h = rw h
closes_behind plugin (Awaiting w) s t n h = rw h
closes_behind plugin Ended s t n h = rw h
closes_behind plugin Closed s t n h = rw h

-- the stanza's call, in its turn
pub stepped : (s : Session) (b : Buffers) (t : List ℕ) → IsWhole t → (e : End) → turn_at e s.phase ≡ reads → Stepped s b (stanza_call e s.phase t)
stepped s b t w e turn =
    let c = stanza_call e s.phase t in
    let n = stanza_number (λ n. closes n ≡ true) closes_true s b t (λ m h. absurd (stanza_not_refused m (sym (whole_read t w).read ∙ h))) e turn in
    record {
      number = n;
      stands = λ h. record { going = stanza_open e s.phase s b t h; short = omega (arith, call_fits s b c, stanza_room e s.phase t, room_size) };
      closing = λ h. let r = refusal s b c h in record { session = r.session ∙ closes_behind e s.phase s t (outcome s b c).number n; buffers = r.buffers };
    }
  where
    closes_true : (n : ℕ) → T (closes n) → closes n ≡ true
    closes_true n = go (closes n)
      where
        go : (f : Bool) → T f → f ≡ true
        go true h = refl
        go false h = absurd h

    stanza_not_refused : {l k j : ℕ} (m : ℕ) → stanza l k j ≡ refused m → ⊥
    stanza_not_refused m h = let z : ◌≡◌ {A = ℕ} 0 1 = cc in omega arith
