-- The plugin's phase one: nothing becomes due there, and nothing is written.
use Prim.Native.Nat.{ℕ, ◌≤◌}
use mathlib.Core.Path.{◌≡◌, refl, sym, subst, ◌∙◌}
use mathlib.Core.Bool.{Bool, true, false, false≢true}
use mathlib.Core.Logic.{⊎_elim}
use mathlib.Core.List.{List, [], ◌∷◌}
use lib.Dec.{T, eqb}
use lib.ListN.{length}
use native.Mathlib.Omega.{arith}
use borrow.Author.Tests.{eqb-false, le-leb}
use Rattle.refusal.specs.Pick.{pick}
use Rattle.refusal.proofs.Laws.Booleans.{true_and}
use Rattle.stanza.specs.Reading.{Reading, stanza, refused, read_first}
use Rattle.session.specs.Phases.{closes, is_due}
use Rattle.session.specs.Session.{Session, moved, closed}
use Rattle.session.specs.declared.phases.Phase.{Phase}
use Rattle.session.specs.declared.phases.Phase.TheVariants.{One, Two, Awaiting, Ended, Closed}
use Rattle.phase_one.specs.Commands.{CommandOne, word_of, recipient, identity, key, header, done, other, bad}
use Rattle.phase_one.specs.PhaseOne.{BuffersOne, command_in, number_one, tables_one, buffers_one}
use Rattle.phase_one.specs.Turns.{turn_one, phase_after}
use Rattle.conversation.specs.Calls.{receive, outcome, written_by, taking_number}
use Rattle.conversation.specs.Kinds.{Buffers}
use Rattle.conversation.specs.Receiving.{took, Received, received, received_as, received_stanza, refused_receipt}
use Rattle.conversation.proofs.Laws.Refusals.{either}
use Rattle.conversation.proofs.Laws.Accepted.{text_number_lem}
use Rattle.chunks.specs.Cutting.{Rest, unfinished, impossible, bytes_of, cut}
use Rattle.chunks.specs.Taking.{plugin, Turn, reads, drops, keeps_back, turn_at, stanza_call, awaited_behind, Intake, Taken, no_more, emptied, taken_rest, taken_all}
use Rattle.chunks.specs.Chunks.{Outcome, is_held, taken, chunked}
use Rattle.chunks.specs.Uncut.{is_closed}
use Rattle.chunks.proofs.Laws.Bounds.{plugin_kept}
use Rattle.chunks.proofs.Laws.Cases.{drops_not_reads, stanza_cases, chunk_cases, is_turned}
use Rattle.chunks.proofs.Laws.Numbers.{Faulty, cut_faulty}
use Rattle.chunks.proofs.Laws.Short.{taken_not_short}

-- no response is due
abbrev pub NoneDue : Phase → Type 0
NoneDue p = is_due p ≡ false

-- ---- one command

after_done : (c : CommandOne) → NoneDue (phase_after c)
after_done (recipient m) = refl
after_done (identity m) = refl
after_done key = refl
after_done (header i m) = refl
after_done done = refl
after_done other = refl
after_done (bad n) = refl

after_refusal : (s : Session) (n : ℕ) → NoneDue s.phase → NoneDue (pick (closes n) (closed s) s).phase
after_refusal s n d = either (λ (s : Session). NoneDue s.phase) (closes n) (closed s) s refl d

after_stanza : (s : Session) (b : BuffersOne) (line body : List ℕ) (k : ℕ) → NoneDue s.phase → NoneDue (received_stanza s b line body k).session.phase
unfolding received_stanza
after_stanza s b line body k d =
    let n = number_one s.machine s.name s.tables b 0 line body in
    either (λ (r : Received). NoneDue r.session.phase) (eqb n 0) _ _ (after_done (command_in s.machine s.name line body)) (after_refusal s n d)

after_read : (q : Reading) (s : Session) (t : List ℕ) (b : BuffersOne) → NoneDue s.phase → NoneDue (received_as q s t b).session.phase
after_read (stanza e n k) s t b d = after_stanza s b _ _ k d
after_read (refused n) s t b d = after_refusal s n d

-- behind a text that is received in phase one none is due
pub after_command : (s : Session) (b : Buffers) (t : List ℕ) → NoneDue s.phase → NoneDue (outcome s b (receive t)).session.phase
unfolding received
after_command s b t d =
    either (λ (r : Received). NoneDue r.session.phase) (eqb (turn_one s.phase) 0) _ _ (after_read (read_first t) s t b.first d) (after_refusal s (turn_one s.phase) d)

-- ---- a text

-- where bytes are read and none is due, the phase is the first
pub reads_one : (p : Phase) → turn_at plugin p ≡ reads → NoneDue p → p ≡ One
reads_one One h d = refl
reads_one Two h d = absurd (drops_not_reads 14 h)
reads_one (Awaiting w) h d = absurd (false≢true (sym d))
reads_one Ended h d = absurd (drops_not_reads 13 h)
reads_one Closed h d = absurd (drops_not_reads 13 h)

-- what a text comes to, where none is due: none becomes due, and nothing is written
pub record Quiet (x : Taken) : Type 0 where
  pub due : NoneDue x.intake.session.phase
  pub written : x.written ≡ []

quiet_rest : (u : Turn) (s : Session) (b : Buffers) (a : List ℕ) (r : Rest) → NoneDue s.phase → Quiet (taken_rest u s b a r)
quiet_rest reads s b a (unfinished q front) d = record { due = d; written = refl }
quiet_rest reads s b a (impossible n text) d = record { due = refl; written = refl }
quiet_rest (drops n) s b a r d =
    either Quiet (eqb (length (bytes_of r)) 0) (no_more 0 (emptied s a) b) (no_more n (emptied s a) b) (record { due = d; written = refl }) (record { due = d; written = refl })
quiet_rest keeps_back s b a r d = record { due = d; written = refl }

pub quiet : (ts : List (List ℕ)) (s : Session) (b : Buffers) (a : List ℕ) (r : Rest) → NoneDue s.phase → Quiet (taken_all plugin s b a ts r)
unfolding taken_all
quiet [] s b a r d = quiet_rest (turn_at plugin s.phase) s b a r d
quiet (t ∷ ts) s b a r d =
    stanza_cases Quiet plugin s b a t ts r
    (λ h z.
    let o = outcome s b (stanza_call plugin s.phase t) in
    let p : s.phase ≡ One = reads_one s.phase h d in
    let k : NoneDue o.session.phase = subst (λ p. NoneDue (outcome s b (stanza_call plugin p t)).session.phase) (sym p) (after_command s b t d) in
    let w : written_by s b (stanza_call plugin s.phase t) ≡ [] = subst (λ p. written_by s b (stanza_call plugin p t) ≡ []) (sym p) refl in
    let q = quiet ts o.session o.buffers (awaited_behind plugin o.session.phase t) r k in
    record { due = q.due; written = rw (w, q.written) })
    (λ h z.
    let p : s.phase ≡ One = reads_one s.phase h d in
    record { due = subst (λ p. NoneDue (outcome s b (stanza_call plugin p t)).session.phase) (sym p) (after_command s b t d); written = refl })
    (λ n h. record { due = d; written = refl })
    (λ h. record { due = d; written = refl })

-- ---- a closed session was closed by a refusal

open_after : (c : CommandOne) → is_closed (phase_after c) ≡ false
open_after (recipient m) = refl
open_after (identity m) = refl
open_after key = refl
open_after (header i m) = refl
open_after done = refl
open_after other = refl
open_after (bad n) = refl

-- an accepted call closes nothing
abbrev Accepted : Received → Type 0
Accepted r = taking_number r.answer ≡ 0 → is_closed r.session.phase ≡ false

open_stanza : (s : Session) (b : BuffersOne) (line body : List ℕ) (k : ℕ) → Accepted (received_stanza s b line body k)
unfolding received_stanza
open_stanza s b line body k = by (eqb n 0) refl
  where
    n : ℕ
    n = number_one s.machine s.name s.tables b 0 line body

    c : CommandOne
    c = command_in s.machine s.name line body

    by : (d : Bool) → eqb n 0 ≡ d →
        Accepted (pick d (record { answer = took (word_of c) k; session = moved s (phase_after c) (tables_one s.machine s.name s.tables b 0 line body); buffers = buffers_one s.machine s.name s.tables b 0 line body }) (refused_receipt n s b))
    by true h z = open_after c
    by false h z = absurd (eqb-false n 0 h z)

open_read : (s : Session) (t : List ℕ) (b : BuffersOne) (q : Reading) → read_first t ≡ q → Accepted (received_as q s t b)
open_read s t b (stanza e n k) h = open_stanza s b _ _ k
open_read s t b (refused n) h = λ z. absurd (text_number_lem t n h z)

open_command : (s : Session) (b : Buffers) (t : List ℕ) → s.phase ≡ One → (outcome s b (receive t)).number ≡ 0 → is_closed (outcome s b (receive t)).session.phase ≡ false
unfolding received
open_command s b t h = subst (λ p. Accepted (pick (eqb (turn_one p) 0) (received_as (read_first t) s t b.first) (refused_receipt (turn_one p) s b.first))) (sym h) (open_read s t b.first (read_first t) refl)

-- what a text comes to
abbrev pub ClosedBy : ℕ → Phase → Type 0
ClosedBy n p = is_closed p ≡ true → n ≡ 0 → ⊥

abbrev Refusing : Taken → Type 0
Refusing x = ClosedBy x.number x.intake.session.phase

refusing_rest : (u : Turn) (s : Session) (b : Buffers) (a : List ℕ) (r : Rest) → is_closed s.phase ≡ false → Faulty r → Refusing (taken_rest u s b a r)
refusing_rest reads s b a (unfinished q front) d f = λ h z. false≢true (sym d ∙ h)
refusing_rest reads s b a (impossible n text) d f = λ h z. ⊎_elim (λ e. omega (arith, e)) (λ e. omega (arith, e)) f
refusing_rest (drops n) s b a r d f =
    either Refusing (eqb (length (bytes_of r)) 0) (no_more 0 (emptied s a) b) (no_more n (emptied s a) b) (λ h z. false≢true (sym d ∙ h)) (λ h z. false≢true (sym d ∙ h))
refusing_rest keeps_back s b a r d f = λ h z. false≢true (sym d ∙ h)

refusing : (ts : List (List ℕ)) (s : Session) (b : Buffers) (a : List ℕ) (r : Rest) → NoneDue s.phase → is_closed s.phase ≡ false → Faulty r → Refusing (taken_all plugin s b a ts r)
unfolding taken_all
refusing [] s b a r d c f = refusing_rest (turn_at plugin s.phase) s b a r c f
refusing (t ∷ ts) s b a r d c f =
    stanza_cases Refusing plugin s b a t ts r
    (λ h z.
    let o = outcome s b (stanza_call plugin s.phase t) in
    let p : s.phase ≡ One = reads_one s.phase h d in
    refusing ts o.session o.buffers (awaited_behind plugin o.session.phase t) r
    (subst (λ p. NoneDue (outcome s b (stanza_call plugin p t)).session.phase) (sym p) (after_command s b t d))
    (subst (λ p. is_closed (outcome s b (stanza_call plugin p t)).session.phase ≡ false) (sym p) (open_command s b t p (subst (λ p. (outcome s b (stanza_call plugin p t)).number ≡ 0) p z))) f)
    (λ h z k. z)
    (λ n h k z. false≢true (sym c ∙ k))
    (λ h k z. false≢true (sym c ∙ k))

-- ---- a chunk

-- where none is due a chunk leaves none due, and never gives 15; it closes the session only where it is refused
pub record QuietChunk (o : Outcome) : Type 0 where
  pub due : NoneDue o.intake.session.phase
  pub not_15 : o.number ≡ 15 → ⊥
  pub closing : ClosedBy o.number o.intake.session.phase

pub quiet_chunk : (i : Intake) (b : Buffers) (bytes out : List ℕ) → NoneDue i.session.phase → is_closed i.session.phase ≡ false → length i.kept ≤ 8191 → QuietChunk (chunked plugin i b bytes out)
quiet_chunk i b bytes out d e k =
    let c = cut i.reading i.kept bytes in
    let q = quiet c.texts i.session b i.awaited c.rest d in
    let room : is_held (taken plugin i b bytes) out ≡ true =
    true_and _ _ (le-leb (length (taken plugin i b bytes).written) (length out) (rw q.written (omega arith)))
    (le-leb (length (taken plugin i b bytes).intake.kept) 8192 (omega (arith, plugin_kept i.session b i.awaited i.reading i.kept bytes k))) in
    chunk_cases QuietChunk plugin i b bytes out
    (λ t h. record { due = q.due; not_15 = taken_not_short plugin i b bytes; closing = refusing c.texts i.session b i.awaited c.rest d e (cut_faulty i.reading i.kept bytes) })
    (λ t h. absurd (false≢true (sym h ∙ room)))
    (λ n t h. record { due = d; not_15 = λ z. subst (λ n. T (is_turned n)) z h; closing = λ z. absurd (false≢true (sym e ∙ z)) })
