-- Accepted calls close no session; and replies made in a closed session change nothing, so a list may do without them.
use Prim.Native.Nat.{ℕ}
use mathlib.Core.Path.{◌≡◌, refl, sym, ap, subst, ◌∙◌}
use mathlib.Core.Bool.{true, false, ◌&&◌, false≢true}
use mathlib.Core.Logic.{⊎_elim, ◌↔◌}
use mathlib.Core.List.{List, [], ◌∷◌, ◌++◌}
use lib.Dec.{eqb}
use lib.ListN.{length, take}
use native.Mathlib.Omega.{arith}
use Rattle.refusal.proofs.Laws.Booleans.{cases, and_false_right}
use Rattle.stanza.specs.Automaton.{start}
use Rattle.responses.specs.declared.Response.{Response}
use Rattle.session.specs.declared.phases.Phase.{Phase}
use Rattle.session.specs.declared.phases.Phase.TheVariants.{One, Two, Awaiting, Ended, Closed}
use Rattle.session.specs.Session.{Session}
use Rattle.conversation.specs.Calls.{outcome, AllZero}
use Rattle.conversation.specs.Kinds.{Buffers}
use Rattle.conversation.specs.TurnsTwo.{due_in, answered}
use Rattle.conversation.proofs.Laws.Refusals.{either}
use Rattle.chunks.specs.Cutting.{Rest, unfinished, impossible, bytes_of, cut}
use Rattle.chunks.specs.Taking.{End, client, plugin, Turn, reads, drops, keeps_back, turn_at, stanza_call, awaited_behind, Intake, Taken, no_more, emptied, taken_rest, taken_all}
use Rattle.chunks.specs.Chunks.{Outcome, untaken, chunked, replied_by, replied}
use Rattle.chunks.specs.Uncut.{Piece, chunk, reply, outcome_of, after, numbers, written, is_closed, is_reply}
use Rattle.chunks.specs.Orders.{in_time}
use Rattle.chunks.proofs.Laws.Cases.{stanza_cases, chunk_cases, reply_cases}
use Rattle.chunks.proofs.Laws.Numbers.{Faulty, cut_faulty}
use Rattle.chunks.proofs.Laws.Stanzas.{Open, stanza_open}

-- ---- accepted calls close no session

-- what is accepted leaves a session open
abbrev Opens : Taken → Type 0
Opens x = x.number ≡ 0 → Open x.intake.session

rest_open : (t : Turn) (s : Session) (b : Buffers) (a : List ℕ) (r : Rest) → Faulty r → Open s → Opens (taken_rest t s b a r)
rest_open reads s b a (unfinished q front) f k = λ h. k
rest_open reads s b a (impossible n text) f k = λ h. absurd (⊎_elim (λ z. omega arith) (λ z. omega arith) f)
rest_open (drops n) s b a r f k = either Opens (eqb (length (bytes_of r)) 0) (no_more 0 (emptied s a) b) (no_more n (emptied s a) b) (λ h. k) (λ h. k)
rest_open keeps_back s b a r f k = λ h. k

all_open : (e : End) (s : Session) (b : Buffers) (a : List ℕ) (ts : List (List ℕ)) (r : Rest) → Faulty r → Open s → Opens (taken_all e s b a ts r)
unfolding taken_all
all_open e s b a [] r f k = rest_open (turn_at e s.phase) s b a r f k
all_open e s b a (t ∷ ts) r f k =
    let o = outcome s b (stanza_call e s.phase t) in
    stanza_cases Opens e s b a t ts r
    (λ q z. all_open e o.session o.buffers (awaited_behind e o.session.phase t) ts r f (stanza_open e s.phase s b t z)) (λ q z y. absurd (z y)) (λ n q z. k) (λ q z. k)

chunk_open : (e : End) (i : Intake) (b : Buffers) (bytes out : List ℕ) → Open i.session → (chunked e i b bytes out).number ≡ 0 → Open (chunked e i b bytes out).intake.session
chunk_open e i b bytes out k =
    chunk_cases (λ o. o.number ≡ 0 → Open o.intake.session) e i b bytes out
    (λ t h. all_open e i.session b i.awaited (cut i.reading i.kept bytes).texts (cut i.reading i.kept bytes).rest (cut_faulty i.reading i.kept bytes) k) (λ t h z. k) (λ n t h z. k)

reply_open : (i : Intake) (b : Buffers) (r : Response) (body out : List ℕ) → Open i.session → (replied i b r body out).number ≡ 0 → Open (replied i b r body out).intake.session
reply_open i b r body out k =
    reply_cases (λ o. o.number ≡ 0 → Open o.intake.session) i b r body out
    (λ w q t h. all_open client (answered i.session) b [] (cut start [] i.kept).texts (cut start [] i.kept).rest (cut_faulty start [] i.kept) refl) (λ w q t h z. k) (λ n h z. k)

-- an accepted chunk or reply
pub accepted_open : (e : End) (i : Intake) (b : Buffers) (c : Piece) → Open i.session → (outcome_of e i b c).number ≡ 0 → Open (outcome_of e i b c).intake.session
accepted_open client i b (chunk bytes out) k h = chunk_open client i b bytes out k h
accepted_open client i b (reply r body out) k h = reply_open i b r body out k h
accepted_open plugin i b (chunk bytes out) k h = chunk_open plugin i b bytes out k h
accepted_open plugin i b (reply r body out) k h = k

-- ---- replies in a closed session

-- such a call takes nothing
reply_closed : (e : End) (i : Intake) (b : Buffers) (c : Piece) → (is_reply c && is_closed i.session.phase) ≡ true → (n : ℕ) × (out : List ℕ) × (outcome_of e i b c ≡ untaken n i b out)
reply_closed e i b (chunk bytes out) h = absurd (false≢true h)
reply_closed client i b (reply r body out) h = (13, out, due_closed i.session.phase h)
  where
    due_closed : (p : Phase) → is_closed p ≡ true → replied_by (due_in p) i b r body out ≡ untaken 13 i b out
    due_closed One h = absurd (false≢true h)
    due_closed Two h = absurd (false≢true h)
    due_closed (Awaiting w) h = absurd (false≢true h)
    due_closed Ended h = absurd (false≢true h)
    due_closed Closed h = refl
reply_closed plugin i b (reply r body out) h = (14, out, refl)

-- the rest of a list behind a call that takes nothing
untaken_rest : (i : Intake) (b : Buffers) (o : Outcome) (n : ℕ) (out : List ℕ) → o ≡ untaken n i b out → (P : Intake → Buffers → Type 0) → P o.intake o.buffers → P i b
untaken_rest i b o n out e P p = subst (λ (o : Outcome). P o.intake o.buffers) e p

-- what is left and what is written do not change
pub record SameHeard (e : End) (i : Intake) (b : Buffers) (hs cs : List Piece) : Type 0 where
  pub after_is : after e i b hs ≡ after e i b cs
  pub written_is : written e i b hs ≡ written e i b cs

heard_kept : (e : End) (i : Intake) (b : Buffers) (c : Piece) (hs cs : List Piece) → SameHeard e (outcome_of e i b c).intake (outcome_of e i b c).buffers hs cs → SameHeard e i b (c ∷ hs) (c ∷ cs)
unfolding after written
heard_kept e i b c hs cs k = record { after_is = k.after_is; written_is = ap (λ x. take (outcome_of e i b c).size (outcome_of e i b c).output ++ x) k.written_is }

heard_left : (e : End) (i : Intake) (b : Buffers) (c : Piece) (hs cs : List Piece) → (n : ℕ) × (out : List ℕ) × (outcome_of e i b c ≡ untaken n i b out) → SameHeard e i b hs cs → SameHeard e i b hs (c ∷ cs)
unfolding after written
heard_left e i b c hs cs u k = record {
  after_is = k.after_is ∙ sym (ap (λ (o : Outcome). after e o.intake o.buffers cs) u.2);
  written_is = k.written_is ∙ sym (ap (λ (o : Outcome). take o.size o.output ++ written e o.intake o.buffers cs) u.2);
}

pub heard_same : (e : End) (i : Intake) (b : Buffers) (cs : List Piece) → SameHeard e i b (in_time e i b cs) cs
unfolding in_time
heard_same e i b [] = record { after_is = refl; written_is = refl }
heard_same e i b (c ∷ cs) =
    let o = outcome_of e i b c in
    let k = heard_same e o.intake o.buffers cs in
    cases (is_reply c && is_closed i.session.phase)
    (λ f. let u = reply_closed e i b c f in
    rw f (heard_left e i b c (in_time e o.intake o.buffers cs) cs u (untaken_rest i b o u.0 u.1 u.2 (λ j d. SameHeard e j d (in_time e o.intake o.buffers cs) cs) k)))
    (λ f. rw f (heard_kept e i b c (in_time e o.intake o.buffers cs) cs k))

-- and from an open session both are accepted or both refused
pub heard_accepted : (e : End) (i : Intake) (b : Buffers) (cs : List Piece) → Open i.session → AllZero (numbers e i b (in_time e i b cs)) ↔ AllZero (numbers e i b cs)
unfolding in_time numbers AllZero
heard_accepted e i b [] k = (λ a. a, λ a. a)
heard_accepted e i b (c ∷ cs) k =
    let o = outcome_of e i b c in
    let f : (is_reply c && is_closed i.session.phase) ≡ false = ap (λ x. is_reply c && x) k ∙ and_false_right (is_reply c) in
    rw f (
      λ a. (a.0, (heard_accepted e o.intake o.buffers cs (accepted_open e i b c k a.0)).0 a.1),
      λ a. (a.0, (heard_accepted e o.intake o.buffers cs (accepted_open e i b c k a.0)).1 a.1),
    )
