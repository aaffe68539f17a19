-- No. 2 is of the end of the input alone: every stanza that is cut off is a whole one, so none is refused with 2.
use Prim.Native.Nat.{ℕ}
use mathlib.Core.Path.{◌≡◌, refl, sym, ap, subst, ◌∙◌}
use mathlib.Core.Bool.{false}
use mathlib.Core.Logic.{◌⊎◌, inl, inr, ⊎_elim, ◌↔◌}
use mathlib.Core.List.{List, []}
use lib.Dec.{T}
use native.Mathlib.Omega.{arith}
use Rattle.stanza.specs.Automaton.{State, start}
use Rattle.stanza.specs.Reading.{stanza, refused}
use Rattle.responses.specs.declared.Response.{Response}
use Rattle.session.specs.declared.words.WordTwo.{WordTwo}
use Rattle.session.specs.declared.phases.Phase.{Phase}
use Rattle.session.specs.declared.phases.Phase.TheVariants.{One, Two, Awaiting, Ended, Closed}
use Rattle.session.specs.Phases.{closes}
use Rattle.session.specs.Session.{Session}
use Rattle.conversation.specs.Kinds.{Buffers}
use Rattle.conversation.specs.TurnsTwo.{answered}
use Rattle.conversation.proofs.Laws.Lists.{all_weaker}
use Rattle.chunks.specs.Cutting.{cut}
use Rattle.chunks.specs.Taking.{End, client, plugin, Intake, taken_all}
use Rattle.chunks.specs.Chunks.{turn_of, chunked, replied, finished}
use Rattle.chunks.specs.Uncut.{is_waiting}
use Rattle.chunks.specs.Reached.{IsFront}
use Rattle.chunks.proofs.Laws.Cases.{is_turned, chunk_cases, is_untaken, reply_cases}
use Rattle.chunks.proofs.Laws.Numbers.{Readable, cut_faulty, all_number}
use Rattle.chunks.proofs.Laws.Cutting.{IsWhole, none_front, cut_parts}
use Rattle.chunks.proofs.Laws.Stanzas.{whole_read}

abbrev NotTwo : ℕ → Type 0
NotTwo n = n ≡ 2 → ⊥

low_not_two : (n : ℕ) → T (closes n) → NotTwo n
low_not_two n h e = subst (λ n. T (closes n)) e h

whole_not_two : (t : List ℕ) → IsWhole t → Readable NotTwo low_not_two t
whole_not_two t w m h e = let r = whole_read t w in let z : stanza r.line r.body _ ≡ refused m = sym r.read ∙ h in let y : ◌≡◌ {A = ℕ} 0 1 = cc in omega arith

-- what a text that is read on from a front comes to
cut_not_two : (e : End) (s : Session) (b : Buffers) (a : List ℕ) (q : State) (front bytes : List ℕ) → IsFront q front → (taken_all e s b a (cut q front bytes).texts (cut q front bytes).rest).number ≡ 2 → ⊥
cut_not_two e s b a q front bytes h =
    all_number NotTwo low_not_two (λ e. omega arith) (λ e. omega arith) e s b a (cut q front bytes).texts (cut q front bytes).rest
    (all_weaker whole_not_two (cut q front bytes).texts (cut_parts bytes q front h).texts) (cut_faulty q front bytes)

-- where a chunk is taken nothing waits
pub turn_not_waiting : (e : End) (p : Phase) → turn_of e p ≡ 0 → is_waiting e p ≡ false
turn_not_waiting client One e = refl
turn_not_waiting client Two e = refl
turn_not_waiting client (Awaiting w) e = absurd (omega arith)
turn_not_waiting client Ended e = refl
turn_not_waiting client Closed e = refl
turn_not_waiting plugin p e = refl

-- no chunk gives 2, where what is kept of a stanza was read as far as is noted
pub chunk_not_two : (e : End) (i : Intake) (b : Buffers) (bytes out : List ℕ) → (is_waiting e i.session.phase ≡ false → IsFront i.reading i.kept) → (chunked e i b bytes out).number ≡ 2 → ⊥
chunk_not_two e i b bytes out k =
    chunk_cases (λ o. o.number ≡ 2 → ⊥) e i b bytes out
    (λ t h. cut_not_two e i.session b i.awaited i.reading i.kept bytes (k (turn_not_waiting e i.session.phase t)))
    (λ t h z. omega arith) (λ n t h z. subst (λ n. T (is_turned n)) z h)

-- no reply does, whatever was kept back
pub reply_not_two : (i : Intake) (b : Buffers) (r : Response) (body out : List ℕ) → (replied i b r body out).number ≡ 2 → ⊥
reply_not_two i b r body out =
    reply_cases (λ o. o.number ≡ 2 → ⊥) i b r body out (λ w q t h. cut_not_two client (answered i.session) b [] start [] i.kept none_front)
    (λ w q t h z. omega arith) (λ n h z. subst (λ n. T (is_untaken n)) z h)

-- ---- the end of the input

-- 2 exactly in phases one and two, where a reply is due too
pub finished_two : (p : Phase) → (finished p ≡ 2) ↔ ((p ≡ One) ⊎ ((p ≡ Two) ⊎ ((w : WordTwo) × (p ≡ Awaiting w))))
finished_two One = (λ e. inl refl, λ e. refl)
finished_two Two = (λ e. inr (inl refl), λ e. refl)
finished_two (Awaiting w) = (λ e. inr (inr (w, refl)), λ e. refl)
finished_two Ended = (
  λ e. absurd (omega arith),
  λ d. absurd (⊎_elim (λ e. let z : ◌≡◌ {A = ℕ} 0 1 = cc in omega arith) (λ d. ⊎_elim (λ e. let z : ◌≡◌ {A = ℕ} 0 1 = cc in omega arith) (λ w. let e = w.1 in let z : ◌≡◌ {A = ℕ} 0 1 = cc in omega arith) d) d),
)
finished_two Closed = (
  λ e. absurd (omega arith),
  λ d. absurd (⊎_elim (λ e. let z : ◌≡◌ {A = ℕ} 0 1 = cc in omega arith) (λ d. ⊎_elim (λ e. let z : ◌≡◌ {A = ℕ} 0 1 = cc in omega arith) (λ w. let e = w.1 in let z : ◌≡◌ {A = ℕ} 0 1 = cc in omega arith) d) d),
)

-- accepted exactly in a session that has ended
pub finished_zero : (p : Phase) → (finished p ≡ 0) ↔ (p ≡ Ended)
finished_zero p = (only p, λ e. ap finished e)
  where
    only : (p : Phase) → finished p ≡ 0 → p ≡ Ended
    only One e = absurd (omega arith)
    only Two e = absurd (omega arith)
    only (Awaiting w) e = absurd (omega arith)
    only Ended e = refl
    only Closed e = absurd (omega arith)

-- 13 exactly in a closed one
pub finished_closed : (p : Phase) → (finished p ≡ 13) ↔ (p ≡ Closed)
finished_closed p = (only p, λ e. ap finished e)
  where
    only : (p : Phase) → finished p ≡ 13 → p ≡ Closed
    only One e = absurd (omega arith)
    only Two e = absurd (omega arith)
    only (Awaiting w) e = absurd (omega arith)
    only Ended e = absurd (omega arith)
    only Closed e = refl
