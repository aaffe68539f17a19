-- However the input is cut, it is judged alike: chunk after chunk comes to what all in one come to.
use Prim.Native.Nat.{ℕ}
use mathlib.Core.Path.{◌≡◌, refl, sym, ap, ap₂, ◌∙◌}
use mathlib.Core.Bool.{false, false≢true}
use mathlib.Core.Logic.{⊎_elim}
use mathlib.Core.List.{List, [], ◌∷◌, ◌++◌}
use lib.Dec.{eqb}
use lib.ListN.{length}
use native.Mathlib.Omega.{arith}
use Rattle.session.specs.Session.{Session}
use Rattle.session.specs.declared.phases.Phase.{Phase}
use Rattle.session.specs.declared.phases.Phase.TheVariants.{One, Two, Awaiting, Ended, Closed}
use Rattle.conversation.specs.Kinds.{Buffers}
use Rattle.conversation.proofs.Laws.Refusals.{either}
use Rattle.chunks.specs.Cutting.{unfinished, cut}
use Rattle.chunks.specs.Taking.{client, plugin, drops, turn_at, Intake, Taken, no_more, joined, taken_rest, taken_all}
use Rattle.chunks.specs.Chunks.{Outcome, taken, turn_of, chunked}
use Rattle.chunks.specs.Uncut.{is_waiting, is_closed}
use Rattle.chunks.proofs.Laws.Cases.{chunk_cases}
use Rattle.chunks.proofs.Laws.Cut.{chunk_refused}
use Rattle.chunks.proofs.Laws.PhaseOne.{QuietChunk, quiet_chunk}
use Rattle.chunks.proofs.Laws.Reached.{Keeps, chunk_keeps, emptied_settled}
use Rattle.chunks.proofs.Laws.Texts.{front_dropped}
use Rattle.chunks.proofs.Laws.Together.{Joint, joint}
use Rattle.judging.specs.Judging.{Standing, going, stopped, State, counted, behind_phase, behind_chunk, judged_from, judged_all, start, judged_text}

-- ---- where bytes are dropped a chunk changes neither session nor buffers

record Stays (i : Intake) (b : Buffers) (o : Outcome) : Type 0 where
  pub session : o.intake.session ≡ i.session
  pub buffers : o.buffers ≡ b

stays : (i : Intake) (b : Buffers) (bytes out : List ℕ) (n : ℕ) → turn_at plugin i.session.phase ≡ drops n → Stays i b (chunked plugin i b bytes out)
stays i b bytes out n t =
    chunk_cases (Stays i b) plugin i b bytes out
    (λ z h. let q = front_dropped plugin i.session b i.awaited n t bytes i.reading i.kept in record {
      session = ap (λ (x : Taken). x.intake.session) q ∙ either (λ (x : Taken). x.intake.session ≡ i.session) (eqb (length (i.kept ++ bytes)) 0) _ _ refl refl;
      buffers = ap (λ (x : Taken). x.buffers) q ∙ either (λ (x : Taken). x.buffers ≡ b) (eqb (length (i.kept ++ bytes)) 0) _ _ refl refl;
    })
    (λ z h. record { session = refl; buffers = refl }) (λ m z h. record { session = refl; buffers = refl })

-- ---- two chunks

-- judging may go on: in phase one, with what a session can keep
pub record Judgeable (i : Intake) : Type 0 where
  pub keeps : Keeps plugin i
  pub first : i.session.phase ≡ One

abbrev pub MayJudge : Standing → Type 0
MayJudge (going i) = Judgeable i
MayJudge (stopped x) = Unit

module _ (i : Intake) (b : Buffers) (x y : List ℕ) (h : Judgeable i) where
  abbrev first : Outcome
  first = chunked plugin i b x []

  abbrev second : Outcome
  second = chunked plugin first.intake first.buffers y []

  abbrev whole : Outcome
  whole = chunked plugin i b (x ++ y) []

  abbrev state : Outcome → State
  state o = record { standing = behind_chunk o; buffers = o.buffers }

  quiet_first : (bytes : List ℕ) → QuietChunk (chunked plugin i b bytes [])
  quiet_first bytes = quiet_chunk i b bytes [] (ap (is_waiting client) h.first) (ap is_closed h.first) (h.keeps.settled.front refl).short

  keeps_first : Keeps plugin first.intake
  keeps_first = chunk_keeps plugin i b x [] h.keeps

  abbrev phase : Phase
  phase = first.intake.session.phase

  -- the second is not refused with 15
  second_15 : is_closed phase ≡ false → second.number ≡ 15 → ⊥
  second_15 c = (quiet_chunk first.intake first.buffers y [] (quiet_first x).due c (keeps_first.settled.front refl).short).not_15

  both : (second.number ≡ 15 → ⊥) → Joint plugin i b x y [] [] []
  both k = joint plugin i b x y [] [] [] (record { bound = h.keeps.bound; front = h.keeps.settled.front }) (quiet_first x).not_15 k (quiet_first (x ++ y)).not_15 refl

  -- behind done, and in a closed session, nothing changes
  over : (n : ℕ) → turn_at plugin phase ≡ drops n → (second.number ≡ 15 → ⊥) → (whole.intake.session ≡ first.intake.session) × (whole.buffers ≡ first.buffers)
  over n t k =
      let j = (both k).together in
      let q = stays first.intake first.buffers y [] n t in
      (sym (ap (λ (i : Intake). i.session) j.intake) ∙ q.session, sym j.buffers ∙ q.buffers)

  -- stopped at done
  done_alike : (p : Phase) → phase ≡ p → (n : ℕ) → turn_at plugin phase ≡ drops n → is_closed phase ≡ false → ((m : ℕ) (j : Intake) → behind_phase p m j ≡ stopped (counted j.session.tables 0)) →
      record { standing = stopped (counted first.intake.session.tables 0); buffers = first.buffers } ≡ state whole
  done_alike p q n t c f =
      let o = over n t (second_15 c) in
      ap₂ (λ (s : Session) (b : Buffers). record { standing = stopped (counted s.tables 0); buffers = b }) (sym o.0) (sym o.1)
      ∙ ap (λ (d : Standing). record { standing = d; buffers = whole.buffers })
      (sym (ap (λ p. behind_phase p whole.number whole.intake) (ap (λ (s : Session). s.phase) o.0 ∙ q) ∙ f whole.number whole.intake))

  -- stopped at a refusal
  closed_15 : phase ≡ Closed → second.number ≡ 15 → ⊥
  closed_15 q z =
      let k : ◌≡◌ {A = ℕ} 13 15 = sym (ap (λ (o : Outcome). o.number) (chunk_refused plugin first.intake first.buffers 13 y [] (ap (turn_of plugin) q) refl)) ∙ z in
      omega (arith, k)

  closed_number : phase ≡ Closed → whole.number ≡ first.number
  closed_number q = ⊎_elim (λ h. absurd ((quiet_first x).closing (ap is_closed q) h)) (λ h. h) (both (closed_15 q)).first_number

  closed_alike : phase ≡ Closed → record { standing = stopped (counted first.intake.session.tables first.number); buffers = first.buffers } ≡ state whole
  closed_alike q =
      let o = over 13 (ap (turn_at plugin) q) (closed_15 q) in
      ap₂ (λ (s : Session) (b : Buffers). record { standing = stopped (counted s.tables first.number); buffers = b }) (sym o.0) (sym o.1)
      ∙ ap (λ n. record { standing = stopped (counted whole.intake.session.tables n); buffers = whole.buffers }) (sym (closed_number q))
      ∙ ap (λ (d : Standing). record { standing = d; buffers = whole.buffers })
      (sym (ap (λ p. behind_phase p whole.number whole.intake) (ap (λ (s : Session). s.phase) o.0 ∙ q)))

  by_phase : (p : Phase) → phase ≡ p → judged_from (behind_phase p first.number first.intake) first.buffers y ≡ state whole
  by_phase One q =
      let j = both (second_15 (ap is_closed q)) in
      ap₂ (λ (i : Intake) n. record { standing = behind_phase i.session.phase n i; buffers = second.buffers }) j.together.intake (j.number (ap (turn_at plugin) q))
      ∙ ap (λ (b : Buffers). record { standing = behind_chunk whole; buffers = b }) j.together.buffers
  by_phase Two q = done_alike Two q 14 (ap (turn_at plugin) q) (ap is_closed q) (λ m j. refl)
  by_phase (Awaiting w) q = absurd (false≢true (sym (quiet_first x).due ∙ ap (is_waiting client) q))
  by_phase Ended q = done_alike Ended q 13 (ap (turn_at plugin) q) (ap is_closed q) (λ m j. refl)
  by_phase Closed q = closed_alike q

  -- one chunk and then another, and both in one
  pub judged_two : let r = judged_from (going i) b x in judged_from r.standing r.buffers y ≡ judged_from (going i) b (x ++ y)
  judged_two = by_phase phase refl

  -- and behind the first judging may go on, if it does
  pub going_on : MayJudge (behind_chunk first)
  going_on = by_going phase refl
    where
      by_going : (p : Phase) → phase ≡ p → MayJudge (behind_phase p first.number first.intake)
      by_going One q = record { keeps = keeps_first; first = q }
      by_going Two q = tt
      by_going (Awaiting w) q = tt
      by_going Ended q = tt
      by_going Closed q = tt

-- ---- any cut

-- no bytes change nothing
record Unchanged (i : Intake) (b : Buffers) (o : Outcome) : Type 0 where
  pub intake : o.intake ≡ i
  pub buffers : o.buffers ≡ b

none_taken : (i : Intake) (b : Buffers) → i.session.phase ≡ One → Unchanged i b (chunked plugin i b [] [])
unfolding cut taken_all
none_taken i b h =
    let q : taken plugin i b [] ≡ no_more 0 i b = ap (λ p. taken_rest (turn_at plugin p) i.session b i.awaited (unfinished i.reading i.kept)) h in
    chunk_cases (Unchanged i b) plugin i b [] []
    (λ t z. record { intake = ap (λ (x : Taken). x.intake) q; buffers = ap (λ (x : Taken). x.buffers) q })
    (λ t z. record { intake = refl; buffers = refl }) (λ n t z. record { intake = refl; buffers = refl })

abbrev state_in : Phase → ℕ → Intake → Buffers → State
state_in p n i b = record { standing = behind_phase p n i; buffers = b }

none_judged : (d : Standing) (b : Buffers) → MayJudge d → record { standing = d; buffers = b } ≡ judged_from d b []
none_judged (going i) b h =
    let o = chunked plugin i b [] [] in
    let u = none_taken i b h.first in
    ap (λ p. state_in p o.number i b) (sym h.first) ∙ ap₂ (λ (j : Intake) c. state_in j.session.phase o.number j c) (sym u.intake) (sym u.buffers)
none_judged (stopped x) b h = refl

from_all : (ts : List (List ℕ)) (d : Standing) (b : Buffers) → MayJudge d → judged_all d b ts ≡ judged_from d b (joined ts [])
unfolding judged_all joined
from_all [] d b h = none_judged d b h
from_all (t ∷ ts) (stopped x) b h = from_all ts (stopped x) b h
from_all (t ∷ ts) (going i) b h =
    let r = judged_from (going i) b t in
    from_all ts r.standing r.buffers (going_on i b t [] h) ∙ judged_two i b t (joined ts []) h

-- "however a conversation is cut": chunk after chunk is judged as the whole text
pub any_cut : (b : Buffers) (ts : List (List ℕ)) → judged_all (going start) b ts ≡ judged_text b (joined ts [])
any_cut b ts = from_all ts (going start) b (record {
  keeps = record { settled = emptied_settled plugin start.session [] (record { none = λ h. refl; whole = λ h. absurd (false≢true h) }); bound = omega arith };
  first = refl;
})
