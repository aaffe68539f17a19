-- What stands behind the stanzas that were taken: what it comes to, by whose turn it is.
use Prim.Native.Nat.{ℕ, ◌+◌}
use mathlib.Core.Path.{◌≡◌, sym, ap, ap₂, subst, ◌∙◌}
use mathlib.Core.Bool.{true, false}
use mathlib.Core.List.{List, [], append-nil}
use lib.Dec.{eqb}
use lib.ListN.{length}
use native.Mathlib.Omega.{arith}
use Rattle.stanza.specs.Automaton.{State, start}
use Rattle.stanza.specs.Resuming.{continued}
use Rattle.stanza.specs.Resuming as resuming
use Rattle.session.specs.Session.{Session, closed}
use Rattle.session.specs.declared.phases.Phase.{Phase}
use Rattle.conversation.specs.Kinds.{Buffers}
use Rattle.conversation.proofs.Laws.RowsTwo.{no_bytes}
use Rattle.chunks.specs.Taking.{End, Turn, reads, drops, keeps_back, turn_at, Intake, Last, no_more, emptied, keeping, taken_all, taken_text, behind}
use Rattle.chunks.specs.Uncut.{is_waiting}
use Rattle.chunks.proofs.Laws.Cases.{keeps_not_reads, keeps_not_drops}
use Rattle.chunks.proofs.Laws.Fronts.{front_unfinished, front_refused}
use Rattle.chunks.proofs.Laws.Taking.{turn_says}
use Rattle.chunks.proofs.Laws.Texts.{taken_cut, text_dropped}
use Rattle.intake.specs.Settling.{MaySettle}

-- ---- whether a reply is due

pub reads_waits : (e : End) (p : Phase) → turn_at e p ≡ reads → is_waiting e p ≡ false
reads_waits e p t = (turn_says e p).waits (λ h. keeps_not_reads (sym h ∙ t))

pub drops_waits : (e : End) (p : Phase) (n : ℕ) → turn_at e p ≡ drops n → is_waiting e p ≡ false
drops_waits e p n t = (turn_says e p).waits (λ h. keeps_not_drops n (sym h ∙ t))

-- no text waits where nothing is kept back
pub may_settle : (e : End) (p : Phase) (t u : Turn) (a rest input : List ℕ) → t ≡ u → (u ≡ keeps_back → ⊥) → MaySettle e p t a rest input →
    (a ≡ []) × MaySettle e p u [] rest input
may_settle e p t u a rest input h n m =
    let z : a ≡ [] = m.none_waits (λ k. n (sym h ∙ k)) in
    (z, subst (λ x. MaySettle e p u x rest input) z (subst (λ t. MaySettle e p t a rest input) h m))

-- ---- what the rest comes to

-- no stanza behind n others
pub behind_last : (n : ℕ) (l : Last) (w : List ℕ) (m : ℕ) (i : Intake) (b : Buffers) →
    behind n l w (no_more m i b) ≡ record { number = m; count = n; last = l; written = w; intake = i; buffers = b }
behind_last n l w m i b =
    let z : n + 0 ≡ n = omega arith in
    ap₂ (λ k v. record { number = m; count = k; last = l; written = v; intake = i; buffers = b }) z (append-nil w)

module _ (e : End) (s : Session) (b : Buffers) (rest : List ℕ) (turn : turn_at e s.phase ≡ reads) where
  -- the front of an unfinished stanza
  pub rest_kept : (v : State) → continued start 0 rest ≡ resuming.unfinished v → taken_text e s b [] rest ≡ no_more 0 (keeping s v rest []) b
  unfolding taken_all
  rest_kept v h = ap (taken_cut e s b []) (front_unfinished start v [] rest h) ∙ rw turn

  -- nothing is left
  pub rest_over : length rest ≡ 0 → taken_text e s b [] rest ≡ no_more 0 (emptied s []) b
  unfolding continued
  rest_over l = rest_kept start (ap (continued start 0) (no_bytes rest l)) ∙ ap (λ x. no_more 0 (keeping s start x []) b) (no_bytes rest l)

  -- bytes that no stanza begins with
  pub rest_closes : (m : ℕ) → continued start 0 rest ≡ resuming.refused m → taken_text e s b [] rest ≡ no_more m (emptied (closed s) []) b
  unfolding taken_all
  rest_closes m h = ap (taken_cut e s b []) (front_refused start [] rest m (omega arith) h) ∙ rw turn

module _ (e : End) (s : Session) (b : Buffers) (rest : List ℕ) (n : ℕ) (turn : turn_at e s.phase ≡ drops n) where
  -- no bytes to drop
  pub rest_none : eqb (length rest) 0 ≡ true → taken_text e s b [] rest ≡ no_more 0 (emptied s []) b
  rest_none z = text_dropped e s b [] n turn rest ∙ rw z

  -- some
  pub rest_some : eqb (length rest) 0 ≡ false → taken_text e s b [] rest ≡ no_more n (emptied s []) b
  rest_some z = text_dropped e s b [] n turn rest ∙ rw z
