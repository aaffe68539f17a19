-- Lists of chunks and replies, one behind the other: the second list gets what the first one left, so what they leave, write and give is joined.
use Prim.Native.Nat.{ℕ, ◌≤◌}
use mathlib.Core.Path.{◌≡◌, refl, sym, ap, subst, ◌∙◌}
use mathlib.Core.Bool.{false}
use mathlib.Core.Logic.{◌↔◌}
use mathlib.Core.List.{List, [], ◌∷◌, ◌++◌, append_assoc}
use lib.Dec.{leb}
use lib.ListN.{length, take}
use borrow.Author.Tests.{le-leb, leb-true}
use Rattle.refusal.specs.Pick.{pick}
use Rattle.refusal.proofs.Laws.Booleans.{and_true, true_and, cases}
use Rattle.conversation.specs.Calls.{AllZero}
use Rattle.conversation.specs.Kinds.{Buffers}
use Rattle.conversation.proofs.Laws.StepsTwo.{all_written}
use Rattle.chunks.specs.Taking.{End, Intake, Taken}
use Rattle.chunks.specs.Chunks.{Outcome, untaken, is_held, judged}
use Rattle.chunks.specs.Uncut.{Piece, outcome_of, after, numbers, written, is_closed, closing, NoneHeldUp}
use Rattle.chunks.proofs.Laws.Cases.{held}

-- calls lead from one place to another, give no 14 and no 15 and write v; where they close the session, n is the number
pub record Runs (e : End) (i : Intake) (b : Buffers) (xs : List Piece) (n : ℕ) (i' : Intake) (b' : Buffers) (v : List ℕ) : Type 0 where
  pub leads : (ys : List Piece) → after e i b (xs ++ ys) ≡ after e i' b' ys
  pub writes : (ys : List Piece) → written e i b (xs ++ ys) ≡ v ++ written e i' b' ys
  pub passes : (ys : List Piece) → NoneHeldUp (numbers e i' b' ys) → NoneHeldUp (numbers e i b (xs ++ ys))
  pub closes_as : is_closed i.session.phase ≡ false → (ys : List Piece) → closing e i b (xs ++ ys) ≡ pick (is_closed i'.session.phase) n (closing e i' b' ys)

pub run_none : (e : End) (i : Intake) (b : Buffers) (n : ℕ) → Runs e i b [] n i b []
run_none e i b n = record { leads = λ ys. refl; writes = λ ys. refl; passes = λ ys h. h; closes_as = λ h ys. rw h }

pub run_one : (e : End) (i : Intake) (b : Buffers) (c : Piece) (o : Outcome) → outcome_of e i b c ≡ o → (o.number ≡ 14 → ⊥) → (o.number ≡ 15 → ⊥) →
    Runs e i b (c ∷ []) o.number o.intake o.buffers (take o.size o.output)
unfolding after written numbers closing NoneHeldUp
run_one e i b c o q f g = record {
  leads = λ ys. ap (λ (o : Outcome). after e o.intake o.buffers ys) q;
  writes = λ ys. ap (λ (o : Outcome). take o.size o.output ++ written e o.intake o.buffers ys) q;
  passes = λ ys h. subst (λ (o : Outcome). NoneHeldUp (o.number ∷ numbers e o.intake o.buffers ys)) (sym q) ((f, g), h);
  closes_as = λ h ys. ap (λ (o : Outcome). pick (is_closed o.intake.session.phase) o.number (closing e o.intake o.buffers ys)) q;
}

module _ (e : End) {i : Intake} {b : Buffers} {xs : List Piece} {n : ℕ} {i₁ : Intake} {b₁ : Buffers} {v : List ℕ} where
  pub run_join : {ys : List Piece} {m : ℕ} {i₂ : Intake} {b₂ : Buffers} {u : List ℕ} → Runs e i b xs n i₁ b₁ v → (is_closed i.session.phase ≡ false → is_closed i₁.session.phase ≡ false) → Runs e i₁ b₁ ys m i₂ b₂ u →
      Runs e i b (xs ++ ys) m i₂ b₂ (v ++ u)
  run_join {ys} {m} {i₂} {b₂} {u} r h q = record {
    leads = λ zs. ap (after e i b) (append_assoc xs ys zs) ∙ r.leads (ys ++ zs) ∙ q.leads zs;
    writes = λ zs. ap (written e i b) (append_assoc xs ys zs) ∙ r.writes (ys ++ zs) ∙ ap (λ x. v ++ x) (q.writes zs) ∙ sym (append_assoc v u (written e i₂ b₂ zs));
    passes = λ zs k. subst (λ x. NoneHeldUp (numbers e i b x)) (sym (append_assoc xs ys zs)) (r.passes (ys ++ zs) (q.passes zs k));
    closes_as = λ k zs. ap (closing e i b) (append_assoc xs ys zs) ∙ r.closes_as k (ys ++ zs) ∙ ap (λ f. pick f n (closing e i₁ b₁ (ys ++ zs))) (h k) ∙ q.closes_as (h k) zs;
  }

-- ---- calls that are accepted

-- calls lead from one place to another; they and those behind them are accepted where k is 0 and those behind them are
pub record Tally (e : End) (i : Intake) (b : Buffers) (xs : List Piece) (k : ℕ) (i' : Intake) (b' : Buffers) : Type 0 where
  pub all_zero : (ys : List Piece) → AllZero (numbers e i b (xs ++ ys)) ↔ ((k ≡ 0) × AllZero (numbers e i' b' ys))

pub tally_none : (e : End) (i : Intake) (b : Buffers) → Tally e i b [] 0 i b
tally_none e i b = record { all_zero = λ ys. (λ h. (refl, h), λ h. h.1) }

pub tally_one : (e : End) (i : Intake) (b : Buffers) (c : Piece) (o : Outcome) → outcome_of e i b c ≡ o → Tally e i b (c ∷ []) o.number o.intake o.buffers
unfolding numbers AllZero
tally_one e i b c o q = record { all_zero = λ ys. subst (λ (o : Outcome). AllZero (numbers e i b (c ∷ ys)) ↔ ((o.number ≡ 0) × AllZero (numbers e o.intake o.buffers ys))) q (λ h. h, λ h. h) }

pub tally_join : (e : End) {i i₁ i₂ : Intake} {b b₁ b₂ : Buffers} {xs ys : List Piece} {m : ℕ} → Tally e i b xs 0 i₁ b₁ → Tally e i₁ b₁ ys m i₂ b₂ → Tally e i b (xs ++ ys) m i₂ b₂
tally_join e {i} {b = b} {xs = xs} {ys} {m} p q = record {
  all_zero = λ zs. (
    λ h. (q.all_zero zs).0 ((p.all_zero (ys ++ zs)).0 (subst (λ x. AllZero (numbers e i b x)) (append_assoc xs ys zs) h)).1,
    λ h. subst (λ x. AllZero (numbers e i b x)) (sym (append_assoc xs ys zs)) ((p.all_zero (ys ++ zs)).1 (refl, (q.all_zero zs).1 h)),
  );
}

-- ---- a call that is not refused with 15

-- it is held where what is written fits and what is kept is no more than 8,192 bytes
pub judged_held : (i : Intake) (b : Buffers) (out : List ℕ) (r : Taken) → length r.written ≤ length out → length r.intake.kept ≤ 8192 → judged i b out r ≡ held out r
judged_held i b out r f k = ap (λ h. pick h (held out r) (untaken 15 i b out)) (true_and _ _ (le-leb (length r.written) (length out) f) (le-leb (length r.intake.kept) 8192 k))

pub judged_not_15 : (i : Intake) (b : Buffers) (out : List ℕ) (r : Taken) → ((judged i b out r).number ≡ 15 → ⊥) → (judged i b out r ≡ held out r) × (length r.written ≤ length out)
judged_not_15 i b out r h =
    cases (is_held r out)
    (λ f. (ap (λ h. pick h (held out r) (untaken 15 i b out)) f, leb-true (length r.written) (length out) (and_true (leb (length r.written) (length out)) _ f).0))
    (λ f. absurd (h (ap (λ h. (pick h (held out r) (untaken 15 i b out)).number) f)))

-- its run
pub run_held : (e : End) (i : Intake) (b : Buffers) (c : Piece) (out : List ℕ) (r : Taken) → outcome_of e i b c ≡ held out r → length r.written ≤ length out →
    (r.number ≡ 14 → ⊥) → (r.number ≡ 15 → ⊥) → Runs e i b (c ∷ []) r.number r.intake r.buffers r.written
run_held e i b c out r q l f g = subst (Runs e i b (c ∷ []) r.number r.intake r.buffers) (all_written r.written out l) (run_one e i b c (held out r) q f g)
