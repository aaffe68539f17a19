-- A text that begins with "-> " goes on with `words`; one that "-> " begins with is over too soon, and any other has a byte that no stanza has there.
use mathlib.Core.Path.{◌≡◌, refl, sym, ◌∙◌}
use mathlib.Core.Bool.{true, false, false≢true, ◌&&◌}
use mathlib.Core.List.{List, [], ◌∷◌}
use Prim.Native.Nat.{ℕ, ◌≤◌}
use lib.Dec.{eqb}
use lib.ListN.{length, take, get_or}
use lib.Pointwise.{pointwise}
use native.Mathlib.Omega.{arith}
use borrow.Author.Tests.{eq-eqb, eqb-true}
use Rattle.refusal.proofs.Laws.Booleans.{and_true, cases}
use Rattle.stanza.specs.Automaton.{start, next, scan, verdict, bad, short}
use Rattle.stanza.proofs.Laws.Automaton.{head3, line3}
use Rattle.stanza.proofs.reading.first_line.Goals as goal

abbrev front : List ℕ
front = 45 ∷ 62 ∷ 32 ∷ []

front_words : (t : List ℕ) → pointwise eqb front (take 3 t) ≡ true → (3 ≤ length t) × (get_or t 0 0 ≡ 45) × (get_or t 1 0 ≡ 62) × (get_or t 2 0 ≡ 32)
front_words [] p = absurd (false≢true p)
front_words (a ∷ []) p = absurd (false≢true (and_true (eqb 45 a) false p).1)
front_words (a ∷ b ∷ []) p = absurd (false≢true (and_true (eqb 62 b) false (and_true (eqb 45 a) (eqb 62 b && false) p).1).1)
front_words (a ∷ b ∷ c ∷ t) p =
    let x = and_true (eqb 45 a) (eqb 62 b && (eqb 32 c && true)) p in
    let y = and_true (eqb 62 b) (eqb 32 c && true) x.1 in
    let z = and_true (eqb 32 c) true y.1 in
    (omega arith, sym (eqb-true 45 a x.0), sym (eqb-true 62 b y.0), sym (eqb-true 32 c z.0))

swap : (a b : ℕ) → eqb b a ≡ true → eqb a b ≡ true
swap a b e = eq-eqb a b (sym (eqb-true b a e))

front_short : (t : List ℕ) → pointwise eqb front (take 3 t) ≡ false → pointwise eqb t (take (length t) front) ≡ true → scan start 0 t ≡ short
unfolding scan next verdict
front_short [] p q = refl
front_short (a ∷ []) p q = rw (and_true (eqb a 45) true q).0
front_short (a ∷ b ∷ []) p q =
    let x = and_true (eqb a 45) (eqb b 62 && true) q in
    rw (x.0, (and_true (eqb b 62) true x.1).0)
front_short (a ∷ b ∷ c ∷ []) p q =
    let x = and_true (eqb a 45) (eqb b 62 && (eqb c 32 && true)) q in
    let y = and_true (eqb b 62) (eqb c 32 && true) x.1 in
    let z = and_true (eqb c 32) true y.1 in
    absurd (false≢true (sym (rw (swap 45 a x.0, swap 62 b y.0, swap 32 c z.0) at p)))
front_short (a ∷ b ∷ c ∷ d ∷ t) p q =
    let x = and_true (eqb a 45) (eqb b 62 && (eqb c 32 && false)) q in
    let y = and_true (eqb b 62) (eqb c 32 && false) x.1 in
    absurd (false≢true (and_true (eqb c 32) false y.1).1)

front_bad : (t : List ℕ) → pointwise eqb front (take 3 t) ≡ false → pointwise eqb t (take (length t) front) ≡ false → scan start 0 t ≡ bad
unfolding scan next verdict
front_bad [] p q = absurd (false≢true (sym q))
front_bad (a ∷ []) p q = cases (eqb a 45) (λ e. absurd (false≢true (sym (rw e at q)))) (λ e. rw e)
front_bad (a ∷ b ∷ []) p q =
    cases (eqb a 45)
    (λ e. cases (eqb b 62) (λ f. absurd (false≢true (sym (rw (e, f) at q)))) (λ f. rw (e, f)))
    (λ e. rw e)
front_bad (a ∷ b ∷ c ∷ t) p q =
    cases (eqb a 45)
    (λ e. cases (eqb b 62)
    (λ f. cases (eqb c 32) (λ g. absurd (false≢true (sym (rw (swap 45 a e, swap 62 b f, swap 32 c g) at p)))) (λ g. rw (e, f, g)))
    (λ f. rw (e, f)))
    (λ e. rw e)

pub returns-then-starts_with : goal.returns-then-starts_with
returns-then-starts_with c =
    let t = c.args.text.now in
    let f = front_words t (sym c.starts_with.ensures.value ∙ c.if-starts_with.true) in
    record {
      text_value = head3 t f.0 f.1 f.2 f.3 ∙ c.words.ensures.text_value;
      ends_at = rw (line3 t f.0 f.1 f.2 f.3) c.words.ensures.ends_at;
    }

pub returns-then-starts_with-2 : goal.returns-then-starts_with-2
returns-then-starts_with-2 c = record {
  text_value = front_short c.args.text.now (sym c.starts_with.ensures.value ∙ c.if-starts_with.false) (sym c.starts_with-2.ensures.value ∙ c.if-starts_with-2.true);
  ends_at = tt;
}

pub returns : goal.returns
returns c = record {
  text_value = front_bad c.args.text.now (sym c.starts_with.ensures.value ∙ c.if-starts_with.false) (sym c.starts_with-2.ensures.value ∙ c.if-starts_with-2.false);
  ends_at = tt;
}
