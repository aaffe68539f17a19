-- A text cut into stanzas: read on, put together again, each stanza and the rest by themselves. The place and the front kept are all that the next byte asks for.
use Prim.Native.Nat.{ℕ, ◌≤◌}
use mathlib.Core.Path.{◌≡◌, refl, sym, ap, ap₂, subst, subst₂, ◌∙◌}
use mathlib.Core.Bool.{Bool, true, false}
use mathlib.Core.Logic.{◌⊎◌, inl, inr}
use mathlib.Core.List.{List, [], ◌∷◌, ◌++◌, append_assoc, append-nil}
use lib.Dec.{ltb}
use lib.ListN.{length, length-append}
use lib.Seq.{append_snoc}
use native.Mathlib.Omega.{arith}
use borrow.Author.Tests.{ltb-true}
use Rattle.refusal.specs.Pick.{pick}
use Rattle.refusal.proofs.Laws.Booleans.{cases}
use Rattle.stanza.specs.Automaton.{State, start, hyphen, arrow, gap, word, line, ended, dead, next, after}
use Rattle.stanza.proofs.Laws.Grammar.{after_append}
use Rattle.conversation.specs.Phases.{All}
use Rattle.chunks.specs.Cutting.{Rest, unfinished, impossible, bytes_of, Cut, onward, front_onward, cut_at, cut}
use Rattle.chunks.specs.Taking.{joined}
use Rattle.chunks.specs.Reached.{IsFront}

-- ---- where a byte leads: behind the stanza's end, to where no stanza goes on, or on

-- a place in the middle of a stanza
pub record Live (v : State) : Type 0 where
  pub at : (f t : List ℕ) (c : Cut) → cut_at v f t c ≡ pick (ltb (length f) 8192) c (record { texts = []; rest = impossible 3 (f ++ t) })
  pub on : onward v ≡ v
  pub front : (f : List ℕ) → front_onward v f ≡ f

-- every place is one of three
pub by_place : (P : State → Type 0) → P ended → P dead → ((v : State) → Live v → P v) → (v : State) → P v
unfolding cut_at
by_place P e d l start = l start (record { at = λ f t c. refl; on = refl; front = λ f. refl })
by_place P e d l hyphen = l hyphen (record { at = λ f t c. refl; on = refl; front = λ f. refl })
by_place P e d l arrow = l arrow (record { at = λ f t c. refl; on = refl; front = λ f. refl })
by_place P e d l gap = l gap (record { at = λ f t c. refl; on = refl; front = λ f. refl })
by_place P e d l word = l word (record { at = λ f t c. refl; on = refl; front = λ f. refl })
by_place P e d l (line k v) = l (line k v) (record { at = λ f t c. refl; on = refl; front = λ f. refl })
by_place P e d l ended = e
by_place P e d l dead = d

-- ---- read on

-- what texts and a rest come to with more bytes behind them: an unfinished front is read on, an impossible rest stays
abbrev pub rest_on : Rest → List (List ℕ) → List ℕ → Cut
rest_on (unfinished q f) ts b = record { texts = ts ++ (cut q f b).texts; rest = (cut q f b).rest }
rest_on (impossible n x) ts b = record { texts = ts; rest = impossible n (x ++ b) }

abbrev pub cut_on : Cut → List ℕ → Cut
cut_on c b = rest_on c.rest c.texts b

rest_more : (f : List ℕ) (r : Rest) (ts : List (List ℕ)) (b : List ℕ) → record { texts = f ∷ (rest_on r ts b).texts; rest = (rest_on r ts b).rest } ≡ rest_on r (f ∷ ts) b
rest_more f (unfinished q g) ts b = refl
rest_more f (impossible n x) ts b = refl

place_on : (f t b : List ℕ) (c : Cut) (v : State) → cut_at v f (t ++ b) (cut_on c b) ≡ cut_on (cut_at v f t c) b
unfolding cut_at
place_on f t b c =
    by_place (λ v. cut_at v f (t ++ b) (cut_on c b) ≡ cut_on (cut_at v f t c) b)
    (rest_more f c.rest c.texts b)
    (ap (λ x. record { texts = []; rest = impossible 1 x }) (sym (append_assoc f t b)))
    (λ v l. l.at f (t ++ b) (cut_on c b) ∙ go (ltb (length f) 8192) ∙ sym (ap (λ x. cut_on x b) (l.at f t c)))
  where
    go : (g : Bool) → pick g (cut_on c b) (record { texts = []; rest = impossible 3 (f ++ (t ++ b)) }) ≡ cut_on (pick g c (record { texts = []; rest = impossible 3 (f ++ t) })) b
    go true = refl
    go false = ap (λ x. record { texts = []; rest = impossible 3 x }) (sym (append_assoc f t b))

-- the cut of a text and more is the text's, read on
pub cut_append : (a b : List ℕ) (q : State) (f : List ℕ) → cut q f (a ++ b) ≡ cut_on (cut q f a) b
unfolding cut
cut_append [] b q f = refl
cut_append (x ∷ a) b q f =
    let v = next q x in
    let g = f ++ (x ∷ []) in
    ap (cut_at v g (a ++ b)) (cut_append a b (onward v) (front_onward v g)) ∙ place_on g a b (cut (onward v) (front_onward v g) a) v

-- .. where the text holds no whole stanza
pub cut_on_lem : (a b : List ℕ) (q p : State) (f g : List ℕ) → cut q f a ≡ record { texts = []; rest = unfinished p g } → cut q f (a ++ b) ≡ cut p g b
cut_on_lem a b q p f g e = cut_append a b q f ∙ ap (λ c. cut_on c b) e

-- ---- put together again

place_joined : (f t : List ℕ) (c : Cut) (v : State) → joined c.texts (bytes_of c.rest) ≡ front_onward v f ++ t → joined (cut_at v f t c).texts (bytes_of (cut_at v f t c).rest) ≡ f ++ t
unfolding cut_at joined
place_joined f t c =
    by_place (λ v. joined c.texts (bytes_of c.rest) ≡ front_onward v f ++ t → joined (cut_at v f t c).texts (bytes_of (cut_at v f t c).rest) ≡ f ++ t)
    (λ h. ap (λ x. f ++ x) h)
    (λ h. refl)
    (λ v l h. ap (λ x. joined x.texts (bytes_of x.rest)) (l.at f t c) ∙ go (ltb (length f) 8192) (h ∙ ap (λ x. x ++ t) (l.front f)))
  where
    either : Bool → Cut
    either g = pick g c (record { texts = []; rest = impossible 3 (f ++ t) })

    go : (g : Bool) → joined c.texts (bytes_of c.rest) ≡ f ++ t → joined (either g).texts (bytes_of (either g).rest) ≡ f ++ t
    go true h = h
    go false h = refl

-- the texts with the rest's bytes are the front and the bytes that were read
pub cut_joined : (x : List ℕ) (q : State) (f : List ℕ) → joined (cut q f x).texts (bytes_of (cut q f x).rest) ≡ f ++ x
unfolding cut joined
cut_joined [] q f = sym (append-nil f)
cut_joined (b ∷ x) q f =
    let v = next q b in
    let g = f ++ (b ∷ []) in
    place_joined g x (cut (onward v) (front_onward v g) x) v (cut_joined x (onward v) (front_onward v g)) ∙ append_snoc f b x

-- ---- each by itself

-- a text that is one whole stanza
pub record IsWhole (t : List ℕ) : Type 0 where
  pub alone : cut start [] t ≡ record { texts = t ∷ []; rest = unfinished start [] }
  pub at_end : after start t ≡ ended
  pub short : length t ≤ 8192

-- the rest by itself: a front, or impossible bytes with the number 1 or 3
abbrev pub IsRest : Rest → Type 0
IsRest (unfinished q f) = IsFront q f
IsRest (impossible n x) = (cut start [] x ≡ record { texts = []; rest = impossible n x }) × ((n ≡ 1) ⊎ (n ≡ 3))

pub record Parts (c : Cut) : Type 0 where
  pub texts : All IsWhole c.texts
  pub rest : IsRest c.rest

-- where reading stands behind a front
pub read_after : (x : List ℕ) (p q : State) (g f : List ℕ) → cut p g x ≡ record { texts = []; rest = unfinished q f } → after p x ≡ q
unfolding cut after cut_at
read_after [] p q g f e = let z : unfinished p g ≡ unfinished q f = ap (λ c. c.rest) e in cc
read_after (b ∷ x) p q g f e = go (next p b) (λ k. read_after x (onward (next p b)) q (front_onward (next p b) (g ++ (b ∷ []))) f k) e
  where
    h : List ℕ
    h = g ++ (b ∷ [])

    go : (v : State) → (cut (onward v) (front_onward v h) x ≡ record { texts = []; rest = unfinished q f } → after (onward v) x ≡ q) →
        cut_at v h x (cut (onward v) (front_onward v h) x) ≡ record { texts = []; rest = unfinished q f } → after v x ≡ q
    go =
        by_place (λ v. (cut (onward v) (front_onward v h) x ≡ record { texts = []; rest = unfinished q f } → after (onward v) x ≡ q) →
        cut_at v h x (cut (onward v) (front_onward v h) x) ≡ record { texts = []; rest = unfinished q f } → after v x ≡ q)
        (λ k e. let z : h ∷ (cut start [] x).texts ≡ [] = ap (λ c. c.texts) e in let n : ◌≡◌ {A = ℕ} 0 1 = cc in absurd (omega arith))
        (λ k e. let z : impossible 1 (h ++ x) ≡ unfinished q f = ap (λ c. c.rest) e in let n : ◌≡◌ {A = ℕ} 0 1 = cc in absurd (omega arith))
        (λ v l k e. ap (λ u. after u x) (sym l.on) ∙ k (pass (ltb (length h) 8192) (cut (onward v) (front_onward v h) x) (sym (l.at h x _) ∙ e)))
      where
        pass : (d : Bool) (c : Cut) → pick d c (record { texts = []; rest = impossible 3 (h ++ x) }) ≡ record { texts = []; rest = unfinished q f } → c ≡ record { texts = []; rest = unfinished q f }
        pass true c e = e
        pass false c e = let z : impossible 3 (h ++ x) ≡ unfinished q f = ap (λ c. c.rest) e in let n : ◌≡◌ {A = ℕ} 0 1 = cc in absurd (omega arith)

-- nothing is a front
pub none_front : IsFront start []
unfolding cut
none_front = record { read = refl; short = omega arith }

module _ (q : State) (f : List ℕ) (h : IsFront q f) (b : ℕ) where
  abbrev g : List ℕ
  g = f ++ (b ∷ [])

  -- a front and one byte more
  one_more : cut start [] g ≡ cut_at (next q b) g [] (record { texts = []; rest = unfinished (onward (next q b)) (front_onward (next q b) g) })
  unfolding cut
  one_more = cut_on_lem f (b ∷ []) start q [] f h.read

  one_more_short : length g ≤ 8192
  one_more_short = rw length-append (omega (arith, h.short))

  one_after : after start g ≡ next q b
  unfolding after
  one_after = after_append start f (b ∷ []) ∙ ap (λ p. next p b) (read_after f start q [] f h.read)

  abbrev behind : State → Cut
  behind v = record { texts = []; rest = unfinished (onward v) (front_onward v g) }

  one_more_at : (v : State) → next q b ≡ v → cut start [] g ≡ cut_at v g [] (behind v)
  one_more_at v e = one_more ∙ ap (λ v. cut_at v g [] (behind v)) e

  -- what is impossible stays so
  impossible_on : (n : ℕ) (x : List ℕ) → cut start [] g ≡ record { texts = []; rest = impossible n (g ++ []) } → cut start [] (g ++ x) ≡ record { texts = []; rest = impossible n (g ++ x) }
  impossible_on n x e = cut_append g x start [] ∙ ap (λ c. cut_on c x) e ∙ ap (λ y. record { texts = []; rest = impossible n (y ++ x) }) (append-nil g)

  more_parts : (x : List ℕ) (v : State) → next q b ≡ v → (IsFront (onward v) (front_onward v g) → Parts (cut (onward v) (front_onward v g) x)) → Parts (cut_at v g x (cut (onward v) (front_onward v g) x))
  unfolding cut_at All
  more_parts x =
      by_place (λ v. next q b ≡ v → (IsFront (onward v) (front_onward v g) → Parts (cut (onward v) (front_onward v g) x)) → Parts (cut_at v g x (cut (onward v) (front_onward v g) x)))
      (λ e k. let p = k none_front in record { texts = (record { alone = one_more_at ended e; at_end = one_after ∙ e; short = one_more_short }, p.texts); rest = p.rest })
      (λ e k. record { texts = tt; rest = (impossible_on 1 x (one_more_at dead e), inl refl) })
      (λ v l e k. subst Parts (sym (l.at g x (cut (onward v) (front_onward v g) x))) (live v l e k))
    where
      live : (v : State) (l : Live v) → next q b ≡ v → (IsFront (onward v) (front_onward v g) → Parts (cut (onward v) (front_onward v g) x)) →
          Parts (pick (ltb (length g) 8192) (cut (onward v) (front_onward v g) x) (record { texts = []; rest = impossible 3 (g ++ x) }))
      live v l e k =
          let r = one_more_at v e ∙ l.at g [] (behind v) in
          cases (ltb (length g) 8192)
          (λ t. rw t
          (k (subst₂ IsFront (sym l.on) (sym (l.front g)) (record {
            read = r ∙ ap (λ d. pick d (behind v) (record { texts = []; rest = impossible 3 (g ++ []) })) t ∙ ap₂ (λ p y. record { texts = []; rest = unfinished p y }) l.on (l.front g);
            short = omega (arith, ltb-true (length g) 8192 t);
          }))))
          (λ t. rw t (record { texts = tt; rest = (impossible_on 3 x (r ∙ ap (λ d. pick d (behind v) (record { texts = []; rest = impossible 3 (g ++ []) })) t), inr refl) }))

-- each text is a whole stanza by itself, and so is the rest
pub cut_parts : (x : List ℕ) (q : State) (f : List ℕ) → IsFront q f → Parts (cut q f x)
unfolding cut All
cut_parts [] q f h = record { texts = tt; rest = h }
cut_parts (b ∷ x) q f h = more_parts q f h b x (next q b) refl (cut_parts x (onward (next q b)) (front_onward (next q b) (f ++ (b ∷ []))))
