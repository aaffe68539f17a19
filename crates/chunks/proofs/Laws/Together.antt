-- A chunk and then another come to what both in one come to: the first one's stanzas are taken whatever stands behind them, and its rest is read on.
use Prim.Native.Nat.{ℕ, ◌≤◌}
use mathlib.Core.Path.{◌≡◌, refl, sym, ap, ap₂, subst, ◌∙◌}
use mathlib.Core.Bool.{Bool, true, false, false≢true}
use mathlib.Core.Logic.{◌⊎◌, inl, inr, ⊎_elim}
use mathlib.Core.List.{List, [], ◌∷◌, ◌++◌, append_assoc, append-nil}
use lib.Dec.{eqb}
use lib.ListN.{length, take}
use native.Mathlib.Omega.{arith}
use borrow.Author.Tests.{eqb-true, eqb-false, ne_eqb}
use Rattle.refusal.specs.Pick.{pick}
use Rattle.refusal.proofs.Laws.Booleans.{cases}
use Rattle.stanza.specs.Automaton.{start}
use Rattle.session.specs.Session.{Session, closed}
use Rattle.conversation.specs.Calls.{outcome, written_by}
use Rattle.conversation.specs.Kinds.{Buffers}
use Rattle.conversation.specs.Phases.{All}
use Rattle.conversation.proofs.Laws.StepsTwo.{all_written}
use Rattle.chunks.specs.Cutting.{Cut, Rest, unfinished, impossible, bytes_of, cut}
use Rattle.chunks.specs.Taking.{End, Turn, reads, drops, keeps_back, turn_at, stanza_call, awaited_behind, Intake, Taken, no_more, emptied, keeping, one_more, taken_rest, joined, taken_by, taken_all, last_in}
use Rattle.chunks.specs.Chunks.{Outcome, untaken, is_held, judged, taken, turn_of, chunked}
use Rattle.chunks.specs.Uncut.{is_waiting, Together}
use Rattle.chunks.specs.Reached.{Bounded}
use Rattle.chunks.proofs.Laws.Cutting.{rest_on, cut_append, IsWhole, cut_parts}
use Rattle.chunks.proofs.Laws.Stanzas.{stepped}
use Rattle.chunks.proofs.Laws.Cases.{drops_not_reads, held}
use Rattle.chunks.proofs.Laws.Runs.{judged_not_15}
use Rattle.chunks.proofs.Laws.Finish.{turn_not_waiting}
use Rattle.chunks.proofs.Laws.Texts.{front_dropped}
use Rattle.chunks.proofs.Laws.Taking.{turn_reads, turn_waits, closed_turn, chunked_read}
use Rattle.chunks.proofs.Laws.Cut.{chunk_refused}

-- ---- one stanza ahead of others

module _ (e : End) (s : Session) (w : List ℕ) (b : Buffers) (t : List ℕ) (ts : List (List ℕ)) (r : Rest) where
  abbrev o_number : ℕ
  o_number = (outcome s b (stanza_call e s.phase t)).number

  abbrev o_session : Session
  o_session = (outcome s b (stanza_call e s.phase t)).session

  abbrev more : Taken
  more = taken_all e o_session (outcome s b (stanza_call e s.phase t)).buffers (awaited_behind e o_session.phase t) ts r

  abbrev ahead : Taken
  ahead = one_more (last_in (outcome s b (stanza_call e s.phase t)).given) (written_by s b (stanza_call e s.phase t)) more

  abbrev either : Bool → Taken
  either d = pick d ahead (no_more o_number (emptied o_session []) b)

  by_turn : (u : Turn) → turn_at e s.phase ≡ u → taken_all e s b w (t ∷ ts) r ≡ taken_by u s b w (t ++ joined ts (bytes_of r)) (either (eqb o_number 0))
  unfolding taken_all
  by_turn u h = ap (λ u. taken_by u s b w (t ++ joined ts (bytes_of r)) (either (eqb o_number 0))) h

  pub taken_more : turn_at e s.phase ≡ reads → o_number ≡ 0 → taken_all e s b w (t ∷ ts) r ≡ ahead
  taken_more h z = by_turn reads h ∙ ap (λ n. pick (eqb n 0) ahead (no_more o_number (emptied o_session []) b)) z

  pub taken_refused : turn_at e s.phase ≡ reads → (o_number ≡ 0 → ⊥) → taken_all e s b w (t ∷ ts) r ≡ no_more o_number (emptied o_session []) b
  taken_refused h z = by_turn reads h ∙ ap either (ne_eqb o_number 0 z)

  pub taken_dropped : (n : ℕ) → turn_at e s.phase ≡ drops n → taken_all e s b w (t ∷ ts) r ≡ no_more n (emptied s w) b
  taken_dropped n h = by_turn (drops n) h

  pub taken_kept : turn_at e s.phase ≡ keeps_back → taken_all e s b w (t ∷ ts) r ≡ no_more 0 (keeping s start (t ++ joined ts (bytes_of r)) w) b
  taken_kept h = by_turn keeps_back h

-- ---- the course of a text's stanzas, whatever stands behind them

-- what was written, ahead of what others come to
pub record Ahead (v : List ℕ) (r x : Taken) : Type 0 where
  pub number : x.number ≡ r.number
  pub intake : x.intake ≡ r.intake
  pub buffers : x.buffers ≡ r.buffers
  pub written : x.written ≡ v ++ r.written

-- all are taken; a refusal stops them, or bytes are dropped; or the client waits
pub data Course (e : End) (s : Session) (w : List ℕ) (b : Buffers) (ts : List (List ℕ)) : Type 0 where
  goes_on : (s' : Session) (w' : List ℕ) (b' : Buffers) (v : List ℕ) → ((us : List (List ℕ)) (r : Rest) → Ahead v (taken_all e s' b' w' us r) (taken_all e s b w (ts ++ us) r)) → Course e s w b ts
  stops : (n m : ℕ) (s' : Session) (w' : List ℕ) (b' : Buffers) (v : List ℕ) → turn_at e s'.phase ≡ drops m →
      ((us : List (List ℕ)) (r : Rest) → Ahead v (no_more n (emptied s' w') b') (taken_all e s b w (ts ++ us) r)) → Course e s w b ts
  waits : ((us : List (List ℕ)) (r : Rest) → is_waiting e (taken_all e s b w (ts ++ us) r).intake.session.phase ≡ true) → Course e s w b ts

ahead_is : (v : List ℕ) (r x : Taken) → x ≡ r → v ≡ [] → Ahead v r x
ahead_is v r x q z = record { number = ap (λ x. x.number) q; intake = ap (λ x. x.intake) q; buffers = ap (λ x. x.buffers) q; written = ap (λ x. x.written) q ∙ ap (λ v. v ++ r.written) (sym z) }

module _ (e : End) (s : Session) (w : List ℕ) (b : Buffers) (t : List ℕ) (whole : IsWhole t) where
  course_more : (ts : List (List ℕ)) → turn_at e s.phase ≡ reads → (outcome s b (stanza_call e s.phase t)).number ≡ 0 →
      Course e (outcome s b (stanza_call e s.phase t)).session (awaited_behind e (outcome s b (stanza_call e s.phase t)).session.phase t) (outcome s b (stanza_call e s.phase t)).buffers ts → Course e s w b (t ∷ ts)
  course_more ts h z = to
    where
      u : List ℕ
      u = written_by s b (stanza_call e s.phase t)

      more_ahead : (v : List ℕ) (us : List (List ℕ)) (r : Rest) (x : Taken) → Ahead v x (more e s w b t (ts ++ us) r) → Ahead (u ++ v) x (taken_all e s b w (t ∷ (ts ++ us)) r)
      more_ahead v us r x a =
          let q = taken_more e s w b t (ts ++ us) r h z in
          record {
            number = ap (λ x. x.number) q ∙ a.number;
            intake = ap (λ x. x.intake) q ∙ a.intake;
            buffers = ap (λ x. x.buffers) q ∙ a.buffers;
            written = ap (λ x. x.written) q ∙ ap (λ y. u ++ y) a.written ∙ sym (append_assoc u v x.written);
          }

      to : Course e (outcome s b (stanza_call e s.phase t)).session (awaited_behind e (outcome s b (stanza_call e s.phase t)).session.phase t) (outcome s b (stanza_call e s.phase t)).buffers ts → Course e s w b (t ∷ ts)
      to (goes_on s' w' b' v k) = goes_on s' w' b' (u ++ v) (λ us r. more_ahead v us r (taken_all e s' b' w' us r) (k us r))
      to (stops n m s' w' b' v c k) = stops n m s' w' b' (u ++ v) c (λ us r. more_ahead v us r (no_more n (emptied s' w') b') (k us r))
      to (waits k) = waits (λ us r. ap (λ x. is_waiting e x.intake.session.phase) (taken_more e s w b t (ts ++ us) r h z) ∙ k us r)

  course_one : (ts : List (List ℕ)) (u : Turn) → turn_at e s.phase ≡ u → (turn_at e s.phase ≡ reads → (outcome s b (stanza_call e s.phase t)).number ≡ 0 → Course e s w b (t ∷ ts)) → Course e s w b (t ∷ ts)
  course_one ts reads h f =
      let n = (outcome s b (stanza_call e s.phase t)).number in
      cases (eqb n 0) (λ z. f h (eqb-true n 0 z))
      (λ z. stops n 13 (outcome s b (stanza_call e s.phase t)).session [] b []
      (ap (λ x. turn_at e x.phase) ((stepped s b t whole e h).closing (eqb-false n 0 z)).session ∙ closed_turn e)
      (λ us r. ahead_is [] _ _ (taken_refused e s w b t (ts ++ us) r h (eqb-false n 0 z)) refl))
  course_one ts (drops n) h f = stops n n s w b [] h (λ us r. ahead_is [] _ _ (taken_dropped e s w b t (ts ++ us) r n h) refl)
  course_one ts keeps_back h f = waits (λ us r. ap (λ x. is_waiting e x.intake.session.phase) (taken_kept e s w b t (ts ++ us) r h) ∙ turn_waits e s.phase h)

pub course : (ts : List (List ℕ)) (e : End) (s : Session) (w : List ℕ) (b : Buffers) → All IsWhole ts → Course e s w b ts
unfolding All
course [] e s w b k = goes_on s w b [] (λ us r. ahead_is [] _ _ refl refl)
course (t ∷ ts) e s w b k =
    let o = outcome s b (stanza_call e s.phase t) in
    course_one e s w b t k.0 ts (turn_at e s.phase) refl
    (λ h z. course_more e s w b t k.0 ts h z (course ts e o.session (awaited_behind e o.session.phase t) o.buffers k.1))

-- ---- what a call comes to

pub record Is (o : Outcome) (i : Intake) (b : Buffers) (v : List ℕ) : Type 0 where
  pub intake : o.intake ≡ i
  pub buffers : o.buffers ≡ b
  pub output : take o.size o.output ≡ v

is_held_lem : (o : Outcome) (out v : List ℕ) (x a : Taken) → o ≡ held out a → length a.written ≤ length out → Ahead v x a → Is o x.intake x.buffers (v ++ x.written)
is_held_lem o out v x a q l h = record {
  intake = ap (λ (o : Outcome). o.intake) q ∙ h.intake;
  buffers = ap (λ (o : Outcome). o.buffers) q ∙ h.buffers;
  output = ap (λ (o : Outcome). take o.size o.output) q ∙ all_written a.written out l ∙ h.written;
}

is_untaken_lem : (o : Outcome) (n : ℕ) (i : Intake) (b : Buffers) (out : List ℕ) → o ≡ untaken n i b out → Is o i b []
is_untaken_lem o n i b out q = record { intake = ap (λ (o : Outcome). o.intake) q; buffers = ap (λ (o : Outcome). o.buffers) q; output = ap (λ (o : Outcome). take o.size o.output) q }

-- bytes are dropped with a number, and more of them with the same
more_dropped : (f y : List ℕ) (n : ℕ) → (pick (eqb (length f) 0) 0 n ≡ 0) ⊎ (pick (eqb (length (f ++ y)) 0) 0 n ≡ pick (eqb (length f) 0) 0 n)
more_dropped [] y n = inl refl
more_dropped (c ∷ f) y n = inr (rw (ne_eqb (length (c ∷ f)) 0 (λ h. omega arith), ne_eqb (length ((c ∷ f) ++ y)) 0 (λ h. omega arith)))

-- where bytes are dropped nothing is taken
drops_taken : (us : List (List ℕ)) (e : End) (s : Session) (w : List ℕ) (b : Buffers) (n : ℕ) → turn_at e s.phase ≡ drops n → (r : Rest) → (m : ℕ) × (taken_all e s b w us r ≡ no_more m (emptied s w) b)
unfolding taken_all
drops_taken [] e s w b n h r = pass (eqb (length (bytes_of r)) 0) (ap (λ u. taken_rest u s b w r) h)
  where
    pass : {x : Taken} (d : Bool) → x ≡ pick d (no_more 0 (emptied s w) b) (no_more n (emptied s w) b) → (m : ℕ) × (x ≡ no_more m (emptied s w) b)
    pass true q = (0, q)
    pass false q = (n, q)
drops_taken (t ∷ us) e s w b n h r = (n, taken_dropped e s w b t us r n h)

chunk_drops : (e : End) (s : Session) (w : List ℕ) (b : Buffers) (n : ℕ) (y out : List ℕ) → turn_at e s.phase ≡ drops n → Is (chunked e (emptied s w) b y out) (emptied s w) b []
chunk_drops e s w b n y out h =
    cases (eqb (turn_of e s.phase) 0)
    (λ z.
    let m = drops_taken (cut start [] y).texts e s w b n h (cut start [] y).rest in
    pass m.0 (is_held (no_more m.0 (emptied s w) b) out) (chunked_read e (emptied s w) b y out (eqb-true (turn_of e s.phase) 0 z) ∙ ap (judged (emptied s w) b out) m.1))
    (λ z. is_untaken_lem _ (turn_of e s.phase) (emptied s w) b out (chunk_refused e (emptied s w) b (turn_of e s.phase) y out refl z))
  where
    pass : {o : Outcome} (m : ℕ) (d : Bool) → o ≡ pick d (held out (no_more m (emptied s w) b)) (untaken 15 (emptied s w) b out) → Is o (emptied s w) b []
    pass m true q = record { intake = ap (λ (o : Outcome). o.intake) q; buffers = ap (λ (o : Outcome). o.buffers) q; output = ap (λ (o : Outcome). take o.size o.output) q }
    pass m false q = is_untaken_lem _ 15 (emptied s w) b out q

-- ---- one chunk behind another

-- the texts of both begin with those of the first
rest_split : (r : Rest) (ts : List (List ℕ)) (y : List ℕ) → (us : List (List ℕ)) × (r' : Rest) × (rest_on r ts y ≡ record { texts = ts ++ us; rest = r' })
rest_split (unfinished q f) ts y = (_, _, refl)
rest_split (impossible n x) ts y = ([], impossible n (x ++ y), ap (λ u. record { texts = u; rest = impossible n (x ++ y) }) (sym (append-nil ts)))

module _ (e : End) (i : Intake) (b : Buffers) (x y first_out second-out whole_out : List ℕ) where
  abbrev first : Outcome
  first = chunked e i b x first_out

  abbrev second : Outcome
  second = chunked e first.intake first.buffers y second-out

  abbrev whole : Outcome
  whole = chunked e i b (x ++ y) whole_out

  together_of : {i' j : Intake} {b' c : Buffers} {v v' u : List ℕ} → Is first i' b' v → Is (chunked e i' b' y second-out) j c v' → Is whole j c u → v ++ v' ≡ u → Together first second whole
  together_of f g h q =
      let k = ap₂ (λ i b. chunked e i b y second-out) f.intake f.buffers in
      record {
        intake = ap (λ (o : Outcome). o.intake) k ∙ g.intake ∙ sym h.intake;
        buffers = ap (λ (o : Outcome). o.buffers) k ∙ g.buffers ∙ sym h.buffers;
        output = ap₂ (λ u v. u ++ v) f.output (ap (λ (o : Outcome). take o.size o.output) k ∙ g.output) ∙ q ∙ sym h.output;
      }

  -- a refused one gives the number of both
  abbrev FirstNumber : Type 0
  FirstNumber = (first.number ≡ 0) ⊎ (whole.number ≡ first.number)

  -- they come to the same; the second gives the number of both where reading goes on behind the first, and else a refused first one does
  pub record Joint : Type 0 where
    pub together : Together first second whole
    pub number : turn_at e first.intake.session.phase ≡ reads → second.number ≡ whole.number
    pub first_number : FirstNumber

  -- where bytes are dropped behind the first, nothing is read on
  joint_dropped : (s : Session) (w : List ℕ) (n : ℕ) → turn_at e s.phase ≡ drops n → first.intake ≡ emptied s w → FirstNumber → Together first second whole → Joint
  joint_dropped s w n t f m g = record { together = g; number = λ u. absurd (drops_not_reads n (sym (ap (λ (i : Intake). turn_at e i.session.phase) f ∙ t) ∙ u)); first_number = m }

  together_over : (s : Session) (w : List ℕ) (b' : Buffers) (n : ℕ) (v : List ℕ) → turn_at e s.phase ≡ drops n → Is first (emptied s w) b' v → Is whole (emptied s w) b' v → FirstNumber → Joint
  together_over s w b' n v t f h m = joint_dropped s w n t f.intake m (together_of f (chunk_drops e s w b' n y second-out t) h (append-nil v))

  -- the first chunk's stanzas and rest, and both chunks'
  abbrev cut_first : Cut
  cut_first = cut i.reading i.kept x

  module _ (fits : length (taken e i b x).written ≤ length first_out) (first_is : first ≡ held first_out (taken e i b x))
      (fits_whole : length (taken e i b (x ++ y)).written ≤ length whole_out) (whole_is : whole ≡ held whole_out (taken e i b (x ++ y))) where
    is_first : (v : List ℕ) (r : Taken) → Ahead v r (taken e i b x) → Is first r.intake r.buffers (v ++ r.written)
    is_first v r a = is_held_lem first first_out v r (taken e i b x) first_is fits a

    is_whole : (v : List ℕ) (r : Taken) → Ahead v r (taken e i b (x ++ y)) → Is whole r.intake r.buffers (v ++ r.written)
    is_whole v r a = is_held_lem whole whole_out v r (taken e i b (x ++ y)) whole_is fits_whole a

    first_number : (v : List ℕ) (r : Taken) → Ahead v r (taken e i b x) → first.number ≡ r.number
    first_number v r a = ap (λ (o : Outcome). o.number) first_is ∙ a.number

    whole_number : (v : List ℕ) (r : Taken) → Ahead v r (taken e i b (x ++ y)) → whole.number ≡ r.number
    whole_number v r a = ap (λ (o : Outcome). o.number) whole_is ∙ a.number

    -- by the first chunk's stanzas
    of_first : (P : Taken → Type 0) → ((us : List (List ℕ)) (r : Rest) → P (taken_all e i.session b i.awaited (cut_first.texts ++ us) r)) → P (taken e i b x)
    of_first P f = subst (λ ts. P (taken_all e i.session b i.awaited ts cut_first.rest)) (append-nil cut_first.texts) (f [] cut_first.rest)

    of_whole : (P : Taken → Type 0) → ((us : List (List ℕ)) (r : Rest) → P (taken_all e i.session b i.awaited (cut_first.texts ++ us) r)) → P (taken e i b (x ++ y))
    of_whole P f =
        let z = rest_split cut_first.rest cut_first.texts y in
        subst (λ k. P (taken_all e i.session b i.awaited k.texts k.rest)) (sym (cut_append x y i.reading i.kept ∙ z.2)) (f z.0 z.1)

    -- where all of the first chunk's stanzas are taken
    module _ (s : Session) (w : List ℕ) (b' : Buffers) (v : List ℕ)
        (k : (us : List (List ℕ)) (r : Rest) → Ahead v (taken_all e s b' w us r) (taken_all e i.session b i.awaited (cut_first.texts ++ us) r)) where
      at_rest : (r : Rest) → cut_first.rest ≡ r → (u : Turn) → turn_at e s.phase ≡ u → Ahead v (taken_rest u s b' w r) (taken e i b x)
      unfolding taken_all
      at_rest r h u t =
          subst (λ y. Ahead v y (taken e i b x)) (ap₂ (λ u r. taken_rest u s b' w r) t h)
          (subst (λ ts. Ahead v (taken_all e s b' w [] cut_first.rest) (taken_all e i.session b i.awaited ts cut_first.rest)) (append-nil cut_first.texts) (k [] cut_first.rest))

      -- what both chunks are cut into
      both : (us : List (List ℕ)) (r : Rest) → cut i.reading i.kept (x ++ y) ≡ record { texts = cut_first.texts ++ us; rest = r } → Ahead v (taken_all e s b' w us r) (taken e i b (x ++ y))
      both us r h = subst (λ c. Ahead v (taken_all e s b' w us r) (taken_all e i.session b i.awaited c.texts c.rest)) (sym h) (k us r)

      -- .. and the rest is read
      read_on : (r : Rest) → cut_first.rest ≡ r → turn_at e s.phase ≡ reads → (second.number ≡ 15 → ⊥) → Joint
      unfolding taken_all
      read_on (unfinished q f) h t g =
          let i' = keeping s q f w in
          let r = taken e i' b' y in
          let a = is_first v (no_more 0 i' b') (at_rest (unfinished q f) h reads t) in
          let j = ap₂ (λ i b. chunked e i b y second-out) a.intake a.buffers in
          let o = chunked_read e i' b' y second-out (turn_reads e s.phase t) in
          let d = judged_not_15 i' b' second-out r (λ z. g (ap (λ (o : Outcome). o.number) (j ∙ o) ∙ z)) in
          let m = both (cut q f y).texts (cut q f y).rest (cut_append x y i.reading i.kept ∙ ap (λ r. rest_on r cut_first.texts y) h) in
          record {
            together = together_of a (is_held_lem (chunked e i' b' y second-out) second-out [] r r (o ∙ d.0) d.1 (ahead_is [] r r refl refl)) (is_whole v r m) (ap (λ u. u ++ r.written) (append-nil v));
            number = λ u. ap (λ (o : Outcome). o.number) (j ∙ o ∙ d.0) ∙ sym (whole_number v r m);
            first_number = inl (first_number v (no_more 0 i' b') (at_rest (unfinished q f) h reads t));
          }
      read_on (impossible n z) h t g =
          let i' = emptied (closed s) [] in
          let m = both [] (impossible n (z ++ y))
          (cut_append x y i.reading i.kept ∙ ap (λ r. rest_on r cut_first.texts y) h ∙ ap (λ u. record { texts = u; rest = impossible n (z ++ y) }) (sym (append-nil cut_first.texts))) in
          let a = at_rest (impossible n z) h reads t in
          let c = subst (λ r. Ahead v r (taken e i b (x ++ y))) (ap (λ u. taken_rest u s b' w (impossible n (z ++ y))) t) m in
          together_over (closed s) [] b' 13 (v ++ []) (closed_turn e) (is_first v (no_more n i' b') a) (is_whole v (no_more n i' b') c)
          (inr (whole_number v (no_more n i' b') c ∙ sym (first_number v (no_more n i' b') a)))

      goes : (u : Turn) → turn_at e s.phase ≡ u → (second.number ≡ 15 → ⊥) → is_waiting e first.intake.session.phase ≡ false → Joint
      unfolding taken_all
      goes reads t g z = read_on cut_first.rest refl t g
      goes (drops n) t g z =
          let a = of_first Dropped dropped in
          let c = of_whole Dropped dropped in
          let f = is_first v (no_more a.0 (emptied s w) b') a.1 in
          joint_dropped s w n t f.intake (dropped_number cut_first.rest refl) (together_of f (chunk_drops e s w b' n y second-out t) (is_whole v (no_more c.0 (emptied s w) b') c.1) (append-nil (v ++ [])))
        where
          pick_number : (d : Bool) → (pick d (no_more 0 (emptied s w) b') (no_more n (emptied s w) b')).number ≡ pick d 0 n
          pick_number true = refl
          pick_number false = refl

          number_of : (f : List ℕ) → first.number ≡ pick (eqb (length f) 0) 0 n → whole.number ≡ pick (eqb (length (f ++ y)) 0) 0 n → FirstNumber
          number_of f p q = ⊎_elim (λ h. inl (p ∙ h)) (λ h. inr (q ∙ h ∙ sym p)) (more_dropped f y n)

          -- the bytes behind the first chunk's stanzas are among those behind them in both
          dropped_number : (r : Rest) → cut_first.rest ≡ r → FirstNumber
          dropped_number (unfinished q f) h =
              number_of f
              (first_number v _ (at_rest (unfinished q f) h (drops n) t) ∙ pick_number (eqb (length f) 0))
              (whole_number v _ (both (cut q f y).texts (cut q f y).rest (cut_append x y i.reading i.kept ∙ ap (λ r. rest_on r cut_first.texts y) h))
              ∙ ap (λ (r : Taken). r.number) (front_dropped e s b' w n t y q f) ∙ pick_number (eqb (length (f ++ y)) 0))
          dropped_number (impossible m z) h =
              number_of z
              (first_number v _ (at_rest (impossible m z) h (drops n) t) ∙ pick_number (eqb (length z) 0))
              (whole_number v _ (both [] (impossible m (z ++ y))
              (cut_append x y i.reading i.kept ∙ ap (λ r. rest_on r cut_first.texts y) h ∙ ap (λ u. record { texts = u; rest = impossible m (z ++ y) }) (sym (append-nil cut_first.texts))))
              ∙ ap (λ u. (taken_rest u s b' w (impossible m (z ++ y))).number) t ∙ pick_number (eqb (length (z ++ y)) 0))

          Dropped : Taken → Type 0
          Dropped r = (m : ℕ) × Ahead v (no_more m (emptied s w) b') r

          dropped : (us : List (List ℕ)) (r : Rest) → Dropped (taken_all e i.session b i.awaited (cut_first.texts ++ us) r)
          dropped us r = let d = drops_taken us e s w b' n t r in (d.0, subst (λ q. Ahead v q (taken_all e i.session b i.awaited (cut_first.texts ++ us) r)) d.1 (k us r))
      goes keeps_back t g z =
          absurd (false≢true (sym z ∙ ap (λ (o : Outcome). is_waiting e o.intake.session.phase) first_is ∙ ap (λ (i : Intake). is_waiting e i.session.phase) (at_rest cut_first.rest refl keeps_back t).intake ∙ turn_waits e s.phase t))

    by_course : Course e i.session i.awaited b cut_first.texts → (second.number ≡ 15 → ⊥) → is_waiting e first.intake.session.phase ≡ false → Joint
    by_course (goes_on s w b' v k) g z = goes s w b' v k (turn_at e s.phase) refl g z
    by_course (stops n m s w b' v t k) g z =
        let r = no_more n (emptied s w) b' in
        let a = of_first (Ahead v r) k in
        let c = of_whole (Ahead v r) k in
        together_over s w b' m (v ++ []) t (is_first v r a) (is_whole v r c) (inr (whole_number v r c ∙ sym (first_number v r a)))
    by_course (waits k) g z = absurd (false≢true (sym z ∙ ap (λ (o : Outcome). is_waiting e o.intake.session.phase) first_is ∙ of_first (λ r. is_waiting e r.intake.session.phase ≡ true) k))

  -- a chunk and then another, from an intake that can be reached: where bytes are dropped with 14, too
  pub joint : Bounded e i → (first.number ≡ 15 → ⊥) → (second.number ≡ 15 → ⊥) → (whole.number ≡ 15 → ⊥) → is_waiting e first.intake.session.phase ≡ false → Joint
  joint h f g k z = cases (eqb (turn_of e i.session.phase) 0) in_turn out_of_turn
    where
      in_turn : eqb (turn_of e i.session.phase) 0 ≡ true → Joint
      in_turn t =
          let n = eqb-true (turn_of e i.session.phase) 0 t in
          let o = chunked_read e i b x first_out n in
          let p = chunked_read e i b (x ++ y) whole_out n in
          let c = judged_not_15 i b first_out (taken e i b x) (λ z. f (ap (λ (o : Outcome). o.number) o ∙ z)) in
          let d = judged_not_15 i b whole_out (taken e i b (x ++ y)) (λ z. k (ap (λ (o : Outcome). o.number) p ∙ z)) in
          by_course c.1 (o ∙ c.0) d.1 (p ∙ d.0) (course cut_first.texts e i.session i.awaited b (cut_parts x i.reading i.kept (h.front (turn_not_waiting e i.session.phase n))).texts) g z

      out_of_turn : eqb (turn_of e i.session.phase) 0 ≡ false → Joint
      out_of_turn t =
          let n = turn_of e i.session.phase in
          let q = chunk_refused e i b n x first_out refl t in
          record {
            together = together_of (is_untaken_lem first n i b first_out q) (is_untaken_lem (chunked e i b y second-out) n i b second-out (chunk_refused e i b n y second-out refl t))
                (is_untaken_lem whole n i b whole_out (chunk_refused e i b n (x ++ y) whole_out refl t)) refl;
            number = λ u. absurd (eqb-false n 0 t (turn_reads e i.session.phase (sym (ap (λ (o : Outcome). turn_at e o.intake.session.phase) q) ∙ u)));
            first_number = inr (ap (λ (o : Outcome). o.number) (chunk_refused e i b n (x ++ y) whole_out refl t) ∙ sym (ap (λ (o : Outcome). o.number) q));
          }

  -- .. where none of the three is refused with 14 or 15
  pub together : Bounded e i → ((first.number ≡ 14 → ⊥) × (first.number ≡ 15 → ⊥)) → ((second.number ≡ 14 → ⊥) × (second.number ≡ 15 → ⊥)) → ((whole.number ≡ 14 → ⊥) × (whole.number ≡ 15 → ⊥)) →
      is_waiting e first.intake.session.phase ≡ false → Together first second whole
  together h f g k z = (joint h f.1 g.1 k.1 z).together
