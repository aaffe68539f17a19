-- A text of whole stanzas that a plugin session would accept one to a call is accepted however it is cut: each chunk takes the stanzas that it ends, and keeps the front of the next.
use Prim.Native.Nat.{ℕ, ◌≤◌}
use mathlib.Core.Path.{◌≡◌, refl, sym, ap, subst, ◌∙◌}
use mathlib.Core.Bool.{false, false≢true}
use mathlib.Core.Logic.{◌⊎◌, inl, inr}
use mathlib.Core.List.{List, [], ◌∷◌, ◌++◌, map, map-append}
use lib.Dec.{T}
use lib.ListN.{length}
use native.Mathlib.Omega.{arith}
use Rattle.stanza.specs.Automaton as place
use Rattle.stanza.specs.Automaton.{start}
use Rattle.session.specs.Session.{Session}
use Rattle.session.specs.declared.phases.Phase.{Phase}
use Rattle.session.specs.declared.phases.Phase.TheVariants.{One, Two}
use Rattle.phase_one.specs.Commands.{CommandOne, recipient, identity, key, header, done, other, bad}
use Rattle.phase_one.specs.PhaseOne.{command_in}
use Rattle.phase_one.specs.Turns.{phase_after}
use Rattle.conversation.specs.Calls as one_call
use Rattle.conversation.specs.Calls.{receive, outcome, AllZero, Accepted}
use Rattle.conversation.specs.Kinds.{Buffers}
use Rattle.conversation.specs.Phases.{All, line_in, body_in}
use Rattle.conversation.proofs.Laws.Accepted.{accepted}
use Rattle.conversation.proofs.Laws.Runs.{after_append, accepted_append}
use Rattle.conversation.proofs.Laws.ShapesOne.{none_behind}
use Rattle.chunks.specs.Cutting.{Rest, unfinished, impossible, bytes_of, Cut, cut}
use Rattle.chunks.specs.Taking.{client, plugin, drops, turn_at, stanza_call, Intake, Taken, taken_rest, taken_all, joined}
use Rattle.chunks.specs.Chunks.{taken, turn_of, chunked}
use Rattle.chunks.specs.Uncut.{Piece, chunk, reply, after, numbers, text_in, is_reply, is_waiting, is_closed}
use Rattle.chunks.proofs.Laws.Bounds.{plugin_kept}
use Rattle.chunks.proofs.Laws.Cases.{drops_not_reads, keeps_not_reads, stanza_cases, chunk_cases, is_turned}
use Rattle.chunks.proofs.Laws.Cutting.{cut_on, cut_append, cut_joined}
use Rattle.chunks.proofs.Laws.PhaseOne.{NoneDue, quiet_chunk}
use Rattle.chunks.proofs.Laws.Short.{chunk_short_iff}

-- ---- phase one, or just behind it

abbrev pub Early : Phase → Type 0
Early p = (p ≡ One) ⊎ (p ≡ Two)

early_after : (c : CommandOne) → Early (phase_after c)
early_after (recipient m) = inl refl
early_after (identity m) = inl refl
early_after key = inl refl
early_after (header i m) = inl refl
early_after done = inr refl
early_after other = inl refl
early_after (bad n) = inl refl

-- behind a command that is accepted
early_command : (s : Session) (b : Buffers) (t : List ℕ) → (outcome s b (receive t)).number ≡ 0 → Early (outcome s b (receive t)).session.phase
early_command s b t h =
    subst Early (sym (ap (λ (s : Session). s.phase) (accepted s b (receive t) h).applied.session)) (early_after (command_in s.machine s.name (line_in t) (body_in t)))

-- a command is accepted in phase one only
turn_one : (s : Session) (b : Buffers) (t : List ℕ) → (outcome s b (receive t)).number ≡ 0 → s.phase ≡ One
turn_one s b t h = (accepted s b (receive t) h).applied.turn

-- ---- the stanzas of one chunk

-- what they come to: the session and the buffers behind them, and the front of the next stanza, or nothing behind done
pub record Took (x : Taken) (z : one_call.State) (q : place.State) (f : List ℕ) : Type 0 where
  pub number : x.number ≡ 0
  pub session : x.intake.session ≡ z.session
  pub buffers : x.buffers ≡ z.buffers
  pub front : ((z.session.phase ≡ One) × (x.intake.reading ≡ q) × (x.intake.kept ≡ f)) ⊎ ((z.session.phase ≡ Two) × (x.intake.reading ≡ start) × (x.intake.kept ≡ []))

took_rest : (s : Session) (b : Buffers) (a : List ℕ) (q : place.State) (f : List ℕ) → Early s.phase → (s.phase ≡ Two → f ≡ []) → Took (taken_rest (turn_at plugin s.phase) s b a (unfinished q f)) (one_call.state_of s b) q f
took_rest s b a q f (inl p) h =
    subst (λ u. Took (taken_rest (turn_at plugin u) s b a (unfinished q f)) (one_call.state_of s b) q f) (sym p) (record { number = refl; session = refl; buffers = refl; front = inl (p, refl, refl) })
took_rest s b a q f (inr p) h =
    subst (λ u. Took (taken_rest (turn_at plugin u) s b a (unfinished q f)) (one_call.state_of s b) q f) (sym p)
    (subst (λ g. Took (taken_rest (drops 14) s b a (unfinished q g)) (one_call.state_of s b) q f) (sym (h p)) (record { number = refl; session = refl; buffers = refl; front = inr (p, refl, refl) }))

took : (ts : List (List ℕ)) (s : Session) (b : Buffers) (a : List ℕ) (q : place.State) (f : List ℕ) → Early s.phase → Accepted s b (map receive ts) →
    ((one_call.after s b (map receive ts)).session.phase ≡ Two → f ≡ []) → Took (taken_all plugin s b a ts (unfinished q f)) (one_call.after s b (map receive ts)) q f
unfolding taken_all one_call.after one_call.numbers AllZero
took [] s b a q f e h g = took_rest s b a q f e g
took (t ∷ ts) s b a q f e h g =
    let p : s.phase ≡ One = turn_one s b t h.0 in
    let o = outcome s b (receive t) in
    let z = one_call.after o.session o.buffers (map receive ts) in
    let n = took ts o.session o.buffers [] q f (early_command s b t h.0) h.1 g in
    let m = subst (λ u. let c = outcome s b (stanza_call plugin u t) in Took (taken_all plugin c.session c.buffers [] ts (unfinished q f)) z q f) (sym p) n in
    stanza_cases (λ x. Took x z q f) plugin s b a t ts (unfinished q f)
    (λ r k. record { number = m.number; session = m.session; buffers = m.buffers; front = m.front })
    (λ r k. absurd (k (subst (λ u. (outcome s b (stanza_call plugin u t)).number ≡ 0) (sym p) h.0)))
    (λ i k. absurd (drops_not_reads i (sym k ∙ ap (turn_at plugin) p)))
    (λ k. absurd (keeps_not_reads (sym k ∙ ap (turn_at plugin) p)))

-- ---- one chunk

early_turn : (p : Phase) → Early p → turn_of plugin p ≡ 0
early_turn p (inl h) = ap (turn_of plugin) h
early_turn p (inr h) = ap (turn_of plugin) h

early_undue : (p : Phase) → Early p → NoneDue p
early_undue p (inl h) = ap (is_waiting client) h
early_undue p (inr h) = ap (is_waiting client) h

early_open : (p : Phase) → Early p → is_closed p ≡ false
early_open p (inl h) = ap is_closed h
early_open p (inr h) = ap is_closed h

-- a chunk that takes what it is given does so, whatever its output buffer
chunk_took : (i : Intake) (b : Buffers) (bytes out : List ℕ) → Early i.session.phase → length i.kept ≤ 8191 → (P : ℕ → Intake → Buffers → Type 0) →
    (let x = taken plugin i b bytes in P x.number x.intake x.buffers) → (let o = chunked plugin i b bytes out in P o.number o.intake o.buffers)
chunk_took i b bytes out e k P h =
    chunk_cases (λ o. P o.number o.intake o.buffers) plugin i b bytes out
    (λ t r. h)
    (λ t r. absurd ((quiet_chunk i b bytes out (early_undue i.session.phase e) (early_open i.session.phase e) k).not_15 ((chunk_short_iff plugin i b bytes out).1 (t, r))))
    (λ n t r. absurd (subst (λ n. T (is_turned n)) (sym t ∙ early_turn i.session.phase e) r))

-- ---- a list of chunks

-- what the end keeps and the bytes to come are these stanzas, and each would be accepted in a call of its own
pub record Ahead (i : Intake) (b : Buffers) (u : List ℕ) (ts : List (List ℕ)) : Type 0 where
  pub texts : cut i.reading i.kept u ≡ record { texts = ts; rest = unfinished start [] }
  pub short : length i.kept ≤ 8191
  pub early : Early i.session.phase
  pub accepted : Accepted i.session b (map receive ts)

-- then the chunks are accepted, and leave what those calls leave
pub record Came (i : Intake) (b : Buffers) (cs : List Piece) (ts : List (List ℕ)) : Type 0 where
  pub accepted : AllZero (numbers plugin i b cs)
  pub session : (after plugin i b cs).intake.session ≡ (one_call.after i.session b (map receive ts)).session
  pub buffers : (after plugin i b cs).buffers ≡ (one_call.after i.session b (map receive ts)).buffers

nothing_left : (f y : List ℕ) → [] ≡ f ++ y → (f ≡ []) × (y ≡ [])
nothing_left [] y h = (refl, sym h)
nothing_left (b ∷ f) y h = let z : ◌≡◌ {A = ℕ} 0 1 = cc in absurd (omega arith)

-- behind a chunk, where the front and the bytes to come are these stanzas
module _ (i : Intake) (b : Buffers) (x y : List ℕ) (early : Early i.session.phase) (short : length i.kept ≤ 8191) (q : place.State) (f : List ℕ) (ts us : List (List ℕ))
    (e : cut i.reading i.kept x ≡ record { texts = ts; rest = unfinished q f }) (g : cut q f y ≡ record { texts = us; rest = unfinished start [] })
    (a : Accepted i.session b (map receive ts)) where
  abbrev z : one_call.State
  z = one_call.after i.session b (map receive ts)

  module _ (c : Accepted z.session z.buffers (map receive us)) where
    ended : z.session.phase ≡ Two → (us ≡ []) × (f ≡ []) × (y ≡ [])
    unfolding joined
    ended p =
        let n = none_behind z.session z.buffers us p c in
        let j : [] ≡ f ++ y = ap (λ us. joined us []) (sym n) ∙ ap (λ c. joined c.texts (bytes_of c.rest)) (sym g) ∙ cut_joined y q f in
        let l = nothing_left f y j in
        (n, l.0, l.1)

    came_taken : Took (taken plugin i b x) z q f
    came_taken =
        subst (λ c. Took (taken_all plugin i.session b i.awaited c.texts c.rest) z q f) (sym e) (took ts i.session b i.awaited q f early a (λ p. (ended p).1))

    ahead_taken : (r : place.State) (k : List ℕ) → ((z.session.phase ≡ One) × (r ≡ q) × (k ≡ f)) ⊎ ((z.session.phase ≡ Two) × (r ≡ start) × (k ≡ [])) → Early z.session.phase × (cut r k y ≡ record { texts = us; rest = unfinished start [] })
    unfolding cut
    ahead_taken r k (inl h) = (inl h.0, rw (h.1, h.2) g)
    ahead_taken r k (inr h) = let w = ended h.0 in (inr h.0, rw (h.1, h.2, w.0, w.2))

    -- the chunk is accepted, and the rest is ahead
    chunk_ahead : (out : List ℕ) → let o = chunked plugin i b x out in (o.number ≡ 0) × (o.intake.session ≡ z.session) × (o.buffers ≡ z.buffers) × Ahead o.intake o.buffers y us
    chunk_ahead out =
        let t = came_taken in
        let w = ahead_taken (taken plugin i b x).intake.reading (taken plugin i b x).intake.kept t.front in
        chunk_took i b x out early short (λ n j d. (n ≡ 0) × (j.session ≡ z.session) × (d ≡ z.buffers) × Ahead j d y us) (
          t.number,
          t.session,
          t.buffers,
          record {
            texts = w.1;
            short = plugin_kept i.session b i.awaited i.reading i.kept x short;
            early = subst (λ (s : Session). Early s.phase) (sym t.session) w.0;
            accepted = subst (λ s. Accepted s (taken plugin i b x).buffers (map receive us)) (sym t.session) (subst (λ d. Accepted z.session d (map receive us)) (sym t.buffers) c);
          },
        )

pub came : (cs : List Piece) (i : Intake) (b : Buffers) (ts : List (List ℕ)) → All (λ c. is_reply c ≡ false) cs → Ahead i b (text_in cs) ts → Came i b cs ts
unfolding All text_in after numbers AllZero cut one_call.after
came [] i b ts h d =
    let e : [] ≡ ts = ap (λ c. c.texts) d.texts in
    subst (Came i b []) e (record { accepted = tt; session = refl; buffers = refl })
came (reply r body out ∷ cs) i b ts h d = absurd (false≢true (sym h.0))
came (chunk x out ∷ cs) i b ts h d =
    let o = chunked plugin i b x out in
    go (λ vs w. came cs o.intake o.buffers vs h.1 w) (cut i.reading i.kept x).texts (cut i.reading i.kept x).rest refl
  where
    go : (let o = chunked plugin i b x out in (vs : List (List ℕ)) → Ahead o.intake o.buffers (text_in cs) vs → Came o.intake o.buffers cs vs) →
        (us : List (List ℕ)) (r : Rest) → cut i.reading i.kept x ≡ record { texts = us; rest = r } → Came i b (chunk x out ∷ cs) ts
    go more us (unfinished q f) e =
        let y = text_in cs in
        let m : ◌≡◌ {A = Cut} (record { texts = us ++ (cut q f y).texts; rest = (cut q f y).rest }) (record { texts = ts; rest = unfinished start [] }) = sym (cut_append x y i.reading i.kept ∙ ap (λ c. cut_on c y) e) ∙ d.texts in
        let vs = (cut q f y).texts in
        let t : us ++ vs ≡ ts = ap (λ c. c.texts) m in
        let l : map receive us ++ map receive vs ≡ map receive ts = sym (map-append receive us vs) ∙ ap (map receive) t in
        let g : cut q f y ≡ record { texts = vs; rest = unfinished start [] } = ap (λ r. record { texts = vs; rest = r }) (ap (λ c. c.rest) m) in
        let a = (accepted_append i.session b (map receive us) (map receive vs)).0 (subst (Accepted i.session b) (sym l) d.accepted) in
        let w = chunk_ahead i b x y d.early d.short q f us vs e g a.0 a.1 out in
        let o = chunked plugin i b x out in
        let n = more vs w.3 in
        let z = one_call.after i.session b (map receive us) in
        let k : one_call.after o.intake.session o.buffers (map receive vs) ≡ one_call.after i.session b (map receive ts) =
        ap (λ s. one_call.after s o.buffers (map receive vs)) w.1 ∙ ap (λ d. one_call.after z.session d (map receive vs)) w.2
        ∙ sym (after_append i.session b (map receive us) (map receive vs)) ∙ ap (one_call.after i.session b) l in
        record { accepted = (w.0, n.accepted); session = n.session ∙ ap (λ z. z.session) k; buffers = n.buffers ∙ ap (λ z. z.buffers) k }
    go more us (impossible n u) e =
        let m : ◌≡◌ {A = Cut} (record { texts = us; rest = impossible n (u ++ text_in cs) }) (record { texts = ts; rest = unfinished start [] }) = sym (cut_append x (text_in cs) i.reading i.kept ∙ ap (λ c. cut_on c (text_in cs)) e) ∙ d.texts in
        let r : impossible n (u ++ text_in cs) ≡ unfinished start [] = ap (λ c. c.rest) m in
        let z : ◌≡◌ {A = ℕ} 0 1 = cc in
        absurd (omega arith)
