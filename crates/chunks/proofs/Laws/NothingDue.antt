-- Only done leads out of phase one, and a refusal closes the session or leaves it: so until done is taken nothing is due, and no chunk gives 14.
use Prim.Native.Nat.{ℕ, suc, ◌+◌}
use mathlib.Core.Path.{◌≡◌, refl, sym, ap, subst, ◌∙◌}
use mathlib.Core.Bool.{Bool, true, false, ◌||◌}
use mathlib.Core.Logic.{◌⊎◌, inl, inr, ⊎_elim, ◌↔◌}
use mathlib.Core.List.{List, [], ◌∷◌, ◌++◌, map}
use lib.Dec.{T, eqb}
use lib.ListN.{length, take}
use native.Mathlib.Omega.{arith}
use borrow.Author.Tests.{eqb-true, eqb-false}
use Rattle.refusal.specs.Pick.{pick}
use Rattle.refusal.proofs.Laws.Booleans.{cases}
use Rattle.stanza.specs.Automaton.{start}
use Rattle.session.specs.declared.words.WordTwo.{WordTwo}
use Rattle.session.specs.declared.phases.Phase.{Phase}
use Rattle.session.specs.declared.phases.Phase.TheVariants.{One, Two, Closed}
use Rattle.session.specs.Phases.{closes, is_due}
use Rattle.session.specs.Session.{Session, closed, opened}
use Rattle.session.proofs.Laws.Opening.{opened_phase}
use Rattle.conversation.specs.Calls as one_call
use Rattle.conversation.specs.Calls.{receive, send_two, outcome, written_by}
use Rattle.conversation.specs.Kinds.{Buffers}
use Rattle.conversation.specs.Phases.{All, Whole, is_done}
use Rattle.conversation.specs.SendingTwo.{sent}
use Rattle.conversation.proofs.Laws.Accepted.{accepted}
use Rattle.conversation.proofs.Laws.ConditionsTwo.{true_or}
use Rattle.conversation.proofs.Laws.Refusals.{either, refusal}
use Rattle.conversation.proofs.Laws.ShapesOne.{behind_done, behind_other}
use Rattle.conversation.proofs.Laws.SumsTwo.{or_false}
use Rattle.chunks.specs.Cutting.{Rest, unfinished, impossible, bytes_of, Cut, cut}
use Rattle.chunks.specs.Taking.{plugin, Turn, reads, drops, keeps_back, turn_at, stanza_call, awaited_behind, Intake, Taken, no_more, emptied, one_more, joined, taken_rest, taken_by, taken_all, taken_text, last_in}
use Rattle.chunks.specs.Chunks.{Outcome, taken, turn_of, chunked, finished}
use Rattle.chunks.specs.Uncut.{chunk, reply, Parted, received_more, parted_by, parted}
use Rattle.chunks.specs.Reached.{AnyCall, piece, sends_one, sends_two, finishes, Has, intake_after, AnyWith, intake_after_all, Bounded}
use Rattle.chunks.specs.PhaseOne.{any_done, taken_of, takes_done, Lasts, NothingDue, BehindDone, MoreBehindDone, IsOther}
use Rattle.chunks.specs.AnyCalls.{number_at}
use Rattle.chunks.proofs.Laws.Cases.{drops_not_reads, keeps_not_reads, stanza_cases, chunk_cases, is_turned}
use Rattle.chunks.proofs.Laws.Cutting.{cut_on, cut_append, cut_on_lem, cut_joined, IsWhole, cut_parts}
use Rattle.chunks.proofs.Laws.Numbers.{Faulty, cut_faulty}
use Rattle.chunks.proofs.Laws.Reached.{reached_plugin_awaited}
use Rattle.chunks.proofs.Laws.Stanzas.{whole_read, stepped}
use Rattle.chunks.proofs.Laws.Reading.{cut_whole}
use Rattle.chunks.proofs.Laws.Taking.{closes_not, chunk_held, whole_some}
use Rattle.chunks.proofs.Laws.Texts as texts

-- in phase one, or closed by a refusal
abbrev InOne : Phase → Type 0
InOne p = (p ≡ One) ⊎ (p ≡ Closed)

one_undue : (p : Phase) → InOne p → is_due p ≡ false
one_undue p h = ⊎_elim (ap is_due) (ap is_due) h

two_not_one : (p : Phase) → p ≡ Two → InOne p → ⊥
two_not_one p e h = ⊎_elim (λ d. let z : ◌≡◌ {A = ℕ} 0 1 = cc in omega arith) (λ d. let z : ◌≡◌ {A = ℕ} 0 1 = cc in omega arith) h

-- bytes are read in phase one alone
reads_one : (p : Phase) → InOne p → turn_at plugin p ≡ reads → p ≡ One
reads_one p h q = ⊎_elim (λ e. e) (λ e. absurd (drops_not_reads 13 (sym (ap (turn_at plugin) e) ∙ q))) h

closed_one : (f : Bool) (s : Session) → InOne s.phase → InOne (pick f (closed s) s).phase
closed_one true s h = inr refl
closed_one false s h = h

-- ---- a text: what it comes to, and the stanzas that were received

-- until done is taken it is phase one
abbrev Lasting : Taken → List (List ℕ) → Type 0
Lasting x ts = any_done (take x.count ts) ≡ false → InOne x.intake.session.phase

rest_lasting : (u : Turn) (s : Session) (b : Buffers) (a : List ℕ) (r : Rest) (ts : List (List ℕ)) → InOne s.phase → Lasting (taken_rest u s b a r) ts
rest_lasting reads s b a (unfinished q front) ts h z = h
rest_lasting reads s b a (impossible n text) ts h z = inr refl
rest_lasting (drops n) s b a r ts h z = either (λ (x : Taken). InOne x.intake.session.phase) (eqb (length (bytes_of r)) 0) (no_more 0 (emptied s a) b) (no_more n (emptied s a) b) h h
rest_lasting keeps_back s b a r ts h z = h

-- the first of the stanzas that were taken, and the others
none_first : (n : ℕ) (t : List ℕ) (ts : List (List ℕ)) → any_done (take (1 + n) (t ∷ ts)) ≡ false → (is_done t ≡ false) × (any_done (take n ts) ≡ false)
unfolding any_done
none_first n t ts h =
    let m : 1 + n ≡ suc n = omega arith in
    let k : is_done t || any_done (take n ts) ≡ false = sym (ap (λ n. any_done (take n (t ∷ ts))) m) ∙ h in
    or_false (is_done t) (any_done (take n ts)) k

text_lasting : (ts : List (List ℕ)) (s : Session) (b : Buffers) (a : List ℕ) (r : Rest) → InOne s.phase → Lasting (taken_all plugin s b a ts r) (parted plugin s b ts r).received
unfolding taken_all parted
text_lasting [] s b a r h = rest_lasting (turn_at plugin s.phase) s b a r _ h
text_lasting (t ∷ ts) s b a r h = go (text_lasting ts o.session o.buffers (awaited_behind plugin o.session.phase t) r) (turn_at plugin s.phase) refl (eqb o.number 0) refl
  where
    o : one_call.Outcome
    o = outcome s b (stanza_call plugin s.phase t)

    more : Taken
    more = taken_all plugin o.session o.buffers (awaited_behind plugin o.session.phase t) ts r

    parts : Parted
    parts = parted plugin o.session o.buffers ts r

    go : (InOne o.session.phase → Lasting more parts.received) → (u : Turn) → turn_at plugin s.phase ≡ u → (d : Bool) → eqb o.number 0 ≡ d →
        Lasting (taken_by u s b a (t ++ joined ts (bytes_of r)) (pick d (one_more (last_in o.given) (written_by s b (stanza_call plugin s.phase t)) more) (no_more o.number (emptied o.session []) b)))
        (parted_by u (t ++ joined ts (bytes_of r)) (received_more t (pick d parts (record { received = []; left = joined ts (bytes_of r) })))).received
    go k reads q true f z =
        let p = reads_one s.phase h q in
        let y = none_first more.count t parts.received z in
        let e : o.session.phase ≡ One = subst (λ x. (outcome s b (stanza_call plugin x t)).number ≡ 0 → (outcome s b (stanza_call plugin x t)).session.phase ≡ One) (sym p) (λ z. behind_other s b t z y.0) (eqb-true o.number 0 f) in
        k (inl e) y.1
    go k reads q false f z =
        let p = reads_one s.phase h q in
        subst (λ x. ((outcome s b (stanza_call plugin x t)).number ≡ 0 → ⊥) → InOne (outcome s b (stanza_call plugin x t)).session.phase) (sym p)
        (λ w. subst (λ (s : Session). InOne s.phase) (sym (refusal s b (receive t) w).session) (closed_one (closes (outcome s b (receive t)).number) s h)) (eqb-false o.number 0 f)
    go k (drops n) q d f z = h
    go k keeps_back q d f z = h

-- a chunk
chunk_lasting : (i : Intake) (b : Buffers) (bytes out : List ℕ) → InOne i.session.phase → takes_done i b (piece (chunk bytes out)) ≡ false → InOne (chunked plugin i b bytes out).intake.session.phase
chunk_lasting i b bytes out h =
    let c = cut i.reading i.kept bytes in
    chunk_cases (λ o. any_done (taken_of i b bytes o) ≡ false → InOne o.intake.session.phase) plugin i b bytes out
    (λ t f. text_lasting c.texts i.session b i.awaited c.rest h) (λ t f z. h) (λ n t f z. h)

-- a command of phase two is out of turn
send_lasting : (s : Session) (b : Buffers) (word : WordTwo) (arguments body out : List ℕ) → InOne s.phase → InOne (outcome s b (send_two word arguments body out)).session.phase
send_lasting s b word arguments body out h =
    let n = (outcome s b (send_two word arguments body out)).number in
    cases (eqb n 0) (λ f. absurd (two_not_one s.phase (accepted s b (send_two word arguments body out) (eqb-true n 0 f)).turn h))
    (λ f. subst (λ (s : Session). InOne s.phase) (sym (refusal s b (send_two word arguments body out) (eqb-false n 0 f)).session) h)

-- any calls
calls_lasting : (i : Intake) (cs : List (AnyWith plugin)) → InOne i.session.phase → Lasts i cs → InOne (intake_after_all plugin i cs).session.phase
unfolding intake_after_all Lasts
calls_lasting i [] h l = h
calls_lasting i (c ∷ cs) h l = calls_lasting (intake_after plugin i c.buffers c.call) cs (go c.call c.has l.0) l.1
  where
    go : (x : AnyCall) → Has plugin x → takes_done i c.buffers x ≡ false → InOne (intake_after plugin i c.buffers x).session.phase
    go (piece (chunk bytes out)) k z = chunk_lasting i c.buffers bytes out h z
    go (piece (reply r body out)) k z = h
    go (sends_one word arguments body out) k z = absurd k
    go (sends_two word arguments body out) k z = send_lasting i.session c.buffers word arguments body out h
    go finishes k z = h

-- in phase one nothing is due, behind any calls from an opening
pub nothing_due : (machine name : List ℕ) (cs : List (AnyWith plugin)) → (let i = emptied (opened machine name false).session [] in Lasts i cs → NothingDue (intake_after_all plugin i cs))
nothing_due machine name cs l =
    let i = emptied (opened machine name false).session [] in
    let h = calls_lasting i cs (opened_phase machine name false) l in
    record { due = one_undue (intake_after_all plugin i cs).session.phase h; awaited = reached_plugin_awaited machine name cs; phase = h }

-- ---- 14 is for what stands behind done, and for a command of phase two

-- bytes in phase two while none is due are dropped
text_dropped : (ts : List (List ℕ)) (s : Session) (b : Buffers) (a : List ℕ) (r : Rest) → s.phase ≡ Two → (taken_all plugin s b a ts r).intake.session.phase ≡ Two
unfolding taken_all
text_dropped [] s b a r h =
    subst (λ u. (taken_rest u s b a r).intake.session.phase ≡ Two) (sym (ap (turn_at plugin) h))
    (either (λ (x : Taken). x.intake.session.phase ≡ Two) (eqb (length (bytes_of r)) 0) (no_more 0 (emptied s a) b) (no_more 14 (emptied s a) b) h h)
text_dropped (t ∷ ts) s b a r h =
    stanza_cases (λ x. x.intake.session.phase ≡ Two) plugin s b a t ts r
    (λ q z. absurd (drops_not_reads 14 (sym (ap (turn_at plugin) h) ∙ q))) (λ q z. absurd (drops_not_reads 14 (sym (ap (turn_at plugin) h) ∙ q))) (λ n q. h) (λ q. h)

-- it has taken done, and the session is in phase two
abbrev Behind : Taken → List (List ℕ) → Type 0
Behind x ts = x.number ≡ 14 → (any_done (take x.count ts) ≡ true) × (x.intake.session.phase ≡ Two)

any_first : (n : ℕ) (t : List ℕ) (ts : List (List ℕ)) → (is_done t ≡ true) ⊎ (any_done (take n ts) ≡ true) → any_done (take (1 + n) (t ∷ ts)) ≡ true
unfolding any_done
any_first n t ts h =
    let m : 1 + n ≡ suc n = omega arith in
    ap (λ n. any_done (take n (t ∷ ts))) m ∙ true_or (is_done t) (any_done (take n ts)) h

rest_behind : (s : Session) (b : Buffers) (a : List ℕ) (r : Rest) (ts : List (List ℕ)) → Faulty r → Behind (taken_rest reads s b a r) ts
rest_behind s b a (unfinished q front) ts f z = absurd (omega arith)
rest_behind s b a (impossible n text) ts f z = absurd (⊎_elim (λ e. omega arith) (λ e. omega arith) f)

text_behind : (ts : List (List ℕ)) (s : Session) (b : Buffers) (a : List ℕ) (r : Rest) → s.phase ≡ One → All IsWhole ts → Faulty r → Behind (taken_all plugin s b a ts r) (parted plugin s b ts r).received
unfolding taken_all parted All
text_behind [] s b a r h w f = subst (λ p. Behind (taken_rest (turn_at plugin p) s b a r) (parted plugin s b [] r).received) (sym h) (rest_behind s b a r _ f)
text_behind (t ∷ ts) s b a r h w f =
    go (λ p. text_behind ts o.session o.buffers (awaited_behind plugin o.session.phase t) r p w.1 f) (turn_at plugin s.phase) (ap (turn_at plugin) h) (eqb o.number 0) refl
  where
    o : one_call.Outcome
    o = outcome s b (stanza_call plugin s.phase t)

    more : Taken
    more = taken_all plugin o.session o.buffers (awaited_behind plugin o.session.phase t) ts r

    parts : Parted
    parts = parted plugin o.session o.buffers ts r

    -- behind a stanza that was accepted, by whether it is done
    accepts : (o.session.phase ≡ One → Behind more parts.received) → (d : Bool) → is_done t ≡ d → o.number ≡ 0 → more.number ≡ 14 → (any_done (take (1 + more.count) (t ∷ parts.received)) ≡ true) × (more.intake.session.phase ≡ Two)
    accepts k true e z n =
        let p : o.session.phase ≡ Two = subst (λ x. (outcome s b (stanza_call plugin x t)).number ≡ 0 → (outcome s b (stanza_call plugin x t)).session.phase ≡ Two) (sym h) (λ z. behind_done s b t z e) z in
        (any_first more.count t parts.received (inl e), text_dropped ts o.session o.buffers (awaited_behind plugin o.session.phase t) r p)
    accepts k false e z n =
        let p : o.session.phase ≡ One = subst (λ x. (outcome s b (stanza_call plugin x t)).number ≡ 0 → (outcome s b (stanza_call plugin x t)).session.phase ≡ One) (sym h) (λ z. behind_other s b t z e) z in
        let y = k p n in
        (any_first more.count t parts.received (inr y.0), y.1)

    go : (o.session.phase ≡ One → Behind more parts.received) → (u : Turn) → u ≡ reads → (d : Bool) → eqb o.number 0 ≡ d →
        Behind (taken_by u s b a (t ++ joined ts (bytes_of r)) (pick d (one_more (last_in o.given) (written_by s b (stanza_call plugin s.phase t)) more) (no_more o.number (emptied o.session []) b)))
        (parted_by u (t ++ joined ts (bytes_of r)) (received_more t (pick d parts (record { received = []; left = joined ts (bytes_of r) })))).received
    go k reads q true d n = accepts k (is_done t) refl (eqb-true o.number 0 d) n
    go k reads q false d n = absurd (closes_not o.number 14 refl (stepped s b t w.0 plugin (ap (turn_at plugin) h)).number n)
    go k (drops m) q d e n = absurd (drops_not_reads m q)
    go k keeps_back q d e n = absurd (keeps_not_reads q)

-- a chunk is in turn there
one_turn : (m : ℕ) → m ≡ 0 → T (is_turned m) → ⊥
one_turn m e z = subst (λ m. T (is_turned m)) e z

-- a chunk in phase one gives 14 only behind its done
pub chunk_behind_done : (i : Intake) (b : Buffers) (bytes out : List ℕ) → Bounded plugin i → i.session.phase ≡ One → (chunked plugin i b bytes out).number ≡ 14 → BehindDone i b bytes (chunked plugin i b bytes out)
chunk_behind_done i b bytes out k h =
    let c = cut i.reading i.kept bytes in
    let x = cut_parts bytes i.reading i.kept (k.front refl) in
    chunk_cases (λ o. o.number ≡ 14 → BehindDone i b bytes o) plugin i b bytes out
    (λ t f n. let z = text_behind c.texts i.session b i.awaited c.rest h x.texts (cut_faulty i.reading i.kept bytes) n in record { done = z.0; phase = z.1 })
    (λ t f n. absurd (omega arith)) (λ m t f n. absurd (one_turn m (sym t ∙ ap (turn_of plugin) h) f))

-- a command of phase two gives 14 there
pub send_out_of_turn : (s : Session) (b : Buffers) (word : WordTwo) (arguments body out : List ℕ) → s.phase ≡ One → (outcome s b (send_two word arguments body out)).number ≡ 14
unfolding sent
send_out_of_turn s b word arguments body out h = rw h

-- ---- 14 exactly for a call of the other phase

-- a command of phase one ahead of others: accepted, or refused
one_cases : (Q : Taken → Type 0) (s : Session) (b : Buffers) (a t : List ℕ) (ts : List (List ℕ)) (r : Rest) → s.phase ≡ One →
    (let o = outcome s b (receive t) in
    o.number ≡ 0 → Q (one_more (last_in o.given) (written_by s b (receive t)) (taken_all plugin o.session o.buffers [] ts r))) →
    (let o = outcome s b (receive t) in (o.number ≡ 0 → ⊥) → Q (no_more o.number (emptied o.session []) b)) → Q (taken_all plugin s b a (t ∷ ts) r)
one_cases Q s b a t ts r h accepts refuses =
    let c : receive t ≡ stanza_call plugin s.phase t = sym (ap (λ p. stanza_call plugin p t) h) in
    let u = ap (turn_at plugin) h in
    stanza_cases Q plugin s b a t ts r
    (λ q. subst (λ c. (let o = outcome s b c in
    o.number ≡ 0 → Q (one_more (last_in o.given) (written_by s b c) (taken_all plugin o.session o.buffers [] ts r)))) c accepts)
    (λ q. subst (λ c. (let o = outcome s b c in (o.number ≡ 0 → ⊥) → Q (no_more o.number (emptied o.session []) b))) c refuses)
    (λ n q. absurd (drops_not_reads n (sym q ∙ u))) (λ q. absurd (keeps_not_reads (sym q ∙ u)))

-- 14 is given, nothing is written and nothing kept
abbrev OutOfTurn : Taken → Type 0
OutOfTurn x = (x.number ≡ 14) × (x.written ≡ []) × (x.intake.kept ≡ [])

-- bytes in phase two while none is due
out_dropped : (s : Session) (b : Buffers) (x : List ℕ) → s.phase ≡ Two → (x ≡ [] → ⊥) → OutOfTurn (taken_text plugin s b [] x)
out_dropped s b [] h e = absurd (e refl)
out_dropped s b (y ∷ x) h e =
    subst OutOfTurn (sym (texts.text_dropped plugin s b [] 14 (ap (turn_at plugin) h) (y ∷ x) ∙ texts.dropped_some plugin s b [] 14 [] y x)) (refl, refl, refl)

-- an accepted command ahead
out_ahead : (s : Session) (b : Buffers) (a t x : List ℕ) → Whole t →
    (let o = outcome s b (receive t) in o.number ≡ 0 → OutOfTurn (taken_text plugin o.session o.buffers [] x)) → (outcome s b (receive t)).number ≡ 0 → OutOfTurn (taken_text plugin s b a (t ++ x))
out_ahead s b a t x w k z =
    let c = cut start [] x in
    let y = k z in
    subst (λ (c : Cut). OutOfTurn (taken_all plugin s b a c.texts c.rest)) (sym (cut_append t x start [] ∙ ap (λ c. cut_on c x) (cut_whole t w)))
    (one_cases OutOfTurn s b a t c.texts c.rest (accepted s b (receive t) z).applied.turn (λ z. (y.0, y.1, y.2)) (λ n. absurd (n z)))

-- bytes behind an accepted done always give 14
more_text : (ws : List (List ℕ)) (t x : List ℕ) (s : Session) (b : Buffers) (a : List ℕ) → All Whole (ws ++ (t ∷ [])) →
    one_call.Accepted s b (map receive (ws ++ (t ∷ []))) → is_done t ≡ true → (x ≡ [] → ⊥) → OutOfTurn (taken_text plugin s b a (joined (ws ++ (t ∷ [])) x))
unfolding All joined one_call.numbers one_call.AllZero
more_text [] t x s b a w c d e = out_ahead s b a t x w.0 behind c.0
  where
    behind : (let o = outcome s b (receive t) in o.number ≡ 0 → OutOfTurn (taken_text plugin o.session o.buffers [] x))
    behind z = out_dropped (outcome s b (receive t)).session (outcome s b (receive t)).buffers x (behind_done s b t z d) e
more_text (v ∷ ws) t x s b a w c d e =
    out_ahead s b a v (joined (ws ++ (t ∷ [])) x) w.0
    (λ z. more_text ws t x (outcome s b (receive v)).session (outcome s b (receive v)).buffers [] w.1 c.1 d e) c.0

-- .. in a chunk, whatever the output buffer
chunk_more : (i : Intake) (b : Buffers) (bytes out : List ℕ) → Bounded plugin i → i.session.phase ≡ One →
    MoreBehindDone i.session b (i.kept ++ bytes) → (chunked plugin i b bytes out).number ≡ 14
chunk_more i b bytes out k h m =
    let y = subst OutOfTurn
    (ap (taken_text plugin i.session b i.awaited) m.place
    ∙ ap (λ (c : Cut). taken_all plugin i.session b i.awaited c.texts c.rest) (cut_on_lem i.kept bytes start i.reading [] i.kept (k.front refl).read))
    (more_text m.ahead m.last m.more i.session b i.awaited m.whole m.accepted m.done m.some) in
    ap (λ (o : Outcome). o.number) (chunk_held plugin i b bytes out (taken plugin i b bytes) (ap (turn_of plugin) h) refl
    (omega (arith, ap length y.1)) (omega (arith, ap length y.2))) ∙ y.0

-- no bytes behind done: nothing is dropped
none_dropped : (ts : List (List ℕ)) (s : Session) (b : Buffers) (r : Rest) → s.phase ≡ Two → All IsWhole ts → joined ts (bytes_of r) ≡ [] →
    (taken_all plugin s b [] ts r).number ≡ 14 → ⊥
unfolding taken_all joined All
none_dropped [] s b r h w e n =
    let z : (taken_rest (drops 14) s b [] r).number ≡ 14 = subst (λ p. (taken_rest (turn_at plugin p) s b [] r).number ≡ 14) h n in
    let y : (taken_rest (drops 14) s b [] r).number ≡ 0 = ap (λ x. (pick (eqb (length x) 0) (no_more 0 (emptied s []) b) (no_more 14 (emptied s []) b)).number) e in
    omega (arith, z, y)
none_dropped (t ∷ ts) s b r h w e n = whole_some t (joined ts (bytes_of r)) w.0 e

-- what stands behind the whole stanzas never gives it where it is read
rest_not_out : (s : Session) (b : Buffers) (a : List ℕ) (r : Rest) → Faulty r → (taken_rest reads s b a r).number ≡ 14 → ⊥
rest_not_out s b a (unfinished q front) f z = omega arith
rest_not_out s b a (impossible n text) f z = ⊎_elim (λ e. omega arith) (λ e. omega arith) f

-- a text that gives 14 has bytes behind an accepted done
text_more : (ts : List (List ℕ)) (s : Session) (b : Buffers) (a : List ℕ) (r : Rest) → s.phase ≡ One → All IsWhole ts → Faulty r →
    (taken_all plugin s b a ts r).number ≡ 14 → MoreBehindDone s b (joined ts (bytes_of r))
unfolding All joined one_call.numbers one_call.AllZero
text_more [] s b a r h w f n =
    absurd (subst (λ p. (taken_rest (turn_at plugin p) s b a r).number ≡ 14 → ⊥) (sym h) (rest_not_out s b a r f) (unfold taken_all in n))
text_more (t ∷ ts) s b a r h w f n =
    one_cases (λ x. x.number ≡ 14 → MoreBehindDone s b (joined (t ∷ ts) (bytes_of r))) s b a t ts r h
    (λ z m. accepts (λ p. text_more ts o.session o.buffers [] r p w.1 f m) (is_done t) refl z m)
    (λ z m. absurd (closes_not o.number 14 refl
    (subst (λ p. closes (outcome s b (stanza_call plugin p t)).number ≡ true) h (stepped s b t w.0 plugin (ap (turn_at plugin) h)).number) m)) n
  where
    o : one_call.Outcome
    o = outcome s b (receive t)

    accepts : (o.session.phase ≡ One → MoreBehindDone o.session o.buffers (joined ts (bytes_of r))) → (d : Bool) → is_done t ≡ d → o.number ≡ 0 →
        (taken_all plugin o.session o.buffers [] ts r).number ≡ 14 → MoreBehindDone s b (t ++ joined ts (bytes_of r))
    accepts k true e z m = record {
      ahead = [];
      last = t;
      more = joined ts (bytes_of r);
      place = refl;
      whole = (whole_read t w.0, tt);
      accepted = (z, tt);
      done = e;
      some = λ y. none_dropped ts o.session o.buffers r (behind_done s b t z e) w.1 y m;
    }
    accepts k false e z m =
        let y = k (behind_other s b t z e) in
        record {
          ahead = t ∷ y.ahead;
          last = y.last;
          more = y.more;
          place = ap (λ x. t ++ x) y.place;
          whole = (whole_read t w.0, y.whole);
          accepted = (z, y.accepted);
          done = y.done;
          some = y.some;
        }

-- a chunk in phase one gives 14 exactly if there are bytes behind an accepted done
chunk_fourteen : (i : Intake) (b : Buffers) (bytes out : List ℕ) → Bounded plugin i → i.session.phase ≡ One →
    ((chunked plugin i b bytes out).number ≡ 14) ↔ MoreBehindDone i.session b (i.kept ++ bytes)
chunk_fourteen i b bytes out k h =
    let c = cut i.reading i.kept bytes in
    let x = cut_parts bytes i.reading i.kept (k.front refl) in (
      chunk_cases (λ o. o.number ≡ 14 → MoreBehindDone i.session b (i.kept ++ bytes)) plugin i b bytes out
          (λ t f n. subst (MoreBehindDone i.session b) (cut_joined bytes i.reading i.kept)
          (text_more c.texts i.session b i.awaited c.rest h x.texts (cut_faulty i.reading i.kept bytes) n))
          (λ t f n. absurd (omega arith)) (λ m t f n. absurd (one_turn m (sym t ∙ ap (turn_of plugin) h) f)),
      chunk_more i b bytes out k h,
    )

-- any call in phase one gives 14 exactly if it is of the other phase
pub fourteen_iff : (i : Intake) (b : Buffers) (x : AnyCall) → Has plugin x → Bounded plugin i → i.session.phase ≡ One →
    (number_at plugin i b x ≡ 14) ↔ IsOther i b x
fourteen_iff i b (piece (chunk bytes out)) k bounded h = chunk_fourteen i b bytes out bounded h
fourteen_iff i b (piece (reply r body out)) k bounded h = (λ n. tt, λ u. refl)
fourteen_iff i b (sends_one word arguments body out) k bounded h = absurd k
fourteen_iff i b (sends_two word arguments body out) k bounded h = (λ n. tt, λ u. send_out_of_turn i.session b word arguments body out h)
fourteen_iff i b finishes k bounded h = (λ n. absurd (let z = sym (ap finished h) ∙ n in omega (arith, z)), λ u. absurd u)
