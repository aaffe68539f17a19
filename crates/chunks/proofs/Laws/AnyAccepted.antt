-- Any calls of an end are accepted where the calls of one stanza that they come to are: so exact acceptance of the plugin end's phase two holds of its commands sent
-- with the responses in chunks.
use Prim.Native.Nat.{ℕ}
use mathlib.Core.Path.{◌≡◌, refl, sym, ap, ap₂, subst, ◌∙◌}
use mathlib.Core.Bool.{Bool, true, false, ◌||◌, false≢true}
use mathlib.Core.Logic.{◌⊎◌, inl, inr, ⊎_elim, ◌↔◌}
use mathlib.Core.List.{List, [], ◌∷◌, ◌++◌}
use lib.Dec.{T, eqb}
use lib.ListN.{length}
use native.Mathlib.Omega.{arith}
use borrow.Author.Tests.{eqb-true, eqb-false, ne_eqb}
use Rattle.refusal.specs.Pick.{pick}
use Rattle.session.specs.Session.{Session}
use Rattle.session.specs.declared.phases.Phase.{Phase}
use Rattle.session.specs.declared.phases.Phase.TheVariants.{One, Two, Awaiting, Ended, Closed}
use Rattle.conversation.specs.Calls as one_call
use Rattle.conversation.specs.Calls.{Call, send_two, outcome, written_by, is_client, AllZero, Accepted}
use Rattle.conversation.specs.Kinds.{Buffers}
use Rattle.conversation.specs.Allowed.{AllowedSent, left_of, capacity_of}
use Rattle.conversation.specs.Phases.{All, LongEnough, JustReceived}
use Rattle.conversation.specs.Shapes.{AcceptedTo, ShapedSent, FrontSent, AllowedSentSoFar}
use Rattle.conversation.proofs.Laws.Reached.{just_received_done}
use Rattle.conversation.proofs.Laws.Runs.{accepted_append}
use Rattle.conversation.proofs.Laws.ShapesSent.{shaped_sent_iff, front_sent_iff}
use Rattle.chunks.specs.Cutting.{Rest, unfinished, impossible, bytes_of, cut}
use Rattle.chunks.specs.Taking.{End, plugin, Turn, reads, drops, keeps_back, turn_at, stanza_call, awaited_behind, Intake, Taken, last_in, no_more, emptied, one_more, joined, taken_rest, taken_by, taken_all}
use Rattle.chunks.specs.Chunks.{taken, chunked, finished}
use Rattle.chunks.specs.Uncut.{chunk, reply, outcome_of, is_closed}
use Rattle.chunks.specs.Reached.{AnyCall, piece, sends_one, sends_two, finishes, Has, intake_after}
use Rattle.chunks.specs.AnyCalls.{buffers_after, number_at, after_any, numbers_any, InTurn, rest_calls, turn_calls, stanza_calls, calls_in, calls_all}
use Rattle.chunks.proofs.Laws.AnyCalls.{impossible_as, call_as, pick_all, stanzas_all, any_calls}
use Rattle.chunks.proofs.Laws.Cases.{is_turned, chunk_cases}
use Rattle.chunks.proofs.Laws.Cutting.{IsRest, cut_parts}
use Rattle.chunks.proofs.Laws.Finish.{turn_not_waiting}
use Rattle.chunks.proofs.Laws.Orders.{all_append}
use Rattle.chunks.proofs.Laws.Reached.{Keeps, emptied_settled, call_keeps}
use Rattle.chunks.proofs.Laws.Short.{OutOfTurn, taken_not_short}
use Rattle.chunks.proofs.Laws.Stanzas.{stanza_open}
use Rattle.chunks.proofs.Laws.Taking.{turn_drops}

-- ---- what a text comes to

-- where it is accepted so are the calls of its stanzas; where those are, it is accepted or bytes were dropped behind them
record Level (n : ℕ) (s : Session) (b : Buffers) (cs : List Call) : Type 0 where
  down : n ≡ 0 → Accepted s b cs
  up : Accepted s b cs → (n ≡ 0) ⊎ OutOfTurn n

level_none : (n : ℕ) (s : Session) (b : Buffers) → (n ≡ 0) ⊎ OutOfTurn n → Level n s b []
unfolding AllZero one_call.numbers
level_none n s b h = record { down = λ z. tt; up = λ a. h }

-- bytes that no stanza begins with are refused either way
level_impossible : (e : End) (s : Session) (b : Buffers) (n : ℕ) (x : List ℕ) → IsRest (impossible n x) → turn_at e s.phase ≡ reads → Level n s b (stanza_call e s.phase x ∷ [])
unfolding AllZero one_call.numbers one_call.after
level_impossible e s b n x k t = record {
  down = λ z. absurd (⊎_elim (λ (y : n ≡ 1). omega arith) (λ (y : n ≡ 3). omega arith) k.1);
  up = λ a. absurd (false≢true (sym (stanza_open e s.phase s b x a.0) ∙ sym (ap (λ (s : Session). is_closed s.phase) (impossible_as e s b n x k t).session)));
}

level_rest : (e : End) (s : Session) (b : Buffers) (a : List ℕ) (r : Rest) → IsRest r → (u : Turn) → turn_at e s.phase ≡ u → Level (taken_rest u s b a r).number s b (rest_calls u e s.phase r)
level_rest e s b a (unfinished q f) k reads t = level_none 0 s b (inl refl)
level_rest e s b a (impossible n x) k reads t = level_impossible e s b n x k t
level_rest e s b a r k (drops n) t = go (eqb (length (bytes_of r)) 0)
  where
    go : (f : Bool) → Level (pick f (no_more 0 (emptied s a) b) (no_more n (emptied s a) b)).number s b []
    go true = level_none 0 s b (inl refl)
    go false = level_none n s b (inr (turn_drops e s.phase n t))
level_rest e s b a r k keeps_back t = level_none 0 s b (inl refl)

level_more : (n : ℕ) (s : Session) (b : Buffers) (c : Call) (cs : List Call) → (outcome s b c).number ≡ 0 → Level n (outcome s b c).session (outcome s b c).buffers cs → Level n s b (c ∷ cs)
unfolding AllZero one_call.numbers
level_more n s b c cs h k = record { down = λ z. (h, k.down z); up = λ a. k.up a.1 }

level_refused : (s : Session) (b : Buffers) (c : Call) → ((outcome s b c).number ≡ 0 → ⊥) → Level (outcome s b c).number s b (c ∷ [])
unfolding AllZero one_call.numbers
level_refused s b c h = record { down = λ z. absurd (h z); up = λ a. absurd (h a.0) }

level_taken : (ts : List (List ℕ)) (e : End) (s : Session) (b : Buffers) (a : List ℕ) (r : Rest) → IsRest r → Level (taken_all e s b a ts r).number s b (stanza_calls e s b ts r)
unfolding taken_all stanza_calls
level_taken [] e s b a r k = level_rest e s b a r k (turn_at e s.phase) refl
level_taken (t ∷ ts) e s b a r k =
    let o = outcome s b (stanza_call e s.phase t) in go (level_taken ts e o.session o.buffers (awaited_behind e o.session.phase t) r k) (turn_at e s.phase) refl
  where
    c : Call
    c = stanza_call e s.phase t

    o : one_call.Outcome
    o = outcome s b c

    more : Taken
    more = taken_all e o.session o.buffers (awaited_behind e o.session.phase t) ts r

    Behind : Type 0
    Behind = Level more.number o.session o.buffers (stanza_calls e o.session o.buffers ts r)

    read : Behind → (f : Bool) → eqb o.number 0 ≡ f →
        Level (pick f (one_more (last_in o.given) (written_by s b c) more) (no_more o.number (emptied o.session []) b)).number s b (c ∷ pick f (stanza_calls e o.session o.buffers ts r) [])
    read m true f = level_more more.number s b c (stanza_calls e o.session o.buffers ts r) (eqb-true o.number 0 f) m
    read m false f = level_refused s b c (eqb-false o.number 0 f)

    go : Behind → (u : Turn) → turn_at e s.phase ≡ u →
        Level (taken_by u s b a (t ++ joined ts (bytes_of r)) (pick (eqb o.number 0) (one_more (last_in o.given) (written_by s b c) more) (no_more o.number (emptied o.session []) b))).number s b
        (turn_calls u (c ∷ pick (eqb o.number 0) (stanza_calls e o.session o.buffers ts r) []))
    go m reads h = read m (eqb o.number 0) refl
    go m (drops n) h = level_none n s b (inr (turn_drops e s.phase n h))
    go m keeps_back h = level_none 0 s b (inl refl)

-- ---- the plugin end's calls

-- a call that is in turn is accepted exactly where its calls of one stanza are
abbrev Even : ℕ → Session → Buffers → List Call → Type 0
Even n s b cs = ((n ≡ 2 → ⊥) × (n ≡ 13 → ⊥) × (n ≡ 14 → ⊥) × (n ≡ 15 → ⊥)) → (n ≡ 0) ↔ Accepted s b cs

level_even : (n : ℕ) (s : Session) (b : Buffers) (cs : List Call) → Level n s b cs → Even n s b cs
level_even n s b cs k h = (k.down, λ a. ⊎_elim (λ z. z) (λ o. ⊎_elim (λ z. absurd (h.1 z)) (λ z. absurd (h.2 z)) o) (k.up a))

chunk_even : (i : Intake) (b : Buffers) (bytes out : List ℕ) → Keeps plugin i → Even (chunked plugin i b bytes out).number i.session b (calls_in plugin i b (piece (chunk bytes out)))
chunk_even i b bytes out k =
    let c = cut i.reading i.kept bytes in
    let ds = stanza_calls plugin i.session b c.texts c.rest in
    chunk_cases (λ o. Even o.number i.session b (pick (eqb o.number 15) [] ds)) plugin i b bytes out
    (λ t h. rw (ne_eqb (taken plugin i b bytes).number 15 (taken_not_short plugin i b bytes))
    (level_even (taken plugin i b bytes).number i.session b ds
    (level_taken c.texts plugin i.session b i.awaited c.rest (cut_parts bytes i.reading i.kept (k.settled.front (turn_not_waiting plugin i.session.phase t))).rest)))
    (λ t h v. absurd (v.3 refl)) (λ n t h v. absurd (turned n h v))
  where
    turned : (n : ℕ) → T (is_turned n) → ((n ≡ 2 → ⊥) × (n ≡ 13 → ⊥) × (n ≡ 14 → ⊥) × (n ≡ 15 → ⊥)) → ⊥
    turned n h v = go (eqb n 13) (eqb n 14) refl refl h
      where
        go : (f g : Bool) → eqb n 13 ≡ f → eqb n 14 ≡ g → T (f || g) → ⊥
        go true g p q h = v.1 (eqb-true n 13 p)
        go false true p q h = v.2 (eqb-true n 14 q)
        go false false p q h = h

one_even : (s : Session) (b : Buffers) (c : Call) → Even (outcome s b c).number s b (c ∷ [])
unfolding AllZero one_call.numbers
one_even s b c h = (λ z. (z, tt), λ a. a.0)

finish_even : (p : Phase) (s : Session) (b : Buffers) → Even (finished p) s b []
unfolding AllZero one_call.numbers
finish_even One s b h = absurd (h.0 refl)
finish_even Two s b h = absurd (h.0 refl)
finish_even (Awaiting w) s b h = absurd (h.0 refl)
finish_even Ended s b h = (λ z. tt, λ a. refl)
finish_even Closed s b h = absurd (h.1 refl)

call_even : (i : Intake) (b : Buffers) (c : AnyCall) → Has plugin c → Keeps plugin i → Even (number_at plugin i b c) i.session b (calls_in plugin i b c)
call_even i b (piece (chunk bytes out)) h k = chunk_even i b bytes out k
call_even i b (piece (reply r body out)) h k = λ v. absurd (v.2 refl)
call_even i b (sends_one word arguments body out) h k = absurd h
call_even i b (sends_two word arguments body out) h k = one_even i.session b (send_two word arguments body out)
call_even i b finishes h k = finish_even i.session.phase i.session b

-- a list of calls that are in turn is accepted exactly where the calls of one stanza are
pub any_accepted : (i : Intake) (b : Buffers) (cs : List AnyCall) → Keeps plugin i → All (Has plugin) cs → InTurn (numbers_any plugin i b cs) → AllZero (numbers_any plugin i b cs) ↔ Accepted i.session b (calls_all plugin i b cs)
unfolding All AllZero InTurn numbers_any calls_all one_call.numbers
any_accepted i b [] k h v = (λ a. tt, λ a. tt)
any_accepted i b (c ∷ cs) k h v =
    let i' = intake_after plugin i b c in
    let b' = buffers_after plugin i b c in
    let x = call_even i b c h.0 k v.0 in
    let y = any_accepted i' b' cs (call_keeps plugin i b c h.0 k) h.1 v.1 in
    let a = call_as plugin i b c h.0 k in
    let j = accepted_append i.session b (calls_in plugin i b c) (calls_all plugin i' b' cs) in
    let there = ap₂ (λ s b. Accepted s b (calls_all plugin i' b' cs)) a.session a.buffers in
    (λ z. j.1 (x.0 z.0, subst (λ X. X) there (y.0 z.1)), λ z. let w = j.0 z in (x.1 w.0, y.1 (subst (λ X. X) (sym there) w.1)))

-- .. and leaves the session in the same phase
pub any_accepted_to : (q : Phase) (i : Intake) (b : Buffers) (cs : List AnyCall) → Keeps plugin i → All (Has plugin) cs → InTurn (numbers_any plugin i b cs) →
    (AllZero (numbers_any plugin i b cs) × ((after_any plugin i b cs).intake.session.phase ≡ q)) ↔ AcceptedTo q i.session b (calls_all plugin i b cs)
any_accepted_to q i b cs k h v =
    let x = any_accepted i b cs k h v in
    let p = ap (λ (s : Session). s.phase) (any_calls plugin i b cs k h).session in
    (λ z. (x.0 z.0, sym p ∙ z.1), λ z. (x.1 z.0, p ∙ z.1))

-- ---- exact acceptance

-- the calls of one stanza are the plugin end's
abbrev IsPlugin : Call → Type 0
IsPlugin c = is_client c ≡ false

plugin_stanza : (p : Phase) (t : List ℕ) → IsPlugin (stanza_call plugin p t)
plugin_stanza One t = refl
plugin_stanza Two t = refl
plugin_stanza (Awaiting w) t = refl
plugin_stanza Ended t = refl
plugin_stanza Closed t = refl

call_plugin : (i : Intake) (b : Buffers) (c : AnyCall) → Has plugin c → All IsPlugin (calls_in plugin i b c)
unfolding All
call_plugin i b (piece (chunk bytes out)) h =
    let c = cut i.reading i.kept bytes in
    pick_all IsPlugin plugin plugin_stanza (eqb (outcome_of plugin i b (chunk bytes out)).number 15) [] (stanza_calls plugin i.session b c.texts c.rest) tt (stanzas_all IsPlugin plugin plugin_stanza c.texts i.session b c.rest)
call_plugin i b (piece (reply r body out)) h = tt
call_plugin i b (sends_one word arguments body out) h = absurd h
call_plugin i b (sends_two word arguments body out) h = (refl, tt)
call_plugin i b finishes h = tt

calls_plugin : (i : Intake) (b : Buffers) (cs : List AnyCall) → All (Has plugin) cs → All IsPlugin (calls_all plugin i b cs)
unfolding All calls_all
calls_plugin i b [] h = tt
calls_plugin i b (c ∷ cs) h = all_append IsPlugin (calls_in plugin i b c) (calls_all plugin (intake_after plugin i b c) (buffers_after plugin i b c) cs) (call_plugin i b c h.0) (calls_plugin (intake_after plugin i b c) (buffers_after plugin i b c) cs h.1)

-- a session that has just received done keeps nothing
received_keeps : (s : Session) → Keeps plugin (emptied s [])
received_keeps s = record { settled = emptied_settled plugin s [] (record { none = λ z. refl; whole = λ z. absurd (false≢true z) }); bound = omega arith }

-- the plugin end's phase two, commands sent and responses in chunks: accepted to the end of the phase exactly those that have its shape and are allowed
pub plugin_exact : (s : Session) (b : Buffers) → JustReceived s → (cs : List AnyCall) → All (Has plugin) cs → (let i = emptied s [] in let ds = calls_all plugin i b cs in
    InTurn (numbers_any plugin i b cs) → LongEnough s b ds →
    (AllZero (numbers_any plugin i b cs) × ((after_any plugin i b cs).intake.session.phase ≡ Ended))
    ↔ ((p : ShapedSent ds) × AllowedSent s.machine (left_of (one_call.state_of s b)) (capacity_of b) (p.ahead ++ (p.last ∷ []))))
plugin_exact s b j cs h v l =
    let i = emptied s [] in
    let x = any_accepted_to Ended i b cs (received_keeps s) h v in
    let y = shaped_sent_iff s b (just_received_done s j) (calls_all plugin i b cs) (calls_plugin i b cs h) l in
    (λ z. y.0 (x.0 z), λ z. x.1 (y.1 z))

-- .. and accepted but not to its end, exactly those cut before done that are allowed so far
pub plugin_so_far : (s : Session) (b : Buffers) → JustReceived s → (cs : List AnyCall) → All (Has plugin) cs → (let i = emptied s [] in let ds = calls_all plugin i b cs in
    InTurn (numbers_any plugin i b cs) → LongEnough s b ds → (q : Phase) → (q ≡ Ended → ⊥) →
    (AllZero (numbers_any plugin i b cs) × ((after_any plugin i b cs).intake.session.phase ≡ q))
    ↔ ((p : FrontSent ds) × AllowedSentSoFar s.machine (left_of (one_call.state_of s b)) (capacity_of b) q p.exchanges))
plugin_so_far s b j cs h v l q n =
    let i = emptied s [] in
    let x = any_accepted_to q i b cs (received_keeps s) h v in
    let y = front_sent_iff s b (just_received_done s j) (calls_all plugin i b cs) (calls_plugin i b cs h) l q n in
    (λ z. y.0 (x.0 z), λ z. x.1 (y.1 z))
