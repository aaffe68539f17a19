-- Any calls of an end, refused with whatever number, come to calls of one stanza: so what holds of every list of those holds of every list of calls on chunks.
use Prim.Native.Nat.{ℕ}
use mathlib.Core.Path.{◌≡◌, refl, sym, ap, ap₂, subst, ◌∙◌}
use mathlib.Core.Bool.{Bool, true, false}
use mathlib.Core.List.{List, [], ◌∷◌, ◌++◌, append_assoc, append-nil}
use lib.Dec.{T, eqb, leb}
use lib.ListN.{length, take}
use native.Mathlib.Omega.{arith}
use borrow.Author.Tests.{eqb-false, ne_eqb, leb-true}
use Rattle.refusal.specs.Pick.{pick}
use Rattle.refusal.proofs.Laws.Booleans.{and_true}
use Rattle.stanza.specs.Automaton.{start}
use Rattle.stanza.specs.Grammar.{stanza_text}
use Rattle.responses.specs.Responses.{response_line}
use Rattle.responses.specs.declared.Response.{Response}
use Rattle.session.specs.Session.{Session, closed, opened}
use Rattle.session.specs.declared.words.WordTwo.{WordTwo}
use Rattle.session.specs.declared.phases.Phase.{Phase}
use Rattle.session.specs.declared.phases.Phase.TheVariants.{One, Two, Awaiting, Ended, Closed}
use Rattle.phase_one.specs.Views.{recipients}
use Rattle.conversation.specs.Calls as one_call
use Rattle.conversation.specs.Calls.{Call, send, send_two, outcome, written_by, accepted_rows}
use Rattle.conversation.specs.Answers.{events, Paired}
use Rattle.conversation.specs.Allowed.{Distinct}
use Rattle.conversation.specs.Kinds.{AnyKind, first, Buffers, view_of}
use Rattle.conversation.specs.Phases.{All}
use Rattle.conversation.specs.Replying.{number_replied}
use Rattle.conversation.specs.TurnsTwo.{answered}
use Rattle.conversation.proofs.Laws.Answers.{answers_opened}
use Rattle.conversation.proofs.Laws.Refusals.{either, refusal}
use Rattle.conversation.proofs.Laws.Runs.{after_append}
use Rattle.conversation.proofs.Laws.StepsTwo.{all_written}
use Rattle.conversation.proofs.Laws.Tables.{tables_opened}
use Rattle.conversation.proofs.Laws.Twice.{recipients_differ}
use Rattle.chunks.specs.Cutting.{Rest, unfinished, impossible, bytes_of, cut}
use Rattle.chunks.specs.Taking.{End, client, plugin, Turn, reads, drops, keeps_back, turn_at, ample, stanza_call, awaited_behind, Intake, Taken, last_in, no_more, emptied, one_more, joined, taken_rest, taken_by, taken_all}
use Rattle.chunks.specs.Chunks.{Outcome, is_held, taken, turn_of, chunked, taken_back, replied}
use Rattle.chunks.specs.Uncut.{chunk, reply, State, is_unfit}
use Rattle.chunks.specs.Reached.{AnyCall, piece, sends_one, sends_two, finishes, Has, intake_after}
use Rattle.chunks.specs.AnyCalls.{buffers_after, written_at, after_any, written_any, rest_calls, turn_calls, stanza_calls, calls_in, calls_all, ComesTo}
use Rattle.chunks.proofs.Laws.Calls.{last_does}
use Rattle.chunks.proofs.Laws.Cases.{drops_not_reads, keeps_not_reads, held, is_turned, chunk_cases, answering, reply_cases}
use Rattle.chunks.proofs.Laws.Cut.{last_held, reply_alone_lem, reply_room}
use Rattle.chunks.proofs.Laws.Cutting.{IsRest, cut_parts, none_front}
use Rattle.chunks.proofs.Laws.Finish.{turn_not_waiting}
use Rattle.chunks.proofs.Laws.Orders.{joined_append, written_append}
use Rattle.chunks.proofs.Laws.Reached.{Keeps, call_keeps, opened_keeps}
use Rattle.chunks.proofs.Laws.Short.{taken_not_short}
use Rattle.chunks.proofs.Laws.Singles.{reply_single}
use Rattle.chunks.proofs.Laws.Taking.{room_fits}

-- ---- what a text comes to, by calls of one stanza

pub record As (s : Session) (b : Buffers) (s' : Session) (b' : Buffers) (v : List ℕ) (cs : List Call) : Type 0 where
  pub session : s' ≡ (one_call.after s b cs).session
  pub buffers : b' ≡ (one_call.after s b cs).buffers
  pub written : v ≡ joined (one_call.written s b cs) []

abbrev TakenAs : Session → Buffers → Taken → List Call → Type 0
TakenAs s b x cs = As s b x.intake.session x.buffers x.written cs

as_none : (s : Session) (b : Buffers) → As s b s b [] []
unfolding one_call.after one_call.written joined
as_none s b = record { session = refl; buffers = refl; written = refl }

as_more : (s : Session) (b : Buffers) (c : Call) (s' : Session) (b' : Buffers) (v : List ℕ) (cs : List Call) → As (outcome s b c).session (outcome s b c).buffers s' b' v cs → As s b s' b' (written_by s b c ++ v) (c ∷ cs)
unfolding one_call.after one_call.written joined
as_more s b c s' b' v cs k = record { session = k.session; buffers = k.buffers; written = ap (λ x. written_by s b c ++ x) k.written }

-- one call
as_one : (s : Session) (b : Buffers) (c : Call) (s' : Session) (b' : Buffers) (v : List ℕ) → s' ≡ (outcome s b c).session → b' ≡ (outcome s b c).buffers → v ≡ written_by s b c → As s b s' b' v (c ∷ [])
unfolding one_call.after one_call.written joined
as_one s b c s' b' v p q r = record { session = p; buffers = q; written = r ∙ sym (append-nil (written_by s b c)) }

-- bytes that no stanza begins with
pub impossible_as : (e : End) (s : Session) (b : Buffers) (n : ℕ) (x : List ℕ) → IsRest (impossible n x) → turn_at e s.phase ≡ reads → As s b (closed s) b [] (stanza_call e s.phase x ∷ [])
impossible_as e s b n x k t =
    let h = last_held e 0 s [] b x (impossible n x) (no_more n (emptied (closed s) []) b) t k.0 refl refl (omega arith) in
    let d = last_does e s [] b x (ap (λ c. c.texts) k.0) in
    as_one s b (stanza_call e s.phase x) (closed s) b [] (sym (ap (λ (o : Outcome). o.intake.session) h) ∙ d.session) (sym (ap (λ (o : Outcome). o.buffers) h) ∙ d.buffers)
    (sym (ap (λ (o : Outcome). take o.size o.output) h) ∙ d.written)

rest_as : (e : End) (s : Session) (b : Buffers) (a : List ℕ) (r : Rest) → IsRest r → (u : Turn) → turn_at e s.phase ≡ u → TakenAs s b (taken_rest u s b a r) (rest_calls u e s.phase r)
rest_as e s b a (unfinished q f) k reads t = as_none s b
rest_as e s b a (impossible n x) k reads t = impossible_as e s b n x k t
rest_as e s b a r k (drops n) t = either (λ x. TakenAs s b x []) (eqb (length (bytes_of r)) 0) (no_more 0 (emptied s a) b) (no_more n (emptied s a) b) (as_none s b) (as_none s b)
rest_as e s b a r k keeps_back t = as_none s b

-- a refused stanza
refused_as : (s : Session) (b : Buffers) (c : Call) → ((outcome s b c).number ≡ 0 → ⊥) → As s b (outcome s b c).session b [] (c ∷ [])
refused_as s b c h = let r = refusal s b c h in as_one s b c (outcome s b c).session b [] refl (sym r.buffers) (sym (ap (λ n. take n (outcome s b c).output) r.size))

-- the stanzas of a text and what stands behind them
taken_as : (ts : List (List ℕ)) (e : End) (s : Session) (b : Buffers) (a : List ℕ) (r : Rest) → IsRest r → TakenAs s b (taken_all e s b a ts r) (stanza_calls e s b ts r)
unfolding taken_all stanza_calls
taken_as [] e s b a r k = rest_as e s b a r k (turn_at e s.phase) refl
taken_as (t ∷ ts) e s b a r k =
    let o = outcome s b (stanza_call e s.phase t) in go (taken_as ts e o.session o.buffers (awaited_behind e o.session.phase t) r k) (turn_at e s.phase)
  where
    c : Call
    c = stanza_call e s.phase t

    o : one_call.Outcome
    o = outcome s b c

    more : Taken
    more = taken_all e o.session o.buffers (awaited_behind e o.session.phase t) ts r

    Behind : Type 0
    Behind = TakenAs o.session o.buffers more (stanza_calls e o.session o.buffers ts r)

    read : Behind → (f : Bool) → eqb o.number 0 ≡ f → TakenAs s b (pick f (one_more (last_in o.given) (written_by s b c) more) (no_more o.number (emptied o.session []) b)) (c ∷ pick f (stanza_calls e o.session o.buffers ts r) [])
    read m true f = as_more s b c more.intake.session more.buffers more.written (stanza_calls e o.session o.buffers ts r) m
    read m false f = refused_as s b c (eqb-false o.number 0 f)

    go : Behind → (u : Turn) →
        TakenAs s b (taken_by u s b a (t ++ joined ts (bytes_of r)) (pick (eqb o.number 0) (one_more (last_in o.given) (written_by s b c) more) (no_more o.number (emptied o.session []) b)))
        (turn_calls u (c ∷ pick (eqb o.number 0) (stanza_calls e o.session o.buffers ts r) []))
    go m reads = read m (eqb o.number 0) refl
    go m (drops n) = as_none s b
    go m keeps_back = as_none s b

-- ---- a call

abbrev CallAs : Session → Buffers → Outcome → List Call → Type 0
CallAs s b o cs = As s b o.intake.session o.buffers (take o.size o.output) cs

held_as : (s : Session) (b : Buffers) (out : List ℕ) (x : Taken) (cs : List Call) → is_held x out ≡ true → TakenAs s b x cs → CallAs s b (held out x) cs
held_as s b out x cs h k = record {
  session = k.session;
  buffers = k.buffers;
  written = all_written x.written out (leb-true (length x.written) (length out) (and_true (leb (length x.written) (length out)) (leb (length x.intake.kept) 8192) h).0) ∙ k.written;
}

-- out of turn no stanza is received
turned_apart : (e : End) (p : Phase) → T (is_turned (turn_of e p)) → turn_at e p ≡ reads → ⊥
turned_apart client One h q = drops_not_reads 14 q
turned_apart client Two h q = h
turned_apart client (Awaiting w) h q = keeps_not_reads q
turned_apart client Ended h q = drops_not_reads 13 q
turned_apart client Closed h q = drops_not_reads 13 q
turned_apart plugin One h q = h
turned_apart plugin Two h q = h
turned_apart plugin (Awaiting w) h q = h
turned_apart plugin Ended h q = drops_not_reads 13 q
turned_apart plugin Closed h q = drops_not_reads 13 q

turned_none : (e : End) (s : Session) (b : Buffers) (ts : List (List ℕ)) (r : Rest) → (turn_at e s.phase ≡ reads → ⊥) → stanza_calls e s b ts r ≡ []
unfolding stanza_calls
turned_none e s b [] r h = go (turn_at e s.phase) h
  where
    go : (u : Turn) → (u ≡ reads → ⊥) → rest_calls u e s.phase r ≡ []
    go reads h = absurd (h refl)
    go (drops n) h = refl
    go keeps_back h = refl
turned_none e s b (t ∷ ts) r h =
    let o = outcome s b (stanza_call e s.phase t) in go (turn_at e s.phase) (stanza_call e s.phase t ∷ pick (eqb o.number 0) (stanza_calls e o.session o.buffers ts r) []) h
  where
    go : (u : Turn) (cs : List Call) → (u ≡ reads → ⊥) → turn_calls u cs ≡ []
    go reads cs h = absurd (h refl)
    go (drops n) cs h = refl
    go keeps_back cs h = refl

turned_not_short : (n : ℕ) → T (is_turned n) → n ≡ 15 → ⊥
turned_not_short n h q = subst (λ n. T (is_turned n)) q h

-- a chunk
chunk_as : (e : End) (i : Intake) (b : Buffers) (bytes out : List ℕ) → Keeps e i → CallAs i.session b (chunked e i b bytes out) (calls_in e i b (piece (chunk bytes out)))
chunk_as e i b bytes out k =
    let c = cut i.reading i.kept bytes in
    let ds = stanza_calls e i.session b c.texts c.rest in
    chunk_cases (λ o. CallAs i.session b o (pick (eqb o.number 15) [] ds)) e i b bytes out
    (λ t h. rw (ne_eqb (taken e i b bytes).number 15 (taken_not_short e i b bytes))
    (held_as i.session b out (taken e i b bytes) ds h
    (taken_as c.texts e i.session b i.awaited c.rest (cut_parts bytes i.reading i.kept (k.settled.front (turn_not_waiting e i.session.phase t))).rest)))
    (λ t h. as_none i.session b)
    (λ n t h. rw (ne_eqb n 15 (turned_not_short n h)) (subst (As i.session b i.session b []) (sym (turned_none e i.session b c.texts c.rest (turned_apart e i.session.phase (subst (λ n. T (is_turned n)) (sym t) h)))) (as_none i.session b)))

-- a reply
reply_as : (i : Intake) (b : Buffers) (r : Response) (body out : List ℕ) → CallAs i.session b (replied i b r body out) (calls_in client i b (piece (reply r body out)))
reply_as i b r body out =
    let c = cut start [] i.kept in
    let ds = one_call.reply r body ample ∷ stanza_calls client (answered i.session) b c.texts c.rest in
    reply_cases (λ o. CallAs i.session b o (pick (is_unfit o) [] ds)) i b r body out
    (λ w q t h. rw (ne_eqb (length (text ++ (taken_back i b).written)) 0 (λ z. omega arith)) (held_as i.session b out (answering i b r body) ds h (behind w q t)))
    (λ w q t h. as_none i.session b) (λ n h. as_none i.session b)
  where
    text : List ℕ
    text = stanza_text (response_line r) body

    back : Call
    back = one_call.reply r body ample

    behind : (w : WordTwo) → i.session.phase ≡ Awaiting w → number_replied w r body ≡ 0 →
        TakenAs i.session b (answering i b r body) (back ∷ stanza_calls client (answered i.session) b (cut start [] i.kept).texts (cut start [] i.kept).rest)
    behind w q t =
        let s = i.session in
        let c = cut start [] i.kept in
        let x = taken_back i b in
        let a = reply_single s [] b r body ample in
        let h = reply_alone_lem s [] b r body w q t in
        let session : answered s ≡ (outcome s b back).session = sym (ap (λ (o : Outcome). o.intake.session) h) ∙ ap (λ (i : Intake). i.session) a.intake in
        let buffers : b ≡ (outcome s b back).buffers = sym (ap (λ (o : Outcome). o.buffers) h) ∙ a.buffers in
        let written : written_by s b back ≡ text =
        sym a.written ∙ ap (λ (o : Outcome). take o.size o.output) h ∙ all_written (text ++ []) ample (room_fits (text ++ []) (reply_room w r body t)) ∙ append-nil text in
        let ds = stanza_calls client (answered s) b c.texts c.rest in
        let m = taken_as c.texts client (answered s) b [] c.rest (cut_parts i.kept start [] none_front).rest in
        subst (λ v. As s b x.intake.session x.buffers (v ++ x.written) (back ∷ ds)) written
        (as_more s b back x.intake.session x.buffers x.written ds (subst (λ s'. As s' (outcome s b back).buffers x.intake.session x.buffers x.written ds) session
        (subst (λ b'. As (answered s) b' x.intake.session x.buffers x.written ds) buffers m)))

-- any call
pub call_as : (e : End) (i : Intake) (b : Buffers) (c : AnyCall) → Has e c → Keeps e i → As i.session b (intake_after e i b c).session (buffers_after e i b c) (written_at e i b c) (calls_in e i b c)
call_as e i b (piece (chunk bytes out)) h k = chunk_as e i b bytes out k
call_as client i b (piece (reply r body out)) h k = reply_as i b r body out
call_as plugin i b (piece (reply r body out)) h k = as_none i.session b
call_as e i b (sends_one word arguments body out) h k = as_one i.session b (send word arguments body out) _ _ _ refl refl refl
call_as e i b (sends_two word arguments body out) h k = as_one i.session b (send_two word arguments body out) _ _ _ refl refl refl
call_as e i b finishes h k = as_none i.session b

-- ---- lists

pub joined_front : (ts : List (List ℕ)) (x : List ℕ) → joined ts [] ++ x ≡ joined ts x
unfolding joined
joined_front [] x = refl
joined_front (t ∷ ts) x = append_assoc t (joined ts []) x ∙ ap (λ y. t ++ y) (joined_front ts x)

as_append : (s : Session) (b : Buffers) (cs ds : List Call) (s₁ s₂ : Session) (b₁ b₂ : Buffers) (v w : List ℕ) → As s b s₁ b₁ v cs → As s₁ b₁ s₂ b₂ w ds → As s b s₂ b₂ (v ++ w) (cs ++ ds)
as_append s b cs ds s₁ s₂ b₁ b₂ v w k l =
    let z = one_call.after s b cs in
    let there = subst (λ s₁. As s₁ z.buffers s₂ b₂ w ds) k.session (subst (λ b₁. As s₁ b₁ s₂ b₂ w ds) k.buffers l) in
    record {
      session = there.session ∙ sym (ap (λ (x : one_call.State). x.session) (after_append s b cs ds));
      buffers = there.buffers ∙ sym (ap (λ (x : one_call.State). x.buffers) (after_append s b cs ds));
      written =
          ap₂ (λ v w. v ++ w) k.written there.written ∙ joined_front (one_call.written s b cs) (joined (one_call.written z.session z.buffers ds) [])
          ∙ sym (joined_append (one_call.written s b cs) (one_call.written z.session z.buffers ds) []) ∙ sym (ap (λ x. joined x []) (written_append s b cs ds));
    }

all_as : (e : End) (i : Intake) (b : Buffers) (cs : List AnyCall) → All (Has e) cs → Keeps e i →
    As i.session b (after_any e i b cs).intake.session (after_any e i b cs).buffers (written_any e i b cs) (calls_all e i b cs)
unfolding All after_any written_any calls_all
all_as e i b [] h k = as_none i.session b
all_as e i b (c ∷ cs) h k =
    as_append i.session b (calls_in e i b c) (calls_all e (intake_after e i b c) (buffers_after e i b c) cs) _ _ _ _ _ _ (call_as e i b c h.0 k)
    (all_as e (intake_after e i b c) (buffers_after e i b c) cs h.1 (call_keeps e i b c h.0 k))

-- ---- what every call for a stanza has

module _ (P : Call → Type 0) (e : End) (each : (p : Phase) (t : List ℕ) → P (stanza_call e p t)) where
  rest_all : (u : Turn) (p : Phase) (r : Rest) → All P (rest_calls u e p r)
  unfolding All
  rest_all reads p (unfinished q f) = tt
  rest_all reads p (impossible n x) = (each p x, tt)
  rest_all (drops n) p r = tt
  rest_all keeps_back p r = tt

  turn_all : (u : Turn) (cs : List Call) → All P cs → All P (turn_calls u cs)
  unfolding All
  turn_all reads cs h = h
  turn_all (drops n) cs h = tt
  turn_all keeps_back cs h = tt

  pub pick_all : (f : Bool) (xs ys : List Call) → All P xs → All P ys → All P (pick f xs ys)
  pick_all true xs ys h k = h
  pick_all false xs ys h k = k

  none_all : All P []
  unfolding All
  none_all = tt

  more_all : (c : Call) (cs : List Call) → P c → All P cs → All P (c ∷ cs)
  unfolding All
  more_all c cs h k = (h, k)

  pub stanzas_all : (ts : List (List ℕ)) (s : Session) (b : Buffers) (r : Rest) → All P (stanza_calls e s b ts r)
  unfolding stanza_calls
  stanzas_all [] s b r = rest_all (turn_at e s.phase) s.phase r
  stanzas_all (t ∷ ts) s b r =
      let c = stanza_call e s.phase t in
      let o = outcome s b c in
      turn_all (turn_at e s.phase) (c ∷ pick (eqb o.number 0) (stanza_calls e o.session o.buffers ts r) [])
      (more_all c (pick (eqb o.number 0) (stanza_calls e o.session o.buffers ts r) []) (each s.phase t) (pick_all (eqb o.number 0) (stanza_calls e o.session o.buffers ts r) [] (stanzas_all ts o.session o.buffers r) none_all))

-- ---- the theorem

-- any calls of an end, refused ones included, from a place that calls can reach
pub any_calls : (e : End) (i : Intake) (b : Buffers) (cs : List AnyCall) → Keeps e i → All (Has e) cs → ComesTo e i b cs (calls_all e i b cs)
any_calls e i b cs k h = let a = all_as e i b cs h k in record { session = a.session; buffers = a.buffers; output = a.written }

-- ---- what holds of calls of one stanza

module _ (e : End) (machine name : List ℕ) (screen : Bool) (b : Buffers) (cs : List AnyCall) (h : All (Has e) cs) where
  abbrev start_session : Session
  start_session = (opened machine name screen).session

  abbrev behind_calls : State
  behind_calls = after_any e (emptied start_session []) b cs

  abbrev stanza_calls_lem : List Call
  stanza_calls_lem = calls_all e (emptied start_session []) b cs

  comes_to : ComesTo e (emptied start_session []) b cs stanza_calls_lem
  comes_to = any_calls e (emptied start_session []) b cs (opened_keeps e machine name screen) h

  -- tables: of any calls from an opening, each kind's table is exactly the accepted commands of that kind, in order
  pub any_tables : (k : AnyKind) → view_of k behind_calls.intake.session.tables behind_calls.buffers ≡ accepted_rows k start_session b stanza_calls_lem
  any_tables k = ap₂ (λ (s : Session) b. view_of k s.tables b) comes_to.session comes_to.buffers ∙ tables_opened k machine name screen b stanza_calls_lem

  -- the same recipient twice: of any calls from an opening, each lent the buffers as the one before left them, no two recipients have the same text
  pub any_recipients : Distinct (view_of (first recipients) behind_calls.intake.session.tables behind_calls.buffers)
  any_recipients =
      subst Distinct (sym (ap₂ (λ (s : Session) b. view_of (first recipients) s.tables b) comes_to.session comes_to.buffers)) (recipients_differ machine name screen b stanza_calls_lem)

  -- answers: where the conversation has ended, each accepted command of phase two but done has its response directly behind it, and the response fits
  pub any_answers : behind_calls.intake.session.phase ≡ Ended → Paired (events start_session b stanza_calls_lem)
  any_answers d = answers_opened machine name screen b stanza_calls_lem (sym (ap (λ (s : Session). s.phase) comes_to.session) ∙ d)
