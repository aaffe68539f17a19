-- Phase two at the plugin end: of any calls exactly those that have the shape of a phase and are allowed are accepted to its end, and exactly the fronts of such ones
-- before.
use Prim.Native.Nat.{ℕ}
use mathlib.Core.Path.{◌≡◌, refl, sym, ap, ap₂, ◌∙◌, subst}
use mathlib.Core.Bool.{true, false, true≢false, false≢true}
use mathlib.Core.Logic.{◌⊎◌, inl, inr, ⊎_elim, ◌↔◌}
use mathlib.Core.List.{List, [], ◌∷◌, ◌++◌, map, append-nil}
use lib.ListN.{length}
use native.Mathlib.Omega.{arith}
use Rattle.refusal.proofs.Laws.Booleans.{cases}
use Rattle.phase_one.specs.Commands.{is_bare}
use Rattle.session.specs.Tables.{Tables}
use Rattle.session.specs.declared.words.WordTwo.{WordTwo}
use Rattle.session.specs.declared.phases.Phase.{Phase as SessionPhase}
use Rattle.session.specs.declared.phases.Phase.TheVariants.{One, Two, Awaiting, Ended}
use Rattle.session.specs.Session.{Session}
use Rattle.conversation.specs.Calls.{Call, receive, send, receive_two, reply, send_two, respond, is_client, outcome, state_of, after, numbers, AllZero, Accepted}
use Rattle.conversation.specs.CommandsTwo.{CommandTwo, ask, stanza, key, error, done, other, bad, word_of}
use Rattle.conversation.specs.Kinds.{Buffers}
use Rattle.conversation.specs.PhaseTwo as two
use Rattle.conversation.specs.Phases.{All, Supply, skip, LongEnough}
use Rattle.conversation.specs.SendingTwo.{phase_sent}
use Rattle.conversation.specs.Allowed.{Left, is_right_two, Present, Said, Exchange, line_of, command_sent, said_in, AllowedSent, is_done_sent, response_calls, exchange_calls, sending_calls, left_of, capacity_of}
use Rattle.conversation.specs.Shapes.{AcceptedTo, FrontSent, ShapedSent, AwaitingExchange, SentSoFar, none_more, one_more, last_awaits, AllowedSentSoFar}
use Rattle.conversation.proofs.Laws.Accepted.{accepted}
use Rattle.conversation.proofs.Laws.AllowedSent.{unheld_iff, Judged, tables_sent, buffers_sent, sent_to, sent_from, awaits, standing_behind, exchange_iff, exchange_to, exchange_from, accepted_sent_iff}
use Rattle.conversation.proofs.Laws.AllowedTwo.{Standing, decided_exact, Fitting, fitting_none, fitting_front, fitting_one, fitting_rest, done_command}
use Rattle.conversation.proofs.Laws.CommandsTwo.{Proper, command_proper}
use Rattle.conversation.proofs.Laws.DecidedTwo.{decided_iff}
use Rattle.conversation.proofs.Laws.Lists.{all_append}
use Rattle.conversation.proofs.Laws.OrderTwo.{begins, two_session, fitting_all}
use Rattle.conversation.proofs.Laws.Reached.{JustReached}
use Rattle.conversation.proofs.Laws.Runs.{accepted_append, after_append, enough_append}
use Rattle.conversation.proofs.Laws.Shapes.{ended_none, append_none, lent_first, lent_one, lent_more, skip_none}
use Rattle.conversation.proofs.Laws.ShapesTwo.{settled_or, done_is}
use Rattle.conversation.proofs.Laws.StepsTwo.{at, Settled}
use Rattle.conversation.proofs.Laws.SumsTwo.{With}

-- ---- the plugin end's calls behind phase one are responses and then exchanges

record Parsed (cs : List Call) : Type 0 where
  responses : List (List ℕ)
  exchanges : List Exchange
  outs : Supply
  calls : cs ≡ response_calls outs responses ++ sending_calls (skip (length responses) outs) exchanges

-- one response more in front
parsed_response : (t out : List ℕ) (cs : List Call) → Parsed cs → Parsed (respond t out ∷ cs)
unfolding response_calls lent_first
parsed_response t out cs p = record {
  responses = t ∷ p.responses;
  exchanges = p.exchanges;
  outs = lent_first out p.outs;
  calls = ap (λ l. respond t out ∷ l) (p.calls ∙ sym (ap₂ (λ o o'. response_calls o p.responses ++ sending_calls o' p.exchanges) (lent_one out p.outs) (lent_more out p.outs (length p.responses))));
}

-- one sending more in front takes the responses
parsed_sending : (word : WordTwo) (arguments body out : List ℕ) (cs : List Call) → Parsed cs → Parsed (send_two word arguments body out ∷ cs)
unfolding response_calls sending_calls lent_first
parsed_sending word arguments body out cs p =
    let outs = lent_first out p.outs in
    let x : Exchange = record { word = word; arguments = arguments; body = body; responses = p.responses } in
    record {
      responses = [];
      exchanges = x ∷ p.exchanges;
      outs = outs;
      calls =
          ap (λ l. send_two word arguments body out ∷ l) (p.calls ∙ sym (ap (λ o. response_calls o p.responses ++ sending_calls (skip (length p.responses) o) p.exchanges) (lent_one out p.outs)))
          ∙ ap (λ o. sending_calls o (x ∷ p.exchanges)) (sym (skip_none outs));
    }

sent_on : (c : CommandTwo) → phase_sent c ≡ One → ⊥
sent_on (ask w) e = let z : ◌≡◌ {A = ℕ} 0 1 = cc in omega arith
sent_on (stanza f) e = let z : ◌≡◌ {A = ℕ} 0 1 = cc in omega arith
sent_on (key f) e = let z : ◌≡◌ {A = ℕ} 0 1 = cc in omega arith
sent_on (error n) e = let z : ◌≡◌ {A = ℕ} 0 1 = cc in omega arith
sent_on done e = let z : ◌≡◌ {A = ℕ} 0 1 = cc in omega arith
sent_on other e = let z : ◌≡◌ {A = ℕ} 0 1 = cc in omega arith
sent_on (bad n) e = let z : ◌≡◌ {A = ℕ} 0 1 = cc in omega arith

-- a sending as an exchange without its responses
abbrev sending_of : WordTwo → List ℕ → List ℕ → Exchange
sending_of word arguments body = record { word = word; arguments = arguments; body = body; responses = [] }

parsed : (s : Session) (b : Buffers) (cs : List Call) → (s.phase ≡ One → ⊥) → All (λ c. is_client c ≡ false) cs → Accepted s b cs → Parsed cs
unfolding All AllZero numbers
parsed s b [] h k a = record { responses = []; exchanges = []; outs = λ i. []; calls = unfold response_calls in unfold sending_calls in refl }
parsed s b (receive text ∷ cs) h k a = absurd (h (accepted s b (receive text) a.0).applied.turn)
parsed s b (send word arguments body out ∷ cs) h k a = absurd (true≢false k.0)
parsed s b (receive_two text out ∷ cs) h k a = absurd (true≢false k.0)
parsed s b (reply r body out ∷ cs) h k a = absurd (true≢false k.0)
parsed s b (send_two word arguments body out ∷ cs) h k a =
    let o = outcome s b (send_two word arguments body out) in
    let c = command_sent s.machine (sending_of word arguments body) in
    let e : o.session.phase ≡ phase_sent c = ap (λ x. x.phase) (accepted s b (send_two word arguments body out) a.0).session in
    parsed_sending word arguments body out cs (parsed o.session o.buffers cs (λ q. sent_on c (sym e ∙ q)) k.1 a.1)
parsed s b (respond text out ∷ cs) h k a =
    let o = outcome s b (respond text out) in
    let e : o.session.phase ≡ Two = ap (λ x. x.phase) (accepted s b (respond text out) a.0).1.session in
    parsed_response text out cs (parsed o.session o.buffers cs (λ q. let z : ◌≡◌ {A = ℕ} 0 1 = cc in omega arith) k.1 a.1)

-- where nothing is awaited they begin with a sending
no_responses : (s : Session) (b : Buffers) (outs : Supply) (us : List (List ℕ)) (cs : List Call) → s.phase ≡ Two → Accepted s b (response_calls outs us ++ cs) → us ≡ []
unfolding AllZero numbers response_calls
no_responses s b outs [] cs e a = refl
no_responses s b outs (u ∷ us) cs e a = let q = (accepted s b (respond u (outs 0)) a.0).1.turn in let z : ◌≡◌ {A = ℕ} 0 1 = cc in absurd (omega arith)

exchanged : (s : Session) (b : Buffers) (cs : List Call) → s.phase ≡ Two → All (λ c. is_client c ≡ false) cs → Accepted s b cs → (xs : List Exchange) × (outs : Supply) × (cs ≡ sending_calls outs xs)
unfolding response_calls
exchanged s b cs e k a =
    let p = parsed s b cs (λ q. let z : ◌≡◌ {A = ℕ} 0 1 = cc in omega arith) k a in
    let n = no_responses s b p.outs p.responses _ e (subst (Accepted s b) p.calls a) in
    (p.exchanges, skip 0 p.outs, p.calls ∙ ap (λ us. response_calls p.outs us ++ sending_calls (skip (length us) p.outs) p.exchanges) n)

-- ---- accepted exchanges have the shape

-- done once and last; or none
record DoneLast (xs : List Exchange) : Type 0 where
  ahead : List Exchange
  last : Exchange
  exchanges : xs ≡ ahead ++ (last ∷ [])
  done_once : All (λ x. is_done_sent x ≡ false) ahead
  done_last : is_done_sent last ≡ true

abbrev Shape : SessionPhase → List Exchange → Type 0
Shape q xs = ((q ≡ Ended) × DoneLast xs) ⊎ ((q ≡ Ended → ⊥) × All (λ x. is_done_sent x ≡ false) xs)

not_ended : (c : CommandTwo) → Proper false c → phase_sent c ≡ Ended → ⊥
not_ended (ask w) p e = let z : ◌≡◌ {A = ℕ} 0 1 = cc in omega arith
not_ended (stanza f) p e = let z : ◌≡◌ {A = ℕ} 0 1 = cc in omega arith
not_ended (key f) p e = let z : ◌≡◌ {A = ℕ} 0 1 = cc in omega arith
not_ended (error n) p e = let z : ◌≡◌ {A = ℕ} 0 1 = cc in omega arith
not_ended done p e = false≢true p
not_ended other p e = let z : ◌≡◌ {A = ℕ} 0 1 = cc in omega arith
not_ended (bad n) p e = let z : ◌≡◌ {A = ℕ} 0 1 = cc in omega arith

-- the sending of an exchange
abbrev call_of : List ℕ → Exchange → Call
call_of out x = send_two x.word x.arguments x.body out

module _ (s : Session) (b : Buffers) (x : Exchange) (out : List ℕ) (z : (outcome s b (call_of out x)).number ≡ 0) where
  abbrev c : CommandTwo
  c = command_sent s.machine x

  behind_sending : (outcome s b (call_of out x)).session.phase ≡ phase_sent c
  behind_sending = ap (λ x. x.phase) (accepted s b (call_of out x) z).session

  behind_done : is_done_sent x ≡ true → (outcome s b (call_of out x)).session.phase ≡ Ended
  behind_done d =
      behind_sending ∙ ap phase_sent (done_is true s.tables b.second _ (is_bare (line_of x) (length x.body) 0) c (done_command s.machine (line_of x) x.body d) (accepted s b (call_of out x) z).faultless)

  behind_other : is_done_sent x ≡ false → (outcome s b (call_of out x)).session.phase ≡ Ended → ⊥
  behind_other d e = not_ended c (subst (λ f. Proper f c) d (command_proper s.machine (line_of x) x.body)) (sym behind_sending ∙ e)

-- responses do not end the phase
responses_on : (s : Session) (b : Buffers) (outs : Supply) (us : List (List ℕ)) → (s.phase ≡ Ended → ⊥) → Accepted s b (response_calls outs us) → (after s b (response_calls outs us)).session.phase ≡ Ended → ⊥
unfolding AllZero numbers after response_calls
responses_on s b outs [] h a e = h e
responses_on s b outs (u ∷ us) h a e =
    let o = outcome s b (respond u (outs 0)) in
    let q : o.session.phase ≡ Two = ap (λ x. x.phase) (accepted s b (respond u (outs 0)) a.0).1.session in
    responses_on o.session o.buffers (skip 1 outs) us (λ p. let z : ◌≡◌ {A = ℕ} 0 1 = cc in omega arith) a.1 e

no_exchanges : (outs : Supply) (xs : List Exchange) → sending_calls outs xs ≡ [] → xs ≡ []
unfolding sending_calls
no_exchanges outs [] e = refl
no_exchanges outs (x ∷ xs) e = let z : ◌≡◌ {A = ℕ} 0 1 = cc in absurd (omega arith)

shape_more : (q : SessionPhase) (x : Exchange) (xs : List Exchange) → is_done_sent x ≡ false → Shape q xs → Shape q (x ∷ xs)
unfolding All
shape_more q x xs d (inl h) = inl (h.0, record { ahead = x ∷ h.1.ahead; last = h.1.last; exchanges = ap (λ l. x ∷ l) h.1.exchanges; done_once = (d, h.1.done_once); done_last = h.1.done_last })
shape_more q x xs d (inr h) = inr (h.0, (d, h.1))

-- behind an exchange
abbrev behind : Supply → Exchange → Supply
behind outs x = skip (length x.responses) (skip 1 outs)

shape_of : (s : Session) (b : Buffers) (outs : Supply) (xs : List Exchange) → (s.phase ≡ Ended → ⊥) → Accepted s b (sending_calls outs xs) → Shape (after s b (sending_calls outs xs)).session.phase xs
unfolding All AllZero numbers after sending_calls
shape_of s b outs [] h a = inr (h, tt)
shape_of s b outs (x ∷ xs) h a =
    let s₁ = (outcome s b (call_of (outs 0) x)).session in
    let b₁ = (outcome s b (call_of (outs 0) x)).buffers in
    let rs = response_calls (skip 1 outs) x.responses in
    let cs = sending_calls (behind outs x) xs in
    let split = (accepted_append s₁ b₁ rs cs).0 a.1 in
    cases (is_done_sent x)
    (λ d.
    let e = behind_done s b x (outs 0) a.0 d in
    let n = ended_none s₁ b₁ (rs ++ cs) e a.1 in
    let m = no_exchanges (behind outs x) xs (append_none rs cs n).1 in
    inl (ap (λ l. (after s₁ b₁ l).session.phase) n ∙ e, record { ahead = []; last = x; exchanges = ap (λ l. x ∷ l) m; done_once = tt; done_last = d }))
    (λ d.
    let s₂ = (after s₁ b₁ rs).session in
    let b₂ = (after s₁ b₁ rs).buffers in
    let i = shape_of s₂ b₂ (behind outs x) xs (responses_on s₁ b₁ (skip 1 outs) x.responses (behind_other s b x (outs 0) a.0 d) split.0) split.1 in
    subst (λ u. Shape u.session.phase (x ∷ xs)) (sym (after_append s₁ b₁ rs cs)) (shape_more _ x xs d i))

-- ---- exchanges of which none is done

-- behind an accepted response nothing is awaited
responses_settle : (s : Session) (b : Buffers) (outs : Supply) (us : List (List ℕ)) → Settled s.phase → Accepted s b (response_calls outs us) → Settled (after s b (response_calls outs us)).session.phase
unfolding AllZero numbers after response_calls
responses_settle s b outs [] h a = h
responses_settle s b outs (u ∷ us) h a =
    let o = outcome s b (respond u (outs 0)) in
    let q : o.session.phase ≡ Two = ap (λ x. x.phase) (accepted s b (respond u (outs 0)) a.0).1.session in
    responses_settle o.session o.buffers (skip 1 outs) us (subst Settled (sym q) tt) a.1

-- so where something is awaited there was none
responses_waiting : (s : Session) (b : Buffers) (outs : Supply) (us : List (List ℕ)) (w : WordTwo) → Accepted s b (response_calls outs us) → (after s b (response_calls outs us)).session.phase ≡ Awaiting w → (us ≡ []) × (s.phase ≡ Awaiting w)
unfolding AllZero numbers after response_calls
responses_waiting s b outs [] w a e = (refl, e)
responses_waiting s b outs (u ∷ us) w a e =
    let o = outcome s b (respond u (outs 0)) in
    let q : o.session.phase ≡ Two = ap (λ x. x.phase) (accepted s b (respond u (outs 0)) a.0).1.session in
    absurd (subst Settled e (responses_settle o.session o.buffers (skip 1 outs) us (subst Settled (sym q) tt) a.1))

-- no sending is accepted while a response is due
waiting_none : (s : Session) (b : Buffers) (outs : Supply) (xs : List Exchange) (w : WordTwo) → s.phase ≡ Awaiting w → Accepted s b (sending_calls outs xs) → xs ≡ []
unfolding AllZero numbers sending_calls
waiting_none s b outs [] w e a = refl
waiting_none s b outs (x ∷ xs) w e a = let q = (accepted s b (call_of (outs 0) x) a.0).turn in let z : ◌≡◌ {A = ℕ} 0 1 = cc in absurd (omega arith)

module _ (s : Session) (left : Left) where
  -- an exchange that still awaits its response, from tables and buffers in the middle of a phase
  module _ (t : Tables) (b : Buffers) (x : Exchange) (g : Standing left t b.second) (outs : Supply) (d : is_done_sent x ≡ false) where
    abbrev c' : CommandTwo
    c' = command_sent s.machine x

    abbrev p' : List ℕ
    p' = (said_in s.machine x).payload

    proper' : Proper false c'
    proper' = subst (λ f. Proper f c') d (command_proper s.machine (line_of x) x.body)

    exact : (two.decided true t b.second c' (length p') ≡ 0) ↔ ((is_right_two c' ≡ true) × Present left c' × With t b.second c' p' × (two.is_held_back t c' ≡ false))
    exact = decided_exact true left t b.second false c' p' proper' g

    awaits_to : (v : WordTwo) → Accepted (at s Two t) b (exchange_calls outs x) → (after (at s Two t) b (exchange_calls outs x)).session.phase ≡ Awaiting v →
        AwaitingExchange s.machine left x × With t b.second c' p' × (v ≡ word_of c')
    unfolding AllZero numbers after
    awaits_to v a e =
        let o = outcome (at s Two t) b (call_of (outs 0) x) in
        let r = responses_waiting o.session o.buffers (skip 1 outs) x.responses v a.1 e in
        let k = sent_to s t b x (outs 0) a.0 in
        let y = exact.0 k.1 in
        let q : Awaiting v ≡ Awaiting (word_of c') = sym r.1 ∙ behind_sending (at s Two t) b x (outs 0) a.0 ∙ (awaits c' proper' y.0).0 in
        let m : v ≡ word_of c' = cc in
        (record { writable = k.0; right = y.0; present = y.1; unheld = (unheld_iff t left g.shows c' proper' y.1).0 y.3; unanswered = r.0 }, y.2, m)

    awaits_from : LongEnough (at s Two t) b (exchange_calls outs x) → AwaitingExchange s.machine left x → With t b.second c' p' → AcceptedTo (Awaiting (word_of c')) (at s Two t) b (exchange_calls outs x)
    unfolding AllZero numbers after response_calls LongEnough
    awaits_from l h f =
        let k : Judged s t b x = (h.writable, exact.1 (h.right, h.present, f, (unheld_iff t left g.shows c' proper' h.present).1 h.unheld)) in
        let n = sent_from s t b x (outs 0) l.0 k in
        let e : (outcome (at s Two t) b (call_of (outs 0) x)).session.phase ≡ Awaiting (word_of c') = behind_sending (at s Two t) b x (outs 0) n ∙ (awaits c' proper' h.right).0 in
        subst (λ us. AcceptedTo (Awaiting (word_of c')) (at s Two t) b (call_of (outs 0) x ∷ response_calls (skip 1 outs) us)) (sym h.unanswered) ((n, tt), e)

  abbrev SoFar : SessionPhase → List Exchange → Type 0
  SoFar q xs = SentSoFar s.machine left q xs

  abbrev blocks_said : List Exchange → List Said
  blocks_said xs = map (said_in s.machine) xs

  so_far_to : (xs : List Exchange) (t : Tables) (b : Buffers) (outs : Supply) → Standing left t b.second → All (λ x. is_done_sent x ≡ false) xs →
      LongEnough (at s Two t) b (sending_calls outs xs) → (q : SessionPhase) → AcceptedTo q (at s Two t) b (sending_calls outs xs) → SoFar q xs × Fitting t b.second (blocks_said xs)
  unfolding All sending_calls after
  so_far_to [] t b outs g d l q a = (subst (λ q. SoFar q []) a.1 none_more, fitting_none t b.second g.limits)
  so_far_to (x ∷ xs) t b outs g d l q a =
      let here = exchange_calls outs x in
      let cs = sending_calls (behind outs x) xs in
      let u = after (at s Two t) b here in
      let split = (accepted_append (at s Two t) b here cs).0 a.0 in
      let le = enough_append (at s Two t) b here cs l in
      let phase : (after u.session u.buffers cs).session.phase ≡ q = ap (λ u. u.session.phase) (sym (after_append (at s Two t) b here cs)) ∙ a.1 in
      let c = command_sent s.machine x in
      let p = (said_in s.machine x).payload in
      ⊎_elim
      (λ settled.
      let h = exchange_to s left t b x g d.0 outs split.0 settled in
      let r = (exchange_iff s left t b x g d.0).0 h in
      let t' = tables_sent s t b x in
      let b' = buffers_sent s t b x in
      let state : u ≡ state_of (at s Two t') b' = (exchange_from s left t b x g d.0 outs le.0 h.0 h.1).1 in
      let rest = so_far_to xs t' b' (behind outs x) (standing_behind s left t b x g h.0.1) d.1 (subst (λ u. LongEnough u.session u.buffers cs) state le.1) q
      (subst (λ u. AcceptedTo q u.session u.buffers cs) state (split.1, phase)) in
      let f = (decided_iff true t b.second c (length p)).0 h.0.1 in
      (one_more r.0 rest.0, (fitting_rest true left t b.second c p (blocks_said xs) g f).1 rest.1))
      (λ waits.
      let n = waiting_none u.session u.buffers (behind outs x) xs waits.0 waits.1 split.1 in
      let h = awaits_to t b x g outs d.0 waits.0 split.0 waits.1 in
      let e : Awaiting (word_of c) ≡ q = ap Awaiting (sym h.2) ∙ sym waits.1 ∙ sym (ap (λ xs. (after u.session u.buffers (sending_calls (behind outs x) xs)).session.phase) n) ∙ phase in
      subst (λ xs. SoFar q (x ∷ xs) × Fitting t b.second (blocks_said (x ∷ xs))) (sym n) (subst (λ q. SoFar q (x ∷ [])) e (last_awaits h.0), fitting_one t b.second c p h.1))
      (settled_or u.session.phase)

  so_far_from : (q : SessionPhase) (xs : List Exchange) (t : Tables) (b : Buffers) (outs : Supply) → Standing left t b.second → All (λ x. is_done_sent x ≡ false) xs →
      LongEnough (at s Two t) b (sending_calls outs xs) → SoFar q xs → Fitting t b.second (blocks_said xs) → AcceptedTo q (at s Two t) b (sending_calls outs xs)
  unfolding All sending_calls after
  so_far_from _ _ t b outs g d l none_more f = (unfold AllZero in unfold numbers in tt, refl)
  so_far_from q (x ∷ xs) t b outs g d l (one_more r m) f =
      let here = exchange_calls outs x in
      let cs = sending_calls (behind outs x) xs in
      let le = enough_append (at s Two t) b here cs l in
      let c = command_sent s.machine x in
      let p = (said_in s.machine x).payload in
      let h = (exchange_iff s left t b x g d.0).1 (r, fitting_front t b.second c p (blocks_said xs) f) in
      let t' = tables_sent s t b x in
      let b' = buffers_sent s t b x in
      let k = exchange_from s left t b x g d.0 outs le.0 h.0 h.1 in
      let fault = (decided_iff true t b.second c (length p)).0 h.0.1 in
      let rest = so_far_from q xs t' b' (behind outs x) (standing_behind s left t b x g h.0.1) d.1 (subst (λ u. LongEnough u.session u.buffers cs) k.1 le.1) m
      ((fitting_rest true left t b.second c p (blocks_said xs) g fault).0 f) in
      let back = subst (λ u. AcceptedTo q u.session u.buffers cs) (sym k.1) rest in
      ((accepted_append (at s Two t) b here cs).1 (k.0, back.0), ap (λ u. u.session.phase) (after_append (at s Two t) b here cs) ∙ back.1)
  so_far_from _ (x ∷ _) t b outs g d l (last_awaits h) f =
      let here = exchange_calls outs x in
      let e : here ++ [] ≡ here = append-nil here in
      subst (λ cs. AcceptedTo (Awaiting (word_of (command_sent s.machine x))) (at s Two t) b cs) (sym e)
      (awaits_from t b x g outs d.0 (enough_append (at s Two t) b here [] l).0 h (fitting_front t b.second (command_sent s.machine x) (said_in s.machine x).payload [] f))

-- ---- a session that has just come to phase two

module _ (s : Session) (b : Buffers) (j : JustReached s) where
  abbrev left : Left
  left = left_of (state_of s b)

  not_yet : s.phase ≡ Ended → ⊥
  not_yet e = let q = j.turn in let z : ◌≡◌ {A = ℕ} 0 1 = cc in omega arith

  -- exchanges of which none is done
  front_iff : (xs : List Exchange) (outs : Supply) → All (λ x. is_done_sent x ≡ false) xs → LongEnough s b (sending_calls outs xs) → (q : SessionPhase) →
      AcceptedTo q s b (sending_calls outs xs) ↔ AllowedSentSoFar s.machine left (capacity_of b) q xs
  front_iff xs outs d l q =
      let cs = sending_calls outs xs in
      let here = two_session s j in
      let g = begins s b j in
      let le = subst (λ s. LongEnough s b cs) (sym here) l in
      let f = fitting_all s b j (map (said_in s.machine) xs) in (
        λ a. let r = so_far_to s left xs s.tables b outs g d le q (subst (λ s. AcceptedTo q s b cs) (sym here) a) in record { right = r.0; limits = f.0 r.1 },
        λ h. subst (λ s. AcceptedTo q s b cs) here (so_far_from s left q xs s.tables b outs g d le h.right (f.1 h.limits)),
      )

  -- any calls of the plugin end
  module _ (cs : List Call) (k : All (λ c. is_client c ≡ false) cs) (l : LongEnough s b cs) where
    abbrev AllowedHere : ShapedSent cs → Type 0
    AllowedHere p = AllowedSent s.machine (left_of (state_of s b)) (capacity_of b) (p.ahead ++ (p.last ∷ []))

    shaped_to : AcceptedTo Ended s b cs → (p : ShapedSent cs) × AllowedHere p
    shaped_to a =
        let x = exchanged s b cs j.turn k a.0 in
        let e = x.2 in
        let h = shape_of s b x.1 x.0 not_yet (subst (Accepted s b) e a.0) in
        let q : (after s b (sending_calls x.1 x.0)).session.phase ≡ Ended = ap (λ l. (after s b l).session.phase) (sym e) ∙ a.1 in
        ⊎_elim
        (λ y.
        let c : cs ≡ sending_calls x.1 (y.1.ahead ++ (y.1.last ∷ [])) = e ∙ ap (sending_calls x.1) y.1.exchanges in (
          record { ahead = y.1.ahead; last = y.1.last; outs = x.1; calls = c; done_once = y.1.done_once; done_last = y.1.done_last },
          (accepted_sent_iff s b j x.1 y.1.ahead y.1.last y.1.done_once y.1.done_last (subst (LongEnough s b) c l)).0 (subst (Accepted s b) c a.0),
        ))
        (λ y. absurd (y.0 q))
        h

    shaped_from : (p : ShapedSent cs) × AllowedHere p → AcceptedTo Ended s b cs
    unfolding All
    shaped_from y =
        let p = y.0 in
        let a = (accepted_sent_iff s b j p.outs p.ahead p.last p.done_once p.done_last (subst (LongEnough s b) p.calls l)).1 y.1 in
        subst (AcceptedTo Ended s b) (sym p.calls) (
          a,
          ⊎_elim (λ q. q.0) (λ q. absurd (true≢false (sym p.done_last ∙ ((all_append (λ x. is_done_sent x ≡ false) p.ahead (p.last ∷ [])).0 q.1).1.0)))
              (shape_of s b p.outs (p.ahead ++ (p.last ∷ [])) not_yet a),
        )

    -- accepted to the end of the phase
    pub shaped_sent_iff : AcceptedTo Ended s b cs ↔ ((p : ShapedSent cs) × AllowedSent s.machine (left_of (state_of s b)) (capacity_of b) (p.ahead ++ (p.last ∷ [])))
    shaped_sent_iff = (shaped_to, shaped_from)

    -- accepted, and the phase has not ended
    pub front_sent_iff : (q : SessionPhase) → (q ≡ Ended → ⊥) → AcceptedTo q s b cs ↔ ((p : FrontSent cs) × AllowedSentSoFar s.machine (left_of (state_of s b)) (capacity_of b) q p.exchanges)
    front_sent_iff q n = (
      λ a.
          let x = exchanged s b cs j.turn k a.0 in
          let e = x.2 in
          let m : (after s b (sending_calls x.1 x.0)).session.phase ≡ q = ap (λ l. (after s b l).session.phase) (sym e) ∙ a.1 in
          ⊎_elim
          (λ y. absurd (n (sym m ∙ y.0)))
          (λ y. (record { exchanges = x.0; outs = x.1; calls = e; none_done = y.1 }, (front_iff x.0 x.1 y.1 (subst (LongEnough s b) e l) q).0 (subst (AcceptedTo q s b) e a)))
          (shape_of s b x.1 x.0 not_yet (subst (Accepted s b) e a.0)),
      λ y.
          let p = y.0 in
          subst (AcceptedTo q s b) (sym p.calls) ((front_iff p.exchanges p.outs p.none_done (subst (LongEnough s b) p.calls l) q).1 y.1),
    )
