-- Phase two at the client end: of any calls exactly those that have the shape of a phase and are allowed are accepted to its end, and exactly the fronts of such ones
-- before.
use Prim.Native.Nat.{ℕ, ◌+◌, ◌≤◌}
use mathlib.Core.Path.{◌≡◌, refl, sym, ap, ap₂, ◌∙◌, subst, subst₂}
use mathlib.Core.Bool.{Bool, true, false, true≢false, false≢true}
use mathlib.Core.Logic.{◌⊎◌, inl, inr, ⊎_elim, ◌↔◌}
use mathlib.Core.List.{List, [], ◌∷◌, ◌++◌, map, map-append, append-nil}
use lib.ListN.{length}
use native.Mathlib.Omega.{arith}
use Rattle.refusal.specs.Pick.{pick}
use Rattle.refusal.specs.Same.{same}
use Rattle.refusal.proofs.Laws.Booleans.{cases}
use Rattle.stanza.specs.Arguments.{argument_of}
use Rattle.phase_one.specs.Commands.{done_word, is_bare}
use Rattle.phase_one.specs.Views.{recipients, identities}
use Rattle.session.specs.Tables.{Tables}
use Rattle.session.specs.declared.opening.Machine.{Machine}
use Rattle.session.specs.declared.words.WordTwo.{WordTwo}
use Rattle.session.specs.declared.phases.Phase.{Phase as SessionPhase}
use Rattle.session.specs.declared.phases.Phase.TheVariants.{One, Two, Awaiting, Ended, Closed}
use Rattle.session.specs.Session.{Session}
use Rattle.conversation.specs.Calls.{Call, receive, send, receive_two, reply, send_two, respond, is_client, outcome, written_by, state_of, after, numbers, AllZero, Accepted}
use Rattle.conversation.specs.CommandsTwo.{CommandTwo, ask, stanza, key, error, done, other, bad, command_two, payload_of}
use Rattle.conversation.specs.Kinds.{Buffers}
use Rattle.conversation.specs.PhaseTwo as two
use Rattle.conversation.specs.Phases.{All, Whole, line_in, body_in, is_done, command_in, payload_in, Reply, Block, Phase, blocks_of, IsPhase, Quiet, two_part, Supply, skip, behind, reply_calls, block_calls, calls_of, LongEnough}
use Rattle.conversation.specs.ReceivingTwo.{phase_received}
use Rattle.conversation.specs.Allowed.{Left, is_right_two, Present, Said, Answered, total, Limits, said_by, RightBlock, AllowedTwo, left_of, capacity_of}
use Rattle.conversation.specs.Shapes.{AcceptedTo, BeginsWhole, FrontTwo, ShapedTwo, WaitingBlock, RightSoFar, none_more, one_more, last_waits, AllowedTwoSoFar}
use Rattle.conversation.proofs.Laws.Accepted.{accepted}
use Rattle.conversation.proofs.Laws.AllowedTwo.{Standing, decided_exact, Fitting, fitting_none, fitting_front, fitting_one, fitting_rest, done_command, block_iff, standing_behind, behind_block}
use Rattle.conversation.proofs.Laws.CommandsTwo.{Proper, command_proper}
use Rattle.conversation.proofs.Laws.DecidedTwo.{decided_iff}
use Rattle.conversation.proofs.Laws.Lists.{all_append, all_map, all_weaker}
use Rattle.conversation.proofs.Laws.OrderTwo.{begins, two_session, fitting_all, accepted_two_iff}
use Rattle.conversation.proofs.Laws.Reached.{JustReached, received_on}
use Rattle.conversation.proofs.Laws.Runs.{accepted_append, after_append, enough_append}
use Rattle.conversation.proofs.Laws.Shapes.{begins_whole, first_of_text, first_whole, first_line_same, first_body, alone_call, same_numbers, same_after, same_enough, ended_none, append_none, lent_first, lent_one, lent_more, skip_none}
use Rattle.conversation.proofs.Laws.StepsTwo.{at, judged, tables_with, buffers_with, text_iff, text_session, Settled, block_from, block_to}
use Rattle.conversation.proofs.Laws.SumsTwo.{With}

-- ---- the client end's calls behind phase one are replies and then blocks

record Parsed (cs : List Call) : Type 0 where
  replies : List Reply
  blocks : List Block
  outs : Supply
  calls : cs ≡ reply_calls outs replies ++ calls_of two_part (skip (length replies) outs) blocks

-- one reply more in front
parsed_reply : (r : Reply) (out : List ℕ) (cs : List Call) → Parsed cs → Parsed (reply r.response r.body out ∷ cs)
unfolding reply_calls lent_first
parsed_reply r out cs p = record {
  replies = r ∷ p.replies;
  blocks = p.blocks;
  outs = lent_first out p.outs;
  calls = ap (λ l. reply r.response r.body out ∷ l) (p.calls ∙ sym (ap₂ (λ o o'. reply_calls o p.replies ++ calls_of two_part o' p.blocks) (lent_one out p.outs) (lent_more out p.outs (length p.replies))));
}

-- one text more in front takes the replies
parsed_text : (t out : List ℕ) (cs : List Call) → Parsed cs → Parsed (receive_two t out ∷ cs)
unfolding reply_calls calls_of lent_first
parsed_text t out cs p =
    let outs = lent_first out p.outs in
    let x : Block = record { text = t; replies = p.replies } in
    record {
      replies = [];
      blocks = x ∷ p.blocks;
      outs = outs;
      calls =
          ap (λ l. receive_two t out ∷ l) (p.calls ∙ sym (ap (λ o. reply_calls o p.replies ++ calls_of two_part (skip (length p.replies) o) p.blocks) (lent_one out p.outs)))
          ∙ ap (λ o. calls_of two_part o (x ∷ p.blocks)) (sym (skip_none outs));
    }

parsed : (s : Session) (b : Buffers) (cs : List Call) → (s.phase ≡ One → ⊥) → All (λ c. is_client c ≡ true) cs → Accepted s b cs → Parsed cs
unfolding All AllZero numbers
parsed s b [] h k a = record { replies = []; blocks = []; outs = λ i. []; calls = unfold reply_calls in unfold calls_of in refl }
parsed s b (receive text ∷ cs) h k a = absurd (false≢true k.0)
parsed s b (send word arguments body out ∷ cs) h k a = absurd (h (accepted s b (send word arguments body out) a.0).applied.turn)
parsed s b (receive_two text out ∷ cs) h k a =
    let o = outcome s b (receive_two text out) in
    let e : o.session.phase ≡ phase_received s.screen (command_in s.machine text) = ap (λ x. x.phase) (accepted s b (receive_two text out) a.0).session in
    parsed_text text out cs (parsed o.session o.buffers cs (λ q. received_on s.screen (command_in s.machine text) (sym e ∙ q)) k.1 a.1)
parsed s b (reply r body out ∷ cs) h k a =
    let o = outcome s b (reply r body out) in
    let e : o.session.phase ≡ Two = ap (λ x. x.phase) (accepted s b (reply r body out) a.0).session in
    parsed_reply (record { response = r; body = body }) out cs (parsed o.session o.buffers cs (λ q. let z : ◌≡◌ {A = ℕ} 0 1 = cc in omega arith) k.1 a.1)
parsed s b (send_two word arguments body out ∷ cs) h k a = absurd (false≢true k.0)
parsed s b (respond text out ∷ cs) h k a = absurd (false≢true k.0)

-- where nothing waits they begin with a block
no_replies : (s : Session) (b : Buffers) (outs : Supply) (rs : List Reply) (cs : List Call) → s.phase ≡ Two → Accepted s b (reply_calls outs rs ++ cs) → rs ≡ []
unfolding AllZero numbers reply_calls
no_replies s b outs [] cs e a = refl
no_replies s b outs (r ∷ rs) cs e a = let q = (accepted s b (reply r.response r.body (outs 0)) a.0).turn in let z : ◌≡◌ {A = ℕ} 0 1 = cc in absurd (omega arith)

blocked : (s : Session) (b : Buffers) (cs : List Call) → s.phase ≡ Two → All (λ c. is_client c ≡ true) cs → Accepted s b cs → (xs : List Block) × (outs : Supply) × (cs ≡ calls_of two_part outs xs)
unfolding reply_calls
blocked s b cs e k a =
    let p = parsed s b cs (λ q. let z : ◌≡◌ {A = ℕ} 0 1 = cc in omega arith) k a in
    let n = no_replies s b p.outs p.replies _ e (subst (Accepted s b) p.calls a) in
    (p.blocks, skip 0 p.outs, p.calls ∙ ap (λ rs. reply_calls p.outs rs ++ calls_of two_part (skip (length rs) p.outs) p.blocks) n)

-- ---- accepted blocks have the shape

-- done once and last; or none
record DoneLast (xs : List Block) : Type 0 where
  ahead : List Block
  last : Block
  blocks : xs ≡ ahead ++ (last ∷ [])
  done_once : All (λ x. is_done x.text ≡ false) ahead
  done_last : is_done last.text ≡ true

abbrev Shape : SessionPhase → List Block → Type 0
Shape q xs = ((q ≡ Ended) × DoneLast xs) ⊎ ((q ≡ Ended → ⊥) × All (λ x. is_done x.text ≡ false) xs)

not_ended : (screen : Bool) (c : CommandTwo) → Proper false c → phase_received screen c ≡ Ended → ⊥
not_ended true (ask w) p e = let z : ◌≡◌ {A = ℕ} 0 1 = cc in omega arith
not_ended false (ask w) p e = let z : ◌≡◌ {A = ℕ} 0 1 = cc in omega arith
not_ended screen (stanza f) p e = let z : ◌≡◌ {A = ℕ} 0 1 = cc in omega arith
not_ended screen (key f) p e = let z : ◌≡◌ {A = ℕ} 0 1 = cc in omega arith
not_ended screen (error n) p e = let z : ◌≡◌ {A = ℕ} 0 1 = cc in omega arith
not_ended screen done p e = false≢true p
not_ended screen other p e = let z : ◌≡◌ {A = ℕ} 0 1 = cc in omega arith
not_ended screen (bad n) p e = let z : ◌≡◌ {A = ℕ} 0 1 = cc in omega arith

-- the word done that is accepted is done
pub done_is : (own : Bool) (t : Tables) (b : two.BuffersTwo) (n : ℕ) (f : Bool) (c : CommandTwo) → c ≡ pick f done (bad 4) → two.decided own t b c n ≡ 0 → c ≡ done
done_is own t b n true c e z = e
done_is own t b n false c e z = let q = ((decided_iff own t b c n).0 z).right in let h : ◌≡◌ {A = ℕ} 4 0 = ap two.fault_of (sym e) ∙ q in absurd (omega arith)

module _ (s : Session) (b : Buffers) (t out : List ℕ) (z : (outcome s b (receive_two t out)).number ≡ 0) where
  abbrev c : CommandTwo
  c = command_in s.machine t

  behind_text : (outcome s b (receive_two t out)).session.phase ≡ phase_received s.screen c
  behind_text = ap (λ x. x.phase) (accepted s b (receive_two t out) z).session

  behind_done : is_done t ≡ true → (outcome s b (receive_two t out)).session.phase ≡ Ended
  behind_done d =
      behind_text
      ∙ ap (phase_received s.screen) (done_is false s.tables b.second _ (is_bare (line_in t) (length (body_in t)) 0) c (done_command s.machine (line_in t) (body_in t) d) (accepted s b (receive_two t out) z).faultless)

  behind_other : is_done t ≡ false → (outcome s b (receive_two t out)).session.phase ≡ Ended → ⊥
  behind_other d e = not_ended s.screen c (subst (λ f. Proper f c) d (command_proper s.machine (line_in t) (body_in t))) (sym behind_text ∙ e)

  begun : BeginsWhole t
  begun = begins_whole t (accepted s b (receive_two t out) z).writable

-- replies do not end the phase
replies_on : (s : Session) (b : Buffers) (outs : Supply) (rs : List Reply) → (s.phase ≡ Ended → ⊥) → Accepted s b (reply_calls outs rs) → (after s b (reply_calls outs rs)).session.phase ≡ Ended → ⊥
unfolding AllZero numbers after reply_calls
replies_on s b outs [] h a e = h e
replies_on s b outs (r ∷ rs) h a e =
    let o = outcome s b (reply r.response r.body (outs 0)) in
    let q : o.session.phase ≡ Two = ap (λ x. x.phase) (accepted s b (reply r.response r.body (outs 0)) a.0).session in
    replies_on o.session o.buffers (skip 1 outs) rs (λ p. let z : ◌≡◌ {A = ℕ} 0 1 = cc in omega arith) a.1 e

no_blocks : (outs : Supply) (xs : List Block) → calls_of two_part outs xs ≡ [] → xs ≡ []
unfolding calls_of
no_blocks outs [] e = refl
no_blocks outs (x ∷ xs) e = let z : ◌≡◌ {A = ℕ} 0 1 = cc in absurd (omega arith)

shape_more : (q : SessionPhase) (x : Block) (xs : List Block) → is_done x.text ≡ false → Shape q xs → Shape q (x ∷ xs)
unfolding All
shape_more q x xs d (inl h) = inl (h.0, record { ahead = x ∷ h.1.ahead; last = h.1.last; blocks = ap (λ l. x ∷ l) h.1.blocks; done_once = (d, h.1.done_once); done_last = h.1.done_last })
shape_more q x xs d (inr h) = inr (h.0, (d, h.1))

shape_of : (s : Session) (b : Buffers) (outs : Supply) (xs : List Block) → (s.phase ≡ Ended → ⊥) → Accepted s b (calls_of two_part outs xs) →
    All (λ x. BeginsWhole x.text) xs × Shape (after s b (calls_of two_part outs xs)).session.phase xs
unfolding All AllZero numbers after calls_of
shape_of s b outs [] h a = (tt, inr (h, tt))
shape_of s b outs (x ∷ xs) h a =
    let t = x.text in
    let s₁ = (outcome s b (receive_two t (outs 0))).session in
    let b₁ = (outcome s b (receive_two t (outs 0))).buffers in
    let rs = reply_calls (skip 1 outs) x.replies in
    let cs = calls_of two_part (behind outs x) xs in
    let w = begun s b t (outs 0) a.0 in
    let split = (accepted_append s₁ b₁ rs cs).0 a.1 in
    cases (is_done t)
    (λ d.
    let e = behind_done s b t (outs 0) a.0 d in
    let n = ended_none s₁ b₁ (rs ++ cs) e a.1 in
    let m = no_blocks (behind outs x) xs (append_none rs cs n).1 in (
      (w, subst (All (λ x. BeginsWhole x.text)) (sym m) tt),
      inl (ap (λ l. (after s₁ b₁ l).session.phase) n ∙ e, record { ahead = []; last = x; blocks = ap (λ l. x ∷ l) m; done_once = tt; done_last = d }),
    ))
    (λ d.
    let s₂ = (after s₁ b₁ rs).session in
    let b₂ = (after s₁ b₁ rs).buffers in
    let i = shape_of s₂ b₂ (behind outs x) xs (replies_on s₁ b₁ (skip 1 outs) x.replies (behind_other s b t (outs 0) a.0 d) split.0) split.1 in
    ((w, i.0), subst (λ u. Shape u.session.phase (x ∷ xs)) (sym (after_append s₁ b₁ rs cs)) (shape_more _ x xs d i.1)))

-- ---- the first stanza of each text alone

abbrev first_block : Block → Block
first_block x = record { text = first_of_text x.text; replies = x.replies }

first_replies : (outs : Supply) (rs : List Reply) → reply_calls outs rs ≡ map alone_call (reply_calls outs rs)
unfolding reply_calls
first_replies outs [] = refl
first_replies outs (r ∷ rs) = ap (λ cs. reply r.response r.body (outs 0) ∷ cs) (first_replies (skip 1 outs) rs)

first_calls : (outs : Supply) (xs : List Block) → calls_of two_part outs (map first_block xs) ≡ map alone_call (calls_of two_part outs xs)
unfolding calls_of
first_calls outs [] = refl
first_calls outs (x ∷ xs) =
    let rs = reply_calls (skip 1 outs) x.replies in
    ap (λ l. receive_two (first_of_text x.text) (outs 0) ∷ l)
    (ap₂ (λ l m. l ++ m) (first_replies (skip 1 outs) x.replies) (first_calls (behind outs x) xs) ∙ sym (map-append alone_call rs (calls_of two_part (behind outs x) xs)))

first_done : (x : Block) → is_done (first_block x).text ≡ is_done x.text
first_done x = ap (λ l. same (argument_of l 0) done_word) (first_line_same x.text)

first_wholes : (xs : List Block) → All (λ x. BeginsWhole x.text) xs → All (λ x. Whole x.text) (map first_block xs)
first_wholes xs h = (all_map first_block (λ x. Whole x.text) xs).1 (all_weaker (λ x. first_whole x.text) xs h)

none_done_firsts : (xs : List Block) → All (λ x. is_done x.text ≡ false) xs → All (λ x. is_done x.text ≡ false) (map first_block xs)
none_done_firsts xs h = (all_map first_block (λ x. is_done x.text ≡ false) xs).1 (all_weaker (λ x e. first_done x ∙ e) xs h)

module _ (s : Session) (b : Buffers) (outs : Supply) (xs : List Block) where
  first_numbers : numbers s b (calls_of two_part outs (map first_block xs)) ≡ numbers s b (calls_of two_part outs xs)
  first_numbers = ap (numbers s b) (first_calls outs xs) ∙ same_numbers s b (calls_of two_part outs xs)

  first_after : after s b (calls_of two_part outs (map first_block xs)) ≡ after s b (calls_of two_part outs xs)
  first_after = ap (after s b) (first_calls outs xs) ∙ same_after s b (calls_of two_part outs xs)

  first_enough : LongEnough s b (calls_of two_part outs xs) → LongEnough s b (calls_of two_part outs (map first_block xs))
  first_enough l = subst (LongEnough s b) (sym (first_calls outs xs)) (same_enough s b (calls_of two_part outs xs) l)

module _ (machine : Machine) where
  first_command : (x : Block) → command_in machine (first_block x).text ≡ command_in machine x.text
  first_command x = ap₂ (command_two machine) (first_line_same x.text) (first_body x.text)

  first_said : (x : Block) → said_by machine (first_block x) ≡ said_by machine x
  first_said x = ap₂ (λ l y. record { command = command_two machine l y; payload = payload_of (command_two machine l y) l y }) (first_line_same x.text) (first_body x.text)

  first_saids : (xs : List Block) → map (said_by machine) (map first_block xs) ≡ map (said_by machine) xs
  first_saids [] = refl
  first_saids (x ∷ xs) = ap₂ (λ c cs. c ∷ cs) (first_said x) (first_saids xs)

  module _ (screen : Bool) (left : Left) where
    right_same : (x y : Block) → command_in machine x.text ≡ command_in machine y.text → x.replies ≡ y.replies → RightBlock machine screen left x → RightBlock machine screen left y
    right_same x y e f r = record {
      right = subst (λ c. is_right_two c ≡ true) e r.right;
      present = subst (Present left) e r.present;
      answered = subst₂ (Answered screen) e f r.answered;
    }

    right_first : (x : Block) → RightBlock machine screen left (first_block x) → RightBlock machine screen left x
    right_first x = right_same (first_block x) x (first_command x) refl

    first_right : (x : Block) → RightBlock machine screen left x → RightBlock machine screen left (first_block x)
    first_right x = right_same x (first_block x) (sym (first_command x)) refl

    first_so_far : (q : SessionPhase) (xs : List Block) → RightSoFar machine screen left q xs → RightSoFar machine screen left q (map first_block xs)
    first_so_far _ _ none_more = none_more
    first_so_far q (x ∷ xs) (one_more r h) = one_more (first_right x r) (first_so_far q xs h)
    first_so_far _ (x ∷ _) (last_waits w) = last_waits (record { asks = first_command x ∙ w.asks; shown = w.shown; unanswered = w.unanswered })

    so_far_first : (q : SessionPhase) (ys xs : List Block) → ys ≡ map first_block xs → RightSoFar machine screen left q ys → RightSoFar machine screen left q xs
    so_far_first _ _ [] e none_more = none_more
    so_far_first _ _ (x ∷ xs) e none_more = let z : ◌≡◌ {A = ℕ} 0 1 = cc in absurd (omega arith)
    so_far_first q (y ∷ ys) [] e (one_more r h) = let z : ◌≡◌ {A = ℕ} 0 1 = cc in absurd (omega arith)
    so_far_first q (y ∷ ys) (x ∷ xs) e (one_more r h) =
        let f : y ≡ first_block x = cc in
        let g : ys ≡ map first_block xs = cc in
        one_more (right_first x (subst (RightBlock machine screen left) f r)) (so_far_first q ys xs g h)
    so_far_first _ (y ∷ _) [] e (last_waits w) = let z : ◌≡◌ {A = ℕ} 0 1 = cc in absurd (omega arith)
    so_far_first _ (y ∷ _) (x ∷ []) e (last_waits w) =
        let f : y ≡ first_block x = cc in
        last_waits (record { asks = sym (ap (λ x. command_in machine x.text) f ∙ first_command x) ∙ w.asks; shown = w.shown; unanswered = sym (ap (λ x. x.replies) f) ∙ w.unanswered })
    so_far_first _ (y ∷ _) (x ∷ z ∷ xs) e (last_waits w) = let n : ◌≡◌ {A = ℕ} 0 1 = cc in absurd (omega arith)

-- ---- blocks of which none is done

-- a phase awaits nothing, or the answer to a command
pub settled_or : (p : SessionPhase) → Settled p ⊎ ((w : WordTwo) × (p ≡ Awaiting w))
settled_or One = inl tt
settled_or Two = inl tt
settled_or (Awaiting w) = inr (w, refl)
settled_or Ended = inl tt
settled_or Closed = inl tt

-- only a command that asks is awaited, and only where there is a screen
awaited_ask : (screen : Bool) (c : CommandTwo) (w : WordTwo) → phase_received screen c ≡ Awaiting w → (c ≡ ask w) × (screen ≡ true)
awaited_ask true (ask v) w e = let f : v ≡ w = cc in (ap ask f, refl)
awaited_ask false (ask v) w e = let z : ◌≡◌ {A = ℕ} 0 1 = cc in absurd (omega arith)
awaited_ask screen (stanza f) w e = let z : ◌≡◌ {A = ℕ} 0 1 = cc in absurd (omega arith)
awaited_ask screen (key f) w e = let z : ◌≡◌ {A = ℕ} 0 1 = cc in absurd (omega arith)
awaited_ask screen (error n) w e = let z : ◌≡◌ {A = ℕ} 0 1 = cc in absurd (omega arith)
awaited_ask screen done w e = let z : ◌≡◌ {A = ℕ} 0 1 = cc in absurd (omega arith)
awaited_ask screen other w e = let z : ◌≡◌ {A = ℕ} 0 1 = cc in absurd (omega arith)
awaited_ask screen (bad n) w e = let z : ◌≡◌ {A = ℕ} 0 1 = cc in absurd (omega arith)

-- behind an accepted reply nothing is awaited
replies_settle : (s : Session) (b : Buffers) (outs : Supply) (rs : List Reply) → Settled s.phase → Accepted s b (reply_calls outs rs) → Settled (after s b (reply_calls outs rs)).session.phase
unfolding AllZero numbers after reply_calls
replies_settle s b outs [] h a = h
replies_settle s b outs (r ∷ rs) h a =
    let o = outcome s b (reply r.response r.body (outs 0)) in
    let q : o.session.phase ≡ Two = ap (λ x. x.phase) (accepted s b (reply r.response r.body (outs 0)) a.0).session in
    replies_settle o.session o.buffers (skip 1 outs) rs (subst Settled (sym q) tt) a.1

-- so where something is awaited there was none
replies_waiting : (s : Session) (b : Buffers) (outs : Supply) (rs : List Reply) (w : WordTwo) → Accepted s b (reply_calls outs rs) → (after s b (reply_calls outs rs)).session.phase ≡ Awaiting w → (rs ≡ []) × (s.phase ≡ Awaiting w)
unfolding AllZero numbers after reply_calls
replies_waiting s b outs [] w a e = (refl, e)
replies_waiting s b outs (r ∷ rs) w a e =
    let o = outcome s b (reply r.response r.body (outs 0)) in
    let q : o.session.phase ≡ Two = ap (λ x. x.phase) (accepted s b (reply r.response r.body (outs 0)) a.0).session in
    absurd (subst Settled e (replies_settle o.session o.buffers (skip 1 outs) rs (subst Settled (sym q) tt) a.1))

module _ (s : Session) (left : Left) where
  -- a block that still waits, from tables and buffers in the middle of a phase
  module _ (t : Tables) (b : Buffers) (x : Block) (w : Whole x.text) (g : Standing left t b.second) (outs : Supply) (l : LongEnough (at s Two t) b (block_calls two_part outs x)) where
    abbrev c' : CommandTwo
    c' = command_in s.machine x.text

    abbrev p' : List ℕ
    p' = payload_in s.machine x.text

    abbrev exact : (two.decided false t b.second c' (length p') ≡ 0) ↔ ((is_right_two c' ≡ true) × Present left c' × With t b.second c' p' × (◌≡◌ {A = Bool} false false))
    exact = decided_exact false left t b.second (is_done x.text) c' p' (command_proper s.machine (line_in x.text) (body_in x.text)) g

    enough : (big : List ℕ) → length (written_by (at s Two t) b (receive_two x.text big)) ≤ length (outs 0)
    unfolding LongEnough
    enough = l.0

    waits_to : (v : WordTwo) → Accepted (at s Two t) b (block_calls two_part outs x) → (after (at s Two t) b (block_calls two_part outs x)).session.phase ≡ Awaiting v → WaitingBlock s.machine s.screen v x × With t b.second c' p'
    unfolding AllZero numbers after
    waits_to v a e =
        let o = outcome (at s Two t) b (receive_two x.text (outs 0)) in
        let r = replies_waiting o.session o.buffers (skip 1 outs) x.replies v a.1 e in
        let k = accepted (at s Two t) b (receive_two x.text (outs 0)) a.0 in
        let q : phase_received s.screen c' ≡ Awaiting v = sym (ap (λ x. x.phase) k.session) ∙ r.1 in
        let y = awaited_ask s.screen c' v q in
        (record { asks = y.0; shown = y.1; unanswered = r.0 }, (exact.0 k.faultless).2)

    waits_from : (v : WordTwo) → WaitingBlock s.machine s.screen v x → With t b.second c' p' → AcceptedTo (Awaiting v) (at s Two t) b (block_calls two_part outs x)
    unfolding AllZero numbers after reply_calls
    waits_from v h f =
        let z : judged s t b x.text w ≡ 0 = exact.1 (ap is_right_two h.asks, subst (Present left) (sym h.asks) tt, f, refl) in
        let o = outcome (at s Two t) b (receive_two x.text (outs 0)) in
        let n = (text_iff s t b x.text w (outs 0) enough).1 z in
        let e : o.session.phase ≡ Awaiting v =
        ap (λ x. x.phase) (text_session s t b x.text w (outs 0) enough z) ∙ ap₂ phase_received h.shown h.asks in
        subst (λ rs. AcceptedTo (Awaiting v) (at s Two t) b (receive_two x.text (outs 0) ∷ reply_calls (skip 1 outs) rs)) (sym h.unanswered) ((n, tt), e)

  -- no text is accepted while a reply is due
  waiting_none : (s' : Session) (b : Buffers) (outs : Supply) (xs : List Block) (w : WordTwo) → s'.phase ≡ Awaiting w → Accepted s' b (calls_of two_part outs xs) → xs ≡ []
  unfolding AllZero numbers calls_of
  waiting_none s' b outs [] w e a = refl
  waiting_none s' b outs (x ∷ xs) w e a = let q = (accepted s' b (receive_two x.text (outs 0)) a.0).turn in let z : ◌≡◌ {A = ℕ} 0 1 = cc in absurd (omega arith)

  abbrev SoFar : SessionPhase → List Block → Type 0
  SoFar q xs = RightSoFar s.machine s.screen left q xs

  abbrev blocks_said : List Block → List Said
  blocks_said xs = map (said_by s.machine) xs

  so_far_to : (xs : List Block) (t : Tables) (b : Buffers) (outs : Supply) → Standing left t b.second → All (λ x. Whole x.text) xs → All (λ x. is_done x.text ≡ false) xs →
      LongEnough (at s Two t) b (calls_of two_part outs xs) → (q : SessionPhase) → AcceptedTo q (at s Two t) b (calls_of two_part outs xs) → SoFar q xs × Fitting t b.second (blocks_said xs)
  unfolding All calls_of after
  so_far_to [] t b outs g w d l q a = (subst (λ q. SoFar q []) a.1 none_more, fitting_none t b.second g.limits)
  so_far_to (x ∷ xs) t b outs g w d l q a =
      let here = block_calls two_part outs x in
      let cs = calls_of two_part (behind outs x) xs in
      let u = after (at s Two t) b here in
      let split = (accepted_append (at s Two t) b here cs).0 a.0 in
      let le = enough_append (at s Two t) b here cs l in
      let phase : (after u.session u.buffers cs).session.phase ≡ q = ap (λ u. u.session.phase) (sym (after_append (at s Two t) b here cs)) ∙ a.1 in
      let c = command_in s.machine x.text in
      let p = payload_in s.machine x.text in
      ⊎_elim
      (λ settled.
      let h = block_to s t b x w.0 outs le.0 split.0 (λ v e. settled) in
      let r = (block_iff s left t b x w.0 g).0 h in
      let t' = tables_with s t b x.text w.0 in
      let b' = buffers_with s t b x.text w.0 in
      let state : u ≡ state_of (at s Two t') b' = behind_block s left t b x w.0 outs d.0 (block_from s t b x w.0 outs le.0 h.0 h.1) in
      let rest = so_far_to xs t' b' (behind outs x) (standing_behind s left t b x w.0 g h.0) w.1 d.1 (subst (λ u. LongEnough u.session u.buffers cs) state le.1) q
      (subst (λ u. AcceptedTo q u.session u.buffers cs) state (split.1, phase)) in
      let f = (decided_iff false t b.second c (length p)).0 h.0 in
      (one_more r.0 rest.0, (fitting_rest false left t b.second c p (blocks_said xs) g f).1 rest.1))
      (λ waits.
      let n = waiting_none u.session u.buffers (behind outs x) xs waits.0 waits.1 split.1 in
      let h = waits_to t b x w.0 g outs le.0 waits.0 split.0 waits.1 in
      let e : Awaiting waits.0 ≡ q = sym waits.1 ∙ sym (ap (λ xs. (after u.session u.buffers (calls_of two_part (behind outs x) xs)).session.phase) n) ∙ phase in
      subst (λ xs. SoFar q (x ∷ xs) × Fitting t b.second (blocks_said (x ∷ xs))) (sym n) (subst (λ q. SoFar q (x ∷ [])) e (last_waits h.0), fitting_one t b.second c p h.1))
      (settled_or u.session.phase)

  so_far_from : (q : SessionPhase) (xs : List Block) (t : Tables) (b : Buffers) (outs : Supply) → Standing left t b.second → All (λ x. Whole x.text) xs → All (λ x. is_done x.text ≡ false) xs →
      LongEnough (at s Two t) b (calls_of two_part outs xs) → SoFar q xs → Fitting t b.second (blocks_said xs) → AcceptedTo q (at s Two t) b (calls_of two_part outs xs)
  unfolding All calls_of after
  so_far_from _ _ t b outs g w d l none_more f = (unfold AllZero in unfold numbers in tt, refl)
  so_far_from q (x ∷ xs) t b outs g w d l (one_more r m) f =
      let here = block_calls two_part outs x in
      let cs = calls_of two_part (behind outs x) xs in
      let le = enough_append (at s Two t) b here cs l in
      let c = command_in s.machine x.text in
      let p = payload_in s.machine x.text in
      let h = (block_iff s left t b x w.0 g).1 (r, fitting_front t b.second c p (blocks_said xs) f) in
      let t' = tables_with s t b x.text w.0 in
      let b' = buffers_with s t b x.text w.0 in
      let k = block_from s t b x w.0 outs le.0 h.0 h.1 in
      let state : after (at s Two t) b here ≡ state_of (at s Two t') b' = behind_block s left t b x w.0 outs d.0 k in
      let fault = (decided_iff false t b.second c (length p)).0 h.0 in
      let rest = so_far_from q xs t' b' (behind outs x) (standing_behind s left t b x w.0 g h.0) w.1 d.1 (subst (λ u. LongEnough u.session u.buffers cs) state le.1) m
      ((fitting_rest false left t b.second c p (blocks_said xs) g fault).0 f) in
      let back = subst (λ u. AcceptedTo q u.session u.buffers cs) (sym state) rest in
      ((accepted_append (at s Two t) b here cs).1 (k.zeros, back.0), ap (λ u. u.session.phase) (after_append (at s Two t) b here cs) ∙ back.1)
  so_far_from _ (x ∷ _) t b outs g w d l (last_waits {w = v} h) f =
      let here = block_calls two_part outs x in
      let e : here ++ [] ≡ here = append-nil here in
      subst (λ cs. AcceptedTo (Awaiting v) (at s Two t) b cs) (sym e)
      (waits_from t b x w.0 g outs (enough_append (at s Two t) b here [] l).0 v h (fitting_front t b.second (command_in s.machine x.text) (payload_in s.machine x.text) [] f))

-- ---- a session that has just come to phase two

quiet_all : (xs : List Block) → All (Quiet two_part) xs
unfolding All
quiet_all [] = tt
quiet_all (x ∷ xs) = (tt, quiet_all xs)

module _ (s : Session) (b : Buffers) (j : JustReached s) where
  abbrev left : Left
  left = left_of (state_of s b)

  abbrev AllowedHere : List Block → Type 0
  AllowedHere xs = AllowedTwo s.machine s.screen left (capacity_of b) xs

  abbrev LimitsOf : List Said → Type 0
  LimitsOf cs = Limits (length (left recipients) + length (left identities)) (capacity_of b) (λ m. total m cs)

  allowed_first : (xs : List Block) → AllowedHere (map first_block xs) → AllowedHere xs
  allowed_first xs a = record {
    right = all_weaker (right_first s.machine s.screen left) xs ((all_map first_block (RightBlock s.machine s.screen left) xs).0 a.right);
    limits = subst LimitsOf (first_saids s.machine xs) a.limits;
  }

  first_allowed : (xs : List Block) → AllowedHere xs → AllowedHere (map first_block xs)
  first_allowed xs a = record {
    right = (all_map first_block (RightBlock s.machine s.screen left) xs).1 (all_weaker (first_right s.machine s.screen left) xs a.right);
    limits = subst LimitsOf (sym (first_saids s.machine xs)) a.limits;
  }

  -- blocks of which done is the last
  last_iff : (p : Phase) (outs : Supply) → All (λ x. BeginsWhole x.text) (blocks_of p) → All (λ x. is_done x.text ≡ false) p.ahead → is_done p.last.text ≡ true → LongEnough s b (calls_of two_part outs (blocks_of p)) →
      Accepted s b (calls_of two_part outs (blocks_of p)) ↔ AllowedHere (blocks_of p)
  last_iff p outs w d e l =
      let p' : Phase = record { ahead = map first_block p.ahead; last = first_block p.last } in
      let same_blocks : map first_block (blocks_of p) ≡ blocks_of p' = map-append first_block p.ahead (p.last ∷ []) in
      let h : IsPhase two_part p' = record {
        whole = subst (All (λ x. Whole x.text)) same_blocks (first_wholes (blocks_of p) w);
        quiet = quiet_all (blocks_of p');
        done_once = none_done_firsts p.ahead d;
        done_last = first_done p.last ∙ e;
      } in
      let i = accepted_two_iff s b j p' h outs (subst (λ xs. LongEnough s b (calls_of two_part outs xs)) same_blocks (first_enough s b outs (blocks_of p) l)) in
      let n : numbers s b (calls_of two_part outs (blocks_of p')) ≡ numbers s b (calls_of two_part outs (blocks_of p)) =
      ap (λ xs. numbers s b (calls_of two_part outs xs)) (sym same_blocks) ∙ first_numbers s b outs (blocks_of p) in (
        λ a. allowed_first (blocks_of p) (subst AllowedHere (sym same_blocks) (i.0 (subst AllZero (sym n) a))),
        λ a. subst AllZero n (i.1 (subst AllowedHere same_blocks (first_allowed (blocks_of p) a))),
      )

  -- blocks of which none is done
  front_iff : (xs : List Block) (outs : Supply) → All (λ x. BeginsWhole x.text) xs → All (λ x. is_done x.text ≡ false) xs → LongEnough s b (calls_of two_part outs xs) → (q : SessionPhase) →
      AcceptedTo q s b (calls_of two_part outs xs) ↔ AllowedTwoSoFar s.machine s.screen left (capacity_of b) q xs
  front_iff xs outs w d l q =
      let ys = map first_block xs in
      let cs = calls_of two_part outs ys in
      let here = two_session s j in
      let g = begins s b j in
      let le = subst (λ s. LongEnough s b cs) (sym here) (first_enough s b outs xs l) in
      let f = fitting_all s b j (map (said_by s.machine) ys) in
      let n = first_numbers s b outs xs in
      let m : (after s b cs).session.phase ≡ (after s b (calls_of two_part outs xs)).session.phase = ap (λ u. u.session.phase) (first_after s b outs xs) in (
        λ a.
            let r = so_far_to s left ys s.tables b outs g (first_wholes xs w) (none_done_firsts xs d) le q (subst (λ s. AcceptedTo q s b cs) (sym here) (subst AllZero (sym n) a.0, m ∙ a.1)) in
            record { right = so_far_first s.machine s.screen left q ys xs refl r.0; limits = subst LimitsOf (first_saids s.machine xs) (f.0 r.1) },
        λ h.
            let a = subst (λ s. AcceptedTo q s b cs) here (so_far_from s left q ys s.tables b outs g (first_wholes xs w) (none_done_firsts xs d) le (first_so_far s.machine s.screen left q xs h.right) (f.1 (subst LimitsOf (sym (first_saids s.machine xs)) h.limits))) in
            (subst AllZero n a.0, sym m ∙ a.1),
      )

  not_yet : s.phase ≡ Ended → ⊥
  not_yet e = let q = j.turn in let z : ◌≡◌ {A = ℕ} 0 1 = cc in omega arith

  -- any calls of the client end
  module _ (cs : List Call) (k : All (λ c. is_client c ≡ true) cs) (l : LongEnough s b cs) where
    shaped_to : AcceptedTo Ended s b cs → (p : ShapedTwo cs) × AllowedHere (blocks_of p.phase)
    shaped_to a =
        let x = blocked s b cs j.turn k a.0 in
        let e = x.2 in
        let h = shape_of s b x.1 x.0 not_yet (subst (Accepted s b) e a.0) in
        let q : (after s b (calls_of two_part x.1 x.0)).session.phase ≡ Ended = ap (λ l. (after s b l).session.phase) (sym e) ∙ a.1 in
        ⊎_elim
        (λ y.
        let p : Phase = record { ahead = y.1.ahead; last = y.1.last } in
        let c : cs ≡ calls_of two_part x.1 (blocks_of p) = e ∙ ap (calls_of two_part x.1) y.1.blocks in
        let w = subst (All (λ x. BeginsWhole x.text)) y.1.blocks h.0 in (
          record { phase = p; outs = x.1; calls = c; whole = w; done_once = y.1.done_once; done_last = y.1.done_last },
          (last_iff p x.1 w y.1.done_once y.1.done_last (subst (LongEnough s b) c l)).0 (subst (Accepted s b) c a.0),
        ))
        (λ y. absurd (y.0 q))
        h.1

    shaped_from : (p : ShapedTwo cs) × AllowedHere (blocks_of p.phase) → AcceptedTo Ended s b cs
    unfolding All
    shaped_from y =
        let p = y.0 in
        let a = (last_iff p.phase p.outs p.whole p.done_once p.done_last (subst (LongEnough s b) p.calls l)).1 y.1 in
        let h = shape_of s b p.outs (blocks_of p.phase) not_yet a in
        subst (AcceptedTo Ended s b) (sym p.calls)
        (a, ⊎_elim (λ q. q.0) (λ q. absurd (true≢false (sym p.done_last ∙ ((all_append (λ x. is_done x.text ≡ false) p.phase.ahead (p.phase.last ∷ [])).0 q.1).1.0))) h.1)

    -- accepted to the end of the phase
    pub shaped_two_iff : AcceptedTo Ended s b cs ↔ ((p : ShapedTwo cs) × AllowedTwo s.machine s.screen (left_of (state_of s b)) (capacity_of b) (blocks_of p.phase))
    shaped_two_iff = (shaped_to, shaped_from)

    -- accepted, and the phase has not ended
    pub front_two_iff : (q : SessionPhase) → (q ≡ Ended → ⊥) → AcceptedTo q s b cs ↔ ((p : FrontTwo cs) × AllowedTwoSoFar s.machine s.screen (left_of (state_of s b)) (capacity_of b) q p.blocks)
    front_two_iff q n = (
      λ a.
          let x = blocked s b cs j.turn k a.0 in
          let e = x.2 in
          let h = shape_of s b x.1 x.0 not_yet (subst (Accepted s b) e a.0) in
          let m : (after s b (calls_of two_part x.1 x.0)).session.phase ≡ q = ap (λ l. (after s b l).session.phase) (sym e) ∙ a.1 in
          ⊎_elim
          (λ y. absurd (n (sym m ∙ y.0)))
          (λ y. (
            record { blocks = x.0; outs = x.1; calls = e; whole = h.0; none_done = y.1 },
            (front_iff x.0 x.1 h.0 y.1 (subst (LongEnough s b) e l) q).0 (subst (AcceptedTo q s b) e a),
          ))
          h.1,
      λ y.
          let p = y.0 in
          subst (AcceptedTo q s b) (sym p.calls) ((front_iff p.blocks p.outs p.whole p.none_done (subst (LongEnough s b) p.calls l) q).1 y.1),
    )
