-- Demand 3 with cuts: each cut amounts to its phase's calls of one stanza, and those of two rearrangements come to the same.
use Prim.Native.Nat.{ℕ, ◌≤◌}
use mathlib.Core.Bool.{false}
use mathlib.Core.Path.{◌≡◌, refl, sym, ap, ap₂, subst, ◌∙◌}
use mathlib.Core.Logic.{◌↔◌}
use mathlib.Core.List.{List, [], ◌∷◌, ◌++◌}
use lib.Dec.{eqb, leb}
use lib.ListN.{length}
use native.Mathlib.Omega.{arith}
use borrow.Author.Tests.{eqb-true, eqb-false, leb-true}
use Rattle.refusal.proofs.Laws.Booleans.{cases, and_true}
use Rattle.stanza.specs.Arguments.{is_line}
use Rattle.stanza.specs.Grammar.{stanza_text}
use Rattle.responses.specs.Responses.{response_line}
use Rattle.responses.specs.declared.Response.{Response}
use Rattle.session.specs.Session.{Session}
use Rattle.conversation.specs.Allowed.{Allowed, AllowedTwo, left_of, capacity_of}
use Rattle.conversation.specs.Calls as one_call
use Rattle.conversation.specs.Calls.{Call, receive, receive_two, reply, outcome, output_in, written_by, State, AllZero, Accepted}
use Rattle.conversation.specs.Kinds.{Buffers}
use Rattle.conversation.specs.Phases.{All, Part, one_part, two_part, Reply, Block, Phase, blocks_of, IsPhase, Supply, reply_calls, block_calls, behind, calls_of, written_in, lending, LongEnough, Starts, SameStart, Rearranged, SameTables, command_in, texts_of}
use Rattle.conversation.specs.ReceivingTwo.{at_once, text_of}
use Rattle.conversation.proofs.Laws.Accepted.{accepted}
use Rattle.conversation.proofs.Laws.AllowedOne.{accepted_iff}
use Rattle.conversation.proofs.Laws.Order.{order}
use Rattle.conversation.proofs.Laws.OrderTwo.{accepted_two_iff}
use Rattle.conversation.proofs.Laws.Reached.{just_done}
use Rattle.conversation.proofs.Laws.Refusals.{refusal}
use Rattle.conversation.proofs.Laws.WrittenRead.{front}
use Rattle.chunks.specs.Taking.{client, plugin, ample, emptied, joined}
use Rattle.chunks.specs.Uncut as pieces
use Rattle.chunks.specs.Uncut.{Piece, SameRun}
use Rattle.chunks.specs.Orders.{uncut_calls, IsCut, end_of, AllTaken, state_behind, written_all, all_joined, SameCuts, amples}
use Rattle.chunks.proofs.Laws.Cut.{cut_theorem, cut_accepted}
use Rattle.chunks.proofs.Laws.Stanzas.{Open}
use Rattle.chunks.proofs.Laws.Heard.{heard_same, heard_accepted}
use Rattle.chunks.proofs.Laws.Numbers.{at_once_short, room_size}
use Rattle.chunks.proofs.Laws.Blocks.{Ready, blocks_same}

-- ---- what is written, one behind the other

pub joined_append : (xs ys : List (List ℕ)) (z : List ℕ) → joined (xs ++ ys) z ≡ joined xs (joined ys z)
unfolding joined
joined_append [] ys z = refl
joined_append (x ∷ xs) ys z = ap (λ r. x ++ r) (joined_append xs ys z)

pub written_append : (s : Session) (b : Buffers) (xs ys : List Call) → one_call.written s b (xs ++ ys) ≡ one_call.written s b xs ++ one_call.written (one_call.after s b xs).session (one_call.after s b xs).buffers ys
unfolding one_call.written one_call.after
written_append s b [] ys = refl
written_append s b (c ∷ xs) ys = ap (λ r. written_by s b c ∷ r) (written_append (outcome s b c).session (outcome s b c).buffers xs ys)

blocks_written : (part : Part) (s : Session) (b : Buffers) (outs : Supply) (xs : List Block) → joined (one_call.written s b (calls_of part outs xs)) [] ≡ all_joined (written_in part s b outs xs)
unfolding calls_of written_in all_joined one_call.written joined
blocks_written part s b outs [] = refl
blocks_written part s b outs (x ∷ xs) =
    let cs = block_calls part outs x in
    let t = one_call.after s b cs in
    ap (λ w. joined w []) (written_append s b cs (calls_of part (behind outs x) xs))
    ∙ joined_append (one_call.written s b cs) (one_call.written t.session t.buffers (calls_of part (behind outs x) xs)) []
    ∙ ap (joined (one_call.written s b cs)) (blocks_written part t.session t.buffers (behind outs x) xs)

-- ---- the output of `ample` is long enough

-- whatever buffer a call is lent, it writes no more than its own has room for
abbrev Roomy : Call → Type 0
Roomy c = (s : Session) (b : Buffers) (big : List ℕ) → length (written_by s b (lending big c)) ≤ length (output_in c)

none_written : (s : Session) (b : Buffers) (c : Call) → ((outcome s b c).number ≡ 0 → ⊥) → length (written_by s b c) ≤ 0
none_written s b c h = rw (refusal s b c h).size (omega arith)

receive_roomy : (t : List ℕ) → Roomy (receive t)
receive_roomy t s b big = omega arith

receive_two_roomy : (t : List ℕ) → Roomy (receive_two t ample)
receive_two_roomy t s b big =
    cases (eqb (outcome s b (receive_two t big)).number 0)
    (λ f. rw (front (text_of (at_once s.screen (command_in s.machine t))) big (outcome s b (receive_two t big)) (accepted s b (receive_two t big) (eqb-true (outcome s b (receive_two t big)).number 0 f)).written)
    (omega (arith, at_once_short (at_once s.screen (command_in s.machine t)), room_size)))
    (λ f. omega (arith, none_written s b (receive_two t big) (eqb-false (outcome s b (receive_two t big)).number 0 f)))

reply_roomy : (r : Response) (body : List ℕ) → Roomy (reply r body ample)
reply_roomy r body s b big =
    cases (eqb (outcome s b (reply r body big)).number 0)
    (λ f. let a = accepted s b (reply r body big) (eqb-true (outcome s b (reply r body big)).number 0 f) in
    let l = leb-true (length (stanza_text (response_line r) body)) 8192 (and_true (is_line (response_line r)) (leb (length (stanza_text (response_line r) body)) 8192) a.writable).1 in
    rw (front (stanza_text (response_line r) body) big (outcome s b (reply r body big)) a.written) (omega (arith, l, room_size)))
    (λ f. omega (arith, none_written s b (reply r body big) (eqb-false (outcome s b (reply r body big)).number 0 f)))

pub all_append : {X : Type 0} (P : X → Type 0) (xs ys : List X) → All P xs → All P ys → All P (xs ++ ys)
unfolding All
all_append P [] ys p q = q
all_append P (x ∷ xs) ys p q = (p.0, all_append P xs ys p.1 q)

replies_roomy : (rs : List Reply) → All Roomy (reply_calls amples rs)
unfolding All reply_calls
replies_roomy [] = tt
replies_roomy (r ∷ rs) = (reply_roomy r.response r.body, replies_roomy rs)

blocks_roomy : (part : Part) (xs : List Block) → All Roomy (calls_of part amples xs)
unfolding All calls_of
blocks_roomy part [] = tt
blocks_roomy one_part (x ∷ xs) = all_append Roomy (block_calls one_part amples x) (calls_of one_part amples xs) (receive_roomy x.text, replies_roomy x.replies) (blocks_roomy one_part xs)
blocks_roomy two_part (x ∷ xs) = all_append Roomy (block_calls two_part amples x) (calls_of two_part amples xs) (receive_two_roomy x.text, replies_roomy x.replies) (blocks_roomy two_part xs)

roomy_enough : (s : Session) (b : Buffers) (cs : List Call) → All Roomy cs → LongEnough s b cs
unfolding All LongEnough
roomy_enough s b [] h = tt
roomy_enough s b (c ∷ cs) h = (h.0 s b, roomy_enough (outcome s b c).session (outcome s b c).buffers cs h.1)

-- ---- one cut

-- it is open, and at the plugin end no response is due
pub starts_ready : (part : Part) (s : Session) → Starts part s → Ready part s × Open s
starts_ready one_part s h = (ap (λ (s : Session). pieces.is_waiting client s.phase) h, ap (λ (s : Session). pieces.is_closed s.phase) h)
starts_ready two_part s h = (tt, ap pieces.is_closed (just_done s h).turn)

-- it is accepted where the calls of one stanza are, leaves their session and buffers, and writes what they write
pub record CutCalls (part : Part) (x : State) (p : Phase) (cs : List Piece) : Type 0 where
  pub accepted : AllTaken (end_of part) x cs ↔ Accepted x.session x.buffers (calls_of part amples (blocks_of p))
  pub state_is : state_behind (end_of part) x cs ≡ one_call.after x.session x.buffers (calls_of part amples (blocks_of p))
  pub written_is : written_all (end_of part) x cs ≡ all_joined (written_in part x.session x.buffers amples (blocks_of p))

pub cut_calls : (part : Part) (x : State) (p : Phase) (cs : List Piece) → Starts part x.session → IsPhase part p → IsCut (end_of part) x.session x.buffers cs (blocks_of p) → CutCalls part x p cs
cut_calls part x p cs st ph c =
    let e = end_of part in
    let i = emptied x.session [] in
    let us = uncut_calls (blocks_of p) in
    let z = starts_ready part x.session st in
    let m = blocks_same part x.session x.buffers (blocks_of p) z.0 ph.whole ph.quiet in
    let h = heard_same e i x.buffers us in
    let d = subst (λ us. SameRun e x.session x.buffers us cs) c.uncut_is (cut_theorem e x.session x.buffers cs z.1 c.none_held_up) in
    let f = subst (λ us. AllZero (pieces.numbers e i x.buffers us) ↔ AllTaken e x cs) c.uncut_is (cut_accepted e x.session x.buffers cs z.1 c.none_held_up c.none_behind) in
    let g = heard_accepted e i x.buffers us z.1 in
    record {
      accepted = (λ k. subst AllZero m.numbers (g.0 (f.1 k)), λ k. f.0 (g.1 (subst AllZero (sym m.numbers) k)));
      state_is = sym (ap₂ one_call.state_of d.same_session d.same_buffers) ∙ ap (λ w. one_call.state_of w.intake.session w.buffers) h.after_is ∙ ap₂ (λ v w. one_call.state_of v.session w) m.intake m.buffers;
      written_is = sym d.same_output ∙ h.written_is ∙ m.written ∙ blocks_written part x.session x.buffers amples (blocks_of p);
    }

-- ---- exact acceptance

-- a cut of phase one is accepted exactly if the phase is allowed
pub cut_allowed_one : (x : State) (p : Phase) (cs : List Piece) → Starts one_part x.session → IsPhase one_part p → IsCut plugin x.session x.buffers cs (blocks_of p) →
    AllTaken plugin x cs ↔ Allowed x.session.machine x.session.name x.buffers.first (texts_of p)
cut_allowed_one x p cs st ph c =
    let u = (cut_calls one_part x p cs st ph c).accepted in
    let i = accepted_iff x.session.machine x.session.name false x.buffers amples p ph in
    (λ k. i.0 (subst (λ s. Accepted s x.buffers (calls_of one_part amples (blocks_of p))) st (u.0 k)), λ k. u.1 (subst (λ s. Accepted s x.buffers (calls_of one_part amples (blocks_of p))) (sym st) (i.1 k)))

-- .. of phase two
pub cut_allowed_two : (x : State) (p : Phase) (cs : List Piece) → Starts two_part x.session → IsPhase two_part p → IsCut client x.session x.buffers cs (blocks_of p) →
    AllTaken client x cs ↔ AllowedTwo x.session.machine x.session.screen (left_of x) (capacity_of x.buffers) (blocks_of p)
cut_allowed_two x p cs st ph c =
    let u = (cut_calls two_part x p cs st ph c).accepted in
    let i = accepted_two_iff x.session x.buffers (just_done x.session st) p ph amples (roomy_enough x.session x.buffers (calls_of two_part amples (blocks_of p)) (blocks_roomy two_part (blocks_of p))) in
    (λ k. i.0 (u.0 k), λ k. u.1 (i.1 k))

-- ---- two cuts

-- Two sessions that may receive the phase, equal in settings, in what their tables show and in the lengths of their buffers, receive two rearrangements of it, each
-- cut as it may be. Then both cuts are accepted or both refused; and where they are accepted the tables are equal, all seven, and equal blocks are answered alike.
pub order_of_cuts : (part : Part) (x y : State) → Starts part x.session → Starts part y.session → SameStart part x y → (p q : Phase) → IsPhase part p → IsPhase part q →
    Rearranged part x.session.machine x.session.name p q → (cs ds : List Piece) →
    IsCut (end_of part) x.session x.buffers cs (blocks_of p) → IsCut (end_of part) y.session y.buffers ds (blocks_of q) →
    SameCuts part x y p q cs ds
order_of_cuts part x y sx sy st p q hp hq r cs ds cx cy =
    let o = order part x y sx sy st p q hp hq r amples amples
    (roomy_enough x.session x.buffers (calls_of part amples (blocks_of p)) (blocks_roomy part (blocks_of p)))
    (roomy_enough y.session y.buffers (calls_of part amples (blocks_of q)) (blocks_roomy part (blocks_of q))) in
    let u = cut_calls part x p cs sx hp cx in
    let v = cut_calls part y q ds sy hq cy in
    record {
      accepted = (λ k. v.accepted.1 (o.accepted.0 (u.accepted.0 k)), λ k. u.accepted.1 (o.accepted.1 (v.accepted.0 k)));
      tables = λ k. subst (λ a. SameTables a (state_behind (end_of part) y ds)) (sym u.state_is)
          (subst (SameTables (one_call.after x.session x.buffers (calls_of part amples (blocks_of p)))) (sym v.state_is) (o.tables (u.accepted.0 k)));
      responses = λ k. let w = o.responses (u.accepted.0 k) in (u.written_is ∙ ap all_joined w.0, v.written_is ∙ ap all_joined w.1);
    }
