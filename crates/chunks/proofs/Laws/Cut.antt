-- However a conversation is cut, it comes to what the uncut one comes to: call by call both stand at the same session and buffers, the uncut one with no byte kept.
use Prim.Native.Nat.{ℕ, ◌≤◌}
use mathlib.Core.Path.{◌≡◌, refl, sym, ap, ap₂, subst, ◌∙◌}
use mathlib.Core.Bool.{Bool, true, false, false≢true}
use mathlib.Core.Logic.{◌⊎◌, inl, inr, ⊎_elim, ◌↔◌}
use mathlib.Core.List.{List, [], ◌∷◌, ◌++◌, map, append_assoc, append-nil}
use lib.Dec.{eqb}
use lib.ListN.{length}
use native.Mathlib.Omega.{arith}
use borrow.Author.Tests.{eqb-true, eqb-false, ne_eqb, leb-true}
use Rattle.refusal.specs.Pick.{pick}
use Rattle.refusal.proofs.Laws.Booleans.{cases, and_true}
use Rattle.stanza.specs.Arguments.{is_line}
use Rattle.stanza.specs.Automaton as automaton
use Rattle.stanza.specs.Automaton.{start}
use Rattle.stanza.specs.Grammar.{stanza_text}
use Rattle.stanza.specs.Writing.{is_writable}
use Rattle.responses.specs.Responses.{response_line, fits_whole}
use Rattle.responses.specs.declared.Response.{Response}
use Rattle.session.specs.Session.{Session, closed}
use Rattle.session.specs.declared.words.WordTwo.{WordTwo}
use Rattle.session.specs.declared.phases.Phase.{Phase}
use Rattle.session.specs.declared.phases.Phase.TheVariants.{One, Two, Awaiting, Ended, Closed}
use Rattle.conversation.specs.Calls.{outcome, AllZero}
use Rattle.conversation.specs.Kinds.{Buffers}
use Rattle.conversation.specs.Phases.{All}
use Rattle.conversation.specs.Replying.{number_replied}
use Rattle.conversation.specs.TurnsTwo.{undue, due_in, answered}
use Rattle.chunks.specs.Cutting.{Rest, unfinished, impossible, bytes_of, cut}
use Rattle.chunks.specs.Taking.{joined, End, client, plugin, Turn, reads, drops, keeps_back, turn_at, ample, stanza_call, Intake, Taken, no_more, emptied, keeping, taken_rest, taken_all}
use Rattle.chunks.specs.Chunks.{Outcome, untaken, judged, taken, turn_of, chunked, reply_ahead, taken_back, replied_to, replied_by, replied}
use Rattle.chunks.specs.Uncut.{Parted, Piece, chunk, reply, outcome_of, State, after, numbers, written, is_closed, closing, NoneHeldUp, alone, singles, is_over, is_waiting, is_unfit, parted_chunk, parted_back, received_more, parted_by, parted, uncut, is_ended, NoneBehind, SameRun, text_in, kept_back, AreSingle, IsUncut, HostReply, replies_by, replies_made, RepliesDue}
use Rattle.chunks.specs.Reached.{IsFront}
use Rattle.chunks.proofs.Laws.Cutting.{IsWhole, IsRest, cut_on, cut_append, cut_joined, cut_parts, none_front}
use Rattle.chunks.proofs.Laws.Cases.{drops_not_reads, keeps_not_reads, keeps_not_drops, held}
use Rattle.chunks.proofs.Laws.Runs.{Runs, run_none, run_one, run_join, Tally, tally_one, tally_join, judged_held, judged_not_15, run_held}
use Rattle.chunks.proofs.Laws.Taking.{turn_reads, turn_drops, turn_says, turn_waits, not_13, closed_waits, chunked_read, chunk_held, room_fits, closed_turn, At, in_turn, quiet, over, waiting, stopped, Level, even, both_refused, late, over_ended, impossible_some, received_all}

-- ---- one list follows another

-- from where the calls of an uncut list stand, with no byte kept, they come to what those of a cut list come to from an intake
pub record Follows (e : End) (n : ℕ) (s : Session) (w : List ℕ) (i : Intake) (b : Buffers) (left : List ℕ) (us cs : List Piece) : Type 0 where
  pub none_held_up : NoneHeldUp (numbers e (emptied s w) b us)
  pub same_output : written e (emptied s w) b us ≡ written e i b cs
  pub same_session : (after e (emptied s w) b us).intake.session ≡ (after e i b cs).intake.session
  pub same_buffers : (after e (emptied s w) b us).buffers ≡ (after e i b cs).buffers
  pub same_awaited : (after e (emptied s w) b us).intake.awaited ≡ (after e i b cs).intake.awaited
  pub same_closing : is_closed s.phase ≡ false → closing e (emptied s w) b us ≡ pick (is_closed i.session.phase) n (closing e i b cs)
  pub same_text : text_in us ++ kept_back e (after e i b cs).intake ≡ left ++ text_in cs
  pub single : AreSingle us
  pub same_replies : replies_made e (emptied s w) b us ≡ replies_made e i b cs
  pub replies_due : RepliesDue e (emptied s w) b us
  pub accepted_as : is_closed i.session.phase ≡ false → (is_ended i.session.phase ≡ true → left ≡ []) → NoneBehind e i b cs → AllZero (numbers e (emptied s w) b us) ↔ AllZero (numbers e i b cs)
  pub refused_late : is_over i.session.phase ≡ true → (left ≡ [] → ⊥) → AllZero (numbers e (emptied s w) b us) → ⊥

-- where the uncut list stands at a closed session, so does the cut one
at_closed : {e : End} {n : ℕ} {s : Session} {w : List ℕ} {i : Intake} {left : List ℕ} → At e n s w i left → is_closed s.phase ≡ true → is_closed i.session.phase ≡ true
at_closed (in_turn q f t k) h = h
at_closed (quiet t) h = h
at_closed (over left t) h = h
at_closed (waiting left t) h = h
at_closed (stopped left t c d) h = refl

-- ---- the bytes of lists of calls

pub text_append : (xs ys : List Piece) → text_in (xs ++ ys) ≡ text_in xs ++ text_in ys
unfolding text_in
text_append [] ys = refl
text_append (chunk bytes out ∷ xs) ys = ap (λ x. bytes ++ x) (text_append xs ys) ∙ sym (append_assoc bytes (text_in xs) (text_in ys))
text_append (reply r body out ∷ xs) ys = text_append xs ys

-- whole stanzas, each in a chunk of its own, and replies
unfoldable Wholes : List Piece → Type 0
Wholes [] = Unit
Wholes (chunk t out ∷ cs) = (out ≡ ample) × (IsWhole t × Wholes cs)
Wholes (reply r body out ∷ cs) = Wholes cs

single_append : (xs ys : List Piece) → Wholes xs → AreSingle ys → AreSingle (xs ++ ys)
unfolding Wholes AreSingle
single_append [] ys h k = k
single_append (chunk t out ∷ xs) ys h k = ((h.0, inl h.1.0.alone), single_append xs ys h.1.1 k)
single_append (reply r body out ∷ xs) ys h k = single_append xs ys h k

wholes_alone : (ts : List (List ℕ)) → All IsWhole ts → Wholes (map alone ts)
unfolding All Wholes
wholes_alone [] h = tt
wholes_alone (t ∷ ts) h = (refl, (h.0, wholes_alone ts h.1))

pub text_alone : (ts : List (List ℕ)) (x : List ℕ) → text_in (map alone ts) ++ x ≡ joined ts x
unfolding text_in joined
text_alone [] x = refl
text_alone (t ∷ ts) x = append_assoc t (text_in (map alone ts)) x ∙ ap (λ y. t ++ y) (text_alone ts x)

-- ---- the replies of lists of calls

module _ (e : End) where
  made_append : (i : Intake) (b : Buffers) (xs ys : List Piece) → replies_made e i b (xs ++ ys) ≡ replies_made e i b xs ++ replies_made e (after e i b xs).intake (after e i b xs).buffers ys
  unfolding replies_made after
  made_append i b [] ys = refl
  made_append i b (c ∷ xs) ys =
      let o = outcome_of e i b c in
      ap (λ z. replies_by e i c ++ z) (made_append o.intake o.buffers xs ys) ∙ sym (append_assoc (replies_by e i c) (replies_made e o.intake o.buffers xs) _)

  due_append : (i : Intake) (b : Buffers) (xs ys : List Piece) → RepliesDue e i b xs → RepliesDue e (after e i b xs).intake (after e i b xs).buffers ys → RepliesDue e i b (xs ++ ys)
  unfolding RepliesDue after
  due_append i b [] ys h k = k
  due_append i b (c ∷ xs) ys h k = (h.0, due_append (outcome_of e i b c).intake (outcome_of e i b c).buffers xs ys h.1 k)

  -- replies of calls that lead from one place to another
  abbrev Made : Intake → Buffers → List Piece → List HostReply → Type 0
  Made i b xs rs = (replies_made e i b xs ≡ rs) × RepliesDue e i b xs

  -- chunks make none
  made_alone : (ts : List (List ℕ)) (i : Intake) (b : Buffers) → Made i b (map alone ts) []
  unfolding replies_made RepliesDue
  made_alone [] i b = (refl, tt)
  made_alone (t ∷ ts) i b = let k = made_alone ts (outcome_of e i b (alone t)).intake (outcome_of e i b (alone t)).buffers in (k.0, (λ h. absurd (false≢true h), k.1))

  made_last : (x : List ℕ) (i : Intake) (b : Buffers) → Made i b (pick (eqb (length x) 0) [] (alone x ∷ [])) []
  made_last x i b = go (eqb (length x) 0)
    where
      go : (d : Bool) → Made i b (pick d [] (alone x ∷ [])) []
      go true = made_alone [] i b
      go false = made_alone (x ∷ []) i b

  made_more : (i : Intake) (b : Buffers) (xs ys : List Piece) → Made i b xs [] → Made (after e i b xs).intake (after e i b xs).buffers ys [] → Made i b (xs ++ ys) []
  made_more i b xs ys h k = (made_append i b xs ys ∙ ap₂ (λ u v. u ++ v) h.0 k.0, due_append i b xs ys h.1 k.1)

  made_singles : (x : List ℕ) (i : Intake) (b : Buffers) → Made i b (singles x) []
  made_singles x i b =
      let c = cut start [] x in
      let xs = map alone c.texts in
      made_more i b xs (pick (eqb (length (bytes_of c.rest)) 0) [] (alone (bytes_of c.rest) ∷ [])) (made_alone c.texts i b) (made_last (bytes_of c.rest) (after e i b xs).intake (after e i b xs).buffers)

  -- the reply to the command that waits, and chunks behind it
  made_reply : (i : Intake) (b : Buffers) (r : Response) (body out : List ℕ) (ts : List (List ℕ)) → is_waiting e i.session.phase ≡ true → Made i b (reply r body out ∷ map alone ts) (replies_by e i (reply r body out))
  unfolding replies_made RepliesDue
  made_reply i b r body out ts h =
      let o = outcome_of e i b (reply r body out) in
      let k = made_alone ts o.intake o.buffers in
      (ap (λ x. replies_by e i (reply r body out) ++ x) k.0 ∙ append-nil (replies_by e i (reply r body out)), (λ z. h, k.1))

  -- none is made behind the end
  over_made : (i : Intake) (c : Piece) → is_over i.session.phase ≡ true → replies_by e i c ≡ []
  over_made i (chunk bytes out) h = refl
  over_made i (reply r body out) h = ap (λ d. pick d (record { awaited = i.awaited; response = r; body = body } ∷ []) []) (over_waits e i.session.phase h)
    where
      over_waits : (e : End) (p : Phase) → is_over p ≡ true → is_waiting e p ≡ false
      over_waits client One h = refl
      over_waits client Two h = refl
      over_waits client (Awaiting v) h = absurd (false≢true h)
      over_waits client Ended h = refl
      over_waits client Closed h = refl
      over_waits plugin p h = refl

-- where calls lead, with none behind them
run_leads : {e : End} {i : Intake} {b : Buffers} {xs : List Piece} {n : ℕ} {i' : Intake} {b' : Buffers} {v : List ℕ} → Runs e i b xs n i' b' v → after e i b xs ≡ record { intake = i'; buffers = b' }
unfolding after
run_leads {e} {i} {b} {xs} r = ap (after e i b) (sym (append-nil xs)) ∙ r.leads []

module _ (e : End) (n : ℕ) (s : Session) (w : List ℕ) (i : Intake) (b : Buffers) (left : List ℕ) where
  made_first : {i' : Intake} {b' : Buffers} (c : Piece) (cs : List Piece) → after e i b (c ∷ []) ≡ record { intake = i'; buffers = b' } → replies_made e i b (c ∷ cs) ≡ replies_by e i c ++ replies_made e i' b' cs
  unfolding replies_made after
  made_first c cs h = ap (λ (z : State). replies_by e i c ++ replies_made e z.intake z.buffers cs) h

  -- calls of the uncut list for one call of the cut one
  follow : {m k : ℕ} {s' : Session} {w' : List ℕ} {i' : Intake} {b' : Buffers} {left' v : List ℕ} (xs us cs : List Piece) (c : Piece) →
      Runs e (emptied s w) b xs m (emptied s' w') b' v → Runs e i b (c ∷ []) m i' b' v → At e m s' w' i' left' → is_closed i.session.phase ≡ false → text_in xs ++ left' ≡ left ++ text_in (c ∷ []) → Wholes xs →
      is_over i.session.phase ≡ false → Tally e (emptied s w) b xs k (emptied s' w') b' → Tally e i b (c ∷ []) m i' b' → Level i' left' k m → (NoneBehind e i b (c ∷ cs) → NoneBehind e i' b' cs) →
      Made e (emptied s w) b xs (replies_by e i c) → Follows e m s' w' i' b' left' us cs → Follows e n s w i b left (xs ++ us) (c ∷ cs)
  follow {m} {k} {s'} {w'} {i'} {b'} {left'} {v} xs us cs c r q a h d y g x z l nb mk f = record {
    none_held_up = r.passes us f.none_held_up;
    same_output = r.writes us ∙ ap (λ x. v ++ x) f.same_output ∙ sym (q.writes cs);
    same_session = ap (λ x. x.intake.session) (r.leads us) ∙ f.same_session ∙ sym (ap (λ x. x.intake.session) (q.leads cs));
    same_buffers = ap (λ x. x.buffers) (r.leads us) ∙ f.same_buffers ∙ sym (ap (λ x. x.buffers) (q.leads cs));
    same_awaited = ap (λ x. x.intake.awaited) (r.leads us) ∙ f.same_awaited ∙ sym (ap (λ x. x.intake.awaited) (q.leads cs));
    same_closing = λ k. r.closes_as k us ∙ meet (is_closed s'.phase) refl ∙ sym (q.closes_as h cs) ∙ sym (ap (λ d. pick d n (closing e i b (c ∷ cs))) h);
    same_text =
        ap₂ (λ u k. u ++ k) (text_append xs us) (ap (λ z. kept_back e z.intake) (q.leads cs)) ∙ append_assoc (text_in xs) (text_in us) (kept_back e (after e i' b' cs).intake) ∙ ap (λ u. text_in xs ++ u) f.same_text
        ∙ sym (append_assoc (text_in xs) left' (text_in cs)) ∙ ap (λ u. u ++ text_in cs) d ∙ append_assoc left (text_in (c ∷ [])) (text_in cs) ∙ ap (λ u. left ++ u) (sym (text_append (c ∷ []) cs));
    single = single_append xs us y f.single;
    same_replies =
        made_append e (emptied s w) b xs us ∙ ap₂ (λ u (z : State). u ++ replies_made e z.intake z.buffers us) mk.0 (run_leads r) ∙ ap (λ u. replies_by e i c ++ u) f.same_replies ∙ sym (made_first c cs (run_leads q));
    replies_due = due_append e (emptied s w) b xs us mk.1 (subst (λ (z : State). RepliesDue e z.intake z.buffers us) (sym (run_leads r)) f.replies_due);
    accepted_as = λ p t n. accepts l (nb n);
    refused_late = λ p t. absurd (false≢true (sym g ∙ p));
  }
    where
      accepts : Level i' left' k m → NoneBehind e i' b' cs → AllZero (numbers e (emptied s w) b (xs ++ us)) ↔ AllZero (numbers e i b (c ∷ cs))
      accepts (even u t o p) n =
          let j = f.accepted_as o p n in
          (λ w. (z.all_zero cs).1 (t, j.0 ((x.all_zero us).0 w).1), λ w. (x.all_zero us).1 (u, j.1 ((z.all_zero cs).0 w).1))
      accepts (both_refused u t) n = (λ w. absurd (u ((x.all_zero us).0 w).0), λ w. absurd (t ((z.all_zero cs).0 w).0))
      accepts (late t o p) n = (λ w. absurd (f.refused_late o p ((x.all_zero us).0 w).1), λ w. absurd (t ((z.all_zero cs).0 w).0))

      meet : (d : Bool) → is_closed s'.phase ≡ d → pick d m (closing e (emptied s' w') b' us) ≡ pick (is_closed i'.session.phase) m (closing e i' b' cs)
      meet true k = sym (ap (λ d. pick d m (closing e i' b' cs)) (at_closed a k))
      meet false k = f.same_closing k

  -- none for a call that changes nothing and writes nothing
  follow_skip : {us cs : List Piece} {c : Piece} → is_over i.session.phase ≡ true → Runs e i b (c ∷ []) 13 i b [] → Follows e n s w i b (left ++ text_in (c ∷ [])) us cs → Follows e n s w i b left us (c ∷ cs)
  unfolding NoneBehind
  follow_skip {us} {cs} {c} o q f = record {
    none_held_up = f.none_held_up;
    same_output = f.same_output ∙ sym (q.writes cs);
    same_session = f.same_session ∙ sym (ap (λ x. x.intake.session) (q.leads cs));
    same_buffers = f.same_buffers ∙ sym (ap (λ x. x.buffers) (q.leads cs));
    same_awaited = f.same_awaited ∙ sym (ap (λ x. x.intake.awaited) (q.leads cs));
    same_closing = λ k. f.same_closing k ∙ meet (is_closed i.session.phase) refl;
    same_text =
        ap (λ (z : State). text_in us ++ kept_back e z.intake) (q.leads cs) ∙ f.same_text ∙ append_assoc left (text_in (c ∷ [])) (text_in cs) ∙ ap (λ u. left ++ u) (sym (text_append (c ∷ []) cs));
    single = f.single;
    same_replies = f.same_replies ∙ sym (made_first c cs (run_leads q) ∙ ap (λ u. u ++ replies_made e i b cs) (over_made e i c o));
    replies_due = f.replies_due;
    accepted_as = λ p t n. absurd (false≢true (sym n.0 ∙ over_ended i.session.phase o p));
    refused_late = λ p t. f.refused_late p (λ z. t (front_empty left (text_in (c ∷ [])) z));
  }
    where
      front_empty : (x y : List ℕ) → x ++ y ≡ [] → x ≡ []
      front_empty [] y h = refl
      front_empty (a ∷ x) y h = let z : ◌≡◌ {A = ℕ} 0 1 = cc in absurd (omega arith)

      meet : (d : Bool) → is_closed i.session.phase ≡ d → pick d n (closing e i b cs) ≡ pick d n (closing e i b (c ∷ cs))
      meet true k = refl
      meet false k = sym (q.closes_as k cs ∙ ap (λ d. pick d 13 (closing e i b cs)) k)

  -- at the end
  follow_end : {m : ℕ} {i' : Intake} (xs : List Piece) → Runs e (emptied s w) b xs m i' b [] → i'.session ≡ i.session → i'.awaited ≡ i.awaited →
      (is_closed s.phase ≡ false → pick (is_closed i'.session.phase) m 0 ≡ pick (is_closed i.session.phase) n 0) → text_in xs ++ kept_back e i ≡ left → AreSingle xs →
      (is_closed i.session.phase ≡ false → (is_ended i.session.phase ≡ true → left ≡ []) → AllZero (numbers e (emptied s w) b xs)) →
      (is_over i.session.phase ≡ true → (left ≡ [] → ⊥) → AllZero (numbers e (emptied s w) b xs) → ⊥) → Made e (emptied s w) b xs [] → Follows e n s w i b left xs []
  unfolding after written numbers closing NoneHeldUp text_in AllZero replies_made
  follow_end {m} {i'} xs r p q c d y taken-up left_out mk = record {
    none_held_up = subst (λ x. NoneHeldUp (numbers e (emptied s w) b x)) (append-nil xs) (r.passes [] tt);
    same_output = ap (written e (emptied s w) b) (sym (append-nil xs)) ∙ r.writes [];
    same_session = ap (λ x. (after e (emptied s w) b x).intake.session) (sym (append-nil xs)) ∙ ap (λ x. x.intake.session) (r.leads []) ∙ p;
    same_buffers = ap (λ x. (after e (emptied s w) b x).buffers) (sym (append-nil xs)) ∙ ap (λ x. x.buffers) (r.leads []);
    same_awaited = ap (λ x. (after e (emptied s w) b x).intake.awaited) (sym (append-nil xs)) ∙ ap (λ x. x.intake.awaited) (r.leads []) ∙ q;
    same_closing = λ k. ap (closing e (emptied s w) b) (sym (append-nil xs)) ∙ r.closes_as k [] ∙ c k;
    same_text = d ∙ sym (append-nil left);
    single = y;
    same_replies = mk.0;
    replies_due = mk.1;
    accepted_as = λ p t n. (λ z. tt, λ z. taken-up p t);
    refused_late = left_out;
  }

-- ---- calls that are refused for the phase alone

module _ (e : End) (i : Intake) (b : Buffers) where
  pub chunk_refused : (n : ℕ) (bytes out : List ℕ) → turn_of e i.session.phase ≡ n → eqb n 0 ≡ false → outcome_of e i b (chunk bytes out) ≡ untaken n i b out
  unfolding chunked
  chunk_refused n bytes out h z = rw (h, z)

  run_refused_13 : (bytes out : List ℕ) → turn_of e i.session.phase ≡ 13 → Runs e i b (chunk bytes out ∷ []) 13 i b []
  run_refused_13 bytes out h = run_one e i b (chunk bytes out) (untaken 13 i b out) (chunk_refused 13 bytes out h refl) (λ z. omega arith) (λ z. omega arith)

  -- behind the end each chunk is refused with 13
  run_over : turn_of e i.session.phase ≡ 13 → (ts : List (List ℕ)) → Runs e i b (map alone ts) 13 i b []
  run_over h [] = run_none e i b 13
  run_over h (t ∷ ts) = run_join e (run_refused_13 t ample h) (λ k. k) (run_over h ts)

-- ---- the end of the list

-- the last bytes in a chunk of their own, if there are any
abbrev last : List ℕ → List Piece
last x = pick (eqb (length x) 0) [] (alone x ∷ [])

text_last : (x : List ℕ) → text_in (last x) ≡ x
unfolding text_in
text_last [] = refl
text_last (y ∷ x) = ap (λ d. text_in (pick d [] (alone (y ∷ x) ∷ []))) (ne_eqb (length (y ∷ x)) 0 (λ z. omega arith)) ∙ append-nil (y ∷ x)

-- the calls for a text hold its bytes
pub text_singles : (x : List ℕ) → text_in (singles x) ≡ x
text_singles x =
    let c = cut start [] x in
    text_append (map alone c.texts) (last (bytes_of c.rest)) ∙ text_alone c.texts (text_in (last (bytes_of c.rest))) ∙ ap (joined c.texts) (text_last (bytes_of c.rest)) ∙ cut_joined x start []

rest_texts : (r : Rest) → IsRest r → (cut start [] (bytes_of r)).texts ≡ []
rest_texts (unfinished q f) h = ap (λ c. c.texts) h.read
rest_texts (impossible n x) h = ap (λ c. c.texts) h.0

pub single_singles : (x : List ℕ) → AreSingle (singles x)
unfolding AreSingle
single_singles x =
    let c = cut start [] x in
    let p = cut_parts x start [] none_front in
    single_append (map alone c.texts) (last (bytes_of c.rest)) (wholes_alone c.texts p.texts) (one (eqb (length (bytes_of c.rest)) 0) (bytes_of c.rest) (rest_texts c.rest p.rest))
  where
    one : (d : Bool) (y : List ℕ) → (cut start [] y).texts ≡ [] → AreSingle (pick d [] (alone y ∷ []))
    one true y h = tt
    one false y h = ((refl, inr (h, refl)), tt)

module _ (e : End) (n : ℕ) (s : Session) (w : List ℕ) (b : Buffers) where
  singles_of : (x : List ℕ) (r : Rest) → cut start [] x ≡ record { texts = []; rest = r } → bytes_of r ≡ x → singles x ≡ last x
  singles_of x r h k = ap (λ c. map alone c.texts ++ last (bytes_of c.rest)) h ∙ ap last k

  -- one call for a rest
  pub last_held : (x : List ℕ) (r : Rest) (q : Taken) → turn_at e s.phase ≡ reads → cut start [] x ≡ record { texts = []; rest = r } → taken_rest reads s b w r ≡ q → q.written ≡ [] → length q.intake.kept ≤ 8192 →
      outcome_of e (emptied s w) b (alone x) ≡ held ample q
  unfolding taken_all
  last_held x r q t h k v l =
      chunk_held e (emptied s w) b x ample q (turn_reads e s.phase t) (ap (λ c. taken_all e s b w c.texts c.rest) h ∙ ap (λ u. taken_rest u s b w r) t ∙ k)
      (subst (λ x. length x ≤ length ample) (sym v) (room_fits [] (omega arith))) l

  run_last : (x : List ℕ) (r : Rest) (q : Taken) → turn_at e s.phase ≡ reads → cut start [] x ≡ record { texts = []; rest = r } → taken_rest reads s b w r ≡ q → q.written ≡ [] → length q.intake.kept ≤ 8192 →
      (q.number ≡ 14 → ⊥) → (q.number ≡ 15 → ⊥) → Runs e (emptied s w) b (alone x ∷ []) q.number q.intake q.buffers q.written
  run_last x r q t h k v l f g = run_held e (emptied s w) b (alone x) ample q (last_held x r q t h k v l) (subst (λ x. length x ≤ length ample) (sym v) (room_fits [] (omega arith))) f g

  -- what is left in calls of its own
  end_singles : {m : ℕ} {i' : Intake} (i : Intake) (left : List ℕ) → is_waiting e i.session.phase ≡ false → Runs e (emptied s w) b (singles left) m i' b [] → i'.session ≡ i.session → i'.awaited ≡ i.awaited →
      (is_closed s.phase ≡ false → pick (is_closed i'.session.phase) m 0 ≡ pick (is_closed i.session.phase) n 0) →
      (is_closed i.session.phase ≡ false → (is_ended i.session.phase ≡ true → left ≡ []) → AllZero (numbers e (emptied s w) b (singles left))) →
      (is_over i.session.phase ≡ true → (left ≡ [] → ⊥) → AllZero (numbers e (emptied s w) b (singles left)) → ⊥) → Follows e n s w i b left (uncut e i b left []) []
  unfolding uncut
  end_singles i left h r p q c taken-up left_out =
      subst (λ d. Follows e n s w i b left (pick d [] (singles left)) []) (sym h)
      (follow_end e n s w i b left (singles left) r p q c (ap (λ d. text_in (singles left) ++ pick d i.kept []) h ∙ append-nil (text_in (singles left)) ∙ text_singles left) (single_singles left) taken-up left_out (made_singles e left (emptied s w) b))

  -- no call, or one
  zero_none : (xs : List Piece) → xs ≡ [] → AllZero (numbers e (emptied s w) b xs)
  unfolding numbers AllZero
  zero_none xs h = subst (λ x. AllZero (numbers e (emptied s w) b x)) (sym h) tt

  zero_one : (xs : List Piece) (x : List ℕ) (q : Taken) → xs ≡ alone x ∷ [] → outcome_of e (emptied s w) b (alone x) ≡ held ample q → AllZero (numbers e (emptied s w) b xs) ↔ (q.number ≡ 0)
  unfolding numbers AllZero
  zero_one xs x q h o =
      let k = (tally_one e (emptied s w) b (alone x) (held ample q) o).all_zero [] in
      subst (λ y. AllZero (numbers e (emptied s w) b y) ↔ (q.number ≡ 0)) (sym h) (λ z. (k.0 z).0, λ z. k.1 (z, tt))

  end_in_turn : (q : automaton.State) (f : List ℕ) → turn_at e s.phase ≡ reads → IsFront q f → Follows e n s w (keeping s q f w) b f (uncut e (keeping s q f w) b f []) []
  end_in_turn q f t h =
      let k = turn_says e s.phase in
      let c = k.going (λ z. drops_not_reads 13 (sym z ∙ t)) in
      let v = k.waits (λ z. keeps_not_reads (sym z ∙ t)) in
      let i = keeping s q f w in
      let x = singles_of f (unfinished q f) h.read refl in
      cases (eqb (length f) 0)
      (λ z. let y = x ∙ ap (λ d. pick d [] (alone f ∷ [])) z in
      end_singles i f v (subst (λ x. Runs e (emptied s w) b x 0 (emptied s w) b []) (sym y) (run_none e (emptied s w) b 0)) refl refl (λ k. rw c.1)
      (λ p t. zero_none (singles f) y) (λ o. absurd (false≢true (sym c.0 ∙ o))))
      (λ z. let y = x ∙ ap (λ d. pick d [] (alone f ∷ [])) z in
      end_singles i f v
      (subst (λ x. Runs e (emptied s w) b x 0 i b []) (sym y) (run_last f (unfinished q f) (no_more 0 i b) t h.read refl refl (omega (arith, h.short)) (λ z. omega arith) (λ z. omega arith)))
      refl refl (λ k. rw c.1)
      (λ p l. (zero_one (singles f) f (no_more 0 i b) y (last_held f (unfinished q f) (no_more 0 i b) t h.read refl refl (omega (arith, h.short)))).1 refl) (λ o. absurd (false≢true (sym c.0 ∙ o))))

  end_stopped : (left : List ℕ) → turn_at e s.phase ≡ reads → cut start [] left ≡ record { texts = []; rest = impossible n left } → (n ≡ 1) ⊎ (n ≡ 3) →
      Follows e n s w (emptied (closed s) []) b left (uncut e (emptied (closed s) []) b left []) []
  end_stopped left t h m =
      let i = emptied (closed s) [] in
      let y = singles_of left (impossible n left) h refl ∙ ap (λ d. pick d [] (alone left ∷ [])) (some left (impossible_some n left h)) in
      end_singles i left (closed_waits e)
      (subst (λ x. Runs e (emptied s w) b x n i b []) (sym y)
      (run_last left (impossible n left) (no_more n i b) t h refl refl (omega arith) (λ z. ⊎_elim (λ (k : n ≡ 1). omega arith) (λ (k : n ≡ 3). omega arith) m) (λ z. ⊎_elim (λ (k : n ≡ 1). omega arith) (λ (k : n ≡ 3). omega arith) m)))
      refl refl (λ k. refl) (λ p. absurd (false≢true (sym p)))
      (λ o l z. let none = (zero_one (singles left) left (no_more n i b) y (last_held left (impossible n left) (no_more n i b) t h refl refl (omega arith))).0 z in ⊎_elim (λ (k : n ≡ 1). omega (arith, none)) (λ (k : n ≡ 3). omega (arith, none)) m)
    where
      some : (x : List ℕ) → (x ≡ [] → ⊥) → eqb (length x) 0 ≡ false
      some [] h = absurd (h refl)
      some (y ∷ x) h = ne_eqb (length (y ∷ x)) 0 (λ z. omega arith)

  -- behind the end none is accepted
  none_accepted : turn_of e s.phase ≡ 13 → (ts : List (List ℕ)) (x : List ℕ) → (joined ts x ≡ [] → ⊥) → AllZero (numbers e (emptied s w) b (map alone ts ++ last x)) → ⊥
  unfolding joined
  none_accepted t [] [] h z = h refl
  none_accepted t [] (y ∷ x) h z =
      one (y ∷ x) (subst (λ d. AllZero (numbers e (emptied s w) b (pick d [] (alone (y ∷ x) ∷ [])))) (ne_eqb (length (y ∷ x)) 0 (λ z. omega arith)) z)
    where
      one : (x : List ℕ) → AllZero (numbers e (emptied s w) b (alone x ∷ [])) → ⊥
      one x z = let k = (((tally_one e (emptied s w) b (alone x) (untaken 13 (emptied s w) b ample) (chunk_refused e (emptied s w) b 13 x ample t refl)).all_zero []).0 z).0 in omega arith
  none_accepted t (y ∷ ts) x h z =
      let k = (((tally_one e (emptied s w) b (alone y) (untaken 13 (emptied s w) b ample) (chunk_refused e (emptied s w) b 13 y ample t refl)).all_zero (map alone ts ++ last x)).0 z).0 in omega arith

  end_over : (left : List ℕ) → turn_at e s.phase ≡ drops 13 → Follows e n s w (emptied s w) b left (uncut e (emptied s w) b left []) []
  end_over left t =
      let k = turn_says e s.phase in
      let c = cut start [] left in
      end_singles (emptied s w) left (k.waits (λ z. keeps_not_drops 13 (sym z ∙ t)))
      (run_join e (run_over e (emptied s w) b (k.ended t).1 c.texts) (λ k. k) (rest (eqb (length (bytes_of c.rest)) 0))) refl refl
      (λ k. ap (λ d. pick d 13 0) k ∙ sym (ap (λ d. pick d n 0) k))
      (λ p l. zero_none (singles left) (ap singles (l (over_ended s.phase (k.ended t).0 p)) ∙ singles_of [] (unfinished start []) none_front.read refl))
      (λ o l z. none_accepted (k.ended t).1 c.texts (bytes_of c.rest) (λ y. l (sym (cut_joined left start []) ∙ y)) z)
    where
      rest : (d : Bool) → Runs e (emptied s w) b (pick d [] (alone (bytes_of (cut start [] left).rest) ∷ [])) 13 (emptied s w) b []
      rest true = run_none e (emptied s w) b 13
      rest false = run_refused_13 e (emptied s w) b (bytes_of (cut start [] left).rest) ample ((turn_says e s.phase).ended t).1

  end_waiting : (left : List ℕ) → turn_at e s.phase ≡ keeps_back → Follows e n s w (keeping s start left w) b left (uncut e (keeping s start left w) b left []) []
  unfolding uncut AreSingle text_in
  end_waiting left t =
      let c = (turn_says e s.phase).going (λ z. keeps_not_drops 13 (sym t ∙ z)) in
      let h = turn_waits e s.phase t in
      subst (λ d. Follows e n s w (keeping s start left w) b left (pick d [] (singles left)) []) (sym h)
      (follow_end e n s w (keeping s start left w) b left [] (run_none e (emptied s w) b 0) refl refl (λ k. rw c.1) (ap (λ d. pick d left []) h) tt
      (λ p l. zero_none [] refl) (λ o. absurd (false≢true (sym c.0 ∙ o))) (made_alone e [] (emptied s w) b))

  follows_end : (i : Intake) (left : List ℕ) → At e n s w i left → Follows e n s w i b left (uncut e i b left []) []
  follows_end _ _ (in_turn q f t h) = end_in_turn q f t h
  follows_end _ _ (quiet t) =
      let k = turn_says e s.phase in
      let c = (k.going (λ z. not_13 (sym t ∙ z))).1 in
      let y = singles_of [] (unfinished start []) none_front.read refl in
      end_singles (emptied s w) [] (k.waits (λ z. keeps_not_drops 14 (sym z ∙ t)))
      (subst (λ x. Runs e (emptied s w) b x 0 (emptied s w) b []) (sym y) (run_none e (emptied s w) b 0)) refl refl (λ k. rw c)
      (λ p l. zero_none (singles []) y) (λ o l. absurd (l refl))
  follows_end _ _ (over left t) = end_over left t
  follows_end _ _ (waiting left t) = end_waiting left t
  follows_end _ _ (stopped left t h m) = end_stopped left t h m

-- ---- the stanzas that are received

-- with the bytes that are left they are the text
pub parted_joined : (ts : List (List ℕ)) (e : End) (s : Session) (b : Buffers) (r : Rest) → joined (parted e s b ts r).received (parted e s b ts r).left ≡ joined ts (bytes_of r)
unfolding parted joined
parted_joined [] e s b r = refl
parted_joined (t ∷ ts) e s b r =
    let o = outcome s b (stanza_call e s.phase t) in
    go (turn_at e s.phase) (parted e o.session o.buffers ts r) (eqb o.number 0) (parted_joined ts e o.session o.buffers r)
  where
    go : (u : Turn) (p : Parted) (d : Bool) → joined p.received p.left ≡ joined ts (bytes_of r) →
        (let q = parted_by u (t ++ joined ts (bytes_of r)) (received_more t (pick d p (record { received = []; left = joined ts (bytes_of r) }))) in joined q.received q.left ≡ t ++ joined ts (bytes_of r))
    go reads p true h = ap (λ x. t ++ x) h
    go reads p false h = refl
    go (drops n) p d h = refl
    go keeps_back p d h = refl

-- and they are whole
pub parted_whole : (ts : List (List ℕ)) (e : End) (s : Session) (b : Buffers) (r : Rest) → All IsWhole ts → All IsWhole (parted e s b ts r).received
unfolding parted All
parted_whole [] e s b r h = tt
parted_whole (t ∷ ts) e s b r h =
    let o = outcome s b (stanza_call e s.phase t) in
    go (turn_at e s.phase) (parted e o.session o.buffers ts r) (eqb o.number 0) (parted_whole ts e o.session o.buffers r h.1)
  where
    go : (u : Turn) (p : Parted) (d : Bool) → All IsWhole p.received → All IsWhole (parted_by u (t ++ joined ts (bytes_of r)) (received_more t (pick d p (record { received = []; left = joined ts (bytes_of r) })))).received
    go reads p true k = (h.0, k)
    go reads p false k = (h.0, tt)
    go (drops n) p d k = tt
    go keeps_back p d k = tt

-- ---- one call more

-- what is shown of the calls behind
abbrev Goes : List Piece → Type 0
Goes cs = (e : End) (n : ℕ) (s : Session) (w : List ℕ) (i : Intake) (b : Buffers) (left : List ℕ) → At e n s w i left → NoneHeldUp (numbers e i b cs) → Follows e n s w i b left (uncut e i b left cs) cs

pub none_behind : (e : End) (i : Intake) (b : Buffers) (c : Piece) (cs : List Piece) (o : Outcome) → outcome_of e i b c ≡ o → NoneHeldUp (numbers e i b (c ∷ cs)) →
    ((o.number ≡ 14 → ⊥) × (o.number ≡ 15 → ⊥)) × NoneHeldUp (numbers e o.intake o.buffers cs)
unfolding numbers NoneHeldUp
none_behind e i b c cs o q h = subst (λ (o : Outcome). ((o.number ≡ 14 → ⊥) × (o.number ≡ 15 → ⊥)) × NoneHeldUp (numbers e o.intake o.buffers cs)) q h

-- no call behind the end, from the second on
pub none_behind_on : (e : End) (i : Intake) (b : Buffers) (c : Piece) (cs : List Piece) (o : Outcome) → outcome_of e i b c ≡ o → NoneBehind e i b (c ∷ cs) → NoneBehind e o.intake o.buffers cs
unfolding NoneBehind
none_behind_on e i b c cs o q h = subst (λ (o : Outcome). NoneBehind e o.intake o.buffers cs) q h.1

pub closed_turn_of : (e : End) → turn_of e Closed ≡ 13
closed_turn_of client = refl
closed_turn_of plugin = refl

module _ (cs : List Piece) (go : Goes cs) (e : End) (n : ℕ) (s : Session) (w : List ℕ) (b : Buffers) where
  module _ (bytes out : List ℕ) where
    -- a chunk that is read
    chunk_read : (q : automaton.State) (f : List ℕ) → turn_of e s.phase ≡ 0 → is_over s.phase ≡ false → is_closed s.phase ≡ false → IsFront q f →
        NoneHeldUp (numbers e (keeping s q f w) b (chunk bytes out ∷ cs)) → Follows e n s w (keeping s q f w) b f (uncut e (keeping s q f w) b f (chunk bytes out ∷ cs)) (chunk bytes out ∷ cs)
    unfolding uncut text_in
    chunk_read q f t v z k h =
        let i = keeping s q f w in
        let c = chunk bytes out in
        let r = taken e i b bytes in
        let p = parted_chunk e i b bytes in
        let x = none_behind e i b c cs (judged i b out r) (chunked_read e i b bytes out t) h in
        let y = judged_not_15 i b out r x.0.1 in
        let o : outcome_of e i b c ≡ held out r = chunked_read e i b bytes out t ∙ y.0 in
        let g = none_behind e i b c cs (held out r) o h in
        let parts = cut_parts bytes q f k in
        let m = received_all (cut q f bytes).texts e s w b (cut q f bytes).rest z parts.texts parts.rest g.0.0 in
        let text = text_alone p.received p.left ∙ parted_joined (cut q f bytes).texts e s b (cut q f bytes).rest ∙ cut_joined bytes q f ∙ ap (λ x. f ++ x) (sym (append-nil bytes)) in
        let wholes = wholes_alone p.received (parted_whole (cut q f bytes).texts e s b (cut q f bytes).rest parts.texts) in
        subst (λ x. Follows e n s w i b f x (c ∷ cs))
        (sym (ap (λ d. pick d (uncut e i b (f ++ bytes) cs) (map alone p.received ++ uncut e (chunked e i b bytes out).intake (chunked e i b bytes out).buffers p.left cs)) v
        ∙ ap (λ (o : Outcome). map alone p.received ++ uncut e o.intake o.buffers p.left cs) o))
        (follow e n s w i b f (map alone p.received) (uncut e r.intake r.buffers p.left cs) cs c m.runs (run_held e i b c out r o y.1 g.0.0 g.0.1) m.at z text wholes v m.accepts (tally_one e i b c (held out r) o) m.level (none_behind_on e i b c cs (held out r) o) (made_alone e p.received (emptied s w) b)
        (go e r.number m.session m.awaited r.intake r.buffers p.left m.at g.1))

    -- one behind the end
    chunk_over : (i : Intake) (left : List ℕ) → turn_of e i.session.phase ≡ 13 → is_over i.session.phase ≡ true → At e n s w i (left ++ bytes) →
        NoneHeldUp (numbers e i b (chunk bytes out ∷ cs)) → Follows e n s w i b left (uncut e i b left (chunk bytes out ∷ cs)) (chunk bytes out ∷ cs)
    unfolding uncut text_in
    chunk_over i left t v a h =
        let g = none_behind e i b (chunk bytes out) cs (untaken 13 i b out) (chunk_refused e i b 13 bytes out t refl) h in
        subst (λ d. Follows e n s w i b left (pick d (uncut e i b (left ++ bytes) cs) (map alone (parted_chunk e i b bytes).received ++ uncut e (chunked e i b bytes out).intake (chunked e i b bytes out).buffers (parted_chunk e i b bytes).left cs)) (chunk bytes out ∷ cs))
        (sym v)
        (follow_skip e n s w i b left v (run_refused_13 e i b bytes out t) (subst (λ x. Follows e n s w i b (left ++ x) (uncut e i b (left ++ bytes) cs) cs) (sym (append-nil bytes)) (go e n s w i b (left ++ bytes) a g.1)))

    chunk_14 : (i : Intake) → turn_of e i.session.phase ≡ 14 → NoneHeldUp (numbers e i b (chunk bytes out ∷ cs)) → ⊥
    chunk_14 i t h = (none_behind e i b (chunk bytes out) cs (untaken 14 i b out) (chunk_refused e i b 14 bytes out t refl) h).0.0 refl

    follows_chunk : (i : Intake) (left : List ℕ) → At e n s w i left → NoneHeldUp (numbers e i b (chunk bytes out ∷ cs)) → Follows e n s w i b left (uncut e i b left (chunk bytes out ∷ cs)) (chunk bytes out ∷ cs)
    follows_chunk _ _ (in_turn q f t k) h =
        let c = (turn_says e s.phase).going (λ z. drops_not_reads 13 (sym z ∙ t)) in chunk_read q f (turn_reads e s.phase t) c.0 c.1 k h
    follows_chunk _ _ (quiet t) h =
        let c = (turn_says e s.phase).going (λ z. not_13 (sym t ∙ z)) in
        ⊎_elim (λ x. chunk_read start [] x c.0 c.1 none_front h) (λ x. absurd (chunk_14 (emptied s w) x h)) ((turn_says e s.phase).still t)
    follows_chunk _ _ (over left t) h = let c = (turn_says e s.phase).ended t in chunk_over (emptied s w) left c.1 c.0 (over (left ++ bytes) t) h
    follows_chunk _ _ (waiting left t) h = let k = (turn_says e s.phase).host t in absurd (chunk_14 (keeping s start left w) (ap₂ turn_of k.0 k.1.1) h)
    follows_chunk _ _ (stopped left t k m) h =
        chunk_over (emptied (closed s) []) left (closed_turn_of e) refl (stopped (left ++ bytes) t (cut_append left bytes start [] ∙ ap (λ c. cut_on c bytes) k) m) h

-- ---- a reply

-- the number of a reply that none awaits
abbrev due_number : Turn → ℕ
due_number reads = 14
due_number (drops n) = n
due_number keeps_back = 0

client_due : (p : Phase) → (turn_at client p ≡ keeps_back → ⊥) → due_in p ≡ undue (due_number (turn_at client p))
client_due One h = refl
client_due Two h = refl
client_due (Awaiting v) h = absurd (h refl)
client_due Ended h = refl
client_due Closed h = refl

module _ (i : Intake) (b : Buffers) (r : Response) (body out : List ℕ) where
  reply_undue : (u : Turn) → turn_at client i.session.phase ≡ u → (u ≡ keeps_back → ⊥) → replied i b r body out ≡ untaken (due_number u) i b out
  reply_undue u t h = ap (λ d. replied_by d i b r body out) (client_due i.session.phase (λ z. h (sym t ∙ z)) ∙ ap (λ u. undue (due_number u)) t)

  -- in phase two, or at the plugin end, 14
  reply_14 : (e : End) (u : Turn) → turn_at e i.session.phase ≡ u → (u ≡ keeps_back → ⊥) → due_number u ≡ 14 → outcome_of e i b (reply r body out) ≡ untaken 14 i b out
  reply_14 client u t h k = reply_undue u t h ∙ ap (λ n. untaken n i b out) k
  reply_14 plugin u t h k = refl

  -- behind the end 13, at the plugin end 14
  reply_13 : (e : End) → turn_at e i.session.phase ≡ drops 13 → (outcome_of e i b (reply r body out) ≡ untaken 13 i b out) ⊎ (outcome_of e i b (reply r body out) ≡ untaken 14 i b out)
  reply_13 client t = inl (reply_undue (drops 13) t (λ z. keeps_not_drops 13 (sym z)))
  reply_13 plugin t = inr refl

  -- to the command that waits
  module _ (v : WordTwo) (phase : i.session.phase ≡ Awaiting v) where
    reply_to : replied i b r body out ≡ replied_to v i b r body out
    reply_to = ap (λ p. replied_by (due_in p) i b r body out) phase

    pub reply_unfit : (n : ℕ) → number_replied v r body ≡ n → eqb n 0 ≡ false → replied i b r body out ≡ untaken n i b out
    unfolding replied_to
    reply_unfit n h z = reply_to ∙ rw (h, z)

    pub reply_fit : number_replied v r body ≡ 0 → replied i b r body out ≡ judged i b out (reply_ahead (stanza_text (response_line r) body) (taken_back i b))
    unfolding replied_to
    reply_fit h = reply_to ∙ rw h

-- the uncut list, by whether a reply is due
module _ (e : End) (i : Intake) (b : Buffers) (left : List ℕ) (r : Response) (body out : List ℕ) (cs : List Piece) where
  abbrev after_reply : Outcome → List Piece
  after_reply o =
      reply r body ample ∷ pick (is_unfit o) (uncut e o.intake o.buffers left cs) (map alone (parted_back i b).received ++ uncut e o.intake o.buffers (parted_back i b).left cs)

  uncut_undue : (o : Outcome) → outcome_of e i b (reply r body out) ≡ o → is_waiting e i.session.phase ≡ false → uncut e i b left (reply r body out ∷ cs) ≡ uncut e o.intake o.buffers left cs
  unfolding uncut
  uncut_undue o q h = ap (λ (o : Outcome). pick (is_waiting e i.session.phase) (after_reply o) (uncut e o.intake o.buffers left cs)) q ∙ rw h

  uncut_due : (o : Outcome) → outcome_of e i b (reply r body out) ≡ o → is_waiting e i.session.phase ≡ true → uncut e i b left (reply r body out ∷ cs) ≡ after_reply o
  unfolding uncut
  uncut_due o q h = ap (λ (o : Outcome). pick (is_waiting e i.session.phase) (after_reply o) (uncut e o.intake o.buffers left cs)) q ∙ rw h

-- a response that is written is no longer than 8,192 bytes
pub reply_short : (v : WordTwo) (r : Response) (body : List ℕ) → number_replied v r body ≡ 0 → length (stanza_text (response_line r) body) ≤ 8192
reply_short v r body h = leb-true (length (stanza_text (response_line r) body)) 8192 (and_true (is_line (response_line r)) _ (tests (fits_whole v r body) (is_writable (response_line r) body) h)).1
  where
    tests : (f g : Bool) → ◌≡◌ {A = ℕ} (pick f (pick g 0 17) 12) 0 → g ≡ true
    tests true true h = refl
    tests true false h = absurd (omega arith)
    tests false g h = absurd (omega arith)

pub reply_room : (v : WordTwo) (r : Response) (body : List ℕ) → number_replied v r body ≡ 0 → length (stanza_text (response_line r) body ++ []) ≤ 8192
reply_room v r body h = subst (λ x. length x ≤ 8192) (sym (append-nil (stanza_text (response_line r) body))) (reply_short v r body h)

-- a reply with nothing kept back
pub reply_alone_lem : (s : Session) (w : List ℕ) (b : Buffers) (r : Response) (body : List ℕ) (v : WordTwo) → s.phase ≡ Awaiting v → number_replied v r body ≡ 0 →
    replied (emptied s w) b r body ample ≡ held ample (reply_ahead (stanza_text (response_line r) body) (no_more 0 (emptied (answered s) []) b))
unfolding taken_all cut
reply_alone_lem s w b r body v phase h =
    let q = reply_ahead (stanza_text (response_line r) body) (no_more 0 (emptied (answered s) []) b) in
    reply_fit (emptied s w) b r body ample v phase h ∙ judged_held (emptied s w) b ample q (room_fits (stanza_text (response_line r) body ++ []) (reply_room v r body h)) (omega arith)

module _ (cs : List Piece) (go : Goes cs) (n : ℕ) (s : Session) (w : List ℕ) (b : Buffers) (r : Response) (body out : List ℕ) where
  abbrev text : List ℕ
  text = stanza_text (response_line r) body

  -- none for a reply behind the end
  reply_over : (e : End) (i : Intake) (left : List ℕ) → turn_at e i.session.phase ≡ drops 13 → At e n s w i left →
      NoneHeldUp (numbers e i b (reply r body out ∷ cs)) → Follows e n s w i b left (uncut e i b left (reply r body out ∷ cs)) (reply r body out ∷ cs)
  unfolding text_in
  reply_over e i left t a h =
      ⊎_elim
      (λ (o : outcome_of e i b (reply r body out) ≡ untaken 13 i b out).
      let g = none_behind e i b (reply r body out) cs (untaken 13 i b out) o h in
      let k = (turn_says e i.session.phase).waits (λ z. keeps_not_drops 13 (sym z ∙ t)) in
      subst (λ x. Follows e n s w i b left x (reply r body out ∷ cs)) (sym (uncut_undue e i b left r body out cs (untaken 13 i b out) o k))
      (follow_skip e n s w i b left ((turn_says e i.session.phase).ended t).0 (run_one e i b (reply r body out) (untaken 13 i b out) o (λ z. omega arith) (λ z. omega arith))
      (subst (λ x. Follows e n s w i b x (uncut e i b left cs) cs) (sym (append-nil left)) (go e n s w i b left a g.1))))
      (λ o. absurd ((none_behind e i b (reply r body out) cs (untaken 14 i b out) o h).0.0 refl))
      (reply_13 i b r body out e t)

  -- to the command that waits
  module _ (v : WordTwo) (phase : s.phase ≡ Awaiting v) (left : List ℕ) where
    abbrev i : Intake
    i = keeping s start left w

    abbrev c : Piece
    c = reply r body out

    -- the uncut list's call, where the reply is taken
    run_reply : number_replied v r body ≡ 0 → Runs client (emptied s w) b (reply r body ample ∷ []) 0 (emptied (answered s) []) b text
    run_reply h =
        let q = reply_ahead text (no_more 0 (emptied (answered s) []) b) in
        subst (Runs client (emptied s w) b (reply r body ample ∷ []) 0 (emptied (answered s) []) b) (append-nil text)
        (run_held client (emptied s w) b (reply r body ample) ample q (reply_alone_lem s w b r body v phase h) (room_fits (text ++ []) (reply_room v r body h)) (λ z. omega arith) (λ z. omega arith))

    abbrev here : is_waiting client s.phase ≡ true
    here = ap (is_waiting client) phase

    abbrev keeps : turn_at client s.phase ≡ keeps_back
    keeps = ap (turn_at client) phase

    abbrev Goal : Type 0
    Goal = Follows client n s w i b left (uncut client i b left (c ∷ cs)) (c ∷ cs)

    -- one that is not taken
    reply_untaken : (k : ℕ) → number_replied v r body ≡ k → eqb k 0 ≡ false → NoneHeldUp (numbers client i b (c ∷ cs)) → Goal
    unfolding text_in Wholes
    reply_untaken k q z h =
        let o : outcome_of client i b c ≡ untaken k i b out = reply_unfit i b r body out v phase k q z in
        let g = none_behind client i b c cs (untaken k i b out) o h in
        subst (λ x. Follows client n s w i b left x (c ∷ cs)) (sym (uncut_due client i b left r body out cs (untaken k i b out) o here))
        (follow client n s w i b left (reply r body ample ∷ []) (uncut client i b left cs) cs c
        (run_one client (emptied s w) b (reply r body ample) (untaken k (emptied s w) b ample) (reply_unfit (emptied s w) b r body ample v phase k q z) g.0.0 g.0.1)
        (run_one client i b c (untaken k i b out) o g.0.0 g.0.1) (waiting left keeps) (ap is_closed phase) (sym (append-nil left)) tt (ap is_over phase)
        (tally_one client (emptied s w) b (reply r body ample) (untaken k (emptied s w) b ample) (reply_unfit (emptied s w) b r body ample v phase k q z)) (tally_one client i b c (untaken k i b out) o)
        (both_refused (eqb-false k 0 z) (eqb-false k 0 z)) (none_behind_on client i b c cs (untaken k i b out) o) (made_reply client (emptied s w) b r body ample [] here)
        (go client k s w i b left (waiting left keeps) g.1))

    -- one that is
    reply_taken : number_replied v r body ≡ 0 → NoneHeldUp (numbers client i b (c ∷ cs)) → Goal
    unfolding text_in Wholes
    reply_taken q h =
        let m = taken_back i b in
        let d = reply_ahead text m in
        let p = parted_back i b in
        let j = reply_fit i b r body out v phase q in
        let x = none_behind client i b c cs (judged i b out d) j h in
        let y = judged_not_15 i b out d x.0.1 in
        let o : outcome_of client i b c ≡ held out d = j ∙ y.0 in
        let g = none_behind client i b c cs (held out d) o h in
        let parts = cut_parts left start [] none_front in
        let k = received_all (cut start [] left).texts client (answered s) [] b (cut start [] left).rest refl parts.texts parts.rest g.0.0 in
        let bytes = text_alone p.received p.left ∙ parted_joined (cut start [] left).texts client (answered s) b (cut start [] left).rest ∙ cut_joined left start [] ∙ sym (append-nil left) in
        let wholes = wholes_alone p.received (parted_whole (cut start [] left).texts client (answered s) b (cut start [] left).rest parts.texts) in
        let z : eqb (length (text ++ m.written)) 0 ≡ false = ne_eqb (length (text ++ m.written)) 0 (λ z. omega arith) in
        subst (λ x. Follows client n s w i b left x (c ∷ cs))
        (sym (uncut_due client i b left r body out cs (held out d) o here
        ∙ ap (λ f. reply r body ample ∷ pick f (uncut client m.intake m.buffers left cs) (map alone p.received ++ uncut client m.intake m.buffers p.left cs)) z))
        (follow client n s w i b left (reply r body ample ∷ map alone p.received) (uncut client m.intake m.buffers p.left cs) cs c
        (run_join client (run_reply q) (λ z. refl) k.runs) (run_held client i b c out d o y.1 g.0.0 g.0.1) k.at (ap is_closed phase) bytes wholes (ap is_over phase)
        (tally_join client (tally_one client (emptied s w) b (reply r body ample) (held ample (reply_ahead text (no_more 0 (emptied (answered s) []) b))) (reply_alone_lem s w b r body v phase q)) k.accepts)
        (tally_one client i b c (held out d) o) k.level (none_behind_on client i b c cs (held out d) o) (made_reply client (emptied s w) b r body ample p.received here)
        (go client m.number k.session k.awaited m.intake m.buffers p.left k.at g.1))

    reply_waiting : NoneHeldUp (numbers client i b (c ∷ cs)) → Goal
    reply_waiting h =
        cases (eqb (number_replied v r body) 0) (λ z. reply_taken (eqb-true (number_replied v r body) 0 z) h) (λ z. reply_untaken (number_replied v r body) refl z h)

  follows_reply : (e : End) (i : Intake) (left : List ℕ) → At e n s w i left → NoneHeldUp (numbers e i b (reply r body out ∷ cs)) →
      Follows e n s w i b left (uncut e i b left (reply r body out ∷ cs)) (reply r body out ∷ cs)
  follows_reply e _ _ (in_turn q f t k) h =
      absurd ((none_behind e (keeping s q f w) b (reply r body out) cs _ (reply_14 (keeping s q f w) b r body out e reads t (λ z. keeps_not_reads (sym z)) refl) h).0.0 refl)
  follows_reply e _ _ (quiet t) h =
      absurd ((none_behind e (emptied s w) b (reply r body out) cs _ (reply_14 (emptied s w) b r body out e (drops 14) t (λ z. keeps_not_drops 14 (sym z)) refl) h).0.0 refl)
  follows_reply e _ _ (over left t) h = reply_over e (emptied s w) left t (over left t) h
  follows_reply client _ _ (waiting left t) h = let k = ((turn_says client s.phase).host t).1 in reply_waiting k.0 k.1 left h
  follows_reply plugin _ _ (waiting left t) h = absurd ((none_behind plugin (keeping s start left w) b (reply r body out) cs (untaken 14 (keeping s start left w) b out) refl h).0.0 refl)
  follows_reply e _ _ (stopped left t k m) h = reply_over e (emptied (closed s) []) left (closed_turn e) (stopped left t k m) h

-- the calls of the uncut list follow those of the cut one
pub follows : (cs : List Piece) → Goes cs
follows [] e n s w i b left a h = follows_end e n s w b i left a
follows (chunk bytes out ∷ cs) e n s w i b left a h = follows_chunk cs (follows cs) e n s w b bytes out i left a h
follows (reply r body out ∷ cs) e n s w i b left a h = follows_reply cs (follows cs) n s w b r body out e i left a h

-- ---- the theorem

-- both lists begin at the same place
at_start : (e : End) (s : Session) (w : List ℕ) (u : Turn) → turn_at e s.phase ≡ u → At e 0 s w (emptied s w) []
at_start e s w reads t = in_turn start [] t none_front
at_start e s w (drops n) t = ⊎_elim (λ (z : n ≡ 13). over [] (t ∙ ap drops z)) (λ (z : n ≡ 14). quiet (t ∙ ap drops z)) (turn_drops e s.phase n t)
at_start e s w keeps_back t = waiting [] t

-- a list of chunks and replies from a session that is not closed, of which no call is refused with 14 or 15, comes to what its uncut list comes to
pub cut_theorem : (e : End) (s : Session) (b : Buffers) (cs : List Piece) → is_closed s.phase ≡ false → NoneHeldUp (numbers e (emptied s []) b cs) → SameRun e s b (uncut e (emptied s []) b [] cs) cs
cut_theorem e s b cs c h =
    let f = follows cs e 0 s [] (emptied s []) b [] (at_start e s [] (turn_at e s.phase) refl) h in
    record {
      none_held_up = f.none_held_up;
      same_output = f.same_output;
      same_session = f.same_session;
      same_buffers = f.same_buffers;
      same_awaited = f.same_awaited;
      same_closing = f.same_closing c ∙ ap (λ d. pick d 0 (closing e (emptied s []) b cs)) c;
    }

-- both are accepted or both refused, where no call is made behind the end
pub cut_accepted : (e : End) (s : Session) (b : Buffers) (cs : List Piece) → is_closed s.phase ≡ false → NoneHeldUp (numbers e (emptied s []) b cs) → NoneBehind e (emptied s []) b cs →
    AllZero (numbers e (emptied s []) b (uncut e (emptied s []) b [] cs)) ↔ AllZero (numbers e (emptied s []) b cs)
cut_accepted e s b cs c h k = (follows cs e 0 s [] (emptied s []) b [] (at_start e s [] (turn_at e s.phase) refl) h).accepted_as c (λ z. refl) k

-- and its uncut list has each stanza of its text in a chunk of its own
pub uncut_theorem : (e : End) (s : Session) (b : Buffers) (cs : List Piece) → NoneHeldUp (numbers e (emptied s []) b cs) → IsUncut e s b (uncut e (emptied s []) b [] cs) cs
uncut_theorem e s b cs h = let f = follows cs e 0 s [] (emptied s []) b [] (at_start e s [] (turn_at e s.phase) refl) h in record { same_text = f.same_text; single = f.single; same_replies = f.same_replies; replies_due = f.replies_due }
