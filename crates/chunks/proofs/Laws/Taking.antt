-- Stanzas that one call takes are taken by a call for each: each call gets the session and buffers that the one before left, and room for what one stanza writes.
use Prim.Native.Nat.{ℕ, ◌≤◌}
use mathlib.Core.Path.{◌≡◌, refl, sym, ap, ap₂, subst, ◌∙◌}
use mathlib.Core.Bool.{Bool, true, false, false≢true}
use mathlib.Core.Logic.{◌⊎◌, inl, inr, ⊎_elim}
use mathlib.Core.List.{List, [], ◌∷◌, ◌++◌, map, append-nil}
use lib.Dec.{eqb}
use lib.ListN.{length}
use native.Mathlib.Omega.{arith}
use borrow.Author.Tests.{eqb-true, eqb-false, ne_eqb}
use Rattle.refusal.specs.Pick.{pick}
use Rattle.stanza.specs.Automaton.{State, start}
use Rattle.session.specs.Session.{Session, closed}
use Rattle.session.specs.Phases.{closes}
use Rattle.session.specs.declared.words.WordTwo.{WordTwo}
use Rattle.session.specs.declared.phases.Phase.{Phase}
use Rattle.session.specs.declared.phases.Phase.TheVariants.{One, Two, Awaiting, Ended, Closed}
use Rattle.conversation.specs.Calls.{Call, Outcome, outcome, written_by}
use Rattle.conversation.specs.Kinds.{Buffers}
use Rattle.conversation.specs.Phases.{All}
use Rattle.chunks.specs.Cutting.{Rest, unfinished, impossible, bytes_of, cut}
use Rattle.chunks.specs.Taking.{End, client, plugin, Turn, reads, drops, keeps_back, turn_at, ample, stanza_call, awaited_behind, Intake, Taken, no_more, emptied, keeping, one_more, taken_rest, joined, taken_by, taken_all, last_in}
use Rattle.chunks.specs.Chunks.{judged, taken, turn_of, chunked}
use Rattle.chunks.specs.Uncut.{chunk, outcome_of, is_closed, Parted, received_more, parted_by, parted, alone, is_over, is_waiting, is_ended}
use Rattle.chunks.specs.Reached.{IsFront}
use Rattle.chunks.proofs.Laws.Cutting.{IsWhole, IsRest}
use Rattle.chunks.proofs.Laws.Cases.{drops_not_reads, keeps_not_reads, keeps_not_drops, held}
use Rattle.chunks.proofs.Laws.Numbers.{room_size}
use Rattle.chunks.proofs.Laws.Stanzas.{stepped}
use Rattle.chunks.proofs.Laws.Runs.{Runs, run_none, run_join, Tally, tally_none, tally_one, tally_join, judged_held, run_held}

-- ---- whose turn it is

-- in its turn a chunk is read
pub turn_reads : (e : End) (p : Phase) → turn_at e p ≡ reads → turn_of e p ≡ 0
turn_reads client One h = absurd (drops_not_reads 14 h)
turn_reads client Two h = refl
turn_reads client (Awaiting v) h = absurd (keeps_not_reads h)
turn_reads client Ended h = absurd (drops_not_reads 13 h)
turn_reads client Closed h = absurd (drops_not_reads 13 h)
turn_reads plugin One h = refl
turn_reads plugin Two h = refl
turn_reads plugin (Awaiting v) h = refl
turn_reads plugin Ended h = absurd (drops_not_reads 13 h)
turn_reads plugin Closed h = absurd (drops_not_reads 13 h)

abbrev number_of_turn : Turn → ℕ
number_of_turn reads = 0
number_of_turn (drops n) = n
number_of_turn keeps_back = 0

-- bytes are dropped with 13 or 14
pub turn_drops : (e : End) (p : Phase) (n : ℕ) → turn_at e p ≡ drops n → (n ≡ 13) ⊎ (n ≡ 14)
turn_drops client One n h = inr (sym (ap number_of_turn h))
turn_drops client Two n h = absurd (drops_not_reads n (sym h))
turn_drops client (Awaiting v) n h = let z : ◌≡◌ {A = ℕ} 0 1 = cc in absurd (omega arith)
turn_drops client Ended n h = inl (sym (ap number_of_turn h))
turn_drops client Closed n h = inl (sym (ap number_of_turn h))
turn_drops plugin One n h = absurd (drops_not_reads n (sym h))
turn_drops plugin Two n h = inr (sym (ap number_of_turn h))
turn_drops plugin (Awaiting v) n h = absurd (drops_not_reads n (sym h))
turn_drops plugin Ended n h = inl (sym (ap number_of_turn h))
turn_drops plugin Closed n h = inl (sym (ap number_of_turn h))

-- behind a closed session's end
pub closed_turn : (e : End) → turn_at e Closed ≡ drops 13
closed_turn client = refl
closed_turn plugin = refl

-- a number that closes is neither 14 nor 15
pub closes_not : (n k : ℕ) → closes k ≡ false → closes n ≡ true → n ≡ k → ⊥
closes_not n k f h e = false≢true (sym f ∙ ap closes (sym e) ∙ h)

-- what a turn says of the phase
pub record TurnSays (e : End) (p : Phase) (u : Turn) : Type 0 where
  pub going : (u ≡ drops 13 → ⊥) → (is_over p ≡ false) × (is_closed p ≡ false)
  pub ended : u ≡ drops 13 → (is_over p ≡ true) × (turn_of e p ≡ 13)
  pub waits : (u ≡ keeps_back → ⊥) → is_waiting e p ≡ false
  pub host : u ≡ keeps_back → (e ≡ client) × ((v : WordTwo) × (p ≡ Awaiting v))
  pub still : u ≡ drops 14 → (turn_of e p ≡ 0) ⊎ (turn_of e p ≡ 14)

pub not_13 : ◌≡◌ {A = Turn} (drops 14) (drops 13) → ⊥
not_13 h = let z : ◌≡◌ {A = ℕ} 14 13 = cc in omega arith

-- by the end and the phase
says_reads : (e : End) (p : Phase) → is_over p ≡ false → is_closed p ≡ false → is_waiting e p ≡ false → TurnSays e p reads
says_reads e p o c w = record {
  going = λ h. (o, c);
  ended = λ h. absurd (drops_not_reads 13 (sym h));
  waits = λ h. w;
  host = λ h. absurd (keeps_not_reads (sym h));
  still = λ h. absurd (drops_not_reads 14 (sym h));
}

says_14 : (e : End) (p : Phase) → is_over p ≡ false → is_closed p ≡ false → is_waiting e p ≡ false → (turn_of e p ≡ 0) ⊎ (turn_of e p ≡ 14) → TurnSays e p (drops 14)
says_14 e p o c w t = record {
  going = λ h. (o, c);
  ended = λ h. absurd (not_13 h);
  waits = λ h. w;
  host = λ h. absurd (keeps_not_drops 14 (sym h));
  still = λ h. t;
}

says_13 : (e : End) (p : Phase) → is_over p ≡ true → is_waiting e p ≡ false → turn_of e p ≡ 13 → TurnSays e p (drops 13)
says_13 e p o w t = record {
  going = λ h. absurd (h refl);
  ended = λ h. (o, t);
  waits = λ h. w;
  host = λ h. absurd (keeps_not_drops 13 (sym h));
  still = λ h. absurd (not_13 (sym h));
}

pub turn_says : (e : End) (p : Phase) → TurnSays e p (turn_at e p)
turn_says client One = says_14 client One refl refl refl (inr refl)
turn_says client Two = says_reads client Two refl refl refl
turn_says client (Awaiting v) = record {
  going = λ h. (refl, refl);
  ended = λ h. absurd (keeps_not_drops 13 h);
  waits = λ h. absurd (h refl);
  host = λ h. (refl, (v, refl));
  still = λ h. absurd (keeps_not_drops 14 h);
}
turn_says client Ended = says_13 client Ended refl refl refl
turn_says client Closed = says_13 client Closed refl refl refl
turn_says plugin One = says_reads plugin One refl refl refl
turn_says plugin Two = says_14 plugin Two refl refl refl (inl refl)
turn_says plugin (Awaiting v) = says_reads plugin (Awaiting v) refl refl refl
turn_says plugin Ended = says_13 plugin Ended refl refl refl
turn_says plugin Closed = says_13 plugin Closed refl refl refl

pub turn_waits : (e : End) (p : Phase) → turn_at e p ≡ keeps_back → is_waiting e p ≡ true
turn_waits e p h = let k = (turn_says e p).host h in ap₂ is_waiting k.0 k.1.1

pub closed_waits : (e : End) → is_waiting e Closed ≡ false
closed_waits client = refl
closed_waits plugin = refl

-- ---- a chunk that is read

module _ (e : End) (i : Intake) (b : Buffers) (bytes out : List ℕ) where
  pub chunked_read : turn_of e i.session.phase ≡ 0 → chunked e i b bytes out ≡ judged i b out (taken e i b bytes)
  unfolding chunked
  chunked_read h = rw h

  pub chunk_held : (r : Taken) → turn_of e i.session.phase ≡ 0 → taken e i b bytes ≡ r → length r.written ≤ length out → length r.intake.kept ≤ 8192 → outcome_of e i b (chunk bytes out) ≡ held out r
  chunk_held r h q l k = chunked_read h ∙ ap (judged i b out) q ∙ judged_held i b out r l k

pub room_fits : (x : List ℕ) → length x ≤ 8192 → length x ≤ length ample
room_fits x h = subst (λ k. length x ≤ k) (sym room_size) h

-- nothing is left
rest_none : (u : Turn) (s : Session) (b : Buffers) (w : List ℕ) → taken_rest u s b w (unfinished start []) ≡ no_more 0 (emptied s w) b
rest_none reads s b w = refl
rest_none (drops n) s b w = refl
rest_none keeps_back s b w = refl

-- ---- a stanza in a chunk of its own

module _ (e : End) (s : Session) (w : List ℕ) (b : Buffers) (t : List ℕ) (whole : IsWhole t) (turn : turn_at e s.phase ≡ reads) where
  abbrev call : Call
  call = stanza_call e s.phase t

  abbrev behind : List ℕ
  behind = awaited_behind e (outcome s b call).session.phase t

  abbrev pub one_alone : Taken
  one_alone = one_more (last_in (outcome s b call).given) (written_by s b call) (no_more 0 (emptied (outcome s b call).session behind) (outcome s b call).buffers)

  abbrev pub refused_one : Taken
  refused_one = no_more (outcome s b call).number (emptied (outcome s b call).session []) b

  taken_alone : taken e (emptied s w) b t ≡ pick (eqb (outcome s b call).number 0) one_alone refused_one
  unfolding taken_all joined
  taken_alone =
      ap (λ c. taken_all e s b w c.texts c.rest) whole.alone
      ∙ ap (λ u. taken_by u s b w (t ++ []) (pick (eqb (outcome s b call).number 0) (one_more (last_in (outcome s b call).given) (written_by s b call) (taken_rest (turn_at e (outcome s b call).session.phase) (outcome s b call).session (outcome s b call).buffers behind (unfinished start []))) refused_one)) turn
      ∙ ap (λ r. pick (eqb (outcome s b call).number 0) (one_more (last_in (outcome s b call).given) (written_by s b call) r) refused_one) (rest_none (turn_at e (outcome s b call).session.phase) (outcome s b call).session (outcome s b call).buffers behind)

  -- its call
  alone_is : (r : Taken) → pick (eqb (outcome s b call).number 0) one_alone refused_one ≡ r → length r.written ≤ 8192 → r.intake.kept ≡ [] → outcome_of e (emptied s w) b (alone t) ≡ held ample r
  alone_is r q l k =
      chunked_read e (emptied s w) b t ample (turn_reads e s.phase turn) ∙ ap (judged (emptied s w) b ample) (taken_alone ∙ q)
      ∙ judged_held (emptied s w) b ample r (room_fits r.written l) (subst (λ x. length x ≤ 8192) (sym k) (omega arith))

  one_short : (outcome s b call).number ≡ 0 → length one_alone.written ≤ 8192
  one_short h = subst (λ x. length x ≤ 8192) (sym (append-nil (written_by s b call))) ((stepped s b t whole e turn).stands h).short

  pub alone_fits : (outcome s b call).number ≡ 0 → length one_alone.written ≤ length ample
  alone_fits h = room_fits one_alone.written (one_short h)

  pub alone_accepted : (outcome s b call).number ≡ 0 → outcome_of e (emptied s w) b (alone t) ≡ held ample one_alone
  alone_accepted h = alone_is one_alone (ap (λ k. pick (eqb k 0) one_alone refused_one) h) (one_short h) refl

  pub run_accepted : (outcome s b call).number ≡ 0 → Runs e (emptied s w) b (alone t ∷ []) 0 (emptied (outcome s b call).session behind) (outcome s b call).buffers (written_by s b call)
  run_accepted h =
      subst (Runs e (emptied s w) b (alone t ∷ []) 0 (emptied (outcome s b call).session behind) (outcome s b call).buffers) (append-nil (written_by s b call))
      (run_held e (emptied s w) b (alone t) ample one_alone (alone_accepted h) (alone_fits h) (λ z. omega arith) (λ z. omega arith))

  pub alone_refused : ((outcome s b call).number ≡ 0 → ⊥) → outcome_of e (emptied s w) b (alone t) ≡ held ample refused_one
  alone_refused h = alone_is refused_one (ap (λ f. pick f one_alone refused_one) (ne_eqb (outcome s b call).number 0 h)) (omega arith) refl

  pub run_refused : ((outcome s b call).number ≡ 0 → ⊥) → Runs e (emptied s w) b (alone t ∷ []) (outcome s b call).number (emptied (outcome s b call).session []) b []
  run_refused h =
      let n = (stepped s b t whole e turn).number in
      run_held e (emptied s w) b (alone t) ample refused_one (alone_refused h) (room_fits [] (omega arith))
      (closes_not (outcome s b call).number 14 refl n) (closes_not (outcome s b call).number 15 refl n)

-- ---- where the two stand

-- a call for each stanza stands at a session and the text that waits, with no byte kept, where the calls of the cut list stand at an intake; `left` is what was not
-- received. The last is a rest that no stanza begins with: the cut list is closed by n, the other still has to receive it
pub data At (e : End) (n : ℕ) (s : Session) (w : List ℕ) : Intake → List ℕ → Type 0 where
  in_turn : (q : State) (f : List ℕ) → turn_at e s.phase ≡ reads → IsFront q f → At e n s w (keeping s q f w) f
  quiet : turn_at e s.phase ≡ drops 14 → At e n s w (emptied s w) []
  over : (left : List ℕ) → turn_at e s.phase ≡ drops 13 → At e n s w (emptied s w) left
  waiting : (left : List ℕ) → turn_at e s.phase ≡ keeps_back → At e n s w (keeping s start left w) left
  stopped : (left : List ℕ) → turn_at e s.phase ≡ reads → cut start [] left ≡ record { texts = []; rest = impossible n left } → (n ≡ 1) ⊎ (n ≡ 3) → At e n s w (emptied (closed s) []) left

-- whether both lists were accepted as far as they stand: u is 0 where the uncut one was, c is 0 where the last call of the cut one was. Where that call was refused and
-- the uncut list was not, bytes are left that it still has to receive, too late
pub data Level (i : Intake) (left : List ℕ) (u c : ℕ) : Type 0 where
  even : u ≡ 0 → c ≡ 0 → is_closed i.session.phase ≡ false → (is_ended i.session.phase ≡ true → left ≡ []) → Level i left u c
  both_refused : (u ≡ 0 → ⊥) → (c ≡ 0 → ⊥) → Level i left u c
  late : (c ≡ 0 → ⊥) → is_over i.session.phase ≡ true → (left ≡ [] → ⊥) → Level i left u c

-- the stanzas of one call, received by a call for each
pub record Received (e : End) (s : Session) (w : List ℕ) (b : Buffers) (r : Taken) (p : Parted) : Type 0 where
  pub session : Session
  pub awaited : List ℕ
  pub runs : Runs e (emptied s w) b (map alone p.received) r.number (emptied session awaited) r.buffers r.written
  pub at : At e r.number session awaited r.intake p.left
  pub fault : ℕ
  pub accepts : Tally e (emptied s w) b (map alone p.received) fault (emptied session awaited) r.buffers
  pub level : Level r.intake p.left fault r.number

-- a session that is not over has not ended, and one that has not ended and is not closed is not over
pub going_not_ended : (p : Phase) → is_over p ≡ false → is_ended p ≡ true → ⊥
going_not_ended One h k = false≢true k
going_not_ended Two h k = false≢true k
going_not_ended (Awaiting v) h k = false≢true k
going_not_ended Ended h k = false≢true (sym h)
going_not_ended Closed h k = false≢true k

pub over_ended : (p : Phase) → is_over p ≡ true → is_closed p ≡ false → is_ended p ≡ true
over_ended One h k = absurd (false≢true h)
over_ended Two h k = absurd (false≢true h)
over_ended (Awaiting v) h k = absurd (false≢true h)
over_ended Ended h k = refl
over_ended Closed h k = absurd (false≢true (sym k))

-- bytes that are no stanza, and a stanza, are not empty
pub impossible_some : (n : ℕ) (x : List ℕ) → cut start [] x ≡ record { texts = []; rest = impossible n x } → x ≡ [] → ⊥
unfolding cut
impossible_some n [] h k = let q : unfinished start [] ≡ impossible n [] = ap (λ c. c.rest) h in let z : ◌≡◌ {A = ℕ} 0 1 = cc in omega arith
impossible_some n (y ∷ x) h k = let z : ◌≡◌ {A = ℕ} 0 1 = cc in omega arith

pub whole_some : (t x : List ℕ) → IsWhole t → t ++ x ≡ [] → ⊥
unfolding cut
whole_some [] x w k = let q : ◌≡◌ {A = List (List ℕ)} [] ([] ∷ []) = ap (λ c. c.texts) w.alone in let z : ◌≡◌ {A = ℕ} 0 1 = cc in omega arith
whole_some (y ∷ t) x w k = let z : ◌≡◌ {A = ℕ} 0 1 = cc in omega arith

no_bytes : (x : List ℕ) → eqb (length x) 0 ≡ true → x ≡ []
no_bytes [] h = refl
no_bytes (b ∷ x) h = absurd (omega (arith, eqb-true (length (b ∷ x)) 0 h))

module _ (e : End) (s : Session) (w : List ℕ) (b : Buffers) where
  abbrev unread : List ℕ → Parted
  unread bytes = record { received = []; left = bytes }

  -- none is received
  received_none : (n : ℕ) (i : Intake) (left : List ℕ) → At e n s w i left → Level i left 0 n → Received e s w b (no_more n i b) (unread left)
  received_none n i left a l = record { session = s; awaited = w; runs = run_none e (emptied s w) b n; at = a; fault = 0; accepts = tally_none e (emptied s w) b; level = l }

  received_dropped : (n : ℕ) (left : List ℕ) → turn_at e s.phase ≡ drops n → (n ≡ 14 → ⊥) → (left ≡ [] → ⊥) → Received e s w b (no_more n (emptied s w) b) (unread left)
  received_dropped n left h f some =
      ⊎_elim (λ (z : n ≡ 13). received_none n (emptied s w) left (over left (h ∙ ap drops z)) (late (λ k. omega arith) ((turn_says e s.phase).ended (h ∙ ap drops z)).0 some)) (λ z. absurd (f z)) (turn_drops e s.phase n h)

  -- in its turn, or waiting, the session has not ended
  going_level : (i : Intake) (left : List ℕ) → i.session ≡ s → (turn_at e s.phase ≡ drops 13 → ⊥) → Level i left 0 0
  going_level i left q h =
      let k = (turn_says e s.phase).going h in
      even refl refl (ap (λ (s : Session). is_closed s.phase) q ∙ k.1) (λ z. absurd (going_not_ended s.phase k.0 (sym (ap (λ (s : Session). is_ended s.phase) q) ∙ z)))

  -- what stands behind the stanzas
  received_rest : is_closed s.phase ≡ false → (r : Rest) → IsRest r → (u : Turn) → turn_at e s.phase ≡ u → ((taken_rest u s b w r).number ≡ 14 → ⊥) → Received e s w b (taken_rest u s b w r) (unread (bytes_of r))
  received_rest going (unfinished q f) k reads h g = received_none 0 (keeping s q f w) f (in_turn q f h k) (going_level (keeping s q f w) f refl (λ z. drops_not_reads 13 (sym z ∙ h)))
  received_rest going (impossible n x) k reads h g =
      received_none n (emptied (closed s) []) x (stopped x h k.0 k.1) (late (λ z. ⊎_elim (λ (m : n ≡ 1). omega arith) (λ (m : n ≡ 3). omega arith) k.1) refl (impossible_some n x k.0))
  received_rest going r k (drops n) h g = left (eqb (length (bytes_of r)) 0) refl g
    where
      left : (d : Bool) → eqb (length (bytes_of r)) 0 ≡ d → ((pick d (no_more 0 (emptied s w) b) (no_more n (emptied s w) b)).number ≡ 14 → ⊥) →
          Received e s w b (pick d (no_more 0 (emptied s w) b) (no_more n (emptied s w) b)) (unread (bytes_of r))
      left true d g =
          let l : Level (emptied s w) (bytes_of r) 0 0 = even refl refl going (λ z. no_bytes (bytes_of r) d) in
          ⊎_elim (λ (z : n ≡ 13). received_none 0 (emptied s w) (bytes_of r) (over (bytes_of r) (h ∙ ap drops z)) l)
          (λ (z : n ≡ 14). received_none 0 (emptied s w) (bytes_of r) (subst (At e 0 s w (emptied s w)) (sym (no_bytes (bytes_of r) d)) (quiet (h ∙ ap drops z))) l) (turn_drops e s.phase n h)
      left false d g = received_dropped n (bytes_of r) h g (λ z. eqb-false (length (bytes_of r)) 0 d (ap length z))
  received_rest going r k keeps_back h g =
      received_none 0 (keeping s start (bytes_of r) w) (bytes_of r) (waiting (bytes_of r) h) (going_level (keeping s start (bytes_of r) w) (bytes_of r) refl (λ z. keeps_not_drops 13 (sym h ∙ z)))

-- one stanza more ahead
module _ (e : End) (s : Session) (w : List ℕ) (b : Buffers) (t : List ℕ) (whole : IsWhole t) (turn : turn_at e s.phase ≡ reads) where
  abbrev o_session : Session
  o_session = (outcome s b (stanza_call e s.phase t)).session

  received_more_lem : (outcome s b (stanza_call e s.phase t)).number ≡ 0 → (r : Taken) (p : Parted) →
      Received e o_session (awaited_behind e o_session.phase t) (outcome s b (stanza_call e s.phase t)).buffers r p →
      Received e s w b (one_more (last_in (outcome s b (stanza_call e s.phase t)).given) (written_by s b (stanza_call e s.phase t)) r) (received_more t p)
  received_more_lem h r p k = record {
    session = k.session;
    awaited = k.awaited;
    runs = run_join e (run_accepted e s w b t whole turn h) (λ k. ((stepped s b t whole e turn).stands h).going) k.runs;
    at = k.at;
    fault = k.fault;
    accepts = tally_join e (tally_one e (emptied s w) b (alone t) (held ample (one_alone e s w b t whole turn)) (alone_accepted e s w b t whole turn h)) k.accepts;
    level = k.level;
  }

  received_refused : ((outcome s b (stanza_call e s.phase t)).number ≡ 0 → ⊥) → (left : List ℕ) →
      Received e s w b (no_more (outcome s b (stanza_call e s.phase t)).number (emptied o_session []) b) (record { received = t ∷ []; left = left })
  received_refused h left = record {
    session = o_session;
    awaited = [];
    runs = run_refused e s w b t whole turn h;
    at = over left (ap (λ x. turn_at e x.phase) ((stepped s b t whole e turn).closing h).session ∙ closed_turn e);
    fault = (outcome s b (stanza_call e s.phase t)).number;
    accepts = tally_one e (emptied s w) b (alone t) (held ample (refused_one e s w b t whole turn)) (alone_refused e s w b t whole turn h);
    level = both_refused h h;
  }

-- the stanzas of one call are received by a call for each
pub received_all : (ts : List (List ℕ)) (e : End) (s : Session) (w : List ℕ) (b : Buffers) (r : Rest) → is_closed s.phase ≡ false → All IsWhole ts → IsRest r → ((taken_all e s b w ts r).number ≡ 14 → ⊥) →
    Received e s w b (taken_all e s b w ts r) (parted e s b ts r)
unfolding taken_all parted All
received_all [] e s w b r going k l g = received_rest e s w b going r l (turn_at e s.phase) refl g
received_all (t ∷ ts) e s w b r going k l g =
    let o = outcome s b (stanza_call e s.phase t) in
    go (λ v. received_all ts e o.session (awaited_behind e o.session.phase t) o.buffers r v k.1 l) (turn_at e s.phase) refl g
  where
    o : Outcome
    o = outcome s b (stanza_call e s.phase t)

    bytes : List ℕ
    bytes = t ++ joined ts (bytes_of r)

    more : Taken
    more = taken_all e o.session o.buffers (awaited_behind e o.session.phase t) ts r

    several : Bool → Taken
    several d = pick d (one_more (last_in o.given) (written_by s b (stanza_call e s.phase t)) more) (no_more o.number (emptied o.session []) b)

    parts : Bool → Parted
    parts d = received_more t (pick d (parted e o.session o.buffers ts r) (record { received = []; left = joined ts (bytes_of r) }))

    Behind : Type 0
    Behind = is_closed o.session.phase ≡ false → (more.number ≡ 14 → ⊥) → Received e o.session (awaited_behind e o.session.phase t) o.buffers more (parted e o.session o.buffers ts r)

    read : Behind → (d : Bool) → eqb o.number 0 ≡ d → turn_at e s.phase ≡ reads → ((several d).number ≡ 14 → ⊥) → Received e s w b (several d) (parts d)
    read f true d h g = received_more_lem e s w b t k.0 h (eqb-true o.number 0 d) more (parted e o.session o.buffers ts r) (f ((stepped s b t k.0 e h).stands (eqb-true o.number 0 d)).going g)
    read f false d h g = received_refused e s w b t k.0 h (eqb-false o.number 0 d) (joined ts (bytes_of r))

    go : Behind → (u : Turn) → turn_at e s.phase ≡ u → ((taken_by u s b w bytes (several (eqb o.number 0))).number ≡ 14 → ⊥) →
        Received e s w b (taken_by u s b w bytes (several (eqb o.number 0))) (parted_by u bytes (parts (eqb o.number 0)))
    go f reads h g = read f (eqb o.number 0) refl h g
    go f (drops n) h g = received_dropped e s w b n bytes h g (whole_some t (joined ts (bytes_of r)) k.0)
    go f keeps_back h g = received_none e s w b 0 (keeping s start bytes w) bytes (waiting bytes h) (going_level e s w b (keeping s start bytes w) bytes refl (λ z. keeps_not_drops 13 (sym h ∙ z)))
