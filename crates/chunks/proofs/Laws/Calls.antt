-- A list of chunks and replies comes to a list of calls of one stanza, since each call of its uncut list is one: so what holds of those holds of chunks.
use Prim.Native.Nat.{ℕ}
use mathlib.Core.Path.{◌≡◌, refl, sym, ap, ap₂, subst, ◌∙◌}
use mathlib.Core.Bool.{Bool, true, false, false≢true}
use mathlib.Core.Logic.{◌⊎◌, inl, inr, ⊎_elim}
use mathlib.Core.List.{List, [], ◌∷◌, ◌++◌}
use lib.Dec.{eqb}
use lib.ListN.{length, take}
use native.Mathlib.Omega.{arith}
use Rattle.refusal.specs.Output.{filled}
use Rattle.refusal.specs.Pick.{pick}
use Rattle.refusal.specs.Verdict.{first_of}
use Rattle.stanza.specs.Automaton as automaton
use Rattle.stanza.specs.Automaton.{start}
use Rattle.stanza.specs.Reading.{Reading, stanza, refused, read_first}
use Rattle.responses.specs.Responses.{response_of}
use Rattle.session.specs.declared.words.WordTwo.{WordTwo}
use Rattle.session.specs.declared.phases.Phase.{Phase}
use Rattle.session.specs.declared.phases.Phase.TheVariants.{One, Two, Awaiting, Ended, Closed}
use Rattle.session.specs.Phases.{closes}
use Rattle.session.specs.Session.{Session, closed, opened}
use Rattle.phase_one.specs.Turns.{turn_one}
use Rattle.conversation.specs.Calls as one_call
use Rattle.conversation.specs.Calls.{Call, receive_two, respond, outcome, written_by, session_after, accepted_rows}
use Rattle.conversation.specs.Answers.{events, Paired}
use Rattle.conversation.specs.Kinds.{AnyKind, Buffers, view_of}
use Rattle.conversation.specs.Phases.{line_in, body_in, All, Whole}
use Rattle.conversation.specs.Sending.{shortness}
use Rattle.conversation.specs.TurnsTwo.{turn_two, due_in}
use Rattle.conversation.proofs.Laws.NumberParts.{as_read, by_due, unfitness, at_once_text, decided_one, decided_two, given_receive, given_receive_two, given_respond}
use Rattle.conversation.proofs.Laws.Answers.{answers}
use Rattle.conversation.proofs.Laws.Reached.{ReachedSession}
use Rattle.conversation.proofs.Laws.Refusals.{either, refusal}
use Rattle.conversation.proofs.Laws.Runs.{after_append}
use Rattle.conversation.proofs.Laws.Tables.{tables_after, tables_opened}
use Rattle.chunks.specs.Cutting.{Rest, unfinished, impossible, bytes_of, Cut, cut}
use Rattle.chunks.specs.Taking.{End, client, plugin, Turn, reads, drops, keeps_back, turn_at, ample, stanza_call, Intake, Taken, no_more, emptied, keeping, joined, taken_rest, taken_all}
use Rattle.chunks.specs.Chunks.{Outcome, turn_of, chunked}
use Rattle.chunks.specs.Uncut as pieces
use Rattle.chunks.specs.Uncut.{Piece, chunk, reply, outcome_of, is_closed, NoneHeldUp, alone, uncut, AreSingle}
use Rattle.chunks.specs.Calls.{call_of, calls_of, calls_for, AsCalls}
use Rattle.chunks.proofs.Laws.Cases.{drops_not_reads, keeps_not_reads, stanza_cases, held, chunk_cases}
use Rattle.chunks.proofs.Laws.Cutting.{IsWhole, IsRest, cut_parts, none_front}
use Rattle.chunks.proofs.Laws.Cut.{last_held, cut_theorem, uncut_theorem}
use Rattle.chunks.proofs.Laws.Reading.{cut_stanza, cut_fault, cut_unfinished, cut_overlong}
use Rattle.chunks.proofs.Laws.Short.{read_number}
use Rattle.chunks.proofs.Laws.Taking.{turn_waits}
use Rattle.chunks.proofs.Laws.Finish.{turn_not_waiting}
use Rattle.chunks.proofs.Laws.Singles.{Alike, chunk_single, reply_single}
use Rattle.chunks.proofs.Laws.Stanzas.{whole_read}

-- a call on chunks does what a call of one stanza does
pub record Does (x : one_call.Outcome) (o : Outcome) : Type 0 where
  pub session : o.intake.session ≡ x.session
  pub buffers : o.buffers ≡ x.buffers
  pub written : take o.size o.output ≡ take x.size x.output

-- .. and keeps no byte
record Goes (x : one_call.Outcome) (o : Outcome) : Type 0 where
  does : Does x o
  empty : o.intake ≡ emptied o.intake.session o.intake.awaited

alike_goes : (x : one_call.Outcome) (o : Outcome) → Alike x o → Goes x o
alike_goes x o a = record {
  does = record { session = ap (λ (i : Intake). i.session) a.intake; buffers = a.buffers; written = a.written };
  empty = a.intake ∙ ap (λ s. emptied s o.intake.awaited) (sym (ap (λ (i : Intake). i.session) a.intake));
}

-- ---- out of turn both leave everything as it was

abbrev Leaves : Session → Buffers → Call → Type 0
Leaves s b c = ((outcome s b c).session ≡ s) × ((outcome s b c).buffers ≡ b) × (written_by s b c ≡ [])

-- a refused stanza, by its number
refused_leaves : (e : End) (p : Phase) (s : Session) (b : Buffers) (t : List ℕ) (n : ℕ) → (outcome s b (stanza_call e p t)).number ≡ n → (n ≡ 0 → ⊥) →
    ((outcome s b (stanza_call e p t)).session ≡ pick (closes n) (closed s) s) × ((outcome s b (stanza_call e p t)).buffers ≡ b) × (written_by s b (stanza_call e p t) ≡ [])
refused_leaves e p s b t n q h =
    let r = refusal s b (stanza_call e p t) (λ z. h (sym q ∙ z)) in
    (r.session ∙ go e p (outcome s b (stanza_call e p t)).number ∙ ap (λ n. pick (closes n) (closed s) s) q, r.buffers, ap (λ n. take n (outcome s b (stanza_call e p t)).output) r.size)
  where
    go : (e : End) (p : Phase) (n : ℕ) → session_after (stanza_call e p t) n s ≡ pick (closes n) (closed s) s
    go client p n = refl
    go plugin One n = refl
    go plugin Two n = refl
    go plugin (Awaiting w) n = refl
    go plugin Ended n = refl
    go plugin Closed n = refl

module _ (s : Session) (b : Buffers) (t : List ℕ) where
  abbrev late_two : ℕ
  late_two = as_read (read_first t) (first_of (decided_two s b false (line_in t) (body_in t)) (shortness (at_once_text s b (line_in t) (body_in t)) ample))

  abbrev late_answer : WordTwo → ℕ
  late_answer w = as_read (read_first t) (first_of (unfitness s b w (response_of (line_in t)) (body_in t)) (shortness (body_in t) ample))

  -- No. 13 and 14 close no session
  number_leaves : (e : End) (p : Phase) (n : ℕ) → (outcome s b (stanza_call e p t)).number ≡ n → (n ≡ 0 → ⊥) → closes n ≡ false → Leaves s b (stanza_call e p t)
  number_leaves e p n q h k = let z = refused_leaves e p s b t n q h in (z.0 ∙ ap (λ f. pick f (closed s) s) k, z.1, z.2)

  client_number : (p : Phase) → s.phase ≡ p → (outcome s b (receive_two t ample)).number ≡ first_of (turn_two p) late_two
  client_number p q = given_receive_two s b t ample ∙ ap (λ p. first_of (turn_two p) late_two) q

  answer_number : (p : Phase) → s.phase ≡ p → (outcome s b (respond t ample)).number ≡ by_due s b (due_in p) late_answer
  answer_number p q = given_respond s b t ample ∙ ap (λ p. by_due s b (due_in p) late_answer) q

  -- the call of a stanza out of turn
  stanza_leaves : (e : End) (p : Phase) → s.phase ≡ p → (turn_at e p ≡ reads → ⊥) → Leaves s b (stanza_call e p t)
  stanza_leaves client One q h = number_leaves client One 14 (client_number One q) (λ z. omega arith) refl
  stanza_leaves client Two q h = absurd (h refl)
  stanza_leaves client (Awaiting w) q h = number_leaves client (Awaiting w) 14 (client_number (Awaiting w) q) (λ z. omega arith) refl
  stanza_leaves client Ended q h = number_leaves client Ended 13 (client_number Ended q) (λ z. omega arith) refl
  stanza_leaves client Closed q h = number_leaves client Closed 13 (client_number Closed q) (λ z. omega arith) refl
  stanza_leaves plugin One q h = absurd (h refl)
  stanza_leaves plugin Two q h = number_leaves plugin Two 14 (answer_number Two q) (λ z. omega arith) refl
  stanza_leaves plugin (Awaiting w) q h = absurd (h refl)
  stanza_leaves plugin Ended q h = number_leaves plugin Ended 13 (answer_number Ended q) (λ z. omega arith) refl
  stanza_leaves plugin Closed q h = number_leaves plugin Closed 13 (answer_number Closed q) (λ z. omega arith) refl

  -- .. in turn, of a text that is no stanza
  stanza_unread : (e : End) (p : Phase) → s.phase ≡ p → turn_at e p ≡ reads → (m : ℕ) → read_first t ≡ refused m → (outcome s b (stanza_call e p t)).number ≡ m
  stanza_unread client One q h m r = absurd (drops_not_reads 14 h)
  stanza_unread client Two q h m r = client_number Two q ∙ ap (λ r. as_read r (first_of (decided_two s b false (line_in t) (body_in t)) (shortness (at_once_text s b (line_in t) (body_in t)) ample))) r
  stanza_unread client (Awaiting w) q h m r = absurd (keeps_not_reads h)
  stanza_unread client Ended q h m r = absurd (drops_not_reads 13 h)
  stanza_unread client Closed q h m r = absurd (drops_not_reads 13 h)
  stanza_unread plugin One q h m r =
      let late = first_of (decided_one s b (line_in t) (body_in t)) 0 in
      given_receive s b t ∙ ap (λ p. first_of (turn_one p) (as_read (read_first t) late)) q ∙ ap (λ r. as_read r late) r
  stanza_unread plugin Two q h m r = absurd (drops_not_reads 14 h)
  stanza_unread plugin (Awaiting w) q h m r = answer_number (Awaiting w) q ∙ ap (λ r. as_read r (first_of (unfitness s b w (response_of (line_in t)) (body_in t)) (shortness (body_in t) ample))) r
  stanza_unread plugin Ended q h m r = absurd (drops_not_reads 13 h)
  stanza_unread plugin Closed q h m r = absurd (drops_not_reads 13 h)

-- where a chunk is taken no bytes are kept back
turn_not_kept : (e : End) (p : Phase) → turn_at e p ≡ keeps_back → turn_of e p ≡ 0 → ⊥
turn_not_kept e p q n = false≢true (sym (turn_not_waiting e p n) ∙ turn_waits e p q)

-- a chunk out of turn
abbrev Stays : Session → List ℕ → Buffers → Taken → Type 0
Stays s a b x = (x.intake ≡ emptied s a) × (x.buffers ≡ b) × (x.written ≡ [])

all_stays : (e : End) (s : Session) (a : List ℕ) (b : Buffers) → turn_of e s.phase ≡ 0 → (turn_at e s.phase ≡ reads → ⊥) → (ts : List (List ℕ)) (r : Rest) → Stays s a b (taken_all e s b a ts r)
unfolding taken_all
all_stays e s a b n h [] r = go (turn_at e s.phase) refl
  where
    go : (u : Turn) → turn_at e s.phase ≡ u → Stays s a b (taken_rest u s b a r)
    go reads q = absurd (h q)
    go (drops k) q = either (Stays s a b) (eqb (length (bytes_of r)) 0) (no_more 0 (emptied s a) b) (no_more k (emptied s a) b) (refl, refl, refl) (refl, refl, refl)
    go keeps_back q = absurd (turn_not_kept e s.phase q n)
all_stays e s a b n h (t ∷ ts) r =
    stanza_cases (Stays s a b) e s b a t ts r (λ q z. absurd (h q)) (λ q z. absurd (h q)) (λ k q. (refl, refl, refl)) (λ q. absurd (turn_not_kept e s.phase q n))

chunk_stays : (e : End) (s : Session) (a : List ℕ) (b : Buffers) (t out : List ℕ) → (turn_at e s.phase ≡ reads → ⊥) →
    (let o = chunked e (emptied s a) b t out in (o.intake ≡ emptied s a) × (o.buffers ≡ b) × (take o.size o.output ≡ []))
chunk_stays e s a b t out h =
    chunk_cases (λ o. (o.intake ≡ emptied s a) × (o.buffers ≡ b) × (take o.size o.output ≡ [])) e (emptied s a) b t out
    (λ n k. let z = all_stays e s a b n h (cut start [] t).texts (cut start [] t).rest in
    (z.0, z.1, ap (λ w. take (length w) (filled w out)) z.2))
    (λ n k. (refl, refl, refl)) (λ n q k. (refl, refl, refl))

out_of_turn_goes : (e : End) (s : Session) (a : List ℕ) (b : Buffers) (t : List ℕ) → (turn_at e s.phase ≡ reads → ⊥) → Goes (outcome s b (stanza_call e s.phase t)) (chunked e (emptied s a) b t ample)
out_of_turn_goes e s a b t h =
    let k = chunk_stays e s a b t ample h in
    let z = stanza_leaves s b t e s.phase refl h in
    record {
      does = record { session = ap (λ (i : Intake). i.session) k.0 ∙ sym z.0; buffers = k.1 ∙ sym z.1; written = k.2 ∙ sym z.2 };
      empty = k.0 ∙ ap (λ (i : Intake). emptied i.session i.awaited) (sym k.0);
    }

by_turn : (e : End) (p : Phase) → (turn_at e p ≡ reads) ⊎ (turn_at e p ≡ reads → ⊥)
by_turn e p = go (turn_at e p)
  where
    go : (u : Turn) → (u ≡ reads) ⊎ (u ≡ reads → ⊥)
    go reads = inl refl
    go (drops n) = inr (drops_not_reads n)
    go keeps_back = inr keeps_not_reads

-- ---- a whole stanza in a chunk of its own

whole_goes : (e : End) (s : Session) (a : List ℕ) (b : Buffers) (t : List ℕ) → Whole t → Goes (outcome s b (stanza_call e s.phase t)) (chunked e (emptied s a) b t ample)
whole_goes e s a b t w =
    ⊎_elim (λ h. alike_goes (outcome s b (stanza_call e s.phase t)) (chunked e (emptied s a) b t ample) (chunk_single s a b t w e h)) (λ h. out_of_turn_goes e s a b t h) (by_turn e s.phase)

-- ---- a rest that holds no stanza

module _ (e : End) (s : Session) (a : List ℕ) (b : Buffers) (t : List ℕ) (turn : turn_at e s.phase ≡ reads) where
  -- what it comes to, by what it is read as
  rest_does : (m : ℕ) (q : Taken) → read_first t ≡ refused m → (m ≡ 0 → ⊥) → outcome_of e (emptied s a) b (alone t) ≡ held ample q → q.written ≡ [] → q.intake.session ≡ pick (closes m) (closed s) s → q.buffers ≡ b →
      Does (outcome s b (stanza_call e s.phase t)) (chunked e (emptied s a) b t ample)
  rest_does m q r n o w k v =
      let z = refused_leaves e s.phase s b t m (stanza_unread s b t e s.phase refl turn m r) n in
      subst (Does (outcome s b (stanza_call e s.phase t))) (sym o)
      (record { session = k ∙ sym z.0; buffers = v ∙ sym z.1; written = ap (λ w. take (length w) (filled w ample)) w ∙ sym z.2 })

  impossible_does : (m : ℕ) → read_first t ≡ refused m → closes m ≡ true → (m ≡ 0 → ⊥) → cut start [] t ≡ record { texts = []; rest = impossible m t } → Does (outcome s b (stanza_call e s.phase t)) (chunked e (emptied s a) b t ample)
  impossible_does m r c n h =
      let q = no_more m (emptied (closed s) []) b in
      rest_does m q r n (last_held e 0 s a b t (impossible m t) q turn h refl refl (omega arith)) refl (sym (ap (λ f. pick f (closed s) s) c)) refl

  unfinished_does : read_first t ≡ refused 2 → (cut start [] t).texts ≡ [] → Does (outcome s b (stanza_call e s.phase t)) (chunked e (emptied s a) b t ample)
  unfinished_does r h =
      let k = cut_unfinished t r in
      let f = subst (λ (c : Cut). IsRest c.rest) k (cut_parts t start [] none_front).rest in
      let q = no_more 0 (keeping s (automaton.after start t) t a) b in
      rest_does 2 q r (λ z. omega arith) (last_held e 0 s a b t (unfinished (automaton.after start t) t) q turn k refl refl (omega (arith, f.short))) refl refl refl

  no_stanza_does : (cut start [] t).texts ≡ [] → Does (outcome s b (stanza_call e s.phase t)) (chunked e (emptied s a) b t ample)
  no_stanza_does h = go (read_first t) refl
    where
      go : (q : Reading) → read_first t ≡ q → Does (outcome s b (stanza_call e s.phase t)) (chunked e (emptied s a) b t ample)
      go (stanza l n k) r = let x = sym (ap (λ (c : Cut). c.texts) (cut_stanza t l n k r)) ∙ h in let z : ◌≡◌ {A = ℕ} 0 1 = cc in absurd (omega arith)
      go (refused m) r =
          read_number (λ m. read_first t ≡ refused m → Does (outcome s b (stanza_call e s.phase t)) (chunked e (emptied s a) b t ample))
          (λ r. impossible_does 1 r refl (λ z. omega arith) (cut_fault t r)) (λ r. unfinished_does r h) (λ r. impossible_does 3 r refl (λ z. omega arith) (cut_overlong t r)) t m r r

pub last_does : (e : End) (s : Session) (a : List ℕ) (b : Buffers) (t : List ℕ) → (cut start [] t).texts ≡ [] → Does (outcome s b (stanza_call e s.phase t)) (chunked e (emptied s a) b t ample)
last_does e s a b t h = ⊎_elim (λ turn. no_stanza_does e s a b t turn h) (λ turn. (out_of_turn_goes e s a b t turn).does) (by_turn e s.phase)

-- ---- lists

-- from a place where no byte is kept
record Same (e : End) (s : Session) (a : List ℕ) (b : Buffers) (ps : List Piece) (cs : List Call) : Type 0 where
  session : (pieces.after e (emptied s a) b ps).intake.session ≡ (one_call.after s b cs).session
  buffers : (pieces.after e (emptied s a) b ps).buffers ≡ (one_call.after s b cs).buffers
  output : pieces.written e (emptied s a) b ps ≡ joined (one_call.written s b cs) []

same_last : (e : End) (s : Session) (a : List ℕ) (b : Buffers) (p : Piece) → Does (outcome s b (call_of e s.phase p)) (outcome_of e (emptied s a) b p) → Same e s a b (p ∷ []) (calls_of e s b (p ∷ []))
unfolding pieces.after pieces.written one_call.after one_call.written joined calls_of
same_last e s a b p d = record { session = d.session; buffers = d.buffers; output = ap (λ x. x ++ []) d.written }

same_more : (e : End) (s : Session) (a : List ℕ) (b : Buffers) (p : Piece) (ps : List Piece) → (let x = outcome s b (call_of e s.phase p) in let o = outcome_of e (emptied s a) b p in
    Goes x o → Same e o.intake.session o.intake.awaited o.buffers ps (calls_of e o.intake.session o.buffers ps) → Same e s a b (p ∷ ps) (calls_of e s b (p ∷ ps)))
unfolding pieces.after pieces.written one_call.after one_call.written joined calls_of
same_more e s a b p ps g k =
    let x = outcome s b (call_of e s.phase p) in
    let o = outcome_of e (emptied s a) b p in
    let here : Session → Buffers → one_call.State = λ s b. one_call.after s b (calls_of e s b ps) in
    record {
      session = ap (λ i. (pieces.after e i o.buffers ps).intake.session) g.empty ∙ k.session ∙ ap₂ (λ s b. (one_call.after s b (calls_of e s b ps)).session) g.does.session g.does.buffers;
      buffers = ap (λ i. (pieces.after e i o.buffers ps).buffers) g.empty ∙ k.buffers ∙ ap₂ (λ s b. (one_call.after s b (calls_of e s b ps)).buffers) g.does.session g.does.buffers;
      output =
          ap₂ (λ u v. u ++ v) g.does.written (ap (λ i. pieces.written e i o.buffers ps) g.empty ∙ k.output ∙ ap₂ (λ s b. joined (one_call.written s b (calls_of e s b ps)) []) g.does.session g.does.buffers);
    }

whole_alone : (t : List ℕ) → cut start [] t ≡ record { texts = t ∷ []; rest = unfinished start [] } → Whole t
unfolding All
whole_alone t h = whole_read t (subst (λ (c : Cut). All IsWhole c.texts) h (cut_parts t start [] none_front).texts).0

single_calls : (us : List Piece) (e : End) (s : Session) (a : List ℕ) (b : Buffers) → AreSingle us → NoneHeldUp (pieces.numbers e (emptied s a) b us) → Same e s a b us (calls_of e s b us)
unfolding AreSingle NoneHeldUp pieces.numbers
single_calls [] e s a b h n = unfold pieces.after pieces.written one_call.after one_call.written joined calls_of in (record { session = refl; buffers = refl; output = refl })
single_calls (chunk t out ∷ us) e s a b h n = go (single_calls us e) h.0.1
  where
    o : Outcome
    o = chunked e (emptied s a) b t out

    go : ((s : Session) (a : List ℕ) (b : Buffers) → AreSingle us → NoneHeldUp (pieces.numbers e (emptied s a) b us) → Same e s a b us (calls_of e s b us)) →
        (cut start [] t ≡ record { texts = t ∷ []; rest = unfinished start [] }) ⊎ (((cut start [] t).texts ≡ []) × (us ≡ [])) → Same e s a b (chunk t out ∷ us) (calls_of e s b (chunk t out ∷ us))
    go k (inl w) =
        let g = subst (λ out. Goes (outcome s b (stanza_call e s.phase t)) (chunked e (emptied s a) b t out)) (sym h.0.0) (whole_goes e s a b t (whole_alone t w)) in
        same_more e s a b (chunk t out) us g (k o.intake.session o.intake.awaited o.buffers h.1 (subst (λ i. NoneHeldUp (pieces.numbers e i o.buffers us)) g.empty n.1))
    go k (inr w) =
        let d = subst (λ out. Does (outcome s b (stanza_call e s.phase t)) (chunked e (emptied s a) b t out)) (sym h.0.0) (last_does e s a b t w.0) in
        subst (λ us. Same e s a b (chunk t out ∷ us) (calls_of e s b (chunk t out ∷ us))) (sym w.1) (same_last e s a b (chunk t out) d)
single_calls (reply r body out ∷ us) client s a b h n =
    let o = outcome_of client (emptied s a) b (reply r body out) in
    let g = alike_goes (outcome s b (one_call.reply r body out)) o (reply_single s a b r body out) in
    same_more client s a b (reply r body out) us g (single_calls us client o.intake.session o.intake.awaited o.buffers h (subst (λ i. NoneHeldUp (pieces.numbers client i o.buffers us)) g.empty n.1))
single_calls (reply r body out ∷ us) plugin s a b h n = absurd (n.0.0 refl)

-- ---- the theorem

-- a list of chunks and replies from a session that is not closed, of which no call is refused with 14 or 15, does what the calls of one stanza for it do
pub calls_theorem : (e : End) (s : Session) (b : Buffers) (cs : List Piece) → is_closed s.phase ≡ false → NoneHeldUp (pieces.numbers e (emptied s []) b cs) → AsCalls e s b cs (calls_for e s b cs)
calls_theorem e s b cs c h =
    let r = cut_theorem e s b cs c h in
    let k = single_calls (uncut e (emptied s []) b [] cs) e s [] b (uncut_theorem e s b cs h).single r.none_held_up in
    record { session = sym r.same_session ∙ k.session; buffers = sym r.same_buffers ∙ k.buffers; output = sym r.same_output ∙ k.output }

-- ---- what holds of calls of one stanza

-- tables: each kind's table is what it was, and behind it the rows of the accepted commands of that kind, in order
pub chunks_tables : (k : AnyKind) (e : End) (s : Session) (b : Buffers) (cs : List Piece) → ReachedSession s → is_closed s.phase ≡ false → NoneHeldUp (pieces.numbers e (emptied s []) b cs) →
    (let x = pieces.after e (emptied s []) b cs in view_of k x.intake.session.tables x.buffers ≡ view_of k s.tables b ++ accepted_rows k s b (calls_for e s b cs))
chunks_tables k e s b cs r c h =
    let t = calls_theorem e s b cs c h in
    ap₂ (λ (s : Session) b. view_of k s.tables b) t.session t.buffers ∙ tables_after k s b (calls_for e s b cs) r

-- .. from an opening on the rows alone
pub chunks_tables_opened : (k : AnyKind) (e : End) (machine name : List ℕ) (screen : Bool) (b : Buffers) (cs : List Piece) → (let s = (opened machine name screen).session in
    is_closed s.phase ≡ false → NoneHeldUp (pieces.numbers e (emptied s []) b cs) →
    (let x = pieces.after e (emptied s []) b cs in view_of k x.intake.session.tables x.buffers ≡ accepted_rows k s b (calls_for e s b cs)))
chunks_tables_opened k e machine name screen b cs c h =
    let s = (opened machine name screen).session in
    let t = calls_theorem e s b cs c h in
    ap₂ (λ (s : Session) b. view_of k s.tables b) t.session t.buffers ∙ tables_opened k machine name screen b (calls_for e s b cs)

-- answers: where the phase has ended, each accepted command but done has its response directly behind it, and the response fits. The chunks come behind any calls
-- from phase one on, as the client's come behind those that it sent
pub chunks_answers : (e : End) (s : Session) (b : Buffers) (xs : List Call) (cs : List Piece) → (let z = one_call.after s b xs in
    s.phase ≡ One → is_closed z.session.phase ≡ false → NoneHeldUp (pieces.numbers e (emptied z.session []) z.buffers cs) →
    (pieces.after e (emptied z.session []) z.buffers cs).intake.session.phase ≡ Ended → Paired (events s b (xs ++ calls_for e z.session z.buffers cs)))
chunks_answers e s b xs cs o c h d =
    let z = one_call.after s b xs in
    let ds = calls_for e z.session z.buffers cs in
    let t = calls_theorem e z.session z.buffers cs c h in
    answers s b (xs ++ ds) o (ap (λ (w : one_call.State). w.session.phase) (after_append s b xs ds) ∙ sym (ap (λ (s : Session). s.phase) t.session) ∙ d)
