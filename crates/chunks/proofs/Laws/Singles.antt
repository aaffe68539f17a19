-- One stanza in a chunk of its own, and a reply with nothing kept back, are the calls that take one stanza and one reply: nothing is left behind the stanza.
use Prim.Native.Nat.{ℕ}
use mathlib.Core.Path.{◌≡◌, refl, sym, ap, subst, ◌∙◌}
use mathlib.Core.Bool.{true, false, ◌&&◌, false≢true}
use mathlib.Core.List.{List, [], ◌++◌, append-nil}
use lib.Dec.{eqb, leb}
use lib.ListN.{length, take}
use lib.Seq.{take-length}
use native.Mathlib.Omega.{arith}
use borrow.Author.Tests.{eqb-true, eqb-false, le-ltb, leb-true, leb-false, lt-ltb}
use Rattle.refusal.specs.Output.{bytes, filled}
use Rattle.refusal.specs.Pick.{pick}
use Rattle.refusal.specs.Verdict.{first_of}
use Rattle.refusal.proofs.Laws.Booleans.{cases, and_true_right}
use Rattle.stanza.specs.Grammar.{stanza_text, IsStanza}
use Rattle.stanza.proofs.Laws.Exact.{taken_iff}
use Rattle.stanza.proofs.Laws.Grammar.{ended_iff}
use Rattle.responses.specs.Responses.{response_line}
use Rattle.responses.specs.declared.Response.{Response}
use Rattle.session.specs.declared.words.WordTwo.{WordTwo}
use Rattle.session.specs.declared.phases.Phase.{Phase}
use Rattle.session.specs.declared.phases.Phase.TheVariants.{One, Two, Awaiting, Ended, Closed}
use Rattle.session.specs.Session.{Session}
use Rattle.conversation.specs.Calls as one_call
use Rattle.conversation.specs.Calls.{Call, receive, receive_two, reply, outcome, written_by, taking_number, taking_two_number, replied_outcome}
use Rattle.conversation.specs.Kinds.{Buffers}
use Rattle.conversation.specs.Phases.{Whole}
use Rattle.conversation.specs.Replying as replying
use Rattle.conversation.specs.Replying.{number_replied}
use Rattle.conversation.specs.Sending.{shortness}
use Rattle.conversation.specs.TurnsTwo.{turn_two, Due, due, undue, due_in, answered}
use Rattle.conversation.proofs.Laws.Refusals.{refusal}
use Rattle.conversation.proofs.Laws.StepsTwo.{all_written}
use Rattle.conversation.proofs.Laws.Receiving.{received_out_of_turn}
use Rattle.conversation.proofs.Laws.ReceivingTwo.{turn_second, received_out_of_turn as received_two_out_of_turn}
use Rattle.phase_one.specs.Turns.{turn_one}
use Rattle.chunks.specs.Cutting.{cut}
use Rattle.chunks.specs.Taking.{End, client, plugin, reads, turn_at, ample, stanza_call, Taken, no_more, emptied, joined, taken_all, no_stanza}
use Rattle.chunks.specs.Chunks.{Outcome, untaken, is_held, judged, turn_of, chunked, reply_ahead, taken_back, replied_to, replied_by, replied}
use Rattle.chunks.specs.Uncut.{outcome_of, alone, is_waiting}
use Rattle.chunks.proofs.Laws.Cases.{held}
use Rattle.chunks.proofs.Laws.Cutting.{IsWhole}
use Rattle.chunks.proofs.Laws.Reading.{cut_whole}
use Rattle.chunks.proofs.Laws.Taking.{chunk_held, one_alone, alone_fits, alone_accepted, alone_refused}

-- ---- a call on chunks and a call of one stanza are alike: the number, the session, the buffers and what is written; nothing is kept
pub record Alike (x : one_call.Outcome) (o : Outcome) : Type 0 where
  pub number : o.number ≡ x.number
  pub intake : o.intake ≡ emptied x.session o.intake.awaited
  pub buffers : o.buffers ≡ x.buffers
  pub written : take o.size o.output ≡ take x.size x.output

-- a text that is read as one whole stanza
pub whole_is : (t : List ℕ) → Whole t → IsWhole t
whole_is t w =
    let p = (taken_iff t (length t)).0 (w.line, w.body, w.read) in
    record { alone = cut_whole t w; at_end = (ended_iff t).1 (subst IsStanza (take-length t) p.whole); short = p.limit }

module _ (s : Session) (a : List ℕ) (b : Buffers) (t : List ℕ) (w : Whole t) where
  -- where bytes are read it is the call that takes the stanza: the client's in phase two; the plugin's in phase one, and where a response is due
  pub chunk_single : (e : End) → turn_at e s.phase ≡ reads → Alike (outcome s b (stanza_call e s.phase t)) (chunked e (emptied s a) b t ample)
  chunk_single e h =
      let c = stanza_call e s.phase t in
      let v = whole_is t w in
      cases (eqb (outcome s b c).number 0)
      (λ f. let z = eqb-true (outcome s b c).number 0 f in
      subst (Alike (outcome s b c)) (sym (alone_accepted e s a b t v h z))
      (record { number = sym z; intake = refl; buffers = refl; written = all_written (one_alone e s a b t v h).written ample (alone_fits e s a b t v h z) ∙ append-nil (written_by s b c) }))
      (λ f. let z = eqb-false (outcome s b c).number 0 f in
      let r = refusal s b c z in
      subst (Alike (outcome s b c)) (sym (alone_refused e s a b t v h z))
      (record { number = refl; intake = refl; buffers = sym r.buffers; written = sym (ap (λ n. take n (outcome s b c).output) r.size) }))

  -- where it is not its turn nothing is taken either way
  out_of_turn_alike : (e : End) (c : Call) (n : ℕ) → turn_of e s.phase ≡ n → eqb n 0 ≡ false → (outcome s b c).number ≡ n → (outcome s b c).session ≡ s → Alike (outcome s b c) (chunked e (emptied s a) b t ample)
  unfolding chunked
  out_of_turn_alike e c n h f q z =
      let r = refusal s b c (λ y. eqb-false n 0 f (sym q ∙ y)) in
      rw (h, f) (record { number = sym q; intake = ap (λ s. emptied s a) (sym z); buffers = sym r.buffers; written = sym (ap (λ n. take n (outcome s b c).output) r.size) })

  -- the client's, in every phase
  pub chunk_client : Alike (outcome s b (receive_two t ample)) (chunked client (emptied s a) b t ample)
  chunk_client =
      cases (eqb (turn_two s.phase) 0)
      (λ f. chunk_single client (ap (turn_at client) (turn_second s.phase (eqb-true (turn_two s.phase) 0 f))))
      (λ f. let e = received_two_out_of_turn s t b.second ample (turn_two s.phase) refl f in
      out_of_turn_alike client (receive_two t ample) (turn_two s.phase) refl f (sym (ap (λ r. taking_two_number r.answer) e)) (sym (ap (λ r. r.session) e)))

  -- bytes that no response is due for are dropped
  chunk_dropped : s.phase ≡ Two → outcome_of plugin (emptied s a) b (alone t) ≡ held ample (no_more 14 (emptied s a) b)
  unfolding taken_all joined
  chunk_dropped q =
      chunk_held plugin (emptied s a) b t ample (no_more 14 (emptied s a) b) (ap (turn_of plugin) q)
      (ap (λ c. taken_all plugin s b a c.texts c.rest) (cut_whole t w) ∙ rw (ap (turn_at plugin) q) refl) (omega arith) (omega arith)

  -- the plugin's where no response is due
  pub chunk_plugin : is_waiting client s.phase ≡ false → Alike (outcome s b (receive t)) (chunked plugin (emptied s a) b t ample)
  chunk_plugin h = go s.phase refl h
    where
      out : eqb (turn_one s.phase) 0 ≡ false → turn_of plugin s.phase ≡ turn_one s.phase → Alike (outcome s b (receive t)) (chunked plugin (emptied s a) b t ample)
      out f q =
          let e = received_out_of_turn s t b.first (turn_one s.phase) refl f in
          out_of_turn_alike plugin (receive t) (turn_one s.phase) q f (sym (ap (λ r. taking_number r.answer) e)) (sym (ap (λ r. r.session) e))

      go : (p : Phase) → s.phase ≡ p → is_waiting client p ≡ false → Alike (outcome s b (receive t)) (chunked plugin (emptied s a) b t ample)
      go One q h = subst (λ p. Alike (outcome s b (stanza_call plugin p t)) (chunked plugin (emptied s a) b t ample)) q (chunk_single plugin (ap (turn_at plugin) q))
      go Two q h =
          let e = received_out_of_turn s t b.first (turn_one s.phase) refl (ap (λ p. eqb (turn_one p) 0) q) in
          let n : (outcome s b (receive t)).number ≡ 14 = sym (ap (λ r. taking_number r.answer) e) ∙ ap turn_one q in
          let r = refusal s b (receive t) (λ y. let x : ◌≡◌ {A = ℕ} 14 0 = sym n ∙ y in omega arith) in
          subst (Alike (outcome s b (receive t))) (sym (chunk_dropped q))
          (record { number = sym n; intake = ap (λ s. emptied s a) (ap (λ r. r.session) e); buffers = sym r.buffers; written = sym (ap (λ n. take n (outcome s b (receive t)).output) r.size) })
      go (Awaiting w) q h = absurd (false≢true (sym h))
      go Ended q h = out (ap (λ p. eqb (turn_one p) 0) q) (ap (turn_of plugin) q ∙ sym (ap turn_one q))
      go Closed q h = out (ap (λ p. eqb (turn_one p) 0) q) (ap (turn_of plugin) q ∙ sym (ap turn_one q))

-- ---- a reply

-- nothing was kept back
pub back_none : (s : Session) (a : List ℕ) (b : Buffers) → taken_back (emptied s a) b ≡ no_more 0 (emptied (answered s) []) b
unfolding cut taken_all
back_none s a b = refl

module _ (s : Session) (a : List ℕ) (b : Buffers) (text out : List ℕ) where
  -- what a reply of this text comes to before lengths are looked at
  abbrev back : Taken
  back = reply_ahead text (no_more 0 (emptied (answered s) []) b)

  held_is : is_held back out ≡ leb (length text) (length out)
  held_is = ap (λ x. leb (length x) (length out) && true) (append-nil text) ∙ and_true_right (leb (length text) (length out))

  -- the reply of one call by its number, where it fits and can be written
  abbrev sent_back : ℕ → replying.Replied
  sent_back n = pick (eqb n 0) (record { answer = bytes (length text); session = answered s; output = filled text out }) (replying.refused_reply n s out)

  by_length : Alike (replied_outcome b (sent_back (shortness text out))) (judged (emptied s a) b out back)
  by_length =
      cases (leb (length text) (length out))
      (λ h. rw (held_is ∙ h)
      (subst (λ f. Alike (replied_outcome b (sent_back (pick f 15 0))) (record { number = 0; count = 0; last = no_stanza; size = length (text ++ []); intake = emptied (answered s) []; buffers = b; output = filled (text ++ []) out }))
      (sym (le-ltb (length out) (length text) (leb-true (length text) (length out) h)))
      (record { number = refl; intake = refl; buffers = refl; written = ap (λ x. take (length x) (filled x out)) (append-nil text) })))
      (λ h. rw (held_is ∙ h)
      (subst (λ f. Alike (replied_outcome b (sent_back (pick f 15 0))) (untaken 15 (emptied s a) b out)) (sym (lt-ltb (length out) (length text) (leb-false (length text) (length out) h)))
      (record { number = refl; intake = refl; buffers = refl; written = refl })))

  -- by the number of the reply itself
  by_number : (n : ℕ) → Alike (replied_outcome b (sent_back (first_of n (shortness text out)))) (pick (eqb n 0) (judged (emptied s a) b out back) (untaken n (emptied s a) b out))
  by_number n =
      cases (eqb n 0) (λ f. rw f by_length)
      (λ f. subst (λ g. Alike (replied_outcome b (sent_back (pick g (shortness text out) n))) (pick g (judged (emptied s a) b out back) (untaken n (emptied s a) b out))) (sym f)
      (subst (λ g. Alike (replied_outcome b (pick g (record { answer = bytes (length text); session = answered s; output = filled text out }) (replying.refused_reply n s out))) (untaken n (emptied s a) b out)) (sym f)
      (record { number = refl; intake = refl; buffers = refl; written = refl })))

-- a reply where nothing was kept back is the reply of one call
pub reply_single : (s : Session) (a : List ℕ) (b : Buffers) (r : Response) (body out : List ℕ) → Alike (outcome s b (reply r body out)) (replied (emptied s a) b r body out)
reply_single s a b r body out = go (due_in s.phase)
  where
    to : (w : WordTwo) → Alike (replied_outcome b (replying.replied_to w s r body out)) (replied_to w (emptied s a) b r body out)
    to w = unfold replied_to replying.replied_to in
        subst (λ x. Alike (replied_outcome b (replying.replied_to w s r body out)) (pick (eqb (number_replied w r body) 0) (judged (emptied s a) b out (reply_ahead (stanza_text (response_line r) body) x)) (untaken (number_replied w r body) (emptied s a) b out)))
        (sym (back_none s a b)) (by_number s a b (stanza_text (response_line r) body) out (number_replied w r body))

    go : (d : Due) → Alike (replied_outcome b (replying.replied_by d s r body out)) (replied_by d (emptied s a) b r body out)
    go (due w) = to w
    go (undue n) = record { number = refl; intake = refl; buffers = refl; written = refl }
