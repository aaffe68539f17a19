-- What a text comes to, stanza by stanza from the left: dropped, kept back, unfinished, at fault, or a stanza and what stands behind it. Each is said of the
-- front of a stanza with the bytes behind it, and of a text from the start of a stanza on.
use Prim.Native.Nat.{ℕ, ◌+◌, ◌<◌}
use mathlib.Core.Path.{◌≡◌, refl, sym, ap, ap₂, subst, ◌∙◌}
use mathlib.Core.Bool.{Bool, true, false}
use mathlib.Core.List.{List, [], ◌∷◌, ◌++◌, append_assoc, append-nil}
use lib.Dec.{eqb, leb}
use lib.ListN.{length, take, drop, length-append}
use lib.Seq.{length-take-le, take-take}
use native.Mathlib.Omega.{arith}
use borrow.Author.Tests.{eqb-true, ne_eqb}
use Rattle.refusal.specs.Pick.{pick}
use Rattle.refusal.proofs.Laws.Booleans.{and_true}
use Rattle.strict_base64.specs.Lines.{body_of}
use Rattle.stanza.specs.Arguments.{is_line}
use Rattle.stanza.specs.Automaton.{State, start, next, after}
use Rattle.stanza.specs.Exact as exact
use Rattle.stanza.specs.Grammar.{IsStanza, stanza_text}
use Rattle.stanza.specs.Reading.{stanza, refused, read_first}
use Rattle.stanza.specs.Resuming.{whole, continued}
use Rattle.stanza.specs.Resuming as resuming
use Rattle.stanza.proofs.Laws.Exact.{taken_iff}
use Rattle.stanza.proofs.Laws.Resuming.{whole_iff, unfinished_iff, refused_iff}
use Rattle.stanza.proofs.Laws.RoundTrip.{read_text, written_read}
use Rattle.stanza.proofs.Laws.Writing.{text_length}
use Rattle.responses.specs.Responses.{response_of}
use Rattle.session.specs.declared.phases.Phase.{Phase}
use Rattle.session.specs.declared.phases.Phase.TheVariants.{One, Two, Awaiting, Ended, Closed}
use Rattle.session.specs.Session.{Session, closed}
use Rattle.phase_one.specs.Turns.{turn_one}
use Rattle.conversation.specs.Calls as one_call
use Rattle.conversation.specs.Calls.{receive, receive_two, respond, outcome, received_outcome, received_two_outcome, responded_outcome}
use Rattle.conversation.specs.Kinds.{Buffers}
use Rattle.conversation.specs.Receiving as receiving
use Rattle.conversation.specs.ReceivingTwo as receiving_two
use Rattle.conversation.specs.Responding as responding
use Rattle.conversation.specs.TurnsTwo.{turn_two, Due, due, undue, due_in}
use Rattle.conversation.proofs.Laws.Refusals.{either}
use Rattle.chunks.specs.Cutting.{Rest, unfinished, impossible, bytes_of, Cut, cut}
use Rattle.chunks.specs.Taking.{End, client, plugin, Turn, reads, drops, keeps_back, turn_at, ample, stanza_call, awaited_behind, no_stanza, Last, last_in, Taken, no_more, emptied, keeping, last_of, behind, one_more, taken_rest, joined, taken_by, taken_all, taken_text}
use Rattle.chunks.proofs.Laws.Cases.{stanza_cases}
use Rattle.chunks.proofs.Laws.Cutting.{cut_joined}
use Rattle.chunks.proofs.Laws.Fronts.{front_whole, front_unfinished, front_refused}
use Rattle.chunks.proofs.Laws.Reading.{Step, ends, fails, goes_on, overruns, step}

-- ---- a stanza by itself

-- the first stanza of a text is read alike without what stands behind it
module _ (x : List ℕ) (l m k : ℕ) (h : read_first x ≡ stanza l m k) where
  abbrev line : List ℕ
  line = drop 3 (take l x)

  abbrev body : List ℕ
  body = body_of (drop (l + 1) (take k x))

  -- a text whose first k bytes are these is read so
  read_so : (t : List ℕ) → exact.Taken t k → take k t ≡ take k x → read_first t ≡ stanza (length line + 3) (length body) k
  read_so t w e =
      let a = written_read x l m k h in
      read_text t line body k w (e ∙ sym a.text) (and_true (is_line line) (leb (length (stanza_text line body)) 8192) a.writable).0 a.bytes

  first : read_first x ≡ stanza (length line + 3) (length body) k
  first = read_so x ((taken_iff x k).0 (l, m, h)) refl

  pub stanza_alone : read_first (take k x) ≡ stanza l m k
  stanza_alone =
      let w = (taken_iff x k).0 (l, m, h) in
      let e : take k (take k x) ≡ take k x = take-take k k x (omega arith) in
      read_so (take k x) (record { within = omega (arith, length-take-le k x w.within); limit = w.limit; whole = subst IsStanza (sym e) w.whole }) e
      ∙ sym first ∙ h

  -- its arguments' text is the same, and its body
  line_alone : drop 3 (take l (take k x)) ≡ line
  line_alone =
      let w = (taken_iff x k).0 (l, m, h) in
      let z : stanza l m k ≡ stanza (length line + 3) (length body) k = sym h ∙ first in
      let n : l ≡ length line + 3 = cc in
      ap (drop 3) (take-take l k x (omega (arith, ap length (written_read x l m k h).text, text_length line body, length-take-le k x w.within)))

  body_alone : body_of (drop (l + 1) (take k (take k x))) ≡ body
  body_alone = ap (λ t. body_of (drop (l + 1) t)) (take-take k k x (omega arith))

  -- so the call that takes it does the same
  module _ (s : Session) (b : Buffers) where
    received_alone : outcome s b (receive (take k x)) ≡ outcome s b (receive x)
    unfolding receiving.received
    received_alone =
        ap (λ r. received_outcome b.second (pick (eqb (turn_one s.phase) 0) r (receiving.refused_receipt (turn_one s.phase) s b.first)))
        (ap (λ r. receiving.received_as r s (take k x) b.first) stanza_alone ∙ ap₂ (λ y z. receiving.received_stanza s b.first y z k) line_alone body_alone
        ∙ sym (ap (λ r. receiving.received_as r s x b.first) h))

    module _ (out : List ℕ) where
      received_two_alone : outcome s b (receive_two (take k x) out) ≡ outcome s b (receive_two x out)
      unfolding receiving_two.received
      received_two_alone =
          ap (λ r. received_two_outcome b.first (pick (eqb (turn_two s.phase) 0) r (receiving_two.refused_receipt (turn_two s.phase) s b.second out)))
          (ap (λ r. receiving_two.received_as r s (take k x) b.second out) stanza_alone
          ∙ ap₂ (λ y z. receiving_two.received_stanza s b.second out y z k) line_alone body_alone
          ∙ sym (ap (λ r. receiving_two.received_as r s x b.second out) h))

      responded_alone : outcome s b (respond (take k x) out) ≡ outcome s b (respond x out)
      responded_alone = ap (responded_outcome b) (go (due_in s.phase))
        where
          go : (d : Due) → responding.responded_by d s (take k x) out ≡ responding.responded_by d s x out
          go (due w) =
              ap (λ r. responding.responded_text r w s (take k x) out) stanza_alone
              ∙ ap₂ (λ y z. responding.responded_as w s (response_of y) z k out) line_alone body_alone
              ∙ sym (ap (λ r. responding.responded_text r w s x out) h)
          go (undue n) = refl

    pub call_alone : (e : End) (p : Phase) → outcome s b (stanza_call e p (take k x)) ≡ outcome s b (stanza_call e p x)
    call_alone client p = received_two_alone ample
    call_alone plugin One = received_alone
    call_alone plugin Two = responded_alone ample
    call_alone plugin (Awaiting w) = responded_alone ample
    call_alone plugin Ended = responded_alone ample
    call_alone plugin Closed = responded_alone ample

-- ---- what a text comes to, by whose turn it is

-- a stanza t and the text x behind it, where the stanza's call comes to o
abbrev pub stanza_taken : End → Buffers → one_call.Outcome → List ℕ → List ℕ → Taken
stanza_taken e b o t x =
    pick (eqb o.number 0)
    (one_more (last_in o.given) (take o.size o.output) (taken_text e o.session o.buffers (awaited_behind e o.session.phase t) x))
    (no_more o.number (emptied o.session []) b)

module _ (e : End) (s : Session) (b : Buffers) (a : List ℕ) where
  -- what a cut text comes to
  abbrev pub taken_cut : Cut → Taken
  taken_cut c = taken_all e s b a c.texts c.rest

  -- a stanza and those behind it, where they are read
  abbrev ahead_read : List ℕ → List (List ℕ) → Rest → Taken
  ahead_read t ts r =
      let o = outcome s b (stanza_call e s.phase t) in
      pick (eqb o.number 0)
      (one_more (last_in o.given) (take o.size o.output) (taken_all e o.session o.buffers (awaited_behind e o.session.phase t) ts r))
      (no_more o.number (emptied o.session []) b)

  -- .. by the turn
  stanza_by : (u : Turn) → turn_at e s.phase ≡ u → (t : List ℕ) (ts : List (List ℕ)) (r : Rest) →
      taken_all e s b a (t ∷ ts) r ≡ taken_by u s b a (t ++ joined ts (bytes_of r)) (ahead_read t ts r)
  unfolding taken_all
  stanza_by u turn t ts r = ap (λ u. taken_by u s b a (t ++ joined ts (bytes_of r)) (ahead_read t ts r)) turn

  rest_by : (u : Turn) → turn_at e s.phase ≡ u → (r : Rest) → taken_all e s b a [] r ≡ taken_rest u s b a r
  unfolding taken_all
  rest_by u turn r = ap (λ u. taken_rest u s b a r) turn

  -- bytes that are dropped: the number, where there are any
  abbrev pub dropped : ℕ → List ℕ → Taken
  dropped n x = pick (eqb (length x) 0) (no_more 0 (emptied s a) b) (no_more n (emptied s a) b)

  pub dropped_some : (n : ℕ) (front : List ℕ) (c : ℕ) (t : List ℕ) → dropped n (front ++ c ∷ t) ≡ no_more n (emptied s a) b
  dropped_some n front c t =
      ap (λ f. pick f (no_more 0 (emptied s a) b) (no_more n (emptied s a) b))
      (ne_eqb (length (front ++ c ∷ t)) 0 (λ z. omega (arith, length-append front (c ∷ t))))

  module _ (n : ℕ) (turn : turn_at e s.phase ≡ drops n) where
    pub front_dropped : (x : List ℕ) (q : State) (front : List ℕ) → taken_cut (cut q front x) ≡ dropped n (front ++ x)
    unfolding cut
    front_dropped [] q front = rest_by (drops n) turn (unfinished q front) ∙ ap (dropped n) (sym (append-nil front))
    front_dropped (c ∷ t) q front = go (front_dropped t) (step q front c)
      where
        go : ((q : State) (front : List ℕ) → taken_cut (cut q front t) ≡ dropped n (front ++ t)) → Step q front c →
            taken_cut (cut q front (c ∷ t)) ≡ dropped n (front ++ c ∷ t)
        go i (ends z w) =
            ap taken_cut (w t) ∙ stanza_by (drops n) turn (front ++ (c ∷ [])) (cut start [] t).texts (cut start [] t).rest ∙ sym (dropped_some n front c t)
        go i (fails z w) = ap taken_cut (w t) ∙ rest_by (drops n) turn (impossible 1 (front ++ c ∷ t))
        go i (goes_on y z m w) = ap taken_cut (w t) ∙ i (next q c) (front ++ (c ∷ [])) ∙ ap (dropped n) (append_assoc front (c ∷ []) t)
        go i (overruns y z m w) = ap taken_cut (w t) ∙ rest_by (drops n) turn (impossible 3 (front ++ c ∷ t))

    pub text_dropped : (x : List ℕ) → taken_text e s b a x ≡ dropped n x
    text_dropped x = front_dropped x start []

  module _ (turn : turn_at e s.phase ≡ keeps_back) where
    all_kept_back : (ts : List (List ℕ)) (r : Rest) → taken_all e s b a ts r ≡ no_more 0 (keeping s start (joined ts (bytes_of r)) a) b
    unfolding joined
    all_kept_back [] r = rest_by keeps_back turn r
    all_kept_back (t ∷ ts) r = stanza_by keeps_back turn t ts r

    pub front_kept_back : (q : State) (front x : List ℕ) → taken_cut (cut q front x) ≡ no_more 0 (keeping s start (front ++ x) a) b
    front_kept_back q front x = all_kept_back (cut q front x).texts (cut q front x).rest ∙ ap (λ y. no_more 0 (keeping s start y a) b) (cut_joined x q front)

    pub text_kept_back : (x : List ℕ) → taken_text e s b a x ≡ no_more 0 (keeping s start x a) b
    text_kept_back x = front_kept_back start [] x

  module _ (turn : turn_at e s.phase ≡ reads) where
    -- the bytes are over before their stanza is
    pub front_left : (q v : State) (front x : List ℕ) → continued q (length front) x ≡ resuming.unfinished v →
        taken_cut (cut q front x) ≡ no_more 0 (keeping s v (front ++ x) a) b
    front_left q v front x h = ap taken_cut (front_unfinished q v front x h) ∙ rest_by reads turn (unfinished v (front ++ x))

    pub text_left : (x : List ℕ) → read_first x ≡ refused 2 → taken_text e s b a x ≡ no_more 0 (keeping s (after start x) x a) b
    text_left x h = front_left start (after start x) [] x ((unfinished_iff x).1 h)

    -- no stanza goes on so, or it is too long
    pub front_fault : (q : State) (front x : List ℕ) (m : ℕ) → length front < 8192 → continued q (length front) x ≡ resuming.refused m →
        taken_cut (cut q front x) ≡ no_more m (emptied (closed s) []) b
    front_fault q front x m l h = ap taken_cut (front_refused q front x m l h) ∙ rest_by reads turn (impossible m (front ++ x))

    pub text_fault : (x : List ℕ) (m : ℕ) → (m ≡ 2 → ⊥) → read_first x ≡ refused m → taken_text e s b a x ≡ no_more m (emptied (closed s) []) b
    text_fault x m l h = front_fault start [] x m (omega arith) ((refused_iff x m l).1 h)

    -- a whole stanza
    pub front_stanza : (q : State) (front x : List ℕ) (k : ℕ) → continued q (length front) x ≡ whole k →
        taken_cut (cut q front x) ≡ stanza_taken e b (outcome s b (stanza_call e s.phase (front ++ take k x))) (front ++ take k x) (drop k x)
    front_stanza q front x k h =
        ap taken_cut (front_whole q front x k h) ∙ stanza_by reads turn (front ++ take k x) (cut start [] (drop k x)).texts (cut start [] (drop k x)).rest

    pub text_stanza : (x : List ℕ) (l m k : ℕ) → read_first x ≡ stanza l m k →
        taken_text e s b a x ≡ stanza_taken e b (outcome s b (stanza_call e s.phase x)) (take k x) (drop k x)
    text_stanza x l m k h =
        front_stanza start [] x k ((whole_iff x k).1 (l, m, h)) ∙ ap (λ o. stanza_taken e b o (take k x) (drop k x)) (call_alone x l m k h s b e s.phase)

-- ---- behind some stanzas

-- one more, and the rest behind it
pub behind_more : (n : ℕ) (g g' : Last) (w w' : List ℕ) (r : Taken) → behind n g w (one_more g' w' r) ≡ behind (n + 1) g' (w ++ w') r
behind_more n g g' w w' r =
    let c : n + (1 + r.count) ≡ n + 1 + r.count = omega arith in
    ap (λ f. at (n + (1 + r.count)) (pick f g (last_of r.count g' r.last)) (w ++ (w' ++ r.written))) (ne_eqb (1 + r.count) 0 (λ z. omega arith))
    ∙ ap₂ (λ c y. at c (last_of r.count g' r.last) y) c (sym (append_assoc w w' r.written))
  where
    at : ℕ → Last → List ℕ → Taken
    at c l y = record { number = r.number; count = c; last = l; written = y; intake = r.intake; buffers = r.buffers }

-- where none is taken there is no last
none_last : (ts : List (List ℕ)) (e : End) (s : Session) (b : Buffers) (a : List ℕ) (r : Rest) → (taken_all e s b a ts r).count ≡ 0 →
    (taken_all e s b a ts r).last ≡ no_stanza
unfolding taken_all
none_last [] e s b a r = go (turn_at e s.phase) r
  where
    go : (u : Turn) (r : Rest) → (taken_rest u s b a r).count ≡ 0 → (taken_rest u s b a r).last ≡ no_stanza
    go reads (unfinished q front) z = refl
    go reads (impossible n text) z = refl
    go (drops n) r z = either (λ (x : Taken). x.last ≡ no_stanza) (eqb (length (bytes_of r)) 0) (no_more 0 (emptied s a) b) (no_more n (emptied s a) b) refl refl
    go keeps_back r z = refl
none_last (t ∷ ts) e s b a r =
    stanza_cases (λ x. x.count ≡ 0 → x.last ≡ no_stanza) e s b a t ts r (λ q z c. absurd (omega arith)) (λ q z c. refl) (λ n q c. refl) (λ q c. refl)

pub behind_none : (e : End) (s : Session) (b : Buffers) (a : List ℕ) (ts : List (List ℕ)) (r : Rest) →
    behind 0 no_stanza [] (taken_all e s b a ts r) ≡ taken_all e s b a ts r
behind_none e s b a ts r = go (taken_all e s b a ts r) (none_last ts e s b a r)
  where
    go : (x : Taken) → (x.count ≡ 0 → x.last ≡ no_stanza) → behind 0 no_stanza [] x ≡ x
    go x h =
        ap₂ (λ c l. record { number = x.number; count = c; last = l; written = x.written; intake = x.intake; buffers = x.buffers }) (omega arith)
        (last (eqb x.count 0) refl)
      where
        last : (f : Bool) → eqb x.count 0 ≡ f → pick f no_stanza x.last ≡ x.last
        last true z = sym (h (eqb-true x.count 0 z))
        last false z = refl
