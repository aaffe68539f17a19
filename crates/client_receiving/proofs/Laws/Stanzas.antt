-- One stanza with the output buffer that is lent, beside what the definitions say of it with `room`.
use Prim.Native.Nat.{ℕ, ◌≤◌, ◌<◌}
use mathlib.Core.Path.{◌≡◌, refl, sym, ap, ap₂, ◌∙◌, subst}
use mathlib.Core.Bool.{Bool, true, false}
use mathlib.Core.List.{List, [], ◌++◌}
use lib.Dec.{eqb, ltb}
use lib.ListN.{length, take, drop, length-append, length-drop}
use lib.Seq.{drop_at}
use native.Mathlib.Omega.{arith}
use borrow.Author.Tests.{eqb-true, eqb-false, ne_eqb, le-ltb, lt-ltb, ltb-true, ltb-false}
use Rattle.refusal.specs.Output.{filled}
use Rattle.refusal.specs.Pick.{pick}
use Rattle.refusal.specs.Verdict.{first_of}
use Rattle.stanza.specs.Reading.{stanza, refused, read_first}
use Rattle.session.specs.declared.words.WordTwo.{WordTwo}
use Rattle.session.specs.declared.phases.Phase.TheVariants.{Two}
use Rattle.session.specs.Session.{Session, moved}
use Rattle.conversation.specs.CommandsTwo.{CommandTwo, word_of, text_of_word, command_two, payload_of}
use Rattle.conversation.specs.PhaseTwo.{BuffersTwo, applied, filled_by}
use Rattle.conversation.specs.ReceivingTwo.{at_once, text_of, phase_received, took, declined, Received, refused_receipt, number_received, received_stanza}
use Rattle.conversation.specs.Sending.{shortness}
use Rattle.conversation.specs.Kinds.{Buffers, buffers_of}
use Rattle.conversation.specs.Calls.{receive_two, nothing, outcome, received_two_outcome}
use Rattle.conversation.proofs.Laws.StepsTwo.{all_written}
use Rattle.chunks.specs.Taking.{client, ample, awaited_behind, command, Taken, last_in, no_more, emptied, one_more, taken_text}
use Rattle.chunks.proofs.Laws.Numbers.{at_once_short, room_size}
use Rattle.chunks.proofs.Laws.Short.{read_number}
use Rattle.chunks.proofs.Laws.Texts.{stanza_taken}
use Rattle.client_room.proofs.Laws.Stanzas.{line_of, body_behind, stanza_call_lem, fault_call}

pub filled_front : (x o : List ℕ) → length x ≤ length o → filled x o ≡ x ++ drop (length x) o
filled_front x o l = ap (λ f. pick f o (x ++ drop (length x) o)) (le-ltb (length o) (length x) l)

module _ (s : Session) (b : BuffersTwo) (line body : List ℕ) (k : ℕ) where
  abbrev cmd : CommandTwo
  cmd = command_two s.machine line body

  -- what is written at once
  abbrev answer : List ℕ
  answer = text_of (at_once s.screen cmd)

  -- the number but for 15
  abbrev number : ℕ
  number = number_received s b line body

  abbrev accepted : List ℕ → Received
  accepted out = record {
    answer = took (word_of cmd) k (length answer);
    session = moved s (phase_received s.screen cmd) (applied s.tables b cmd (payload_of cmd line body));
    buffers = filled_by s.tables b cmd (payload_of cmd line body);
    output = filled answer out;
  }

  -- by the buffer that is lent
  data Judged (out : List ℕ) : Type 0 where
    accepts : length answer ≤ length out → received_stanza s b out line body k ≡ accepted out → received_stanza s b ample line body k ≡ accepted ample → Judged out
    refuses : (n : ℕ) → (n ≡ 0 → ⊥) → received_stanza s b out line body k ≡ refused_receipt n s b out →
        received_stanza s b ample line body k ≡ refused_receipt n s b ample → Judged out
    overflows : length out < length answer → received_stanza s b out line body k ≡ refused_receipt 15 s b out →
        received_stanza s b ample line body k ≡ accepted ample → Judged out

  abbrev by : ℕ → List ℕ → Received
  by n out = pick (eqb n 0) (accepted out) (refused_receipt n s b out)

  by_is : (out : List ℕ) → received_stanza s b out line body k ≡ by (first_of number (shortness answer out)) out
  unfolding received_stanza
  by_is out = refl

  answer_room : length answer ≤ length ample
  answer_room = omega (arith, at_once_short (at_once s.screen cmd), room_size)

  by_long : (out : List ℕ) → length answer ≤ length out → number ≡ 0 → received_stanza s b out line body k ≡ accepted out
  by_long out l z = by_is out ∙ ap (λ n. by n out) (ap₂ first_of z (ap (λ f. pick f 15 0) (le-ltb (length out) (length answer) l)))

  by_short : (out : List ℕ) → length out < length answer → number ≡ 0 → received_stanza s b out line body k ≡ refused_receipt 15 s b out
  by_short out l z = by_is out ∙ ap (λ n. by n out) (ap₂ first_of z (ap (λ f. pick f 15 0) (lt-ltb (length out) (length answer) l)))

  by_refused : (out : List ℕ) → (number ≡ 0 → ⊥) → received_stanza s b out line body k ≡ refused_receipt number s b out
  by_refused out z =
      by_is out ∙ ap (λ f. by (pick f (shortness answer out) number) out) (ne_eqb number 0 z)
      ∙ ap (λ f. pick f (accepted out) (refused_receipt number s b out)) (ne_eqb number 0 z)

  judged : (out : List ℕ) → Judged out
  judged out = go (eqb number 0) refl (ltb (length out) (length answer)) refl
    where
      go : (d : Bool) → eqb number 0 ≡ d → (f : Bool) → ltb (length out) (length answer) ≡ f → Judged out
      go true h true g =
          let l = ltb-true (length out) (length answer) g in
          overflows l (by_short out l (eqb-true number 0 h)) (by_long ample answer_room (eqb-true number 0 h))
      go true h false g =
          let l = ltb-false (length out) (length answer) g in
          accepts l (by_long out l (eqb-true number 0 h)) (by_long ample answer_room (eqb-true number 0 h))
      go false h f g = refuses number (eqb-false number 0 h) (by_refused out (eqb-false number 0 h)) (by_refused ample (eqb-false number 0 h))

-- ---- what a stanza and the text behind it come to

-- behind a command that was accepted, with j bytes of an answer at the front of the buffer
pub record TookOn (u : Taken) (w : WordTwo) (j : ℕ) (r : Received) (b : Buffers) (out t x : List ℕ) : Type 0 where
  pub same : u ≡ one_more (command (text_of_word w)) (take j r.output)
      (taken_text client r.session (buffers_of b.first r.buffers) (awaited_behind client r.session.phase t) x)
  pub fits : j ≤ length out
  pub rest : drop j r.output ≡ drop j out
  pub size : length r.output ≡ length out

-- behind a refusal
pub record Declined (u : Taken) (n : ℕ) (r : Received) (b : Buffers) (out : List ℕ) : Type 0 where
  pub same : u ≡ no_more n (emptied r.session []) (buffers_of b.first r.buffers)
  pub output : r.output ≡ out

module _ (s : Session) (b : Buffers) (t : List ℕ) (l m k : ℕ) (out : List ℕ) (two : s.phase ≡ Two) (h : read_first t ≡ stanza l m k)
    (r : Received) (e : r ≡ received_stanza s b.second out (line_of t l) (body_behind t l k) k) (t' x : List ℕ) where
  abbrev taken : Taken
  taken = stanza_taken client b (outcome s b (receive_two t ample)) t' x

  abbrev ans : List ℕ
  ans = answer s b.second (line_of t l) (body_behind t l k) k

  abbrev wrd : WordTwo
  wrd = word_of (cmd s b.second (line_of t l) (body_behind t l k) k)

  abbrev acc : List ℕ → Received
  acc o = accepted s b.second (line_of t l) (body_behind t l k) k o

  abbrev stanza_in : List ℕ → Received
  stanza_in o = received_stanza s b.second o (line_of t l) (body_behind t l k) k

  abbrev onward : Received → List ℕ → Taken
  onward r w = one_more (command (text_of_word wrd)) w
      (taken_text client r.session (buffers_of b.first r.buffers) (awaited_behind client r.session.phase t') x)

  taken_accepted : stanza_in ample ≡ acc ample → taken ≡ onward (acc ample) ans
  taken_accepted q =
      ap (λ o. stanza_taken client b o t' x) (stanza_call_lem s b t ample l m k two h ∙ ap (received_two_outcome b.first) q)
      ∙ ap (onward (acc ample)) (all_written ans ample (answer_room s b.second (line_of t l) (body_behind t l k) k))

  taken_refused : (n : ℕ) → (n ≡ 0 → ⊥) → stanza_in ample ≡ refused_receipt n s b.second ample →
      taken ≡ no_more n (emptied (refused_receipt n s b.second ample).session []) b
  taken_refused n z q =
      let v = refused_receipt n s b.second ample in
      let u = taken_text client v.session (buffers_of b.first v.buffers) (awaited_behind client v.session.phase t') x in
      ap (λ o. stanza_taken client b o t' x) (stanza_call_lem s b t ample l m k two h ∙ ap (received_two_outcome b.first) q)
      ∙ ap (λ f. pick f (one_more (last_in nothing) (take 0 ample) u) (no_more n (emptied v.session []) b)) (ne_eqb n 0 z)

  at_accepted : length ans ≤ length out → stanza_in ample ≡ acc ample → TookOn taken wrd (length ans) (acc out) b out t' x
  at_accepted f q = record {
    same = taken_accepted q ∙ ap (onward (acc ample)) (sym (all_written ans out f));
    fits = f;
    rest = ap (drop (length ans)) (filled_front ans out f) ∙ drop_at ans (drop (length ans) out) (length ans) refl;
    size = omega (arith, ap length (filled_front ans out f), length-append ans (drop (length ans) out), length-drop (length ans) out);
  }

  pub took_on : (w : WordTwo) (i j : ℕ) → r.answer ≡ took w i j → TookOn taken w j r b out t' x
  took_on w i j q = go (judged s b.second (line_of t l) (body_behind t l k) k out)
    where
      go : Judged s b.second (line_of t l) (body_behind t l k) k out → TookOn taken w j r b out t' x
      go (accepts f eo er) =
          let y : took w i j ≡ took wrd k (length ans) = sym q ∙ ap (λ r. r.answer) (e ∙ eo) in
          let wz : wrd ≡ w = cc in
          let jz : length ans ≡ j = cc in
          subst (λ r. TookOn taken w j r b out t' x) (sym (e ∙ eo))
          (subst (λ w. TookOn taken w j (acc out) b out t' x) wz (subst (λ j. TookOn taken wrd j (acc out) b out t' x) jz (at_accepted f er)))
      go (refuses n z eo er) =
          let y : took w i j ≡ declined n = sym q ∙ ap (λ r. r.answer) (e ∙ eo) in
          let z : ◌≡◌ {A = ℕ} 0 1 = cc in
          absurd (omega arith)
      go (overflows f eo er) =
          let y : took w i j ≡ declined 15 = sym q ∙ ap (λ r. r.answer) (e ∙ eo) in
          let z : ◌≡◌ {A = ℕ} 0 1 = cc in
          absurd (omega arith)

  pub declined_is : (n : ℕ) → r.answer ≡ declined n → length taken.written ≤ length out → Declined taken n r b out
  declined_is n q w = go (judged s b.second (line_of t l) (body_behind t l k) k out)
    where
      go : Judged s b.second (line_of t l) (body_behind t l k) k out → Declined taken n r b out
      go (accepts f eo er) =
          let y : declined n ≡ took wrd k (length ans) = sym q ∙ ap (λ r. r.answer) (e ∙ eo) in
          let z : ◌≡◌ {A = ℕ} 0 1 = cc in
          absurd (omega arith)
      go (refuses i z eo er) =
          let y : declined n ≡ declined i = sym q ∙ ap (λ r. r.answer) (e ∙ eo) in
          let nz : i ≡ n = cc in
          subst (λ r. Declined taken n r b out) (sym (e ∙ eo))
          (subst (λ n. Declined taken n (refused_receipt i s b.second out) b out) nz (record { same = taken_refused i z er; output = refl }))
      go (overflows f eo er) =
          let more = taken_text client (acc ample).session (buffers_of b.first (acc ample).buffers) (awaited_behind client (acc ample).session.phase t') x in
          absurd (omega (arith, ap (λ u. length u.written) (taken_accepted er), length-append ans more.written))

-- a text that no stanza begins
pub fault_is : (s : Session) (b : Buffers) (t x : List ℕ) (m : ℕ) → s.phase ≡ Two → read_first t ≡ refused m →
    stanza_taken client b (outcome s b (receive_two t ample)) t x ≡ no_more m (emptied (refused_receipt m s b.second ample).session []) b
fault_is s b t x m two h =
    let v = refused_receipt m s b.second ample in
    let u = taken_text client v.session (buffers_of b.first v.buffers) (awaited_behind client v.session.phase t) x in
    ap (λ o. stanza_taken client b o t x) (fault_call s b t ample m two h)
    ∙ ap (λ f. pick f (one_more (last_in nothing) (take 0 ample) u) (no_more m (emptied v.session []) b))
    (ne_eqb m 0 (read_number (λ m. m ≡ 0 → ⊥) (λ z. omega arith) (λ z. omega arith) (λ z. omega arith) t m h))
