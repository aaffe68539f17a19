-- A chunk in which a response ends: what the code's step for one stanza and the bytes behind it come to.
use Prim.Native.Nat.{ℕ, ◌-◌, ◌≤◌, ◌<◌, min}
use mathlib.Core.Path.{◌≡◌, refl, sym, ap, ap₂, ◌∙◌}
use mathlib.Core.Bool.{Bool, true, false, ◌&&◌}
use mathlib.Core.List.{List, [], ◌++◌, append-nil}
use lib.Dec.{eqb, leb}
use lib.ListN.{length, take, drop, length-drop}
use native.Mathlib.Omega.{arith}
use borrow.Author.Tests.{eqb-true, eqb-false, eq-eqb, ne_eqb, lt-leb, leb-true, leb-false, ltb-false}
use Rattle.refusal.specs.Number.{number_of}
use Rattle.refusal.specs.Output.{filled}
use Rattle.refusal.specs.Pick.{pick}
use Rattle.refusal.proofs.Laws.Booleans.{cases}
use Rattle.refusal.proofs.Laws.Number.{number_not_zero}
use Rattle.stanza.specs.Reading.{stanza, refused, read_first}
use Rattle.stanza.specs.Resuming.{whole}
use Rattle.session.specs.Session.{Session, session_of}
use Rattle.session.specs.declared.phases.Phase.TheVariants.{Awaiting}
use Rattle.session.specs.declared.sessions.Session.{Session as CodeSession}
use Rattle.session.specs.declared.words.WordTwo.{WordTwo}
use Rattle.phase_one.specs.PhaseOne as one
use Rattle.conversation.specs.Calls as one_call
use Rattle.conversation.specs.Calls.{respond, outcome, responded_outcome, body_read}
use Rattle.conversation.specs.Kinds.{Buffers, buffers_of}
use Rattle.conversation.specs.PhaseTwo as two
use Rattle.conversation.specs.Responding.{responded, responded_by, responded_text}
use Rattle.conversation.specs.TurnsTwo.{due_in}
use Rattle.conversation.proofs.Laws.Accepted.{accepted}
use Rattle.conversation.proofs.Laws.StepsTwo.{all_written}
use Rattle.chunks.specs.Taking.{plugin, reads, ample, turn_at, stanza_call, no_stanza, last_in, Taken, Intake, no_more, emptied, one_more, taken_text}
use Rattle.chunks.specs.Chunks.{Outcome, judged, untaken, taken}
use Rattle.chunks.proofs.Laws.Cases.{held, keeps_not_reads}
use Rattle.chunks.proofs.Laws.Rooms.{response_fits, response_overflows, response_declined}
use Rattle.chunks.proofs.Laws.Runs.{judged_held}
use Rattle.chunks.proofs.Laws.Short.{taken_not_short}
use Rattle.chunks.proofs.Laws.Texts.{stanza_taken, text_dropped, text_stanza}
use Rattle.intake.specs.Intake.{intake_of}
use Rattle.intake.specs.Settling.{MaySettle}
use Rattle.intake.specs.Fronts.{front_of}
use Rattle.intake.proofs.Laws.Fronts.{chunk_begins, chunk_ends}
use Rattle.intake.proofs.Laws.Keeping.{filled_empty}
use Rattle.plugin_receiving.specs.Responding.{answering_said, responded_said, settled_as, settled_response}
use Rattle.std.specs.Prelude.{Result, Ok, Err}
use Rattle.refusal.specs.declared.Refusal.{Refusal}
use Rattle.plugin_receiving.specs.declared.responding.Answered.{Answered as CodeAnswered}
use Rattle.session.specs.declared.output.Outcome.{Outcome as CodeOutcome}
use Rattle.plugin_receiving.proofs.Laws.Commands.{stanza_not_refused}

-- some buffers, where none is used
pub no_buffers : Buffers
no_buffers = buffers_of (one.buffers_of [] [] [] []) (two.buffers_of [] [] [])

-- ---- what a text comes to, by the output buffer

-- where nothing is written and no more than 8,192 bytes are kept, a chunk is answered by what its text comes to
pub judged_silent : (i : Intake) (b : Buffers) (out : List ℕ) (t : Taken) → t.written ≡ [] → length t.intake.kept ≤ 8192 →
    judged i b out t ≡ record { number = t.number; count = t.count; last = t.last; size = 0; intake = t.intake; buffers = t.buffers; output = out }
judged_silent i b out t w k =
    judged_held i b out t (omega (arith, ap length w)) k ∙ ap (λ x. at (length x) (filled x out)) w ∙ ap (at 0) (sym (filled_empty out))
  where
    at : ℕ → List ℕ → Outcome
    at n o = record { number = t.number; count = t.count; last = t.last; size = n; intake = t.intake; buffers = t.buffers; output = o }

-- more is written than has room
judged_overflows : (i : Intake) (b : Buffers) (out : List ℕ) (t : Taken) → length out < length t.written → judged i b out t ≡ untaken 15 i b out
judged_overflows i b out t l =
    ap (λ f. pick (f && leb (length t.intake.kept) 8192) (held out t) (untaken 15 i b out)) (lt-leb (length t.written) (length out) l)

-- ---- a response and what stands behind it

module _ (b : Buffers) (i : Intake) (left : ℕ) (s : Session) (after : List ℕ) where
  -- the code's answer, as an outcome
  abbrev said : Result CodeAnswered Refusal → one_call.Outcome
  said a = responded_outcome b (record { answer = answering_said a; session = s; output = after })

  -- .. and what a chunk comes to with it
  abbrev settled : Result CodeAnswered Refusal → Outcome
  settled a = settled_as (answering_said a) s after i b left

  -- .. by the call's outcome: it is accepted
  abbrev took : one_call.Outcome → Outcome
  took o = record {
    number = pick (eqb left 0) 0 14;
    count = 1;
    last = last_in o.given;
    size = o.size;
    intake = emptied o.session [];
    buffers = b;
    output = o.output;
  }

  settled_took : (a : Result CodeAnswered Refusal) (o : one_call.Outcome) → said a ≡ o → o.number ≡ 0 → settled a ≡ took o
  settled_took (Ok a) o e z = ap took e
  settled_took (Err q) o e z = absurd (eqb-false (number_of q) 0 (number_not_zero q) (ap (λ (o : one_call.Outcome). o.number) e ∙ z))

  -- .. or it is refused
  abbrev declined : one_call.Outcome → Outcome
  declined o = record { number = o.number; count = 0; last = no_stanza; size = 0; intake = emptied o.session []; buffers = b; output = o.output }

  settled_refused : (a : Result CodeAnswered Refusal) (o : one_call.Outcome) → said a ≡ o → (o.number ≡ 0 → ⊥) → (o.number ≡ 15 → ⊥) → settled a ≡ declined o
  settled_refused (Ok a) o e z f = absurd (z (sym (ap (λ (o : one_call.Outcome). o.number) e)))
  settled_refused (Err q) o e z f =
      ap (λ d. pick d (untaken (number_of q) i b after) (declined (said (Err q))))
      (ne_eqb (number_of q) 15 (λ h. f (sym (ap (λ (o : one_call.Outcome). o.number) e) ∙ h)))
      ∙ ap declined e

  settled_short : (a : Result CodeAnswered Refusal) (o : one_call.Outcome) → said a ≡ o → o.number ≡ 15 → settled a ≡ untaken 15 i b o.output
  settled_short (Ok a) o e z = let h : ◌≡◌ {A = ℕ} 0 15 = ap (λ (o : one_call.Outcome). o.number) e ∙ z in absurd (omega arith)
  settled_short (Err q) o e z =
      let h : number_of q ≡ 15 = ap (λ (o : one_call.Outcome). o.number) e ∙ z in
      ap (λ d. pick d (untaken (number_of q) i b after) (declined (said (Err q)))) (eq-eqb (number_of q) 15 h)
      ∙ ap₂ (λ n y. untaken n i b y) h (ap (λ (o : one_call.Outcome). o.output) e)

module _ (s : Session) (b : Buffers) (i : Intake) (bytes t rest out : List ℕ)
    (is : taken plugin i b bytes ≡ stanza_taken plugin b (outcome s b (respond t ample)) t rest) where
  abbrev in_room : one_call.Outcome
  in_room = outcome s b (respond t ample)

  -- by whether it is accepted
  abbrev by_number : Bool → Taken
  by_number f =
      pick f (one_more (last_in in_room.given) (take in_room.size in_room.output) (taken_text plugin in_room.session b [] rest))
      (no_more in_room.number (emptied in_room.session []) b)

  -- bytes behind it are dropped
  abbrev dropping : Taken
  dropping = no_more (pick (eqb (length rest) 0) 0 14) (emptied in_room.session []) b

  module _ (z : in_room.number ≡ 0) where
    abbrev w : List ℕ
    w = take in_room.size in_room.output

    written_size : length w ≡ in_room.size
    written_size =
        let a = (accepted s b (respond t ample) z).1.written in
        let body = body_read (read_first t) t in
        ap length (ap₂ take a.size a.output ∙ all_written body ample (ltb-false (length ample) (length body) a.fits)) ∙ sym a.size

    behind_is : taken_text plugin in_room.session b [] rest ≡ dropping
    behind_is =
        text_dropped plugin in_room.session b [] 14 (ap (λ (s : Session). turn_at plugin s.phase) (accepted s b (respond t ample) z).1.session) rest
        ∙ go (eqb (length rest) 0)
      where
        go : (f : Bool) →
            pick f (no_more 0 (emptied in_room.session []) b) (no_more 14 (emptied in_room.session []) b) ≡ no_more (pick f 0 14) (emptied in_room.session []) b
        go true = refl
        go false = refl

    abbrev more : List ℕ → Taken
    more y = record {
      number = pick (eqb (length rest) 0) 0 14;
      count = 1;
      last = last_in in_room.given;
      written = y;
      intake = emptied in_room.session [];
      buffers = b;
    }

    one_taken : taken plugin i b bytes ≡ more w
    one_taken =
        is
        ∙ ap by_number (eq-eqb in_room.number 0 z)
        ∙ ap (one_more (last_in in_room.given) w) behind_is
        ∙ ap more (append-nil w)

  none_taken : (in_room.number ≡ 0 → ⊥) → taken plugin i b bytes ≡ no_more in_room.number (emptied in_room.session []) b
  none_taken z = is ∙ ap by_number (ne_eqb in_room.number 0 z)

  -- the code's step with the lent buffer settles the chunk
  pub response_settled : (x : CodeOutcome CodeAnswered) (xs hs : List (List ℕ)) (after : List ℕ) → responded_said x xs hs after ≡ responded s t out →
      settled_response (responded_said x xs hs after) i b (length rest) ≡ judged i b out (taken plugin i b bytes)
  response_settled x xs hs after e =
      let v = (responded_said x xs hs after).session in
      let said-is : said b i (length rest) v after x.answer ≡ outcome s b (respond t out) = ap (responded_outcome b) e in
      cases (eqb in_room.number 0)
      (λ f.
      let z = eqb-true in_room.number 0 f in
      cases (leb in_room.size (length out))
      (λ g.
      let l = leb-true in_room.size (length out) g in
      settled_took b i (length rest) v after x.answer _ (said-is ∙ response_fits s b t out z l) z
      ∙ ap (λ n. record {
        number = pick (eqb (length rest) 0) 0 14;
        count = 1;
        last = last_in in_room.given;
        size = n;
        intake = emptied in_room.session [];
        buffers = b;
        output = filled (w z) out;
      }) (sym (written_size z))
      ∙ sym (ap (judged i b out) (one_taken z) ∙ judged_held i b out (more z (w z)) (omega (arith, written_size z)) (omega arith)))
      (λ g.
      let l = leb-false in_room.size (length out) g in
      settled_short b i (length rest) v after x.answer _ (said-is ∙ response_overflows s b t out z l) refl
      ∙ sym (ap (judged i b out) (one_taken z) ∙ judged_overflows i b out (more z (w z)) (omega (arith, written_size z)))))
      (λ f.
      let z = eqb-false in_room.number 0 f in
      settled_refused b i (length rest) v after x.answer _ (said-is ∙ response_declined s b t out z) z
      (λ h. taken_not_short plugin i b bytes (ap (λ (t : Taken). t.number) (none_taken z) ∙ h))
      ∙ sym (ap (judged i b out) (none_taken z) ∙ judged_silent i b out (no_more in_room.number (emptied in_room.session []) b) refl (omega arith)))

-- ---- a chunk while a command awaits its response

module _ (s : CodeSession) (w : WordTwo) (due : s.phase ≡ Awaiting w) (input : List ℕ) (long : 8192 ≤ length input) (chunk : List ℕ) where
  -- no whole stanza stands in it
  pub may_settle_due : (n : ℕ) → read_first chunk ≡ refused n → MaySettle plugin s.phase reads [] chunk input
  may_settle_due n h = record {
    turn = ap (turn_at plugin) due;
    none_waits = λ k. refl;
    no_stanza = λ r l m k e. stanza_not_refused n l m k (sym h ∙ e);
    short = λ k. absurd (keeps_not_reads (sym k));
    long = long;
  }

  module _ (xs hs : List (List ℕ)) (b : Buffers) where
    abbrev i : Intake
    i = intake_of plugin s xs hs input

    abbrev v : Session
    v = session_of s xs hs

    -- it begins a stanza
    begun_text : front_of s.reading (min s.kept 8191) chunk ≡ whole 0 → taken_text plugin v b [] chunk ≡ taken plugin i b chunk
    begun_text h = sym (chunk_begins plugin s xs hs input (ap (turn_at plugin) due) long chunk b h)

    module _ (x : CodeOutcome CodeAnswered) (out after : List ℕ) where
      by_due_lem : (text : List ℕ) → responded_said x xs hs after ≡ responded_text (read_first text) w v text out → responded_said x xs hs after ≡ responded v text out
      by_due_lem text e = e ∙ sym (ap (λ p. responded_by (due_in p) v text out) due)

      -- .. and the stanza ends in it
      pub begun_settled : front_of s.reading (min s.kept 8191) chunk ≡ whole 0 → (l m k : ℕ) → read_first chunk ≡ stanza l m k →
          responded_said x xs hs after ≡ responded_text (stanza l m k) w v chunk out →
          settled_response (responded_said x xs hs after) i b (length chunk - k) ≡ judged i b out (taken plugin i b chunk)
      begun_settled f l m k h e =
          ap (settled_response (responded_said x xs hs after) i b) (sym (length-drop k chunk))
          ∙ response_settled v b i chunk chunk (drop k chunk) out
          (sym (begun_text f) ∙ text_stanza plugin v b [] (ap (turn_at plugin) due) chunk l m k h
          ∙ ap (λ p. stanza_taken plugin b (outcome v b (stanza_call plugin p chunk)) chunk (drop k chunk)) due)
          x xs hs after (by_due_lem chunk (e ∙ ap (λ r. responded_text r w v chunk out) (sym h)))

      -- a stanza that began in an earlier chunk ends behind k bytes
      pub ended_settled : (k : ℕ) → front_of s.reading (min s.kept 8191) chunk ≡ whole k → (k ≡ 0 → ⊥) →
          (text : List ℕ) → text ≡ take (min s.kept 8191) input ++ take k chunk →
          responded_said x xs hs after ≡ responded_text (read_first text) w v text out →
          settled_response (responded_said x xs hs after) i b (length chunk - k) ≡ judged i b out (taken plugin i b chunk)
      ended_settled k h some text at e =
          ap (settled_response (responded_said x xs hs after) i b) (sym (length-drop k chunk))
          ∙ response_settled v b i chunk text (drop k chunk) out
          (chunk_ends plugin s xs hs input (ap (turn_at plugin) due) long chunk b k h some
          ∙ ap₂ (λ p t. stanza_taken plugin b (outcome v b (stanza_call plugin p t)) t (drop k chunk)) due (sym at))
          x xs hs after (by_due_lem text e)
