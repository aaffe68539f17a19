-- A reply, and what was kept back behind it.
use Prim.Native.Nat.{ℕ, ◌+◌, ◌-◌, ◌≤◌, ◌<◌, min}
use mathlib.Core.Path.{◌≡◌, refl, sym, ap, ap₂, ◌∙◌, subst}
use mathlib.Core.Bool.{Bool, true, false}
use mathlib.Core.List.{List, [], ◌++◌}
use lib.Dec.{eqb, leb}
use lib.ListN.{length, take, drop, length-append, length-drop}
use lib.Seq.{length-take-le, take-append_seam, drop-append-add, drop-drop}
use native.Mathlib.Omega.{arith}
use borrow.Author.Tests.{leb-true}
use Rattle.refusal.specs.Output.{Answer, bytes, refused, filled}
use Rattle.refusal.specs.Pick.{pick}
use Rattle.std.specs.Prelude.{None, Ok}
use Rattle.refusal.proofs.Laws.Booleans.{and_true}
use Rattle.stanza.specs.Automaton.{start}
use Rattle.stanza.specs.Grammar.{stanza_text}
use Rattle.stanza.specs.Writing.{is_writable, buffer_after}
use Rattle.responses.specs.Responses.{fits_whole, response_line}
use Rattle.responses.specs.declared.Response.{Response}
use Rattle.session.specs.declared.phases.Phase.{Phase}
use Rattle.session.specs.declared.phases.Phase.TheVariants.{One, Two, Awaiting, Ended, Closed}
use Rattle.session.specs.declared.sessions.Session.{Session as CodeSession}
use Rattle.session.specs.Session.{session_of}
use Rattle.phase_one.specs.PhaseOne.{BuffersOne}
use Rattle.conversation.specs.Kinds.{Buffers}
use Rattle.conversation.specs.TurnsTwo.{Due, due, undue, due_in, answered}
use Rattle.chunks.specs.Cutting.{cut}
use Rattle.chunks.specs.Taking.{client, Intake, Taken, no_stanza, behind, taken_text}
use Rattle.chunks.specs.Chunks.{Outcome, untaken, is_held, judged, reply_ahead, replied_to, replied_by, replied}
use Rattle.chunks.specs.Uncut.{is_waiting}
use Rattle.chunks.proofs.Laws.Texts.{behind_none}
use Rattle.intake.specs.Intake.{intake_of}
use Rattle.intake.specs.declared.answers.Received.{Received as CodeReceived}
use Rattle.client_room.specs.Room.{has_room}
use Rattle.client_room.proofs.Laws.Room.{more_room, less_room}
use Rattle.client_receiving.specs.Replying.{due_sized, answered_with}
use Rattle.client_receiving.specs.Texts.{lent, behind_answer, MayTake, Answers}
use Rattle.client_receiving.proofs.Laws.Stanzas.{filled_front}
use Rattle.client_receiving.proofs.Laws.Texts.{none_lent}

-- ---- the number

-- by the tests: the response fits, it can be written
abbrev number : Bool → Bool → ℕ
number f z = pick f (pick z 0 17) 12

-- how many bytes, or the number
abbrev sized_by : Bool → Bool → ℕ → Answer
sized_by f z k = pick f (pick z (bytes k) (refused 17)) (refused 12)

module _ (i : Intake) (b : Buffers) (out : List ℕ) (o : Outcome) where
  by_refused : (f z : Bool) (n k : ℕ) → refused n ≡ sized_by f z k → untaken n i b out ≡ pick (eqb (number f z) 0) o (untaken (number f z) i b out)
  by_refused true true n k h = let z : ◌≡◌ {A = ℕ} 0 1 = cc in absurd (omega arith)
  by_refused true false n k h = let z : n ≡ 17 = cc in ap (λ n. untaken n i b out) z
  by_refused false z n k h = let z : n ≡ 12 = cc in ap (λ n. untaken n i b out) z

  by_bytes : (f z : Bool) (n k : ℕ) → bytes n ≡ sized_by f z k → (z ≡ true) × (n ≡ k) × (o ≡ pick (eqb (number f z) 0) o (untaken (number f z) i b out))
  by_bytes true true n k h = (refl, cc, refl)
  by_bytes true false n k h = let z : ◌≡◌ {A = ℕ} 0 1 = cc in absurd (omega arith)
  by_bytes false z n k h = let z : ◌≡◌ {A = ℕ} 0 1 = cc in absurd (omega arith)

-- a reply that is due and can be written: the command waits, and 15 of the whole is left
pub record Fits (i : Intake) (b : Buffers) (r : Response) (body out : List ℕ) (n : ℕ) : Type 0 where
  pub waits : is_waiting client i.session.phase ≡ true
  pub writable : is_writable (response_line r) body ≡ true
  pub size : n ≡ length (stanza_text (response_line r) body)
  pub same : judged i b out (answered_with i.session b r body i.kept) ≡ replied i b r body out

module _ (i : Intake) (b : Buffers) (r : Response) (body out : List ℕ) (n : ℕ) where
  pub reply_refused : refused n ≡ due_sized (due_in i.session.phase) r body → untaken n i b out ≡ replied i b r body out
  unfolding replied_to
  reply_refused = go (due_in i.session.phase)
    where
      go : (d : Due) → refused n ≡ due_sized d r body → untaken n i b out ≡ replied_by d i b r body out
      go (due w) h =
          by_refused i b out (judged i b out (answered_with i.session b r body i.kept)) (fits_whole w r body) (is_writable (response_line r) body) n (length (stanza_text (response_line r) body)) h
      go (undue m) h = let z : n ≡ m = cc in ap (λ n. untaken n i b out) z

  due_waits : (p : Phase) → bytes n ≡ due_sized (due_in p) r body → is_waiting client p ≡ true
  due_waits One h = let z : ◌≡◌ {A = ℕ} 0 1 = cc in absurd (omega arith)
  due_waits Two h = let z : ◌≡◌ {A = ℕ} 0 1 = cc in absurd (omega arith)
  due_waits (Awaiting w) h = refl
  due_waits Ended h = let z : ◌≡◌ {A = ℕ} 0 1 = cc in absurd (omega arith)
  due_waits Closed h = let z : ◌≡◌ {A = ℕ} 0 1 = cc in absurd (omega arith)

  pub reply_fits : bytes n ≡ due_sized (due_in i.session.phase) r body → Fits i b r body out n
  unfolding replied_to
  reply_fits h = let z = go (due_in i.session.phase) h in record { waits = due_waits i.session.phase h; writable = z.0; size = z.1; same = z.2 }
    where
      go : (d : Due) → bytes n ≡ due_sized d r body →
          (is_writable (response_line r) body ≡ true) × (n ≡ length (stanza_text (response_line r) body)) × (judged i b out (answered_with i.session b r body i.kept) ≡ replied_by d i b r body out)
      go (due w) h =
          by_bytes i b out (judged i b out (answered_with i.session b r body i.kept)) (fits_whole w r body) (is_writable (response_line r) body) n (length (stanza_text (response_line r) body)) h
      go (undue m) h = let z : ◌≡◌ {A = ℕ} 0 1 = cc in absurd (omega arith)

-- ---- what was kept back

module _ (s : CodeSession) (xs hs : List (List ℕ)) (input : List ℕ) (waits : is_waiting client s.phase ≡ true) where
  pub back_is : (intake_of client s xs hs input).kept ≡ take (min s.kept 8192) (drop (min s.awaited 8192) input)
  back_is = ap (λ f. take (min s.kept (pick f 8192 8191)) (drop (pick f (min s.awaited 8192) 0) input)) waits

  pub back_none : s.kept ≡ 0 → (intake_of client s xs hs input).kept ≡ []
  back_none z = back_is ∙ ap (λ n. take (min n 8192) (drop (min s.awaited 8192) input)) z

-- ---- room for it

-- the response is longer than the output buffer
pub reply_short : (w : List ℕ) (u : Taken) (n m : ℕ) → length w ≡ m → n < m → false ≡ has_room (reply_ahead w u) n
reply_short w u n m e h = sym (less_room no_stanza w u n (omega (arith, e)))

-- or there is room left for what stands behind it
pub reply_room : (w : List ℕ) (u : Taken) (n m : ℕ) → length w ≡ m → m ≤ n → has_room u (n - m) ≡ has_room (reply_ahead w u) n
reply_room w u n m e h = ap (λ m. has_room u (n - m)) (sym e) ∙ sym (more_room no_stanza w u n (omega (arith, e)))

-- ---- what is received behind it

-- a reply that is begun
abbrev pub begun_with : ℕ → CodeSession → CodeReceived
begun_with n s = record { verdict = Ok tt; count = 0; last = None; written = n; session = s }

-- the session with the reply given
abbrev pub given_to : CodeSession → CodeSession
given_to s = record { machine = s.machine; phase = Two; screen = s.screen; name = s.name; tables = s.tables; reading = s.reading; kept = s.kept; awaited = s.awaited }

-- there is room for the whole or not
pub given_room : (s s' : CodeSession) (xs hs : List (List ℕ)) (b : Buffers) (r : Response) (body back out : List ℕ) (f v : Bool) → s' ≡ given_to s →
    f ≡ has_room (reply_ahead (stanza_text (response_line r) body) (taken_text client (session_of s' xs hs) b [] back)) (length out) → f ≡ v →
    is_held (answered_with (session_of s xs hs) b r body back) out ≡ v
given_room s s' xs hs b r body back out f v e h q =
    sym (h ∙ ap (λ s. has_room (reply_ahead (stanza_text (response_line r) body) (taken_text client (session_of s xs hs) b [] back)) (length out)) e) ∙ q

module _ (s : CodeSession) (xs hs : List (List ℕ)) (r : Response) (body back out out' : List ℕ) (n : ℕ) (writable : is_writable (response_line r) body ≡ true)
    (size : n ≡ length (stanza_text (response_line r) body)) (g : CodeReceived) (begun : g ≡ begun_with n (given_to s)) (put : out' ≡ buffer_after (response_line r) body out) where
  abbrev text : List ℕ
  text = stanza_text (response_line r) body

  abbrev ahead : Buffers → Taken
  ahead b = answered_with (session_of s xs hs) b r body back

  module _ (e t d : List ℕ) (held : (b : BuffersOne) → is_held (ahead (lent b e t d)) out ≡ true) where
    whole_fits : (b : BuffersOne) → length (ahead (lent b e t d)).written ≤ length out
    whole_fits b =
        let u = ahead (lent b e t d) in
        leb-true (length u.written) (length out) (and_true (leb (length u.written) (length out)) (leb (length u.intake.kept) 8192) (held b)).0

    fits : length text ≤ length out
    fits = omega (arith, whole_fits none_lent, length-append text (taken_text client (answered (session_of s xs hs)) (lent none_lent e t d) [] back).written)

    put_front : out' ≡ text ++ drop (length text) out
    put_front = put ∙ ap (λ f. pick f (filled text out) out) writable ∙ filled_front text out fits

    put_size : length out' ≡ length out
    put_size = let l = ap length put_front ∙ length-append text (drop (length text) out) in omega (arith, l, length-drop (length text) out, fits)

    same : (b : BuffersOne) → behind_answer g xs hs (lent b e t d) [] back out' ≡ ahead (lent b e t d)
    same b =
        let u = taken_text client (answered (session_of s xs hs)) (lent b e t d) [] back in
        ap (λ g. behind_answer g xs hs (lent b e t d) [] back out') begun
        ∙ ap (λ w. behind 0 no_stanza w u) (ap₂ take size put_front ∙ take-append_seam text (drop (length text) out))
        ∙ ap (reply_ahead text) (behind_none client (answered (session_of s xs hs)) (lent b e t d) [] (cut start [] back).texts (cut start [] back).rest)

    -- what was kept back may be received
    pub reply_takes : (input : List ℕ) → 16384 ≤ length input → MayTake g xs hs e t d back input out'
    reply_takes input i = record {
      few = omega (arith, ap (λ g. g.count) begun);
      within = omega (arith, ap (λ g. g.written) begun, size, put_size, fits);
      long = i;
      held = λ b. ap (λ t. is_held t out') (same b) ∙ ap (λ n. has_room (ahead (lent b e t d)) n) put_size ∙ held b;
    }

    -- the response stands before what was written for it
    pub reply_taken : (b : BuffersOne) (x : CodeReceived) (xs' : List (List ℕ)) (input after e' t' d' out'' : List ℕ) →
        Answers x xs' hs input after (lent b e' t' d') out' out'' (behind_answer g xs hs (lent b e t d) [] back out') →
        Answers x xs' hs input after (lent b e' t' d') out out'' (ahead (lent b e t d))
    reply_taken b x xs' input after e' t' d' out'' h =
        let a = subst (λ t. Answers x xs' hs input after (lent b e' t' d') out' out'' t) (same b) h in
        let v = (taken_text client (answered (session_of s xs hs)) (lent b e t d) [] back).written in
        let w = (ahead (lent b e t d)).written in
        let l : length w ≡ length text + length v = length-append text v in
        let rest : drop (length w) out' ≡ drop (length w) out =
        ap₂ drop l put_front ∙ drop-append-add text (drop (length text) out) (length v) ∙ drop-drop (length v) (length text) out ∙ ap (λ n. drop n out) (sym l) in
        record {
          says = a.says;
          size = a.size;
          output = a.output ∙ filled_front w out' (omega (arith, whole_fits b, put_size)) ∙ ap (λ i. w ++ i) rest ∙ sym (filled_front w out (whole_fits b));
        }

-- ---- the copy

-- bytes of the input at the front of a store
module _ (input store store' : List ℕ) (at k m : ℕ) (same : m ≡ k) (within : at + k ≤ length input)
    (copied : store' ≡ filled (take m (drop at input)) store) (room : k ≤ length store) where
  abbrev part : List ℕ
  part = take m (drop at input)

  part_long : length part ≡ k
  part_long = length-take-le m (drop at input) (omega (arith, length-drop at input)) ∙ same

  pub back_copied : take k store' ≡ take k (drop at input)
  back_copied =
      ap₂ take (sym part_long) (copied ∙ filled_front part store (omega (arith, part_long))) ∙ take-append_seam part (drop (length part) store)
      ∙ ap (λ m. take m (drop at input)) same

  pub back_long : k ≡ length (take k store')
  back_long = sym (ap length back_copied ∙ length-take-le k (drop at input) (omega (arith, length-drop at input)))
