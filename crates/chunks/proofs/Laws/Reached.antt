-- What an end keeps behind any calls from an opening: the front of an unfinished stanza, or what was kept back for a reply; since each call that is taken leaves
-- it so, and one that is not leaves it as it was.
use Prim.Native.Nat.{ℕ, ◌≤◌}
use mathlib.Core.Path.{◌≡◌, refl, sym, ap, subst, ◌∙◌}
use mathlib.Core.Bool.{Bool, true, false, false≢true}
use mathlib.Core.Logic.{◌↔◌}
use mathlib.Core.List.{List, [], ◌∷◌, ◌++◌}
use lib.Dec.{eqb, leb}
use lib.ListN.{length}
use native.Mathlib.Omega.{arith}
use borrow.Author.Tests.{eqb-true, eqb-false, leb-true}
use Rattle.refusal.specs.Pick.{pick}
use Rattle.refusal.proofs.Laws.Booleans.{cases, and_true}
use Rattle.stanza.specs.Automaton.{State, start, scan}
use Rattle.stanza.specs.Exact.{Begins}
use Rattle.stanza.specs.Reading.{Reading, stanza, refused, read_first, found}
use Rattle.stanza.proofs.Laws.Exact.{refused_2}
use Rattle.responses.specs.declared.Response.{Response}
use Rattle.session.specs.declared.words.WordTwo.{WordTwo}
use Rattle.session.specs.declared.phases.Phase.{Phase}
use Rattle.session.specs.declared.phases.Phase.TheVariants.{One, Two, Awaiting, Ended, Closed}
use Rattle.session.specs.Phases.{closes}
use Rattle.session.specs.Session.{Session, closed, opened}
use Rattle.session.proofs.Laws.Opening.{opened_undue}
use Rattle.phase_one.specs.Commands as one_command
use Rattle.phase_one.specs.Commands.{WordOne}
use Rattle.phase_one.specs.PhaseOne as one
use Rattle.conversation.specs.Calls.{send, send_two, outcome, session_after}
use Rattle.conversation.specs.Kinds.{Buffers}
use Rattle.conversation.specs.Phases.{All, Whole}
use Rattle.conversation.specs.TurnsTwo.{answered}
use Rattle.conversation.proofs.Laws.Accepted.{accepted}
use Rattle.conversation.proofs.Laws.Refusals.{either, refusal}
use Rattle.chunks.specs.Cutting.{Rest, unfinished, impossible, bytes_of, cut}
use Rattle.chunks.specs.Taking.{End, client, plugin, Turn, reads, drops, keeps_back, turn_at, stanza_call, awaited_behind, Intake, Taken, no_more, emptied, keeping, joined, taken_rest, taken_all}
use Rattle.chunks.specs.Chunks.{untaken, is_held, taken, chunked, replied}
use Rattle.chunks.specs.Uncut.{chunk, reply, is_waiting}
use Rattle.chunks.specs.Reached.{AnyCall, piece, sends_one, sends_two, finishes, Has, with_session, intake_after, AnyWith, intake_after_all, IsFront, Bounded, is_idle}
use Rattle.chunks.proofs.Laws.Cases.{drops_not_reads, keeps_not_reads, keeps_not_drops, stanza_cases, chunk_cases, answering, reply_cases}
use Rattle.chunks.proofs.Laws.Reading.{cut_stanza, cut_fault, cut_overlong}
use Rattle.chunks.proofs.Laws.Finish.{turn_not_waiting, chunk_not_two}
use Rattle.chunks.proofs.Laws.Short.{read_number, OutOfTurn, chunk_out_of_turn}
use Rattle.chunks.proofs.Laws.Cutting.{IsWhole, IsRest, none_front, cut_parts}
use Rattle.chunks.proofs.Laws.Stanzas.{after_undue, whole_read}
use Rattle.chunks.proofs.Laws.Taking.{turn_says, turn_waits}

-- the text that waits for the host's reply: a whole stanza where one is due, else none. At the plugin end none is
pub record Waits (e : End) (p : Phase) (a : List ℕ) : Type 0 where
  pub none : is_waiting e p ≡ false → a ≡ []
  pub whole : is_waiting e p ≡ true → Whole a

-- what is kept, of any length: where nothing waits, the front of an unfinished stanza, read as far as is noted; where a reply is due it is read from the start;
-- and none in the phases that drop what they are given (the client's phase one, the plugin's phase two with nothing due, ended, closed)
pub record Settled (e : End) (i : Intake) : Type 0 where
  pub front : is_waiting e i.session.phase ≡ false → IsFront i.reading i.kept
  pub back : is_waiting e i.session.phase ≡ true → i.reading ≡ start
  pub empty : (n : ℕ) → turn_at e i.session.phase ≡ drops n → (i.reading ≡ start) × (i.kept ≡ [])
  pub awaited : Waits e i.session.phase i.awaited

-- .. of at most 8,192 bytes
pub record Keeps (e : End) (i : Intake) : Type 0 where
  pub settled : Settled e i
  pub bound : length i.kept ≤ 8192

-- ---- what is left of a text

-- an empty text is no stanza
empty_not_whole : Whole [] → ⊥
unfolding found scan
empty_not_whole w = let h = w.read in let z : ◌≡◌ {A = ℕ} 0 1 = cc in omega arith

-- nothing waits
waits_none : (e : End) (p : Phase) → is_waiting e p ≡ false → Waits e p []
waits_none e p h = record { none = λ z. refl; whole = λ z. absurd (false≢true (sym h ∙ z)) }

waits_behind : (e : End) (p : Phase) (t : List ℕ) → Whole t → Waits e p (awaited_behind e p t)
waits_behind client One t w = waits_none client One refl
waits_behind client Two t w = waits_none client Two refl
waits_behind client (Awaiting v) t w = record { none = λ z. absurd (false≢true (sym z)); whole = λ z. w }
waits_behind client Ended t w = waits_none client Ended refl
waits_behind client Closed t w = waits_none client Closed refl
waits_behind plugin p t w = waits_none plugin p refl

-- an end that keeps nothing
pub emptied_settled : (e : End) (s : Session) (a : List ℕ) → Waits e s.phase a → Settled e (emptied s a)
emptied_settled e s a w = record { front = λ z. none_front; back = λ z. refl; empty = λ n h. (refl, refl); awaited = w }

-- a closed one
closed_settled : (e : End) (s : Session) → Settled e (emptied (closed s) [])
closed_settled client s = emptied_settled client (closed s) [] (waits_none client Closed refl)
closed_settled plugin s = emptied_settled plugin (closed s) [] (waits_none plugin Closed refl)

-- one that keeps bytes back
back_settled : (e : End) (s : Session) (a bytes : List ℕ) → turn_at e s.phase ≡ keeps_back → Waits e s.phase a → Settled e (keeping s start bytes a)
back_settled e s a bytes h w = record {
  front = λ z. absurd (false≢true (sym z ∙ turn_waits e s.phase h));
  back = λ z. refl;
  empty = λ n q. absurd (keeps_not_drops n (sym h ∙ q));
  awaited = w;
}

rest_settled : (e : End) (s : Session) (b : Buffers) (a : List ℕ) (t : Turn) (r : Rest) → turn_at e s.phase ≡ t → Waits e s.phase a → IsRest r → Settled e (taken_rest t s b a r).intake
rest_settled e s b a reads (unfinished q front) h w st = record {
  front = λ z. st;
  back = λ z. absurd (false≢true (sym ((turn_says e s.phase).waits (λ z. keeps_not_reads (sym z ∙ h))) ∙ z));
  empty = λ n d. absurd (drops_not_reads n (sym d ∙ h));
  awaited = w;
}
rest_settled e s b a reads (impossible n text) h w st = closed_settled e s
rest_settled e s b a (drops n) r h w st = either (λ (x : Taken). Settled e x.intake) (eqb (length (bytes_of r)) 0) (no_more 0 (emptied s a) b) (no_more n (emptied s a) b) (emptied_settled e s a w) (emptied_settled e s a w)
rest_settled e s b a keeps_back r h w st = back_settled e s a (bytes_of r) h w

-- a refused stanza closes the session, or leaves it
refused_settled : (e : End) (s : Session) (b : Buffers) (p : Phase) (t : List ℕ) → is_waiting e s.phase ≡ false → ((outcome s b (stanza_call e p t)).number ≡ 0 → ⊥) → Settled e (emptied (outcome s b (stanza_call e p t)).session [])
refused_settled e s b p t w h = subst (λ x. Settled e (emptied x [])) (sym (refusal s b (stanza_call e p t) h).session) (left e p (outcome s b (stanza_call e p t)).number)
  where
    by : (f : Bool) → Settled e (emptied (pick f (closed s) s) [])
    by true = closed_settled e s
    by false = emptied_settled e s [] (waits_none e s.phase w)

    left : (x : End) (p : Phase) (n : ℕ) → Settled e (emptied (session_after (stanza_call x p t) n s) [])
    left client p n = by (closes n)
    left plugin One n = by (closes n)
    left plugin Two n = by (closes n)
    left plugin (Awaiting w) n = by (closes n)
    left plugin Ended n = by (closes n)
    left plugin Closed n = by (closes n)

-- the stanzas of a text and what stands behind them leave what is kept so
pub all_settled : (e : End) (s : Session) (b : Buffers) (a : List ℕ) (ts : List (List ℕ)) (r : Rest) → Waits e s.phase a → All IsWhole ts → IsRest r → Settled e (taken_all e s b a ts r).intake
unfolding taken_all All
all_settled e s b a [] r w h st = rest_settled e s b a (turn_at e s.phase) r refl w st
all_settled e s b a (t ∷ ts) r w h st =
    let o = outcome s b (stanza_call e s.phase t) in
    stanza_cases (λ x. Settled e x.intake) e s b a t ts r
    (λ q z. all_settled e o.session o.buffers (awaited_behind e o.session.phase t) ts r (waits_behind e o.session.phase t (whole_read t h.0)) h.1 st)
    (λ q z. refused_settled e s b s.phase t ((turn_says e s.phase).waits (λ z. keeps_not_reads (sym z ∙ q))) z) (λ n q. emptied_settled e s a w) (λ q. back_settled e s a (t ++ joined ts (bytes_of r)) q w)

-- ---- calls

held_keeps : (e : End) (out : List ℕ) (x : Taken) → Settled e x.intake → is_held x out ≡ true → Keeps e x.intake
held_keeps e out x k h = record { settled = k; bound = leb-true (length x.intake.kept) 8192 (and_true (leb (length x.written) (length out)) (leb (length x.intake.kept) 8192) h).1 }

-- a chunk
pub chunk_keeps : (e : End) (i : Intake) (b : Buffers) (bytes out : List ℕ) → Keeps e i → Keeps e (chunked e i b bytes out).intake
chunk_keeps e i b bytes out k =
    chunk_cases (λ o. Keeps e o.intake) e i b bytes out
    (λ t h. let c = cut_parts bytes i.reading i.kept (k.settled.front (turn_not_waiting e i.session.phase t)) in
    held_keeps e out (taken e i b bytes) (all_settled e i.session b i.awaited (cut i.reading i.kept bytes).texts (cut i.reading i.kept bytes).rest k.settled.awaited c.texts c.rest) h)
    (λ t h. k) (λ n t h. k)

-- a reply
pub reply_keeps : (i : Intake) (b : Buffers) (r : Response) (body out : List ℕ) → Keeps client i → Keeps client (replied i b r body out).intake
reply_keeps i b r body out k =
    reply_cases (λ o. Keeps client o.intake) i b r body out
    (λ w q t h. let c = cut_parts i.kept start [] none_front in
    held_keeps client out (answering i b r body) (all_settled client (answered i.session) b [] (cut start [] i.kept).texts (cut start [] i.kept).rest (waits_none client Two refl) c.texts c.rest) h)
    (λ w q t h. k) (λ n h. k)

-- a command sent: nothing is kept where one may be

emptied_is : (e : End) (i : Intake) (s : Session) (n : ℕ) → Settled e i → turn_at e i.session.phase ≡ drops n → is_waiting e i.session.phase ≡ false → with_session i s ≡ emptied s []
emptied_is e i s n k t w =
    let z = k.empty n t in
    ap (λ q. keeping s q i.kept i.awaited) z.0 ∙ ap (λ x. keeping s start x i.awaited) z.1 ∙ ap (emptied s) (k.awaited.none w)

none_bound : length {A = ℕ} [] ≤ 8192
none_bound = omega arith

-- behind a command of phase one that was sent nothing is kept
pub sent_empty : (i : Intake) (b : Buffers) (word : WordOne) (arguments body out : List ℕ) → Settled client i → (outcome i.session b (send word arguments body out)).number ≡ 0 →
    intake_after client i b (sends_one word arguments body out) ≡ emptied (outcome i.session b (send word arguments body out)).session []
sent_empty i b word arguments body out k h =
    let a = (accepted i.session b (send word arguments body out) h).applied.turn in
    emptied_is client i _ 14 k (ap (turn_at client) a) (ap (is_waiting client) a)

-- .. of phase two
pub sent_two_empty : (i : Intake) (b : Buffers) (word : WordTwo) (arguments body out : List ℕ) → Settled plugin i → (outcome i.session b (send_two word arguments body out)).number ≡ 0 →
    intake_after plugin i b (sends_two word arguments body out) ≡ emptied (outcome i.session b (send_two word arguments body out)).session []
sent_two_empty i b word arguments body out k h =
    let a = (accepted i.session b (send_two word arguments body out) h).turn in
    emptied_is plugin i _ 14 k (ap (turn_at plugin) a) refl

send_keeps : (i : Intake) (b : Buffers) (word : WordOne) (arguments body out : List ℕ) → Keeps client i → Keeps client (intake_after client i b (sends_one word arguments body out))
send_keeps i b word arguments body out k =
    cases (eqb (outcome i.session b (send word arguments body out)).number 0)
    (λ f. let h = eqb-true (outcome i.session b (send word arguments body out)).number 0 f in
    let a = (accepted i.session b (send word arguments body out) h).applied in
    subst (Keeps client) (sym (sent_empty i b word arguments body out k.settled h))
    (record { settled = emptied_settled client _ [] (waits_none client _ (ap (λ (s : Session). is_waiting client s.phase) a.session ∙ after_undue (one.command_in i.session.machine i.session.name (one_command.line_sent word arguments) body))); bound = none_bound }))
    (λ f. subst (λ s. Keeps client (with_session i s)) (sym (refusal i.session b (send word arguments body out) (eqb-false (outcome i.session b (send word arguments body out)).number 0 f)).session) k)

send_two_keeps : (i : Intake) (b : Buffers) (word : WordTwo) (arguments body out : List ℕ) → Keeps plugin i → Keeps plugin (intake_after plugin i b (sends_two word arguments body out))
send_two_keeps i b word arguments body out k =
    cases (eqb (outcome i.session b (send_two word arguments body out)).number 0)
    (λ f. let h = eqb-true (outcome i.session b (send_two word arguments body out)).number 0 f in
    subst (Keeps plugin) (sym (sent_two_empty i b word arguments body out k.settled h))
    (record { settled = emptied_settled plugin _ [] (waits_none plugin _ refl); bound = none_bound }))
    (λ f. subst (λ s. Keeps plugin (with_session i s)) (sym (refusal i.session b (send_two word arguments body out) (eqb-false (outcome i.session b (send_two word arguments body out)).number 0 f)).session) k)

-- any call
pub call_keeps : (e : End) (i : Intake) (b : Buffers) (c : AnyCall) → Has e c → Keeps e i → Keeps e (intake_after e i b c)
call_keeps client i b (piece (chunk bytes out)) h k = chunk_keeps client i b bytes out k
call_keeps client i b (piece (reply r body out)) h k = reply_keeps i b r body out k
call_keeps client i b (sends_one word arguments body out) h k = send_keeps i b word arguments body out k
call_keeps client i b (sends_two word arguments body out) h k = absurd h
call_keeps client i b finishes h k = k
call_keeps plugin i b (piece (chunk bytes out)) h k = chunk_keeps plugin i b bytes out k
call_keeps plugin i b (piece (reply r body out)) h k = k
call_keeps plugin i b (sends_one word arguments body out) h k = absurd h
call_keeps plugin i b (sends_two word arguments body out) h k = send_two_keeps i b word arguments body out k
call_keeps plugin i b finishes h k = k

pub calls_keep : (e : End) (i : Intake) (cs : List (AnyWith e)) → Keeps e i → Keeps e (intake_after_all e i cs)
unfolding intake_after_all
calls_keep e i [] k = k
calls_keep e i (c ∷ cs) k = calls_keep e (intake_after e i c.buffers c.call) cs (call_keeps e i c.buffers c.call c.has k)

-- an opening, accepted or refused
opened_waits : (e : End) (machine name : List ℕ) (screen : Bool) → is_waiting e (opened machine name screen).session.phase ≡ false
opened_waits client machine name screen = opened_undue machine name screen
opened_waits plugin machine name screen = refl

pub opened_keeps : (e : End) (machine name : List ℕ) (screen : Bool) → Keeps e (emptied (opened machine name screen).session [])
opened_keeps e machine name screen = record {
  settled = emptied_settled e (opened machine name screen).session [] (waits_none e (opened machine name screen).session.phase (opened_waits e machine name screen));
  bound = none_bound;
}

-- behind any calls from an opening
pub reached_keeps : (e : End) (machine name : List ℕ) (screen : Bool) (cs : List (AnyWith e)) → Keeps e (intake_after_all e (emptied (opened machine name screen).session []) cs)
reached_keeps e machine name screen cs = calls_keep e (emptied (opened machine name screen).session []) cs (opened_keeps e machine name screen)

-- the kept bytes are at most 8,192; where nothing waits they are a proper front of a stanza, at most 8,191
pub reached_bounded : (e : End) (machine name : List ℕ) (screen : Bool) (cs : List (AnyWith e)) → Bounded e (intake_after_all e (emptied (opened machine name screen).session []) cs)
reached_bounded e machine name screen cs = let k = reached_keeps e machine name screen cs in record { bound = k.bound; front = k.settled.front }

-- such a front is one by the grammar: some stanza begins with it and is longer
front_begins : (q : State) (x : List ℕ) → IsFront q x → Begins x
front_begins q x h = go (read_first x) refl
  where
    apart : {n : ℕ} {y : List ℕ} → (cut start [] x).rest ≡ impossible n y → Begins x
    apart k = let e = sym k ∙ ap (λ c. c.rest) h.read in let z : ◌≡◌ {A = ℕ} 0 1 = cc in absurd (omega arith)

    go : (r : Reading) → read_first x ≡ r → Begins x
    go (stanza l n k) r = let e = sym (ap (λ c. c.texts) (cut_stanza x l n k r)) ∙ ap (λ c. c.texts) h.read in let z : ◌≡◌ {A = ℕ} 0 1 = cc in absurd (omega arith)
    go (refused m) r =
        read_number (λ m. read_first x ≡ refused m → Begins x) (λ r. apart (ap (λ c. c.rest) (cut_fault x r))) (λ r. ((refused_2 x).0 r).1) (λ r. apart (ap (λ c. c.rest) (cut_overlong x r))) x m r r

pub reached_begins : (e : End) (machine name : List ℕ) (screen : Bool) (cs : List (AnyWith e)) → (let i = intake_after_all e (emptied (opened machine name screen).session []) cs in
    is_waiting e i.session.phase ≡ false → Begins i.kept)
reached_begins e machine name screen cs h =
    let i = intake_after_all e (emptied (opened machine name screen).session []) cs in front_begins i.reading i.kept ((reached_keeps e machine name screen cs).settled.front h)

-- ---- where nothing is kept, and what waits

-- an end that drops what it is given keeps nothing, so it is as emptied
pub settled_emptied : (e : End) (i : Intake) (n : ℕ) → Settled e i → turn_at e i.session.phase ≡ drops n → i ≡ emptied i.session i.awaited
settled_emptied e i n k t =
    let z = k.empty n t in ap (λ q. keeping i.session q i.kept i.awaited) z.0 ∙ ap (λ x. keeping i.session start x i.awaited) z.1

idle_drops : (e : End) (p : Phase) → is_idle e p ≡ true → (n : ℕ) × (turn_at e p ≡ drops n)
idle_drops client One h = (14, refl)
idle_drops client Two h = absurd (false≢true h)
idle_drops client (Awaiting w) h = absurd (false≢true h)
idle_drops client Ended h = (13, refl)
idle_drops client Closed h = (13, refl)
idle_drops plugin One h = absurd (false≢true h)
idle_drops plugin Two h = (14, refl)
idle_drops plugin (Awaiting w) h = absurd (false≢true h)
idle_drops plugin Ended h = (13, refl)
idle_drops plugin Closed h = (13, refl)

module _ (e : End) (machine name : List ℕ) (screen : Bool) (cs : List (AnyWith e)) where
  abbrev there : Intake
  there = intake_after_all e (emptied (opened machine name screen).session []) cs

  pub reached_empty : is_idle e there.session.phase ≡ true → there ≡ emptied there.session []
  reached_empty h =
      let k = (reached_keeps e machine name screen cs).settled in
      let d = idle_drops e there.session.phase h in
      settled_emptied e there d.0 k d.1 ∙ ap (emptied there.session) (k.awaited.none ((turn_says e there.session.phase).waits (λ z. keeps_not_drops d.0 (sym z ∙ d.1))))

  -- a text waits exactly where the host's reply is due, and then it is a whole stanza; so at the plugin end none does
  pub reached_awaited : (is_waiting e there.session.phase ≡ true) ↔ (there.awaited ≡ [] → ⊥)
  reached_awaited =
      let k = (reached_keeps e machine name screen cs).settled.awaited in
      (λ h q. empty_not_whole (subst Whole q (k.whole h)), λ h. cases (is_waiting e there.session.phase) (λ f. f) (λ f. absurd (h (k.none f))))

  pub reached_awaited_none : is_waiting e there.session.phase ≡ false → there.awaited ≡ []
  reached_awaited_none h = (reached_keeps e machine name screen cs).settled.awaited.none h

  pub reached_awaited_whole : is_waiting e there.session.phase ≡ true → Whole there.awaited
  reached_awaited_whole h = (reached_keeps e machine name screen cs).settled.awaited.whole h

  -- no chunk gives 2 there, and one that is refused with 13 or 14 and takes no stanza leaves all as it was
  pub reached_not_two : (b : Buffers) (bytes out : List ℕ) → (chunked e there b bytes out).number ≡ 2 → ⊥
  reached_not_two b bytes out = chunk_not_two e there b bytes out (reached_keeps e machine name screen cs).settled.front

  pub reached_out_of_turn : (b : Buffers) (bytes out : List ℕ) → (chunked e there b bytes out).count ≡ 0 → OutOfTurn (chunked e there b bytes out).number → chunked e there b bytes out ≡ untaken (chunked e there b bytes out).number there b out
  reached_out_of_turn b bytes out = chunk_out_of_turn e there b bytes out (λ n h. settled_emptied e there n (reached_keeps e machine name screen cs).settled h)

-- at the plugin end none ever waits
pub reached_plugin_awaited : (machine name : List ℕ) (cs : List (AnyWith plugin)) → (intake_after_all plugin (emptied (opened machine name false).session []) cs).awaited ≡ []
reached_plugin_awaited machine name cs = reached_awaited_none plugin machine name false cs refl
