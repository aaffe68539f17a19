-- Without a screen no command waits, so no call leaves one that does; and each stanza that a chunk takes is answered in that call.
use Prim.Native.Nat.{ℕ, suc, ◌+◌}
use mathlib.Core.Path.{◌≡◌, refl, sym, ap, ap₂, subst, ◌∙◌}
use mathlib.Core.Bool.{Bool, true, false, false≢true}
use mathlib.Core.List.{List, [], ◌∷◌, ◌++◌, map}
use lib.Dec.{eqb, leb}
use lib.ListN.{length, take}
use native.Mathlib.Omega.{arith}
use borrow.Author.Tests.{eqb-true, eqb-false, leb-true}
use Rattle.refusal.specs.Pick.{pick}
use Rattle.refusal.proofs.Laws.Booleans.{cases, and_true}
use Rattle.stanza.specs.Automaton.{start}
use Rattle.stanza.specs.Grammar.{stanza_text}
use Rattle.responses.specs.Responses.{response_line}
use Rattle.responses.specs.declared.Response.{Response}
use Rattle.responses.specs.declared.Response.TheVariants.{Fail}
use Rattle.session.specs.declared.words.WordTwo.{WordTwo}
use Rattle.session.specs.declared.opening.Machine.{Machine}
use Rattle.session.specs.Phases.{closes}
use Rattle.session.specs.Session.{Session, closed, opened}
use Rattle.session.proofs.Laws.Opening.{opened_undue}
use Rattle.phase_one.specs.Commands as one_command
use Rattle.phase_one.specs.Commands.{WordOne}
use Rattle.phase_one.specs.PhaseOne as one
use Rattle.conversation.specs.Calls as one_call
use Rattle.conversation.specs.Calls.{send, receive_two, outcome, written_by}
use Rattle.conversation.specs.CommandsTwo as two_command
use Rattle.conversation.specs.CommandsTwo.{CommandTwo, ask}
use Rattle.conversation.specs.Kinds.{Buffers}
use Rattle.conversation.specs.Phases.{command_in}
use Rattle.conversation.specs.ReceivingTwo.{at_once, text_of, phase_received}
use Rattle.conversation.proofs.Laws.Accepted.{accepted}
use Rattle.conversation.proofs.Laws.Refusals.{either, refusal}
use Rattle.conversation.proofs.Laws.StepsTwo.{all_written}
use Rattle.conversation.proofs.Laws.WrittenRead.{front}
use Rattle.chunks.specs.Cutting.{Rest, unfinished, impossible, bytes_of, cut}
use Rattle.chunks.specs.Taking.{client, Turn, reads, drops, keeps_back, turn_at, ample, awaited_behind, Intake, Last, last_in, Taken, no_more, emptied, keeping, one_more, joined, taken_rest, taken_by, taken_all}
use Rattle.chunks.specs.Chunks.{taken, chunked, replied}
use Rattle.chunks.specs.Uncut.{chunk, reply, is_waiting, Parted, received_more, parted_by, parted}
use Rattle.chunks.specs.Reached.{AnyCall, piece, sends_one, sends_two, finishes, Has, intake_after, AnyWith, intake_after_all}
use Rattle.chunks.specs.Screens.{answer_to, AnsweredAtOnce, NothingWaits}
use Rattle.chunks.proofs.Laws.Cases.{stanza_cases, chunk_cases, reply_cases}
use Rattle.chunks.proofs.Laws.Reached.{reached_awaited_none}
use Rattle.chunks.proofs.Laws.Stanzas.{after_undue}

-- ---- nothing waits

-- a session without a screen in which no reply is due
record Screenless (s : Session) : Type 0 where
  shown : s.screen ≡ false
  due : is_waiting client s.phase ≡ false

-- no accepted command waits
none_waits : (c : CommandTwo) → is_waiting client (phase_received false c) ≡ false
none_waits (two_command.ask w) = refl
none_waits (two_command.stanza f) = refl
none_waits (two_command.key f) = refl
none_waits (two_command.error n) = refl
none_waits two_command.done = refl
none_waits two_command.other = refl
none_waits (two_command.bad n) = refl

closed_screenless : (f : Bool) (s : Session) → Screenless s → Screenless (pick f (closed s) s)
closed_screenless true s k = record { shown = k.shown; due = refl }
closed_screenless false s k = k

-- a stanza received
stanza_screenless : (s : Session) (b : Buffers) (t : List ℕ) → Screenless s → Screenless (outcome s b (receive_two t ample)).session
stanza_screenless s b t k =
    let o = outcome s b (receive_two t ample) in
    let c = command_in s.machine t in
    cases (eqb o.number 0)
    (λ f. let a = accepted s b (receive_two t ample) (eqb-true o.number 0 f) in
    record {
      shown = ap (λ s. s.screen) a.session ∙ k.shown;
      due = ap (λ (s : Session). is_waiting client s.phase) a.session ∙ ap (λ x. is_waiting client (phase_received x c)) k.shown ∙ none_waits c;
    })
    (λ f. subst Screenless (sym (refusal s b (receive_two t ample) (eqb-false o.number 0 f)).session) (closed_screenless (closes o.number) s k))

rest_screenless : (u : Turn) (s : Session) (b : Buffers) (a : List ℕ) (r : Rest) → Screenless s → Screenless (taken_rest u s b a r).intake.session
rest_screenless reads s b a (unfinished q front) k = k
rest_screenless reads s b a (impossible n text) k = closed_screenless true s k
rest_screenless (drops n) s b a r k = either (λ (x : Taken). Screenless x.intake.session) (eqb (length (bytes_of r)) 0) (no_more 0 (emptied s a) b) (no_more n (emptied s a) b) k k
rest_screenless keeps_back s b a r k = k

-- a text
text_screenless : (ts : List (List ℕ)) (s : Session) (b : Buffers) (a : List ℕ) (r : Rest) → Screenless s → Screenless (taken_all client s b a ts r).intake.session
unfolding taken_all
text_screenless [] s b a r k = rest_screenless (turn_at client s.phase) s b a r k
text_screenless (t ∷ ts) s b a r k =
    let o = outcome s b (receive_two t ample) in
    stanza_cases (λ x. Screenless x.intake.session) client s b a t ts r
    (λ q z. text_screenless ts o.session o.buffers (awaited_behind client o.session.phase t) r (stanza_screenless s b t k))
    (λ q z. stanza_screenless s b t k) (λ n q. k) (λ q. k)

-- a chunk
chunk_screenless : (i : Intake) (b : Buffers) (bytes out : List ℕ) → Screenless i.session → Screenless (chunked client i b bytes out).intake.session
chunk_screenless i b bytes out k =
    let c = cut i.reading i.kept bytes in
    chunk_cases (λ o. Screenless o.intake.session) client i b bytes out (λ t h. text_screenless c.texts i.session b i.awaited c.rest k) (λ t h. k) (λ n t h. k)

-- a reply is not due
reply_screenless : (i : Intake) (b : Buffers) (r : Response) (body out : List ℕ) → Screenless i.session → Screenless (replied i b r body out).intake.session
reply_screenless i b r body out k =
    reply_cases (λ o. Screenless o.intake.session) i b r body out
    (λ w q n h. absurd (false≢true (sym k.due ∙ ap (is_waiting client) q))) (λ w q n h. k) (λ n h. k)

-- a command sent
send_screenless : (s : Session) (b : Buffers) (word : WordOne) (arguments body out : List ℕ) → Screenless s → Screenless (outcome s b (send word arguments body out)).session
send_screenless s b word arguments body out k =
    let o = outcome s b (send word arguments body out) in
    cases (eqb o.number 0)
    (λ f. let a = (accepted s b (send word arguments body out) (eqb-true o.number 0 f)).applied in
    record {
      shown = ap (λ s. s.screen) a.session ∙ k.shown;
      due = ap (λ (s : Session). is_waiting client s.phase) a.session ∙ after_undue (one.command_in s.machine s.name (one_command.line_sent word arguments) body);
    })
    (λ f. subst Screenless (sym (refusal s b (send word arguments body out) (eqb-false o.number 0 f)).session) k)

-- any calls of the client
calls_screenless : (i : Intake) (cs : List (AnyWith client)) → Screenless i.session → Screenless (intake_after_all client i cs).session
unfolding intake_after_all
calls_screenless i [] k = k
calls_screenless i (c ∷ cs) k = calls_screenless (intake_after client i c.buffers c.call) cs (go c.call c.has)
  where
    go : (x : AnyCall) → Has client x → Screenless (intake_after client i c.buffers x).session
    go (piece (chunk bytes out)) h = chunk_screenless i c.buffers bytes out k
    go (piece (reply r body out)) h = reply_screenless i c.buffers r body out k
    go (sends_one word arguments body out) h = send_screenless i.session c.buffers word arguments body out k
    go (sends_two word arguments body out) h = absurd h
    go finishes h = k

-- behind any calls from an opening without a screen nothing waits
pub nothing_waits : (machine name : List ℕ) (cs : List (AnyWith client)) → NothingWaits (intake_after_all client (emptied (opened machine name false).session []) cs)
nothing_waits machine name cs =
    let i = emptied (opened machine name false).session [] in
    let k = calls_screenless i cs (record { shown = refl; due = opened_undue machine name false }) in
    record { due = k.due; awaited = reached_awaited_none client machine name false cs k.due }

-- ---- each stanza is answered in the same call

-- msg, confirm and the requests are answered fail
pub fail_at_once : (machine : Machine) (t : List ℕ) (w : WordTwo) → command_in machine t ≡ ask w → answer_to machine false t ≡ stanza_text (response_line Fail) []
fail_at_once machine t w h = ap (λ c. text_of (at_once false c)) h

-- what is written is the answers to the stanzas that were taken of these
abbrev Answering : Machine → Bool → Taken → List (List ℕ) → Type 0
Answering machine screen x ts = x.written ≡ joined (map (answer_to machine screen) (take x.count ts)) []

none_answered : (machine : Machine) (screen : Bool) (n : ℕ) (i : Intake) (b : Buffers) (ts : List (List ℕ)) → Answering machine screen (no_more n i b) ts
unfolding joined
none_answered machine screen n i b ts = refl

rest_answered : (machine : Machine) (screen : Bool) (u : Turn) (s : Session) (b : Buffers) (a : List ℕ) (r : Rest) (ts : List (List ℕ)) → Answering machine screen (taken_rest u s b a r) ts
rest_answered machine screen reads s b a (unfinished q front) ts = none_answered machine screen 0 (keeping s q front a) b ts
rest_answered machine screen reads s b a (impossible n text) ts = none_answered machine screen n (emptied (closed s) []) b ts
rest_answered machine screen (drops n) s b a r ts =
    either (λ (x : Taken). Answering machine screen x ts) (eqb (length (bytes_of r)) 0) (no_more 0 (emptied s a) b) (no_more n (emptied s a) b)
    (none_answered machine screen 0 (emptied s a) b ts) (none_answered machine screen n (emptied s a) b ts)
rest_answered machine screen keeps_back s b a r ts = none_answered machine screen 0 (keeping s start (bytes_of r) a) b ts

-- one stanza more
more_answered : (machine : Machine) (screen : Bool) (t w : List ℕ) (l : Last) (x : Taken) (ts : List (List ℕ)) → w ≡ answer_to machine screen t → Answering machine screen x ts → Answering machine screen (one_more l w x) (t ∷ ts)
unfolding joined
more_answered machine screen t w l x ts e k =
    let n : 1 + x.count ≡ suc x.count = omega arith in
    ap₂ (λ w v. w ++ v) e k ∙ sym (ap (λ n. joined (map (answer_to machine screen) (take n (t ∷ ts))) []) n)

text_answered : (ts : List (List ℕ)) (s : Session) (b : Buffers) (a : List ℕ) (r : Rest) → Answering s.machine s.screen (taken_all client s b a ts r) (parted client s b ts r).received
unfolding taken_all parted
text_answered [] s b a r = rest_answered s.machine s.screen (turn_at client s.phase) s b a r _
text_answered (t ∷ ts) s b a r =
    go (turn_at client s.phase) (eqb o.number 0) refl (text_answered ts o.session o.buffers (awaited_behind client o.session.phase t) r)
  where
    o : one_call.Outcome
    o = outcome s b (receive_two t ample)

    more : Taken
    more = taken_all client o.session o.buffers (awaited_behind client o.session.phase t) ts r

    parts : Parted
    parts = parted client o.session o.buffers ts r

    go : (u : Turn) (d : Bool) → eqb o.number 0 ≡ d → Answering o.session.machine o.session.screen more parts.received →
        Answering s.machine s.screen (taken_by u s b a (t ++ joined ts (bytes_of r)) (pick d (one_more (last_in o.given) (written_by s b (receive_two t ample)) more) (no_more o.number (emptied o.session []) b)))
        (parted_by u (t ++ joined ts (bytes_of r)) (received_more t (pick d parts (record { received = []; left = joined ts (bytes_of r) })))).received
    go reads true f k =
        let c = accepted s b (receive_two t ample) (eqb-true o.number 0 f) in
        more_answered s.machine s.screen t (written_by s b (receive_two t ample)) (last_in o.given) more parts.received
        (front (answer_to s.machine s.screen t) ample o c.written)
        (subst (λ (s : Session). Answering s.machine s.screen more parts.received) c.session k)
    go reads false f k = none_answered s.machine s.screen o.number (emptied o.session []) b (t ∷ [])
    go (drops n) d f k = none_answered s.machine s.screen n (emptied s a) b []
    go keeps_back d f k = none_answered s.machine s.screen 0 (keeping s start (t ++ joined ts (bytes_of r)) a) b []

-- a chunk answers each stanza that it takes
pub answered_at_once : (i : Intake) (b : Buffers) (bytes out : List ℕ) → AnsweredAtOnce i b bytes (chunked client i b bytes out)
unfolding joined
answered_at_once i b bytes out =
    let c = cut i.reading i.kept bytes in
    chunk_cases (AnsweredAtOnce i b bytes) client i b bytes out
    (λ t h. all_written (taken client i b bytes).written out (leb-true (length (taken client i b bytes).written) (length out) (and_true (leb (length (taken client i b bytes).written) (length out)) (leb (length (taken client i b bytes).intake.kept) 8192) h).0) ∙ text_answered c.texts i.session b i.awaited c.rest)
    (λ t h. refl) (λ n t h. refl)
