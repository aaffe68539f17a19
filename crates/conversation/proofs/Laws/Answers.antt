-- Each command of phase two but done that is accepted is answered exactly once, and by a response that fits it, where its phase ends: at both ends, whatever calls
-- were refused in between.
use Prim.Native.Nat.{ℕ}
use mathlib.Core.Path.{◌≡◌, refl, sym, ap, ◌∙◌, subst}
use mathlib.Core.Bool.{Bool, true, false, ◌||◌}
use mathlib.Core.List.{List, [], ◌∷◌, ◌++◌, append_assoc, append-nil}
use lib.Dec.{eqb}
use lib.ListN.{length}
use borrow.Author.Tests.{eqb-true, eqb-false}
use Rattle.refusal.specs.Pick.{pick}
use Rattle.refusal.proofs.Laws.Booleans.{and_true, cases}
use Rattle.responses.specs.Responses.{fitting, fits_whole, may_have_body}
use Rattle.responses.specs.declared.Response.{Response}
use Rattle.session.specs.declared.words.WordTwo.{WordTwo}
use Rattle.phase_one.specs.Commands as one_command
use Rattle.phase_one.specs.PhaseOne as one
use Rattle.phase_one.specs.Turns.{phase_after}
use Rattle.session.specs.Phases.{closes}
use Rattle.session.specs.declared.phases.Phase.{Phase}
use Rattle.session.specs.declared.phases.Phase.TheVariants.{One, Two, Awaiting, Ended, Closed}
use Rattle.conversation.specs.Answers.{Event, asked, responded, asked_by, answered_by, responded_by, events_of, events, Paired}
use Rattle.conversation.specs.Calls.{Call, receive, send, receive_two, reply, send_two, respond, outcome, session_after, after}
use Rattle.conversation.specs.CommandsTwo.{CommandTwo, ask, stanza, key, error, done, other, bad, command_two, line_sent}
use Rattle.conversation.specs.Kinds.{Buffers}
use Rattle.conversation.specs.Phases.{line_in, body_in, is_done, command_in}
use Rattle.conversation.specs.ReceivingTwo.{at_once, phase_received}
use Rattle.conversation.specs.SendingTwo.{phase_sent}
use Rattle.session.specs.Session.{Session, closed, opened}
use Rattle.conversation.proofs.Laws.CommandsTwo.{Proper, command_proper}
use Rattle.conversation.proofs.Laws.Accepted.{Applied, accepted}
use Rattle.conversation.proofs.Laws.Refusals.{refusal}

-- ---- the events so far, by the phase

paired_append : (xs ys : List Event) → Paired xs → Paired ys → Paired (xs ++ ys)
unfolding Paired
paired_append [] ys p q = q
paired_append (asked w ∷ []) ys p q = absurd p
paired_append (asked w ∷ asked v ∷ xs) ys p q = absurd p
paired_append (asked w ∷ responded r ∷ xs) ys p q = (p.0, paired_append xs ys p.1 q)
paired_append (responded r ∷ xs) ys p q = absurd p

-- a command and its response behind what is paired
paired_more : (es : List Event) (w : WordTwo) (r : Response) → fitting w r ≡ true → Paired es → Paired (es ++ asked w ∷ responded r ∷ [])
unfolding Paired
paired_more es w r f p = paired_append es (asked w ∷ responded r ∷ []) p (f, tt)

paired_nil : (es : List Event) → Paired es → Paired (es ++ [])
paired_nil es p = subst Paired (sym (append-nil es)) p

-- none in phase one; paired in phase two, but for the command that awaits its answer; of a closed session nothing is said
abbrev SoFar : Phase → List Event → Type 0
SoFar One es = es ≡ []
SoFar Two es = Paired es
SoFar (Awaiting w) es = (xs : List Event) × Paired xs × (es ≡ xs ++ (asked w ∷ []))
SoFar Ended es = Paired es
SoFar Closed es = Unit

-- an accepted command of phase one
one_so_far : (c : one_command.CommandOne) (es : List Event) → es ≡ [] → SoFar (phase_after c) (es ++ [])
one_so_far (one_command.recipient m) es e = append-nil es ∙ e
one_so_far (one_command.identity m) es e = append-nil es ∙ e
one_so_far one_command.key es e = append-nil es ∙ e
one_so_far (one_command.header i m) es e = append-nil es ∙ e
one_so_far one_command.done es e = paired_nil es (subst Paired (sym e) (unfold Paired in tt))
one_so_far one_command.other es e = append-nil es ∙ e
one_so_far (one_command.bad n) es e = append-nil es ∙ e

-- one that the client end received
received_so_far : (screen : Bool) (d : Bool) (c : CommandTwo) (es : List Event) → Proper d c → Paired es → SoFar (phase_received screen c) (es ++ (asked_by c ++ answered_by (at_once screen c)))
received_so_far true d (ask w) es f p = (es, p, refl)
received_so_far false d (ask w) es f p = paired_more es _ _ f p
received_so_far screen d (stanza f) es u p = paired_more es _ _ refl p
received_so_far screen d (key f) es u p = paired_more es _ _ refl p
received_so_far screen d (error n) es u p = paired_more es _ _ refl p
received_so_far screen d done es u p = paired_nil es p
received_so_far screen d other es u p = paired_more es _ _ refl p
received_so_far screen d (bad n) es u p = paired_nil es p

-- one that the plugin end sent
sent_so_far : (c : CommandTwo) (es : List Event) → Paired es → SoFar (phase_sent c) (es ++ asked_by c)
sent_so_far (ask w) es p = (es, p, refl)
sent_so_far (stanza f) es p = (es, p, refl)
sent_so_far (key f) es p = (es, p, refl)
sent_so_far (error n) es p = (es, p, refl)
sent_so_far done es p = paired_nil es p
sent_so_far other es p = (es, p, refl)
sent_so_far (bad n) es p = paired_nil es p

-- its answer, written or received
answered_so_far : (w : WordTwo) (r : Response) (body : List ℕ) (es : List Event) → fits_whole w r body ≡ true → SoFar (Awaiting w) es → Paired (es ++ (responded r ∷ []))
answered_so_far w r body es f i =
    subst Paired (sym (ap (λ x. x ++ (responded r ∷ [])) i.2 ∙ append_assoc i.0 (asked w ∷ []) (responded r ∷ [])))
    (paired_more i.0 w r (and_true (fitting w r) (eqb (length body) 0 || may_have_body w r) f).0 i.1)

closed_or : (f : Bool) (s : Session) (es : List Event) → SoFar s.phase es → SoFar (pick f (closed s) s).phase es
closed_or true s es i = tt
closed_or false s es i = i

-- a refused call, whatever its number
refused_so_far : (s : Session) (c : Call) (n : ℕ) (es : List Event) → SoFar s.phase es → SoFar (session_after c n s).phase es
refused_so_far s (receive text) n es i = closed_or (closes n) s es i
refused_so_far s (send word arguments body out) n es i = i
refused_so_far s (receive_two text out) n es i = closed_or (closes n) s es i
refused_so_far s (reply r body out) n es i = i
refused_so_far s (send_two word arguments body out) n es i = i
refused_so_far s (respond text out) n es i = closed_or (closes n) s es i

-- an accepted call: of phase one
one_step : (s : Session) (b : one.BuffersOne) (line body : List ℕ) (after : Session) (buffers-after : one.BuffersOne) (es : List Event) → Applied s b line body after buffers-after → SoFar s.phase es → SoFar after.phase (es ++ [])
one_step s b line body after buffers-after es a i =
    subst (λ x. SoFar x.phase (es ++ [])) (sym a.session) (one_so_far (one.command_in s.machine s.name line body) es (subst (λ p. SoFar p es) a.turn i))

-- .. of either phase
accepted_so_far : (s : Session) (b : Buffers) (c : Call) (es : List Event) → (outcome s b c).number ≡ 0 → SoFar s.phase es → SoFar (outcome s b c).session.phase (es ++ events_of s c)
accepted_so_far s b (receive text) es h i = one_step s b.first _ _ _ _ es (accepted s b (receive text) h).applied i
accepted_so_far s b (send word arguments body out) es h i = one_step s b.first _ _ _ _ es (accepted s b (send word arguments body out) h).applied i
accepted_so_far s b (receive_two text out) es h i =
    let a = accepted s b (receive_two text out) h in
    let c = command_in s.machine text in
    subst (λ x. SoFar x.phase (es ++ (asked_by c ++ answered_by (at_once s.screen c)))) (sym a.session)
    (received_so_far s.screen (is_done text) c es (command_proper s.machine (line_in text) (body_in text)) (subst (λ p. SoFar p es) a.turn i))
accepted_so_far s b (reply r body out) es h i =
    let a = accepted s b (reply r body out) h in
    subst (λ x. SoFar x.phase (es ++ (responded r ∷ []))) (sym a.session) (answered_so_far a.awaited r body es a.fitting (subst (λ p. SoFar p es) a.turn i))
accepted_so_far s b (send_two word arguments body out) es h i =
    let a = accepted s b (send_two word arguments body out) h in
    let c = command_two s.machine (line_sent word arguments) body in
    subst (λ x. SoFar x.phase (es ++ asked_by c)) (sym a.session) (sent_so_far c es (subst (λ p. SoFar p es) a.turn i))
accepted_so_far s b (respond text out) es h i =
    let a = accepted s b (respond text out) h in
    subst (λ q. SoFar (outcome s b (respond text out)).session.phase (es ++ responded_by q)) (sym a.1.named)
    (subst (λ x. SoFar x.phase (es ++ (responded a.0 ∷ []))) (sym a.1.session) (answered_so_far a.1.awaited a.0 (body_in text) es a.1.fitting (subst (λ p. SoFar p es) a.1.turn i)))

-- any call
call_so_far : (s : Session) (b : Buffers) (c : Call) (es : List Event) → SoFar s.phase es →
    SoFar (outcome s b c).session.phase (es ++ pick (eqb (outcome s b c).number 0) (events_of s c) [])
call_so_far s b c es i =
    cases (eqb (outcome s b c).number 0)
    (λ f. subst (λ z. SoFar (outcome s b c).session.phase (es ++ pick z (events_of s c) [])) (sym f) (accepted_so_far s b c es (eqb-true (outcome s b c).number 0 f) i))
    (λ f.
    subst (λ z. SoFar (outcome s b c).session.phase (es ++ pick z (events_of s c) [])) (sym f)
    (subst (λ x. SoFar (outcome s b c).session.phase x) (sym (append-nil es))
    (subst (λ x. SoFar x.phase es) (sym (refusal s b c (eqb-false (outcome s b c).number 0 f)).session) (refused_so_far s c (outcome s b c).number es i))))

calls_so_far : (s : Session) (b : Buffers) (cs : List Call) (es : List Event) → SoFar s.phase es → SoFar (after s b cs).session.phase (es ++ events s b cs)
unfolding after events
calls_so_far s b [] es i = subst (SoFar s.phase) (sym (append-nil es)) i
calls_so_far s b (c ∷ cs) es i =
    let o = outcome s b c in
    let x : List Event = pick (eqb o.number 0) (events_of s c) [] in
    subst (SoFar (after o.session o.buffers cs).session.phase) (append_assoc es x (events o.session o.buffers cs))
    (calls_so_far o.session o.buffers cs (es ++ x) (call_so_far s b c es i))

-- where the phase has ended, each accepted command but done has its response directly behind it, and the response fits: whatever calls, from phase one on
pub answers : (s : Session) (b : Buffers) (cs : List Call) → s.phase ≡ One → (after s b cs).session.phase ≡ Ended → Paired (events s b cs)
answers s b cs h e = subst (λ p. SoFar p (events s b cs)) e (calls_so_far s b cs [] (subst (λ p. SoFar p []) (sym h) refl))

-- of a session just opened; a refused opening leaves a closed one, which never ends
pub answers_opened : (machine name : List ℕ) (screen : Bool) (b : Buffers) (cs : List Call) → (after (opened machine name screen).session b cs).session.phase ≡ Ended →
    Paired (events (opened machine name screen).session b cs)
answers_opened machine name screen b cs e =
    subst (λ p. SoFar p (events (opened machine name screen).session b cs)) e (calls_so_far (opened machine name screen).session b cs [] (start (eqb (opened machine name screen).number 0)))
  where
    start : (f : Bool) → SoFar (pick f One Closed) []
    start true = refl
    start false = tt
