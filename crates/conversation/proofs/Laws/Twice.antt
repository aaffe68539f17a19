-- The same recipient twice: when a call gives 20, and that recipients differ wherever buffers are handed on.
use Prim.Native.Nat.{ℕ}
use mathlib.Core.Path.{◌≡◌, refl, sym, ap, ◌∙◌, subst}
use mathlib.Core.Bool.{Bool, true, false}
use mathlib.Core.Logic.{inl, inr, ⊎_elim, ◌↔◌}
use mathlib.Core.List.{List, [], ◌∷◌}
use lib.Dec.{eqb, leb}
use lib.ListN.{length}
use native.Mathlib.Omega.{arith}
use borrow.Author.Tests.{eqb-true, eqb-false, leb-false}
use Rattle.refusal.specs.Pick.{pick}
use Rattle.refusal.specs.Verdict.{first_of}
use Rattle.refusal.specs.declared.Refusal.TheVariants.{OutOfTurn, NotStanza, Unfinished, TooLong, Unwritable, Repeated}
use Rattle.refusal.proofs.Laws.Booleans.{true_and, cases}
use Rattle.stanza.specs.Arguments.{is_line, argument_of}
use Rattle.stanza.specs.Grammar.{stanza_text}
use Rattle.stanza.specs.Reading.{Reading, stanza, refused, read_first}
use Rattle.stanza.specs.Writing.{is_writable}
use Rattle.tables.specs.Repeats.{repeats}
use Rattle.tables.specs.Tables.{Table}
use Rattle.session.specs.Tables.{Tables}
use Rattle.session.specs.Session.{Session, closed, opened}
use Rattle.session.specs.declared.phases.Phase.{Phase}
use Rattle.session.specs.declared.phases.Phase.TheVariants.{One, Two, Awaiting, Ended, Closed}
use Rattle.phase_one.specs.Commands as one_command
use Rattle.phase_one.specs.Commands.{WordOne}
use Rattle.phase_one.specs.PhaseOne as one
use Rattle.phase_one.specs.PhaseOne.{command_in, payload_in}
use Rattle.phase_one.specs.Turns.{turn_one}
use Rattle.phase_one.specs.Views.{recipients}
use Rattle.phase_one.proofs.Laws.Views.{Reached, applied_reached, applied_view, payload_stored}
use Rattle.conversation.specs.Allowed.{Distinct}
use Rattle.conversation.specs.Calls.{Call, receive, send, receive_two, reply, send_two, respond, Outcome, outcome, session_after, after, brought_by}
use Rattle.conversation.specs.Kinds.{first, Buffers, view_of}
use Rattle.conversation.specs.Numbers.{FirstOf, no_number, this_number, later_number, Condition, Judged, Unwritten, TwiceIn, Twice, SaysOne, order_of}
use Rattle.conversation.specs.Phases.{line_in, body_in}
use Rattle.conversation.specs.Sending.{shortness}
use Rattle.conversation.proofs.Laws.Accepted.{Applied, AppliedTwo, command_at, payload_at, AcceptedBy, accepted}
use Rattle.conversation.proofs.Laws.AllowedOne.{opened_going}
use Rattle.conversation.proofs.Laws.ConditionsOne.{is_repeated, repeated_to}
use Rattle.conversation.proofs.Laws.Limits.{Held, grown_held}
use Rattle.conversation.proofs.Laws.NumberParts.{as_read, decided_one, given_receive, given_send}
use Rattle.conversation.proofs.Laws.Numbers.{holds_of, reading_number, number_given}
use Rattle.conversation.proofs.Laws.Reached.{ReachedSession, opening_reached, call_reached}
use Rattle.conversation.proofs.Laws.Refusals.{refusal}
use Rattle.conversation.proofs.Laws.RowsOne.{says_recipient}
use Rattle.conversation.proofs.Laws.Steps.{grown}
use Rattle.conversation.proofs.Laws.ViewsTwo.{two_leaves}

-- ---- 20

-- the condition of the first number holds, and none before it
module _ {P : ℕ → Type 0} where
  first_holds : {ks : List ℕ} {n : ℕ} → FirstOf P ks n → (n ≡ 0 → ⊥) → P n
  first_holds no_number h = absurd (h refl)
  first_holds (this_number p) h = p
  first_holds (later_number q f) h = first_holds f h

  not_before : {k n : ℕ} {ks : List ℕ} → FirstOf P (k ∷ ks) n → (k ≡ n → ⊥) → (P k → ⊥) × FirstOf P ks n
  not_before (this_number p) h = absurd (h refl)
  not_before (later_number q f) h = (q, f)

-- a phase that is not any other
is_one : (p : Phase) → ((p ≡ One → ⊥) → ⊥) → p ≡ One
is_one One h = refl
is_one Two h = absurd (h (λ e. let z : ◌≡◌ {A = ℕ} 0 1 = cc in omega arith))
is_one (Awaiting w) h = absurd (h (λ e. let z : ◌≡◌ {A = ℕ} 0 1 = cc in omega arith))
is_one Ended h = absurd (h (λ e. let z : ◌≡◌ {A = ℕ} 0 1 = cc in omega arith))
is_one Closed h = absurd (h (λ e. let z : ◌≡◌ {A = ℕ} 0 1 = cc in omega arith))

-- what is not unwritable can be written
writable : (line body : List ℕ) → (Unwritten line body → ⊥) → is_writable line body ≡ true
writable line body h =
    cases (is_line line)
    (λ f. cases (leb (length (stanza_text line body)) 8192) (λ g. true_and (is_line line) (leb (length (stanza_text line body)) 8192) f g)
    (λ g. absurd (h (inr (leb-false (length (stanza_text line body)) 8192 g)))))
    (λ f. absurd (h (inl f)))

module _ (s : Session) (b : Buffers) (r : ReachedSession s) where
  -- a decision that finds a repeated text, wherever it is asked
  decided_twice : (line body : List ℕ) → Twice (SaysOne s.machine line body) s.tables b.first.recipients → decided_one s b line body ≡ 20
  decided_twice line body x =
      let e = says_recipient s.machine line body s.name x.text x.said in
      let f = repeated_to s b r line body x in
      let c = command_in s.machine s.name line body in
      let g : repeats s.tables.recipients b.first.recipients (argument_of line 1) ≡ true =
      sym (ap (λ c. is_repeated s.tables b.first c (one_command.payload_of c line body)) e.0) ∙ f in
      ap (λ c. one.decided s.tables b.first c (one_command.payload_of c line body)) e.0 ∙ rw g

  twice_given : (c : Call) → Judged s c → TwiceIn s b (brought_by c) → (outcome s b c).number ≡ 20
  twice_given (receive text) w x =
      given_receive s b text ∙ ap (λ p. first_of (turn_one p) (as_read (read_first text) (first_of (decided_one s b (line_in text) (body_in text)) 0))) w.turn
      ∙ ap (λ n. as_read (read_first text) (first_of n 0)) (decided_twice (line_in text) (body_in text) x) ∙ go (read_first text) refl
    where
      go : (q : Reading) → read_first text ≡ q → as_read q 20 ≡ 20
      go (stanza e n k) h = refl
      go (refused n) h = absurd (w.read n h)
  twice_given (send word arguments body out) w x =
      let line = one_command.line_sent word arguments in
      given_send s b word arguments body out
      ∙ ap (λ p. first_of (turn_one p) (pick (is_writable line body) (first_of (decided_one s b line body) (shortness (stanza_text line body) out)) 17)) w.turn
      ∙ ap (λ n. pick (is_writable line body) (first_of n (shortness (stanza_text line body) out)) 17) (decided_twice line body x)
      ∙ ap (λ f. pick f 20 17) (writable line body w.written)
  twice_given (receive_two text out) w x = absurd x
  twice_given (reply q body out) w x = absurd x
  twice_given (send_two word arguments body out) w x = absurd x
  twice_given (respond text out) w x = absurd x

  given_judged : (c : Call) → TwiceIn s b (brought_by c) → FirstOf (Condition s b c) (order_of c) 20 → Judged s c
  given_judged (receive text) x f =
      let c = receive text in
      let f14 = not_before (not_before f (λ e. omega arith)).1 (λ e. omega arith) in
      let f1 = not_before f14.1 (λ e. omega arith) in
      let f2 = not_before f1.1 (λ e. omega arith) in
      let f3 = not_before f2.1 (λ e. omega arith) in
      record {
        turn = is_one s.phase (λ h. f14.0 (OutOfTurn, refl, h));
        read = λ n h. ⊎_elim (λ e. f1.0 (NotStanza, refl, h ∙ ap refused e)) (⊎_elim (λ e. f2.0 (Unfinished, refl, h ∙ ap refused e)) (λ e. f3.0 (TooLong, refl, h ∙ ap refused e))) (reading_number text n h);
        written = λ h. h;
      }
  given_judged (send word arguments body out) x f =
      let f14 = not_before (not_before f (λ e. omega arith)).1 (λ e. omega arith) in
      let f17 = not_before f14.1 (λ e. omega arith) in
      record { turn = is_one s.phase (λ h. f14.0 (OutOfTurn, refl, h)); read = λ n h. h; written = λ h. f17.0 (Unwritable, refl, h) }
  given_judged (receive_two text out) x f = absurd x
  given_judged (reply q body out) x f = absurd x
  given_judged (send_two word arguments body out) x f = absurd x
  given_judged (respond text out) x f = absurd x

  -- a call gives 20 exactly if its command is judged and adds a recipient whose text an earlier entry shows
  pub twenty_iff : (c : Call) → ((outcome s b c).number ≡ 20) ↔ (Judged s c × TwiceIn s b (brought_by c))
  twenty_iff c = (
    λ e. let f = subst (FirstOf (Condition s b c) (order_of c)) e (number_given s b r c) in
        let x = holds_of s b c Repeated (first_holds f (λ z. omega arith)) in
        (given_judged c x f, x),
    λ h. twice_given c h.0 h.1,
  )

-- received it closes the session; sent it leaves all as before, and writes nothing
pub twice_closes : (s : Session) (b : Buffers) (text : List ℕ) → let o = outcome s b (receive text) in o.number ≡ 20 → (o.session ≡ closed s) × (o.buffers ≡ b)
twice_closes s b text e =
    let w = refusal s b (receive text) (λ z. omega arith) in
    (w.session ∙ ap (λ n. session_after (receive text) n s) e, w.buffers)

pub twice_stays : (s : Session) (b : Buffers) (word : WordOne) (arguments body out : List ℕ) → let o = outcome s b (send word arguments body out) in
    o.number ≡ 20 → (o.session ≡ s) × (o.buffers ≡ b) × (o.output ≡ out) × (o.size ≡ 0)
twice_stays s b word arguments body out e =
    let w = refusal s b (send word arguments body out) (λ z. omega arith) in
    (w.session, w.buffers, w.output, w.size)

-- ---- recipients that differ

-- the recipients' table and buffer, between calls
abbrev HeldRecipients : Tables → one.BuffersOne → Type 0
HeldRecipients t b = Held recipients t.recipients b.recipients

held_same : {t t' : Table} {b b' : List ℕ} → t' ≡ t → b' ≡ b → Held recipients t b → Held recipients t' b'
held_same {t = t} {b' = b'} e q h = subst (λ x. Held recipients x b') (sym e) (subst (Held recipients t) (sym q) h)

module _ (s : Session) (b : Buffers) (r : ReachedSession s) (h : HeldRecipients s.tables b.first) where
  -- an accepted command of phase one
  applied_held : (line body : List ℕ) (s' : Session) (b' : one.BuffersOne) → Applied s b.first line body s' b' → HeldRecipients s'.tables b'
  unfolding Reached
  applied_held line body s' b' a =
      let c = command_in s.machine s.name line body in
      let p = payload_in s.machine s.name line body in
      held_same (ap (λ x. x.tables.recipients) a.session) (ap (λ x. x.recipients) a.buffers)
      (grown_held (grown s.tables b.first c p recipients) a.faultless h
      (applied_reached s.tables b.first c p (payload_stored s.name line body a.argued s.machine) r.tables recipients)
      (applied_view s.tables b.first p r.tables c a.faultless recipients))

  -- .. of phase two, an answer: the recipients stay
  two_held : (own : Bool) (line body : List ℕ) (phase : Phase) (text out : List ℕ) (o : Outcome) → AppliedTwo own s b line body phase text out o → HeldRecipients o.session.tables o.buffers.first
  two_held own line body phase text out o a =
      held_same
      (ap (λ x. x.tables.recipients) a.session ∙ two_leaves s.tables (payload_at s line body) b.second (command_at s line body) recipients) (ap (λ x. x.first.recipients) a.buffers) h

  accepted_held : (c : Call) → AcceptedBy s b c → HeldRecipients (outcome s b c).session.tables (outcome s b c).buffers.first
  accepted_held (receive text) a = applied_held _ _ _ _ a.applied
  accepted_held (send word arguments body out) a = applied_held _ _ _ _ a.applied
  accepted_held (receive_two text out) a = two_held false _ _ _ _ _ _ a
  accepted_held (reply q body out) a = held_same (ap (λ x. x.tables.recipients) a.session) (ap (λ x. x.first.recipients) a.buffers) h
  accepted_held (send_two word arguments body out) a = two_held true _ _ _ _ _ _ a
  accepted_held (respond text out) a = held_same (ap (λ x. x.tables.recipients) a.1.session) (ap (λ x. x.first.recipients) a.1.buffers) h

  call_held : (c : Call) → HeldRecipients (outcome s b c).session.tables (outcome s b c).buffers.first
  call_held c =
      cases (eqb (outcome s b c).number 0) (λ f. accepted_held c (accepted s b c (eqb-true (outcome s b c).number 0 f)))
      (λ f. let w = refusal s b c (eqb-false (outcome s b c).number 0 f) in held_same (ap (λ t. t.recipients) w.tables) (ap (λ x. x.first.recipients) w.buffers) h)

after_held : (cs : List Call) (s : Session) (b : Buffers) → ReachedSession s → HeldRecipients s.tables b.first → HeldRecipients (after s b cs).session.tables (after s b cs).buffers.first
unfolding after
after_held [] s b r h = h
after_held (c ∷ cs) s b r h = after_held cs (outcome s b c).session (outcome s b c).buffers (call_reached s b c r) (call_held s b r h c)

-- behind any list of calls from an opening, refused ones included, each lent the buffers as the one before left them, no two recipients have the same text
pub recipients_differ : (machine name : List ℕ) (screen : Bool) (b : Buffers) (cs : List Call) →
    let x = after (opened machine name screen).session b cs in Distinct (view_of (first recipients) x.session.tables x.buffers)
recipients_differ machine name screen b cs = (after_held cs (opened machine name screen).session b (opening_reached machine name screen) (opened_going b.first recipients)).ordered
