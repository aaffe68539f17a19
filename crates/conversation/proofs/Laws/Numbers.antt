-- The number of a call: the first, in the paper's order, whose condition holds. For every session that an opening and calls can reach.
use Prim.Native.Nat.{ℕ, ◌<◌}
use mathlib.Core.Path.{◌≡◌, refl, sym, ap, ◌∙◌, subst}
use mathlib.Core.Bool.{Bool, true, false, not, ◌&&◌, ◌||◌, true≢false, false≢true}
use mathlib.Core.Logic.{◌⊎◌, inl, inr, ⊎_elim, ◌↔◌}
use mathlib.Core.List.{List, [], ◌∷◌, ◌++◌}
use lib.Dec.{ltb, leb, eqb}
use lib.ListN.{length, take}
use native.Mathlib.Omega.{arith}
use borrow.Author.Tests.{ltb-true, lt-ltb, leb-true, leb-false, eqb-true, eqb-false, ne_eqb, not-true}
use Rattle.refusal.specs.Number.{number_of}
use Rattle.refusal.specs.Output.{overflows}
use Rattle.refusal.specs.Pick.{pick}
use Rattle.refusal.specs.Verdict.{first_of}
use Rattle.refusal.specs.declared.Refusal.{Refusal}
use Rattle.refusal.specs.declared.Refusal.TheVariants.{NotStanza, Unfinished, TooLong, BadCommand, BadIndex, NoSuchIndex, FallingIndex, NoSpace, SecondKey, TooManyStanzas, WorkAndError, UnfitResponse, SessionOver, OutOfTurn, ShortOutput, Malformed, Unwritable, NoSuchMachine, HeldBack, Repeated, BadChecksum, LeftoverBits}
use Rattle.refusal.proofs.Laws.Booleans.{and_true, cases}
use Rattle.refusal.proofs.Laws.Number.{number_not_zero}
use Rattle.stanza.specs.Arguments.{words, is_line}
use Rattle.stanza.specs.Automaton.{Scan, bad, short, whole, scan, start}
use Rattle.stanza.specs.Grammar.{stanza_text}
use Rattle.stanza.specs.Reading.{Reading, stanza, refused, found, read_first}
use Rattle.stanza.specs.Writing.{is_writable}
use Rattle.responses.specs.Responses.{ResponseRead, response, nothing, response_of, response_line, fits_whole}
use Rattle.responses.specs.declared.Response.{Response}
use Rattle.responses.specs.declared.Response.TheVariants.{Ok, Yes, No, Fail, Unsupported}
use Rattle.responses.proofs.Laws.Responses.{line_read_lem, read_line}
use Rattle.session.specs.Session.{Session, opened}
use Rattle.session.specs.declared.phases.Phase.{Phase}
use Rattle.session.specs.declared.phases.Phase.TheVariants.{One, Two, Awaiting, Ended, Closed}
use Rattle.session.specs.declared.words.WordTwo.{WordTwo}
use Rattle.session.specs.declared.words.WordTwo.TheVariants.{Msg, Confirm, RequestPublic, RequestSecret, RecipientStanza, FileKey, Error, Other, Done}
use Rattle.session.specs.declared.opening.Machine.{Machine}
use Rattle.phase_one.specs.Commands as one_command
use Rattle.phase_one.specs.Commands.{CommandOne}
use Rattle.phase_one.specs.PhaseOne.{command_in, payload_in}
use Rattle.phase_one.specs.Turns.{turn_one}
use Rattle.conversation.specs.Kinds.{Buffers}
use Rattle.conversation.specs.Calls.{Call, receive, send, receive_two, reply, send_two, respond, outcome, Brought, in_one, in_two, brought_by}
use Rattle.conversation.specs.CommandsTwo as command
use Rattle.conversation.specs.CommandsTwo.{CommandTwo, ask, key, error, done, other, command_two, payload_of, line_sent}
use Rattle.conversation.specs.PhaseTwo.{is_missing, is_second_key, is_too_many, is_clashing, is_spaceless, is_held_back, when, fault_of, decided}
use Rattle.conversation.specs.Phases.{line_in, body_in, CallWith, after_each}
use Rattle.conversation.specs.ReceivingTwo.{AtOnce, writes, silent, at_once, text_of}
use Rattle.conversation.specs.Replying.{number_replied}
use Rattle.conversation.specs.Sending.{shortness}
use Rattle.conversation.specs.TurnsTwo.{turn_two, due_in}
use Rattle.conversation.specs.Numbers.{Question, message, confirmation, public_value, secret_value, Naming, internal, identity, recipient, header, SayingTwo, asks, returns_stanza, returns_key, reports, SaysTwo, WrittenAtOnce, for_stanza, for_key, for_error, for_other, for_question, RowOne, RowTwo, KnownOne, KnownTwo, indices_one, indices_two, Wrong, Misindexed, WrongIn, MisindexedIn, MissingIn, FallingIn, TwiceIn, SpacelessIn, SecondIn, TooManyIn, TogetherIn, Fitting, msg_answered, confirm_answered, public_given, public_failed, secret_given, secret_failed, stanza_answered, key_answered, error_answered, other_answered, Over, InTurn, ReadsAs, Unwritten, Holds, Condition, order_of, FirstOf, no_number, this_number, later_number}
use Rattle.conversation.proofs.Laws.ConditionsOne.{fault_one, is_falling, is_repeated, is_spaceless_one, decided_tests, falling_to, falling_from, repeated_to, repeated_from, spaceless_one_to, spaceless_one_from}
use Rattle.conversation.proofs.Laws.ConditionsTwo.{missing_to, missing_from, second_to, second_from, too_many_to, too_many_from, together_to, together_from, spaceless_to, spaceless_from, held_to, held_from}
use Rattle.conversation.proofs.Laws.SumsTwo.{refuted}
use Rattle.conversation.proofs.Laws.NumberParts.{as_read, decided_one, decided_two, at_once_text, by_due, unfitness, given_receive, given_send, given_receive_two, given_send_two, given_reply, given_respond}
use Rattle.conversation.proofs.Laws.Reached.{ReachedSession, opening_reached, each_reached}
use Rattle.conversation.proofs.Laws.RowsOne.{SaidOne, said_one, misindexed_one, wrong_one}
use Rattle.conversation.proofs.Laws.RowsTwo.{no_bytes, command_said as command_of, naming_of, SaidTwo, said_two, says_command, misindexed_command, wrong_command, unknown_command}

-- ---- a number and its fault

refusal_of : ℕ → Refusal
refusal_of n =
    pick (eqb n 1) NotStanza
    (pick (eqb n 2) Unfinished
    (pick (eqb n 3) TooLong
    (pick (eqb n 4) BadCommand
    (pick (eqb n 5) BadIndex
    (pick (eqb n 6) NoSuchIndex
    (pick (eqb n 7) FallingIndex
    (pick (eqb n 8) NoSpace
    (pick (eqb n 9) SecondKey
    (pick (eqb n 10) TooManyStanzas
    (pick (eqb n 11) WorkAndError
    (pick (eqb n 12) UnfitResponse
    (pick (eqb n 13) SessionOver
    (pick (eqb n 14) OutOfTurn
    (pick (eqb n 15) ShortOutput (pick (eqb n 16) Malformed (pick (eqb n 17) Unwritable (pick (eqb n 18) NoSuchMachine (pick (eqb n 19) HeldBack (pick (eqb n 20) Repeated (pick (eqb n 21) BadChecksum LeftoverBits))))))))))))))))))))

refusal_of_lem : (r : Refusal) → refusal_of (number_of r) ≡ r
unfolding refusal_of
refusal_of_lem NotStanza = refl
refusal_of_lem Unfinished = refl
refusal_of_lem TooLong = refl
refusal_of_lem BadCommand = refl
refusal_of_lem BadIndex = refl
refusal_of_lem NoSuchIndex = refl
refusal_of_lem FallingIndex = refl
refusal_of_lem NoSpace = refl
refusal_of_lem SecondKey = refl
refusal_of_lem TooManyStanzas = refl
refusal_of_lem WorkAndError = refl
refusal_of_lem UnfitResponse = refl
refusal_of_lem SessionOver = refl
refusal_of_lem OutOfTurn = refl
refusal_of_lem ShortOutput = refl
refusal_of_lem Malformed = refl
refusal_of_lem Unwritable = refl
refusal_of_lem NoSuchMachine = refl
refusal_of_lem HeldBack = refl
refusal_of_lem Repeated = refl
refusal_of_lem BadChecksum = refl
refusal_of_lem LeftoverBits = refl

-- ---- a response that fits

no_body : (body : List ℕ) → (eqb (length body) 0 || false) ≡ true → body ≡ []
no_body body e = cases (eqb (length body) 0) (λ f. no_bytes body (eqb-true (length body) 0 f)) (λ f. absurd (false≢true (rw f at e)))

fits_to : (w : WordTwo) (r : Response) (body : List ℕ) → fits_whole w r body ≡ true → Fitting r body w
fits_to Msg Ok body e = msg_answered (inl refl) (no_body body e)
fits_to Msg Yes body e = absurd (false≢true e)
fits_to Msg No body e = absurd (false≢true e)
fits_to Msg Fail body e = msg_answered (inr refl) (no_body body e)
fits_to Msg Unsupported body e = absurd (false≢true e)
fits_to Confirm Ok body e = absurd (false≢true e)
fits_to Confirm Yes body e = confirm_answered (inl refl) (no_body body e)
fits_to Confirm No body e = confirm_answered (inr (inl refl)) (no_body body e)
fits_to Confirm Fail body e = confirm_answered (inr (inr refl)) (no_body body e)
fits_to Confirm Unsupported body e = absurd (false≢true e)
fits_to RequestPublic Ok body e = public_given refl
fits_to RequestPublic Yes body e = absurd (false≢true e)
fits_to RequestPublic No body e = absurd (false≢true e)
fits_to RequestPublic Fail body e = public_failed refl (no_body body e)
fits_to RequestPublic Unsupported body e = absurd (false≢true e)
fits_to RequestSecret Ok body e = secret_given refl
fits_to RequestSecret Yes body e = absurd (false≢true e)
fits_to RequestSecret No body e = absurd (false≢true e)
fits_to RequestSecret Fail body e = secret_failed refl (no_body body e)
fits_to RequestSecret Unsupported body e = absurd (false≢true e)
fits_to RecipientStanza Ok body e = stanza_answered refl (no_body body e)
fits_to RecipientStanza Yes body e = absurd (false≢true e)
fits_to RecipientStanza No body e = absurd (false≢true e)
fits_to RecipientStanza Fail body e = absurd (false≢true e)
fits_to RecipientStanza Unsupported body e = absurd (false≢true e)
fits_to FileKey Ok body e = key_answered refl (no_body body e)
fits_to FileKey Yes body e = absurd (false≢true e)
fits_to FileKey No body e = absurd (false≢true e)
fits_to FileKey Fail body e = absurd (false≢true e)
fits_to FileKey Unsupported body e = absurd (false≢true e)
fits_to Error Ok body e = error_answered refl (no_body body e)
fits_to Error Yes body e = absurd (false≢true e)
fits_to Error No body e = absurd (false≢true e)
fits_to Error Fail body e = absurd (false≢true e)
fits_to Error Unsupported body e = absurd (false≢true e)
fits_to Other Ok body e = absurd (false≢true e)
fits_to Other Yes body e = absurd (false≢true e)
fits_to Other No body e = absurd (false≢true e)
fits_to Other Fail body e = absurd (false≢true e)
fits_to Other Unsupported body e = other_answered refl (no_body body e)
fits_to Done Ok body e = absurd (false≢true e)
fits_to Done Yes body e = absurd (false≢true e)
fits_to Done No body e = absurd (false≢true e)
fits_to Done Fail body e = absurd (false≢true e)
fits_to Done Unsupported body e = absurd (false≢true e)

either_true : (f : Bool) → (f || true) ≡ true
either_true true = refl
either_true false = refl

fits_from : (w : WordTwo) (r : Response) (body : List ℕ) → Fitting r body w → fits_whole w r body ≡ true
fits_from w r body (msg_answered (inl e) z) = rw (e, z)
fits_from w r body (msg_answered (inr e) z) = rw (e, z)
fits_from w r body (confirm_answered (inl e) z) = rw (e, z)
fits_from w r body (confirm_answered (inr (inl e)) z) = rw (e, z)
fits_from w r body (confirm_answered (inr (inr e)) z) = rw (e, z)
fits_from w r body (public_given e) = rw e (either_true (eqb (length body) 0))
fits_from w r body (public_failed e z) = rw (e, z)
fits_from w r body (secret_given e) = rw e (either_true (eqb (length body) 0))
fits_from w r body (secret_failed e z) = rw (e, z)
fits_from w r body (stanza_answered e z) = rw (e, z)
fits_from w r body (key_answered e z) = rw (e, z)
fits_from w r body (error_answered e z) = rw (e, z)
fits_from w r body (other_answered e z) = rw (e, z)

-- ---- reading gives 1, 2 or 3

found_number : (m : ℕ) (w : List ℕ) (x : Scan) (n : ℕ) → found m w x ≡ refused n → (n ≡ 1) ⊎ (n ≡ 2) ⊎ (n ≡ 3)
unfolding found
found_number m w bad n e = inl (cc)
found_number m w short n e = by (ltb m 8192) e
  where
    by : (f : Bool) → pick f (refused 2) (refused 3) ≡ refused n → (n ≡ 1) ⊎ (n ≡ 2) ⊎ (n ≡ 3)
    by true e = inr (inl (cc))
    by false e = inr (inr (cc))
found_number m w (whole k) n e = let z : ◌≡◌ {A = ℕ} 0 1 = cc in absurd (omega arith)

pub reading_number : (text : List ℕ) (n : ℕ) → read_first text ≡ refused n → (n ≡ 1) ⊎ (n ≡ 2) ⊎ (n ≡ 3)
reading_number text n e = found_number (length text) (take 8192 text) (scan start 0 (take 8192 text)) n e

-- then what follows
read_first_lem : (text : List ℕ) (late : ℕ) → as_read (read_first text) late ≡ first_of (as_read (read_first text) 0) late
read_first_lem text late = go (read_first text) refl
  where
    positive : (n : ℕ) → (n ≡ 1) ⊎ (n ≡ 2) ⊎ (n ≡ 3) → n ≡ 0 → ⊥
    positive n (inl e) z = omega arith
    positive n (inr (inl e)) z = omega arith
    positive n (inr (inr e)) z = omega arith

    go : (q : Reading) → read_first text ≡ q → as_read q late ≡ first_of (as_read q 0) late
    go (stanza e n k) q = refl
    go (refused n) q = sym (ap (λ f. pick f late n) (ne_eqb n 0 (positive n (reading_number text n q))))

-- ---- 4 and 5

-- the fault's number
abbrev is_bad : ℕ → CommandTwo → Bool
is_bad k (ask w) = false
is_bad k (command.stanza f) = false
is_bad k (key f) = false
is_bad k (error n) = false
is_bad k done = false
is_bad k other = false
is_bad k (command.bad n) = eqb n k

module _ (machine : Machine) (line body : List ℕ) where
  abbrev Said : CommandTwo → Type 0
  Said x = SaidTwo machine line body x

  fault_is : (x : CommandTwo) → Said x → fault_of x ≡ first_of (when (is_bad 4 x) 4) (when (is_bad 5 x) 5)
  fault_is (ask w) h = refl
  fault_is (command.stanza f) h = refl
  fault_is (key f) h = refl
  fault_is (error n) h = refl
  fault_is done h = refl
  fault_is other h = refl
  fault_is (command.bad n) h = ⊎_elim (λ q. rw q.0) (λ q. rw q.0) h

  wrong_from : (x : CommandTwo) → Said x → is_bad 4 x ≡ true → Wrong (KnownTwo machine line) (RowTwo machine (words line) body)
  wrong_from (ask w) h e = absurd (false≢true e)
  wrong_from (command.stanza f) h e = absurd (false≢true e)
  wrong_from (key f) h e = absurd (false≢true e)
  wrong_from (error n) h e = absurd (false≢true e)
  wrong_from done h e = absurd (false≢true e)
  wrong_from other h e = absurd (false≢true e)
  wrong_from (command.bad n) h e = ⊎_elim (λ q. q.1) (λ q. let z = q.0 in let y = eqb-true n 4 e in absurd (omega arith)) h

  misindexed_from : (x : CommandTwo) → Said x → is_bad 5 x ≡ true → Misindexed (RowTwo machine (words line) body) indices_two
  misindexed_from (ask w) h e = absurd (false≢true e)
  misindexed_from (command.stanza f) h e = absurd (false≢true e)
  misindexed_from (key f) h e = absurd (false≢true e)
  misindexed_from (error n) h e = absurd (false≢true e)
  misindexed_from done h e = absurd (false≢true e)
  misindexed_from other h e = absurd (false≢true e)
  misindexed_from (command.bad n) h e = ⊎_elim (λ q. let z = q.0 in let y = eqb-true n 5 e in absurd (omega arith)) (λ q. q.1) h

-- the same of phase one
abbrev is_bad_one : ℕ → CommandOne → Bool
is_bad_one k (one_command.recipient m) = false
is_bad_one k (one_command.identity m) = false
is_bad_one k one_command.key = false
is_bad_one k (one_command.header i m) = false
is_bad_one k one_command.done = false
is_bad_one k one_command.other = false
is_bad_one k (one_command.bad n) = eqb n k

module _ (machine : Machine) (line body : List ℕ) where
  abbrev SaidFirst : CommandOne → Type 0
  SaidFirst x = SaidOne machine line body x

  fault_one_is : (x : CommandOne) → SaidFirst x → fault_one x ≡ first_of (when (is_bad_one 4 x) 4) (when (is_bad_one 5 x) 5)
  fault_one_is (one_command.recipient m) h = refl
  fault_one_is (one_command.identity m) h = refl
  fault_one_is one_command.key h = refl
  fault_one_is (one_command.header i m) h = refl
  fault_one_is one_command.done h = refl
  fault_one_is one_command.other h = refl
  fault_one_is (one_command.bad n) h = ⊎_elim (λ q. rw q.0) (λ q. rw q.0) h

  wrong_one_from : (x : CommandOne) → SaidFirst x → is_bad_one 4 x ≡ true → Wrong (KnownOne machine line) (RowOne machine (words line) body)
  wrong_one_from (one_command.recipient m) h e = absurd (false≢true e)
  wrong_one_from (one_command.identity m) h e = absurd (false≢true e)
  wrong_one_from one_command.key h e = absurd (false≢true e)
  wrong_one_from (one_command.header i m) h e = absurd (false≢true e)
  wrong_one_from one_command.done h e = absurd (false≢true e)
  wrong_one_from one_command.other h e = absurd (false≢true e)
  wrong_one_from (one_command.bad n) h e = ⊎_elim (λ q. q.1) (λ q. let z = q.0 in let y = eqb-true n 4 e in absurd (omega arith)) h

  misindexed_one_from : (x : CommandOne) → SaidFirst x → is_bad_one 5 x ≡ true → Misindexed (RowOne machine (words line) body) indices_one
  misindexed_one_from (one_command.recipient m) h e = absurd (false≢true e)
  misindexed_one_from (one_command.identity m) h e = absurd (false≢true e)
  misindexed_one_from one_command.key h e = absurd (false≢true e)
  misindexed_one_from (one_command.header i m) h e = absurd (false≢true e)
  misindexed_one_from one_command.done h e = absurd (false≢true e)
  misindexed_one_from one_command.other h e = absurd (false≢true e)
  misindexed_one_from (one_command.bad n) h e = ⊎_elim (λ q. let z = q.0 in let y = eqb-true n 5 e in absurd (omega arith)) (λ q. q.1) h

-- ---- the first number of a list

module _ (s : Session) (b : Buffers) (c : Call) where
  abbrev P : ℕ → Type 0
  P n = Condition s b c n

  abbrev H : Refusal → Type 0
  H r = Holds s b c r

  -- a number's condition is that of its fault
  pub holds_of : (r : Refusal) → P (number_of r) → H r
  holds_of r (q, e, h) = subst H (sym (refusal_of_lem q) ∙ ap refusal_of e ∙ refusal_of_lem r) h

  here : (r : Refusal) {ks : List ℕ} → H r → FirstOf P (number_of r ∷ ks) (number_of r)
  here r h = this_number (r, refl, h)

  there : (r : Refusal) {ks : List ℕ} {n : ℕ} → (H r → ⊥) → FirstOf P ks n → FirstOf P (number_of r ∷ ks) n
  there r h f = later_number (λ p. h (holds_of r p)) f

  -- a test that holds exactly if the condition does
  test : (r : Refusal) (f : Bool) (n : ℕ) → number_of r ≡ n → (f ≡ true → H r) → (H r → f ≡ true) → FirstOf P (number_of r ∷ []) (when f n)
  test r true n e to from = subst (FirstOf P (number_of r ∷ [])) e (here r (to refl))
  test r false n e to from = there r (λ h. false≢true (from h)) no_number

  -- .. and a number that is its own where the test holds, and of a later one where it does not
  step : (r : Refusal) (ks : List ℕ) (n : ℕ) (f : Bool) → (f ≡ true → H r) → (H r → f ≡ true) → (f ≡ true → n ≡ number_of r) → (f ≡ false → FirstOf P ks n) → FirstOf P (number_of r ∷ ks) n
  step r ks n true to from e h = subst (FirstOf P (number_of r ∷ ks)) (sym (e refl)) (here r (to refl))
  step r ks n false to from e h = there r (λ x. false≢true (from x)) (h refl)

  -- one list behind another
  both : (ks js : List ℕ) (m n : ℕ) → FirstOf P ks m → (m ≡ 0 → FirstOf P js n) → FirstOf P (ks ++ js) (first_of m n)
  both ks js m n no_number g = g refl
  both ks js m n (this_number p) g = subst (FirstOf P (ks ++ js)) (sym (ap (λ f. pick f n m) (ne_eqb m 0 (λ z. eqb-false (number_of p.0) 0 (number_not_zero p.0) (p.1 ∙ z))))) (this_number p)
  both ks js m n (later_number p h) g = later_number p (both _ js m n h g)

  -- ---- turns

  turned_one : (InTurn c s.phase ↔ (s.phase ≡ One)) → (p : Phase) → s.phase ≡ p → FirstOf P (13 ∷ 14 ∷ []) (turn_one p)
  turned_one i One e = there SessionOver (⊎_elim (λ q. let z : ◌≡◌ {A = ℕ} 0 1 = cc in omega arith) (λ q. let z : ◌≡◌ {A = ℕ} 0 1 = cc in omega arith)) (there OutOfTurn (λ n. n (i.1 e)) no_number)
  turned_one i Two e = there SessionOver (⊎_elim (λ q. let z : ◌≡◌ {A = ℕ} 0 1 = cc in omega arith) (λ q. let z : ◌≡◌ {A = ℕ} 0 1 = cc in omega arith)) (here OutOfTurn (λ n. let q = i.0 n in let z : ◌≡◌ {A = ℕ} 0 1 = cc in omega arith))
  turned_one i (Awaiting w) e = there SessionOver (⊎_elim (λ q. let z : ◌≡◌ {A = ℕ} 0 1 = cc in omega arith) (λ q. let z : ◌≡◌ {A = ℕ} 0 1 = cc in omega arith)) (here OutOfTurn (λ n. let q = i.0 n in let z : ◌≡◌ {A = ℕ} 0 1 = cc in omega arith))
  turned_one i Ended e = here SessionOver (inr e)
  turned_one i Closed e = here SessionOver (inl e)

  turned_two : (InTurn c s.phase ↔ (s.phase ≡ Two)) → (p : Phase) → s.phase ≡ p → FirstOf P (13 ∷ 14 ∷ []) (turn_two p)
  turned_two i One e = there SessionOver (⊎_elim (λ q. let z : ◌≡◌ {A = ℕ} 0 1 = cc in omega arith) (λ q. let z : ◌≡◌ {A = ℕ} 0 1 = cc in omega arith)) (here OutOfTurn (λ n. let q = i.0 n in let z : ◌≡◌ {A = ℕ} 0 1 = cc in omega arith))
  turned_two i Two e = there SessionOver (⊎_elim (λ q. let z : ◌≡◌ {A = ℕ} 0 1 = cc in omega arith) (λ q. let z : ◌≡◌ {A = ℕ} 0 1 = cc in omega arith)) (there OutOfTurn (λ n. n (i.1 e)) no_number)
  turned_two i (Awaiting w) e = there SessionOver (⊎_elim (λ q. let z : ◌≡◌ {A = ℕ} 0 1 = cc in omega arith) (λ q. let z : ◌≡◌ {A = ℕ} 0 1 = cc in omega arith)) (here OutOfTurn (λ n. let q = i.0 n in let z : ◌≡◌ {A = ℕ} 0 1 = cc in omega arith))
  turned_two i Ended e = here SessionOver (inr e)
  turned_two i Closed e = here SessionOver (inl e)

  -- ---- reading

  read_part : (text : List ℕ) → ((n : ℕ) → ReadsAs c n ↔ (read_first text ≡ refused n)) → FirstOf P (1 ∷ 2 ∷ 3 ∷ []) (as_read (read_first text) 0)
  read_part text i = go (read_first text) refl
    where
      by : (n : ℕ) → read_first text ≡ refused n → (n ≡ 1) ⊎ (n ≡ 2) ⊎ (n ≡ 3) → FirstOf P (1 ∷ 2 ∷ 3 ∷ []) n
      by n q (inl e) = subst (FirstOf P (1 ∷ 2 ∷ 3 ∷ [])) (sym e) (here NotStanza ((i 1).1 (q ∙ ap refused e)))
      by n q (inr (inl e)) =
          subst (FirstOf P (1 ∷ 2 ∷ 3 ∷ [])) (sym e) (there NotStanza (λ h. let h' = (i 1).0 h in let z : ◌≡◌ {A = ℕ} 1 2 = cc in omega arith) (here Unfinished ((i 2).1 (q ∙ ap refused e))))
      by n q (inr (inr e)) =
          subst (FirstOf P (1 ∷ 2 ∷ 3 ∷ [])) (sym e)
          (there NotStanza (λ h. let h' = (i 1).0 h in let z : ◌≡◌ {A = ℕ} 1 3 = cc in omega arith)
          (there Unfinished (λ h. let h' = (i 2).0 h in let z : ◌≡◌ {A = ℕ} 2 3 = cc in omega arith) (here TooLong ((i 3).1 (q ∙ ap refused e)))))

      go : (q : Reading) → read_first text ≡ q → FirstOf P (1 ∷ 2 ∷ 3 ∷ []) (as_read q 0)
      go (stanza e n k) q =
          there NotStanza (λ h. let h' = (i 1).0 h in let z : ◌≡◌ {A = ℕ} 0 1 = cc in omega arith)
          (there Unfinished (λ h. let h' = (i 2).0 h in let z : ◌≡◌ {A = ℕ} 0 1 = cc in omega arith) (there TooLong (λ h. let h' = (i 3).0 h in let z : ◌≡◌ {A = ℕ} 0 1 = cc in omega arith) no_number))
      go (refused n) q = by n q (reading_number text n q)

  -- ---- writing

  write_part : (line body : List ℕ) → (H Unwritable ↔ Unwritten line body) → FirstOf P (17 ∷ []) (when (not (is_writable line body)) 17)
  write_part line body i =
      test Unwritable (not (is_writable line body)) 17 refl
      (λ e. i.1 (unwritten (is_line line) (leb (length (stanza_text line body)) 8192) (λ f. leb-false (length (stanza_text line body)) 8192 f) (not-true _ e)))
      (λ h. ap not (refuted (is_writable line body) (λ e. let a = and_true (is_line line) (leb (length (stanza_text line body)) 8192) e in
      ⊎_elim (λ q. true≢false (sym a.0 ∙ q)) (λ q. let l = leb-true (length (stanza_text line body)) 8192 a.1 in omega arith) (i.0 h))))
    where
      unwritten : (f g : Bool) → (g ≡ false → 8192 < length (stanza_text line body)) → (f && g) ≡ false → (f ≡ false) ⊎ (8192 < length (stanza_text line body))
      unwritten true g l e = inr (l e)
      unwritten false g l e = inl refl

  -- 17 and what follows
  unwritten_first : (f : Bool) (n : ℕ) → pick f n 17 ≡ first_of (when (not f) 17) n
  unwritten_first true n = refl
  unwritten_first false n = refl

  -- ---- the output

  output_part : (text out : List ℕ) → (H ShortOutput ↔ (length out < length text)) → FirstOf P (15 ∷ []) (when (overflows text out) 15)
  output_part text out i = test ShortOutput (overflows text out) 15 refl (λ e. i.1 (ltb-true (length out) (length text) e)) (λ h. lt-ltb (length out) (length text) (i.0 h))

  -- ---- a command of phase two

  module _ (reached : ReachedSession s) (line body : List ℕ) (brought : brought_by c ≡ in_two line body) where
    abbrev command_said : CommandTwo
    command_said = command_two s.machine line body

    abbrev said_so : SaidTwo s.machine line body command_said
    said_so = said_two s.machine line body

    abbrev is_true : Bool → Type 0
    is_true f = f ≡ true

    abbrev is_false : Bool → Type 0
    is_false f = f ≡ false

    -- a condition that is said of what the call brings
    step_two : (r : Refusal) (F : Brought → Type 0) → (H r ↔ F (brought_by c)) → (ks : List ℕ) (n : ℕ) (f : Bool) → (is_true f → F (in_two line body)) → (F (in_two line body) → is_true f) →
        (is_true f → n ≡ number_of r) → (is_false f → FirstOf P ks n) → FirstOf P (number_of r ∷ ks) n
    step_two r F i ks n f to from = step r ks n f (λ q. i.1 (subst F (sym brought) (to q))) (λ h. from (subst F brought (i.0 h)))

    -- what is asked of the tables, in the decision's order
    abbrev missing : Bool
    missing = is_missing s.tables command_said

    abbrev second_key : Bool
    second_key = is_second_key s.tables command_said

    abbrev too_many : Bool
    too_many = is_too_many s.tables command_said

    abbrev clashing : Bool
    clashing = is_clashing s.tables command_said

    abbrev held_back : Bool
    held_back = is_held_back s.tables command_said

    abbrev spaceless : Bool
    spaceless = is_spaceless s.tables b.second command_said (length (payload_of command_said line body))

    -- 4 to 11; then the rest
    early_two : (own : Bool) (ks : List ℕ) →
        (fault_of command_said ≡ 0 → is_false missing → is_false second_key → is_false too_many → is_false clashing → FirstOf P ks (decided_two s b own line body)) →
        FirstOf P (4 ∷ 5 ∷ 6 ∷ 7 ∷ 20 ∷ 9 ∷ 10 ∷ 11 ∷ ks) (decided_two s b own line body)
    unfolding decided
    early_two own ks rest =
        let n = decided_two s b own line body in
        let four = wrong_from s.machine line body command_said said_so in
        let five = misindexed_from s.machine line body command_said said_so in
        step_two BadCommand (WrongIn s) (λ h. h, λ h. h) (5 ∷ 6 ∷ 7 ∷ 20 ∷ 9 ∷ 10 ∷ 11 ∷ ks) n (is_bad 4 command_said) four (λ h. ap (is_bad 4) (wrong_command s.machine line body h)) (λ f. rw (ap fault_of (wrong_command s.machine line body (four f))))
        (λ b4. step_two BadIndex (MisindexedIn s) (λ h. h, λ h. h) (6 ∷ 7 ∷ 20 ∷ 9 ∷ 10 ∷ 11 ∷ ks) n (is_bad 5 command_said) five (λ h. ap (is_bad 5) (misindexed_command s.machine line body h)) (λ f. rw (ap fault_of (misindexed_command s.machine line body (five f))))
        (λ b5. let z : fault_of command_said ≡ 0 = fault_is s.machine line body command_said said_so ∙ rw (b4, b5) in
        step_two NoSuchIndex (MissingIn s b) (λ h. h, λ h. h) (7 ∷ 20 ∷ 9 ∷ 10 ∷ 11 ∷ ks) n missing (missing_from s b reached line body command_said said_so) (missing_to s b reached line body) (λ f. rw (z, f))
        (λ m. there FallingIndex (λ h. subst (FallingIn s b) brought h)
        (there Repeated (λ h. subst (TwiceIn s b) brought h)
        (step_two SecondKey (SecondIn s b) (λ h. h, λ h. h) (10 ∷ 11 ∷ ks) n second_key (second_from s b reached line body command_said said_so) (second_to s b reached line body) (λ f. rw (z, m, f))
        (λ k. step_two TooManyStanzas (TooManyIn s b) (λ h. h, λ h. h) (11 ∷ ks) n too_many (too_many_from s b reached line body command_said said_so) (too_many_to s b reached line body) (λ f. rw (z, m, k, f))
        (λ y. step_two WorkAndError (TogetherIn s b) (λ h. h, λ h. h) ks n clashing (together_from s b reached line body command_said said_so) (together_to s b reached line body) (λ f. rw (z, m, k, y, f))
        (λ l. rest z m k y l))))))))

    -- received: 8
    received_two : FirstOf P (4 ∷ 5 ∷ 6 ∷ 7 ∷ 20 ∷ 9 ∷ 10 ∷ 11 ∷ 8 ∷ []) (decided_two s b false line body)
    unfolding decided
    received_two =
        early_two false (8 ∷ [])
        (λ z m k y l. step_two NoSpace (SpacelessIn s b) (λ h. h, λ h. h) [] (decided_two s b false line body) spaceless (spaceless_from s b reached line body command_said said_so) (spaceless_to s b reached line body)
        (λ f. rw (z, m, k, y, l, f)) (λ f. rw (z, m, k, y, l, f) no_number))

    -- sent: 19, 8
    sent_two : (is_true held_back → H HeldBack) → (H HeldBack → is_true held_back) → FirstOf P (4 ∷ 5 ∷ 6 ∷ 7 ∷ 20 ∷ 9 ∷ 10 ∷ 11 ∷ 19 ∷ 8 ∷ []) (decided_two s b true line body)
    unfolding decided
    sent_two to from =
        early_two true (19 ∷ 8 ∷ [])
        (λ z m k y l. step HeldBack (8 ∷ []) (decided_two s b true line body) held_back to from (λ f. rw (z, m, k, y, l, f))
        (λ h. step_two NoSpace (SpacelessIn s b) (λ h. h, λ h. h) [] (decided_two s b true line body) spaceless (spaceless_from s b reached line body command_said said_so) (spaceless_to s b reached line body)
        (λ f. rw (z, m, k, y, l, h, f)) (λ f. rw (z, m, k, y, l, h, f) no_number)))

  -- ---- a command of phase one

  module _ (reached : ReachedSession s) (line body : List ℕ) (brought : brought_by c ≡ in_one line body) where
    abbrev one_said : CommandOne
    one_said = command_in s.machine s.name line body

    abbrev one_so : SaidOne s.machine line body one_said
    one_so = said_one s.machine line body s.name

    test_one : (r : Refusal) (F : Brought → Type 0) → (H r ↔ F (brought_by c)) → (f : Bool) (n : ℕ) → number_of r ≡ n → (f ≡ true → F (in_one line body)) → (F (in_one line body) → f ≡ true) → FirstOf P (number_of r ∷ []) (when f n)
    test_one r F i f n e to from = test r f n e (λ q. i.1 (subst F (sym brought) (to q))) (λ h. from (subst F brought (i.0 h)))

    fault_one_lem : FirstOf P (4 ∷ 5 ∷ []) (fault_one one_said)
    fault_one_lem =
        subst (FirstOf P (4 ∷ 5 ∷ [])) (sym (fault_one_is s.machine line body one_said one_so))
        (both (4 ∷ []) (5 ∷ []) _ _
        (test_one BadCommand (WrongIn s) (λ h. h, λ h. h) (is_bad_one 4 one_said) 4 refl (wrong_one_from s.machine line body one_said one_so) (λ h. ap (is_bad_one 4) (wrong_one s.machine line body s.name h)))
        (λ z. test_one BadIndex (MisindexedIn s) (λ h. h, λ h. h) (is_bad_one 5 one_said) 5 refl (misindexed_one_from s.machine line body one_said one_so) (λ h. ap (is_bad_one 5) (misindexed_one s.machine line body s.name h))))

    -- `ks` where nothing of it is given in phase one
    decided_one_lem : (ks : List ℕ) → FirstOf P ks 0 → FirstOf P (4 ∷ 5 ∷ 6 ∷ 7 ∷ 20 ∷ 9 ∷ 10 ∷ 11 ∷ ks ++ (8 ∷ [])) (decided_one s b line body)
    decided_one_lem ks held =
        subst (FirstOf P (4 ∷ 5 ∷ 6 ∷ 7 ∷ 20 ∷ 9 ∷ 10 ∷ 11 ∷ ks ++ (8 ∷ []))) (sym (decided_tests s.tables b.first one_said (payload_in s.machine s.name line body)))
        (both (4 ∷ 5 ∷ []) (6 ∷ 7 ∷ 20 ∷ 9 ∷ 10 ∷ 11 ∷ ks ++ (8 ∷ [])) _ _ fault_one_lem
        (λ z. there NoSuchIndex (λ h. subst (MissingIn s b) brought h)
        (both (7 ∷ []) (20 ∷ 9 ∷ 10 ∷ 11 ∷ ks ++ (8 ∷ [])) _ _
        (test_one FallingIndex (FallingIn s b) (λ h. h, λ h. h) (is_falling s.tables one_said) _ refl (falling_from s b reached line body one_said one_so) (falling_to s b reached line body))
        (λ z. both (20 ∷ []) (9 ∷ 10 ∷ 11 ∷ ks ++ (8 ∷ [])) _ _
        (test_one Repeated (TwiceIn s b) (λ h. h, λ h. h) (is_repeated s.tables b.first one_said (payload_in s.machine s.name line body)) _ refl (repeated_from s b reached line body one_said one_so) (repeated_to s b reached line body))
        (λ z. there SecondKey (λ h. subst (SecondIn s b) brought h)
        (there TooManyStanzas (λ h. subst (TooManyIn s b) brought h)
        (there WorkAndError (λ h. subst (TogetherIn s b) brought h)
        (both ks (8 ∷ []) 0 _ held
        (λ z. test_one NoSpace (SpacelessIn s b) (λ h. h, λ h. h) (is_spaceless_one s.tables b.first one_said (length (payload_in s.machine s.name line body))) _ refl (spaceless_one_from s b reached line body one_said one_so) (spaceless_one_to s b reached line body))))))))))

-- ---- what the client writes at once

module _ (s : Session) (line body : List ℕ) where
  abbrev Says : SayingTwo ℕ → Type 0
  Says x = SaysTwo s.machine line body x

  abbrev AtOnceHere : Response → Type 0
  AtOnceHere r = WrittenAtOnce s.screen (KnownTwo s.machine line) Says r

  at_once_said : (x : SayingTwo ℕ) → Says x → at_once s.screen (command_two s.machine line body) ≡ at_once s.screen (command_of x)
  at_once_said x h = ap (at_once s.screen) (says_command s.machine line body x h)

  question_fails : (q : Question) → s.screen ≡ false → at_once s.screen (command_of (asks q)) ≡ writes Fail
  question_fails message e = rw e
  question_fails confirmation e = rw e
  question_fails public_value e = rw e
  question_fails secret_value e = rw e

  error_answered_so : (n : Naming ℕ) → at_once s.screen (command_of (reports n)) ≡ writes Ok
  error_answered_so internal = refl
  error_answered_so (identity i) = refl
  error_answered_so (recipient i) = refl
  error_answered_so (header f i) = refl

  at_once_to : (r : Response) → AtOnceHere r → at_once s.screen (command_two s.machine line body) ≡ writes r
  at_once_to r (for_stanza f h e) = at_once_said (returns_stanza f) h ∙ ap writes (sym e)
  at_once_to r (for_key f h e) = at_once_said (returns_key f) h ∙ ap writes (sym e)
  at_once_to r (for_error n h e) = at_once_said (reports n) h ∙ error_answered_so n ∙ ap writes (sym e)
  at_once_to r (for_other n e) = ap (at_once s.screen) (unknown_command s.machine line body n) ∙ ap writes (sym e)
  at_once_to r (for_question q h d e) = at_once_said (asks q) h ∙ question_fails q d ∙ ap writes (sym e)

  at_once_from : (x : CommandTwo) → SaidTwo s.machine line body x → (r : Response) → at_once s.screen x ≡ writes r → AtOnceHere r
  at_once_from (ask w) h r e = cases s.screen (λ f. let z : silent ≡ writes r = sym (ap (λ v. pick v silent (writes Fail)) f) ∙ e in let y : ◌≡◌ {A = ℕ} 0 1 = cc in absurd (omega arith)) (λ f. let z : writes Fail ≡ writes r = sym (ap (λ v. pick v silent (writes Fail)) f) ∙ e in for_question h.0 h.1 f (cc))
  at_once_from (command.stanza f) h r e = for_stanza f h (cc)
  at_once_from (key f) h r e = for_key f h (cc)
  at_once_from (error n) h r e = for_error (naming_of n) h (cc)
  at_once_from done h r e = let z : ◌≡◌ {A = ℕ} 0 1 = cc in absurd (omega arith)
  at_once_from other h r e = for_other h (cc)
  at_once_from (command.bad n) h r e = let z : ◌≡◌ {A = ℕ} 0 1 = cc in absurd (omega arith)

  -- its text is longer than the output exactly if a response is
  at_once_over : (out : List ℕ) → (length out < length (text_of (at_once s.screen (command_two s.machine line body)))) ↔ ((r : Response) × AtOnceHere r × (length out < length (stanza_text (response_line r) [])))
  at_once_over out = (go (at_once s.screen (command_two s.machine line body)) refl, λ h. subst (λ a. length out < length (text_of a)) (sym (at_once_to h.0 h.1)) h.2)
    where
      go : (a : AtOnce) → at_once s.screen (command_two s.machine line body) ≡ a → length out < length (text_of a) → (r : Response) × AtOnceHere r × (length out < length (stanza_text (response_line r) []))
      go (writes r) e l = (r, at_once_from (command_two s.machine line body) (said_two s.machine line body) r e, l)
      go silent e l = absurd (omega arith)

-- ---- answers

module _ (s : Session) (b : Buffers) where
  -- 13 and 14 of an answer, and what follows where one is due
  answer_part : (c : Call) → (InTurn c s.phase ↔ ((w : WordTwo) × (s.phase ≡ Awaiting w))) → (ks : List ℕ) (late : WordTwo → ℕ) →
      ((w : WordTwo) → s.phase ≡ Awaiting w → FirstOf (Condition s b c) ks (late w)) → FirstOf (Condition s b c) (13 ∷ 14 ∷ ks) (by_due s b (due_in s.phase) late)
  answer_part c i ks late follows = go s.phase refl
    where
      open_still : (p : Phase) → s.phase ≡ p → (p ≡ Closed → ⊥) → (p ≡ Ended → ⊥) → Over s.phase → ⊥
      open_still p e h g = ⊎_elim (λ q. h (sym e ∙ q)) (λ q. g (sym e ∙ q))

      go : (p : Phase) → s.phase ≡ p → FirstOf (Condition s b c) (13 ∷ 14 ∷ ks) (by_due s b (due_in p) late)
      go One e = there s b c SessionOver (open_still One e (λ q. let z : ◌≡◌ {A = ℕ} 0 1 = cc in omega arith) (λ q. let z : ◌≡◌ {A = ℕ} 0 1 = cc in omega arith)) (here s b c OutOfTurn (λ n. let q = (i.0 n).1 in let z : ◌≡◌ {A = ℕ} 0 1 = cc in omega arith))
      go Two e = there s b c SessionOver (open_still Two e (λ q. let z : ◌≡◌ {A = ℕ} 0 1 = cc in omega arith) (λ q. let z : ◌≡◌ {A = ℕ} 0 1 = cc in omega arith)) (here s b c OutOfTurn (λ n. let q = (i.0 n).1 in let z : ◌≡◌ {A = ℕ} 0 1 = cc in omega arith))
      go (Awaiting w) e = there s b c SessionOver (open_still (Awaiting w) e (λ q. let z : ◌≡◌ {A = ℕ} 0 1 = cc in omega arith) (λ q. let z : ◌≡◌ {A = ℕ} 0 1 = cc in omega arith)) (there s b c OutOfTurn (λ n. n (i.1 (w, e))) (follows w e))
      go Ended e = here s b c SessionOver (inr e)
      go Closed e = here s b c SessionOver (inl e)

  -- one command awaits it
  same_awaited : (v w : WordTwo) → s.phase ≡ Awaiting v → s.phase ≡ Awaiting w → v ≡ w
  same_awaited v w p q = cc

  unfit_first : (f g : Bool) → ◌≡◌ {A = ℕ} (pick f (pick g 0 17) 12) (first_of (when (not f) 12) (when (not g) 17))
  unfit_first true true = refl
  unfit_first true false = refl
  unfit_first false g = refl

  reply_part : (r : Response) (body out : List ℕ) (w : WordTwo) → s.phase ≡ Awaiting w →
      FirstOf (Condition s b (reply r body out)) (12 ∷ 17 ∷ 15 ∷ []) (first_of (number_replied w r body) (shortness (stanza_text (response_line r) body) out))
  reply_part r body out w e =
      let c = reply r body out in
      both s b c (12 ∷ 17 ∷ []) (15 ∷ []) _ _
      (subst (FirstOf (Condition s b c) (12 ∷ 17 ∷ [])) (sym (unfit_first (fits_whole w r body) (is_writable (response_line r) body)))
      (both s b c (12 ∷ []) (17 ∷ []) _ _
      (test s b c UnfitResponse (not (fits_whole w r body)) 12 refl (λ f. (w, e, λ x. true≢false (sym (fits_from w r body x) ∙ not-true _ f)))
      (λ h. ap not (refuted (fits_whole w r body) (λ f. h.2 (fits_to h.0 r body (subst (λ v. fits_whole v r body ≡ true) (same_awaited w h.0 e h.1) f))))))
      (λ z. write_part s b c (response_line r) body (λ h. h, λ h. h))))
      (λ z. output_part s b c (stanza_text (response_line r) body) out (λ h. h, λ h. h))

  -- a response that was read is none that fits
  unfit_to : (w : WordTwo) (line body : List ℕ) (q : ResponseRead) → response_of line ≡ q → (unfitness s b w q body ≡ 0) ⊎ ((unfitness s b w q body ≡ 12) × ((r : Response) → line ≡ response_line r → Fitting r body w → ⊥))
  unfit_to w line body (response r) e =
      cases (fits_whole w r body) (λ f. inl (ap (λ v. pick v 0 12) f))
      (λ f. inr (ap (λ v. pick v 0 12) f, λ q l x. let z : response q ≡ response r = sym (read_line q) ∙ ap response_of (sym l) ∙ e in let y : q ≡ r = cc in true≢false (sym (fits_from w r body (subst (λ q. Fitting q body w) y x)) ∙ f)))
  unfit_to w line body nothing e = inr (refl, λ q l x. let z : response q ≡ nothing = sym (read_line q) ∙ ap response_of (sym l) ∙ e in let y : ◌≡◌ {A = ℕ} 0 1 = cc in omega arith)

  fit_then : (w : WordTwo) (line body : List ℕ) (q : ResponseRead) → response_of line ≡ q → unfitness s b w q body ≡ 0 → (r : Response) × (line ≡ response_line r) × Fitting r body w
  fit_then w line body (response r) e z = (r, line_read_lem line r e, cases (fits_whole w r body) (λ f. fits_to w r body f) (λ f. let y : ◌≡◌ {A = ℕ} 12 0 = sym (ap (λ v. pick v 0 12) f) ∙ z in absurd (omega arith)))
  fit_then w line body nothing e z = absurd (omega arith)

  respond_part : (text out : List ℕ) (w : WordTwo) → s.phase ≡ Awaiting w → FirstOf (Condition s b (respond text out)) (12 ∷ []) (unfitness s b w (response_of (line_in text)) (body_in text))
  respond_part text out w e =
      let c = respond text out in
      let q = response_of (line_in text) in
      ⊎_elim
      (λ z. let f = fit_then w (line_in text) (body_in text) q refl z in
      subst (FirstOf (Condition s b c) (12 ∷ [])) (sym z) (there s b c UnfitResponse (λ h. h.2 f.0 f.1 (subst (Fitting f.0 (body_in text)) (same_awaited w h.0 e h.1) f.2)) no_number))
      (λ z. subst (FirstOf (Condition s b c) (12 ∷ [])) (sym z.0) (here s b c UnfitResponse (w, e, z.1)))
      (unfit_to w (line_in text) (body_in text) q refl)

-- ---- the calls

module _ (s : Session) (b : Buffers) (reached : ReachedSession s) where
  -- each number is given exactly where it is the first in the order whose condition holds
  pub number_given : (c : Call) → FirstOf (Condition s b c) (order_of c) (outcome s b c).number
  number_given (receive text) =
      let c = receive text in
      let commands : FirstOf (Condition s b c) (4 ∷ 5 ∷ 6 ∷ 7 ∷ 20 ∷ 9 ∷ 10 ∷ 11 ∷ 8 ∷ 15 ∷ []) (first_of (decided_one s b (line_in text) (body_in text)) 0) =
      both s b c (4 ∷ 5 ∷ 6 ∷ 7 ∷ 20 ∷ 9 ∷ 10 ∷ 11 ∷ 8 ∷ []) (15 ∷ []) _ 0 (decided_one_lem s b c reached (line_in text) (body_in text) refl [] no_number) (λ z. there s b c ShortOutput (λ h. h) no_number) in
      subst (FirstOf (Condition s b c) (order_of c)) (sym (given_receive s b text))
      (both s b c (13 ∷ 14 ∷ []) (1 ∷ 2 ∷ 3 ∷ 4 ∷ 5 ∷ 6 ∷ 7 ∷ 20 ∷ 9 ∷ 10 ∷ 11 ∷ 8 ∷ 15 ∷ []) _ _ (turned_one s b c (λ h. h, λ h. h) s.phase refl)
      (λ z. subst (FirstOf (Condition s b c) (1 ∷ 2 ∷ 3 ∷ 4 ∷ 5 ∷ 6 ∷ 7 ∷ 20 ∷ 9 ∷ 10 ∷ 11 ∷ 8 ∷ 15 ∷ [])) (sym (read_first_lem text _))
      (both s b c (1 ∷ 2 ∷ 3 ∷ []) (4 ∷ 5 ∷ 6 ∷ 7 ∷ 20 ∷ 9 ∷ 10 ∷ 11 ∷ 8 ∷ 15 ∷ []) _ _ (read_part s b c text (λ n. (λ h. h, λ h. h))) (λ y. commands))))
  number_given (send word arguments body out) =
      let c = send word arguments body out in
      let line = one_command.line_sent word arguments in
      let text = stanza_text line body in
      let commands : FirstOf (Condition s b c) (4 ∷ 5 ∷ 6 ∷ 7 ∷ 20 ∷ 9 ∷ 10 ∷ 11 ∷ 19 ∷ 8 ∷ 15 ∷ []) (first_of (decided_one s b line body) (shortness text out)) =
      both s b c (4 ∷ 5 ∷ 6 ∷ 7 ∷ 20 ∷ 9 ∷ 10 ∷ 11 ∷ 19 ∷ 8 ∷ []) (15 ∷ []) _ _ (decided_one_lem s b c reached line body refl (19 ∷ []) (there s b c HeldBack (λ h. h) no_number)) (λ z. output_part s b c text out (λ h. h, λ h. h)) in
      subst (FirstOf (Condition s b c) (order_of c)) (sym (given_send s b word arguments body out))
      (both s b c (13 ∷ 14 ∷ []) (17 ∷ 4 ∷ 5 ∷ 6 ∷ 7 ∷ 20 ∷ 9 ∷ 10 ∷ 11 ∷ 19 ∷ 8 ∷ 15 ∷ []) _ _ (turned_one s b c (λ h. h, λ h. h) s.phase refl)
      (λ z. subst (FirstOf (Condition s b c) (17 ∷ 4 ∷ 5 ∷ 6 ∷ 7 ∷ 20 ∷ 9 ∷ 10 ∷ 11 ∷ 19 ∷ 8 ∷ 15 ∷ [])) (sym (unwritten_first s b c (is_writable line body) _))
      (both s b c (17 ∷ []) (4 ∷ 5 ∷ 6 ∷ 7 ∷ 20 ∷ 9 ∷ 10 ∷ 11 ∷ 19 ∷ 8 ∷ 15 ∷ []) _ _ (write_part s b c line body (λ h. h, λ h. h)) (λ y. commands))))
  number_given (receive_two text out) =
      let c = receive_two text out in
      let commands : FirstOf (Condition s b c) (4 ∷ 5 ∷ 6 ∷ 7 ∷ 20 ∷ 9 ∷ 10 ∷ 11 ∷ 8 ∷ 15 ∷ []) (first_of (decided_two s b false (line_in text) (body_in text)) (shortness (at_once_text s b (line_in text) (body_in text)) out)) =
      both s b c (4 ∷ 5 ∷ 6 ∷ 7 ∷ 20 ∷ 9 ∷ 10 ∷ 11 ∷ 8 ∷ []) (15 ∷ []) _ _ (received_two s b c reached (line_in text) (body_in text) refl)
      (λ z. output_part s b c (at_once_text s b (line_in text) (body_in text)) out (let i = at_once_over s (line_in text) (body_in text) out in (i.1, i.0))) in
      subst (FirstOf (Condition s b c) (order_of c)) (sym (given_receive_two s b text out))
      (both s b c (13 ∷ 14 ∷ []) (1 ∷ 2 ∷ 3 ∷ 4 ∷ 5 ∷ 6 ∷ 7 ∷ 20 ∷ 9 ∷ 10 ∷ 11 ∷ 8 ∷ 15 ∷ []) _ _ (turned_two s b c (λ h. h, λ h. h) s.phase refl)
      (λ z. subst (FirstOf (Condition s b c) (1 ∷ 2 ∷ 3 ∷ 4 ∷ 5 ∷ 6 ∷ 7 ∷ 20 ∷ 9 ∷ 10 ∷ 11 ∷ 8 ∷ 15 ∷ [])) (sym (read_first_lem text _))
      (both s b c (1 ∷ 2 ∷ 3 ∷ []) (4 ∷ 5 ∷ 6 ∷ 7 ∷ 20 ∷ 9 ∷ 10 ∷ 11 ∷ 8 ∷ 15 ∷ []) _ _ (read_part s b c text (λ n. (λ h. h, λ h. h))) (λ y. commands))))
  number_given (reply r body out) =
      let c = reply r body out in
      subst (FirstOf (Condition s b c) (order_of c)) (sym (given_reply s b r body out)) (answer_part s b c (λ h. h, λ h. h) (12 ∷ 17 ∷ 15 ∷ []) _ (reply_part s b r body out))
  number_given (send_two word arguments body out) =
      let c = send_two word arguments body out in
      let line = line_sent word arguments in
      let text = stanza_text line body in
      subst (FirstOf (Condition s b c) (order_of c)) (sym (given_send_two s b word arguments body out))
      (both s b c (13 ∷ 14 ∷ []) (17 ∷ 4 ∷ 5 ∷ 6 ∷ 7 ∷ 20 ∷ 9 ∷ 10 ∷ 11 ∷ 19 ∷ 8 ∷ 15 ∷ []) _ _ (turned_two s b c (λ h. h, λ h. h) s.phase refl)
      (λ z. both s b c (17 ∷ 4 ∷ 5 ∷ 6 ∷ 7 ∷ 20 ∷ 9 ∷ 10 ∷ 11 ∷ 19 ∷ 8 ∷ []) (15 ∷ []) _ _
      (subst (FirstOf (Condition s b c) (17 ∷ 4 ∷ 5 ∷ 6 ∷ 7 ∷ 20 ∷ 9 ∷ 10 ∷ 11 ∷ 19 ∷ 8 ∷ [])) (sym (unwritten_first s b c (is_writable line body) _))
      (both s b c (17 ∷ []) (4 ∷ 5 ∷ 6 ∷ 7 ∷ 20 ∷ 9 ∷ 10 ∷ 11 ∷ 19 ∷ 8 ∷ []) _ _ (write_part s b c line body (λ h. h, λ h. h)) (λ y. sent_two s b c reached line body refl (held_from s b reached line body (command_two s.machine line body) (said_two s.machine line body)) (held_to s b reached line body))))
      (λ y. output_part s b c text out (λ h. h, λ h. h))))
  number_given (respond text out) =
      let c = respond text out in
      subst (FirstOf (Condition s b c) (order_of c)) (sym (given_respond s b text out))
      (answer_part s b c (λ h. h, λ h. h) (1 ∷ 2 ∷ 3 ∷ 12 ∷ 15 ∷ []) _
      (λ w e. subst (FirstOf (Condition s b c) (1 ∷ 2 ∷ 3 ∷ 12 ∷ 15 ∷ [])) (sym (read_first_lem text _))
      (both s b c (1 ∷ 2 ∷ 3 ∷ []) (12 ∷ 15 ∷ []) _ _ (read_part s b c text (λ n. (λ h. h, λ h. h)))
      (λ z. both s b c (12 ∷ []) (15 ∷ []) _ _ (respond_part s b text out w e) (λ y. output_part s b c (body_in text) out (λ h. h, λ h. h))))))

-- so of any session that calls have made of an opening, each lent its own buffers
pub number_after : (machine name : List ℕ) (screen : Bool) (cs : List CallWith) (b : Buffers) (c : Call) →
    let s = after_each (opened machine name screen).session cs in FirstOf (Condition s b c) (order_of c) (outcome s b c).number
number_after machine name screen cs b c =
    number_given (after_each (opened machine name screen).session cs) b (each_reached (opened machine name screen).session cs (opening_reached machine name screen)) c
