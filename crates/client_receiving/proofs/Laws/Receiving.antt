-- A chunk in phase two, by how reading goes on from what is kept.
use Prim.Native.Nat.{ℕ, ◌≤◌, min}
use mathlib.Core.Path.{◌≡◌, sym, ap, ap₂, ◌∙◌}
use mathlib.Core.Bool.{true, false}
use mathlib.Core.List.{List, [], ◌++◌}
use lib.Dec.{eqb}
use lib.ListN.{length, take, drop}
use Rattle.refusal.specs.Output.{filled}
use Rattle.refusal.specs.Pick.{pick}
use Rattle.stanza.specs.Automaton.{start}
use Rattle.stanza.specs.Resuming.{whole}
use Rattle.session.specs.declared.phases.Phase.TheVariants.{Two}
use Rattle.session.specs.declared.sessions.Session.{Session as CodeSession}
use Rattle.session.specs.Session.{Session, session_of}
use Rattle.conversation.specs.Kinds.{Buffers}
use Rattle.conversation.specs.TurnsTwo.{turn_two}
use Rattle.chunks.specs.Cutting.{cut}
use Rattle.chunks.specs.Taking.{client, turn_at, Intake, Taken, behind, no_stanza, taken_text}
use Rattle.chunks.specs.Chunks.{Outcome, untaken, is_held, judged, taken, chunked}
use Rattle.chunks.proofs.Laws.Texts.{behind_none}
use Rattle.intake.specs.Intake.{intake_of, last_said, taken_said, received_said, stored_in}
use Rattle.std.specs.Prelude.{None}
use Rattle.intake.specs.declared.answers.Received.{Received as CodeReceived}
use Rattle.intake.specs.Fronts.{front_of}
use Rattle.intake.proofs.Laws.Fronts.{chunk_begins, chunk_ends}
use Rattle.intake.proofs.Laws.Keeping.{stored_own}
use Rattle.client_room.specs.Room.{stanza_ahead}
use Rattle.client_receiving.specs.Texts.{Answers, behind_answer}

module _ (given : CodeSession) (xs hs : List (List ℕ)) (input x : List ℕ) (b : Buffers) (second : given.phase ≡ Two) (long : 8192 ≤ length input) where
  abbrev now : Session
  now = session_of given xs hs

  abbrev here : Taken
  here = taken client (intake_of client given xs hs input) b x

  -- the chunk is a text from the start of a stanza on
  pub start_is : (r : CodeReceived) (out : List ℕ) → front_of given.reading (min given.kept 8191) x ≡ whole 0 → r.count ≡ 0 → r.last ≡ None → r.written ≡ 0 → r.session ≡ given →
      behind_answer r xs hs b [] x out ≡ here
  start_is r out h c l w s =
      ap₂ (λ n g. behind n g (take r.written out) (taken_text client (session_of r.session xs hs) b [] x)) c (ap last_said l)
      ∙ ap₂ (λ v c. behind 0 no_stanza (take v out) (taken_text client (session_of c xs hs) b [] x)) w s
      ∙ behind_none client now b [] (cut start [] x).texts (cut start [] x).rest
      ∙ sym (chunk_begins client given xs hs input (ap (turn_at client) second) long x b h)

  -- or a stanza ends in it
  pub whole_is : (k : ℕ) → front_of given.reading (min given.kept 8191) x ≡ whole k → (k ≡ 0 → ⊥) →
      here ≡ stanza_ahead now b (take (min given.kept 8191) input ++ take k x) (drop k x)
  whole_is k h some = chunk_ends client given xs hs input (ap (turn_at client) second) long x b k h some

-- ---- what a call comes to

abbrev said : Taken → ℕ → List ℕ → Outcome
said t n o = record { number = t.number; count = t.count; last = t.last; size = n; intake = t.intake; buffers = t.buffers; output = o }

module _ (i : Intake) (b : Buffers) (out : List ℕ) (t : Taken) where
  -- 15
  pub judged_short : is_held t out ≡ false → untaken 15 i b out ≡ judged i b out t
  judged_short f = ap (λ d. pick d (said t (length t.written) (filled t.written out)) (untaken 15 i b out)) (sym f)

  pub judged_held : is_held t out ≡ true → (r : CodeReceived) (xs hs : List (List ℕ)) (before after : List ℕ) (b' : Buffers) (out' : List ℕ) →
      Answers r xs hs before after b' out out' t → received_said client r xs hs after b' out' ≡ judged i b out t
  judged_held f r xs hs before after b' out' a =
      ap₂ (λ n o. said (taken_said client r xs hs after t.written b') n o) a.size a.output
      ∙ ap (λ u. said u (length t.written) (filled t.written out)) a.says.taken
      ∙ ap (λ d. pick d (said t (length t.written) (filled t.written out)) (untaken 15 i b out)) (sym f)

module _ (i : Intake) (b : Buffers) (x out : List ℕ) where
  in_turn : (n : ℕ) → n ≡ turn_two i.session.phase → pick (eqb n 0) (judged i b out (taken client i b x)) (untaken n i b out) ≡ chunked client i b x out
  unfolding chunked
  in_turn n e = ap (λ n. pick (eqb n 0) (judged i b out (taken client i b x)) (untaken n i b out)) e

  pub out_of_turn : (n : ℕ) → n ≡ turn_two i.session.phase → eqb n 0 ≡ false → untaken n i b out ≡ chunked client i b x out
  out_of_turn n e f = ap (λ d. pick d (judged i b out (taken client i b x)) (untaken n i b out)) (sym f) ∙ in_turn n e

  pub no_room : 0 ≡ turn_two i.session.phase → is_held (taken client i b x) out ≡ false → untaken 15 i b out ≡ chunked client i b x out
  no_room e f = judged_short i b out (taken client i b x) f ∙ in_turn 0 e

  pub with_room : 0 ≡ turn_two i.session.phase → is_held (taken client i b x) out ≡ true → (r : CodeReceived) (xs hs : List (List ℕ)) (before after : List ℕ) (b' : Buffers) (out' : List ℕ) →
      Answers r xs hs before after b' out out' (taken client i b x) → received_said client r xs hs after b' out' ≡ chunked client i b x out
  with_room e f r xs hs before after b' out' a = judged_held i b out (taken client i b x) f r xs hs before after b' out' a ∙ in_turn 0 e

-- nothing is stored by a call that takes nothing
pub untaken_input : (given : CodeSession) (xs hs : List (List ℕ)) (input : List ℕ) (n : ℕ) (b : Buffers) (out : List ℕ) (r : CodeReceived) →
    received_said client r xs hs input b out ≡ untaken n (intake_of client given xs hs input) b out → input ≡ stored_in (intake_of client r.session xs hs input) input
untaken_input given xs hs input n b out r h = sym (ap (λ o. stored_in o.intake input) h ∙ stored_own client given xs hs input)
