-- The commands of a text, one by one: what one comes to, and that what is left may be settled.
use Prim.Native.Nat.{ℕ, ◌+◌, ◌-◌, ◌≤◌, min}
use mathlib.Core.Path.{◌≡◌, refl, sym, ap, ap₂, subst, ◌∙◌}
use mathlib.Core.Bool.{Bool, true, false, false≢true}
use mathlib.Core.List.{List, [], ◌++◌}
use lib.Dec.{eqb}
use lib.ListN.{length, take, drop, length-drop}
use lib.Seq.{take_all, drop-drop}
use native.Mathlib.Omega.{arith}
use borrow.Author.Tests.{eqb-true, eqb-false}
use Rattle.refusal.specs.Number.{number_of}
use Rattle.refusal.specs.Pick.{pick}
use Rattle.refusal.specs.Verdict.{verdict_said}
use Rattle.refusal.specs.declared.Refusal.{Refusal}
use Rattle.std.specs.Prelude.{Result, Ok, Err}
use Rattle.refusal.proofs.Laws.Number.{number_not_zero}
use Rattle.strict_base64.specs.Lines.{body_of}
use Rattle.stanza.specs.Reading.{Reading, stanza, refused, read_first}
use Rattle.stanza.specs.Parts.{arguments_in, body_in}
use Rattle.stanza.specs.Automaton.{start}
use Rattle.stanza.specs.Resuming.{whole}
use Rattle.stanza.specs.declared.places.Place.TheVariants.{Start}
use Rattle.stanza.specs.declared.reading.Stanza.{Stanza}
use Rattle.stanza.proofs.Laws.Exact.{taken_iff}
use Rattle.session.specs.Phases.{closes}
use Rattle.session.specs.Session.{Session, session_of, closed}
use Rattle.session.specs.declared.phases.Phase.{Phase}
use Rattle.session.specs.declared.phases.Phase.TheVariants.{One, Two, Awaiting, Ended, Closed}
use Rattle.session.specs.declared.sessions.Session.{Session as CodeSession}
use Rattle.phase_one.specs.Commands as one
use Rattle.phase_one.specs.Commands.{CommandOne, WordOne, recipient, identity, key, header, done, other, bad, word_said}
use Rattle.phase_one.specs.PhaseOne.{BuffersOne, command_in, number_one}
use Rattle.phase_one.specs.Turns.{turn_one, phase_after}
use Rattle.conversation.specs.Calls.{Outcome, receive, outcome, received_outcome, taking_number, taking_given}
use Rattle.conversation.specs.Kinds.{Buffers, buffers_of}
use Rattle.conversation.specs.PhaseTwo.{BuffersTwo}
use Rattle.conversation.specs.Receiving.{Taking, took, declined, Received, received_as, received_stanza}
use Rattle.conversation.proofs.Laws.Receiving.{received_in_turn}
use Rattle.conversation.proofs.Laws.Refusals.{either, refusal}
use Rattle.chunks.specs.Taking.{client, plugin, Turn, reads, keeps_back, turn_at, stanza_call, no_stanza, command, Taken, no_more, emptied, behind, one_more, taken_text}
use Rattle.chunks.specs.Chunks.{taken}
use Rattle.chunks.specs.Cutting.{cut}
use Rattle.chunks.specs.Uncut.{is_waiting}
use Rattle.chunks.proofs.Laws.Bounds.{stanza_long}
use Rattle.chunks.proofs.Laws.Cases.{drops_not_reads, keeps_not_reads, keeps_not_drops}
use Rattle.chunks.proofs.Laws.Texts.{stanza_taken, taken_cut, text_stanza, behind_more, behind_none}
use Rattle.intake.proofs.Laws.Fronts.{between, intake_reads, chunk_ends}
use Rattle.intake.proofs.Laws.Keeping.{filled_empty}
use Rattle.intake.specs.Fronts.{front_of}
use Rattle.intake.specs.Intake.{intake_of, stored_in, last_said, taken_said}
use Rattle.intake.specs.Settling.{MaySettle, Says}
use Rattle.intake.specs.declared.answers.Received.{Received as CodeReceived}
use Rattle.plugin_receiving.specs.Commands.{begun_by, next_in, answer_behind, comes_to, NoneDue}
use Rattle.plugin_receiving.specs.Receiving.{taking_said}
use Rattle.plugin_receiving.specs.declared.receiving.Taken.{Taken as CodeTaken}

-- ---- one command

module _ (s : Session) (b : BuffersOne) (c : BuffersTwo) (x : List ℕ) (first : s.phase ≡ One) where
  -- a text that is received in phase one
  in_turn : outcome s (buffers_of b c) (stanza_call plugin s.phase x) ≡ received_outcome c (received_as (read_first x) s x b)
  in_turn = ap (λ p. outcome s (buffers_of b c) (stanza_call plugin p x)) first ∙ ap (received_outcome c) (sym (received_in_turn s x b (sym (ap turn_one first))))

  module _ (r : Received) (is : r ≡ received_as (read_first x) s x b) (t rest : List ℕ) where
    call_is : outcome s (buffers_of b c) (stanza_call plugin s.phase x) ≡ received_outcome c r
    call_is = in_turn ∙ ap (received_outcome c) (sym is)

    -- what it comes to, with the text behind it
    abbrev call_taken : Taken
    call_taken = stanza_taken plugin (buffers_of b c) (outcome s (buffers_of b c) (stanza_call plugin s.phase x)) t rest

    abbrev answer_taken : Taking → Taken
    answer_taken a = stanza_taken plugin (buffers_of b c) (record {
      number = taking_number a;
      given = taking_given a;
      session = r.session;
      buffers = buffers_of r.buffers c;
      output = [];
      size = 0;
    }) t rest

    by_answer : (a : Taking) → r.answer ≡ a → call_taken ≡ answer_taken a
    by_answer a e = ap (λ o. stanza_taken plugin (buffers_of b c) o t rest) call_is ∙ ap answer_taken e

    -- it is accepted
    command_taken : (w : WordOne) (j : ℕ) → r.answer ≡ took w j →
        call_taken ≡ one_more (command (one.text_of_word w)) [] (taken_text plugin r.session (buffers_of r.buffers c) [] rest)
    command_taken w j e = by_answer (took w j) e

    -- or refused: the buffers stay
    command_refused : (n : ℕ) → eqb n 0 ≡ false → r.answer ≡ declined n → call_taken ≡ no_more n (emptied r.session []) (buffers_of r.buffers c)
    command_refused n z e =
        by_answer (declined n) e
        ∙ ap (λ f. pick f (one_more no_stanza [] (taken_text plugin r.session (buffers_of r.buffers c) [] rest))
        (no_more n (emptied r.session []) (buffers_of b c))) z
        ∙ ap (no_more n (emptied r.session [])) (sym same)
      where
        same : buffers_of r.buffers c ≡ buffers_of b c
        same =
            let o = outcome s (buffers_of b c) (receive x) in
            let e' : o ≡ received_outcome c r = sym (ap (λ p. outcome s (buffers_of b c) (stanza_call plugin p x)) first) ∙ call_is in
            let n' : o.number ≡ n = ap (λ (o : Outcome). o.number) e' ∙ ap taking_number e in
            sym (ap (λ (o : Outcome). o.buffers) e') ∙ (refusal s (buffers_of b c) (receive x) (λ q. eqb-false n 0 z (sym n' ∙ q))).buffers

-- no response is due behind it
stanza_phase : (s : Session) (b : BuffersOne) (line body : List ℕ) (k : ℕ) → s.phase ≡ One → is_waiting client (received_stanza s b line body k).session.phase ≡ false
unfolding received_stanza
stanza_phase s b line body k first =
    let n = number_one s.machine s.name s.tables b 0 line body in
    either (λ (r : Received). is_waiting client r.session.phase ≡ false) (eqb n 0) _ _ (after (command_in s.machine s.name line body))
    (either (λ (s : Session). is_waiting client s.phase ≡ false) (closes n) (closed s) s refl (ap (is_waiting client) first))
  where
    after : (d : CommandOne) → is_waiting client (phase_after d) ≡ false
    after (recipient m) = refl
    after (identity m) = refl
    after key = refl
    after (header i m) = refl
    after done = refl
    after other = refl
    after (bad n) = refl

command_phase : (s : Session) (b : BuffersOne) (x : List ℕ) (q : Reading) → s.phase ≡ One → is_waiting client (received_as q s x b).session.phase ≡ false
command_phase s b x (stanza l m k) first = stanza_phase s b (drop 3 (take l x)) (body_of (drop (l + 1) (take k x))) k first
command_phase s b x (refused n) first = either (λ (s : Session). is_waiting client s.phase ≡ false) (closes n) (closed s) s refl (ap (is_waiting client) first)

-- .. behind the commands of an answer
module _ (r : CodeReceived) (xs hs xs' hs' : List (List ℕ)) (b b' : BuffersOne) (x : List ℕ) (answer : Result CodeTaken Refusal) (after : CodeSession)
    (first : r.session.phase ≡ One)
    (is : record { answer = taking_said answer; session = session_of after xs' hs'; buffers = b' } ≡
    received_as (read_first x) (session_of r.session xs hs) x b) where
  comes_on : (c : BuffersTwo) (t rest : List ℕ) →
      behind r.count (last_said r.last) [] (call_taken (session_of r.session xs hs) b c x first _ is t rest) ≡
      comes_to (answer_behind r answer after) xs' hs' (buffers_of b' c) rest
  comes_on c t rest = by answer is
    where
      by : (a : Result CodeTaken Refusal)
          (is : record { answer = taking_said a; session = session_of after xs' hs'; buffers = b' } ≡ received_as (read_first x) (session_of r.session xs hs) x b) →
          behind r.count (last_said r.last) [] (call_taken (session_of r.session xs hs) b c x first _ is t rest) ≡
          comes_to (answer_behind r a after) xs' hs' (buffers_of b' c) rest
      by (Ok y) is =
          ap (behind r.count (last_said r.last) []) (command_taken (session_of r.session xs hs) b c x first _ is t rest (word_said y.word) y.taken refl)
          ∙ behind_more r.count (last_said r.last) (command (one.text_of_word (word_said y.word))) [] [] (taken_text plugin (session_of after xs' hs') (buffers_of b' c) [] rest)
      by (Err q) is =
          ap (behind r.count (last_said r.last) []) (command_refused (session_of r.session xs hs) b c x first _ is t rest (number_of q) (number_not_zero q) refl)
          ∙ ap (λ f. behind r.count (last_said r.last) [] (pick f (taken_text plugin (session_of after xs' hs') (buffers_of b' c) [] rest)
          (no_more (number_of q) (emptied (session_of after xs' hs') []) (buffers_of b' c)))) (sym (number_not_zero q))

  none_due_on : NoneDue (answer_behind r answer after)
  none_due_on = by answer (ap (λ (r : Received). is_waiting client r.session.phase) is ∙ command_phase (session_of r.session xs hs) b x (read_first x) first)
    where
      by : (a : Result CodeTaken Refusal) → is_waiting client after.phase ≡ false → NoneDue (answer_behind r a after)
      by (Ok y) e z = e
      by (Err q) e z = e

  -- what it does to the answer
  record Stepped (r' : CodeReceived) : Type 0 where
    comes : (c : BuffersTwo) (t rest : List ℕ) →
        behind r.count (last_said r.last) [] (call_taken (session_of r.session xs hs) b c x first _ is t rest) ≡ comes_to r' xs' hs' (buffers_of b' c) rest
    none_due : NoneDue r'
    count : r'.count ≤ r.count + 1
    written : r'.written ≡ r.written
    session : r'.session ≡ after

  stepped : (r' : CodeReceived) → r' ≡ answer_behind r answer after → Stepped r'
  stepped r' e = subst Stepped (sym e) (record { comes = comes_on; none_due = none_due_on; count = more answer; written = wrote answer; session = left answer })
    where
      more : (a : Result CodeTaken Refusal) → (answer_behind r a after).count ≤ r.count + 1
      more (Ok y) = omega arith
      more (Err q) = omega arith

      wrote : (a : Result CodeTaken Refusal) → (answer_behind r a after).written ≡ r.written
      wrote (Ok y) = refl
      wrote (Err q) = refl

      left : (a : Result CodeTaken Refusal) → (answer_behind r a after).session ≡ after
      left (Ok y) = refl
      left (Err q) = refl

-- ---- what is left

-- the next command is a whole stanza, in phase one and behind no refusal
pub next_stanza : (n : ℕ) (p : Phase) (q : Reading) (l m k : ℕ) → stanza l m k ≡ next_in n p q → (n ≡ 0) × (p ≡ One) × (q ≡ stanza l m k)
next_stanza n p q l m k e = go (eqb n 0) refl p e
  where
    go : (f : Bool) → eqb n 0 ≡ f → (p : Phase) → stanza l m k ≡ pick f (pick (eqb (turn_one p) 0) q (refused (turn_one p))) (refused n) →
        (n ≡ 0) × (p ≡ One) × (q ≡ stanza l m k)
    go true f One e = (eqb-true n 0 f, refl, sym e)
    go true f Two e = let z : ◌≡◌ {A = ℕ} 0 1 = cc in absurd (omega arith)
    go true f (Awaiting w) e = let z : ◌≡◌ {A = ℕ} 0 1 = cc in absurd (omega arith)
    go true f Ended e = let z : ◌≡◌ {A = ℕ} 0 1 = cc in absurd (omega arith)
    go true f Closed e = let z : ◌≡◌ {A = ℕ} 0 1 = cc in absurd (omega arith)
    go false f p e = let z : ◌≡◌ {A = ℕ} 0 1 = cc in absurd (omega arith)

-- the part of a text from a place on
pub part_is : (text : List ℕ) (at : ℕ) → take (length text - at) (drop at text) ≡ drop at text
part_is text at = take_all (length text - at) (drop at text) (omega (arith, length-drop at text))

-- the stanza that stands at a place of a text
pub record Advanced (r r' : CodeReceived) (xs hs xs' hs' : List (List ℕ)) (b b' : BuffersOne) (text : List ℕ) (at k : ℕ) (after : CodeSession) : Type 0 where
  pub within : at + k ≤ length text
  pub long : 6 ≤ k
  pub comes : (c : BuffersTwo) → comes_to r xs hs (buffers_of b c) (drop at text) ≡ comes_to r' xs' hs' (buffers_of b' c) (drop (at + k) text)
  pub none_due : NoneDue r'
  pub count : r'.count ≤ r.count + 1
  pub written : r'.written ≡ r.written
  pub session : r'.session ≡ after

module _ (r : CodeReceived) (text : List ℕ) (at : ℕ) (in-text : at ≤ length text) (s : Stanza)
    (found : stanza s.line s.body s.taken ≡ next_in (verdict_said r.verdict) r.session.phase (read_first (take (length text - at) (drop at text)))) where
  abbrev x : List ℕ
  x = take (length text - at) (drop at text)

  reads_so : read_first x ≡ stanza s.line s.body s.taken
  reads_so = (next_stanza (verdict_said r.verdict) r.session.phase (read_first x) s.line s.body s.taken found).2

  pub stanza_within : at + s.taken ≤ length text
  stanza_within = omega (arith, ((taken_iff x s.taken).0 (s.line, s.body, reads_so)).within, ap length (part_is text at), length-drop at text)

  pub advanced : (r' : CodeReceived) (xs hs xs' hs' : List (List ℕ)) (b b' : BuffersOne) (answer : Result CodeTaken Refusal) (after : CodeSession) →
      record { answer = taking_said answer; session = session_of after xs' hs'; buffers = b' } ≡
      received_stanza (session_of r.session xs hs) b (arguments_in x s) (body_in x s) s.taken →
      r' ≡ answer_behind r answer after → Advanced r r' xs hs xs' hs' b b' text at s.taken after
  advanced r' xs hs xs' hs' b b' answer after is e =
      let f = next_stanza (verdict_said r.verdict) r.session.phase (read_first x) s.line s.body s.taken found in
      let v = session_of r.session xs hs in
      let is' = is ∙ ap (λ q. received_as q v x b) (sym reads_so) in
      let z = stepped r xs hs xs' hs' b b' x answer after f.1 is' r' e in
      record {
        within = stanza_within;
        long = stanza_long x s.line s.body s.taken reads_so;
        comes = λ c.
            ap (comes_to r xs hs (buffers_of b c)) (sym (part_is text at))
            ∙ ap (λ n. behind r.count (last_said r.last) [] (pick (eqb n 0) (taken_text plugin v (buffers_of b c) [] x) (no_more n (emptied v []) (buffers_of b c)))) f.0
            ∙ ap (behind r.count (last_said r.last) []) (text_stanza plugin v (buffers_of b c) [] (ap (turn_at plugin) f.1) x s.line s.body s.taken reads_so)
            ∙ z.comes c (take s.taken x) (drop s.taken x)
            ∙ ap (comes_to r' xs' hs' (buffers_of b' c)) (ap (drop s.taken) (part_is text at) ∙ drop-drop s.taken at text);
        none_due = z.none_due;
        count = z.count;
        written = z.written;
        session = z.session;
      }

pub stanza_not_refused : (n l m k : ℕ) → refused n ≡ stanza l m k → ⊥
stanza_not_refused n l m k e = let z : ◌≡◌ {A = ℕ} 0 1 = cc in omega arith

-- where there is none, what is left may be settled
pub may_settle : (n : ℕ) (p : Phase) (t : Turn) (rest input : List ℕ) → n ≡ 0 → (n ≡ 0 → is_waiting client p ≡ false) → t ≡ turn_at plugin p →
    8192 ≤ length input → ((l m k : ℕ) → next_in n p (read_first rest) ≡ stanza l m k → ⊥) → MaySettle plugin p t [] rest input
may_settle n p t rest input z w e long none = record {
  turn = sym e;
  none_waits = λ k. refl;
  no_stanza = λ r. go p (sym e ∙ r) (w z) (subst (λ n. (l m k : ℕ) → next_in n p (read_first rest) ≡ stanza l m k → ⊥) z none);
  short = λ k. absurd (plugin_keeps p (sym e ∙ k));
  long = long;
}
  where
    go : (p : Phase) → turn_at plugin p ≡ reads → is_waiting client p ≡ false → ((l m k : ℕ) → next_in 0 p (read_first rest) ≡ stanza l m k → ⊥) →
        (l m k : ℕ) → read_first rest ≡ stanza l m k → ⊥
    go One t w none = none
    go Two t w none = absurd (drops_not_reads 14 t)
    go (Awaiting x) t w none = absurd (false≢true (sym w))
    go Ended t w none = absurd (drops_not_reads 13 t)
    go Closed t w none = absurd (drops_not_reads 13 t)

    plugin_keeps : (p : Phase) → turn_at plugin p ≡ keeps_back → ⊥
    plugin_keeps One h = keeps_not_reads (sym h)
    plugin_keeps Two h = keeps_not_drops 14 (sym h)
    plugin_keeps (Awaiting w) h = keeps_not_reads (sym h)
    plugin_keeps Ended h = keeps_not_drops 13 (sym h)
    plugin_keeps Closed h = keeps_not_drops 13 (sym h)

-- nothing is taken behind a refusal, and nothing is kept
pub refusal_stands : (r : CodeReceived) (q : Refusal) (s : CodeSession) (xs hs : List (List ℕ)) (b : Buffers) (input rest : List ℕ) → r.verdict ≡ Err q →
    s ≡ record {
      machine = r.session.machine;
      phase = r.session.phase;
      screen = r.session.screen;
      name = r.session.name;
      tables = r.session.tables;
      reading = Start;
      kept = 0;
      awaited = 0;
    } → Says plugin (record { verdict = Err q; count = r.count; last = r.last; written = r.written; session = s }) xs hs input input [] b (comes_to r xs hs b rest)
refusal_stands r q s xs hs b input rest v e = record { taken = rw (e, v, number_not_zero q) (ap (λ n. at n) (omega arith)); input = rw e (filled_empty input) }
  where
    at : ℕ → Taken
    at n = record {
      number = number_of q;
      count = n;
      last = last_said r.last;
      written = [];
      intake = emptied (session_of r.session xs hs) [];
      buffers = b;
    }

-- an answer that says one thing says what is the same
pub says_same : (r : CodeReceived) (xs hs : List (List ℕ)) (before before' after : List ℕ) (b : Buffers) (t t' : Taken) → before ≡ before' → t ≡ t' →
    Says plugin r xs hs before after [] b t → Says plugin r xs hs before' after [] b t'
says_same r xs hs before before' after b t t' i e h = record { taken = h.taken ∙ e; input = h.input ∙ ap (stored_in (intake_of plugin r.session xs hs after)) i }

-- nothing is kept, and the input is as it was
pub says_emptied : (r : CodeReceived) (xs hs : List (List ℕ)) (input : List ℕ) (b : Buffers) (n : ℕ) (s : Session) →
    taken_said plugin r xs hs input [] b ≡ no_more n (emptied s []) b → Says plugin r xs hs input input [] b (no_more n (emptied s []) b)
says_emptied r xs hs input b n s h = record { taken = h; input = filled_empty input ∙ sym (ap (λ (x : Taken). stored_in x.intake input) h) }

-- ---- a stanza that began in an earlier chunk

-- none did
pub chunk_begun : (s : CodeSession) (xs hs : List (List ℕ)) (input : List ℕ) → turn_at plugin s.phase ≡ reads → (chunk : List ℕ) (b : Buffers) →
    front_of s.reading (min s.kept 8191) chunk ≡ whole 0 → comes_to (begun_by s) xs hs b chunk ≡ taken plugin (intake_of plugin s xs hs input) b chunk
chunk_begun s xs hs input turn chunk b h =
    let z = between s.reading (min s.kept 8191) chunk h in
    behind_none plugin (session_of s xs hs) b [] (cut start [] chunk).texts (cut start [] chunk).rest
    ∙ sym (ap (λ i. taken plugin i b chunk) (intake_reads plugin s xs hs input turn)
    ∙ ap₂ (λ q n. taken_cut plugin (session_of s xs hs) b [] (cut q (take n input) chunk)) z.0 z.1)

-- a command that did
pub record Fronted (s : CodeSession) (xs hs xs' hs' : List (List ℕ)) (b b' : BuffersOne) (input chunk : List ℕ) (k : ℕ) (r : CodeReceived) (after : CodeSession) : Type 0 where
  pub comes : (c : BuffersTwo) → comes_to r xs' hs' (buffers_of b' c) (drop k chunk) ≡ taken plugin (intake_of plugin s xs hs input) (buffers_of b c) chunk
  pub none_due : NoneDue r
  pub count : r.count ≤ 1
  pub written : r.written ≡ 0
  pub session : r.session ≡ after

pub fronted : (s : CodeSession) (xs hs xs' hs' : List (List ℕ)) (b b' : BuffersOne) (input chunk : List ℕ) (k : ℕ) (r : CodeReceived) (answer : Result CodeTaken Refusal) (after : CodeSession) →
    8192 ≤ length input → s.phase ≡ One → front_of s.reading (min s.kept 8191) chunk ≡ whole k → (k ≡ 0 → ⊥) →
    (text : List ℕ) → text ≡ take (min s.kept 8191) input ++ take k chunk →
    record { answer = taking_said answer; session = session_of after xs' hs'; buffers = b' } ≡ received_as (read_first text) (session_of s xs hs) text b →
    r ≡ answer_behind (begun_by s) answer after → Fronted s xs hs xs' hs' b b' input chunk k r after
fronted s xs hs xs' hs' b b' input chunk k r answer after long first h some text at is e =
    let z = stepped (begun_by s) xs hs xs' hs' b b' text answer after first is r e in
    record {
      comes = λ c.
          let turn : turn_at plugin s.phase ≡ reads = ap (turn_at plugin) first in
          let d = chunk_ends plugin s xs hs input turn long chunk (buffers_of b c) k h some in
          let whole-taken : taken plugin (intake_of plugin s xs hs input) (buffers_of b c) chunk ≡ call_taken (session_of s xs hs) b c text first _ is text (drop k chunk) =
          d ∙ ap (λ t. stanza_taken plugin (buffers_of b c) (outcome (session_of s xs hs) (buffers_of b c) (stanza_call plugin s.phase t)) t (drop k chunk)) (sym at) in
          sym (z.comes c text (drop k chunk))
          ∙ ap (behind 0 no_stanza []) (sym whole-taken)
          ∙ behind_none plugin (session_of s xs hs) (buffers_of b c) [] _ _;
      none_due = z.none_due;
      count = omega (arith, z.count);
      written = z.written;
      session = z.session;
    }
