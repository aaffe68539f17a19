-- What a text needs of room, stanza by stanza.
use Prim.Native.Nat.{ℕ, ◌+◌, ◌-◌, ◌*◌, ◌≤◌, ◌<◌}
use mathlib.Core.Path.{◌≡◌, refl, sym, ap, ap₂, ◌∙◌}
use mathlib.Core.Bool.{Bool, true, false, ◌&&◌}
use mathlib.Core.List.{List, [], ◌++◌}
use lib.Dec.{eqb, leb}
use lib.ListN.{length, take, drop, length-append, length-drop}
use native.Mathlib.Omega.{arith}
use borrow.Author.Tests.{ne_eqb, le-leb, lt-leb, leb-true, leb-false}
use Rattle.refusal.specs.Pick.{pick}
use lib.Seq.{drop-drop}
use Rattle.refusal.proofs.Laws.Booleans.{cases, true_and}
use Rattle.refusal.proofs.Laws.Lists.{part_rest}
use Rattle.stanza.specs.Automaton.{start}
use Rattle.stanza.specs.Reading.{stanza, refused, read_first}
use Rattle.stanza.proofs.Laws.Exact.{refused_2}
use Rattle.stanza.proofs.Laws.Resuming.{whole_iff, whole_within}
use Rattle.session.specs.declared.words.WordTwo.{WordTwo}
use Rattle.session.specs.Session.{Session}
use Rattle.conversation.specs.CommandsTwo.{word_of}
use Rattle.conversation.specs.ReceivingTwo.{Taking, took, declined, refused_receipt, received_stanza}
use Rattle.conversation.specs.Kinds.{Buffers, buffers_of}
use Rattle.conversation.specs.Calls.{receive_two, given_command_two, nothing, Outcome, outcome, received_two_outcome}
use Rattle.conversation.proofs.Laws.StepsTwo.{all_written}
use Rattle.conversation.proofs.Laws.Refusals.{either}
use Rattle.chunks.specs.Taking.{client, Turn, reads, drops, keeps_back, turn_at, ample, awaited_behind, Intake, Last, Taken, last_in, no_more, emptied, one_more, taken_text}
use Rattle.chunks.specs.Chunks.{taken}
use Rattle.chunks.proofs.Laws.Numbers.{room_size}
use Rattle.chunks.proofs.Laws.Short.{read_number}
use Rattle.chunks.proofs.Laws.Texts.{stanza_taken, text_dropped, text_kept_back, text_left, text_fault, text_stanza}
use Rattle.chunks.proofs.Laws.Bounds.{front_written, text_written, text_kept, read_kept}
use Rattle.phase_two.specs.Entering.{AreLong}
use Rattle.client_room.specs.Stanzas.{next_in, Tried}
use Rattle.client_room.specs.Room.{has_room, is_keepable, stanza_ahead}
use Rattle.client_room.proofs.Laws.Stanzas.{Judged, accepts, refuses, judged, command, answer, accepted, answer_length, long_still, line_of, body_behind, stanza_call_lem, fault_call, reads_two}

-- ---- what is written

zero_room : (n : ℕ) → leb 0 n ≡ true
zero_room n = le-leb 0 n (omega arith)

-- nothing written and nothing kept
pub none_room : (n m : ℕ) (s : Session) (b : Buffers) (a : List ℕ) → has_room (no_more m (emptied s a) b) n ≡ true
none_room n m s b a = rw (zero_room n) (zero_room 8192)

-- a stanza's answer and what stands behind it
module _ (g : Last) (w : List ℕ) (u : Taken) (n : ℕ) where
  pub more_room : length w ≤ n → has_room (one_more g w u) n ≡ has_room u (n - length w)
  more_room l = ap (λ f. f && leb (length u.intake.kept) 8192) (cases (leb (length u.written) (n - length w)) yes no)
    where
      sum : length (w ++ u.written) ≡ length w + length u.written
      sum = length-append w u.written

      yes : leb (length u.written) (n - length w) ≡ true → leb (length (w ++ u.written)) n ≡ leb (length u.written) (n - length w)
      yes e = le-leb (length (w ++ u.written)) n (omega (arith, leb-true (length u.written) (n - length w) e, sum)) ∙ sym e

      no : leb (length u.written) (n - length w) ≡ false → leb (length (w ++ u.written)) n ≡ leb (length u.written) (n - length w)
      no e = lt-leb (length (w ++ u.written)) n (omega (arith, leb-false (length u.written) (n - length w) e, sum)) ∙ sym e

  pub less_room : n < length w → has_room (one_more g w u) n ≡ false
  less_room l = ap (λ f. f && leb (length u.intake.kept) 8192) (lt-leb (length (w ++ u.written)) n (omega (arith, length-append w u.written)))

-- ---- bytes that are no whole stanza

pub rest_room : (s : Session) (b : Buffers) (a x : List ℕ) (n m : ℕ) → refused m ≡ next_in (turn_at client s.phase) x →
    is_keepable (turn_at client s.phase) (length x) ≡ has_room (taken_text client s b a x) n
rest_room s b a x n m h = go (turn_at client s.phase) refl h
  where
    go : (u : Turn) → turn_at client s.phase ≡ u → refused m ≡ next_in u x → is_keepable u (length x) ≡ has_room (taken_text client s b a x) n
    go reads t h = sym (at m h)
      where
        at : (m : ℕ) → refused m ≡ read_first x → has_room (taken_text client s b a x) n ≡ true
        at m h = read_number (λ m. refused m ≡ read_first x → has_room (taken_text client s b a x) n ≡ true)
            (λ h. ap (λ y. has_room y n) (text_fault client s b a t x 1 (λ z. omega arith) (sym h)) ∙ none_room n 1 s b [])
            (λ h. ap (λ y. has_room y n) (text_left client s b a t x (sym h))
            ∙ true_and (leb 0 n) (leb (length x) 8192) (zero_room n) (le-leb (length x) 8192 (omega (arith, ((refused_2 x).0 (sym h)).0))))
            (λ h. ap (λ y. has_room y n) (text_fault client s b a t x 3 (λ z. omega arith) (sym h)) ∙ none_room n 3 s b []) x m (sym h) h
    go (drops k) t h =
        sym (ap (λ y. has_room y n) (text_dropped client s b a k t x)
        ∙ either (λ (y : Taken). has_room y n ≡ true) (eqb (length x) 0) (no_more 0 (emptied s a) b) (no_more k (emptied s a) b) (none_room n 0 s b a) (none_room n k s b a))
    go keeps_back t h = sym (ap (λ y. has_room y n) (text_kept_back client s b a t x) ∙ ap (λ f. f && leb (length x) 8192) (zero_room n))

-- ---- a refusal

pub refused_room : (s : Session) (b : Buffers) (t x : List ℕ) (n m : ℕ) (o : Outcome) → o ≡ received_two_outcome b.first (refused_receipt m s b.second ample) → (m ≡ 0 → ⊥) →
    has_room (stanza_taken client b o t x) n ≡ true
refused_room s b t x n m o e z =
    let r = refused_receipt m s b.second ample in
    let u = taken_text client r.session (buffers_of b.first r.buffers) (awaited_behind client r.session.phase t) x in
    ap (λ o. has_room (stanza_taken client b o t x) n) e
    ∙ ap (λ f. has_room (pick f (one_more (last_in nothing) (take 0 ample) u) (no_more m (emptied r.session []) b)) n) (ne_eqb m 0 z)
    ∙ none_room n m r.session b []

-- ---- a whole stanza, by what it was tried for

module _ (s : Session) (b : Buffers) (t x : List ℕ) (line body : List ℕ) (k : ℕ) (a : Taking) (after : Session) (n : ℕ)
    (o : Outcome) (call : o ≡ received_two_outcome b.first (received_stanza s b.second ample line body k))
    (h : Tried s b.second line body k a after) where
  -- the buffers behind it
  abbrev pub behind_it : Buffers
  behind_it = buffers_of b.first (accepted s b.second line body k).buffers

  abbrev onward : Taken
  onward = taken_text client after behind_it (awaited_behind client after.phase t) x

  -- the text by its outcome
  abbrev last : Last
  last = last_in (given_command_two (word_of (command s b.second line body k)) k (length (answer s b.second line body k)))

  ahead_accepted : received_stanza s b.second ample line body k ≡ accepted s b.second line body k →
      stanza_taken client b o t x ≡ one_more last (answer s b.second line body k) onward
  ahead_accepted e =
      ap (λ o. stanza_taken client b o t x) (call ∙ ap (received_two_outcome b.first) e)
      ∙ ap₂ (λ w s'. one_more last w (taken_text client s' behind_it (awaited_behind client s'.phase t) x))
      (all_written (answer s b.second line body k) ample (omega (arith, answer_length s b.second line body k, room_size)))
      (sym (h.session_is ∙ ap (λ r. r.session) e))

  pub room_refused : (m : ℕ) → a ≡ declined m → has_room (stanza_taken client b o t x) n ≡ true
  room_refused m e = go (judged s b.second line body k)
    where
      go : Judged s b.second line body k → has_room (stanza_taken client b o t x) n ≡ true
      go (accepts q) =
          let y : declined m ≡ took (word_of (command s b.second line body k)) k (length (answer s b.second line body k)) = sym e ∙ h.answer_is ∙ ap (λ r. r.answer) q in
          let z : ◌≡◌ {A = ℕ} 0 1 = cc in
          absurd (omega arith)
      go (refuses i z q) = refused_room s b t x n i o (call ∙ ap (received_two_outcome b.first) q) z

  -- the answer of an accepted command
  took_is : (w : WordTwo) (i j : ℕ) → a ≡ took w i j → (received_stanza s b.second ample line body k ≡ accepted s b.second line body k) × (j ≡ length (answer s b.second line body k))
  took_is w i j e = go (judged s b.second line body k)
    where
      go : Judged s b.second line body k →
          (received_stanza s b.second ample line body k ≡ accepted s b.second line body k) × (j ≡ length (answer s b.second line body k))
      go (accepts q) =
          let y : took w i j ≡ took (word_of (command s b.second line body k)) k (length (answer s b.second line body k)) = sym e ∙ h.answer_is ∙ ap (λ r. r.answer) q in
          (q, cc)
      go (refuses m z q) =
          let y : took w i j ≡ declined m = sym e ∙ h.answer_is ∙ ap (λ r. r.answer) q in
          let z : ◌≡◌ {A = ℕ} 0 1 = cc in
          absurd (omega arith)

  pub room_short : (w : WordTwo) (i j : ℕ) → a ≡ took w i j → n < j → has_room (stanza_taken client b o t x) n ≡ false
  room_short w i j e l =
      let q = took_is w i j e in
      ap (λ y. has_room y n) (ahead_accepted q.0) ∙ less_room last (answer s b.second line body k) onward n (omega (arith, q.1))

  pub room_on : (w : WordTwo) (i j : ℕ) → a ≡ took w i j → j ≤ n → has_room (stanza_taken client b o t x) n ≡ has_room onward (n - j)
  room_on w i j e l =
      let q = took_is w i j e in
      ap (λ y. has_room y n) (ahead_accepted q.0) ∙ more_room last (answer s b.second line body k) onward n (omega (arith, q.1))
      ∙ ap (λ i. has_room onward (n - i)) (sym q.1)

-- a part up to the end
length_part : (at : ℕ) (text : List ℕ) → length (take (length text - at) (drop at text)) ≡ length text - at
length_part at text = ap length (part_rest at text) ∙ length-drop at text

-- bytes behind `at` that are no whole stanza
pub turn_rest : (s : Session) (b : Buffers) (a text : List ℕ) (at n m : ℕ) → refused m ≡ next_in (turn_at client s.phase) (take (length text - at) (drop at text)) →
    is_keepable (turn_at client s.phase) (length text - at) ≡ has_room (taken_text client s b a (drop at text)) n
turn_rest s b a text at n m h =
    ap (is_keepable (turn_at client s.phase)) (sym (length-drop at text))
    ∙ rest_room s b a (drop at text) n m (h ∙ ap (next_in (turn_at client s.phase)) (part_rest at text))

-- a stanza stands where it is the turn to read
pub next_turn : (u : Turn) (x : List ℕ) (l m k : ℕ) → stanza l m k ≡ next_in u x → u ≡ reads
next_turn reads x l m k h = refl
next_turn (drops i) x l m k h = let z : ◌≡◌ {A = ℕ} 0 1 = cc in absurd (omega arith)
next_turn keeps_back x l m k h = let z : ◌≡◌ {A = ℕ} 0 1 = cc in absurd (omega arith)

pub next_first : (u : Turn) (x : List ℕ) (l m k : ℕ) → stanza l m k ≡ next_in u x → read_first x ≡ stanza l m k
next_first u x l m k h = sym (ap (λ u. next_in u x) (next_turn u x l m k h)) ∙ sym h

-- it lies within the text, and takes a byte at least
pub next_within : (u : Turn) (text : List ℕ) (at l m k : ℕ) → stanza l m k ≡ next_in u (take (length text - at) (drop at text)) → at ≤ length text →
    (1 ≤ k) × (k ≤ 8192) × (at + k ≤ length text)
next_within u text at l m k h z =
    let part = take (length text - at) (drop at text) in
    let v = whole_within part start 0 k ((whole_iff part k).1 (l, m, next_first u part l m k h)) in
    let w = length_part at text in
    (omega arith, omega arith, omega arith)

-- ---- in the loop: the text behind `at`

module _ (s : Session) (b : Buffers) (a text : List ℕ) (at l m k : ℕ) (y : Taking) (after : Session) (n : ℕ)
    (h : stanza l m k ≡ next_in (turn_at client s.phase) (take (length text - at) (drop at text)))
    (tried : Tried s b.second (line_of (take (length text - at) (drop at text)) l) (body_behind (take (length text - at) (drop at text)) l k) k y after) where
  abbrev part : List ℕ
  part = take (length text - at) (drop at text)

  turn : turn_at client s.phase ≡ reads
  turn = next_turn (turn_at client s.phase) part l m k h

  first_is : read_first part ≡ stanza l m k
  first_is = next_first (turn_at client s.phase) part l m k h

  -- what its call comes to
  abbrev called : Outcome
  called = outcome s b (receive_two part ample)

  call : called ≡ received_two_outcome b.first (received_stanza s b.second ample (line_of part l) (body_behind part l k) k)
  call = stanza_call_lem s b part ample l m k (reads_two s.phase turn) first_is

  -- the text is this stanza and the rest
  ahead : has_room (taken_text client s b a (drop at text)) n ≡ has_room (stanza_taken client b called (take k part) (drop k part)) n
  ahead = ap (λ x. has_room (taken_text client s b a x) n) (sym (part_rest at text)) ∙ ap (λ u. has_room u n) (text_stanza client s b a turn part l m k first_is)

  pub turn_refused : (i : ℕ) → y ≡ declined i → true ≡ has_room (taken_text client s b a (drop at text)) n
  turn_refused i e = sym (ahead ∙ room_refused s b (take k part) (drop k part) (line_of part l) (body_behind part l k) k y after n called call tried i e)

  pub turn_short : (w : WordTwo) (i j : ℕ) → y ≡ took w i j → n < j → false ≡ has_room (taken_text client s b a (drop at text)) n
  turn_short w i j e z = sym (ahead ∙ room_short s b (take k part) (drop k part) (line_of part l) (body_behind part l k) k y after n called call tried w i j e z)

  abbrev pub on_turn : Buffers
  on_turn = buffers_of b.first (accepted s b.second (line_of part l) (body_behind part l k) k).buffers

  pub turn_long : (e r t : ℕ) → AreLong b.second e r t → AreLong on_turn.second e r t
  turn_long e r t z = long_still s b.second (line_of part l) (body_behind part l k) k e r t z

  pub turn_on : (w : WordTwo) (i j : ℕ) → y ≡ took w i j → j ≤ n → has_room (taken_text client s b a (drop at text)) n ≡
      has_room (taken_text client after on_turn (awaited_behind client after.phase (take k part)) (drop (at + k) text)) (n - j)
  turn_on w i j e z =
      ahead ∙ room_on s b (take k part) (drop k part) (line_of part l) (body_behind part l k) k y after n called call tried w i j e z
      ∙ ap (λ x. has_room (taken_text client after on_turn (awaited_behind client after.phase (take k part)) x) (n - j))
      (ap (drop k) (part_rest at text) ∙ drop-drop k at text)

-- ---- room that needs no look at the bytes

module _ (i : Intake) (b : Buffers) (x : List ℕ) (n : ℕ) (turn : turn_at client i.session.phase ≡ reads) where
  pub front_ample : length i.kept ≤ 8191 → length x ≤ 8193 → 16 * (length i.kept + length x) < 6 * n + 6 → true ≡ has_room (taken client i b x) n
  front_ample l m h =
      let w = front_written i.session b i.awaited i.reading i.kept x in
      let c = length-append i.kept x in
      sym (true_and _ _ (le-leb (length (taken client i b x).written) n (omega arith))
      (le-leb (length (taken client i b x).intake.kept) 8192 (read_kept client i.session b i.awaited i.reading i.kept x turn l m)))

-- .. of a text
pub text_ample : (s : Session) (b : Buffers) (a x : List ℕ) (n : ℕ) → length x ≤ 8192 → 16 * length x < 6 * n + 6 → true ≡ has_room (taken_text client s b a x) n
text_ample s b a x n l h =
    sym (true_and _ _ (le-leb (length (taken_text client s b a x).written) n (omega (arith, text_written s b a x)))
    (le-leb (length (taken_text client s b a x).intake.kept) 8192 (omega (arith, text_kept client s b a x))))

-- ---- a stanza and the text behind it

-- where no stanza begins it
pub ahead_fault_room : (s : Session) (b : Buffers) (t x : List ℕ) (m n : ℕ) → turn_at client s.phase ≡ reads → refused m ≡ read_first t → true ≡ has_room (stanza_ahead s b t x) n
ahead_fault_room s b t x m n turn h =
    sym (refused_room s b t x n m (outcome s b (receive_two t ample)) (fault_call s b t ample m (reads_two s.phase turn) (sym h))
    (read_number (λ m. m ≡ 0 → ⊥) (λ z. omega arith) (λ z. omega arith) (λ z. omega arith) t m (sym h)))

module _ (s : Session) (b : Buffers) (t x : List ℕ) (l m k : ℕ) (y : Taking) (after : Session) (n : ℕ) (turn : turn_at client s.phase ≡ reads)
    (h : read_first t ≡ stanza l m k) (tried : Tried s b.second (line_of t l) (body_behind t l k) k y after) where
  whole_call : outcome s b (receive_two t ample) ≡ received_two_outcome b.first (received_stanza s b.second ample (line_of t l) (body_behind t l k) k)
  whole_call = stanza_call_lem s b t ample l m k (reads_two s.phase turn) h

  pub ahead_refused_room : (i : ℕ) → y ≡ declined i → true ≡ has_room (stanza_ahead s b t x) n
  ahead_refused_room i e = sym (room_refused s b t x (line_of t l) (body_behind t l k) k y after n _ whole_call tried i e)

  pub ahead_short_room : (w : WordTwo) (i j : ℕ) → y ≡ took w i j → n < j → false ≡ has_room (stanza_ahead s b t x) n
  ahead_short_room w i j e z = sym (room_short s b t x (line_of t l) (body_behind t l k) k y after n _ whole_call tried w i j e z)

  abbrev pub ahead_buffers : Buffers
  ahead_buffers = buffers_of b.first (accepted s b.second (line_of t l) (body_behind t l k) k).buffers

  pub ahead_long : (e r u : ℕ) → AreLong b.second e r u → AreLong ahead_buffers.second e r u
  ahead_long e r u z = long_still s b.second (line_of t l) (body_behind t l k) k e r u z

  pub ahead_on_room : (w : WordTwo) (i j : ℕ) → y ≡ took w i j → j ≤ n →
      has_room (taken_text client after ahead_buffers (awaited_behind client after.phase t) x) (n - j) ≡ has_room (stanza_ahead s b t x) n
  ahead_on_room w i j e z = sym (room_on s b t x (line_of t l) (body_behind t l k) k y after n _ whole_call tried w i j e z)

-- ---- the loop's invariant: whether there is room goes on as it began

pub record Onward (e r t : ℕ) (first : Bool) (s : Session) (x : List ℕ) (n : ℕ) : Type 0 where
  pub awaited : List ℕ
  pub buffers : Buffers
  pub long : AreLong buffers.second e r t
  pub same : first ≡ has_room (taken_text client s buffers awaited x) n
