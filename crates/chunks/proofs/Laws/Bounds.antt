-- How long what is written and what is kept can be, by the bytes that came: the client answers a stanza with at most 16 bytes, and a stanza has at least 6.
use Prim.Native.Nat.{ℕ, ◌+◌, ◌*◌, ◌≤◌}
use mathlib.Core.Path.{◌≡◌, refl, sym, ap, subst, ◌∙◌}
use mathlib.Core.Bool.{true, false, false≢true}
use mathlib.Core.List.{List, [], ◌∷◌, ◌++◌}
use lib.Dec.{eqb, leb}
use lib.ListN.{length, take, drop, length-append, length-drop}
use lib.Seq.{length-take-le}
use native.Mathlib.Omega.{arith}
use borrow.Author.Tests.{eqb-true, eqb-false}
use Rattle.refusal.proofs.Laws.Booleans.{cases, and_true}
use Rattle.strict_base64.specs.Lines.{body_of}
use Rattle.strict_base64.proofs.Laws.Lines.{lines_length}
use Rattle.stanza.specs.Arguments.{is_line}
use Rattle.stanza.specs.Automaton.{State, start, next}
use Rattle.stanza.specs.Grammar.{stanza_text}
use Rattle.stanza.specs.Reading.{Reading, stanza, refused, read_first}
use Rattle.stanza.specs.Resuming.{Continued, whole, continued}
use Rattle.stanza.specs.Resuming as resuming
use Rattle.stanza.proofs.Laws.Arguments.{line_nil}
use Rattle.stanza.proofs.Laws.Exact.{taken_iff}
use Rattle.stanza.proofs.Laws.Resuming.{unfinished_is, whole_within}
use Rattle.stanza.proofs.Laws.RoundTrip.{written_read}
use Rattle.stanza.proofs.Laws.Writing.{text_length}
use Rattle.session.specs.declared.phases.Phase.{Phase}
use Rattle.session.specs.declared.phases.Phase.TheVariants.{One, Two, Awaiting, Ended, Closed}
use Rattle.session.specs.Session.{Session}
use Rattle.conversation.specs.Calls.{receive_two, outcome, written_by}
use Rattle.conversation.specs.Kinds.{Buffers}
use Rattle.conversation.specs.Phases.{line_in, body_in, command_in}
use Rattle.conversation.specs.ReceivingTwo.{at_once}
use Rattle.conversation.specs.Sending.{shortness}
use Rattle.conversation.specs.TurnsTwo.{turn_two}
use Rattle.refusal.specs.Verdict.{first_of}
use Rattle.conversation.proofs.Laws.Accepted.{text_number_lem}
use Rattle.conversation.proofs.Laws.Firsts.{first_iff}
use Rattle.conversation.proofs.Laws.NumberParts.{as_read, decided_two, at_once_text, given_receive_two}
use Rattle.conversation.proofs.Laws.Refusals.{either, refusal}
use Rattle.conversation.proofs.Laws.WrittenRead.{at_once_text_lem}
use Rattle.chunks.specs.Cutting.{Rest, unfinished, impossible, bytes_of, cut}
use Rattle.chunks.specs.Taking.{End, client, plugin, Turn, reads, drops, keeps_back, turn_at, ample, stanza_call, awaited_behind, Taken, no_more, emptied, joined, taken_rest, taken_all, taken_text}
use Rattle.chunks.proofs.Laws.Cases.{stanza_cases}
use Rattle.chunks.proofs.Laws.Cutting.{cut_joined}
use Rattle.chunks.proofs.Laws.Numbers.{at_once_short}
use Rattle.chunks.proofs.Laws.Reading.{Step, ends, fails, goes_on, overruns, step}
use Rattle.chunks.proofs.Laws.Texts.{taken_cut, front_left, front_fault, front_stanza}

-- ---- what is written

-- the shortest stanza is one argument of one byte, without a body
pub stanza_long : (t : List ℕ) (l m k : ℕ) → read_first t ≡ stanza l m k → 6 ≤ k
stanza_long t l m k h =
    let a = written_read t l m k h in
    let w = (taken_iff t k).0 (l, m, h) in
    let line = drop 3 (take l t) in
    let body = body_of (drop (l + 1) (take k t)) in
    let n = some line (and_true (is_line line) (leb (length (stanza_text line body)) 8192) a.writable).0 in
    omega (arith, ap length a.text, text_length line body, lines_length body, length-take-le k t w.within)
  where
    some : (line : List ℕ) → is_line line ≡ true → 1 ≤ length line
    some [] e = absurd (false≢true (sym line_nil ∙ e))
    some (b ∷ line) e = omega arith

module _ (s : Session) (b : Buffers) (t out : List ℕ) where
  -- what is accepted has a stanza's length
  pub accepted_long : (outcome s b (receive_two t out)).number ≡ 0 → 6 ≤ length t
  accepted_long h = go (read_first t) refl ((first_iff (turn_two s.phase) _).0 (sym (given_receive_two s b t out) ∙ h)).1
    where
      go : (q : Reading) → read_first t ≡ q →
          as_read q (first_of (decided_two s b false (line_in t) (body_in t)) (shortness (at_once_text s b (line_in t) (body_in t)) out)) ≡ 0 → 6 ≤ length t
      go (stanza l m k) q z = omega (arith, stanza_long t l m k q, ((taken_iff t k).0 (l, m, q)).within)
      go (refused n) q z = absurd (text_number_lem t n q z)

  -- and is answered at once with at most 16 bytes
  pub answer_short : length (written_by s b (receive_two t out)) ≤ 16
  answer_short =
      cases (eqb (outcome s b (receive_two t out)).number 0)
      (λ f. rw (at_once_text_lem s b t out (eqb-true (outcome s b (receive_two t out)).number 0 f))
      (at_once_short (at_once s.screen (command_in s.machine t))))
      (λ f. rw (refusal s b (receive_two t out) (eqb-false (outcome s b (receive_two t out)).number 0 f)).size (omega arith))

-- 16 bytes for 6 that came
rest_written : (u : Turn) (s : Session) (b : Buffers) (a : List ℕ) (r : Rest) → (taken_rest u s b a r).written ≡ []
rest_written reads s b a (unfinished q front) = refl
rest_written reads s b a (impossible n text) = refl
rest_written (drops n) s b a r =
    either (λ (x : Taken). x.written ≡ []) (eqb (length (bytes_of r)) 0) (no_more 0 (emptied s a) b) (no_more n (emptied s a) b) refl refl
rest_written keeps_back s b a r = refl

all_written : (ts : List (List ℕ)) (s : Session) (b : Buffers) (a : List ℕ) (r : Rest) →
    6 * length (taken_all client s b a ts r).written ≤ 16 * length (joined ts (bytes_of r))
unfolding taken_all joined
all_written [] s b a r = rw (rest_written (turn_at client s.phase) s b a r) (omega arith)
all_written (t ∷ ts) s b a r =
    let c = receive_two t ample in
    let o = outcome s b c in
    let more = taken_all client o.session o.buffers (awaited_behind client o.session.phase t) ts r in
    stanza_cases (λ x. 6 * length x.written ≤ 16 * length (t ++ joined ts (bytes_of r))) client s b a t ts r
    (λ q z. omega (
      arith,
      all_written ts o.session o.buffers (awaited_behind client o.session.phase t) r,
      accepted_long s b t ample z,
      answer_short s b t ample,
      length-append (written_by s b c) more.written,
      length-append t (joined ts (bytes_of r)),
    ))
    (λ q z. omega arith) (λ n q. omega arith) (λ q. omega arith)

pub front_written : (s : Session) (b : Buffers) (a : List ℕ) (q : State) (front x : List ℕ) →
    6 * length (taken_cut client s b a (cut q front x)).written ≤ 16 * length (front ++ x)
front_written s b a q front x = omega (arith, all_written (cut q front x).texts s b a (cut q front x).rest, ap length (cut_joined x q front))

pub text_written : (s : Session) (b : Buffers) (a x : List ℕ) → 6 * length (taken_text client s b a x).written ≤ 16 * length x
text_written s b a x = front_written s b a start [] x

-- ---- what is kept

-- never more than came
rest_kept : (u : Turn) (s : Session) (b : Buffers) (a : List ℕ) (r : Rest) → length (taken_rest u s b a r).intake.kept ≤ length (bytes_of r)
rest_kept reads s b a (unfinished q front) = omega arith
rest_kept reads s b a (impossible n text) = omega arith
rest_kept (drops n) s b a r =
    either (λ (x : Taken). length x.intake.kept ≤ length (bytes_of r)) (eqb (length (bytes_of r)) 0) (no_more 0 (emptied s a) b) (no_more n (emptied s a) b)
    (omega arith) (omega arith)
rest_kept keeps_back s b a r = omega arith

all_kept : (ts : List (List ℕ)) (e : End) (s : Session) (b : Buffers) (a : List ℕ) (r : Rest) →
    length (taken_all e s b a ts r).intake.kept ≤ length (joined ts (bytes_of r))
unfolding taken_all joined
all_kept [] e s b a r = rest_kept (turn_at e s.phase) s b a r
all_kept (t ∷ ts) e s b a r =
    let o = outcome s b (stanza_call e s.phase t) in
    stanza_cases (λ x. length x.intake.kept ≤ length (t ++ joined ts (bytes_of r))) e s b a t ts r
    (λ q z. omega (arith, all_kept ts e o.session o.buffers (awaited_behind e o.session.phase t) r, length-append t (joined ts (bytes_of r))))
    (λ q z. omega arith) (λ n q. omega arith) (λ q. omega arith)

pub front_kept : (e : End) (s : Session) (b : Buffers) (a : List ℕ) (q : State) (front x : List ℕ) →
    length (taken_cut e s b a (cut q front x)).intake.kept ≤ length (front ++ x)
front_kept e s b a q front x = omega (arith, all_kept (cut q front x).texts e s b a (cut q front x).rest, ap length (cut_joined x q front))

pub text_kept : (e : End) (s : Session) (b : Buffers) (a x : List ℕ) → length (taken_text e s b a x).intake.kept ≤ length x
text_kept e s b a x = front_kept e s b a start [] x

-- where bytes are read, a stanza that has ended holds all of the front and at least one byte more: with 8,193 bytes behind the front at most 8,192 are kept
pub read_kept : (e : End) (s : Session) (b : Buffers) (a : List ℕ) (q : State) (front x : List ℕ) → turn_at e s.phase ≡ reads →
    length front ≤ 8191 → length x ≤ 8193 →
    length (taken_cut e s b a (cut q front x)).intake.kept ≤ 8192
read_kept e s b a q front x turn l m = go (continued q (length front) x) refl
  where
    go : (r : Continued) → continued q (length front) x ≡ r → length (taken_cut e s b a (cut q front x)).intake.kept ≤ 8192
    go (whole k) h =
        let o = outcome s b (stanza_call e s.phase (front ++ take k x)) in
        let w = whole_within x q (length front) k h in
        subst (λ (y : Taken). length y.intake.kept ≤ 8192) (sym (front_stanza e s b a turn q front x k h))
        (either (λ (y : Taken). length y.intake.kept ≤ 8192) (eqb o.number 0) _ _
        (omega (arith, text_kept e o.session o.buffers (awaited_behind e o.session.phase (front ++ take k x)) (drop k x), length-drop k x))
        (omega arith))
    go (resuming.unfinished v) h =
        subst (λ (y : Taken). length y.intake.kept ≤ 8192) (sym (front_left e s b a turn q v front x h))
        (omega (arith, (unfinished_is x q v (length front) h).1, length-append front x))
    go (resuming.refused n) h =
        subst (λ (y : Taken). length y.intake.kept ≤ 8192) (sym (front_fault e s b a turn q front x n (omega arith) h)) (omega arith)

-- the front of an unfinished stanza has at most 8,191 bytes
abbrev ShortRest : Rest → Type 0
ShortRest (unfinished q front) = length front ≤ 8191
ShortRest (impossible n text) = Unit

cut_short : (x : List ℕ) (q : State) (front : List ℕ) → length front ≤ 8191 → ShortRest (cut q front x).rest
unfolding cut
cut_short [] q front l = l
cut_short (c ∷ t) q front l = go (cut_short t) (step q front c)
  where
    go : ((q : State) (front : List ℕ) → length front ≤ 8191 → ShortRest (cut q front t).rest) → Step q front c → ShortRest (cut q front (c ∷ t)).rest
    go i (ends z w) = subst (λ y. ShortRest y.rest) (sym (w t)) (i start [] (omega arith))
    go i (fails z w) = subst (λ y. ShortRest y.rest) (sym (w t)) tt
    go i (goes_on y z m w) = subst (λ y. ShortRest y.rest) (sym (w t)) (i (next q c) (front ++ (c ∷ [])) (omega (arith, length-append front (c ∷ []))))
    go i (overruns y z m w) = subst (λ y. ShortRest y.rest) (sym (w t)) tt

-- the plugin keeps nothing back, so no more than such a front
plugin_keeps : (p : Phase) → turn_at plugin p ≡ keeps_back → ⊥
plugin_keeps One h = let z : ◌≡◌ {A = ℕ} 0 1 = cc in omega arith
plugin_keeps Two h = let z : ◌≡◌ {A = ℕ} 0 1 = cc in omega arith
plugin_keeps (Awaiting w) h = let z : ◌≡◌ {A = ℕ} 0 1 = cc in omega arith
plugin_keeps Ended h = let z : ◌≡◌ {A = ℕ} 0 1 = cc in omega arith
plugin_keeps Closed h = let z : ◌≡◌ {A = ℕ} 0 1 = cc in omega arith

rest_short : (u : Turn) (s : Session) (b : Buffers) (a : List ℕ) (r : Rest) → (u ≡ keeps_back → ⊥) → ShortRest r →
    length (taken_rest u s b a r).intake.kept ≤ 8191
rest_short reads s b a (unfinished q front) k h = h
rest_short reads s b a (impossible n text) k h = omega arith
rest_short (drops n) s b a r k h =
    either (λ (x : Taken). length x.intake.kept ≤ 8191) (eqb (length (bytes_of r)) 0) (no_more 0 (emptied s a) b) (no_more n (emptied s a) b) (omega arith)
    (omega arith)
rest_short keeps_back s b a r k h = absurd (k refl)

plugin_all : (ts : List (List ℕ)) (s : Session) (b : Buffers) (a : List ℕ) (r : Rest) → ShortRest r → length (taken_all plugin s b a ts r).intake.kept ≤ 8191
unfolding taken_all
plugin_all [] s b a r h = rest_short (turn_at plugin s.phase) s b a r (plugin_keeps s.phase) h
plugin_all (t ∷ ts) s b a r h =
    let o = outcome s b (stanza_call plugin s.phase t) in
    stanza_cases (λ x. length x.intake.kept ≤ 8191) plugin s b a t ts r
    (λ q z. plugin_all ts o.session o.buffers (awaited_behind plugin o.session.phase t) r h) (λ q z. omega arith) (λ n q. omega arith)
    (λ q. absurd (plugin_keeps s.phase q))

pub plugin_kept : (s : Session) (b : Buffers) (a : List ℕ) (q : State) (front x : List ℕ) → length front ≤ 8191 →
    length (taken_cut plugin s b a (cut q front x)).intake.kept ≤ 8191
plugin_kept s b a q front x l = plugin_all (cut q front x).texts s b a (cut q front x).rest (cut_short x q front l)
