-- A phase's blocks, a stanza to a chunk and each reply directly behind its command, are a cut of themselves where no call is refused with 14 or 15 and none is made
-- behind the end: so demand 3 of calls of one stanza is the instance with one stanza to a chunk, and every accepted phase has a cut.
use Prim.Native.Nat.{ℕ}
use mathlib.Core.Path.{◌≡◌, refl, sym, ap, ap₂, subst, ◌∙◌}
use mathlib.Core.Bool.{Bool, true, false, ◌&&◌, false≢true}
use mathlib.Core.Logic.{◌↔◌, ⊎_elim}
use mathlib.Core.List.{List, [], ◌∷◌, ◌++◌, map, append_assoc, append-nil}
use lib.Dec.{eqb}
use lib.ListN.{length}
use native.Mathlib.Omega.{arith}
use borrow.Author.Tests.{eqb-true, eqb-false}
use Rattle.refusal.specs.Pick.{pick}
use Rattle.refusal.proofs.Laws.Booleans.{cases, and_false_right}
use Rattle.stanza.specs.Automaton.{start}
use Rattle.stanza.specs.Grammar.{stanza_text}
use Rattle.responses.specs.Responses.{response_line}
use Rattle.responses.specs.declared.Response.{Response}
use Rattle.session.specs.Session.{Session, closed}
use Rattle.session.specs.declared.words.WordTwo.{WordTwo}
use Rattle.session.specs.declared.phases.Phase as phases
use Rattle.session.specs.declared.phases.Phase.TheVariants.{One, Two, Awaiting, Ended, Closed}
use Rattle.conversation.specs.Calls as one_call
use Rattle.conversation.specs.Calls.{outcome, State, AllZero, Accepted}
use Rattle.conversation.specs.Kinds.{Buffers}
use Rattle.conversation.specs.Phases.{All, Whole, Part, Reply, Block, Phase, blocks_of, IsPhase, calls_of, Starts, SameStart, Rearranged, SameTables}
use Rattle.conversation.specs.Replying.{number_replied}
use Rattle.conversation.specs.TurnsTwo.{answered, due_in}
use Rattle.chunks.specs.Cutting.{bytes_of, Cut, cut}
use Rattle.chunks.specs.Taking.{End, client, plugin, Turn, reads, drops, keeps_back, turn_at, ample, stanza_call, Intake, no_more, emptied, joined}
use Rattle.chunks.specs.Chunks.{Outcome, untaken, turn_of, reply_ahead, replied_by}
use Rattle.chunks.specs.Uncut.{Piece, chunk, reply, outcome_of, numbers, is_closed, Parted, received_more, parted, parted_chunk, alone, singles, is_over, is_waiting, is_unfit, uncut, text_in, NoneHeldUp, is_ended, NoneBehind, is_reply}
use Rattle.chunks.specs.Orders.{reply_alone, uncut_calls, in_time, IsCut, end_of, amples, OneByOne, state_behind}
use Rattle.chunks.proofs.Laws.Reading.{cut_whole}
use Rattle.chunks.proofs.Laws.Cases.{drops_not_reads, held}
use Rattle.chunks.proofs.Laws.Stanzas.{stanza_open, stepped}
use Rattle.chunks.proofs.Laws.Cut.{chunk_refused, closed_turn_of, none_behind, none_behind_on, reply_unfit, reply_alone_lem}
use Rattle.chunks.proofs.Laws.Orders.{all_append, starts_ready, cut_calls, order_of_cuts}
use Rattle.chunks.proofs.Laws.Prefix.{drops_number, empty_apart, some}
use Rattle.chunks.proofs.Laws.Blocks.{blocks_same}
use Rattle.chunks.proofs.Laws.Singles.{whole_is}
use Rattle.chunks.proofs.Laws.Taking.{turn_drops, turn_says, closed_waits, over_ended, alone_accepted, alone_refused, one_alone, refused_one}
use Rattle.chunks.proofs.Laws.Written.{cut_wholes}

-- a whole stanza in a chunk of its own, or a reply
abbrev IsAlone : Piece → Type 0
IsAlone (chunk t out) = (out ≡ ample) × Whole t
IsAlone (reply r body out) = out ≡ ample

-- ---- behind a session's closing

abbrev shut : Session → Intake
shut s = emptied (closed s) []

-- a reply there gives 13; the plugin end has none
shut_reply : (e : End) (s : Session) (b : Buffers) (r : Response) (body out : List ℕ) (cs : List Piece) → NoneHeldUp (numbers e (shut s) b (reply r body out ∷ cs)) → outcome_of e (shut s) b (reply r body out) ≡ untaken 13 (shut s) b out
unfolding NoneHeldUp numbers
shut_reply client s b r body out cs h = refl
shut_reply plugin s b r body out cs h = absurd (h.0.0 refl)

-- the uncut list has what is left, each stanza by itself
shut_uncut : (cs : List Piece) (e : End) (s : Session) (b : Buffers) (left : List ℕ) → NoneHeldUp (numbers e (shut s) b cs) → uncut e (shut s) b left cs ≡ singles (left ++ text_in cs)
unfolding uncut text_in
shut_uncut [] e s b left h = rw (closed_waits e) (ap singles (sym (append-nil left)))
shut_uncut (chunk bytes out ∷ cs) e s b left h =
    shut_uncut cs e s b (left ++ bytes) (none_behind e (shut s) b (chunk bytes out) cs (untaken 13 (shut s) b out) (chunk_refused e (shut s) b 13 bytes out (closed_turn_of e) refl) h).1 ∙ ap singles (append_assoc left bytes (text_in cs))
shut_uncut (reply r body out ∷ cs) e s b left h =
    let q = shut_reply e s b r body out cs h in
    rw (closed_waits e) (ap (λ (o : Outcome). uncut e o.intake o.buffers left cs) q ∙ shut_uncut cs e s b left (none_behind e (shut s) b (reply r body out) cs (untaken 13 (shut s) b out) q h).1)

-- the texts of the chunks
unfoldable texts_in : List Piece → List (List ℕ)
texts_in [] = []
texts_in (chunk t out ∷ cs) = t ∷ texts_in cs
texts_in (reply r body out ∷ cs) = texts_in cs

texts_whole : (cs : List Piece) → All IsAlone cs → All Whole (texts_in cs)
unfolding All texts_in
texts_whole [] h = tt
texts_whole (chunk t out ∷ cs) h = (h.0.1, texts_whole cs h.1)
texts_whole (reply r body out ∷ cs) h = texts_whole cs h.1

texts_joined : (cs : List Piece) → text_in cs ≡ joined (texts_in cs) []
unfolding text_in texts_in joined
texts_joined [] = refl
texts_joined (chunk t out ∷ cs) = ap (λ x. t ++ x) (texts_joined cs)
texts_joined (reply r body out ∷ cs) = texts_joined cs

-- the list without its replies has the same
shut_heard : (cs : List Piece) (e : End) (s : Session) (b : Buffers) → All IsAlone cs → NoneHeldUp (numbers e (shut s) b cs) → in_time e (shut s) b cs ≡ map alone (texts_in cs)
unfolding All in_time texts_in
shut_heard [] e s b h n = refl
shut_heard (chunk t out ∷ cs) e s b h n =
    let q = chunk_refused e (shut s) b 13 t out (closed_turn_of e) refl in
    ap₂ (λ (c : Piece) x. c ∷ x) (ap (chunk t) h.0.0)
    (ap (λ (o : Outcome). in_time e o.intake o.buffers cs) q ∙ shut_heard cs e s b h.1 (none_behind e (shut s) b (chunk t out) cs (untaken 13 (shut s) b out) q n).1)
shut_heard (reply r body out ∷ cs) e s b h n =
    let q = shut_reply e s b r body out cs n in
    ap (λ (o : Outcome). in_time e o.intake o.buffers cs) q ∙ shut_heard cs e s b h.1 (none_behind e (shut s) b (reply r body out) cs (untaken 13 (shut s) b out) q n).1

shut_same : (cs : List Piece) (e : End) (s : Session) (b : Buffers) → All IsAlone cs → NoneHeldUp (numbers e (shut s) b cs) → uncut e (shut s) b [] cs ≡ in_time e (shut s) b cs
shut_same cs e s b h n =
    let c = ap (cut start []) (texts_joined cs) ∙ cut_wholes (texts_in cs) (texts_whole cs h) in
    shut_uncut cs e s b [] n ∙ ap (λ (c : Cut). map alone c.texts ++ pick (eqb (length (bytes_of c.rest)) 0) [] (alone (bytes_of c.rest) ∷ [])) c ∙ append-nil (map alone (texts_in cs)) ∙ sym (shut_heard cs e s b h n)

-- ---- a call at a list's front, with nothing kept

-- the stanza alone is what is received of it
parted_single : (e : End) (s : Session) (b : Buffers) (a t : List ℕ) → Whole t → turn_at e s.phase ≡ reads → parted_chunk e (emptied s a) b t ≡ record { received = t ∷ []; left = [] }
unfolding parted joined
parted_single e s b a t w h =
    ap (λ (c : Cut). parted e s b c.texts c.rest) (cut_whole t w) ∙ rw h (ap (received_more t) (same (eqb (outcome s b (stanza_call e s.phase t)).number 0)))
  where
    same : (f : Bool) → ◌≡◌ {A = Parted} (pick f (record { received = []; left = [] }) (record { received = []; left = [] })) (record { received = []; left = [] })
    same true = refl
    same false = refl

-- such a call stays as it is
abbrev Same : End → Session → List ℕ → Buffers → List Piece → Type 0
Same e s a b cs = uncut e (emptied s a) b [] cs ≡ in_time e (emptied s a) b cs

module _ (e : End) (s : Session) (a : List ℕ) (b : Buffers) (cs : List Piece) where
  heard_on : (c : Piece) (o : Outcome) → outcome_of e (emptied s a) b c ≡ o → is_closed s.phase ≡ false → in_time e (emptied s a) b (c ∷ cs) ≡ c ∷ in_time e o.intake o.buffers cs
  unfolding in_time
  heard_on c o q h = rw (ap (λ x. is_reply c && x) h ∙ and_false_right (is_reply c)) (ap (λ (o : Outcome). c ∷ in_time e o.intake o.buffers cs) q)

  chunk_on : (t : List ℕ) (o : Outcome) → outcome_of e (emptied s a) b (alone t) ≡ o → is_over s.phase ≡ false → Whole t → turn_at e s.phase ≡ reads →
      uncut e (emptied s a) b [] (alone t ∷ cs) ≡ alone t ∷ uncut e o.intake o.buffers [] cs
  unfolding uncut
  chunk_on t o q h w u =
      let x = outcome_of e (emptied s a) b (alone t) in
      rw h (ap (λ (p : Parted). map alone p.received ++ uncut e x.intake x.buffers p.left cs) (parted_single e s b a t w u) ∙ ap (λ (o : Outcome). alone t ∷ uncut e o.intake o.buffers [] cs) q)

  reply_on : (r : Response) (body : List ℕ) (o : Outcome) → outcome_of e (emptied s a) b (reply r body ample) ≡ o → is_waiting e s.phase ≡ true →
      uncut e (emptied s a) b [] (reply r body ample ∷ cs) ≡ reply r body ample ∷ uncut e o.intake o.buffers [] cs
  unfolding uncut cut parted
  reply_on r body o q h =
      let x = outcome_of e (emptied s a) b (reply r body ample) in
      rw h (ap (λ x. reply r body ample ∷ x) (same (is_unfit x) (uncut e x.intake x.buffers [] cs)) ∙ ap (λ (o : Outcome). reply r body ample ∷ uncut e o.intake o.buffers [] cs) q)
    where
      same : (f : Bool) (us : List Piece) → pick f us us ≡ us
      same true us = refl
      same false us = refl

-- ---- lists of such calls

-- what is shown of the calls behind
abbrev Goes : List Piece → Type 0
Goes cs = (e : End) (s : Session) (a : List ℕ) (b : Buffers) → is_closed s.phase ≡ false → NoneHeldUp (numbers e (emptied s a) b cs) → NoneBehind e (emptied s a) b cs → Same e s a b cs

not_ended : (e : End) (i : Intake) (b : Buffers) (c : Piece) (cs : List Piece) → NoneBehind e i b (c ∷ cs) → is_ended i.session.phase ≡ false
unfolding NoneBehind
not_ended e i b c cs h = h.0

module _ (cs : List Piece) (go : Goes cs) (alones : All IsAlone cs) (e : End) (s : Session) (a : List ℕ) (b : Buffers) (open_is : is_closed s.phase ≡ false) where
  -- a call that leaves nothing kept in an open session
  on : (c : Piece) (o : Outcome) (s' : Session) (a' : List ℕ) → outcome_of e (emptied s a) b c ≡ o → o.intake ≡ emptied s' a' → is_closed s'.phase ≡ false →
      (uncut e (emptied s a) b [] (c ∷ cs) ≡ c ∷ uncut e o.intake o.buffers [] cs) → NoneHeldUp (numbers e (emptied s a) b (c ∷ cs)) → NoneBehind e (emptied s a) b (c ∷ cs) → Same e s a b (c ∷ cs)
  on c o s' a' q k v u n d =
      u
      ∙ ap (λ x. c ∷ x) (ap (λ i. uncut e i o.buffers [] cs) k
      ∙ go e s' a' o.buffers v (subst (λ i. NoneHeldUp (numbers e i o.buffers cs)) k (none_behind e (emptied s a) b c cs o q n).1) (subst (λ i. NoneBehind e i o.buffers cs) k (none_behind_on e (emptied s a) b c cs o q d))
      ∙ ap (λ i. in_time e i o.buffers cs) (sym k))
      ∙ sym (heard_on e s a b cs c o q open_is)

  module _ (t : List ℕ) (w : Whole t) (n : NoneHeldUp (numbers e (emptied s a) b (alone t ∷ cs))) (d : NoneBehind e (emptied s a) b (alone t ∷ cs)) where
    not_14 : (outcome_of e (emptied s a) b (alone t)).number ≡ 14 → ⊥
    not_14 = (none_behind e (emptied s a) b (alone t) cs (outcome_of e (emptied s a) b (alone t)) refl n).0.0

    taken_goes : (u : turn_at e s.phase ≡ reads) → (outcome s b (stanza_call e s.phase t)).number ≡ 0 → is_over s.phase ≡ false → Same e s a b (alone t ∷ cs)
    taken_goes u z v =
        let q = alone_accepted e s a b t (whole_is t w) u z in
        let o = held ample (one_alone e s a b t (whole_is t w) u) in
        on (alone t) o (outcome s b (stanza_call e s.phase t)).session o.intake.awaited q refl (stanza_open e s.phase s b t z) (chunk_on e s a b cs t o q v w u) n d

    refused_goes : (u : turn_at e s.phase ≡ reads) → ((outcome s b (stanza_call e s.phase t)).number ≡ 0 → ⊥) → is_over s.phase ≡ false → Same e s a b (alone t ∷ cs)
    refused_goes u z v =
        let q = alone_refused e s a b t (whole_is t w) u z in
        let o = held ample (refused_one e s a b t (whole_is t w) u) in
        let k : o.intake ≡ shut s = ap (λ x. emptied x []) ((stepped s b t (whole_is t w) e u).closing z).session in
        chunk_on e s a b cs t o q v w u
        ∙ ap (λ x. alone t ∷ x) (ap (λ i. uncut e i b [] cs) k ∙ shut_same cs e s b alones (subst (λ i. NoneHeldUp (numbers e i b cs)) k (none_behind e (emptied s a) b (alone t) cs o q n).1) ∙ ap (λ i. in_time e i b cs) (sym k))
        ∙ sym (heard_on e s a b cs (alone t) o q open_is)

    chunk_goes : Same e s a b (alone t ∷ cs)
    chunk_goes = by (turn_at e s.phase) refl
      where
        by : (u : Turn) → turn_at e s.phase ≡ u → Same e s a b (alone t ∷ cs)
        by reads u =
            let v = ((turn_says e s.phase).going (λ z. drops_not_reads 13 (sym z ∙ u))).0 in
            cases (eqb (outcome s b (stanza_call e s.phase t)).number 0) (λ f. taken_goes u (eqb-true _ 0 f) v) (λ f. refused_goes u (eqb-false _ 0 f) v)
        by (drops m) u =
            ⊎_elim (λ (z : m ≡ 13). absurd (false≢true (sym (not_ended e (emptied s a) b (alone t) cs d) ∙ over_ended s.phase ((turn_says e s.phase).ended (u ∙ ap drops z)).0 open_is)))
            (λ (z : m ≡ 14). absurd (not_14 (drops_number e s a b 14 t (u ∙ ap drops z) (ap (λ x. eqb (length x) 0) (sym (append-nil t)) ∙ some t [] (λ z. empty_apart (whole_is t w) z))))) (turn_drops e s.phase m u)
        by keeps_back u =
            let k = (turn_says e s.phase).host u in
            absurd (not_14 (ap (λ (o : Outcome). o.number) (chunk_refused e (emptied s a) b 14 t ample (ap₂ turn_of k.0 k.1.1) refl)))

-- a reply
module _ (cs : List Piece) (go : Goes cs) (alones : All IsAlone cs) (s : Session) (a : List ℕ) (b : Buffers) (open_is : is_closed s.phase ≡ false) (r : Response) (body : List ℕ)
    (n : NoneHeldUp (numbers client (emptied s a) b (reply r body ample ∷ cs))) (d : NoneBehind client (emptied s a) b (reply r body ample ∷ cs)) where
  abbrev call : Piece
  call = reply r body ample

  due_goes : (v : WordTwo) → s.phase ≡ Awaiting v → Same client s a b (call ∷ cs)
  due_goes v p =
      cases (eqb (number_replied v r body) 0)
      (λ f.
      let q = reply_alone_lem s a b r body v p (eqb-true (number_replied v r body) 0 f) in
      let o = held ample (reply_ahead (stanza_text (response_line r) body) (no_more 0 (emptied (answered s) []) b)) in
      on cs go alones client s a b open_is call o (answered s) [] q refl refl (reply_on client s a b cs r body o q (ap (is_waiting client) p)) n d)
      (λ f.
      let k = number_replied v r body in
      let q = reply_unfit (emptied s a) b r body ample v p k refl f in
      on cs go alones client s a b open_is call (untaken k (emptied s a) b ample) s a q refl open_is (reply_on client s a b cs r body (untaken k (emptied s a) b ample) q (ap (is_waiting client) p)) n d)

  reply_goes : Same client s a b (call ∷ cs)
  reply_goes = by s.phase refl
    where
      undue : (p : phases.Phase) → s.phase ≡ p → (replied_by (due_in p) (emptied s a) b r body ample).number ≡ 14 → ⊥
      undue p q k = (none_behind client (emptied s a) b call cs (outcome_of client (emptied s a) b call) refl n).0.0 (ap (λ p. (replied_by (due_in p) (emptied s a) b r body ample).number) q ∙ k)

      by : (p : phases.Phase) → s.phase ≡ p → Same client s a b (call ∷ cs)
      by One q = absurd (undue One q refl)
      by Two q = absurd (undue Two q refl)
      by (Awaiting v) q = due_goes v q
      by Ended q = absurd (false≢true (sym (not_ended client (emptied s a) b call cs d) ∙ ap is_ended q))
      by Closed q = absurd (false≢true (sym open_is ∙ ap is_closed q))

itself : (cs : List Piece) → All IsAlone cs → Goes cs
unfolding All
itself [] h e s a b v n d = unfold uncut in_time cut in same_either (is_waiting e s.phase)
  where
    same_either : (f : Bool) → pick {X = List Piece} f [] [] ≡ []
    same_either true = refl
    same_either false = refl
itself (chunk t out ∷ cs) h e s a b v n d =
    subst (λ out. NoneHeldUp (numbers e (emptied s a) b (chunk t out ∷ cs)) → NoneBehind e (emptied s a) b (chunk t out ∷ cs) → Same e s a b (chunk t out ∷ cs)) (sym h.0.0)
    (λ n d. chunk_goes cs (itself cs h.1) h.1 e s a b v t h.0.1 n d) n d
itself (reply r body out ∷ cs) h client s a b v n d =
    subst (λ out. NoneHeldUp (numbers client (emptied s a) b (reply r body out ∷ cs)) → NoneBehind client (emptied s a) b (reply r body out ∷ cs) → Same client s a b (reply r body out ∷ cs)) (sym h.0)
    (λ n d. reply_goes cs (itself cs h.1) h.1 s a b v r body n d) n d
itself (reply r body out ∷ cs) h plugin s a b v n d = absurd ((none_behind plugin (emptied s a) b (reply r body out) cs (untaken 14 (emptied s a) b out) refl n).0.0 refl)

-- ---- a phase's blocks

replies_alone : (rs : List Reply) → All IsAlone (map reply_alone rs)
unfolding All
replies_alone [] = tt
replies_alone (r ∷ rs) = (refl, replies_alone rs)

blocks_alone : (xs : List Block) → All (λ x. Whole x.text) xs → All IsAlone (uncut_calls xs)
unfolding All uncut_calls
blocks_alone [] w = tt
blocks_alone (x ∷ xs) w = all_append IsAlone (alone x.text ∷ map reply_alone x.replies) (uncut_calls xs) ((refl, w.0), replies_alone x.replies) (blocks_alone xs w.1)

-- where no call is refused with 14 or 15 and none is made behind the end, the blocks are a cut of themselves
pub blocks_cut : (part : Part) (s : Session) (b : Buffers) (p : Phase) → Starts part s → IsPhase part p → NoneHeldUp (one_call.numbers s b (calls_of part amples (blocks_of p))) →
    NoneBehind (end_of part) (emptied s []) b (uncut_calls (blocks_of p)) → IsCut (end_of part) s b (uncut_calls (blocks_of p)) (blocks_of p)
blocks_cut part s b p st ph h d =
    let z = starts_ready part s st in
    let n = subst NoneHeldUp (sym (blocks_same part s b (blocks_of p) z.0 ph.whole ph.quiet).numbers) h in
    record { uncut_is = itself (uncut_calls (blocks_of p)) (blocks_alone (blocks_of p) ph.whole) (end_of part) s [] b z.1 n d; none_held_up = n; none_behind = d }

-- where every call is accepted, none of these is
zero_none : (ns : List ℕ) → AllZero ns → NoneHeldUp ns
unfolding AllZero NoneHeldUp
zero_none [] h = tt
zero_none (n ∷ ns) h = ((λ z. omega (arith, h.0), λ z. omega (arith, h.0)), zero_none ns h.1)

ended_refused : (e : End) (i : Intake) (b : Buffers) (c : Piece) → (outcome_of e i b c).number ≡ 0 → is_ended i.session.phase ≡ false
ended_refused e i b c h = by i.session.phase refl
  where
    of_chunk : (e : End) (bytes out : List ℕ) → i.session.phase ≡ Ended → (outcome_of e i b (chunk bytes out)).number ≡ 13
    of_chunk client bytes out q = ap (λ (o : Outcome). o.number) (chunk_refused client i b 13 bytes out (ap (turn_of client) q) refl)
    of_chunk plugin bytes out q = ap (λ (o : Outcome). o.number) (chunk_refused plugin i b 13 bytes out (ap (turn_of plugin) q) refl)

    apart : (e : End) (c : Piece) → i.session.phase ≡ Ended → (outcome_of e i b c).number ≡ 0 → ⊥
    apart e (chunk bytes out) q h = let z = of_chunk e bytes out q in omega arith
    apart client (reply r body out) q h = let z : (outcome_of client i b (reply r body out)).number ≡ 13 = ap (λ p. (replied_by (due_in p) i b r body out).number) q in omega arith
    apart plugin (reply r body out) q h = omega arith

    by : (p : phases.Phase) → i.session.phase ≡ p → is_ended p ≡ false
    by One q = refl
    by Two q = refl
    by (Awaiting v) q = refl
    by Ended q = absurd (apart e c q h)
    by Closed q = refl

zero_behind : (cs : List Piece) (e : End) (i : Intake) (b : Buffers) → AllZero (numbers e i b cs) → NoneBehind e i b cs
unfolding AllZero numbers NoneBehind
zero_behind [] e i b h = tt
zero_behind (c ∷ cs) e i b h = (ended_refused e i b c h.0, zero_behind cs e (outcome_of e i b c).intake (outcome_of e i b c).buffers h.1)

-- so every accepted phase has a cut
pub accepted_cut : (part : Part) (s : Session) (b : Buffers) (p : Phase) → Starts part s → IsPhase part p → Accepted s b (calls_of part amples (blocks_of p)) → IsCut (end_of part) s b (uncut_calls (blocks_of p)) (blocks_of p)
accepted_cut part s b p st ph ok =
    let z = starts_ready part s st in
    blocks_cut part s b p st ph (zero_none (one_call.numbers s b (calls_of part amples (blocks_of p))) ok)
    (zero_behind (uncut_calls (blocks_of p)) (end_of part) (emptied s []) b (subst AllZero (sym (blocks_same part s b (blocks_of p) z.0 ph.whole ph.quiet).numbers) ok))

-- ---- demand 3 of calls of one stanza, as the instance of demand 3 with cuts

-- two rearrangements are both accepted or both refused, and where they are accepted their tables are equal
pub order_of_stanzas : (part : Part) (x y : State) → Starts part x.session → Starts part y.session → SameStart part x y → (p q : Phase) → IsPhase part p → IsPhase part q →
    Rearranged part x.session.machine x.session.name p q → OneByOne part x p → OneByOne part y q →
    (let cs = calls_of part amples (blocks_of p) in let ds = calls_of part amples (blocks_of q) in
    (Accepted x.session x.buffers cs ↔ Accepted y.session y.buffers ds)
    × (Accepted x.session x.buffers cs → SameTables (one_call.after x.session x.buffers cs) (one_call.after y.session y.buffers ds)))
order_of_stanzas part x y sx sy st p q hp hq r rx ry =
    let cx = blocks_cut part x.session x.buffers p sx hp rx.none_held_up rx.none_behind in
    let cy = blocks_cut part y.session y.buffers q sy hq ry.none_held_up ry.none_behind in
    let o = order_of_cuts part x y sx sy st p q hp hq r (uncut_calls (blocks_of p)) (uncut_calls (blocks_of q)) cx cy in
    let u = cut_calls part x p (uncut_calls (blocks_of p)) sx hp cx in
    let v = cut_calls part y q (uncut_calls (blocks_of q)) sy hq cy in (
      (λ k. v.accepted.0 (o.accepted.0 (u.accepted.1 k)), λ k. u.accepted.0 (o.accepted.1 (v.accepted.1 k))),
      λ k. subst (λ a. SameTables a (one_call.after y.session y.buffers (calls_of part amples (blocks_of q)))) u.state_is
          (subst (SameTables (state_behind (end_of part) x (uncut_calls (blocks_of p)))) v.state_is (o.tables (u.accepted.1 k))),
    )
