-- A call refused with a number other than 15 stands as far as its fault: the stanzas before it are taken as by a call for each.
use Prim.Native.Nat.{ℕ, suc, ◌+◌, ◌≤◌}
use mathlib.Core.Path.{◌≡◌, refl, sym, ap, ap₂, subst, ◌∙◌}
use mathlib.Core.Bool.{Bool, true, false}
use mathlib.Core.Logic.{◌⊎◌, inl, inr, ⊎_elim}
use mathlib.Core.List.{List, [], ◌∷◌, ◌++◌, map, append-nil}
use lib.Dec.{eqb}
use lib.ListN.{length, take}
use lib.Seq.{take-nil}
use native.Mathlib.Omega.{arith}
use borrow.Author.Tests.{eqb-true, eqb-false, ne_eqb}
use Rattle.refusal.specs.Pick.{pick}
use Rattle.stanza.specs.Automaton.{start}
use Rattle.stanza.specs.Grammar.{stanza_text}
use Rattle.responses.specs.Responses.{response_line}
use Rattle.responses.specs.declared.Response.{Response}
use Rattle.session.specs.Session.{Session, closed}
use Rattle.session.specs.Phases.{closes}
use Rattle.session.specs.declared.words.WordTwo.{WordTwo}
use Rattle.session.specs.declared.phases.Phase.TheVariants.{Awaiting}
use Rattle.conversation.specs.Calls as calls
use Rattle.conversation.specs.Calls.{outcome, written_by, AllZero}
use Rattle.conversation.specs.Kinds.{Buffers}
use Rattle.conversation.specs.Phases.{All}
use Rattle.conversation.specs.Replying.{number_replied}
use Rattle.conversation.specs.TurnsTwo.{answered}
use Rattle.conversation.proofs.Laws.StepsTwo.{all_written}
use Rattle.chunks.specs.Cutting.{Rest, unfinished, impossible, bytes_of, cut}
use Rattle.chunks.specs.Taking.{End, client, Turn, reads, drops, keeps_back, turn_at, ample, stanza_call, awaited_behind, Intake, Taken, no_more, emptied, one_more, taken_rest, joined, taken_by, taken_all, last_in}
use Rattle.chunks.specs.Chunks.{Outcome, untaken, taken, turn_of, chunked, reply_ahead, taken_back, replied}
use Rattle.chunks.specs.Uncut.{Piece, reply, outcome_of, State, after, numbers, written, Parted, received_more, parted_by, parted, alone, parted_chunk, parted_back, text_in, Prefix}
use Rattle.chunks.specs.Reached.{Bounded}
use Rattle.chunks.proofs.Laws.Cutting.{IsWhole, IsRest, cut_joined, cut_parts, none_front}
use Rattle.chunks.proofs.Laws.Stanzas.{stepped}
use Rattle.chunks.proofs.Laws.Cases.{held}
use Rattle.chunks.proofs.Laws.Runs.{judged_not_15}
use Rattle.chunks.proofs.Laws.Taking.{turn_drops, turn_says, chunked_read, chunk_held, room_fits, one_alone, alone_fits, alone_accepted, alone_refused}
use Rattle.chunks.proofs.Laws.Cut.{text_alone, last_held, chunk_refused, reply_fit, reply_unfit, reply_room, reply_alone_lem}
use Rattle.chunks.proofs.Laws.Finish.{turn_not_waiting}
use Rattle.chunks.proofs.Laws.Together.{taken_dropped}

-- ---- accepted calls

pub record Accepts (e : End) (i : Intake) (b : Buffers) (xs : List Piece) (i' : Intake) (b' : Buffers) (v : List ℕ) : Type 0 where
  pub zero : AllZero (numbers e i b xs)
  pub leads : after e i b xs ≡ record { intake = i'; buffers = b' }
  pub writes : written e i b xs ≡ v

accepts_none : (e : End) (i : Intake) (b : Buffers) → Accepts e i b [] i b []
unfolding after numbers written AllZero
accepts_none e i b = record { zero = tt; leads = refl; writes = refl }

accepts_more : (e : End) (i : Intake) (b : Buffers) {i' : Intake} {b' : Buffers} {u : List ℕ} (c : Piece) (xs : List Piece) (out : List ℕ) (r : Taken) → outcome_of e i b c ≡ held out r → length r.written ≤ length out → r.number ≡ 0 →
    Accepts e r.intake r.buffers xs i' b' u → Accepts e i b (c ∷ xs) i' b' (r.written ++ u)
unfolding after numbers written AllZero
accepts_more e i b {i'} {b'} {u} c xs out r q l z a = record {
  zero = subst (λ (o : Outcome). AllZero (o.number ∷ numbers e o.intake o.buffers xs)) (sym q) (z, a.zero);
  leads = ap (λ (o : Outcome). after e o.intake o.buffers xs) q ∙ a.leads;
  writes = ap (λ (o : Outcome). take o.size o.output ++ written e o.intake o.buffers xs) q ∙ ap₂ (λ v u. v ++ u) (all_written r.written out l) a.writes;
}

-- ---- the stanzas before a fault

-- the numbers of a fault
abbrev Faulty : ℕ → Type 0
Faulty n = (closes n ≡ true) ⊎ ((n ≡ 13) ⊎ (n ≡ 14))

-- what stands at a fault is refused with this number in a call of its own
abbrev pub Refuses : End → Session → List ℕ → Buffers → List ℕ → ℕ → Type 0
Refuses e s w b x n = (outcome_of e (emptied s w) b (alone x)).number ≡ n

-- what a text came to, where the stanzas zs were taken before its fault
pub record Before (e : End) (s : Session) (w : List ℕ) (b : Buffers) (text : List ℕ) (zs : List (List ℕ)) (r : Taken) : Type 0 where
  pub session : Session
  pub awaited : List ℕ
  pub accepts : Accepts e (emptied s w) b (map alone zs) (emptied session awaited) r.buffers r.written
  pub intake : r.intake ≡ pick (closes r.number) (emptied (closed session) []) (emptied session awaited)
  pub number : Faulty r.number
  pub fault : List ℕ
  pub later : List ℕ
  pub place : joined zs (fault ++ later) ≡ text
  pub refused : Refuses e session awaited r.buffers fault r.number

module _ (e : End) (s : Session) (w : List ℕ) (b : Buffers) where
  -- bytes that are dropped
  pub drops_number : (n : ℕ) (x : List ℕ) → turn_at e s.phase ≡ drops n → eqb (length x) 0 ≡ false → Refuses e s w b x n
  drops_number n x h v =
      let by = ⊎_elim (λ (z : n ≡ 13). inr (((turn_says e s.phase).ended (h ∙ ap drops z)).1 ∙ sym z)) (λ (z : n ≡ 14). ⊎_elim (λ y. inl y) (λ y. inr (y ∙ sym z)) ((turn_says e s.phase).still (h ∙ ap drops z))) (turn_drops e s.phase n h) in
      ⊎_elim (λ (z : turn_of e s.phase ≡ 0). ap (λ (o : Outcome). o.number) (chunk_held e (emptied s w) b x ample (no_more n (emptied s w) b) z (all (cut start [] x).texts (cut start [] x).rest (cut_joined x start [])) (omega arith) (omega arith)))
      (λ (z : turn_of e s.phase ≡ n). named z (eqb n 0) refl) by
    where
      named : turn_of e s.phase ≡ n → (f : Bool) → eqb n 0 ≡ f → Refuses e s w b x n
      named z true f = ⊎_elim (λ (y : n ≡ 13). let k = eqb-true n 0 f in omega arith) (λ (y : n ≡ 14). let k = eqb-true n 0 f in omega arith) (turn_drops e s.phase n h)
      named z false f = ap (λ (o : Outcome). o.number) (chunk_refused e (emptied s w) b n x ample z f)

      all : (ts : List (List ℕ)) (r : Rest) → joined ts (bytes_of r) ≡ x → taken_all e s b w ts r ≡ no_more n (emptied s w) b
      all [] r k = unfold taken_all joined in (ap (λ u. taken_rest u s b w r) h ∙ ap (λ f. pick f (no_more 0 (emptied s w) b) (no_more n (emptied s w) b)) (ap (λ y. eqb (length y) 0) k ∙ v))
      all (t ∷ ts) r k = taken_dropped e s w b t ts r n h

  -- none was taken: the fault closes the session, or bytes are dropped
  before_none : (n : ℕ) (i : Intake) (x : List ℕ) → i ≡ pick (closes n) (emptied (closed s) []) (emptied s w) → Faulty n → Refuses e s w b x n → Before e s w b x [] (no_more n i b)
  unfolding joined
  before_none n i x q f k = record { session = s; awaited = w; accepts = accepts_none e (emptied s w) b; intake = q; number = f; fault = x; later = []; place = append-nil x; refused = k }

  before_closed : (n : ℕ) (x : List ℕ) → closes n ≡ true → Refuses e s w b x n → Before e s w b x [] (no_more n (emptied (closed s) []) b)
  before_closed n x h k = before_none n (emptied (closed s) []) x (sym (ap (λ d. pick d (emptied (closed s) []) (emptied s w)) h)) (inl h) k

  before_dropped : (n : ℕ) (x : List ℕ) → turn_at e s.phase ≡ drops n → eqb (length x) 0 ≡ false → Before e s w b x [] (no_more n (emptied s w) b)
  before_dropped n x h v =
      let k = drops_number n x h v in
      ⊎_elim (λ (z : n ≡ 13). before_none n (emptied s w) x (sym (ap (λ n. pick (closes n) (emptied (closed s) []) (emptied s w)) z)) (inr (inl z)) k)
      (λ (z : n ≡ 14). before_none n (emptied s w) x (sym (ap (λ n. pick (closes n) (emptied (closed s) []) (emptied s w)) z)) (inr (inr z)) k) (turn_drops e s.phase n h)

  -- what stands behind the stanzas
  before_rest : (r : Rest) → IsRest r → (u : Turn) → turn_at e s.phase ≡ u → ((taken_rest u s b w r).number ≡ 0 → ⊥) → Before e s w b (bytes_of r) [] (taken_rest u s b w r)
  before_rest (unfinished q f) k reads h g = absurd (g refl)
  before_rest (impossible n x) k reads h g =
      before_closed n x (⊎_elim (λ (z : n ≡ 1). ap closes z) (λ (z : n ≡ 3). ap closes z) k.1)
      (ap (λ (o : Outcome). o.number) (last_held e 0 s w b x (impossible n x) (no_more n (emptied (closed s) []) b) h k.0 refl refl (omega arith)))
  before_rest r k (drops n) h g = left (eqb (length (bytes_of r)) 0) refl g
    where
      left : (d : Bool) → eqb (length (bytes_of r)) 0 ≡ d → ((pick d (no_more 0 (emptied s w) b) (no_more n (emptied s w) b)).number ≡ 0 → ⊥) → Before e s w b (bytes_of r) [] (pick d (no_more 0 (emptied s w) b) (no_more n (emptied s w) b))
      left true v g = absurd (g refl)
      left false v g = before_dropped n (bytes_of r) h v
  before_rest r k keeps_back h g = absurd (g refl)

  module _ (t : List ℕ) (whole : IsWhole t) (turn : turn_at e s.phase ≡ reads) where
    -- one stanza more ahead
    before_more : (outcome s b (stanza_call e s.phase t)).number ≡ 0 → (x : List ℕ) (zs : List (List ℕ)) (r : Taken) →
        Before e (outcome s b (stanza_call e s.phase t)).session (awaited_behind e (outcome s b (stanza_call e s.phase t)).session.phase t) (outcome s b (stanza_call e s.phase t)).buffers x zs r →
        Before e s w b (t ++ x) (t ∷ zs) (one_more (last_in (outcome s b (stanza_call e s.phase t)).given) (written_by s b (stanza_call e s.phase t)) r)
    unfolding joined
    before_more h x zs r k = record {
      session = k.session;
      awaited = k.awaited;
      accepts =
          subst (λ v. Accepts e (emptied s w) b (alone t ∷ map alone zs) (emptied k.session k.awaited) r.buffers (v ++ r.written)) (append-nil (written_by s b (stanza_call e s.phase t)))
          (accepts_more e (emptied s w) b (alone t) (map alone zs) ample (one_alone e s w b t whole turn) (alone_accepted e s w b t whole turn h) (alone_fits e s w b t whole turn h) refl k.accepts);
      intake = k.intake;
      number = k.number;
      fault = k.fault;
      later = k.later;
      place = ap (λ y. t ++ y) k.place;
      refused = k.refused;
    }

    before_refused : ((outcome s b (stanza_call e s.phase t)).number ≡ 0 → ⊥) → (x : List ℕ) →
        Before e s w b (t ++ x) [] (no_more (outcome s b (stanza_call e s.phase t)).number (emptied (outcome s b (stanza_call e s.phase t)).session []) b)
    unfolding joined
    before_refused h x =
        let k = stepped s b t whole e turn in
        let n = (outcome s b (stanza_call e s.phase t)).number in
        record {
          session = s;
          awaited = w;
          accepts = accepts_none e (emptied s w) b;
          intake = ap (λ x. emptied x []) (k.closing h).session ∙ sym (ap (λ d. pick d (emptied (closed s) []) (emptied s w)) k.number);
          number = inl k.number;
          fault = t;
          later = x;
          place = refl;
          refused = ap (λ (o : Outcome). o.number) (alone_refused e s w b t whole turn h);
        }

-- a stanza has a byte
pub empty_apart : {t : List ℕ} → IsWhole t → t ≡ [] → ⊥
unfolding cut
empty_apart w z = let e = sym (ap (λ x. (cut start [] x).texts) z) ∙ ap (λ c. c.texts) w.alone in let y : ◌≡◌ {A = ℕ} 0 1 = cc in omega arith

pub some : (t x : List ℕ) → (t ≡ [] → ⊥) → eqb (length (t ++ x)) 0 ≡ false
some [] x h = absurd (h refl)
some (a ∷ t) x h = ne_eqb (length (a ∷ (t ++ x))) 0 (λ z. omega arith)

-- the stanzas of a call that is refused
pub before_all : (ts : List (List ℕ)) (e : End) (s : Session) (w : List ℕ) (b : Buffers) (r : Rest) → All IsWhole ts → IsRest r → ((taken_all e s b w ts r).number ≡ 0 → ⊥) →
    Before e s w b (joined ts (bytes_of r)) (take (taken_all e s b w ts r).count (parted e s b ts r).received) (taken_all e s b w ts r)
unfolding taken_all parted All joined
before_all [] e s w b r k l g =
    subst (λ zs. Before e s w b (bytes_of r) zs (taken_rest (turn_at e s.phase) s b w r)) (sym (take-nil (taken_rest (turn_at e s.phase) s b w r).count)) (before_rest e s w b r l (turn_at e s.phase) refl g)
before_all (t ∷ ts) e s w b r k l g =
    let o = outcome s b (stanza_call e s.phase t) in
    go (before_all ts e o.session (awaited_behind e o.session.phase t) o.buffers r k.1 l) (turn_at e s.phase) refl g
  where
    o : calls.Outcome
    o = outcome s b (stanza_call e s.phase t)

    bytes : List ℕ
    bytes = t ++ joined ts (bytes_of r)

    more : Taken
    more = taken_all e o.session o.buffers (awaited_behind e o.session.phase t) ts r

    rest : Parted
    rest = parted e o.session o.buffers ts r

    several : Bool → Taken
    several d = pick d (one_more (last_in o.given) (written_by s b (stanza_call e s.phase t)) more) (no_more o.number (emptied o.session []) b)

    parts : Bool → Parted
    parts d = received_more t (pick d rest (record { received = []; left = joined ts (bytes_of r) }))

    Behind : Type 0
    Behind = (more.number ≡ 0 → ⊥) → Before e o.session (awaited_behind e o.session.phase t) o.buffers (joined ts (bytes_of r)) (take more.count rest.received) more

    read : Behind → (d : Bool) → eqb o.number 0 ≡ d → turn_at e s.phase ≡ reads → ((several d).number ≡ 0 → ⊥) → Before e s w b bytes (take (several d).count (parts d).received) (several d)
    read f true d h g =
        let n : 1 + more.count ≡ suc more.count = omega arith in
        subst (λ n. Before e s w b bytes (take n (t ∷ rest.received)) (several true)) (sym n) (before_more e s w b t k.0 h (eqb-true o.number 0 d) (joined ts (bytes_of r)) (take more.count rest.received) more (f g))
    read f false d h g = before_refused e s w b t k.0 h (eqb-false o.number 0 d) (joined ts (bytes_of r))

    go : Behind → (u : Turn) → turn_at e s.phase ≡ u → ((taken_by u s b w bytes (several (eqb o.number 0))).number ≡ 0 → ⊥) →
        Before e s w b bytes (take (taken_by u s b w bytes (several (eqb o.number 0))).count (parted_by u bytes (parts (eqb o.number 0))).received) (taken_by u s b w bytes (several (eqb o.number 0)))
    go f reads h g = read f (eqb o.number 0) refl h g
    go f (drops n) h g = before_dropped e s w b n bytes h (some t (joined ts (bytes_of r)) (λ z. empty_apart k.0 z))
    go f keeps_back h g = absurd (g refl)

-- ---- the theorem

module _ (e : End) (i : Intake) (b : Buffers) where
  -- the calls xs for what stands before the fault
  prefix_of : (text : List ℕ) (o : Outcome) (out : List ℕ) (r : Taken) (xs : List Piece) (s : Session) (w : List ℕ) → o ≡ held out r → length r.written ≤ length out →
      Accepts e (emptied i.session i.awaited) b xs (emptied s w) r.buffers r.written → r.intake ≡ pick (closes r.number) (emptied (closed s) []) (emptied s w) → Faulty r.number →
      (fault later : List ℕ) → text_in xs ++ (fault ++ later) ≡ text → Refuses e s w r.buffers fault r.number → Prefix e i b text o xs
  prefix_of text o out r xs s w q l a k f fault later p v =
      let n = ap (λ (o : Outcome). o.number) q in
      let j = ap (λ (o : Outcome). o.intake) q ∙ k in
      record {
        number = subst Faulty (sym n) f;
        accepted = a.zero;
        session = ap (λ (i : Intake). i.session) j ∙ in_session (closes r.number) ∙ sym (ap₂ (λ n (z : State). pick (closes n) (closed z.intake.session) z.intake.session) n a.leads);
        tables = ap (λ (i : Intake). i.session.tables) j ∙ in_tables (closes r.number) ∙ sym (ap (λ (z : State). z.intake.session.tables) a.leads);
        awaited = ap (λ (i : Intake). i.awaited) j ∙ in_awaited (closes r.number) ∙ sym (ap₂ (λ n (z : State). pick (closes n) [] z.intake.awaited) n a.leads);
        buffers = ap (λ (o : Outcome). o.buffers) q ∙ sym (ap (λ (z : State). z.buffers) a.leads);
        output = ap (λ (o : Outcome). take o.size o.output) q ∙ all_written r.written out l ∙ sym a.writes;
        dropped = subst (λ i. i ≡ emptied i.session i.awaited) (sym j) (in_kept (closes r.number));
        fault = fault;
        later = later;
        place = p;
        refused = ap (λ (z : State). (outcome_of e z.intake z.buffers (alone fault)).number) a.leads ∙ v ∙ sym n;
      }
    where
      in_session : (d : Bool) → (pick d (emptied (closed s) []) (emptied s w)).session ≡ pick d (closed s) s
      in_session true = refl
      in_session false = refl

      in_tables : (d : Bool) → (pick d (emptied (closed s) []) (emptied s w)).session.tables ≡ s.tables
      in_tables true = refl
      in_tables false = refl

      in_awaited : (d : Bool) → (pick d (emptied (closed s) []) (emptied s w)).awaited ≡ pick d [] w
      in_awaited true = refl
      in_awaited false = refl

      in_kept : (d : Bool) → pick d (emptied (closed s) []) (emptied s w) ≡ emptied (pick d (emptied (closed s) []) (emptied s w)).session (pick d (emptied (closed s) []) (emptied s w)).awaited
      in_kept true = refl
      in_kept false = refl

  -- a chunk that is read, from an intake that can be reached: before its fault stand the stanzas that it took
  pub prefix_chunk : (bytes out : List ℕ) → Bounded e i → turn_of e i.session.phase ≡ 0 → ((chunked e i b bytes out).number ≡ 0 → ⊥) → ((chunked e i b bytes out).number ≡ 15 → ⊥) →
      Prefix e i b (i.kept ++ bytes) (chunked e i b bytes out) (map alone (take (chunked e i b bytes out).count (parted_chunk e i b bytes).received))
  prefix_chunk bytes out h t f g =
      let r = taken e i b bytes in
      let o = chunked_read e i b bytes out t in
      let d = judged_not_15 i b out r (λ z. g (ap (λ (o : Outcome). o.number) o ∙ z)) in
      let q = o ∙ d.0 in
      let parts = cut_parts bytes i.reading i.kept (h.front (turn_not_waiting e i.session.phase t)) in
      let k = before_all (cut i.reading i.kept bytes).texts e i.session i.awaited b (cut i.reading i.kept bytes).rest parts.texts parts.rest (λ z. f (ap (λ (o : Outcome). o.number) q ∙ z)) in
      subst (λ n. Prefix e i b (i.kept ++ bytes) (chunked e i b bytes out) (map alone (take n (parted_chunk e i b bytes).received))) (sym (ap (λ (o : Outcome). o.count) q))
      (prefix_of (i.kept ++ bytes) (chunked e i b bytes out) out r (map alone (take r.count (parted_chunk e i b bytes).received)) k.session k.awaited q d.1 k.accepts k.intake k.number
      k.fault k.later (text_alone (take r.count (parted_chunk e i b bytes).received) (k.fault ++ k.later) ∙ k.place ∙ cut_joined bytes i.reading i.kept) k.refused)

  -- a chunk that is refused for the phase: everything stays
  pub prefix_turn : (bytes out : List ℕ) (n : ℕ) → turn_of e i.session.phase ≡ n → (n ≡ 0 → ⊥) → chunked e i b bytes out ≡ untaken n i b out
  prefix_turn bytes out n t f = chunk_refused e i b n bytes out t (ne_eqb n 0 f)

-- a reply that is taken: before the fault stand the reply and the stanzas that were taken of what was kept back
pub prefix_reply : (i : Intake) (b : Buffers) (r : Response) (body out : List ℕ) (v : WordTwo) → i.session.phase ≡ Awaiting v → number_replied v r body ≡ 0 →
    ((replied i b r body out).number ≡ 0 → ⊥) → ((replied i b r body out).number ≡ 15 → ⊥) →
    Prefix client i b i.kept (replied i b r body out) (reply r body ample ∷ map alone (take (replied i b r body out).count (parted_back i b).received))
unfolding text_in
prefix_reply i b r body out v t h f g =
    let s = i.session in
    let text = stanza_text (response_line r) body in
    let m = taken_back i b in
    let d = reply_ahead text m in
    let o = reply_fit i b r body out v t h in
    let y = judged_not_15 i b out d (λ z. g (ap (λ (o : Outcome). o.number) o ∙ z)) in
    let q = o ∙ y.0 in
    let parts = cut_parts i.kept start [] none_front in
    let k = before_all (cut start [] i.kept).texts client (answered s) [] b (cut start [] i.kept).rest parts.texts parts.rest (λ z. f (ap (λ (o : Outcome). o.number) q ∙ z)) in
    let a = reply_ahead text (no_more 0 (emptied (answered s) []) b) in
    subst (λ n. Prefix client i b i.kept (replied i b r body out) (reply r body ample ∷ map alone (take n (parted_back i b).received))) (sym (ap (λ (o : Outcome). o.count) q))
    (prefix_of client i b i.kept (replied i b r body out) out d (reply r body ample ∷ map alone (take m.count (parted_back i b).received)) k.session k.awaited q y.1
    (subst (λ u. Accepts client (emptied s i.awaited) b (reply r body ample ∷ map alone (take m.count (parted_back i b).received)) (emptied k.session k.awaited) m.buffers (u ++ m.written)) (append-nil text)
    (accepts_more client (emptied s i.awaited) b (reply r body ample) (map alone (take m.count (parted_back i b).received)) ample a (reply_alone_lem s i.awaited b r body v t h) (room_fits (text ++ []) (reply_room v r body h)) refl k.accepts))
    k.intake k.number k.fault k.later (text_alone (take m.count (parted_back i b).received) (k.fault ++ k.later) ∙ k.place ∙ cut_joined i.kept start []) k.refused)

-- a reply that does not fit or cannot be written: everything stays
pub prefix_unfit : (i : Intake) (b : Buffers) (r : Response) (body out : List ℕ) (v : WordTwo) → i.session.phase ≡ Awaiting v → (number_replied v r body ≡ 0 → ⊥) →
    replied i b r body out ≡ untaken (number_replied v r body) i b out
prefix_unfit i b r body out v t f = reply_unfit i b r body out v t (number_replied v r body) refl (ne_eqb (number_replied v r body) 0 f)
