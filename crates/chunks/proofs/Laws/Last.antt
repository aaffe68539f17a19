-- The last stanza that a call hands back is the last that it took: each one more stands ahead of those behind it.
use Prim.Native.Nat.{ℕ, suc, ◌+◌}
use mathlib.Core.Path.{◌≡◌, refl, sym, ap, ◌∙◌}
use mathlib.Core.Bool.{Bool, true, false}
use mathlib.Core.List.{List, [], ◌∷◌, ◌++◌, map}
use lib.Dec.{eqb}
use lib.ListN.{length, take}
use native.Mathlib.Omega.{arith}
use borrow.Author.Tests.{eqb-true, ne_eqb}
use Rattle.refusal.specs.Pick.{pick}
use Rattle.stanza.specs.Automaton.{start}
use Rattle.responses.specs.declared.Response.{Response}
use Rattle.session.specs.Session.{Session, closed}
use Rattle.conversation.specs.Calls.{Outcome, outcome, written_by}
use Rattle.conversation.specs.Kinds.{Buffers}
use Rattle.conversation.specs.TurnsTwo.{answered}
use Rattle.conversation.proofs.Laws.Refusals.{either}
use Rattle.chunks.specs.Cutting.{Rest, unfinished, impossible, bytes_of, cut}
use Rattle.chunks.specs.Taking.{End, client, Turn, reads, drops, keeps_back, turn_at, stanza_call, awaited_behind, Intake, Last, no_stanza, last_in, Taken, no_more, emptied, keeping, one_more, joined, taken_rest, taken_by, taken_all}
use Rattle.chunks.specs.Chunks.{taken, chunked, taken_back, replied}
use Rattle.chunks.specs.Uncut.{Parted, received_more, parted_by, parted, alone, parted_chunk, parted_back}
use Rattle.chunks.specs.Calls.{calls_of, last_from}
use Rattle.chunks.proofs.Laws.Cases.{chunk_cases, reply_cases}

-- the calls of the stanzas that were taken, of those that were received
module _ (e : End) (s : Session) (b : Buffers) where
  abbrev last_by : Last → ℕ → List (List ℕ) → Last
  last_by l n ts = last_from l s b (calls_of e s b (map alone (take n ts)))

  -- the last is that of these calls; where none was taken there is none
  record IsLast (x : Taken) (p : Parted) : Type 0 where
    of_calls : (l : Last) → pick (eqb x.count 0) l x.last ≡ last_by l x.count p.received
    none : x.count ≡ 0 → x.last ≡ no_stanza

  none_last : (n : ℕ) (i : Intake) (d : Buffers) (p : Parted) → IsLast (no_more n i d) p
  unfolding last_from calls_of
  none_last n i d p = record { of_calls = λ l. refl; none = λ z. refl }

  rest_last : (u : Turn) (a : List ℕ) (r : Rest) (p : Parted) → IsLast (taken_rest u s b a r) p
  rest_last reads a (unfinished q front) p = none_last 0 (keeping s q front a) b p
  rest_last reads a (impossible n text) p = none_last n (emptied (closed s) []) b p
  rest_last (drops n) a r p = either (λ x. IsLast x p) (eqb (length (bytes_of r)) 0) (no_more 0 (emptied s a) b) (no_more n (emptied s a) b) (none_last 0 (emptied s a) b p) (none_last n (emptied s a) b p)
  rest_last keeps_back a r p = none_last 0 (keeping s start (bytes_of r) a) b p

  -- one stanza more
  more_last : (t w : List ℕ) (m : Taken) (p : Parted) → (let o = outcome s b (stanza_call e s.phase t) in
      ((l : Last) → pick (eqb m.count 0) l m.last ≡ last_from l o.session o.buffers (calls_of e o.session o.buffers (map alone (take m.count p.received)))) →
      IsLast (one_more (last_in o.given) w m) (received_more t p))
  unfolding last_from calls_of
  more_last t w m p k =
      let o = outcome s b (stanza_call e s.phase t) in
      let n : 1 + m.count ≡ suc m.count = omega arith in
      record {
        of_calls = λ l. ap (λ f. pick f l (pick (eqb m.count 0) (last_in o.given) m.last)) (ne_eqb (1 + m.count) 0 (λ z. omega arith)) ∙ k (last_in o.given) ∙ sym (ap (λ n. last_by l n (t ∷ p.received)) n);
        none = λ z. absurd (omega arith);
      }

all_last : (ts : List (List ℕ)) (e : End) (s : Session) (b : Buffers) (a : List ℕ) (r : Rest) → IsLast e s b (taken_all e s b a ts r) (parted e s b ts r)
unfolding taken_all parted
all_last [] e s b a r = rest_last e s b (turn_at e s.phase) a r (parted e s b [] r)
all_last (t ∷ ts) e s b a r =
    let o = outcome s b (stanza_call e s.phase t) in
    go (turn_at e s.phase) (eqb o.number 0) (all_last ts e o.session o.buffers (awaited_behind e o.session.phase t) r)
  where
    o : Outcome
    o = outcome s b (stanza_call e s.phase t)

    more : Taken
    more = taken_all e o.session o.buffers (awaited_behind e o.session.phase t) ts r

    parts : Parted
    parts = parted e o.session o.buffers ts r

    go : (u : Turn) (d : Bool) → IsLast e o.session o.buffers more parts →
        IsLast e s b (taken_by u s b a (t ++ joined ts (bytes_of r)) (pick d (one_more (last_in o.given) (written_by s b (stanza_call e s.phase t)) more) (no_more o.number (emptied o.session []) b)))
        (parted_by u (t ++ joined ts (bytes_of r)) (received_more t (pick d parts (record { received = []; left = joined ts (bytes_of r) }))))
    go reads true k = more_last e s b t (written_by s b (stanza_call e s.phase t)) more parts k.of_calls
    go reads false k = none_last e s b o.number (emptied o.session []) b _
    go (drops n) d k = none_last e s b n (emptied s a) b _
    go keeps_back d k = none_last e s b 0 _ b _

-- what a text came to
taken_last : (e : End) (s : Session) (b : Buffers) (x : Taken) (p : Parted) → IsLast e s b x p → x.last ≡ last_from no_stanza s b (calls_of e s b (map alone (take x.count p.received)))
taken_last e s b x p k = go (eqb x.count 0) refl ∙ k.of_calls no_stanza
  where
    go : (f : Bool) → eqb x.count 0 ≡ f → x.last ≡ pick f no_stanza x.last
    go true h = k.none (eqb-true x.count 0 h)
    go false h = refl

-- a chunk hands back the last of the stanzas that it took
pub chunk_last : (e : End) (i : Intake) (b : Buffers) (bytes out : List ℕ) → (let o = chunked e i b bytes out in
    o.last ≡ last_from no_stanza i.session b (calls_of e i.session b (map alone (take o.count (parted_chunk e i b bytes).received))))
unfolding last_from calls_of
chunk_last e i b bytes out =
    let c = cut i.reading i.kept bytes in
    chunk_cases (λ o. o.last ≡ last_from no_stanza i.session b (calls_of e i.session b (map alone (take o.count (parted_chunk e i b bytes).received)))) e i b bytes out
    (λ n h. taken_last e i.session b (taken e i b bytes) (parted_chunk e i b bytes) (all_last c.texts e i.session b i.awaited c.rest)) (λ n h. refl) (λ n q h. refl)

-- a reply the last of those that were kept back
pub reply_last : (i : Intake) (b : Buffers) (r : Response) (body out : List ℕ) → (let o = replied i b r body out in
    o.last ≡ last_from no_stanza (answered i.session) b (calls_of client (answered i.session) b (map alone (take o.count (parted_back i b).received))))
unfolding last_from calls_of
reply_last i b r body out =
    let c = cut start [] i.kept in
    reply_cases (λ o. o.last ≡ last_from no_stanza (answered i.session) b (calls_of client (answered i.session) b (map alone (take o.count (parted_back i b).received)))) i b r body out
    (λ w q n h. taken_last client (answered i.session) b (taken_back i b) (parted_back i b) (all_last c.texts client (answered i.session) b [] c.rest)) (λ w q n h. refl) (λ n h. refl)
