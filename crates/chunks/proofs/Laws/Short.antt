-- No. 15 is of a whole call: no stanza in it is refused so, and a call refused so takes nothing. Nor does one that is refused with 13 or 14 ahead of any stanza.
use Prim.Native.Nat.{ℕ}
use mathlib.Core.Path.{◌≡◌, refl, sym, ap, subst, ◌∙◌}
use mathlib.Core.Bool.{Bool, true, false, false≢true}
use mathlib.Core.Logic.{◌⊎◌, ⊎_elim, ◌↔◌}
use mathlib.Core.List.{List, [], ◌∷◌, ◌++◌}
use lib.Dec.{T, eqb, leb, ltb}
use lib.ListN.{length, take, drop}
use native.Mathlib.Omega.{arith}
use borrow.Author.Tests.{le-ltb, leb-true}
use Rattle.refusal.specs.Output.{overflows}
use Rattle.refusal.specs.Pick.{pick}
use Rattle.refusal.proofs.Laws.Booleans.{and_true}
use Rattle.stanza.specs.Automaton.{start, Scan, bad, short, whole, scan}
use Rattle.stanza.specs.Reading.{refused, read_first, found}
use Rattle.responses.specs.declared.Response.{Response}
use Rattle.session.specs.declared.words.WordTwo.{WordTwo}
use Rattle.session.specs.declared.phases.Phase.TheVariants.{Awaiting}
use Rattle.session.specs.Phases.{closes}
use Rattle.session.specs.Session.{Session}
use Rattle.conversation.specs.Calls.{outcome}
use Rattle.conversation.specs.Kinds.{Buffers}
use Rattle.conversation.specs.Phases.{All}
use Rattle.conversation.specs.Replying.{number_replied}
use Rattle.conversation.specs.TurnsTwo.{answered, due_in}
use Rattle.conversation.proofs.Laws.StepsTwo.{all_written}
use Rattle.chunks.specs.Cutting.{Rest, unfinished, impossible, bytes_of, cut}
use Rattle.chunks.specs.Taking.{End, client, Turn, reads, drops, keeps_back, turn_at, stanza_call, Intake, Taken, emptied, no_more, taken_rest, taken_all, no_stanza}
use Rattle.chunks.specs.Chunks.{RestStays, untaken, is_held, taken, turn_of, chunked, taken_back, replied_to, replied_by, replied}
use Rattle.chunks.proofs.Laws.Cases.{drops_not_reads, stanza_cases, held, is_turned, chunk_cases, is_untaken, answering, reply_cases}
use Rattle.chunks.proofs.Laws.Numbers.{Faulty, cut_faulty, stanza_number, all_number}

-- ---- no stanza by itself is refused with 15

abbrev NotShort : ℕ → Type 0
NotShort n = n ≡ 15 → ⊥

low_not_short : (n : ℕ) → T (closes n) → NotShort n
low_not_short n h e = subst (λ n. T (closes n)) e h

-- a text is read, or refused with 1, 2 or 3
found_number : (P : ℕ → Type 0) → P 1 → P 2 → P 3 → (n : ℕ) (w : List ℕ) (x : Scan) (m : ℕ) → found n w x ≡ refused m → P m
unfolding found
found_number P p q r n w bad m h = let z : 1 ≡ m = cc in subst P z p
found_number P p q r n w short m h = go (ltb n 8192) h
  where
    go : (f : Bool) → pick f (refused 2) (refused 3) ≡ refused m → P m
    go true h = let z : 2 ≡ m = cc in subst P z q
    go false h = let z : 3 ≡ m = cc in subst P z r
found_number P p q r n w (whole k) m h = let z : ◌≡◌ {A = ℕ} 0 1 = cc in absurd (omega arith)

pub read_number : (P : ℕ → Type 0) → P 1 → P 2 → P 3 → (t : List ℕ) (m : ℕ) → read_first t ≡ refused m → P m
read_number P p q r t = found_number P p q r (length t) (take 8192 t) (scan start 0 (take 8192 t))

read_not_short : (t : List ℕ) (m : ℕ) → read_first t ≡ refused m → NotShort m
read_not_short = read_number NotShort (λ e. omega arith) (λ e. omega arith) (λ e. omega arith)

every : {X : Type 0} {P : X → Type 0} → ((x : X) → P x) → (xs : List X) → All P xs
unfolding All
every f [] = tt
every f (x ∷ xs) = (f x, every f xs)

all_not_short : (e : End) (s : Session) (b : Buffers) (a : List ℕ) (ts : List (List ℕ)) (r : Rest) → Faulty r → (taken_all e s b a ts r).number ≡ 15 → ⊥
all_not_short e s b a ts r f = all_number NotShort low_not_short (λ e. omega arith) (λ e. omega arith) e s b a ts r (every read_not_short ts) f

-- what a chunk comes to before its lengths are looked at
pub taken_not_short : (e : End) (i : Intake) (b : Buffers) (bytes : List ℕ) → (taken e i b bytes).number ≡ 15 → ⊥
taken_not_short e i b bytes = all_not_short e i.session b i.awaited _ _ (cut_faulty i.reading i.kept bytes)

-- .. and what was kept back
pub back_not_short : (i : Intake) (b : Buffers) → (taken_back i b).number ≡ 15 → ⊥
back_not_short i b = all_not_short client (answered i.session) b [] _ _ (cut_faulty start [] i.kept)

-- ---- a call refused with 15

-- a chunk refused with 15 takes nothing: intake, buffers and output are as they were
pub chunk_short : (e : End) (i : Intake) (b : Buffers) (bytes out : List ℕ) → (chunked e i b bytes out).number ≡ 15 → chunked e i b bytes out ≡ untaken 15 i b out
chunk_short e i b bytes out =
    chunk_cases (λ o. o.number ≡ 15 → o ≡ untaken 15 i b out) e i b bytes out (λ t h z. absurd (taken_not_short e i b bytes z)) (λ t h z. refl) (λ n t h z. ap (λ n. untaken n i b out) z)

-- it is refused so exactly if it is its turn and what it comes to is too long
pub chunk_short_iff : (e : End) (i : Intake) (b : Buffers) (bytes out : List ℕ) →
    ((chunked e i b bytes out).number ≡ 15) ↔ ((turn_of e i.session.phase ≡ 0) × (is_held (taken e i b bytes) out ≡ false))
chunk_short_iff e i b bytes out =
    chunk_cases (λ o. (o.number ≡ 15) ↔ ((turn_of e i.session.phase ≡ 0) × (is_held (taken e i b bytes) out ≡ false))) e i b bytes out
    (λ t h. (λ z. absurd (taken_not_short e i b bytes z), λ z. absurd (false≢true (sym z.1 ∙ h)))) (λ t h. (λ z. (t, h), λ z. refl))
    (λ n t h. (λ z. absurd (subst (λ n. T (is_turned n)) z h), λ z. absurd (subst (λ n. T (is_turned n)) (sym t ∙ z.0) h)))

-- a reply refused with 15 takes nothing: the command waits on and what was kept back stays
pub reply_short : (i : Intake) (b : Buffers) (r : Response) (body out : List ℕ) → (replied i b r body out).number ≡ 15 → replied i b r body out ≡ untaken 15 i b out
reply_short i b r body out =
    reply_cases (λ o. o.number ≡ 15 → o ≡ untaken 15 i b out) i b r body out (λ w q t h z. absurd (back_not_short i b z)) (λ w q t h z. refl) (λ n h z. ap (λ n. untaken n i b out) z)

-- it is refused so exactly if it is due, fits and can be written, and what is written, or kept back again, is too long
pub reply_short_iff : (i : Intake) (b : Buffers) (r : Response) (body out : List ℕ) →
    ((replied i b r body out).number ≡ 15) ↔ ((w : WordTwo) × (i.session.phase ≡ Awaiting w) × (number_replied w r body ≡ 0) × (is_held (answering i b r body) out ≡ false))
reply_short_iff i b r body out = (
  reply_cases (λ o. o.number ≡ 15 → (w : WordTwo) × (i.session.phase ≡ Awaiting w) × (number_replied w r body ≡ 0) × (is_held (answering i b r body) out ≡ false)) i b r body out
      (λ w q t h z. absurd (back_not_short i b z)) (λ w q t h z. (w, q, t, h)) (λ n h z. absurd (subst (λ n. T (is_untaken n)) z h)),
  λ k. ap (λ p. (replied_by (due_in p) i b r body out).number) k.1 ∙ to k.0 k.2 k.3,
)
  where
    to : (w : WordTwo) → number_replied w r body ≡ 0 → is_held (answering i b r body) out ≡ false → (replied_to w i b r body out).number ≡ 15
    to w t h = unfold replied_to in rw t (rw h refl)

-- ---- the output buffer behind what is written

held_stays : (out : List ℕ) (x : Taken) → is_held x out ≡ true → RestStays (held out x) out
held_stays out x h =
    let l = leb-true (length x.written) (length out) (and_true (leb (length x.written) (length out)) (leb (length x.intake.kept) 8192) h).0 in
    ap (λ f. pick f out (x.written ++ drop (length x.written) out)) (le-ltb (length out) (length x.written) l) ∙ ap (λ w. w ++ drop (length x.written) out) (sym (all_written x.written out l))

-- a chunk, whatever its number
pub chunk_stays : (e : End) (i : Intake) (b : Buffers) (bytes out : List ℕ) → RestStays (chunked e i b bytes out) out
chunk_stays e i b bytes out = chunk_cases (λ o. RestStays o out) e i b bytes out (λ t h. held_stays out (taken e i b bytes) h) (λ t h. refl) (λ n t h. refl)

-- a reply
pub reply_stays : (i : Intake) (b : Buffers) (r : Response) (body out : List ℕ) → RestStays (replied i b r body out) out
reply_stays i b r body out = reply_cases (λ o. RestStays o out) i b r body out (λ w q t h. held_stays out (answering i b r body) h) (λ w q t h. refl) (λ n h. refl)

-- ---- a call refused with 13 or 14 ahead of any stanza

abbrev pub OutOfTurn : ℕ → Type 0
OutOfTurn n = (n ≡ 13) ⊎ (n ≡ 14)

abbrev InTurn : ℕ → Type 0
InTurn n = OutOfTurn n → ⊥

low_in_turn : (n : ℕ) → T (closes n) → InTurn n
low_in_turn n h o = ⊎_elim (λ e. subst (λ n. T (closes n)) e h) (λ e. subst (λ n. T (closes n)) e h) o

-- a stanza that is received is in turn
pub stanza_in_turn : (e : End) (s : Session) (b : Buffers) (t : List ℕ) → turn_at e s.phase ≡ reads → OutOfTurn (outcome s b (stanza_call e s.phase t)).number → ⊥
stanza_in_turn e s b t h = stanza_number InTurn low_in_turn s b t (read_number InTurn (low_in_turn 1 tt) (⊎_elim (λ e. omega arith) (λ e. omega arith)) (low_in_turn 3 tt) t) e h

zero_in_turn : OutOfTurn 0 → ⊥
zero_in_turn o = ⊎_elim (λ e. omega arith) (λ e. omega arith) o

module _ (s : Session) (b : Buffers) (a : List ℕ) where
  -- the bytes were dropped
  abbrev Dropped : Turn → Taken → Type 0
  Dropped t x = (n : ℕ) × (t ≡ drops n) × (x ≡ no_more n (emptied s a) b)

  rest_dropped : (t : Turn) (r : Rest) → Faulty r → OutOfTurn (taken_rest t s b a r).number → Dropped t (taken_rest t s b a r)
  rest_dropped reads (unfinished q front) f o = absurd (zero_in_turn o)
  rest_dropped reads (impossible n text) f o = absurd (⊎_elim (λ e. ⊎_elim (λ z. omega arith) (λ z. omega arith) o) (λ e. ⊎_elim (λ z. omega arith) (λ z. omega arith) o) f)
  rest_dropped (drops n) r f o = go (eqb (length (bytes_of r)) 0) o
    where
      go : (f : Bool) → OutOfTurn (pick f (no_more 0 (emptied s a) b) (no_more n (emptied s a) b)).number → Dropped (drops n) (pick f (no_more 0 (emptied s a) b) (no_more n (emptied s a) b))
      go true o = absurd (zero_in_turn o)
      go false o = (n, refl, refl)
  rest_dropped keeps_back r f o = absurd (zero_in_turn o)

-- where no stanza is taken and the number is none of a stanza that is received, bytes were dropped
all_dropped : (e : End) (s : Session) (b : Buffers) (a : List ℕ) (ts : List (List ℕ)) (r : Rest) → Faulty r → (taken_all e s b a ts r).count ≡ 0 → OutOfTurn (taken_all e s b a ts r).number → Dropped s b a (turn_at e s.phase) (taken_all e s b a ts r)
unfolding taken_all
all_dropped e s b a [] r f = λ c o. rest_dropped s b a (turn_at e s.phase) r f o
all_dropped e s b a (t ∷ ts) r f =
    stanza_cases (λ x. x.count ≡ 0 → OutOfTurn x.number → Dropped s b a (turn_at e s.phase) x) e s b a t ts r
    (λ q z c o. absurd (omega arith)) (λ q z c o. absurd (stanza_in_turn e s b t q o)) (λ n q c o. (n, q, refl)) (λ q c o. absurd (zero_in_turn o))

none_held : (n : ℕ) (i : Intake) (b : Buffers) (out : List ℕ) → held out (no_more n i b) ≡ untaken n i b out
none_held n i b out = go (overflows [] out)
  where
    go : (f : Bool) → record { number = n; count = 0; last = no_stanza; size = 0; intake = i; buffers = b; output = pick f out out } ≡ untaken n i b out
    go true = refl
    go false = refl

-- a chunk refused so leaves all as it was, where nothing is kept in the phases that drop what they are given
pub chunk_out_of_turn : (e : End) (i : Intake) (b : Buffers) (bytes out : List ℕ) → ((n : ℕ) → turn_at e i.session.phase ≡ drops n → i ≡ emptied i.session i.awaited) →
    (chunked e i b bytes out).count ≡ 0 → OutOfTurn (chunked e i b bytes out).number → chunked e i b bytes out ≡ untaken (chunked e i b bytes out).number i b out
chunk_out_of_turn e i b bytes out k =
    chunk_cases (λ o. o.count ≡ 0 → OutOfTurn o.number → o ≡ untaken o.number i b out) e i b bytes out
    (λ t h c o.
    let x = taken e i b bytes in
    let d = all_dropped e i.session b i.awaited (cut i.reading i.kept bytes).texts (cut i.reading i.kept bytes).rest (cut_faulty i.reading i.kept bytes) c o in
    let y : x ≡ no_more d.0 i b = d.2 ∙ ap (λ j. no_more d.0 j b) (sym (k d.0 d.1)) in
    ap (held out) y ∙ none_held d.0 i b out ∙ ap (λ n. untaken n i b out) (sym (ap (λ (x : Taken). x.number) y)))
    (λ t h c o. refl) (λ n t h c o. refl)

-- a reply likewise, whatever is kept
pub reply_out_of_turn : (i : Intake) (b : Buffers) (r : Response) (body out : List ℕ) → (replied i b r body out).count ≡ 0 → OutOfTurn (replied i b r body out).number →
    replied i b r body out ≡ untaken (replied i b r body out).number i b out
reply_out_of_turn i b r body out =
    reply_cases (λ o. o.count ≡ 0 → OutOfTurn o.number → o ≡ untaken o.number i b out) i b r body out
    (λ w q t h c o. let d = all_dropped client (answered i.session) b [] (cut start [] i.kept).texts (cut start [] i.kept).rest (cut_faulty start [] i.kept) c o in absurd (drops_not_reads d.0 (sym d.1)))
    (λ w q t h c o. refl) (λ n h c o. refl)
