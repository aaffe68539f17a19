-- What a text, a chunk and a reply come to, case by case: the one place where their definitions are gone through.
use Prim.Native.Nat.{ℕ}
use mathlib.Core.Path.{◌≡◌, refl}
use mathlib.Core.Bool.{Bool, true, false, ◌||◌}
use mathlib.Core.List.{List, [], ◌∷◌, ◌++◌}
use lib.Dec.{T, eqb}
use lib.ListN.{length}
use native.Mathlib.Omega.{arith}
use borrow.Author.Tests.{eqb-true, eqb-false}
use Rattle.refusal.specs.Output.{filled}
use Rattle.refusal.specs.Pick.{pick}
use Rattle.stanza.specs.Automaton.{start}
use Rattle.stanza.specs.Grammar.{stanza_text}
use Rattle.stanza.specs.Writing.{is_writable}
use Rattle.responses.specs.Responses.{response_line, fits_whole}
use Rattle.responses.specs.declared.Response.{Response}
use Rattle.session.specs.declared.words.WordTwo.{WordTwo}
use Rattle.session.specs.declared.phases.Phase.{Phase}
use Rattle.session.specs.declared.phases.Phase.TheVariants.{One, Two, Awaiting, Ended, Closed}
use Rattle.session.specs.Session.{Session}
use Rattle.conversation.specs.Calls.{outcome, written_by}
use Rattle.conversation.specs.Kinds.{Buffers}
use Rattle.conversation.specs.Replying.{number_replied}
use Rattle.conversation.specs.TurnsTwo.{due_in}
use Rattle.chunks.specs.Cutting.{Rest, bytes_of}
use Rattle.chunks.specs.Taking.{End, client, plugin, Turn, reads, drops, keeps_back, turn_at, stanza_call, awaited_behind, Intake, Taken, no_more, emptied, keeping, one_more, joined, taken_by, taken_all, last_in}
use Rattle.chunks.specs.Chunks.{Outcome, untaken, is_held, judged, taken, turn_of, chunked, reply_ahead, taken_back, replied_to, replied_by, replied}

-- ---- turns are apart

pub drops_not_reads : (n : ℕ) → drops n ≡ reads → ⊥
drops_not_reads n e = let z : ◌≡◌ {A = ℕ} 0 1 = cc in omega arith

pub keeps_not_reads : keeps_back ≡ reads → ⊥
keeps_not_reads e = let z : ◌≡◌ {A = ℕ} 0 1 = cc in omega arith

pub keeps_not_drops : (n : ℕ) → keeps_back ≡ drops n → ⊥
keeps_not_drops n e = let z : ◌≡◌ {A = ℕ} 0 1 = cc in omega arith

-- ---- a stanza ahead of others: accepted, refused, dropped, or kept back
pub stanza_cases : (Q : Taken → Type 0) (e : End) (s : Session) (b : Buffers) (a t : List ℕ) (ts : List (List ℕ)) (r : Rest) →
    (let o = outcome s b (stanza_call e s.phase t) in
    turn_at e s.phase ≡ reads → o.number ≡ 0 → Q (one_more (last_in o.given) (written_by s b (stanza_call e s.phase t)) (taken_all e o.session o.buffers (awaited_behind e o.session.phase t) ts r))) →
    (let o = outcome s b (stanza_call e s.phase t) in turn_at e s.phase ≡ reads → (o.number ≡ 0 → ⊥) → Q (no_more o.number (emptied o.session []) b)) →
    ((n : ℕ) → turn_at e s.phase ≡ drops n → Q (no_more n (emptied s a) b)) →
    (turn_at e s.phase ≡ keeps_back → Q (no_more 0 (keeping s start (t ++ joined ts (bytes_of r)) a) b)) →
    Q (taken_all e s b a (t ∷ ts) r)
unfolding taken_all
stanza_cases Q e s b a t ts r accepts refuses drops-it keeps-it = go (turn_at e s.phase) refl
  where
    go : (u : Turn) → turn_at e s.phase ≡ u →
        (let o = outcome s b (stanza_call e s.phase t) in
        Q (taken_by u s b a (t ++ joined ts (bytes_of r)) (pick (eqb o.number 0)
        (one_more (last_in o.given) (written_by s b (stanza_call e s.phase t)) (taken_all e o.session o.buffers (awaited_behind e o.session.phase t) ts r))
        (no_more o.number (emptied o.session []) b))))
    go reads h =
        let o = outcome s b (stanza_call e s.phase t) in
        by (eqb o.number 0) _ _ (λ f. accepts h (eqb-true o.number 0 f)) (λ f. refuses h (eqb-false o.number 0 f))
      where
        by : (f : Bool) (x y : Taken) → (f ≡ true → Q x) → (f ≡ false → Q y) → Q (pick f x y)
        by true x y p q = p refl
        by false x y p q = q refl
    go (drops n) h = drops-it n h
    go keeps_back h = keeps-it h

-- ---- a call by its own number, and what it comes to where that is 0

-- what it hands back where that is held
abbrev pub held : List ℕ → Taken → Outcome
held out x = record { number = x.number; count = x.count; last = x.last; size = length x.written; intake = x.intake; buffers = x.buffers; output = filled x.written out }

abbrev pub called : ℕ → Intake → Buffers → List ℕ → Taken → Outcome
called n i b out x = pick (eqb n 0) (judged i b out x) (untaken n i b out)

pub called_cases : (Q : Outcome → Type 0) (n : ℕ) (i : Intake) (b : Buffers) (out : List ℕ) (x : Taken) →
    (n ≡ 0 → is_held x out ≡ true → Q (held out x)) → (n ≡ 0 → is_held x out ≡ false → Q (untaken 15 i b out)) → ((n ≡ 0 → ⊥) → Q (untaken n i b out)) → Q (called n i b out x)
called_cases Q n i b out x whole short turned = go (eqb n 0) refl (is_held x out) refl
  where
    go : (f : Bool) → eqb n 0 ≡ f → (g : Bool) → is_held x out ≡ g → Q (pick f (pick g (held out x) (untaken 15 i b out)) (untaken n i b out))
    go true f true g = whole (eqb-true n 0 f) g
    go true f false g = short (eqb-true n 0 f) g
    go false f g k = turned (eqb-false n 0 f)

-- ---- a chunk

-- the numbers by the phase alone
abbrev pub is_turned : ℕ → Bool
is_turned n = eqb n 13 || eqb n 14

turned : (e : End) (p : Phase) → (turn_of e p ≡ 0 → ⊥) → T (is_turned (turn_of e p))
turned client One h = tt
turned client Two h = absurd (h refl)
turned client (Awaiting w) h = tt
turned client Ended h = tt
turned client Closed h = tt
turned plugin One h = absurd (h refl)
turned plugin Two h = absurd (h refl)
turned plugin (Awaiting w) h = absurd (h refl)
turned plugin Ended h = tt
turned plugin Closed h = tt

pub chunk_cases : (Q : Outcome → Type 0) (e : End) (i : Intake) (b : Buffers) (bytes out : List ℕ) →
    (turn_of e i.session.phase ≡ 0 → is_held (taken e i b bytes) out ≡ true → Q (held out (taken e i b bytes))) →
    (turn_of e i.session.phase ≡ 0 → is_held (taken e i b bytes) out ≡ false → Q (untaken 15 i b out)) →
    ((n : ℕ) → turn_of e i.session.phase ≡ n → T (is_turned n) → Q (untaken n i b out)) → Q (chunked e i b bytes out)
unfolding chunked
chunk_cases Q e i b bytes out whole short late =
    called_cases Q (turn_of e i.session.phase) i b out (taken e i b bytes) whole short (λ h. late (turn_of e i.session.phase) refl (turned e i.session.phase h))

-- ---- a reply

-- the numbers of a reply that is not taken, but for 15
abbrev pub is_untaken : ℕ → Bool
is_untaken n = eqb n 12 || eqb n 13 || eqb n 14 || eqb n 17

unfit : (w : WordTwo) (r : Response) (body : List ℕ) → (number_replied w r body ≡ 0 → ⊥) → T (is_untaken (number_replied w r body))
unfit w r body = go (fits_whole w r body) (is_writable (response_line r) body)
  where
    go : (f g : Bool) → (◌≡◌ {A = ℕ} (pick f (pick g 0 17) 12) 0 → ⊥) → T (is_untaken (pick f (pick g 0 17) 12))
    go true true h = absurd (h refl)
    go true false h = tt
    go false g h = tt

-- the response and what is received behind it
abbrev pub answering : Intake → Buffers → Response → List ℕ → Taken
answering i b r body = reply_ahead (stanza_text (response_line r) body) (taken_back i b)

pub reply_cases : (Q : Outcome → Type 0) (i : Intake) (b : Buffers) (r : Response) (body out : List ℕ) →
    ((w : WordTwo) → i.session.phase ≡ Awaiting w → number_replied w r body ≡ 0 → is_held (answering i b r body) out ≡ true → Q (held out (answering i b r body))) →
    ((w : WordTwo) → i.session.phase ≡ Awaiting w → number_replied w r body ≡ 0 → is_held (answering i b r body) out ≡ false → Q (untaken 15 i b out)) →
    ((n : ℕ) → T (is_untaken n) → Q (untaken n i b out)) → Q (replied i b r body out)
reply_cases Q i b r body out whole short late = go i.session.phase refl
  where
    to : (w : WordTwo) → i.session.phase ≡ Awaiting w → Q (replied_to w i b r body out)
    to w h = unfold replied_to in called_cases Q (number_replied w r body) i b out (answering i b r body) (whole w h) (short w h) (λ z. late (number_replied w r body) (unfit w r body z))

    go : (p : Phase) → i.session.phase ≡ p → Q (replied_by (due_in p) i b r body out)
    go One h = late 14 tt
    go Two h = late 14 tt
    go (Awaiting w) h = to w h
    go Ended h = late 13 tt
    go Closed h = late 13 tt
