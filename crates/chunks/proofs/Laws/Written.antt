-- What one end writes reads back however it is cut: a text of whole stanzas is cut into them, and the uncut list holds each in a chunk of its own.
use Prim.Native.Nat.{ℕ, ◌+◌}
use mathlib.Core.Path.{◌≡◌, refl, sym, ap, subst, ◌∙◌}
use mathlib.Core.Bool.{false}
use mathlib.Core.Logic.{◌⊎◌, inl, inr}
use mathlib.Core.List.{List, [], ◌∷◌, ◌++◌, append-nil}
use lib.ListN.{length}
use Rattle.refusal.specs.Pick.{pick}
use Rattle.stanza.specs.Automaton.{start}
use Rattle.stanza.specs.Reading.{read_first}
use Rattle.session.specs.Session.{Session}
use Rattle.conversation.specs.Kinds.{Buffers}
use Rattle.conversation.specs.Phases.{All, Whole}
use Rattle.conversation.specs.WrittenRead.{ReadsBack}
use Rattle.chunks.specs.Cutting.{unfinished, cut}
use Rattle.chunks.specs.Taking.{End, emptied, joined}
use Rattle.chunks.specs.Uncut.{Piece, chunk, reply, after, numbers, NoneHeldUp, is_waiting, uncut, text_in, stanzas_in, AreSingle}
use Rattle.chunks.proofs.Laws.Cutting.{cut_on, cut_append}
use Rattle.chunks.proofs.Laws.Cut.{uncut_theorem}
use Rattle.chunks.proofs.Laws.Reading.{cut_whole}

-- a text that reads back is a whole stanza
pub back_whole : (line body text : List ℕ) → ReadsBack line body text → Whole text
back_whole line body text h = record { line = length line + 3; body = length body; read = ap read_first (sym (append-nil text)) ∙ h.is_stanza [] }

-- behind a stanza the rest is cut in turn
stanza_ahead_lem : (t x : List ℕ) → cut start [] t ≡ record { texts = t ∷ []; rest = unfinished start [] } → (cut start [] (t ++ x)).texts ≡ t ∷ (cut start [] x).texts
stanza_ahead_lem t x h = ap (λ c. c.texts) (cut_append t x start [] ∙ ap (λ c. cut_on c x) h)

-- a text of whole stanzas is cut into them, and nothing is left
pub cut_wholes : (ts : List (List ℕ)) → All Whole ts → cut start [] (joined ts []) ≡ record { texts = ts; rest = unfinished start [] }
unfolding All joined cut
cut_wholes [] h = refl
cut_wholes (t ∷ ts) h = cut_append t (joined ts []) start [] ∙ ap (λ c. cut_on c (joined ts [])) (cut_whole t h.0) ∙ ap (λ c. record { texts = t ∷ c.texts; rest = c.rest }) (cut_wholes ts h.1)

-- the joined chunks, each a stanza, hold their stanzas
single_stanzas : (us : List Piece) → AreSingle us → (cut start [] (text_in us)).texts ≡ stanzas_in us
unfolding AreSingle text_in stanzas_in cut
single_stanzas [] h = refl
single_stanzas (chunk t out ∷ us) h = go (single_stanzas us h.1) h.0.1
  where
    go : (cut start [] (text_in us)).texts ≡ stanzas_in us → (cut start [] t ≡ record { texts = t ∷ []; rest = unfinished start [] }) ⊎ (((cut start [] t).texts ≡ []) × (us ≡ [])) →
        (cut start [] (t ++ text_in us)).texts ≡ (cut start [] t).texts ++ stanzas_in us
    go k (inl w) = stanza_ahead_lem t (text_in us) w ∙ ap (λ x. t ∷ x) k ∙ sym (ap (λ c. c.texts ++ stanzas_in us) w)
    go k (inr w) = subst (λ us. (cut start [] (t ++ text_in us)).texts ≡ (cut start [] t).texts ++ stanzas_in us) (sym w.1) (ap (λ x. (cut start [] x).texts) (append-nil t) ∙ sym (append-nil (cut start [] t).texts))
single_stanzas (reply r body out ∷ us) h = single_stanzas us h

-- chunks that hold what was written, of which nothing is kept back at the end, are received as what was written, stanza by stanza
pub chunks_written : (e : End) (s : Session) (b : Buffers) (cs : List Piece) (ts : List (List ℕ)) → All Whole ts → text_in cs ≡ joined ts [] → NoneHeldUp (numbers e (emptied s []) b cs) →
    is_waiting e (after e (emptied s []) b cs).intake.session.phase ≡ false → stanzas_in (uncut e (emptied s []) b [] cs) ≡ ts
chunks_written e s b cs ts w q h k =
    let us = uncut e (emptied s []) b [] cs in
    let u = uncut_theorem e s b cs h in
    let i = (after e (emptied s []) b cs).intake in
    let text : text_in us ≡ joined ts [] = sym (append-nil (text_in us)) ∙ sym (ap (λ f. text_in us ++ pick f i.kept []) k) ∙ u.same_text ∙ q in
    sym (single_stanzas us u.single) ∙ ap (λ x. (cut start [] x).texts) text ∙ ap (λ c. c.texts) (cut_wholes ts w)
