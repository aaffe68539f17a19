-- A command of phase two that was read: one that waits can be answered fail, only the word done makes done, and no fault has the number 0.
use Prim.Native.Nat.{ℕ}
use mathlib.Core.Path.{◌≡◌, refl, sym, ap, ◌∙◌, subst}
use mathlib.Core.Bool.{Bool, true, false, ◌&&◌, false≢true}
use mathlib.Core.Logic.{⊎_elim}
use mathlib.Core.List.{List}
use lib.Dec.{leb, eqb}
use lib.ListN.{length}
use native.Mathlib.Omega.{arith}
use Rattle.refusal.specs.Pick.{pick}
use Rattle.refusal.specs.Same.{same}
use Rattle.refusal.proofs.Laws.Same.{same_eq}
use Rattle.stanza.specs.Arguments.{count_of, argument_of}
use Rattle.stanza.specs.Index.{read_index, ReadIndex, number, refused}
use Rattle.stanza.proofs.Laws.Index.{read_index_lem}
use Rattle.responses.specs.Responses.{fitting}
use Rattle.responses.specs.declared.Response.TheVariants.{Fail}
use Rattle.session.specs.declared.words.WordTwo.{WordTwo}
use Rattle.session.specs.declared.words.WordTwo.TheVariants.{Msg, Confirm, RequestPublic, RequestSecret, RecipientStanza, FileKey, Error, Other, Done}
use Rattle.phase_one.specs.Commands.{recipient_stanza_text, done_word, is_bare}
use Rattle.session.specs.declared.opening.Machine.{Machine}
use Rattle.session.specs.declared.opening.Machine.TheVariants.{RecipientV1, IdentityV1}
use Rattle.conversation.specs.CommandsTwo.{Named, internal, identity, recipient, CommandTwo, ask, stanza, key, error, done, other, bad, are_labels, msg_word, confirm_word, request_public, request_secret, file_key_word, error_word, internal_word, identity_word, recipient_word, stanza_word, stanza_at, key_at, error_at, header_at, error_of, row_two, work_word, word_two, command_two, text_of_word}

-- d says whether the word is done
abbrev pub Proper : Bool → CommandTwo → Type 0
Proper d (ask w) = fitting w Fail ≡ true
Proper d (stanza f) = Unit
Proper d (key f) = Unit
Proper d (error n) = Unit
Proper d done = d ≡ true
Proper d other = Unit
Proper d (bad n) = n ≡ 0 → ⊥

four : ◌≡◌ {A = ℕ} 4 0 → ⊥
four e = omega arith

module _ (d : Bool) where
  either : (f : Bool) (c e : CommandTwo) → Proper d c → Proper d e → Proper d (pick f c e)
  either true c e p q = p
  either false c e p q = q

  -- an index that is none has the number 5
  by_index : (P : ReadIndex → Type 0) (t : List ℕ) → ((i : ℕ) → P (number i)) → P (refused 5) → P (read_index t)
  by_index P t f g = ⊎_elim (λ j. subst P (sym j.1) (f _)) (λ e. subst P (sym e) g) (read_index_lem t)

  five : ◌≡◌ {A = ℕ} 5 0 → ⊥
  five e = omega arith

  module _ (line : List ℕ) where
    header_proper : (q r : List ℕ) → Proper d (header_at (read_index q) (read_index r))
    header_proper q r = by_index (λ x. Proper d (header_at x (read_index r))) q (λ f. by_index (λ y. Proper d (header_at (number f) y)) r (λ i. tt) five) five

    error_proper : (name : ℕ → Named) (t : List ℕ) → Proper d (error_at name (read_index t))
    error_proper name t = by_index (λ x. Proper d (error_at name x)) t (λ i. tt) five

    error_of_lem : (m : Machine) → Proper d (error_of m line)
    error_of_lem RecipientV1 = either (same (argument_of line 1) recipient_word && eqb (count_of line) 3) _ (bad 4) (error_proper recipient (argument_of line 2)) four
    error_of_lem IdentityV1 = either (same (argument_of line 1) stanza_word && eqb (count_of line) 4) _ (bad 4) (header_proper (argument_of line 2) (argument_of line 3)) four

    row_proper : (w : WordTwo) (m : Machine) (n : ℕ) → (w ≡ Done → d ≡ true) → Proper d (row_two w m line n)
    row_proper Msg m n h = either (eqb (count_of line) 1) (ask Msg) (bad 4) refl four
    row_proper Confirm m n h = either (are_labels line) (ask Confirm) (bad 4) refl four
    row_proper RequestPublic m n h = either (eqb (count_of line) 1) (ask RequestPublic) (bad 4) refl four
    row_proper RequestSecret m n h = either (eqb (count_of line) 1) (ask RequestSecret) (bad 4) refl four
    row_proper RecipientStanza m n h = either (leb 3 (count_of line)) _ (bad 4) (by_index (λ x. Proper d (stanza_at x)) (argument_of line 1) (λ i. tt) five) four
    row_proper FileKey m n h = either (eqb (count_of line) 2 && eqb n 16) _ (bad 4) (by_index (λ x. Proper d (key_at x)) (argument_of line 1) (λ i. tt) five) four
    row_proper Error m n h =
        either (same (argument_of line 1) internal_word && eqb (count_of line) 2) (error internal) _ tt
        (either (same (argument_of line 1) identity_word && eqb (count_of line) 3) _ (error_of m line) (error_proper identity (argument_of line 2)) (error_of_lem m))
    row_proper Other m n h = tt
    row_proper Done m n h = either (is_bare line n 0) done (bad 4) (h refl) four

-- the word done alone names done
abbrev is_done_word : WordTwo → Bool
is_done_word Msg = false
is_done_word Confirm = false
is_done_word RequestPublic = false
is_done_word RequestSecret = false
is_done_word RecipientStanza = false
is_done_word FileKey = false
is_done_word Error = false
is_done_word Other = false
is_done_word Done = true

pass : (f : Bool) (v w : WordTwo) (d : Bool) → is_done_word v ≡ false → (w ≡ Done → d ≡ true) → pick f v w ≡ Done → d ≡ true
pass true v w d e h q = absurd (false≢true (sym e ∙ ap is_done_word q))
pass false v w d e h q = h q

last_done : (m : Machine) (w : List ℕ) → pick (same w done_word) Done (work_word m w) ≡ Done → same w done_word ≡ true
last_done m w = go (same w done_word)
  where
    work : (m : Machine) → work_word m w ≡ Done → ⊥
    work RecipientV1 e = go₂ (same w recipient_stanza_text) e
      where
        go₂ : (f : Bool) → pick f RecipientStanza Other ≡ Done → ⊥
        go₂ true e = false≢true (ap is_done_word e)
        go₂ false e = false≢true (ap is_done_word e)
    work IdentityV1 e = go₃ (same w file_key_word) e
      where
        go₃ : (f : Bool) → pick f FileKey Other ≡ Done → ⊥
        go₃ true e = false≢true (ap is_done_word e)
        go₃ false e = false≢true (ap is_done_word e)

    go : (f : Bool) → pick f Done (work_word m w) ≡ Done → f ≡ true
    go true e = refl
    go false e = absurd (work m e)

named_done : (m : Machine) (w : List ℕ) → word_two m w ≡ Done → same w done_word ≡ true
named_done m w =
    let d = same w done_word in
    pass (same w msg_word) Msg _ d refl (pass (same w confirm_word) Confirm _ d refl (pass (same w request_public) RequestPublic _ d refl
    (pass (same w request_secret) RequestSecret _ d refl (pass (same w error_word) Error _ d refl (last_done m w)))))

pub command_proper : (m : Machine) (line body : List ℕ) → Proper (same (argument_of line 0) done_word) (command_two m line body)
unfolding command_two
command_proper m line body = row_proper (same (argument_of line 0) done_word) line (word_two m (argument_of line 0)) m (length body) (named_done m (argument_of line 0))

-- ---- the text of a word that a text names for a machine is that text

pub word_text : (machine : Machine) (w : List ℕ) → (word_two machine w ≡ Other → ⊥) → text_of_word (word_two machine w) ≡ w
word_text machine w =
    one (same w msg_word) Msg _ msg_word refl refl
    (one (same w confirm_word) Confirm _ confirm_word refl refl
    (one (same w request_public) RequestPublic _ request_public refl refl
    (one (same w request_secret) RequestSecret _ request_secret refl refl
    (one (same w error_word) Error _ error_word refl refl (one (same w done_word) Done _ done_word refl refl (work machine))))))
  where
    one : (f : Bool) (v rest : WordTwo) (x : List ℕ) → same w x ≡ f → text_of_word v ≡ x → ((rest ≡ Other → ⊥) → text_of_word rest ≡ w) → (pick f v rest ≡ Other → ⊥) → text_of_word (pick f v rest) ≡ w
    one true v rest x e q h n = q ∙ sym (same_eq w x e)
    one false v rest x e q h n = h n

    work : (m : Machine) → (work_word m w ≡ Other → ⊥) → text_of_word (work_word m w) ≡ w
    work RecipientV1 = one (same w recipient_stanza_text) RecipientStanza Other recipient_stanza_text refl refl (λ n. absurd (n refl))
    work IdentityV1 = one (same w file_key_word) FileKey Other file_key_word refl refl (λ n. absurd (n refl))
