-- What stands behind the first space; and the text of a word that was read.
use Prim.Native.Nat.{ℕ, suc, ◌+◌}
use mathlib.Core.Path.{◌≡◌, refl, sym, ap, ◌∙◌}
use mathlib.Core.Bool.{Bool, true, false}
use native.Mathlib.Omega.{arith}
use Rattle.std.proofs.Common.{Some, None}
use Rattle.std.specs.List.{position, position_or_len}
use mathlib.Core.List.{List, [], ◌∷◌}
use lib.Dec.{eqb, ltb}
use lib.ListN.{length, drop, drop_of_length-le}
use borrow.Author.Tests.{ltb-false}
use Rattle.refusal.proofs.Laws.Booleans.{cases}
use Rattle.refusal.specs.Pick.{pick}
use Rattle.refusal.specs.Same.{same}
use Rattle.refusal.proofs.Laws.Same.{same_eq}
use Rattle.session.specs.declared.opening.Machine.{Machine}
use Rattle.session.specs.declared.opening.Machine.TheVariants.{RecipientV1, IdentityV1}
use Rattle.phase_one.specs.Commands.{after_space, add_recipient_text, add_identity_text, wrap_file_key_text, recipient_stanza_text, done_word, WordOne, add_recipient, add_identity, wrap_file_key, recipient_stanza, done_command, other_word, word_in, text_of_word}

-- by the position of the first space
abbrev pub is_space : ℕ → Bool
is_space b = eqb b 32

space_on : (p : ℕ) (b : ℕ) (t : List ℕ) → drop (1 + p + 1) (b ∷ t) ≡ drop (p + 1) t
space_on p b t = let e : 1 + p + 1 ≡ suc (p + 1) = omega arith in ap (λ n. drop n (b ∷ t)) e

space_at : (t : List ℕ) → after_space t ≡ drop (position_or_len is_space t + 1) t
unfolding after_space
space_at [] = refl
space_at (b ∷ t) =
    cases (eqb b 32)
    (λ e. rw e)
    (λ e. rw e (space_at t ∙ sym (space_on (position_or_len is_space t) b t)))

pub space_found : (t : List ℕ) (i : ℕ) → Some i ≡ position is_space t → drop (i + 1) t ≡ after_space t
space_found t i e =
    cases (ltb (position_or_len is_space t) (length t))
    (λ l. let q : Some i ≡ Some (position_or_len is_space t) = e ∙ rw l in
    let r : i ≡ position_or_len is_space t = cc in
    ap (λ n. drop (n + 1) t) r ∙ sym (space_at t))
    (λ l. let q : Some i ≡ None = e ∙ rw l in cc)

pub space_missing : (t : List ℕ) → None ≡ position is_space t → [] ≡ after_space t
space_missing t e =
    cases (ltb (position_or_len is_space t) (length t))
    (λ l. let q : None ≡ Some (position_or_len is_space t) = e ∙ rw l in cc)
    (λ l. let h = ltb-false (position_or_len is_space t) (length t) l in
    sym (space_at t ∙ drop_of_length-le t {i = position_or_len is_space t + 1} (omega (arith, h))))

-- the text of a word that a text names for a machine is that text
pub word_text : (machine : Machine) (w : List ℕ) → (word_in machine w ≡ other_word → ⊥) → text_of_word (word_in machine w) ≡ w
word_text machine w = by machine
  where
    one : (f : Bool) (v rest : WordOne) (x : List ℕ) → same w x ≡ f → text_of_word v ≡ x → ((rest ≡ other_word → ⊥) → text_of_word rest ≡ w) → (pick f v rest ≡ other_word → ⊥) → text_of_word (pick f v rest) ≡ w
    one true v rest x e q h n = q ∙ sym (same_eq w x e)
    one false v rest x e q h n = h n

    done : (pick (same w done_word) done_command other_word ≡ other_word → ⊥) → text_of_word (pick (same w done_word) done_command other_word) ≡ w
    done = one (same w done_word) done_command other_word done_word refl refl (λ n. absurd (n refl))

    by : (m : Machine) → (word_in m w ≡ other_word → ⊥) → text_of_word (word_in m w) ≡ w
    by RecipientV1 =
        one (same w add_recipient_text) add_recipient _ add_recipient_text refl refl
        (one (same w add_identity_text) add_identity _ add_identity_text refl refl (one (same w wrap_file_key_text) wrap_file_key _ wrap_file_key_text refl refl done))
    by IdentityV1 = one (same w add_identity_text) add_identity _ add_identity_text refl refl (one (same w recipient_stanza_text) recipient_stanza _ recipient_stanza_text refl refl done)
