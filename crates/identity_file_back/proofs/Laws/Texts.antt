-- A valid line has bytes from 33 to 126 only, as a name, the separator and the alphabet have: so its command is a whole stanza, and brings an identity to either machine.
use Prim.Native.Nat.{ℕ, ◌-◌, ◌<◌, ◌≤◌}
use mathlib.Core.Path.{◌≡◌, refl, sym, ap, subst, ◌∙◌}
use mathlib.Core.Bool.{true, false, ◌&&◌, false≢true}
use mathlib.Core.Logic.{◌⊎◌, inl, inr}
use mathlib.Core.List.{List, [], ◌∷◌, ◌++◌, map}
use lib.Dec.{ltb, leb}
use lib.ListN.{length, length-append}
use native.Mathlib.Omega.{arith}
use borrow.Author.Tests.{le-leb, leb-false, lt-leb, ltb-true, ne_eqb}
use Rattle.refusal.specs.Run.{all, is_graphic}
use Rattle.refusal.proofs.Laws.Below.{below}
use Rattle.refusal.proofs.Laws.Booleans.{T_true, and_true, true_and, cases}
use Rattle.refusal.proofs.Laws.Run.{all_append, all_wider}
use Rattle.strict_base64.specs.Code.{encoded}
use Rattle.strict_base64.specs.Lines.{wrapped}
use Rattle.stanza.specs.Arguments.{words, before, is_argument, are_arguments, is_line}
use Rattle.stanza.specs.Grammar.{stanza_text}
use Rattle.stanza.specs.Writing.{is_writable}
use Rattle.stanza.proofs.Laws.Arguments.{graphic_no_space}
use Rattle.symbols.specs.Charset.{character_of, is_lower, upper}
use Rattle.symbols.specs.Checksum.{are_symbols, polymod, expanded, checksum}
use Rattle.symbols.specs.Regroup.{symbols}
use Rattle.symbols.proofs.Laws.Charset.{lower_bounds}
use Rattle.symbols.proofs.Laws.Checksum.{six_lt}
use Rattle.symbols.proofs.Laws.Regroup.{symbols_small}
use Rattle.bech32.specs.Text as bech32
use Rattle.bech32.specs.Text.{is_name_byte, is_name, human_part, plain_text, Read}
use Rattle.bech32.proofs.Laws.Text.{identity_plain, number_iff}
use Rattle.identity_file.specs.Kinds.{valid, kind_of}
use Rattle.identity_file.specs.Files.{add_identity_text, done_word}
use Rattle.identity_file.proofs.Laws.Kinds.{judgement}

-- ---- the bytes of a valid line

upper_graphic : (b : ℕ) → is_graphic b ≡ true → is_graphic (upper b) ≡ true
unfolding upper is_graphic
upper_graphic b h =
    cases (is_lower b)
    (λ e. let l = lower_bounds b e in rw e (true_and (leb 33 (b - 32)) (leb (b - 32) 126) (le-leb 33 (b - 32) (omega (arith, l.0))) (le-leb (b - 32) 126 (omega (arith, l.1)))))
    (λ e. rw e h)

uppers_graphic : (t : List ℕ) → all is_graphic t ≡ true → all is_graphic (map upper t) ≡ true
unfolding all
uppers_graphic [] h = refl
uppers_graphic (b ∷ t) h = let a = and_true (is_graphic b) (all is_graphic t) h in true_and (is_graphic (upper b)) (all is_graphic (map upper t)) (upper_graphic b a.0) (uppers_graphic t a.1)

character_graphic : (v : ℕ) → v < 32 → is_graphic (character_of v) ≡ true
unfolding is_graphic
character_graphic v h = T_true _ (below (λ v. is_graphic (character_of v)) 32 tt v h)

characters_graphic : (vs : List ℕ) → are_symbols vs ≡ true → all is_graphic (map character_of vs) ≡ true
unfolding all
characters_graphic [] h = refl
characters_graphic (v ∷ vs) h =
    let a = and_true (ltb v 32) (are_symbols vs) h in
    true_and (is_graphic (character_of v)) (all is_graphic (map character_of vs)) (character_graphic v (ltb-true v 32 a.0)) (characters_graphic vs a.1)

-- the separator and behind it symbols
separated : (vs : List ℕ) → are_symbols vs ≡ true → all is_graphic (49 ∷ map character_of vs) ≡ true
unfolding all is_graphic
separated vs h = characters_graphic vs h

name_byte_graphic : (b : ℕ) → is_name_byte b ≡ true → is_graphic b ≡ true
unfolding is_name_byte is_graphic is_lower
name_byte_graphic b h =
    cases (leb 33 b && leb b 126) (λ e. e)
    (λ e.
    cases (leb 33 b)
    (λ l. cases (leb b 126) (λ m. absurd (false≢true (sym e ∙ true_and (leb 33 b) (leb b 126) l m)))
    (λ m. let k = leb-false b 126 m in absurd (false≢true (sym (outside b (inr k)) ∙ h))))
    (λ l. let k = leb-false 33 b l in absurd (false≢true (sym (outside b (inl k)) ∙ h))))
  where
    outside : (b : ℕ) → (b < 33) ⊎ (126 < b) → is_name_byte b ≡ false
    outside b (inl k) = rw (lt-leb 97 b (omega arith), lt-leb 48 b (omega arith), ne_eqb b 43 (omega arith), ne_eqb b 45 (omega arith), ne_eqb b 46 (omega arith), ne_eqb b 95 (omega arith))
    outside b (inr k) = rw (le-leb 97 b (omega arith), lt-leb b 122 (omega arith), le-leb 48 b (omega arith), lt-leb b 57 (omega arith), ne_eqb b 43 (omega arith), ne_eqb b 45 (omega arith), ne_eqb b 46 (omega arith), ne_eqb b 95 (omega arith))

human_graphic : (name : List ℕ) → is_name name ≡ true → all is_graphic (human_part bech32.identity name) ≡ true
unfolding is_name all is_graphic
human_graphic name h =
    let n = all_wider is_name_byte is_graphic name_byte_graphic name (and_true (leb 1 (length name) && leb (length name) 32) (all is_name_byte name) h).1 in
    all_append is_graphic name (45 ∷ []) ∙ true_and (all is_graphic name) (all is_graphic (45 ∷ [])) n refl

text_graphic : (t name payload : List ℕ) → Read bech32.identity t name payload → all is_graphic t ≡ true
text_graphic t name payload r =
    let h = human_part bech32.identity name in
    let v = symbols payload in
    let c = checksum (polymod 1 (expanded h ++ v)) in
    let a : are_symbols (v ++ c) ≡ true = all_append (λ d. ltb d 32) v c ∙ true_and (are_symbols v) (are_symbols c) (symbols_small payload r.are_read) (six_lt _) in
    let d : all is_graphic (49 ∷ map character_of (v ++ c)) ≡ true = separated (v ++ c) a in
    let p : all is_graphic (plain_text h v) ≡ true = all_append is_graphic h (49 ∷ map character_of (v ++ c)) ∙ true_and (all is_graphic h) (all is_graphic (49 ∷ map character_of (v ++ c))) (human_graphic name r.is_named) d in
    subst (λ t. all is_graphic t ≡ true) r.text (uppers_graphic (plain_text h v) p)

-- at least one, at most 1,024, from 33 to 126
pub record Argument (l : List ℕ) : Type 0 where
  pub short : length l ≤ 1024
  pub some : l ≡ [] → ⊥
  pub graphic : all is_graphic l ≡ true

pub valid_argument : (l : List ℕ) → kind_of l ≡ valid → Argument l
valid_argument l e =
    let j = (judgement l).valid_iff.0 e in
    let r = (number_iff bech32.identity identity_plain l).0 j.number in
    record { short = j.unskipped.short; some = j.unskipped.some; graphic = text_graphic l r.0 r.1 r.2 }

-- ---- its command

graphic_word : (l : List ℕ) → all is_graphic l ≡ true → words l ≡ l ∷ []
unfolding words before all
graphic_word [] h = refl
graphic_word (b ∷ l) h =
    let a = and_true (is_graphic b) (all is_graphic l) h in
    rw (graphic_no_space b a.0, graphic_word l a.1)

-- add-identity
abbrev pub word : List ℕ
word = 97 ∷ 100 ∷ 100 ∷ 45 ∷ 105 ∷ 100 ∷ 101 ∷ 110 ∷ 116 ∷ 105 ∷ 116 ∷ 121 ∷ []

pub command_words_lem : (l : List ℕ) → Argument l → words (add_identity_text ++ l) ≡ word ∷ l ∷ []
unfolding words before
command_words_lem l a = rw (graphic_word l a.graphic)

argument_is : (l : List ℕ) → Argument l → is_argument l ≡ true
unfolding is_argument
argument_is [] a = absurd (a.some refl)
argument_is (b ∷ l) a = a.graphic

pub command_writable : (l : List ℕ) → Argument l → is_writable (add_identity_text ++ l) [] ≡ true
unfolding are_arguments is_argument all is_graphic wrapped encoded
command_writable l a =
    true_and (is_line (add_identity_text ++ l)) (leb (length (stanza_text (add_identity_text ++ l) [])) 8192)
    (ap are_arguments (command_words_lem l a) ∙ true_and (is_argument l) true (argument_is l a) refl)
    (le-leb (length (stanza_text (add_identity_text ++ l) [])) 8192 (simp length-append (omega (arith, a.short))))

pub done_writable : is_writable done_word [] ≡ true
unfolding words before are_arguments is_argument all is_graphic wrapped encoded
done_writable = refl
