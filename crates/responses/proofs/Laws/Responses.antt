-- The array's rule, and responses written and read.
use mathlib.Core.Path.{◌≡◌, refl, sym, ap, ap₂, ◌∙◌}
use mathlib.Core.Bool.{Bool, true, false, false≢true}
use mathlib.Core.List.{List, [], ◌∷◌, map}
use Prim.Native.Nat.{ℕ}
use lib.ListN.{get_or}
use Rattle.refusal.specs.Pick.{pick}
use Rattle.refusal.specs.Same.{same}
use Rattle.refusal.specs.Run.{all, is_graphic}
use Rattle.refusal.proofs.Laws.Same.{same_eq}
use Rattle.strict_base64.specs.Code.{encoded}
use Rattle.strict_base64.specs.Lines.{wrapped}
use Rattle.stanza.specs.Arguments.{is_argument, are_arguments, words as words_of, before}
use Rattle.stanza.specs.Writing.{is_writable}
use Rattle.responses.specs.declared.Response.{Response}
use Rattle.responses.specs.declared.Response.TheVariants.{Ok, Yes, No, Fail, Unsupported}
use Rattle.session.specs.declared.words.WordTwo.{WordTwo}
use Rattle.session.specs.declared.words.WordTwo.TheVariants.{Msg, Confirm, RequestPublic, RequestSecret, RecipientStanza, FileKey, Error, Other, Done}
use Rattle.responses.specs.Responses.{row_of, column_of, fitting, ok_word, yes_line, no_line, fail_word, unsupported_word, response_line, ResponseRead, response, nothing, response_of}

-- ---- the table

-- every command
abbrev words : List WordTwo
words = Msg ∷ Confirm ∷ RequestPublic ∷ RequestSecret ∷ RecipientStanza ∷ FileKey ∷ Error ∷ Other ∷ Done ∷ []

-- every response
abbrev responses : List Response
responses = Ok ∷ Yes ∷ No ∷ Fail ∷ Unsupported ∷ []

-- the paper's table, row by row
abbrev pub table : List (List Bool)
table = map (λ w. map (fitting w) responses) words

word_at : {X : Type 0} (f : WordTwo → X) (w : WordTwo) (d : X) → get_or (map f words) (row_of w) d ≡ f w
word_at f Msg d = refl
word_at f Confirm d = refl
word_at f RequestPublic d = refl
word_at f RequestSecret d = refl
word_at f RecipientStanza d = refl
word_at f FileKey d = refl
word_at f Error d = refl
word_at f Other d = refl
word_at f Done d = refl

response_at : {X : Type 0} (f : Response → X) (r : Response) (d : X) → get_or (map f responses) (column_of r) d ≡ f r
response_at f Ok d = refl
response_at f Yes d = refl
response_at f No d = refl
response_at f Fail d = refl
response_at f Unsupported d = refl

-- the array's rule, over all of it: the code's array is this table
pub table_at : (w : WordTwo) (r : Response) (i j : ℕ) → i ≡ row_of w → j ≡ column_of r → get_or (get_or table i []) j false ≡ fitting w r
table_at w r i j p q = ap₂ (λ i j. get_or (get_or table i []) j false) p q ∙ ap (λ l. get_or l (column_of r) false) (word_at (λ w. map (fitting w) responses) w []) ∙ response_at (fitting w) r false

-- ---- which response an arguments' text is

-- what is read would be written so again
pub line_read_lem : (l : List ℕ) (r : Response) → response_of l ≡ response r → l ≡ response_line r
line_read_lem l r e = one (same l ok_word) Ok _ ok_word refl refl
    (λ e. one (same l yes_line) Yes _ yes_line refl refl
    (λ e. one (same l no_line) No _ no_line refl refl
    (λ e. one (same l fail_word) Fail _ fail_word refl refl
    (λ e. one (same l unsupported_word) Unsupported nothing unsupported_word refl refl (λ e. absurd (none e)) e) e) e) e) e
  where
    is_response : ResponseRead → Bool
    is_response (response q) = true
    is_response nothing = false

    none : nothing ≡ response r → ⊥
    none e = false≢true (ap is_response e)

    the_one : ResponseRead → Response
    the_one (response q) = q
    the_one nothing = Ok

    one : (f : Bool) (q : Response) (rest : ResponseRead) (w : List ℕ) → same l w ≡ f → response_line q ≡ w → (rest ≡ response r → l ≡ response_line r) → pick f (response q) rest ≡ response r → l ≡ response_line r
    one true q rest w f g h e = same_eq l w f ∙ sym g ∙ ap (λ x. response_line (the_one x)) e
    one false q rest w f g h e = h e

-- what is written reads back
pub read_line : (r : Response) → response_of (response_line r) ≡ response r
unfolding same
read_line Ok = refl
read_line Yes = refl
read_line No = refl
read_line Fail = refl
read_line Unsupported = refl

-- every response can be written without a body
pub bodiless : (r : Response) → is_writable (response_line r) [] ≡ true
unfolding words_of before are_arguments is_argument all is_graphic wrapped encoded
bodiless Ok = refl
bodiless Yes = refl
bodiless No = refl
bodiless Fail = refl
bodiless Unsupported = refl
