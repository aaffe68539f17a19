-- The responses of phase two (document 01, "Phase two": the table's column of fitting responses, and the sentences below it).
use Rattle.std.specs.Prelude.{ℕ, Bool, true, false, ◌&&◌, ◌||◌, List, [], ◌∷◌, eqb, length, Option, Some, None}
use Rattle.refusal.specs.Pick.{pick}
use Rattle.refusal.specs.Same.{same}
use Rattle.responses.specs.declared.Response.{Response}
use Rattle.responses.specs.declared.Response.TheVariants.{Ok, Yes, No, Fail, Unsupported}
use Rattle.session.specs.declared.words.WordTwo.{WordTwo}
use Rattle.session.specs.declared.words.WordTwo.TheVariants.{Msg, Confirm, RequestPublic, RequestSecret, RecipientStanza, FileKey, Error, Other, Done}

-- the number of a command's row
abbrev pub row_of : WordTwo → ℕ
row_of Msg = 0
row_of Confirm = 1
row_of RequestPublic = 2
row_of RequestSecret = 3
row_of RecipientStanza = 4
row_of FileKey = 5
row_of Error = 6
row_of Other = 7
row_of Done = 8

-- the number of a response's column
abbrev pub column_of : Response → ℕ
column_of Ok = 0
column_of Yes = 1
column_of No = 2
column_of Fail = 3
column_of Unsupported = 4

-- the column "Fitting responses"; done has none
abbrev pub fitting_of : WordTwo → List Response
fitting_of Msg = Ok ∷ Fail ∷ []
fitting_of Confirm = Yes ∷ No ∷ Fail ∷ []
fitting_of RequestPublic = Ok ∷ Fail ∷ []
fitting_of RequestSecret = Ok ∷ Fail ∷ []
fitting_of RecipientStanza = Ok ∷ []
fitting_of FileKey = Ok ∷ []
fitting_of Error = Ok ∷ []
fitting_of Other = Unsupported ∷ []
fitting_of Done = []

-- a response is one of a list
abbrev pub is_among : Response → List Response → Bool
is_among r [] = false
is_among r (q ∷ qs) = eqb (column_of r) (column_of q) || is_among r qs

-- it fits a command
abbrev pub fitting : WordTwo → Response → Bool
fitting w r = is_among r (fitting_of w)

-- a request
abbrev pub is_request : WordTwo → Bool
is_request Msg = false
is_request Confirm = false
is_request RequestPublic = true
is_request RequestSecret = true
is_request RecipientStanza = false
is_request FileKey = false
is_request Error = false
is_request Other = false
is_request Done = false

-- "Responses have no body except ok to a request"
abbrev pub may_have_body : WordTwo → Response → Bool
may_have_body w r = is_request w && eqb (column_of r) 0

-- a response with its body fits: No. 12 where it does not
abbrev pub fits_whole : WordTwo → Response → List ℕ → Bool
fits_whole w r body = fitting w r && (eqb (length body) 0 || may_have_body w r)

-- ---- words

-- "ok"
abbrev pub ok_word : List ℕ
ok_word = 111 ∷ 107 ∷ []

-- "ok yes"
abbrev pub yes_line : List ℕ
yes_line = 111 ∷ 107 ∷ 32 ∷ 121 ∷ 101 ∷ 115 ∷ []

-- "ok no"
abbrev pub no_line : List ℕ
no_line = 111 ∷ 107 ∷ 32 ∷ 110 ∷ 111 ∷ []

-- "fail"
abbrev pub fail_word : List ℕ
fail_word = 102 ∷ 97 ∷ 105 ∷ 108 ∷ []

-- "unsupported"
abbrev pub unsupported_word : List ℕ
unsupported_word = 117 ∷ 110 ∷ 115 ∷ 117 ∷ 112 ∷ 112 ∷ 111 ∷ 114 ∷ 116 ∷ 101 ∷ 100 ∷ []

-- the arguments' text of a response
abbrev pub response_line : Response → List ℕ
response_line Ok = ok_word
response_line Yes = yes_line
response_line No = no_line
response_line Fail = fail_word
response_line Unsupported = unsupported_word

-- a response, or none
pub data ResponseRead : Type 0 where
  response : Response → ResponseRead
  nothing : ResponseRead

-- what the code's reading stands for
abbrev pub reading_said : Option Response → ResponseRead
reading_said (Some r) = response r
reading_said None = nothing

-- which response an arguments' text is, all of it: the first word alone does not tell
abbrev pub response_of : List ℕ → ResponseRead
response_of line =
    pick (same line ok_word) (response Ok)
    (pick (same line yes_line) (response Yes) (pick (same line no_line) (response No) (pick (same line fail_word) (response Fail) (pick (same line unsupported_word) (response Unsupported) nothing))))
