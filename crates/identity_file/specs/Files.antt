-- What an identity file comes to (document 02, No. 8): secret keys counted, invalid lines counted and the first 64 of them listed, and the valid ones written as
-- commands of phase one, ended by done; No. 8 over 64 valid lines, then No. 15.
use Rattle.std.specs.Prelude.{ℕ, zero, suc, ◌+◌, Bool, ◌||◌, List, [], ◌∷◌, ◌++◌, ltb, length}
use Rattle.refusal.specs.Output.{Answer, refused, overflows, answered, filled}
use Rattle.refusal.specs.Pick.{pick}
use Rattle.stanza.specs.Grammar.{stanza_text}
use Rattle.identity_file.specs.Lines.{lines}
use Rattle.identity_file.specs.Kinds.{Kind, skipped, secret_key, invalid, valid, kind_of}

-- ---- line by line, in file order

-- by a line's kind: one key more
abbrev pub key_by : Kind → ℕ → ℕ
key_by skipped n = n
key_by secret_key n = suc n
key_by (invalid r) n = n
key_by valid n = n

-- the secret keys among some lines
unfoldable pub keys_in : List (List ℕ) → ℕ
keys_in [] = 0
keys_in (l ∷ ls) = key_by (kind_of l) (keys_in ls)

-- by its kind: a valid line ahead of those behind it
abbrev pub valid_by : Kind → List ℕ → List (List ℕ) → List (List ℕ)
valid_by skipped l ls = ls
valid_by secret_key l ls = ls
valid_by (invalid r) l ls = ls
valid_by valid l ls = l ∷ ls

-- the valid ones
unfoldable pub valid_in : List (List ℕ) → List (List ℕ)
valid_in [] = []
valid_in (l ∷ ls) = valid_by (kind_of l) l (valid_in ls)

-- by its kind: an invalid line's two numbers ahead of those behind it
abbrev pub fault_by : Kind → ℕ → List (List ℕ) → List (List ℕ)
fault_by skipped n fs = fs
fault_by secret_key n fs = fs
fault_by (invalid r) n fs = (r ∷ n ∷ []) ∷ fs
fault_by valid n fs = fs

-- the invalid ones, "each with its number and its line, all lines counted"; the first of these lines has the number n
unfoldable pub faults_from : ℕ → List (List ℕ) → List (List ℕ)
faults_from n [] = []
faults_from n (l ∷ ls) = fault_by (kind_of l) n (faults_from (n + 1) ls)

-- ---- the commands

-- add-identity and a space
abbrev pub add_identity_text : List ℕ
add_identity_text = 97 ∷ 100 ∷ 100 ∷ 45 ∷ 105 ∷ 100 ∷ 101 ∷ 110 ∷ 116 ∷ 105 ∷ 116 ∷ 121 ∷ 32 ∷ []

-- done
abbrev pub done_word : List ℕ
done_word = 100 ∷ 111 ∷ 110 ∷ 101 ∷ []

-- the command of an identity
abbrev pub command_of : List ℕ → List ℕ
command_of l = stanza_text (add_identity_text ++ l) []

-- those of some identities, one behind the other
unfoldable pub commands_of : List (List ℕ) → List ℕ
commands_of [] = []
commands_of (l ∷ ls) = command_of l ++ commands_of ls

-- .. and done
abbrev pub transcript : List (List ℕ) → List ℕ
transcript ls = commands_of ls ++ stanza_text done_word []

-- ---- a file

-- what is written
abbrev pub transcript_of : List ℕ → List ℕ
transcript_of t = transcript (valid_in (lines t))

-- "refuse with 8 before writing anything if there are over 64"
abbrev pub is_over : List ℕ → Bool
is_over t = ltb 64 (length (valid_in (lines t)))

-- No. 8, then No. 15
abbrev pub is_refused : List ℕ → List ℕ → Bool
is_refused t buffer = is_over t || overflows (transcript_of t) buffer

-- the answer: how many bytes were written, or the number
abbrev pub file_answer : List ℕ → List ℕ → Answer
file_answer t buffer = pick (is_over t) (refused 8) (answered (transcript_of t) buffer)

-- the output buffer afterwards
abbrev pub file_buffer : List ℕ → List ℕ → List ℕ
file_buffer t buffer = pick (is_over t) buffer (filled (transcript_of t) buffer)

-- how many secret keys; none where the call is refused
abbrev pub keys_given : List ℕ → List ℕ → ℕ
keys_given t buffer = pick (is_refused t buffer) 0 (keys_in (lines t))

-- .. and how many invalid lines
abbrev pub faults_given : List ℕ → List ℕ → ℕ
faults_given t buffer = pick (is_refused t buffer) 0 (length (faults_from 0 (lines t)))

-- the first k of some pairs, and pairs of zeros behind fewer
unfoldable pub first_of : ℕ → List (List ℕ) → List (List ℕ)
first_of zero fs = []
first_of (suc k) [] = (0 ∷ 0 ∷ []) ∷ first_of k []
first_of (suc k) (f ∷ fs) = f ∷ first_of k fs

-- the list of the invalid lines; as it was where the call is refused
abbrev pub faults_listed : List ℕ → List ℕ → List (List ℕ) → List (List ℕ)
faults_listed t buffer old = pick (is_refused t buffer) old (first_of 64 (faults_from 0 (lines t)))
