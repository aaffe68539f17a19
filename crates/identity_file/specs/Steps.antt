-- What the private functions work out, and what they ask of what they are lent. Nobody has to believe this: `read` shows that it comes to what Files says.
use Rattle.std.specs.Prelude.{ℕ, ◌+◌, ◌-◌, ◌<◌, ◌≤◌, List, [], ◌∷◌, map, ltb, length, take, drop, get_or, set, replicate}
use Rattle.refusal.specs.Number.{number_of}
use Rattle.refusal.specs.Pick.{pick}
use Rattle.refusal.specs.Run.{run}
use Rattle.identity_file.specs.Lines.{is_line_byte}
use Rattle.identity_file.specs.Kinds.{Kind, skipped, secret_key, invalid, valid, kind_of}
use Rattle.identity_file.specs.declared.lines.LineKind.{LineKind}
use Rattle.identity_file.specs.declared.lines.LineKind.TheVariants as the
use Rattle.identity_file.specs.declared.survey.Tally.{Tally}

-- ---- a line

-- where the line from a on ends
abbrev pub line_end : List ℕ → ℕ → ℕ
line_end t a = a + run is_line_byte (drop a t)

-- where the next one begins, of a line that ends at e
abbrev pub next_line : List ℕ → ℕ → ℕ
next_line t e = pick (ltb e (length t)) (e + 1) (length t)

-- what the code's answer stands for
abbrev pub kind_said : LineKind → Kind
kind_said the.Skipped = skipped
kind_said the.SecretKey = secret_key
kind_said (the.Invalid r) = invalid (number_of r)
kind_said the.Valid = valid

-- ---- all lines

-- counts, where the valid lines stand, and the invalid ones
pub record Survey : Type 0 where
  pub keys : ℕ
  pub invalid : ℕ
  pub valid : ℕ
  pub places : List (List ℕ)
  pub faults : List (List ℕ)

-- what the code's tally stands for
abbrev pub survey_of : Tally → Survey
survey_of t = record { keys = t.keys; invalid = t.invalid; valid = t.valid; places = t.places; faults = t.faults }

-- nothing counted yet
abbrev pub started : List (List ℕ) → List (List ℕ) → Survey
started ps fs = record { keys = 0; invalid = 0; valid = 0; places = ps; faults = fs }

-- .. in slots of zeros
abbrev pub nothing : Survey
nothing = started (replicate 64 (0 ∷ 0 ∷ [])) (replicate 64 (0 ∷ 0 ∷ []))

-- one line more, of a kind, with a number, from a to e
abbrev pub noted : Kind → ℕ → ℕ → ℕ → Survey → Survey
noted skipped n a e s = s
noted secret_key n a e s = record { keys = s.keys + 1; invalid = s.invalid; valid = s.valid; places = s.places; faults = s.faults }
noted (invalid r) n a e s = record { keys = s.keys; invalid = s.invalid + 1; valid = s.valid; places = s.places; faults = set s.faults s.invalid (r ∷ n ∷ []) }
noted valid n a e s = record { keys = s.keys; invalid = s.invalid; valid = s.valid + 1; places = set s.places s.valid (a ∷ e ∷ []); faults = s.faults }

-- some lines more, the first with the number n and from a on
unfoldable pub surveyed : ℕ → ℕ → List (List ℕ) → Survey → Survey
surveyed n a [] s = s
surveyed n a (l ∷ ls) s = surveyed (n + 1) (a + length l + 1) ls (noted (kind_of l) n a (a + length l) s)

-- ---- the valid lines by where they stand

-- the text between a pair's two places
abbrev pub text_at : List ℕ → List ℕ → List ℕ
text_at t p = take (get_or p 1 0 - get_or p 0 0) (drop (get_or p 0 0) t)

-- the texts of some pairs
abbrev pub texts_at : List ℕ → List (List ℕ) → List (List ℕ)
texts_at t ps = map (text_at t) ps

-- a place in the text, of a line that is not too long
pub record Place (t p : List ℕ) : Type 0 where
  pub order : get_or p 0 0 ≤ get_or p 1 0
  pub inside : get_or p 1 0 ≤ length t
  pub short : get_or p 1 0 - get_or p 0 0 ≤ 1024

-- the first n of some pairs are such places
abbrev pub Places : List ℕ → List (List ℕ) → ℕ → Type 0
Places t ps n = (i : ℕ) → i < n → Place t (get_or ps i [])
