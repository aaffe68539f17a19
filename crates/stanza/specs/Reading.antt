-- Reading the first stanza of a text (document 01, "Stanza text"): "the first byte that no stanza, of any length, can have there gives 1. If 8,192
-- bytes pass and the stanza hasn't ended, 3. If the text ends sooner, 2."
use Rattle.std.specs.Prelude.{ℕ, ◌+◌, Bool, not, List, ltb, eqb, length, take, drop, Result, Ok, Err}
use Rattle.refusal.specs.Number.{number_of}
use Rattle.refusal.specs.Pick.{pick}
use Rattle.refusal.specs.Run.{run}
use Rattle.strict_base64.specs.Lines.{body_of}
use Rattle.stanza.specs.Automaton.{Scan, bad, short, whole, scan, start}
use Rattle.refusal.specs.declared.Refusal.{Refusal}
use Rattle.stanza.specs.declared.reading.Stanza.{Stanza}

-- what reading gives: where the first line's LF stands, how many bytes the body has and how many were taken; or the paper's number
pub data Reading : Type 0 where
  stanza : ℕ → ℕ → ℕ → Reading
  refused : ℕ → Reading

-- what the code's answer stands for
abbrev pub read_said : Result Stanza Refusal → Reading
read_said (Ok s) = stanza s.line s.body s.taken
read_said (Err r) = refused (number_of r)

-- no LF
abbrev pub is_not_lf : ℕ → Bool
is_not_lf b = not (eqb b 10)

-- where the first LF stands
abbrev pub line_end : List ℕ → ℕ
line_end t = run is_not_lf t

-- the text of the arguments, between "-> " and the first LF, and the lines behind it
abbrev pub line_of : List ℕ → List ℕ
line_of t = drop 3 (take (line_end t) t)

abbrev pub lines_in : List ℕ → List ℕ
lines_in t = drop (line_end t + 1) t

-- what a scan of the first 8,192 bytes w says, where the whole text has n
unfoldable pub found : ℕ → List ℕ → Scan → Reading
found n w bad = refused 1
found n w short = pick (ltb n 8192) (refused 2) (refused 3)
found n w (whole k) = stanza (line_end w) (length (body_of (lines_in (take k w)))) k

-- the first stanza of a text
abbrev pub read_first : List ℕ → Reading
read_first t = found (length t) (take 8192 t) (scan start 0 (take 8192 t))
