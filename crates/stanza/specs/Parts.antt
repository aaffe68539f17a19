-- The parts of a stanza that was read at the front of a text.
use Rattle.std.specs.Prelude.{ℕ, ◌+◌, List, take, drop}
use Rattle.strict_base64.specs.Lines.{body_of}
use Rattle.stanza.specs.declared.reading.Stanza.{Stanza}

-- the text of the arguments: behind "-> ", before the first LF
abbrev pub arguments_in : List ℕ → Stanza → List ℕ
arguments_in t s = drop 3 (take s.line t)

-- the lines of the body: behind the first LF, up to where the stanza ends
abbrev pub lines_in : List ℕ → Stanza → List ℕ
lines_in t s = drop (s.line + 1) (take s.taken t)

-- the body that they are
abbrev pub body_in : List ℕ → Stanza → List ℕ
body_in t s = body_of (lines_in t s)
