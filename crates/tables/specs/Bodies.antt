-- A body as a call is given it: its bytes, or the lines of base64 that a stanza has of it.
use Rattle.std.specs.Prelude.{ℕ, List, ◌∷◌, ◌++◌, Option, Some, None}
use Rattle.strict_base64.specs.Lines.{body_of}
use Rattle.tables.specs.declared.copying.Body.{Body}
use Rattle.tables.specs.declared.copying.Body.TheVariants as the

-- the body itself
abbrev pub body_from : Body → List ℕ
body_from (the.Bytes source) = source.now
body_from (the.Lines source) = body_of source.now

-- the bytes that are lent of it
abbrev pub source_of : Body → List ℕ
source_of (the.Bytes source) = source.now
source_of (the.Lines source) = source.now

-- a payload: a body, behind a line and an LF where there is a line
abbrev pub payload_from : Option (List ℕ) → Body → List ℕ
payload_from None body = body_from body
payload_from (Some line) body = line ++ 10 ∷ body_from body
