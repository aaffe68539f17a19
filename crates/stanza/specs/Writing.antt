-- Writing a stanza: 17 for arguments that are none or a text of more than 8,192 bytes, then 15 (document 01, "Numbers given back": outside a
-- session, 17 and then 15).
use Rattle.std.specs.Prelude.{ℕ, Bool, ◌&&◌, List, leb, length}
use Rattle.refusal.specs.Output.{Answer, bytes, refused, answered, filled}
use Rattle.refusal.specs.Pick.{pick}
use Rattle.stanza.specs.Arguments.{is_line}
use Rattle.stanza.specs.Grammar.{stanza_text}

-- arguments and body that make a stanza of at most 8,192 bytes
abbrev pub is_writable : List ℕ → List ℕ → Bool
is_writable line body = is_line line && leb (length (stanza_text line body)) 8192

-- how many bytes the text has, where it can be written at all
abbrev pub sized : List ℕ → List ℕ → Answer
sized line body = pick (is_writable line body) (bytes (length (stanza_text line body))) (refused 17)

-- the answer, and the buffer afterwards
abbrev pub written : List ℕ → List ℕ → List ℕ → Answer
written line body buffer = pick (is_writable line body) (answered (stanza_text line body) buffer) (refused 17)

abbrev pub buffer_after : List ℕ → List ℕ → List ℕ → List ℕ
buffer_after line body buffer = pick (is_writable line body) (filled (stanza_text line body) buffer) buffer
