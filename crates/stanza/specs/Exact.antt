-- When each answer of reading is given, in terms of stanzas alone (document 01, "Stanza text": "the first byte that no stanza, of any length, can have there gives 1.
-- If 8,192 bytes pass and the stanza hasn't ended, 3. If the text ends sooner, 2"; "A whole stanza has at most 8,192 bytes").
use Rattle.std.specs.Prelude.{ℕ, suc, ◌<◌, ◌≤◌, List, ◌++◌, length, take}
use Rattle.stanza.specs.Grammar.{IsStanza}

-- some stanza begins with p and is longer
pub record Begins (p : List ℕ) : Type 0 where
  pub rest : List ℕ
  pub longer : 0 < length rest
  pub whole : IsStanza (p ++ rest)

-- No. 1: the byte at `at` is the first that no stanza can have there, and it is among the first 8,192
pub record FirstFault (t : List ℕ) : Type 0 where
  pub at : ℕ
  pub within : at < length t
  pub limit : at < 8192
  pub possible : Begins (take at t)
  pub impossible : (r : List ℕ) → IsStanza (take (suc at) t ++ r) → ⊥

-- a stanza of k bytes: the first k bytes are one, and no more than 8,192
pub record Taken (t : List ℕ) (k : ℕ) : Type 0 where
  pub within : k ≤ length t
  pub limit : k ≤ 8192
  pub whole : IsStanza (take k t)
