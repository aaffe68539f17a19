-- The calls' refusals: 16, 21 or 22 at reading, 17 at writing, then 15, each exactly where the paper says, and nothing is written then.
use Prim.Native.Nat.{ℕ}
use mathlib.Core.Path.{◌≡◌}
use mathlib.Core.Bool.{false}
use mathlib.Core.List.{List}
use lib.Dec.{eqb}
use native.Mathlib.Omega.{arith}
use borrow.Author.Tests.{eqb-true, eqb-false}
use Rattle.refusal.specs.Output.{WritingJudged}
use Rattle.refusal.proofs.Laws.Output.{judged, test_judged}
use Rattle.bech32.specs.Text.{Form, text_of, Parsed, parsed, malformed, bad_checksum, leftover_bits}
use Rattle.bech32.specs.Calls.{text_number, read_answer, read_buffer, payload_of, is_writable, write_answer, write_buffer}

-- reading: the text's own number, then 15
pub read_judged : (p : Parsed) (buffer : List ℕ) →
    WritingJudged (text_number p) (text_number p ≡ 0 → ⊥) (payload_of p) buffer (read_answer p buffer) (read_buffer p buffer)
read_judged p buffer =
    judged (text_number p) (payload_of p) buffer (other p) (text_number p ≡ 0 → ⊥) (eqb (text_number p) 0) (λ t b. b (eqb-true (text_number p) 0 t)) (λ f e. eqb-false (text_number p) 0 f e)
  where
    other : (p : Parsed) → text_number p ≡ 15 → ⊥
    other (parsed name payload) e = omega arith
    other (malformed place) e = omega arith
    other (bad_checksum name) e = omega arith
    other (leftover_bits name) e = omega arith

pub write_judged : (k : Form) (name payload buffer : List ℕ) →
    WritingJudged 17 (is_writable k name payload ≡ false) (text_of k name payload) buffer (write_answer k name payload buffer) (write_buffer k name payload buffer)
write_judged k name payload buffer = test_judged 17 (text_of k name payload) buffer (λ e. omega arith) (is_writable k name payload)
