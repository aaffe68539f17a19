-- Each store is long enough: a line is at most 17 bytes longer than its arguments.
use Prim.Native.Nat.{ℕ, ◌+◌, ◌≤◌}
use mathlib.Core.Bool.{Bool, true, false}
use mathlib.Core.List.{List, ◌∷◌, ◌++◌}
use lib.Dec.{eqb}
use lib.ListN.{length, length-append}
use native.Mathlib.Omega.{arith}
use Rattle.refusal.specs.Pick.{pick}
use Rattle.stanza.specs.Arguments.{line_with}
use Rattle.phase_one.specs.Commands.{WordOne, add_recipient, add_identity, wrap_file_key, recipient_stanza, done_command, other_word, add_recipient_text, add_identity_text, wrap_file_key_text, recipient_stanza_text, done_word, word_said, line_sent}
use Rattle.client_sending.proofs.sending.send_due.Goals as goal

-- the longest word has 16 bytes, and a space stands behind it
with_short : (w t : List ℕ) → length w ≤ 16 → length (line_with w t) ≤ length t + 17
with_short w t h = go (eqb (length t) 0)
  where
    go : (f : Bool) → length (pick f w (w ++ 32 ∷ t)) ≤ length t + 17
    go true = omega arith
    go false = simp length-append (omega arith)

line_short : (w : WordOne) (t : List ℕ) → length (line_sent w t) ≤ length t + 17
line_short add_recipient t = with_short add_recipient_text t (omega arith)
line_short add_identity t = with_short add_identity_text t (omega arith)
line_short wrap_file_key t = with_short wrap_file_key_text t (omega arith)
line_short recipient_stanza t = with_short recipient_stanza_text t (omega arith)
line_short done_command t = with_short done_word t (omega arith)
line_short other_word t = omega arith

pub send_with-requires-asks-send_in-requires : goal.send_with-requires-asks-send_in-requires
send_with-requires-asks-send_in-requires c = let a = c.args in
    omega (arith, line_short (word_said a.word) a.arguments.now)

pub send_with-requires-2-asks-send_in-requires : goal.send_with-requires-2-asks-send_in-requires
send_with-requires-2-asks-send_in-requires c = let a = c.args in
    omega (arith, line_short (word_said a.word) a.arguments.now)
