-- A short line fits the short store: no word has more than 16 bytes.
use Prim.Native.Nat.{ℕ, ◌+◌, ◌≤◌}
use mathlib.Core.Bool.{Bool, true, false}
use mathlib.Core.List.{List, ◌∷◌, ◌++◌}
use lib.Dec.{eqb}
use lib.ListN.{length, length-append}
use native.Mathlib.Omega.{arith}
use Rattle.refusal.specs.Pick.{pick}
use Rattle.stanza.specs.Arguments.{line_with}
use Rattle.phase_one.specs.Commands.{recipient_stanza_text, done_word}
use Rattle.conversation.specs.CommandsTwo.{msg_word, confirm_word, request_public, request_secret, file_key_word, error_word, line_sent}
use Rattle.session.specs.declared.words.WordTwo.{WordTwo}
use Rattle.session.specs.declared.words.WordTwo.TheVariants.{Msg, Confirm, RequestPublic, RequestSecret, RecipientStanza, FileKey, Error, Other, Done}
use Rattle.plugin_sending.proofs.sending.send_due.Goals as goal

with_word : (w a : List ℕ) → length w ≤ 16 → length (line_with w a) ≤ 17 + length a
with_word w a h = go (eqb (length a) 0)
  where
    go : (f : Bool) → length (pick f w (w ++ 32 ∷ a)) ≤ 17 + length a
    go true = omega arith
    go false = simp length-append (omega arith)

line_short : (w : WordTwo) (a : List ℕ) → length (line_sent w a) ≤ 17 + length a
line_short Msg a = with_word msg_word a (omega arith)
line_short Confirm a = with_word confirm_word a (omega arith)
line_short RequestPublic a = with_word request_public a (omega arith)
line_short RequestSecret a = with_word request_secret a (omega arith)
line_short RecipientStanza a = with_word recipient_stanza_text a (omega arith)
line_short FileKey a = with_word file_key_word a (omega arith)
line_short Error a = with_word error_word a (omega arith)
line_short Done a = with_word done_word a (omega arith)
line_short Other a = omega arith

pub send_with-requires-asks-send_in-requires : goal.send_with-requires-asks-send_in-requires
send_with-requires-asks-send_in-requires c = let a = c.args in omega (arith, line_short a.word a.arguments.now)

pub send_with-requires-2-asks-send_in-requires : goal.send_with-requires-2-asks-send_in-requires
send_with-requires-2-asks-send_in-requires c = let a = c.args in omega (arith, line_short a.word a.arguments.now)
