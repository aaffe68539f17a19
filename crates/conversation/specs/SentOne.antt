-- Phase one as the client end sends it: lists of sendings, and which are allowed. Beside it the number of a sending by the number that receiving its text gives
-- (document 01, "Numbers given back": "At either end's sending .. the order is 13, 14, 17, 4, 5, 6, 7, 9, 10, 11, 19, 8, 15").
use Rattle.std.specs.Prelude.{ℕ, ◌≡◌, Bool, true, ◌&&◌, ◌||◌, List, [], ◌∷◌, map, eqb}
use Rattle.refusal.specs.Pick.{pick}
use Rattle.refusal.specs.Same.{same}
use Rattle.refusal.specs.Verdict.{first_of}
use Rattle.stanza.specs.Arguments.{argument_of}
use Rattle.stanza.specs.Grammar.{stanza_text}
use Rattle.stanza.specs.Writing.{is_writable}
use Rattle.phase_one.specs.Commands.{WordOne, line_sent, done_word}
use Rattle.phase_one.specs.PhaseOne as one
use Rattle.session.specs.declared.opening.Machine.{Machine}
use Rattle.conversation.specs.Calls.{Call, send}
use Rattle.conversation.specs.Phases.{All, Supply, skip}
use Rattle.conversation.specs.Allowed.{Allowed}

-- ---- one sending

-- the turn's number; then 17; then the number that receiving the text gives; then 15
abbrev pub sending_number : ℕ → Bool → ℕ → ℕ → ℕ
sending_number turn writable received short = first_of turn (pick writable (first_of received short) 17)

-- at the plugin end 19 before 8: it stands where receiving gives 8 or accepts
abbrev pub held_number : Bool → ℕ → ℕ
held_number held received = pick (held && (eqb received 0 || eqb received 8)) 19 received

-- ---- lists

-- a command with its arguments' text and its body
pub record SendingOne : Type 0 where
  pub word : WordOne
  pub arguments : List ℕ
  pub body : List ℕ

-- the arguments' text that is sent
abbrev pub line_of : SendingOne → List ℕ
line_of x = line_sent x.word x.arguments

-- the text of the stanza
abbrev pub text_of : SendingOne → List ℕ
text_of x = stanza_text (line_of x) x.body

-- its command is done
abbrev pub is_done_sent : SendingOne → Bool
is_done_sent x = same (argument_of (line_of x) 0) done_word

-- one call for each
unfoldable pub send_calls : Supply → List SendingOne → List Call
send_calls outs [] = []
send_calls outs (x ∷ xs) = send x.word x.arguments x.body (outs 0) ∷ send_calls (skip 1 outs) xs

-- each can be written, and the texts are those of an allowed phase one
pub record AllowedSendings (machine : Machine) (name : List ℕ) (b : one.BuffersOne) (xs : List SendingOne) : Type 0 where
  pub writable : All (λ x. is_writable (line_of x) x.body ≡ true) xs
  pub allowed : Allowed machine name b (map text_of xs)
