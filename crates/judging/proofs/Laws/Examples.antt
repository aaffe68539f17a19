-- What the program writes for the example of document 004 and for the empty input (document 01, "The judging program"), and for a repeated recipient, by computation.
use Prim.Native.Nat.{ℕ}
use mathlib.Core.Path.{◌≡◌, refl}
use mathlib.Core.List.{List, [], ◌∷◌, ◌++◌}
use lib.ListN.{replicate}
use Rattle.strict_base64.specs.Alphabet.{is_character, value_of}
use Rattle.strict_base64.specs.Code.{decoded, ends_well}
use Rattle.strict_base64.specs.Lines.{unwrapped}
use Rattle.refusal.specs.Run.{run, is_graphic}
use Rattle.refusal.specs.Same.{same}
use Rattle.stanza.specs.Arguments.{before, words}
use Rattle.stanza.specs.Automaton.{next, verdict, scan}
use Rattle.stanza.specs.Grammar.{first_line}
use Rattle.stanza.specs.Reading.{found}
use Rattle.tables.specs.Repeats.{any_shows}
use Rattle.phase_one.specs.Commands.{add_recipient, add_identity, wrap_file_key, done_command, line_sent}
use Rattle.conversation.specs.Receiving.{received_stanza, received}
use Rattle.chunks.specs.Cutting.{cut_at, cut}
use Rattle.chunks.specs.Taking.{joined, taken_all}
use Rattle.chunks.specs.Chunks.{chunked}
use Rattle.judging.specs.Judging.{judged}

-- a command with no body
abbrev bare : List ℕ → List ℕ
bare line = first_line line ++ (10 ∷ [])

-- recipients foo and baz, identity bar, both keys 22 letters A
abbrev pub example : List ℕ
example =
    bare (line_sent add_recipient (102 ∷ 111 ∷ 111 ∷ []))
    ++ bare (line_sent add_identity (98 ∷ 97 ∷ 114 ∷ []))
    ++ (first_line (line_sent wrap_file_key []) ++ replicate 22 65 ++ (10 ∷ []))
    ++ bare (line_sent add_recipient (98 ∷ 97 ∷ 122 ∷ []))
    ++ (first_line (line_sent wrap_file_key []) ++ replicate 22 65 ++ (10 ∷ []))
    ++ bare (line_sent done_command [])

-- recipients 2, identities 1, file keys 2, header stanzas 0, answer 0
pub example_judged : judged example ≡ record { recipients = 2; identities = 1; keys = 2; headers = 0; answer = 0 }
unfolding chunked cut cut_at taken_all joined received received_stanza found scan next verdict run words before same is_graphic is_character value_of ends_well decoded unwrapped any_shows
example_judged = refl

-- recipient foo twice (document 02, No. 7): the first counts, answer 20
pub repeated_judged : judged (bare (line_sent add_recipient (102 ∷ 111 ∷ 111 ∷ [])) ++ bare (line_sent add_recipient (102 ∷ 111 ∷ 111 ∷ []))) ≡
    record { recipients = 1; identities = 0; keys = 0; headers = 0; answer = 20 }
unfolding chunked cut cut_at taken_all joined received received_stanza found scan next verdict run words before same is_graphic is_character value_of ends_well decoded unwrapped any_shows
repeated_judged = refl

-- "Empty input: four zeros and answer 2"
pub empty_judged : judged [] ≡ record { recipients = 0; identities = 0; keys = 0; headers = 0; answer = 2 }
unfolding chunked cut taken_all
empty_judged = refl
