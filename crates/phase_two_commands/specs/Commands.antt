-- What the code's commands of phase two stand for.
use Rattle.std.specs.Prelude.{ℕ, List, Result, Ok, Err}
use Rattle.refusal.specs.Number.{number_of}
use Rattle.refusal.specs.Pick.{pick}
use Rattle.refusal.specs.Same.{same}
use Rattle.refusal.specs.declared.Refusal.{Refusal}
use Rattle.bech32.specs.declared.TextKind.{TextKind}
use Rattle.bech32.specs.declared.TextKind.TheVariants as the_kind
use Rattle.stanza.specs.Arguments.{argument_of}
use Rattle.session.specs.declared.words.WordTwo.{WordTwo}
use Rattle.session.specs.declared.words.WordTwo.TheVariants as the_word
use Rattle.phase_one.specs.Commands.{done_word}
use Rattle.session.specs.declared.opening.Machine.{Machine}
use Rattle.conversation.specs.CommandsTwo as two
use Rattle.conversation.specs.CommandsTwo.{row_two, word_two, work_word, error_word}
use Rattle.phase_two_commands.specs.declared.commands.Named.{Named}
use Rattle.phase_two_commands.specs.declared.commands.Named.TheVariants as the_named
use Rattle.phase_two_commands.specs.declared.commands.CommandTwo.{CommandTwo}
use Rattle.phase_two_commands.specs.declared.commands.CommandTwo.TheVariants as the_command

-- what an error names
abbrev pub named_said : Named → two.Named
named_said the_named.Internal = two.internal
named_said (the_named.Identity i) = two.identity i
named_said (the_named.Recipient i) = two.recipient i
named_said (the_named.Header f i) = two.header f i

-- a command
abbrev pub command_said : Result CommandTwo Refusal → two.CommandTwo
command_said (Ok (the_command.Ask w)) = two.ask w
command_said (Ok (the_command.Stanza f)) = two.stanza f
command_said (Ok (the_command.Key f)) = two.key f
command_said (Ok (the_command.Error n)) = two.error (named_said n)
command_said (Ok the_command.Done) = two.done
command_said (Ok the_command.Other) = two.other
command_said (Err r) = two.bad (number_of r)

-- the command of a stanza, by its arguments' text and how many bytes its body has
abbrev pub command_of : Machine → List ℕ → ℕ → two.CommandTwo
command_of machine line body = row_two (word_two machine (argument_of line 0)) machine line body

-- which row a word names that is neither a message nor a question: the last rows of word_two
abbrev pub late_word : Machine → List ℕ → WordTwo
late_word machine w = pick (same w error_word) the_word.Error (pick (same w done_word) the_word.Done (work_word machine w))

-- an identity or a recipient, as an error names it
abbrev pub name_of : TextKind → ℕ → two.Named
name_of the_kind.Recipient = two.recipient
name_of the_kind.Identity = two.identity
