-- Commands by how many bytes a body has, and what a command that was read is not.
use Prim.Native.Nat.{ℕ}
use mathlib.Core.Path.{◌≡◌, refl}
use mathlib.Core.List.{List}
use lib.ListN.{length}
use Rattle.std.specs.Prelude.{Ok}
use Rattle.session.specs.declared.opening.Machine.{Machine}
use Rattle.conversation.specs.CommandsTwo.{command_two}
use Rattle.conversation.specs.PhaseTwo.{fault_of}
use Rattle.phase_two_commands.specs.Commands.{command_said, command_of}
use Rattle.phase_two_commands.specs.declared.commands.CommandTwo.{CommandTwo}
use Rattle.phase_two_commands.specs.declared.commands.CommandTwo.TheVariants as the_command

pub command_is : (machine : Machine) (line body : List ℕ) → command_of machine line (length body) ≡ command_two machine line body
unfolding command_two
command_is machine line body = refl

-- a command that was read is neither 4 nor 5
pub no_fault : (c : CommandTwo) → fault_of (command_said (Ok c)) ≡ 0
no_fault (the_command.Ask w) = refl
no_fault (the_command.Stanza f) = refl
no_fault (the_command.Key f) = refl
no_fault (the_command.Error n) = refl
no_fault the_command.Done = refl
no_fault the_command.Other = refl
