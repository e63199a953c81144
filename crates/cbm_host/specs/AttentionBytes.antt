-- The bytes of an attention, and what follows it.
use Rattle.std.specs.Prelude.{ℕ, Option, Some, None}
use Rattle.cbm_host.specs.declared.commands.Commands.{Commands}
use Rattle.cbm_host.specs.declared.commands.Commands.TheVariants.{One, Two, Three}

-- the next byte of an attention
abbrev pub first_command : Commands → ℕ
first_command (One a) = a
first_command (Two a b) = a
first_command (Three a b c) = a

-- the bytes of an attention after the next one, or none
abbrev pub other_commands : Commands → Option Commands
other_commands (One a) = None
other_commands (Two a b) = Some (One b)
other_commands (Three a b c) = Some (Two b c)
