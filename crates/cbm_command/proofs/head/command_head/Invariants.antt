use Rattle.std.proofs.Common.{◌≡◌, length}
use Rattle.cbm_command.specs.Commands.{command_head}
use Rattle.cbm_command.proofs.head.command_head.Given as goal

abbrev pub invariant-loop-byte : goal.invariant-loop-byte
invariant-loop-byte l = command_head l.head ≡ command_head l.rest

abbrev pub decreases-loop-byte : goal.decreases-loop-byte
decreases-loop-byte l = length l.rest
