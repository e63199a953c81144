-- How the program ends.
use Rattle.std.specs.Prelude.{ℕ}
use Rattle.cbm_shell.specs.declared.fault.ShellFault.TheVariants as fault
use Rattle.disk_basics.specs.declared.what.What.{What}
use Rattle.disk_basics.specs.declared.what.What.TheVariants.{Foreign, Disk, Read, TooLong, Write, Exists, Changed, NoMemory, Several, Word, Ended}

-- THE EXIT STATUS: 2 where the image is none, 3 where this computer's files or its memory are at fault, 4 where of several images some aren't sound or are none, 64 where the command line is at fault; that of what was reported one by one; else 1.
abbrev pub exit_status : What → ℕ
exit_status (Foreign foreign size) = 2
exit_status (Disk (fault.Image number)) = 2
exit_status (Disk fault.Memory) = 3
exit_status (Read kind) = 3
exit_status (TooLong most) = 3
exit_status (Write kind) = 3
exit_status Exists = 3
exit_status Changed = 3
exit_status NoMemory = 3
exit_status Several = 4
exit_status (Word fault) = 64
exit_status (Ended status) = status
exit_status what = 1
