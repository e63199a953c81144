-- How the program ends.
use Rattle.std.specs.Prelude.{ℕ, None, Result, Ok, Err}
use Rattle.cbm_program.specs.declared.fault.RunFault.{RunFault}
use Rattle.cbm_program.specs.declared.fault.RunFault.TheVariants.{Script as LineRefused, Image as ImageRefused, Memory, Reading, Writing}
use Rattle.drive1541.specs.declared.failure.RunFailure.{RunFailure}
use Rattle.drive1541.specs.declared.failure.RunFailure.TheVariants.{Script, Image, Foreign, File, TooLong, Changed, NoTrace, NoMemory}
use Rattle.drive1541.specs.declared.reason.Reason.TheVariants.{Unknown}
use Rattle.drive1541.specs.declared.failure.Stream.TheVariants.{Script as TheScript, Output}

-- the exit status of a program that ended so
abbrev pub failure_status : RunFailure → ℕ
failure_status (Script line reason) = 1
failure_status (Image number) = 2
failure_status (Foreign words) = 2
failure_status (File stream why) = 3
failure_status (TooLong stream) = 3
failure_status Changed = 3
failure_status NoTrace = 3
failure_status NoMemory = 3

-- the same where it may have ended well
abbrev pub run_exit_status : Result Unit RunFailure → ℕ
run_exit_status (Ok done) = 0
run_exit_status (Err failure) = failure_status failure

-- the exit status of a run that ended so: a line refused, the image refused, or something that the system refused
abbrev pub run_status : RunFault → ℕ
run_status (LineRefused line) = 1
run_status (ImageRefused number) = 2
run_status Memory = 3
run_status Reading = 3
run_status Writing = 3

-- what a run that ended so is told as: reading fails at the script, and writing at standard output
abbrev pub failure_of : RunFault → RunFailure
failure_of (LineRefused line) = Script line Unknown
failure_of (ImageRefused number) = Image number
failure_of Memory = NoMemory
failure_of Reading = File TheScript None
failure_of Writing = File Output None
