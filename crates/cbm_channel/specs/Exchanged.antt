-- A drive that was given another disk.
use Rattle.cbm_machine.specs.Machines.{Machine}
use Rattle.cbm_machine.specs.Told.{ToldStatus}

-- the machine, which reports what was reported before
abbrev pub still_telling : ToldStatus → Machine → Machine
still_telling t m = record m { status = t.status; told = t.told }
