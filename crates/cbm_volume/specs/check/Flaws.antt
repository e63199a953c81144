-- The numbers of what can be wrong with a disk, in one table.
use Rattle.std.specs.Prelude.{ℕ}
use Rattle.cbm_volume.specs.declared.check.unsound.Flaw.{Flaw}
use Rattle.cbm_volume.specs.declared.check.unsound.Flaw.TheVariants.{MapCount, ClaimedButFree, SharedBlock, ChainOutside, BadHeader, DirectoryChain, SideSectors, UnknownType, Unreadable}

-- the number that `check` gives a flaw
abbrev pub flaw_number : Flaw → ℕ
flaw_number MapCount = 1
flaw_number ClaimedButFree = 2
flaw_number SharedBlock = 3
flaw_number ChainOutside = 4
flaw_number BadHeader = 5
flaw_number DirectoryChain = 6
flaw_number SideSectors = 7
flaw_number UnknownType = 8
flaw_number Unreadable = 9
