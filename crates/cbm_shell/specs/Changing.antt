-- Changes of a disk, as the drive makes them.
use Rattle.std.specs.Prelude.{ℕ, ◌≡◌, ◌≤◌, ◌<◌, ◌⊎◌, Bool, false, Result, MatchResult}
use Rattle.cbm_medium.specs.Content.{Content}
use Rattle.cbm_medium.specs.Seen.{Seen}
use Rattle.cbm_file.specs.Files.{Disk}
use Rattle.cbm_volume.specs.Holding.{HoldsDisk}
use Rattle.cbm_bam.specs.Map.{geometry_of}
use Rattle.cbm_volume.specs.check.WholeDisk.{DiskFault}
use Rattle.cbm_channel.specs.declared.Status.{Status}
use Rattle.cbm_channel.specs.Commanded.{open_formats}
use Rattle.cbm_machine.specs.Codes.{code_number}
use Rattle.cbm_machine.specs.Machines.{Machine, start}
use Rattle.cbm_machine.specs.Closing.{close}
use Rattle.cbm_machine.specs.Calls.{after_open}
use Rattle.cbm_talk.specs.Talks.{hear_bytes}
use Rattle.cbm_shell.specs.declared.changing.DiskChange.{DiskChange}
use Rattle.cbm_shell.specs.declared.changing.DiskChange.TheVariants.{Command, File}
use Rattle.cbm_shell.specs.declared.fault.ShellFault.{ShellFault}
use Rattle.cbm_shell.specs.declared.fault.ShellFault.TheVariants as fault

-- the machine after the OPEN that a change begins with
abbrev pub begun : DiskChange → Machine → Machine
begun (Command text) m = after_open 15 text.now m
begun (File text bytes) m = after_open 2 text.now m

-- THE MACHINE AFTER A CHANGE: a command is done by its OPEN; a file is opened, given its bytes, and closed.
abbrev pub disk_after_change : DiskChange → Machine → Machine
disk_after_change (Command text) m = begun (Command text) m
disk_after_change (File text bytes) m = close 2 (hear_bytes 2 bytes.now (begun (File text bytes) m))

-- the change is NEW
abbrev pub change_formats : DiskChange → Bool
change_formats (Command text) = open_formats 15 text.now
change_formats (File text bytes) = false

-- a status below 20 reports no error
abbrev pub IsFine : Status → Type 0
IsFine s = code_number s.code < 20

-- The drive refused a change: this is its status after the OPEN or at the end, and it reports an error.
pub record IsRefusedBy (change : DiskChange) (m : Machine) (s : Status) : Type 0 where
  pub told : (s ≡ (begun change m).status) ⊎ (s ≡ (disk_after_change change m).status)
  pub error : 20 ≤ code_number s.code

-- Why a machine's change wasn't made.
abbrev pub IsUndone : DiskChange → Machine → ShellFault → Type 0
IsUndone change m (fault.Refused s) = IsRefusedBy change m s
IsUndone change m fault.Memory = ⊥
IsUndone change m (fault.Image n) = ⊥
IsUndone change m (fault.Unsound u) = ⊥
IsUndone change m (fault.Trouble t) = ⊥
IsUndone change m fault.NotFound = ⊥
IsUndone change m fault.NotClosed = ⊥
IsUndone change m fault.Mistaken = ⊥

-- the disk isn't sound, and this is its first fault; or the drive refused the change
abbrev pub IsFaultOf : ℕ → Content → ShellFault → Type 0
IsFaultOf tracks content (fault.Unsound u) = DiskFault (geometry_of tracks content) content u
IsFaultOf tracks content (fault.Refused s) = Unit {0}
IsFaultOf tracks content f = ⊥

-- the drive refused it
abbrev pub IsStatusRefusal : ShellFault → Type 0
IsStatusRefusal f = (s : Status) × (f ≡ fault.Refused s)

-- A CHANGE IS MADE ON A MEDIUM, of each disk that it holds: the machine's status is fine, and the medium holds its disk; or the drive
-- refused it
abbrev pub MakesChange : {M : Type 0} → (M → Seen) → M → DiskChange → Result M ShellFault → Type 0
MakesChange seen medium change result = (d : Disk) → HoldsDisk (seen medium).tracks (seen medium).content d → MatchResult result
    (λ after. IsFine (disk_after_change change (start d (seen medium).protected (seen medium).tracks)).status
    × HoldsDisk (seen after).tracks (seen after).content (disk_after_change change (start d (seen medium).protected (seen medium).tracks)).disk)
    (IsUndone change (start d (seen medium).protected (seen medium).tracks))
