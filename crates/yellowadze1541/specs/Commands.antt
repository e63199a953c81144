-- A command with what the drive says after it, as C is told of it.
use Rattle.std.specs.Prelude.{ℕ, ◌≡◌, ◌≤◌, ◌-◌, List, ◌++◌, length, take, drop, replicate}
use Rattle.cbm_channel.specs.declared.Status.{Status}
use Rattle.cbm_machine.specs.Codes.{code_number}
use Rattle.cbm_machine.specs.Statuses.{status_line}
use Rattle.cbm_machine.specs.Machines.{Machine}
use Rattle.cbm_device.specs.declared.refusal.DeviceRefusal.{DeviceRefusal}
use Rattle.cbm_device.specs.declared.refusal.DeviceRefusal.TheVariants as why
use Rattle.cbm_device.specs.ImageDisks.{IsOpenRefusal}
use Rattle.yellowadze1541.specs.declared.shapes.Said.{Said}

-- the line of a status without the return at its end
abbrev pub line_said : Status → List ℕ
line_said s = take (length (status_line s) - 1) (status_line s)

-- WHAT CHANNEL 15 SAYS of a status: its three numbers, and its line with zeros after it
pub record IsSaidOf (s : Status) (t : Said) : Type 0 where
  pub number : t.number ≡ code_number s.code
  pub first : t.first ≡ s.first
  pub second : t.second ≡ s.second
  pub line : t.line ≡ line_said s ++ drop (length (line_said s)) (replicate 33 0)

-- the drive refuses the command: its status is an error, and that is told
abbrev pub IsCommandRefusal : Machine → Said → DeviceRefusal → Type 0
IsCommandRefusal after new r = (r ≡ why.Status (code_number after.status.code)) × (20 ≤ code_number after.status.code) × IsSaidOf after.status new

-- WHY A COMMAND ISN'T CARRIED OUT on a sound disk: the drive refuses it, and what it says then is told; the image isn't opened, or memory runs out
abbrev pub IsUncommanded : List ℕ → Machine → Said → Said → DeviceRefusal → Type 0
IsUncommanded image after old new (why.Status code) = (code ≡ code_number after.status.code) × (20 ≤ code) × IsSaidOf after.status new
IsUncommanded image after old new why.Memory = Unit {0}
IsUncommanded image after old new why.NoImage = IsOpenRefusal image why.NoImage × (new ≡ old)
IsUncommanded image after old new why.Invalid = ⊥
IsUncommanded image after old new why.NoRoom = ⊥
IsUncommanded image after old new why.Absent = ⊥
IsUncommanded image after old new why.Unsound = ⊥
IsUncommanded image after old new why.NoDrive = ⊥
