-- New images, and changes of one.
use Rattle.std.specs.Prelude.{ℕ, ◌≡◌, ◌≤◌, ◌⊎◌, List}
use Rattle.cbm_channel.specs.declared.Status.{Status}
use Rattle.cbm_machine.specs.Codes.{code_number}
use Rattle.cbm_machine.specs.Machines.{Machine}
use Rattle.cbm_machine.specs.Closing.{close}
use Rattle.cbm_machine.specs.Calls.{after_open}
use Rattle.cbm_talk.specs.Talks.{hear_bytes}
use Rattle.cbm_device.specs.declared.refusal.DeviceRefusal.{DeviceRefusal}
use Rattle.cbm_device.specs.declared.refusal.DeviceRefusal.TheVariants as why
use Rattle.cbm_device.specs.ImageDisks.{IsOpenRefusal}
use Rattle.cbm_device.specs.Looking.{IsLookRefused, IsUnsound}

-- the machine after an OPEN of channel 2, on which a file is put
abbrev pub opened_for : List ℕ → Machine → Machine
opened_for text m = after_open 2 text m

-- the machine after a command on channel 15
abbrev pub after_command : List ℕ → Machine → Machine
after_command text m = after_open 15 text m

-- THE MACHINE AFTER A FILE WAS PUT: it is opened with a text such as `NAME,P,W`, given its bytes, and closed.
abbrev pub after_put : List ℕ → List ℕ → Machine → Machine
after_put text bytes m = close 2 (hear_bytes 2 bytes (opened_for text m))

-- the drive refused it: this is its status after the OPEN or at the end, and it reports an error
pub record IsRefusedWith (opened ended : Machine) (s : Status) : Type 0 where
  pub told : (s ≡ opened.status) ⊎ (s ≡ ended.status)
  pub error : 20 ≤ code_number s.code

-- why a sound disk isn't changed: the image isn't opened, memory runs out, or the drive refused it with this status
abbrev pub IsUnmade : List ℕ → Machine → Machine → DeviceRefusal → Type 0
IsUnmade image opened ended (why.Status code) = (s : Status) × IsRefusedWith opened ended s × (code ≡ code_number s.code)
IsUnmade image opened ended why.Memory = Unit {0}
IsUnmade image opened ended why.NoImage = IsOpenRefusal image why.NoImage
IsUnmade image opened ended why.Invalid = ⊥
IsUnmade image opened ended why.NoRoom = ⊥
IsUnmade image opened ended why.Absent = ⊥
IsUnmade image opened ended why.Unsound = ⊥
IsUnmade image opened ended why.NoDrive = ⊥

-- why any disk isn't changed: it isn't sound, or as any call is refused
abbrev pub IsUnchanged : List ℕ → DeviceRefusal → Type 0
IsUnchanged image why.Unsound = IsUnsound image
IsUnchanged image (why.Status code) = IsLookRefused image (why.Status code)
IsUnchanged image why.Memory = IsLookRefused image why.Memory
IsUnchanged image why.NoImage = IsLookRefused image why.NoImage
IsUnchanged image why.Invalid = IsLookRefused image why.Invalid
IsUnchanged image why.NoRoom = IsLookRefused image why.NoRoom
IsUnchanged image why.Absent = IsLookRefused image why.Absent
IsUnchanged image why.NoDrive = IsLookRefused image why.NoDrive

-- memory ran out
abbrev pub IsWantOfMemory : DeviceRefusal → Type 0
IsWantOfMemory r = r ≡ why.Memory
