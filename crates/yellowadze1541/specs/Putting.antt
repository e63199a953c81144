-- Files that are put on a disk one after another, as C is told of them.
use Rattle.std.specs.Prelude.{ℕ, ◌≡◌, List, [], ◌∷◌, ◌++◌, length}
use Rattle.cbm_channel.specs.declared.Status.{Status}
use Rattle.cbm_machine.specs.Codes.{code_number}
use Rattle.cbm_machine.specs.Machines.{Machine}
use Rattle.cbm_shell.specs.Changing.{IsFine}
use Rattle.cbm_device.specs.declared.refusal.DeviceRefusal.{DeviceRefusal}
use Rattle.cbm_device.specs.declared.refusal.DeviceRefusal.TheVariants as why
use Rattle.cbm_device.specs.ImageDisks.{IsOpenRefusal}
use Rattle.cbm_device.specs.Making.{after_put, opened_for, IsRefusedWith}
use Rattle.yellowadze1541.specs.declared.shapes.File.{File}

-- the machine after a file was put, as an OPEN with its text writes it
abbrev pub after_file : File → Machine → Machine
after_file f m = after_put f.text.now f.bytes.now m

-- the machine after files were put one after another
abbrev pub after_files : List File → Machine → Machine
after_files [] m = m
after_files (f ∷ fs) m = after_files fs (after_file f m)

-- each of them is put: the machine reports no error after it
abbrev pub ArePut : List File → Machine → Type 0
ArePut [] m = Unit {0}
ArePut (f ∷ fs) m = IsFine (after_file f m).status × ArePut fs (after_file f m)

-- ONE OF THE FILES IS REFUSED: this many were put before it, and the machine has this status after its OPEN or at its end
pub record IsRefusedAt (files : List File) (m : Machine) (count : ℕ) (s : Status) : Type 0 where
  pub before : List File
  pub file : File
  pub rest : List File
  pub whole : files ≡ before ++ file ∷ rest
  pub counted : count ≡ length before
  pub put : ArePut before m
  pub refused : IsRefusedWith (opened_for file.text.now (after_files before m)) (after_file file (after_files before m)) s

-- a refusal is a status of the drive's
abbrev pub IsStatus : DeviceRefusal → Type 0
IsStatus r = (code : ℕ) × (r ≡ why.Status code)

-- a file is refused with a status that the machine has after its OPEN or at its end
abbrev pub IsRefusedFile : Machine → Machine → DeviceRefusal → Type 0
IsRefusedFile opened ended r = (s : Status) × IsRefusedWith opened ended s × (r ≡ why.Status (code_number s.code))

-- one of the files is refused with such a status
abbrev pub IsFileRefusal : List File → Machine → ℕ → DeviceRefusal → Type 0
IsFileRefusal files m count r = (s : Status) × IsRefusedAt files m count s × (r ≡ why.Status (code_number s.code))

-- WHY FILES AREN'T PUT on a sound disk: the image isn't opened, memory runs out, or the drive refuses one of them
abbrev pub IsUnput : List ℕ → List File → Machine → ℕ → DeviceRefusal → Type 0
IsUnput image files m count (why.Status code) = (s : Status) × IsRefusedAt files m count s × (code ≡ code_number s.code)
IsUnput image files m count why.Memory = Unit {0}
IsUnput image files m count why.NoImage = IsOpenRefusal image why.NoImage
IsUnput image files m count why.Invalid = ⊥
IsUnput image files m count why.NoRoom = ⊥
IsUnput image files m count why.Absent = ⊥
IsUnput image files m count why.Unsound = ⊥
IsUnput image files m count why.NoDrive = ⊥
