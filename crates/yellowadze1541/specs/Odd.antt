-- Disks that are sound but for odd entries, as C has them changed.
use Rattle.std.specs.Prelude.{ℕ, ◌≡◌, ◌⊎◌, ◌==◌, Bool, true, false, List, [], ◌∷◌, Result, Ok, Err}
use Rattle.cbm_machine.specs.Machines.{Machine}
use Rattle.cbm_image.specs.Images.{kind_of}
use Rattle.cbm_shell.specs.declared.changing.DiskChange.{DiskChange}
use Rattle.cbm_shell.specs.declared.fault.ShellFault.{ShellFault}
use Rattle.cbm_shell.specs.Changing.{disk_after_change}
use Rattle.cbm_device.specs.declared.refusal.DeviceRefusal.{DeviceRefusal}
use Rattle.cbm_device.specs.declared.refusal.DeviceRefusal.TheVariants.{Unsound}
use Rattle.cbm_odd.specs.declared.away.Away.{Away}
use Rattle.cbm_odd.specs.Away.{IsAwayIn, IsNotAwayIn}
use Rattle.cbm_odd.specs.Back.{IsBackIn, IsNotBackIn}
use Rattle.cbm_odd.specs.Changes.{IsChangedAround, IsNotChangedAround}

-- an answer is that the disk isn't sound
abbrev pub is_unsound : {A : Type 0} → Result A DeviceRefusal → Bool
is_unsound (Ok v) = false
is_unsound (Err Unsound) = true
is_unsound (Err r) = false

-- the text of a command begins as VALIDATE's
abbrev pub is_validate : List ℕ → Bool
is_validate [] = false
is_validate (code ∷ rest) = code == 86

-- WHAT IS LEFT OF AN IMAGE without its odd entries
abbrev pub IsLeftOf : List ℕ → List ℕ → Type 0
IsLeftOf image left = (away : Away) × IsAwayIn image away × (left ≡ away.image.items)

-- THE ODD ENTRIES OF AN IMAGE are put back into what was made of it without them
abbrev pub IsWholeOf : List ℕ → List ℕ → List ℕ → Type 0
IsWholeOf image changed new = (away : Away) × IsAwayIn image away × IsBackIn (kind_of image) image away.odds.items changed new

-- why they aren't: they can't be put away, or not be put back
abbrev pub IsNotWholeOf : List ℕ → List ℕ → ShellFault → Type 0
IsNotWholeOf image changed f = IsNotAwayIn image f ⊎ ((away : Away) × IsAwayIn image away × IsNotBackIn image away.odds.items changed f)

-- A CHANGE AROUND ODD ENTRIES, after which a machine is this one
pub record IsMadeAround (image : List ℕ) (after : Machine → Machine) (new : List ℕ) : Type 0 where
  pub change : DiskChange
  pub same : (m : Machine) → disk_after_change change m ≡ after m
  pub around : IsChangedAround image change new

-- why it isn't made
pub record IsNotMadeAround (image : List ℕ) (after : Machine → Machine) (f : ShellFault) : Type 0 where
  pub change : DiskChange
  pub same : (m : Machine) → disk_after_change change m ≡ after m
  pub fails : IsNotChangedAround image change f
