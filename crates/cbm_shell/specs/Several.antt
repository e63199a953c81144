-- Several changes of one disk, one after another.
use Rattle.std.specs.Prelude.{ℕ, ◌≡◌, ◌⊎◌, Bool, false, List, [], ◌∷◌}
use Rattle.std.specs.List.{list_any}
use Rattle.cbm_medium.specs.Seen.{Seen}
use Rattle.cbm_file.specs.Files.{Disk}
use Rattle.cbm_machine.specs.Machines.{start}
use Rattle.cbm_volume.specs.Holding.{HoldsDisk}
use Rattle.cbm_image.specs.declared.kind.Kind.{Kind}
use Rattle.cbm_image.specs.Images.{ImageHolds}
use Rattle.cbm_shell.specs.declared.changing.DiskChange.{DiskChange}
use Rattle.cbm_shell.specs.declared.fault.ShellFault.{ShellFault}
use Rattle.cbm_shell.specs.Changing.{change_formats, disk_after_change, IsFine, IsUndone}

-- one of them is NEW
abbrev pub any_formats : List DiskChange → Bool
any_formats changes = list_any change_formats changes

-- CHANGES MADE ONE AFTER ANOTHER, each by the machine at power up, lead from a disk to another: none reports an error.
unfoldable pub AreMade : List DiskChange → Bool → ℕ → Disk → Disk → Type 0
AreMade [] protected tracks d e = e ≡ d
AreMade (change ∷ rest) protected tracks d e =
    IsFine (disk_after_change change (start d protected tracks)).status × AreMade rest protected tracks (disk_after_change change (start d protected tracks)).disk e

-- why one of them wasn't made, after those before it
unfoldable pub AreUndone : List DiskChange → Bool → ℕ → Disk → ShellFault → Type 0
AreUndone [] protected tracks d fault = ⊥
AreUndone (change ∷ rest) protected tracks d fault =
    IsUndone change (start d protected tracks) fault
    ⊎ (IsFine (disk_after_change change (start d protected tracks)).status × AreUndone rest protected tracks (disk_after_change change (start d protected tracks)).disk fault)

-- a medium that shows this holds the disk to which changes lead
pub record HoldsAfter (changes : List DiskChange) (protected : Bool) (tracks : ℕ) (d : Disk) (seen : Seen) : Type 0 where
  pub disk : Disk
  pub made : AreMade changes protected tracks d disk
  pub holds : HoldsDisk seen.tracks seen.content disk

-- an image holds the disk to which changes lead
pub record ImageAfter (changes : List DiskChange) (kind : Kind) (tracks : ℕ) (d : Disk) (image : List ℕ) : Type 0 where
  pub disk : Disk
  pub made : AreMade changes false tracks d disk
  pub holds : ImageHolds kind image disk
