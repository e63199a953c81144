-- An entry that is taken out of the directory of a disk that isn't sound.
use Rattle.std.specs.Prelude.{ℕ, ◌≡◌, ◌⊎◌, ◌/◌, false, List, Some, Err}
use Rattle.cbm_medium.specs.Place.{Place}
use Rattle.cbm_medium.specs.Content.{Content, refusal}
use Rattle.cbm_medium.specs.Met.{IsMetFrom}
use Rattle.cbm_medium.specs.declared.fault.Trouble.{Trouble}
use Rattle.cbm_directory.specs.Entries.{first_directory, led_to}
use Rattle.cbm_directory.specs.EntryChanges.{ClearsLed}
use Rattle.cbm_volume.specs.check.WholeDisk.{DiskFault}
use Rattle.cbm_volume.specs.declared.Unsound.{Unsound}
use Rattle.cbm_image.specs.Images.{kind_of, content_of}
use Rattle.cbm_shell.specs.declared.fault.ShellFault.{ShellFault}
use Rattle.cbm_shell.specs.declared.fault.ShellFault.TheVariants as fault
use Rattle.cbm_shell.specs.Images.{disk_tracks, OrOpenFault}

-- THE ENTRY in a slot is cleared, by its type byte alone, and nothing else is changed. The disk has a fault.
pub record IsForgotten (tracks : ℕ) (old new : Content) (slot : ℕ) : Type 0 where
  pub fault : Unsound
  pub unsound : DiskFault tracks old fault
  pub cleared : ClearsLed tracks old new slot

-- the directory's links meet this trouble from 18/1 on, or the sector that has the slot can't be read or written
abbrev pub IsOutOfReach : ℕ → Content → ℕ → Trouble → Type 0
IsOutOfReach tracks content slot t =
    IsMetFrom tracks content (λ q. q ≡ first_directory) t
    ⊎ ((p : Place) × (led_to tracks content (slot / 8) first_directory ≡ Some p) × ((content p ≡ Err t.code) ⊎ (refusal false (content p) ≡ Some t.code)))

-- so the entry isn't cleared; or memory runs out
abbrev pub IsUncleared : ℕ → Content → ℕ → ShellFault → Type 0
IsUncleared tracks content slot (fault.Trouble t) = IsOutOfReach tracks content slot t
IsUncleared tracks content slot fault.Memory = Unit {0}
IsUncleared tracks content slot f = ⊥

-- WHY AN ENTRY ISN'T TAKEN OUT: the image's own fault, an entry that can't be reached or written, or want of memory
abbrev pub IsNotForgotten : List ℕ → ℕ → ShellFault → Type 0
IsNotForgotten image slot = OrOpenFault image (IsUncleared (disk_tracks image) (content_of (kind_of image) image) slot)
