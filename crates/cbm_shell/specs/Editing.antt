-- Why the entries and the title of a disk aren't changed, where no command of the drive changes them.
use Rattle.std.specs.Prelude.{ℕ, ◌≡◌, ◌≤◌, List, length, false, None, Result, Ok, Err, OnOk}
use Rattle.cbm_medium.specs.Place.{Place}
use Rattle.cbm_medium.specs.Content.{Content}
use Rattle.cbm_medium.specs.Links.{Chain}
use Rattle.cbm_medium.specs.Seen.{Seen}
use Rattle.cbm_directory.specs.Entries.{first_directory}
use Rattle.cbm_bam.specs.Map.{geometry_of}
use Rattle.cbm_volume.specs.Layouts.{Layout, Sound}
use Rattle.cbm_directory.specs.Slots.{Answers, directory_of}
use Rattle.cbm_volume.specs.check.WholeDisk.{DiskFault}
use Rattle.cbm_image.specs.Images.{kind_of, tracks_of, content_of}
use Rattle.cbm_shell.specs.declared.fault.ShellFault.{ShellFault}
use Rattle.cbm_shell.specs.declared.fault.ShellFault.TheVariants as fault
use Rattle.cbm_shell.specs.Images.{OrOpenFault, disk_tracks}

-- the directory ends before this slot
abbrev pub HasNoSlot : ℕ → Content → ℕ → Type 0
HasNoSlot tracks content slot = Answers (directory_of tracks content) slot (Ok None)

-- WHY A DISK ISN'T CHANGED: it isn't sound, and this is its first fault; or a slot that was named isn't there.
abbrev pub IsUnedited : ℕ → Content → Type 0 → ShellFault → Type 0
IsUnedited tracks content absent (fault.Unsound u) = DiskFault (geometry_of tracks content) content u
IsUnedited tracks content absent fault.NotFound = absent
IsUnedited tracks content absent f = ⊥

-- why an image isn't: its own fault or want of memory, or its disk's
abbrev pub IsUneditedIn : List ℕ → Type 0 → ShellFault → Type 0
IsUneditedIn image absent = OrOpenFault image (IsUnedited (tracks_of (kind_of image) image) (content_of (kind_of image) image) absent)

-- the directory of an image's disk ends before this slot
abbrev pub HasNoSlotIn : List ℕ → ℕ → Type 0
HasNoSlotIn image slot = HasNoSlot (disk_tracks image) (content_of (kind_of image) image) slot

-- ---- what private calls say

-- why no entry stands in a slot: the directory ends before it, or breaks off
abbrev pub IsNoEntry : ℕ → Content → ℕ → ShellFault → Type 0
IsNoEntry tracks content slot fault.NotFound = HasNoSlot tracks content slot
IsNoEntry tracks content slot (fault.Trouble t) = Answers (directory_of tracks content) slot (Err t)
IsNoEntry tracks content slot f = ⊥

-- a sound disk on a medium that isn't protected: no call that changes it meets a trouble
pub record CanBeEdited (tracks : ℕ) (seen : Seen) : Type 0 where
  pub layout : Layout
  pub sound : Sound tracks seen.content layout
  pub free : seen.protected ≡ false

-- tracks, protection and the bytes outside the sectors are as they were
pub record IsSameMedium (old new : Seen) : Type 0 where
  pub tracks : new.tracks ≡ old.tracks
  pub protected : new.protected ≡ old.protected
  pub outside : new.outside ≡ old.outside

-- the directory lies in these sectors, and all of them count
pub record IsDirectory (tracks : ℕ) (content : Content) (sectors : List Place) : Type 0 where
  pub chain : Chain tracks content first_directory sectors
  pub short : length sectors ≤ 18

-- where the directory can be followed, it can be followed after the call
abbrev pub KeepsDirectory : {A : Type 0} → Result A ShellFault → ℕ → Content → Content → Type 0
KeepsDirectory result tracks old new = (sectors : List Place) → IsDirectory tracks old sectors → OnOk result (IsDirectory tracks new sectors)
