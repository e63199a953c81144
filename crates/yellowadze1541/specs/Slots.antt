-- What C is told of the files in slots, and why a change of an image's disk isn't made.
use Rattle.std.specs.Prelude.{ℕ, ◌≡◌, ◌⊎◌, List, Some, None}
use Rattle.cbm_medium.specs.Place.{sector_count}
use Rattle.cbm_medium.specs.declared.fault.Trouble.{Trouble}
use Rattle.cbm_chain.specs.Reading.{RestOfFile, held_from}
use Rattle.cbm_directory.specs.Entries.{first_block}
use Rattle.cbm_volume.specs.Holding.{EntryStandsAt}
use Rattle.cbm_image.specs.Images.{kind_of, tracks_of}
use Rattle.cbm_shell.specs.declared.fault.ShellFault.{ShellFault}
use Rattle.cbm_device.specs.declared.refusal.DeviceRefusal.{DeviceRefusal}
use Rattle.cbm_device.specs.declared.refusal.DeviceRefusal.TheVariants as why
use Rattle.cbm_device.specs.Answers.{refusal_of}
use Rattle.cbm_device.specs.Looking.{IsNoDeviceEntry}
use Rattle.yellowadze1541.specs.Looks.{image_held, used_by}

-- what the chain of an entry holds on the disk of an image
abbrev pub chain_held : List ℕ → List ℕ → RestOfFile
chain_held image entry = held_from (used_by image) (image_held image) (sector_count (used_by image)) (first_block entry)

-- THE FILE OF A SLOT IS READ, on any disk: an entry stands there, and its chain holds these bytes to its end
pub record IsReadIn (image : List ℕ) (slot : ℕ) (bytes : List ℕ) : Type 0 where
  pub entry : List ℕ
  pub stands : EntryStandsAt (tracks_of (kind_of image) image) (image_held image) slot entry
  pub whole : chain_held image entry ≡ record { bytes = bytes; trouble = None }

-- an entry stands in the slot, and this trouble breaks its chain off
pub record IsBrokenIn (image : List ℕ) (slot : ℕ) (t : Trouble) : Type 0 where
  pub entry : List ℕ
  pub stands : EntryStandsAt (tracks_of (kind_of image) image) (image_held image) slot entry
  pub broken : (chain_held image entry).trouble ≡ Some t

-- WHY NO FILE IS READ, on any disk: no entry stands in the slot, or its chain breaks off; or the image isn't opened, or memory runs out
abbrev pub IsUnreadIn : List ℕ → ℕ → DeviceRefusal → Type 0
IsUnreadIn image slot r = IsNoDeviceEntry image slot r ⊎ ((t : Trouble) × IsBrokenIn image slot t × (r ≡ why.Status t.code))

-- a refusal tells of such a fault
abbrev pub IsSomeFault : (ShellFault → Type 0) → DeviceRefusal → Type 0
IsSomeFault Is r = (fault : ShellFault) × Is fault × (r ≡ refusal_of fault)
