-- The machine at power up with the disk of an image, and the disk that it leaves.
use Rattle.std.specs.Prelude.{ℕ, ◌≡◌, ◌≤◌, List, Bool, Option, Some}
use Rattle.cbm_medium.specs.Content.{Content}
use Rattle.cbm_medium.specs.Seen.{Seen}
use Rattle.cbm_volume.specs.Holding.{HoldsDisk}
use Rattle.cbm_file.specs.Files.{Disk}
use Rattle.cbm_machine.specs.Machines.{Machine, start}
use Rattle.cbm_image.specs.Images.{kind_of, tracks_of, content_of}
use Rattle.cbm_program.specs.declared.fault.RunFault.{RunFault}
use Rattle.cbm_program.specs.declared.fault.RunFault.TheVariants.{Script, Image, Memory, Reading, Writing}

-- the device numbers that a drive of a script may have
abbrev pub IsDevice : ℕ → Type 0
IsDevice device = (8 ≤ device) × (device ≤ 11)

-- a machine at power up, with a disk that a medium of this many tracks and of this content holds
abbrev pub StartsOn : ℕ → Content → Bool → Machine → Type 0
StartsOn tracks content protected m = (d : Disk) × HoldsDisk tracks content d × (m ≡ start d protected tracks)

-- the same with what a medium shows
abbrev pub StartsFrom : Seen → Machine → Type 0
StartsFrom seen m = StartsOn seen.tracks seen.content seen.protected m

-- a medium that shows this holds the machine's disk
abbrev pub KeptBy : Seen → Machine → Type 0
KeptBy seen m = HoldsDisk seen.tracks seen.content m.disk

-- the same of an image's disk
abbrev pub BeginsOn : List ℕ → Bool → Machine → Type 0
BeginsOn image protected m = StartsOn (tracks_of (kind_of image) image) (content_of (kind_of image) image) protected m

-- why an image isn't taken: its fault, or want of memory
abbrev pub IsRunRefusal : Option ℕ → RunFault → Type 0
IsRunRefusal why (Script line) = ⊥
IsRunRefusal why (Image n) = why ≡ Some n
IsRunRefusal why Memory = Unit {0}
IsRunRefusal why Reading = ⊥
IsRunRefusal why Writing = ⊥
