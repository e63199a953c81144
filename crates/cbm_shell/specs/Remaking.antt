-- Why an image isn't made anew.
use Rattle.std.specs.Prelude.{ℕ, List}
use Rattle.cbm_medium.specs.Content.{Content}
use Rattle.cbm_medium.specs.Seen.{Seen}
use Rattle.cbm_bam.specs.Map.{geometry_of}
use Rattle.cbm_volume.specs.check.WholeDisk.{DiskFault}
use Rattle.cbm_volume.specs.declared.Unsound.{Unsound}
use Rattle.cbm_image.specs.Images.{kind_of, tracks_of, content_of}
use Rattle.cbm_shell.specs.declared.fault.ShellFault.{ShellFault}
use Rattle.cbm_shell.specs.declared.fault.ShellFault.TheVariants as fault
use Rattle.cbm_shell.specs.Images.{disk_tracks}

-- a sector can't be read or written
abbrev pub IsTroubled : ShellFault → Type 0
IsTroubled (fault.Trouble t) = Unit {0}
IsTroubled f = ⊥

-- a sector can't be read or written, or memory runs out
abbrev pub IsHalted : ShellFault → Type 0
IsHalted (fault.Trouble t) = Unit {0}
IsHalted fault.Memory = Unit {0}
IsHalted f = ⊥

-- the image of a disk isn't given: the disk isn't sound, and this is its first fault; or memory runs out
abbrev pub IsNotSaved : Seen → ShellFault → Type 0
IsNotSaved seen (fault.Unsound u) = DiskFault (geometry_of seen.tracks seen.content) seen.content u
IsNotSaved seen fault.Memory = Unit {0}
IsNotSaved seen f = ⊥

-- this is the first fault of an image's disk
abbrev pub IsFirstFault : List ℕ → Unsound → Type 0
IsFirstFault image u = DiskFault (disk_tracks image) (content_of (kind_of image) image) u

-- this is the first fault of a disk that a change makes of an image's
abbrev pub MakesFault : List ℕ → (Content → Type 0) → Unsound → Type 0
MakesFault image Makes u = (new : Content) × Makes new × DiskFault (geometry_of (tracks_of (kind_of image) image) new) new u

-- a change is stopped by such an unsound disk, or by a sector that can't be read or written
abbrev pub IsHaltedBy : (Unsound → Type 0) → ShellFault → Type 0
IsHaltedBy Fault (fault.Unsound u) = Fault u
IsHaltedBy Fault (fault.Trouble t) = Unit {0}
IsHaltedBy Fault f = ⊥
