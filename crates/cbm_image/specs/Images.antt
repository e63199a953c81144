-- An image of a disk: which format it has, what it is refused for, and the disk that it holds.
use Rattle.std.specs.Prelude.{ℕ, ◌≡◌, List, Bool, false, length, take, codes, nat_eq, not, ◌||◌, ◌&&◌, if◌then◌else◌, Option, Some, None, option_map}
use Rattle.std.specs.Str.{bytes_eq}
use Rattle.cbm_medium.specs.Content.{Content}
use Rattle.cbm_medium.specs.Seen.{Seen, Outside}
use Rattle.cbm_volume.specs.Holding.{HoldsDisk}
use Rattle.cbm_d64.specs.Image as d64
use Rattle.cbm_g64.specs.File as g64
use Rattle.cbm_g64.specs.Numbers.{g64_fault_number}
use Rattle.cbm_g64.specs.Tracks as circles
use Rattle.cbm_file.specs.Files.{Disk}
use Rattle.cbm_image.specs.declared.kind.Kind.{Kind}
use Rattle.cbm_image.specs.declared.kind.Kind.TheVariants.{D64, G64}
use Rattle.cbm_image.specs.declared.fault.ImageFault.{ImageFault}
use Rattle.cbm_image.specs.declared.fault.ImageFault.TheVariants.{Format, Memory}

-- one of the three sizes of a D64
abbrev pub is_d64_size : ℕ → Bool
is_d64_size n = nat_eq n 174848 || nat_eq n 175531 || nat_eq n 196608

-- AN IMAGE IS A G64 if it begins with `GCR-1541` and has no size of a D64, else a D64: so no bytes that a program puts into its sectors
-- make a D64 something else.
abbrev pub kind_of : List ℕ → Kind
kind_of image = if bytes_eq (take 8 image) (codes "GCR-1541") && not (is_d64_size (length image)) then G64 else D64

-- a D64 has 174,848, 175,531 or 196,608 bytes, or is refused with 1
abbrev pub size_fault : ℕ → Option ℕ
size_fault n = if is_d64_size n then None else Some 1

-- the number of what an image is refused for
abbrev pub image_fault : Kind → List ℕ → Option ℕ
image_fault D64 image = size_fault (length image)
image_fault G64 image = option_map g64_fault_number (g64.g64_fault image)

-- how many tracks an image has
abbrev pub tracks_of : Kind → List ℕ → ℕ
tracks_of D64 image = d64.d64_tracks (length image)
tracks_of G64 image = 35

-- what the sectors of an image hold
abbrev pub content_of : Kind → List ℕ → Content
content_of D64 image = d64.d64_content image
content_of G64 image = circles.g64_content (g64.g64_circles image 35)

-- the bytes of an image outside its sectors, as they are and as a format leaves them
abbrev pub outside_of : Kind → List ℕ → Outside
outside_of D64 image = d64.d64_outside image
outside_of G64 image = circles.g64_outside false image

-- AN IMAGE HOLDS A DISK: its content is sound, and means it
abbrev pub ImageHolds : Kind → List ℕ → Disk → Type 0
ImageHolds kind image d = HoldsDisk (tracks_of kind image) (content_of kind image) d

-- a medium shows what an image is, which has no fault: its tracks, the content of its sectors, and its bytes outside them
pub record IsOf (kind : Kind) (image : List ℕ) (seen : Seen) : Type 0 where
  pub faultless : image_fault kind image ≡ None
  pub same_tracks : tracks_of kind image ≡ seen.tracks
  pub same_content : content_of kind image ≡ seen.content
  pub same_outside : outside_of kind image ≡ seen.outside

-- AN IMAGE OPENS AGAIN, in the format of the old one
pub record OpensAgain (old new : List ℕ) : Type 0 where
  pub faultless : image_fault (kind_of old) new ≡ None
  pub same_kind : kind_of new ≡ kind_of old

-- ALL BYTES OUTSIDE THE SECTORS ARE AS THEY WERE: of a G64 those of half tracks, of the tracks beyond 35, of the tables and the gaps; of a D64
-- its size, and what the error bytes of good sectors say
abbrev pub KeepsOtherBytes : List ℕ → List ℕ → Type 0
KeepsOtherBytes old new = outside_of (kind_of old) new ≡ outside_of (kind_of old) old

-- AN IMAGE IS CHANGED IN ITS SECTORS ONLY: it opens again, in the same format, and all bytes outside the sectors are as they were
pub record ChangesSectors (old new : List ℕ) : Type 0 where
  pub again : OpensAgain old new
  pub bytes : KeepsOtherBytes old new

-- why an image isn't taken: its fault, or want of memory
abbrev pub IsImageRefusal : Option ℕ → ImageFault → Type 0
IsImageRefusal why (Format n) = why ≡ Some n
IsImageRefusal why Memory = Unit {0}
