-- New images of empty disks.
use Rattle.std.specs.Prelude.{ℕ, ◌≡◌, false, List, [], ◌∷◌, ◌++◌, replicate, Some, None, Ok}
use Rattle.cbm_medium.specs.Place.{Place, Has}
use Rattle.cbm_medium.specs.Seen.{Seen, Outside, formatted_outside}
use Rattle.cbm_file.specs.Files.{Disk, blocks_on}
use Rattle.cbm_file.specs.Padding.{padded}
use Rattle.cbm_volume.specs.Holding.{HoldsDisk}
use Rattle.cbm_g64.specs.File.{g64_circles}
use Rattle.cbm_g64.specs.Tracks.{id_for}
use Rattle.cbm_image.specs.declared.kind.Kind.{Kind}
use Rattle.cbm_image.specs.declared.kind.Kind.TheVariants as kind
use Rattle.cbm_image.specs.Images.{kind_of, image_fault, tracks_of, content_of, ImageHolds}
use Rattle.cbm_shell.specs.declared.images.making.Form.{Form}
use Rattle.cbm_shell.specs.declared.images.making.Form.TheVariants as form

-- AN EMPTY DISK of this many tracks, with a title and an id: eight empty slots, and all blocks for files are free
abbrev pub empty_disk : ℕ → List ℕ → List ℕ → Disk
empty_disk tracks title id = record {
  title = padded title;
  mark = id ++ 160 ∷ 50 ∷ 65 ∷ [];
  slots = replicate 8 None;
  room = 17;
  free = blocks_on tracks;
  total = blocks_on tracks;
}

-- the format of a new image
abbrev pub kind_in : Form → Kind
kind_in form.D64 = kind.D64
kind_in form.LongD64 = kind.D64
kind_in form.G64 = kind.G64

-- how many tracks a new image has
abbrev pub tracks_of_form : Form → ℕ
tracks_of_form form.D64 = 35
tracks_of_form form.LongD64 = 40
tracks_of_form form.G64 = 35

-- An image of the form's format without fault, whose sectors are all zeros.
pub record IsBlankImage (form : Form) (image : List ℕ) : Type 0 where
  pub opens : kind_of image ≡ kind_in form
  pub accepted : image_fault (kind_in form) image ≡ None
  pub tracks : tracks_of (kind_in form) image ≡ tracks_of_form form
  pub zeros : (p : Place) → Has (tracks_of_form form) p → content_of (kind_in form) image p ≡ Ok (replicate 256 0)

-- A disk of this many tracks that can be written, whose sectors are all zeros.
pub record IsBlankDisk (tracks : ℕ) (seen : Seen) : Type 0 where
  pub same_tracks : seen.tracks ≡ tracks
  pub zeros : (p : Place) → Has tracks p → seen.content p ≡ Ok (replicate 256 0)
  pub free : seen.protected ≡ false

-- The disk shows the empty disk; the id in its headers, if it keeps one, is the disk's; and outside the sectors it is as a format leaves it.
pub record IsEmpty (tracks : ℕ) (title id : List ℕ) (outside : Outside) (seen : Seen) : Type 0 where
  pub same_tracks : seen.tracks ≡ tracks
  pub holds : HoldsDisk tracks seen.content (empty_disk tracks title id)
  pub same_outside : seen.outside ≡ formatted_outside outside
  pub headers : (x : List ℕ) → seen.id ≡ Some x → x ≡ id

-- THE NEW IMAGE is one of its format, has no fault that it would be refused for, is sound, and holds the empty disk. The headers of a G64 have the disk's id.
pub record IsNew (form : Form) (title id image : List ℕ) : Type 0 where
  pub opens : kind_of image ≡ kind_in form
  pub accepted : image_fault (kind_in form) image ≡ None
  pub holds : ImageHolds (kind_in form) image (empty_disk (tracks_of_form form) title id)
  pub headers : kind_in form ≡ kind.G64 → id_for (g64_circles image 35) ≡ id
