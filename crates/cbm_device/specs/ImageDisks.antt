-- The disk of an image, with a count of its writes.
use Rattle.std.specs.Prelude.{ℕ, ◌<◌, ◌≡◌, Bool, true, List, None, Some, refl}
use Rattle.cbm_medium.specs.Place.{Place}
use Rattle.cbm_medium.specs.Content.{HasFaultCode, blank, header_fault}
use Rattle.cbm_medium.specs.Seen.{Seen, nothing_outside}
use Rattle.cbm_g64.specs.Outer.{no_outer}
use Rattle.cbm_image.specs.AnyDisks.{any_kind, any_seen, any_has_codes, outer_good, is_steady}
use Rattle.cbm_image.specs.Images.{kind_of, image_fault, tracks_of, content_of, outside_of, IsOf}
use Rattle.cbm_image.specs.declared.kind.Kind.{Kind}
use Rattle.cbm_image.specs.declared.kind.Kind.TheVariants as kind
use Rattle.cbm_device.specs.declared.image_disk.Sectors.{Sectors}
use Rattle.cbm_device.specs.declared.image_disk.Sectors.TheVariants.{Held, Blank}
use Rattle.cbm_device.specs.declared.refusal.DeviceRefusal.{DeviceRefusal}
use Rattle.cbm_device.specs.declared.refusal.DeviceRefusal.TheVariants.{Memory, Invalid, NoRoom, Absent, NoImage, Unsound, NoDrive, Status}

-- what sectors show
abbrev pub sectors_seen : Sectors → Seen
sectors_seen (Held disk) = any_seen disk
sectors_seen Blank = record { content = blank; tracks = 35; protected = true; failures = 0; refused = None; id = None; outside = nothing_outside }

-- their format; of a blank it doesn't count
abbrev pub format_of : Sectors → Kind
format_of (Held disk) = any_kind disk
format_of Blank = kind.D64

-- a disk, and how often it was written
pub record Counted : Type 0 where
  pub sectors : Sectors
  pub writes : ℕ

-- what a disk shows
abbrev pub counted_seen : Counted → Seen
counted_seen d = sectors_seen d.sectors

-- no disk
abbrev pub no_disk : Counted
no_disk = record { sectors = Blank; writes = 0 }

-- THE DISK OF AN IMAGE that has no fault: it shows what the image is, and was never written.
pub record IsDiskOf (image : List ℕ) (protected : Bool) (d : Counted) : Type 0 where
  pub accepted : image_fault (kind_of image) image ≡ None
  pub same_format : format_of d.sectors ≡ kind_of image
  pub same_tracks : (counted_seen d).tracks ≡ tracks_of (kind_of image) image
  pub same_content : (counted_seen d).content ≡ content_of (kind_of image) image
  pub same_outside : (counted_seen d).outside ≡ outside_of (kind_of image) image
  pub same_protection : (counted_seen d).protected ≡ protected
  pub unwritten : d.writes ≡ 0

-- why an image isn't opened: it has a fault, or memory runs out
abbrev pub IsOpenRefusal : List ℕ → DeviceRefusal → Type 0
IsOpenRefusal image Memory = Unit {0}
IsOpenRefusal image NoImage = (n : ℕ) × (image_fault (kind_of image) image ≡ Some n)
IsOpenRefusal image Invalid = ⊥
IsOpenRefusal image NoRoom = ⊥
IsOpenRefusal image Absent = ⊥
IsOpenRefusal image Unsound = ⊥
IsOpenRefusal image NoDrive = ⊥
IsOpenRefusal image (Status code) = ⊥

-- THE IMAGE OF A DISK as it is now, in this format
abbrev pub IsImageIn : Kind → Counted → List ℕ → Type 0
IsImageIn kind d image = IsOf kind image (counted_seen d)

-- ---- the laws of a medium

codes_on : (s : Sectors) (p : Place) → HasFaultCode ((sectors_seen s).content p)
codes_on (Held disk) p = any_has_codes disk p
codes_on Blank p = tt

-- in place of a sector's bytes stands the code of a fault that reading meets
pub counted_has_codes : (d : Counted) (p : Place) → HasFaultCode ((counted_seen d).content p)
counted_has_codes d p = codes_on d.sectors p

outer_on : (s : Sectors) (p : Place) → (sectors_seen s).tracks ≡ 40 → 35 < p.track → header_fault ((sectors_seen s).content p) ≡ None
outer_on (Held disk) p = outer_good disk p
outer_on Blank p = no_outer 35 refl blank p

-- no sector of the outer tracks has a fault of its header
pub outer_free : (d : Counted) (p : Place) → (counted_seen d).tracks ≡ 40 → 35 < p.track → header_fault ((counted_seen d).content p) ≡ None
outer_free d p = outer_on d.sectors p

steady_on : (s : Sectors) → (sectors_seen s).failures ≡ 0
steady_on (Held disk) = is_steady disk
steady_on Blank = refl

-- it never fails by itself
pub never_fails : (d : Counted) → (counted_seen d).failures ≡ 0
never_fails d = steady_on d.sectors
