-- What a disk of either format shows: what its own format says.
use Rattle.std.specs.Prelude.{ℕ, ◌≡◌, ◌<◌, Bool, List, None, refl}
use Rattle.cbm_medium.specs.Place.{Place}
use Rattle.cbm_medium.specs.Content.{HasFaultCode, header_fault}
use Rattle.cbm_medium.specs.Seen.{Seen}
use Rattle.cbm_d64.specs.Faults as d64_faults
use Rattle.cbm_d64.specs.Image as d64
use Rattle.cbm_d64.specs.Outer as d64_outer
use Rattle.cbm_g64.specs.Faults as g64_faults
use Rattle.cbm_g64.specs.Outer as g64_outer
use Rattle.cbm_g64.specs.Tracks as g64
use Rattle.cbm_image.specs.Images.{IsOf}
use Rattle.cbm_image.specs.declared.kind.Kind.{Kind}
use Rattle.cbm_image.specs.declared.kind.Kind.TheVariants as kind
use Rattle.cbm_image.specs.declared.any_disk.AnyDisk.{AnyDisk}
use Rattle.cbm_image.specs.declared.any_disk.AnyDisk.TheVariants.{D64, G64}

-- what a disk shows, by its format
abbrev pub any_seen : AnyDisk → Seen
any_seen (D64 d) = d64.d64_seen d
any_seen (G64 d) = g64.g64_seen d

-- its format
abbrev pub any_kind : AnyDisk → Kind
any_kind (D64 d) = kind.D64
any_kind (G64 d) = kind.G64

-- THE DISK OF AN IMAGE of this format, which has no fault: it has the format, and shows what the image is
pub record IsDiskOfImage (kind : Kind) (image : List ℕ) (protected : Bool) (d : AnyDisk) : Type 0 where
  pub same_format : any_kind d ≡ kind
  pub shown : IsOf kind image (any_seen d)
  pub same_protection : (any_seen d).protected ≡ protected

-- a sector that doesn't read has the code of a fault, in either format
pub any_has_codes : (m : AnyDisk) (p : Place) → HasFaultCode ((any_seen m).content p)
any_has_codes (D64 d) p = d64_faults.d64_has_codes d.bytes p
any_has_codes (G64 d) p = g64_faults.g64_has_codes d.tracks p

-- on a disk of forty tracks the headers beyond track 35 have no fault
pub outer_good : (m : AnyDisk) (p : Place) → (any_seen m).tracks ≡ 40 → 35 < p.track → header_fault ((any_seen m).content p) ≡ None
outer_good (D64 d) p = d64_outer.d64_outer_good d.bytes p
outer_good (G64 d) p = g64_outer.no_outer 35 refl (g64.g64_content d.tracks) p

-- a disk in memory never fails by itself
pub is_steady : (m : AnyDisk) → (any_seen m).failures ≡ 0
is_steady (D64 d) = refl
is_steady (G64 d) = refl
