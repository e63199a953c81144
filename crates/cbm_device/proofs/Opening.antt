-- From the bytes of an image to its disk.
use Rattle.std.proofs.Common.{◌≡◌, ℕ, List, Bool, ap, subst, sym, ◌∙◌}
use Rattle.cbm_medium.specs.Content.{Content}
use Rattle.cbm_file.specs.Files.{Disk}
use Rattle.cbm_machine.specs.Machines.{start}
use Rattle.cbm_volume.specs.Holding.{HoldsDisk}
use Rattle.cbm_image.specs.Images.{kind_of, tracks_of, content_of, ImageHolds}
use Rattle.cbm_device.specs.ImageDisks.{Counted, counted_seen, IsDiskOf}

-- what holds of what the disk shows holds of its image
pub of_disk : (P : ℕ → Content → Type 0) (image : List ℕ) (protected : Bool) (x : Counted) → IsDiskOf image protected x → P (counted_seen x).tracks (counted_seen x).content
    → P (tracks_of (kind_of image) image) (content_of (kind_of image) image)
of_disk P image protected x is h = subst (λ n. P n (content_of (kind_of image) image)) is.same_tracks (subst (λ c. P (counted_seen x).tracks c) is.same_content h)

pub to_disk : (P : ℕ → Content → Type 0) (image : List ℕ) (protected : Bool) (x : Counted) → IsDiskOf image protected x
    → P (tracks_of (kind_of image) image) (content_of (kind_of image) image) → P (counted_seen x).tracks (counted_seen x).content
to_disk P image protected x is h =
    subst (λ n. P n (counted_seen x).content) (sym is.same_tracks) (subst (λ c. P (tracks_of (kind_of image) image) c) (sym is.same_content) h)

-- and the disk of an image holds what the image holds
pub holds_of : (image : List ℕ) (protected : Bool) (x : Counted) (d : Disk) → IsDiskOf image protected x → ImageHolds (kind_of image) image d
    → HoldsDisk (counted_seen x).tracks (counted_seen x).content d
holds_of image protected x d is h =
    subst (λ c. HoldsDisk (counted_seen x).tracks c d) (sym is.same_content) (subst (λ n. HoldsDisk n (content_of (kind_of image) image) d) (sym is.same_tracks) h)

-- the machine at power up with the disk is that with the image
pub same_start : (image : List ℕ) (protected : Bool) (x : Counted) (d : Disk) → IsDiskOf image protected x
    → start d (counted_seen x).protected (counted_seen x).tracks ≡ start d protected (tracks_of (kind_of image) image)
same_start image protected x d is = ap (λ b. start d b (counted_seen x).tracks) is.same_protection ∙ ap (λ n. start d protected n) is.same_tracks
