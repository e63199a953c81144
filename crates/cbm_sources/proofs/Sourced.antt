-- Files of disks by their numbers.
use Rattle.std.proofs.Common.{◌≡◌, ℕ, slice_get, ap}
use Rattle.cbm_directory.specs.Slots.{Listed}
use Rattle.cbm_sources.specs.Sectors.{SourceImage}
use Rattle.cbm_sources.specs.Sources.{disk_listed, disk_told, disk_file}

pub file_is : (image : SourceImage) (n : ℕ) (l : Listed) → disk_listed image ≡ l → disk_file image n ≡ disk_told image l.trouble (slice_get l.entries n)
unfolding disk_file
file_is image n l e = ap (λ (x : Listed). disk_told image x.trouble (slice_get x.entries n)) e
