-- The forms of disk images: how many tracks and sectors a disk has, and how many bytes its image.
use Rattle.std.specs.Prelude.{ℕ, zero, suc, ◌+◌, ◌-◌, ◌*◌, ◌≡◌, ◌<◌, ◌⊎◌, ◌==◌, nat_lt, min, if◌then◌else◌, Option, Some, None}
use Rattle.cbm_medium.specs.Place.{Place, sectors_on}
use Rattle.cbm_sources.specs.declared.form.Form.{Form}
use Rattle.cbm_sources.specs.declared.form.Form.TheVariants.{D64Of35, D64Of40, D64Of42, D71, D81}

-- how many tracks a disk of each form has: a D71 has the second side's as 36 to 70
abbrev pub form_tracks : Form → ℕ
form_tracks D64Of35 = 35
form_tracks D64Of40 = 40
form_tracks D64Of42 = 42
form_tracks D71 = 70
form_tracks D81 = 80

-- how many sectors a disk of each form has
abbrev pub form_sectors : Form → ℕ
form_sectors D64Of35 = 683
form_sectors D64Of40 = 768
form_sectors D64Of42 = 802
form_sectors D71 = 1366
form_sectors D81 = 3200

-- The zone of a track decides how many sectors it has. Tracks 41 and 42 have as many as track 40; the second side of a D71 has the zones of the
-- first; each track of a D81 has 40.
abbrev pub zone : Form → ℕ → ℕ
zone D64Of35 t = sectors_on t
zone D64Of40 t = sectors_on t
zone D64Of42 t = sectors_on (min t 40)
zone D71 t = sectors_on (if nat_lt t 36 then t else t - 35)
zone D81 t = if t == 0 then 0 else 40

-- how many sectors a track has, 0 where the disk has no such track
abbrev pub sectors_on_track : Form → ℕ → ℕ
sectors_on_track form t = if nat_lt (form_tracks form) t then 0 else zone form t

-- how many sectors come before a track: the tracks stand in order
unfoldable pub sectors_ahead : Form → ℕ → ℕ
sectors_ahead form zero = 0
sectors_ahead form (suc t) = sectors_ahead form t + sectors_on_track form t

-- a disk of this form has such a sector
abbrev pub HasSector : Form → Place → Type 0
HasSector form p = p.sector < sectors_on_track form p.track

-- how many sectors come before this one
abbrev pub index_in_image : Form → Place → ℕ
index_in_image form p = sectors_ahead form p.track + p.sector

-- the same, none where the disk has no such sector
abbrev pub place_in_image : Form → Place → Option ℕ
place_in_image form p = if nat_lt p.sector (sectors_on_track form p.track) then Some (index_in_image form p) else None

-- AN IMAGE OF THIS FORM HAS THIS MANY BYTES: 256 for each sector, and maybe an error byte more for each
abbrev pub IsSizeOf : Form → ℕ → Type 0
IsSizeOf form n = (n ≡ 256 * form_sectors form) ⊎ (n ≡ 257 * form_sectors form)
