-- The sectors of a disk.
use Rattle.std.specs.Prelude.{ℕ, ◌+◌, ◌<◌, ◌≤◌, Bool, ◌==◌, ◌&&◌, nat_lt, if◌then◌else◌}

-- the two numbers of a sector
pub record Place : Type 0 where
  pub track : ℕ
  pub sector : ℕ

-- How many sectors a track has: four zones, the inner ones with fewer; 0 where no disk has such a track.
abbrev pub sectors_on : ℕ → ℕ
sectors_on t =
    if nat_lt t 1 then 0
    else if nat_lt t 18 then 21
    else if nat_lt t 25 then 19
    else if nat_lt t 31 then 18
    else if nat_lt t 41 then 17
    else 0

-- some disk has such a sector
abbrev pub IsOnDisk : Place → Type 0
IsOnDisk p = p.sector < sectors_on p.track

-- a disk of this many tracks has such a sector
abbrev pub Has : ℕ → Place → Type 0
Has tracks p = (0 < p.track) × (p.track ≤ tracks) × (p.sector < sectors_on p.track)

-- the same as a test
abbrev pub has : ℕ → Place → Bool
has tracks p = nat_lt p.sector (sectors_on p.track) && nat_lt p.track (tracks + 1)

-- the same sector
abbrev pub is_place : Place → Place → Bool
is_place p q = (p.track == q.track) && (p.sector == q.sector)

-- how many sectors a disk of 35 or 40 tracks has
abbrev pub sector_count : ℕ → ℕ
sector_count tracks = if nat_lt tracks 40 then 683 else 768

-- the sector of the map, 18/0
abbrev pub directory_head : Place
directory_head = record { track = 18; sector = 0 }
