-- The next sector in number that is free: what B-A tells of a sector that is taken (Commodore 1541 User's Guide).
use Rattle.std.specs.Prelude.{ℕ, zero, suc, ◌+◌, ◌-◌, Bool, Option, Some, None, if◌then◌else◌}
use Rattle.cbm_medium.specs.Place.{Place, sectors_on}
use Rattle.cbm_bam.specs.Map.{at}

-- the first that passes of so many sectors of a track, from one on
abbrev pub next_on : (Place → Bool) → ℕ → ℕ → ℕ → Option Place
next_on free track sector zero = None
next_on free track sector (suc left) = if free (at track sector) then Some (at track sector) else next_on free track (sector + 1) left

-- it, or else another one
abbrev pub or_other : Option Place → Option Place → Option Place
or_other None other = other
or_other (Some p) other = Some p

-- the first that passes on so many tracks, from one on
abbrev pub next_from : (Place → Bool) → ℕ → ℕ → Option Place
next_from free track zero = None
next_from free track (suc left) = or_other (next_on free track 0 (sectors_on track)) (next_from free (track + 1) left)

-- THE NEXT ONE BEHIND A SECTOR: on its track, or else on those behind it
abbrev pub next_behind : (Place → Bool) → ℕ → Place → Option Place
next_behind free tracks p = or_other (next_on free p.track (p.sector + 1) (sectors_on p.track - p.sector - 1)) (next_from free (p.track + 1) (tracks - p.track))
