-- What a medium shows of its disk, on as many tracks as the map says, whether or not it is sound.
use Rattle.std.specs.Prelude.{ℕ, ◌≡◌, slice_range}
use Rattle.cbm_medium.specs.Place.{Place, sector_count}
use Rattle.cbm_medium.specs.Seen.{Seen}
use Rattle.cbm_bam.specs.Map.{geometry_of, map_of}
use Rattle.cbm_chain.specs.Reading.{RestOfFile, held_from}
use Rattle.cbm_directory.specs.Slots.{Listed, directory_of}
use Rattle.cbm_volume.specs.declared.disk.label.Label.{Label}

-- how many tracks the disk has, as its map says
abbrev pub seen_tracks : Seen → ℕ
seen_tracks now = geometry_of now.tracks now.content

-- the entries of its directory, and what breaks it off
abbrev pub seen_directory : Seen → Listed
seen_directory now = directory_of (seen_tracks now) now.content

-- the bytes of the chain from a place on, and what breaks it off
abbrev pub seen_chain : Seen → Place → RestOfFile
seen_chain now at = held_from (seen_tracks now) now.content (sector_count (seen_tracks now)) at

-- the title and the mark, as they stand in 18/0
abbrev pub IsSeenLabel : Seen → Label → Type 0
IsSeenLabel now l = (l.title ≡ slice_range (map_of now.content) 144 160) × (l.mark ≡ slice_range (map_of now.content) 162 167)
